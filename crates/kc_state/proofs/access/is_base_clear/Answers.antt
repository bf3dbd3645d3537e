use Rattle.std.proofs.Common.{sym, ap, ◌∙◌, arith}
use Rattle.std.proofs.lemmas.List.{get_or_past}
use Rattle.kc_frames.specs.Floors.{floor_top}
use Rattle.kc_state.specs.Access.{is_base_or_none, is_base_clear}
use Rattle.kc_state.proofs.access.is_base_clear.Goals as goal

-- there is no floor of stack 16 and above, so the greatest counts
pub returns-in_default : goal.returns-in_default
returns-in_default c =
    let floors = c.args.floors.now in
    let past = get_or_past floors.at c.in-Some.s floor_top
    (omega (arith, c.tell.ensures.valid.count, c.if-s-lt16.false)) in
    sym (ap (is_base_clear floors) c.in-Some.is ∙ ap is_base_or_none past)
