use Rattle.std.proofs.Common.{◌≡◌, ◌<◌, length, arith}
use Rattle.std.proofs.lemmas.List.{get_or_default}
use Rattle.kc_frames.specs.Floors.{none_live}
use Rattle.kc_frames.specs.declared.floor.Floor.{Floor}
use Rattle.kc_frames.specs.declared.floor.Floor.TheVariants.{At}
use Rattle.kc_check.proofs.ListLemmas.{none-from}
use Rattle.kc_check.proofs.form.none_live_from.Goals as goal

pub returns-then-not-is_none_live : goal.returns-then-not-is_none_live
returns-then-not-is_none_live c =
    let fits : c.loop-s.s < length c.args.floors.now = omega (arith, c.told-floors, c.loop-s-test.true) in
    none-from (λ (f : Floor). f ≡ At none_live) c.args.floors.now c.args.stacks c.loop-s.s _
    c.is_none_live.result (omega (arith, c.from-s.ensures, c.loop-s.auto.s)) fits
    (get_or_default c.args.floors.now c.loop-s.s _ _ fits) c.is_none_live.ensures.1 c.if-not-is_none_live.true
