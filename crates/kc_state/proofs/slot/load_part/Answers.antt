use Rattle.std.proofs.Common.{◌≡◌, ◌+◌, ◌*◌, ◌/◌, ◌≤◌, length, subst, arith}
use Rattle.kc_value.specs.Value.{value_top}
use Rattle.kc_words.specs.Flags.{bits_of}
use Rattle.kc_state.specs.PartSteps.{IsApart}
use Rattle.kc_state.proofs.LoadLemmas.{some_bytes, passed}
use Rattle.kc_state.proofs.slot.load_part.Goals as goal

-- the bytes meet none of its words
pub returns-then-is_apart : goal.returns-then-is_apart
returns-then-is_apart c =
    let d = c.args.words.now.cfg.now in
    let key = c.args.words.now.key.now in
    let part = c.args.part in
    let slots = c.args.slots.now in
    let count : length slots ≡ 296 = c.whole.ensures.count in
    let inside : 8 * part + 8 ≤ length slots = omega (arith, count, c.requires) in
    let apart : IsApart d key c.args.l (bits_of c.args.width / 8) (8 * part) 8 =
    subst (λ n. IsApart d key c.args.l n (8 * part) 8) c.size_of.ensures
    (subst (λ n. IsApart d key c.args.l n (8 * part) 8) c.from.ensures (c.is_apart.ensures c.if-is_apart.true)) in
    passed d key c.args.l (bits_of c.args.width / 8) (some_bytes c.args.width) part value_top slots inside apart
