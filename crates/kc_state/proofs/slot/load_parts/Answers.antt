use Rattle.std.proofs.Common.{◌≡◌, ℕ, ◌+◌, ◌*◌, ◌/◌, None, drop, sym, ap, ◌∙◌, rules, arith}
use Rattle.kc_words.specs.Flags.{bits_of}
use Rattle.kc_state.specs.Memory.{loaded_from}
use Rattle.kc_state.specs.PartSteps.{IsLoaded}
use Rattle.kc_state.proofs.slot.load_parts.Goals as goal

-- this part has the slot whose word holds the bytes
pub returns-in-Some : goal.returns-in-Some
returns-in-Some c =
    let d = c.args.words.now.cfg.now in
    let key = c.args.words.now.key.now in
    let size = bits_of c.args.width / 8 in
    let here : c.in-Some.v ≡ loaded_from d key c.args.l size (8 * c.loop-part.part)
    (drop (8 * c.loop-part.part) c.args.slots.now) = search rules in
    here ∙ c.loop-part.invariant

pub loop-part-preserved : goal.loop-part-preserved
loop-part-preserved c =
    let d = c.args.words.now.cfg.now in
    let key = c.args.words.now.key.now in
    let size = bits_of c.args.width / 8 in
    let part = c.loop-part.part in
    let slots = c.args.slots.now in
    let next : 8 * (part + 1) ≡ 8 * part + 8 = omega arith in
    let passed : IsLoaded d key c.args.l size (8 * part) (8 * part + 8) slots None = search rules in
    ap (λ (i : ℕ). loaded_from d key c.args.l size i (drop i slots)) next ∙ sym passed ∙ c.loop-part.invariant

-- no word of these parts holds them
pub returns : goal.returns
returns c =
    let d = c.args.words.now.cfg.now in
    let key = c.args.words.now.key.now in
    let size = bits_of c.args.width / 8 in
    let slots = c.args.slots.now in
    let end : 8 * c.loop-part.part ≡ 8 * c.args.to =
    omega (arith, c.loop-part-test.false, c.loop-part.auto.part-end c.requires.0) in
    sym c.loop-part.invariant ∙ ap (λ (i : ℕ). loaded_from d key c.args.l size i (drop i slots)) end
