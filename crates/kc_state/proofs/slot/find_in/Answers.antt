use Rattle.std.proofs.Common.{◌≡◌, ℕ, ◌+◌, ◌*◌, ◌/◌, ◌<◌, Some, None, length, get_or, drop, sym, ap, ◌∙◌, rules, arith}
use Rattle.kc_value.specs.Value.{value_top}
use Rattle.kc_words.specs.Flags.{bits_of}
use Rattle.kc_state.specs.Memory.{offset_in, part_of, loaded_or, loaded_from}
use Rattle.kc_state.specs.Places.{word_of}
use Rattle.kc_state.proofs.SlotLemmas.{loaded_step}
use Rattle.kc_state.proofs.slot.find_in.Goals as goal

-- the word of this slot holds the bytes
pub returns-in-Some : goal.returns-in-Some
returns-in-Some c =
    let d = c.args.words.now.cfg.now in
    let key = c.args.words.now.key.now in
    let slots = c.args.slots.now in
    let i = c.loop-i.i in
    let size = bits_of c.args.width / 8 in
    let v = get_or slots i value_top in
    let count : length slots ≡ 296 = c.whole.ensures.count in
    let below : i < length slots = omega (arith, count, c.loop-i-test.true, c.requires) in
    let held : offset_in c.args.l size (word_of d key i) ≡ Some c.in-Some.off = search rules in
    let step = loaded_step d key c.args.l size i slots v below (search rules) in
    let read : c.get.result.now ≡ v = c.get.ensures.value value_top in
    let here : c.part_of.result ≡ part_of d size v c.in-Some.off = c.part_of.ensures
    ∙ ap (λ (x : _). part_of d size x c.in-Some.off) read in
    here ∙ sym (ap (loaded_or d size v _) held) ∙ sym step ∙ c.loop-i.invariant

pub loop-i-preserved : goal.loop-i-preserved
loop-i-preserved c =
    let d = c.args.words.now.cfg.now in
    let key = c.args.words.now.key.now in
    let slots = c.args.slots.now in
    let i = c.loop-i.i in
    let size = bits_of c.args.width / 8 in
    let v = get_or slots i value_top in
    let count : length slots ≡ 296 = c.whole.ensures.count in
    let below : i < length slots = omega (arith, count, c.loop-i-test.true, c.requires) in
    let held : offset_in c.args.l size (word_of d key i) ≡ None = search rules in
    let step = loaded_step d key c.args.l size i slots v below (search rules) in
    sym (ap (loaded_or d size v _) held) ∙ sym step ∙ c.loop-i.invariant

-- no word of the part holds them
pub returns : goal.returns
returns c =
    let d = c.args.words.now.cfg.now in
    let key = c.args.words.now.key.now in
    let slots = c.args.slots.now in
    let size = bits_of c.args.width / 8 in
    let end : c.loop-i.i ≡ 8 * c.args.part + 8 = omega (arith, c.loop-i-test.false, c.loop-i.auto.i-end (omega arith)) in
    sym c.loop-i.invariant ∙ ap (λ (i : ℕ). loaded_from d key c.args.l size i (drop i slots)) end
