use Rattle.std.proofs.Common.{◌≡◌, ℕ, ◌+◌, ◌*◌, ◌/◌, ◌≤◌, None, length, drop, sym, ap, ◌∙◌, rules, arith}
use Rattle.kc_bits.specs.Bits.{bits_cut, nothing_known}
use Rattle.kc_regions.specs.Region.{stack_of}
use Rattle.kc_value.specs.Made.{derived}
use Rattle.kc_words.specs.Flags.{bits_of}
use Rattle.kc_state.specs.Memory.{loaded_from}
use Rattle.kc_state.specs.PartSteps.{IsLoaded}
use Rattle.kc_state.proofs.SlotLemmas.{whole_bytes, loaded_end}
use Rattle.kc_state.proofs.slot.load.Goals as goal

-- this block has the slot whose word holds the bytes
pub returns-in-Some-load_block : goal.returns-in-Some-load_block
returns-in-Some-load_block c =
    let d = c.args.cfg.now in
    let key = c.args.key.now in
    let size = bits_of c.args.width / 8 in
    let from = 64 * c.loop-block.block + 40 in
    let here : c.in-Some-load_block.v ≡ loaded_from d key c.args.l size from (drop from c.args.slots.now) = search rules in
    record { value = here ∙ c.loop-block.invariant }

pub loop-block-preserved : goal.loop-block-preserved
loop-block-preserved c =
    let d = c.args.cfg.now in
    let key = c.args.key.now in
    let size = bits_of c.args.width / 8 in
    let block = c.loop-block.block in
    let slots = c.args.slots.now in
    let next : 64 * (block + 1) + 40 ≡ 64 * block + 104 = omega arith in
    let passed : IsLoaded d key c.args.l size (64 * block + 40) (64 * block + 104) slots None = search rules in
    ap (λ (i : ℕ). loaded_from d key c.args.l size i (drop i slots)) next ∙ sym passed ∙ c.loop-block.invariant

-- no slot's word holds them
pub returns : goal.returns
returns c =
    let slots = c.args.slots.now in
    let from = 64 * c.loop-block.block + 40 in
    let past : length slots ≤ from = omega (arith, c.whole.ensures.count, c.loop-block-test.false) in
    let none = loaded_end c.args.cfg.now c.args.key.now c.args.l (bits_of c.args.width / 8) from slots past in
    let whole = whole_bytes c.args.width in
    let cut : c.cut.result ≡ bits_cut (8 * (bits_of c.args.width / 8)) nothing_known =
    search rules ∙ ap (λ (n : ℕ). bits_cut n nothing_known) (sym whole) in
    record {
      value = c.derived.ensures.value ∙ ap (derived (stack_of c.args.cfg.now.regions)) cut ∙ sym none
          ∙ c.loop-block.invariant;
    }
