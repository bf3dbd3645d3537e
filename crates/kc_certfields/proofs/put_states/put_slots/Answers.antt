use Rattle.std.proofs.Common.{◌++◌, List, ℕ, append_assoc, sym, ap, ◌∙◌, arith}
use Rattle.kc_value.specs.Value.{value_top}
use Rattle.kc_certfields.specs.Spelling.{u16_bytes, slot_records}
use Rattle.kc_certfields.proofs.SlotLemmas.{records-more, records-end}
use Rattle.kc_certfields.proofs.put_states.put_slots.Goals as goal

-- one slot more
pub loop-i-preserved : goal.loop-i-preserved
loop-i-preserved c = record {
  text = records-more c.loop-i.out.items c.put_slot.new.out.items c.args.slots.now c.loop-i.i c.get.result.now
      (omega (arith, c.whole.ensures.count)) (c.get.ensures.value value_top) c.put_slot.ensures.text
      ∙ c.loop-i.invariant.text;
  len = omega (arith, c.put_slot.ensures.len, c.loop-i.invariant.len);
}

-- after the last slot no record is left
pub returns-clause-text : goal.returns-clause-text
returns-clause-text c =
    let records = slot_records 0 c.args.slots.now in
    sym (records-end c.loop-i.out.items c.args.slots.now c.loop-i.i (omega (arith, c.whole.ensures.count)))
    ∙ c.loop-i.invariant.text
    ∙ ap (λ (t : List ℕ). t ++ records) c.put_u16.ensures.text
    ∙ append_assoc c.args.out.now.items (u16_bytes c.count_known.result) records
    ∙ ap (λ (n : ℕ). c.args.out.now.items ++ (u16_bytes n ++ records)) c.count_known.ensures.count
