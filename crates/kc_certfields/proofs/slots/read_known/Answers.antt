use Rattle.std.proofs.Common.{◌≡◌, ◌+◌, ◌-◌, ℕ, List, set, sym, subst}
use Rattle.std.proofs.lemmas.Result.{err_from_is_err_and}
use Rattle.kc_value.specs.AbsValue.{AbsValue}
use Rattle.kc_certfields.specs.Reads.{times}
use Rattle.kc_certfields.specs.Slots.{slot_at, next_slot}
use Rattle.kc_certfields.proofs.TimesLemmas.{times_more, times_stops, times_done}
use Rattle.kc_certfields.proofs.LoopLemmas.{made_ok, made_err, slots-done, slots-stop}
use Rattle.kc_certfields.proofs.slots.read_known.Goals as goal

-- a slot more
pub loop-done-preserved : goal.loop-done-preserved
loop-done-preserved c =
    let next = next_slot c.args.limit in
    let known = c.loop-done.known in
    let index = c.in_ok-index.index in
    subst (λ (slots : List AbsValue). times next (c.args.count - (c.loop-done._done + 1)) (index + 1, slots)
    c.read_slot.new.input ≡ times next c.args.count (0, c.args.slots) c.args.input.now) (sym c.set.ensures.value)
    (times_more next c.args.count c.loop-done._done (c.loop-done.least, known)
    (index + 1, set known index c.in_ok-index.value) _ _ _ c.loop-done-test.true
    (made_ok (slot_at c.args.limit c.loop-done.least) (λ (s : ℕ × AbsValue). (s.0 + 1, set known s.0 s.1)) _ _
    (index, c.in_ok-index.value) c.in_ok-index.ensures.read) c.loop-done.invariant)

pub returns-in_err-index : goal.returns-in_err-index
returns-in_err-index c =
    let known = c.loop-done.known in
    let exit = err_from_is_err_and c.from_residual.result c.from_residual.ensures.1 in
    record {
      read = rw (exit.1, exit.2)
          (slots-stop c.args.limit c.args.count c.args.slots _ _
          (times_stops (next_slot c.args.limit) c.args.count c.loop-done._done (c.loop-done.least, known) _ _ _
          c.loop-done-test.true
          (made_err (slot_at c.args.limit c.loop-done.least) (λ (s : ℕ × AbsValue). (s.0 + 1, set known s.0 s.1)) _ _
          c.in_err-index.ensures.read) c.loop-done.invariant));
    }

pub returns : goal.returns
returns c = record {
  read = slots-done c.args.limit c.args.count c.loop-done.least c.args.slots c.loop-done.known c.args.input.now
      c.loop-done.input
      (times_done (next_slot c.args.limit) c.args.count c.loop-done._done _ _ _ c.loop-done-test.false
      c.loop-done.invariant);
}
