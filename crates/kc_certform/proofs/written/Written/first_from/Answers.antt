use Rattle.std.proofs.Common.{◌+◌, ◌-◌, ◌/◌, ℕ, ap, sym, ◌∙◌, subst, arith}
use Rattle.std.specs.Ordering.{is_lt}
use Rattle.kc_cert.proofs.HalvingLemmas.{Window, whole, upper, lower}
use Rattle.kc_certform.specs.Numbers.{state_order}
use Rattle.kc_certform.specs.Written.{sorted_states}
use Rattle.kc_certform.proofs.FindLemmas.{order_trans, sorted-long}
use Rattle.kc_certform.proofs.written.Written.first_from.Goals as goal

pub loop-low-init : goal.loop-low-init
loop-low-init c =
    let nodes = c.args.nodes.now in
    let w = c.args.self.now in
    let s = c.args.state.now in
    let states = sorted_states nodes w in
    subst (λ (n : ℕ). Window state_order states s 0 n)
    (sorted-long nodes w c.requires.written s ∙ sym c.count-high.ensures.count)
    (whole state_order order_trans states c.requires.written.rises s)

pub order_at-requires-clause-within : goal.order_at-requires-clause-within
order_at-requires-clause-within c =
    omega (
      arith,
      c.loop-low-test.true,
      c.loop-low.invariant.within,
      sorted-long c.args.nodes.now c.args.self.now c.requires.written c.args.state.now,
    )

-- the state in the middle is less
pub loop-low-preserved-then-is_lt : goal.loop-low-preserved-then-is_lt
loop-low-preserved-then-is_lt c =
    let low = c.loop-low.low in
    let high = c.loop-low.high in
    upper state_order order_trans (sorted_states c.args.nodes.now c.args.self.now) c.requires.written.rises
    c.args.state.now low high (low + (high - low) / 2) c.loop-low.invariant (omega (arith, c.loop-low-test.true))
    (λ d. sym (ap is_lt (c.order_at.ensures.order d)) ∙ sym c.is_lt.ensures ∙ c.if-is_lt.true)

-- it isn't
pub loop-low-preserved : goal.loop-low-preserved
loop-low-preserved c =
    let low = c.loop-low.low in
    let high = c.loop-low.high in
    lower state_order order_trans (sorted_states c.args.nodes.now c.args.self.now) c.requires.written.rises
    c.args.state.now low high (low + (high - low) / 2) c.loop-low.invariant (omega arith)
    (omega (arith, c.loop-low-test.true))
    (λ d. sym (ap is_lt (c.order_at.ensures.order d)) ∙ sym c.is_lt.ensures ∙ c.if-is_lt.false)
