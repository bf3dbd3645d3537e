use Rattle.std.proofs.Common.{◌≡◌, ◌+◌, ◌-◌, ◌/◌, ◌<◌, ◌≤◌, true, false, length, ap, sym, ◌∙◌, arith, List}
use Rattle.std.specs.Prelude.{slice_index_or}
use Rattle.std.specs.Ordering.{is_lt}
use Rattle.kc_cert.specs.Table.{Position, position_order}
use Rattle.kc_cert.proofs.HalvingLemmas.{upper, lower, probed}
use Rattle.kc_cert.proofs.PositionLemmas.{position_trans}
use Rattle.kc_cert.proofs.sites.first_from.Goals as goal

-- there are at most 32 more probes
pub order_at-requires-clause-probes : goal.order_at-requires-clause-probes
order_at-requires-clause-probes g c =
    let few = c.loop-low.invariant.halved 32 c.loop-low.invariant.count in omega (arith, few.1, c.requires.probes)

-- the item in the middle is before this one
pub loop-low-preserved-then-is_lt : goal.loop-low-preserved-then-is_lt
loop-low-preserved-then-is_lt g c =
    let low = c.loop-low.low in
    let high = c.loop-low.high in
    let middle = low + (high - low) / 2 in
    let items = g.T.Sites.sites c.args.sites.now in
    let p : Position = (c.args.context, c.args.site.now) in
    let test = c.loop-low-test.true in
    record {
      same = c.order_at.ensures.sites ∙ c.loop-low.invariant.same;
      count = c.loop-low.invariant.count;
      window = upper position_order position_trans items c.requires.rises p low high middle c.loop-low.invariant.window
          (omega (arith, test))
          (λ d. ap (λ (l : List Position). is_lt (position_order (slice_index_or l middle d) p))
          (sym c.loop-low.invariant.same)
          ∙ sym (ap is_lt (c.order_at.ensures.order d)) ∙ sym c.is_lt.ensures ∙ c.if-is_lt.true);
      halved = probed _ _ _ _ (high - low) _ c.loop-low.invariant.halved c.order_at.ensures.probe (omega (arith, test))
          (omega (arith, test));
    }

-- it isn't
pub loop-low-preserved : goal.loop-low-preserved
loop-low-preserved g c =
    let low = c.loop-low.low in
    let high = c.loop-low.high in
    let middle = low + (high - low) / 2 in
    let items = g.T.Sites.sites c.args.sites.now in
    let p : Position = (c.args.context, c.args.site.now) in
    let test = c.loop-low-test.true in
    record {
      same = c.order_at.ensures.sites ∙ c.loop-low.invariant.same;
      count = c.loop-low.invariant.count;
      window = lower position_order position_trans items c.requires.rises p low high middle c.loop-low.invariant.window
          (omega arith) (omega (arith, test))
          (λ d. ap (λ (l : List Position). is_lt (position_order (slice_index_or l middle d) p))
          (sym c.loop-low.invariant.same)
          ∙ sym (ap is_lt (c.order_at.ensures.order d)) ∙ sym c.is_lt.ensures ∙ c.if-is_lt.false);
      halved = probed _ _ _ _ (high - low) _ c.loop-low.invariant.halved c.order_at.ensures.probe (omega (arith, test))
          (omega (arith, test));
    }
