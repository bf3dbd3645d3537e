use Rattle.std.proofs.Common.{◌≡◌, ◌+◌, ◌-◌, ◌/◌, ◌<◌, length, map, ap, sym, ◌∙◌, arith, List}
use Rattle.std.proofs.lemmas.List.{length-map}
use Rattle.std.specs.Ordering.{is_lt}
use Rattle.kc_cert.specs.Table.{key_order}
use Rattle.kc_cert.specs.declared.certificate.Context.{Context}
use Rattle.kc_cert.proofs.HalvingLemmas.{upper, lower}
use Rattle.kc_cert.proofs.PositionLemmas.{key_trans}
use Rattle.kc_cert.proofs.lookup.first_context.Goals as goal

-- the key in the middle is less than this one
pub loop-low-preserved-then-is_lt : goal.loop-low-preserved-then-is_lt
loop-low-preserved-then-is_lt c =
    let low = c.loop-low.low in
    let high = c.loop-low.high in
    let middle = low + (high - low) / 2 in
    let contexts = c.args.contexts.now in
    let w = c.loop-low.invariant in
    let test = c.loop-low-test.true in
    upper key_order key_trans (map (λ (x : Context). x.key) contexts) c.requires c.args.key.now low high middle w
    (omega (arith, test))
    (λ d. sym (ap is_lt (c.key_order_at.ensures d)) ∙ sym c.is_lt.ensures ∙ c.if-is_lt.true)

-- it isn't
pub loop-low-preserved : goal.loop-low-preserved
loop-low-preserved c =
    let low = c.loop-low.low in
    let high = c.loop-low.high in
    let middle = low + (high - low) / 2 in
    let contexts = c.args.contexts.now in
    let w = c.loop-low.invariant in
    let test = c.loop-low-test.true in
    lower key_order key_trans (map (λ (x : Context). x.key) contexts) c.requires c.args.key.now low high middle w
    (omega arith) (omega (arith, test))
    (λ d. sym (ap is_lt (c.key_order_at.ensures d)) ∙ sym c.is_lt.ensures ∙ c.if-is_lt.false)
