use Rattle.std.proofs.Common.{◌+◌, ◌-◌, ◌<◌, ◌≤◌, length, map, arith}
use Rattle.std.proofs.lemmas.List.{length-map}
use Rattle.kc_cert.proofs.PositionLemmas.{key_trans}
use Rattle.kc_cert.specs.Table.{key_order}
use Rattle.kc_cert.specs.declared.certificate.Context.{Context}
use Rattle.kc_check.proofs.ListLemmas.{rises-by-steps, step-more, step-not}
use Rattle.kc_check.proofs.form.keys_rise.Goals as goal

pub returns-then-not-is_key_before : goal.returns-then-not-is_key_before
returns-then-not-is_key_before c =
    let keys = map (λ (x : Context). x.key) c.args.contexts.now in
    let lt : c.loop-i.i - 1 + 1 < length keys =
    omega (arith, length-map c.args.contexts.now (λ (x : Context). x.key), c.loop-i-test.true, c.loop-i.auto.i) in
    step-not key_order keys (c.loop-i.i - 1) c.is_key_before.result lt c.is_key_before.ensures
    c.if-not-is_key_before.true

pub loop-i-preserved : goal.loop-i-preserved
loop-i-preserved c =
    step-more key_order (map (λ (x : Context). x.key) c.args.contexts.now) c.loop-i.i c.is_key_before.result
    c.loop-i.auto.i c.loop-i.invariant c.is_key_before.ensures c.if-not-is_key_before.false

pub returns : goal.returns
returns c =
    let keys = map (λ (x : Context). x.key) c.args.contexts.now in
    let le : length keys ≤ c.loop-i.i =
    omega (arith, length-map c.args.contexts.now (λ (x : Context). x.key), c.loop-i-test.false) in
    rises-by-steps key_order key_trans keys c.loop-i.i le c.loop-i.invariant
