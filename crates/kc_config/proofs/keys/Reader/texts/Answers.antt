use Rattle.std.proofs.Common.{ℕ, List, Bor, ap, ◌∙◌}
use Rattle.toml.specs.Data.{as_str}
use Rattle.toml.specs.View.{view}
use Rattle.toml.specs.declared.value.Value.{Value}
use Rattle.kc_config.specs.Seen.{seen}
use Rattle.kc_config.proofs.ArrayLemmas.{every_more, gathered, refused, as_refused}
use Rattle.kc_config.proofs.keys.Reader.texts.Goals as goal

pub loop-item-preserved : goal.loop-item-preserved
loop-item-preserved c =
    every_more (λ (v : Value). as_str (view v)) (λ (t : Bor (List ℕ)). t.now) c.in_ok-item-items.item-items.now
    c.loop-item.item-index c.item-item.result
    c.loop-item.texts.items c.push.new.self.items c.in-Some.text
    c.loop-item-test.true (c.in-Some.ensures ∙ ap (λ (v : Value). as_str (view v)) c.item-item.is)
    c.in_ok-push-in-Some.ensures.items c.loop-item.invariant

pub returns : goal.returns
returns c =
    gathered as_str (seen c.args.self.now) c.args.key.now c.in_ok-item-items.item-items.now c.loop-item.item-index _
    c.in_ok-item-items.ensures c.loop-item-test.false c.loop-item.invariant

pub returns-in-None : goal.returns-in-None
returns-in-None c =
    as_refused _ _ _ c.wrong_kind.ensures
    (refused as_str (seen c.args.self.now) c.args.key.now c.in_ok-item-items.item-items.now c.loop-item.item-index
    c.item-item.result _
    c.in_ok-item-items.ensures c.loop-item-test.true c.item-item.is c.in-None.ensures c.loop-item.invariant)
