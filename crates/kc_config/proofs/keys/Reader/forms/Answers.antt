use Rattle.std.proofs.Common.{ap, ◌∙◌}
use Rattle.toml.specs.View.{view}
use Rattle.toml.specs.declared.value.Value.{Value}
use Rattle.kc_config.specs.Keys.{form_of}
use Rattle.kc_config.specs.Seen.{seen, spelled}
use Rattle.kc_config.proofs.ArrayLemmas.{every_more, gathered, refused, as_refused}
use Rattle.kc_config.proofs.keys.Reader.forms.Goals as goal

pub loop-item-preserved : goal.loop-item-preserved
loop-item-preserved c =
    every_more (λ (v : Value). form_of (view v)) spelled c.in_ok-item-items.item-items.now c.loop-item.item-index
    c.item-item.result
    c.loop-item.forms.items c.push.new.self.items c.in-Some.form
    c.loop-item-test.true (c.in-Some.ensures ∙ ap (λ (v : Value). form_of (view v)) c.item-item.is)
    c.in_ok-push-in-Some.ensures.items c.loop-item.invariant

pub returns : goal.returns
returns c =
    gathered form_of (seen c.args.self.now) c.args.key.now c.in_ok-item-items.item-items.now c.loop-item.item-index _
    c.in_ok-item-items.ensures c.loop-item-test.false c.loop-item.invariant

pub returns-in-None : goal.returns-in-None
returns-in-None c =
    as_refused _ _ _ c.wrong_kind.ensures
    (refused form_of (seen c.args.self.now) c.args.key.now c.in_ok-item-items.item-items.now c.loop-item.item-index
    c.item-item.result _
    c.in_ok-item-items.ensures c.loop-item-test.true c.item-item.is c.in-None.ensures c.loop-item.invariant)
