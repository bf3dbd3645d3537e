use Rattle.std.proofs.Common.{String, Global, BTreeMap, Bor, ap, ◌∙◌}
use Rattle.toml.specs.Data.{as_table}
use Rattle.toml.specs.View.{view, table_view}
use Rattle.toml.specs.declared.value.Value.{Value}
use Rattle.kc_config.specs.Seen.{seen}
use Rattle.kc_config.proofs.ArrayLemmas.{every_more, gathered, refused, as_refused}
use Rattle.kc_config.proofs.keys.Reader.tables.Goals as goal

pub loop-item-preserved : goal.loop-item-preserved
loop-item-preserved c =
    every_more (λ (v : Value). as_table (view v)) (λ (t : Bor (BTreeMap (String Global) Value)). table_view t.now)
    c.in_ok-item-items.item-items.now c.loop-item.item-index c.item-item.result
    c.loop-item.tables.items c.push.new.self.items c.in-Some.table
    c.loop-item-test.true (c.in-Some.ensures ∙ ap (λ (v : Value). as_table (view v)) c.item-item.is)
    c.in_ok-push-in-Some.ensures.items c.loop-item.invariant

pub returns : goal.returns
returns c =
    gathered as_table (seen c.args.self.now) c.args.key.now c.in_ok-item-items.item-items.now c.loop-item.item-index _
    c.in_ok-item-items.ensures c.loop-item-test.false c.loop-item.invariant

pub returns-in-None : goal.returns-in-None
returns-in-None c =
    as_refused _ _ _ c.wrong_kind.ensures
    (refused as_table (seen c.args.self.now) c.args.key.now c.in_ok-item-items.item-items.now c.loop-item.item-index
    c.item-item.result _
    c.in_ok-item-items.ensures c.loop-item-test.true c.item-item.is c.in-None.ensures c.loop-item.invariant)
