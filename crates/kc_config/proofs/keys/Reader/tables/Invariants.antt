use Rattle.std.proofs.Common.{◌≡◌, String, Global, BTreeMap, Bor, drop, map}
use Rattle.toml.specs.declared.value.Value.{Value}
use Rattle.toml.specs.View.{view, table_view}
use Rattle.toml.specs.Data.{as_table}
use Rattle.kc_config.specs.Keys.{every}
use Rattle.kc_config.proofs.ArrayLemmas.{joined}
use Rattle.kc_config.proofs.keys.Reader.tables.Given as goal

-- what was gathered and what the items left give is what all items give
abbrev pub invariant-loop-item : goal.invariant-loop-item
invariant-loop-item l =
    every (λ (v : Value). as_table (view v)) l.item-items
    ≡ joined (map (λ (t : Bor (BTreeMap (String Global) Value)). table_view t.now) l.tables.items)
    (every (λ (v : Value). as_table (view v)) (drop l.item-index l.item-items))
