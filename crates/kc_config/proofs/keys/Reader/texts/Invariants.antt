use Rattle.std.proofs.Common.{◌≡◌, ℕ, List, Bor, drop, map}
use Rattle.toml.specs.declared.value.Value.{Value}
use Rattle.toml.specs.View.{view}
use Rattle.toml.specs.Data.{as_str}
use Rattle.kc_config.specs.Keys.{every}
use Rattle.kc_config.proofs.ArrayLemmas.{joined}
use Rattle.kc_config.proofs.keys.Reader.texts.Given as goal

-- what was gathered and what the items left give is what all items give
abbrev pub invariant-loop-item : goal.invariant-loop-item
invariant-loop-item l =
    every (λ (v : Value). as_str (view v)) l.item-items
    ≡ joined (map (λ (t : Bor (List ℕ)). t.now) l.texts.items)
    (every (λ (v : Value). as_str (view v)) (drop l.item-index l.item-items))
