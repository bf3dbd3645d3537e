use Rattle.std.proofs.Common.{◌≡◌, drop, map}
use Rattle.toml.specs.declared.value.Value.{Value}
use Rattle.toml.specs.View.{view}
use Rattle.kc_config.specs.Keys.{every, form_of}
use Rattle.kc_config.specs.Seen.{spelled}
use Rattle.kc_config.proofs.ArrayLemmas.{joined}
use Rattle.kc_config.proofs.keys.Reader.forms.Given as goal

-- what was gathered and what the items left give is what all items give
abbrev pub invariant-loop-item : goal.invariant-loop-item
invariant-loop-item l =
    every (λ (v : Value). form_of (view v)) l.item-items
    ≡ joined (map spelled l.forms.items) (every (λ (v : Value). form_of (view v)) (drop l.item-index l.item-items))
