use Rattle.std.proofs.Common.{◌≡◌, drop, map}
use Rattle.kc_config.specs.Addresses.{meant}
use Rattle.kc_config.specs.Keys.{every}
use Rattle.kc_config.specs.Seen.{spelled, sum}
use Rattle.kc_config.specs.declared.address.Spelling.{Spelling}
use Rattle.kc_config.proofs.ArrayLemmas.{joined}
use Rattle.kc_config.proofs.cpu.find_each.Given as goal

-- what was found and what the forms left mean is what all forms mean
abbrev pub invariant-loop-form : goal.invariant-loop-form
invariant-loop-form l =
    every (λ (f : Spelling). meant l.image.symbols (spelled f)) l.forms
    ≡ joined (map sum l.sums.items) (every (λ (f : Spelling). meant l.image.symbols (spelled f))
    (drop l.form-index l.forms))
