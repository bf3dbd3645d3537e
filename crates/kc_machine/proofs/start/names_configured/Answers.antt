use Rattle.std.proofs.Common.{◌↔◌, IsTrue, ◌∙◌, subst}
use Rattle.std.specs.List.{Any}
use Rattle.kc_machine.specs.Start.{IsByteOfWord}
use Rattle.kc_machine.proofs.start.names_configured.Goals as goal

-- the words are those of the description, the writes those of the set
pub returns : goal.returns
returns c =
    let words = c.as_slice.ensures.value ∙ c.list_configured-words.ensures in
    let writes = c.as_slice-2.ensures.items in
    subst (λ (X : Type 0). X) (λ i. IsTrue c.names_word.result ↔ Any (λ w. Any (IsByteOfWord w.0) (words i)) (writes i))
    c.names_word.ensures
