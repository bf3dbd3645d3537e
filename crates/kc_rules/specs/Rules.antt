-- Rules that are asked one after the other: the first that is broken is the answer, with its fault. This project's own.
use Rattle.std.specs.Prelude.{◌≡◌, Bool, true, false, List, [], ◌∷◌, ◌⊎◌, Result, Ok, Err}

-- the fault, where the rule is broken
abbrev pub refuse : {E : Type 0} → Bool → E → Result (Unit {0}) E
refuse true fault = Err fault
refuse false fault = Ok tt

-- the second rule is asked where the first one holds, and may depend on what that one gave
infixl 10 ◌>>=◌
abbrev pub ◌>>=◌ : {A B E : Type 0} → Result A E → (A → Result B E) → Result B E
(Ok x) >>= f = f x
(Err e) >>= f = Err e

-- each item in order adds to what was gathered before it, up to the first fault
unfoldable pub over : {A P E : Type 0} → (A → P → Result A E) → A → List P → Result A E
over add gathered [] = Ok gathered
over add gathered (item ∷ items) = do
  more ← add gathered item
  over add more items

-- What a call returned, as view shows it, is what the rules say, unless it ran out of memory.
abbrev pub Gives : {X Y E : Type 0} → E → (X → Y) → Result X E → Result Y E → Type 0
Gives no_memory view (Ok x) due = due ≡ Ok (view x)
Gives no_memory view (Err e) due = (e ≡ no_memory) ⊎ (due ≡ Err e)

-- What a call that takes no memory returned, as view shows it, is exactly what the rules say.
abbrev pub GivesExactly : {X Y E : Type 0} → (X → Y) → Result X E → Result Y E → Type 0
GivesExactly view (Ok x) due = due ≡ Ok (view x)
GivesExactly view (Err e) due = due ≡ Err e
