-- Values that rise by joins, in a round: each as it stood when the round began, and as it will be when the round
-- ends. This project's own.
use Rattle.std.specs.Prelude.{◌≢◌, ℕ, Option, None, Some, Bool, is_some, List, get_or, set, slice_get}

-- what a value will be: what it rose to, where it rose
abbrev pub next_value : {A : Type 0} → A → Option A → A
next_value value None = value
next_value value (Some next) = next

-- the values as they stood, and as they will be, in the order of their numbers; those that came in this round are the
-- last
abbrev pub Values : Type 0 → Type 0
Values A = List A × List A

-- `by` is joined into the value of this number, if there is one
abbrev pub raised_at : {A : Type 0} → (A → A → A) → List A → ℕ → A → List A
raised_at joined values number by = set values number (joined (get_or values number by) by)

-- the value of this number changed in the round, or came in it
abbrev pub HasChanged : {A : Type 0} → Values A → ℕ → Type 0
HasChanged values number = slice_get values.0 number ≢ slice_get values.1 number

-- whether the value of this number rose
abbrev pub has_risen : {A : Type 0} → List (Option A) → ℕ → Bool
has_risen nexts number = is_some (get_or nexts number None)
