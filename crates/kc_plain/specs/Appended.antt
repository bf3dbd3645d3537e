-- Lists that grow at their end: this project's own.
use Rattle.std.specs.Prelude.{◌≡◌, List, ◌++◌}

-- the new list is the old one with these after it
abbrev pub Appended : {A : Type 0} → List A → List A → List A → Type 0
Appended old new added = new ≡ old ++ added
