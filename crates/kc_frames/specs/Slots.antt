-- Tracked memory words as a list of abstract values, this project's own, and changes of each by its number.
use Rattle.std.specs.Prelude.{◌≡◌, ℕ, suc, List, [], ◌∷◌, length, replicate, All}

abbrev pub slot_count : ℕ
slot_count = 296

-- 296 valid values
abbrev pub AreSlots : {V : Type 0} → (V → Type 0) → List V → Type 0
AreSlots valid slots = All valid slots × (length slots ≡ slot_count)

-- the same value in each slot
unfoldable pub every_slot : {V : Type 0} → V → List V
every_slot v = replicate slot_count v

-- each item changed by f, which sees its number, counted from i, and what it was
abbrev pub redone : {V : Type 0} → (ℕ → V → V) → ℕ → List V → List V
redone f i [] = []
redone f i (v ∷ vs) = f i v ∷ redone f (suc i) vs
