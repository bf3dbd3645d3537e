-- An ordered map of the segments that have an address, beside the list of all of them, for the contracts of this
-- crate's own functions.
use Rattle.std.specs.Prelude.{◌≡◌, ℕ, ◌<◌, ◌≤◌, List, Contains, Option, Some, None, IsSome}
use Rattle.std.specs.Ordering.{nat_cmp}
use Rattle.std.specs.BTreeMap.{BTreeMap, get}
use Rattle.kc_words.specs.Span.{Holds}
use Rattle.kc_image.specs.declared.segments.Place.{Place}

-- The map has the list's segments that have an address, each at its first one. No address lies in two.
pub record IsByAddress (list : List Place) (map : BTreeMap ℕ Place) : Type 0 where
  pub listed : (k : ℕ) (p : Place) → get nat_cmp map k ≡ Some p → Contains list p × (p.span.from ≡ k) × (k < p.span.to)
  pub found : (p : Place) → Contains list p → p.span.from < p.span.to → get nat_cmp map p.span.from ≡ Some p
  pub apart : (p q : Place) (a : ℕ) → Contains list p → Contains list q → Holds p.span a → Holds q.span a → p ≡ q

-- the entry of the greatest key up to a
abbrev pub IsLastUpTo : BTreeMap ℕ Place → ℕ → Option Place → Type 0
IsLastUpTo map a None = (q : ℕ) → q ≤ a → get nat_cmp map q ≡ None
IsLastUpTo map a (Some p) =
    (k : ℕ) × (k ≤ a) × (get nat_cmp map k ≡ Some p) × ((q : ℕ) → q ≤ a → IsSome (get nat_cmp map q) → q ≤ k)
