-- The order of regions by address, kept beside their list. Machinery of the look-up.
use Rattle.std.specs.Prelude.{ℕ, ◌<◌, ◌≤◌, ◌≡◌, List, length, take, slice_index, slice_index_or, slice_get, Option, Some, None, cond}
use Rattle.kc_words.specs.Span.{Holds}
use Rattle.kc_regions.specs.declared.region.Region.{Region}
use Rattle.kc_regions.specs.Region.{is_stack, stacks_of}
use Rattle.kc_regions.specs.Regions.{AreRegions}

-- the first address of a region, and 0 where there is none
abbrev pub begins : Option Region → ℕ
begins None = 0
begins (Some r) = r.span.from

-- the first address of the region number i
abbrev pub first_of : List Region → ℕ → ℕ
first_of list i = begins (slice_get list i)

-- how many stacks stand before region r, the one after these, where it is a stack
abbrev pub number_of : List Region → Option Region → Option ℕ
number_of earlier None = None
number_of earlier (Some r) = cond (is_stack r.kind) (Some (length (stacks_of earlier))) None

-- the number of the region number i as a stack
abbrev pub number_at : List Region → ℕ → Option ℕ
number_at list i = number_of (take i list) (slice_get list i)

-- the numbers of all regions, rising by first address
pub record IsOrder (list : List Region) (order : List ℕ) : Type 0 where
  pub numbers : (k : ℕ) → k < length order → slice_index order k < length list
  pub rising : (j k : ℕ) → j ≤ k → k < length order
      → first_of list (slice_index order j) ≤ first_of list (slice_index order k)
  pub all : (i : ℕ) → i < length list → (k : ℕ) × (k < length order) × (slice_index order k ≡ i)

-- for each region how many stacks stand before it
pub record AreNumbers (list : List Region) (numbers : List ℕ) : Type 0 where
  pub count : length numbers ≡ length list
  pub counts : (i : ℕ) → i < length list → slice_index numbers i ≡ length (stacks_of (take i list))

-- the numbers from 0 up to n, rising
pub record AreUpTo (n : ℕ) (numbers : List ℕ) : Type 0 where
  pub count : length numbers ≡ n
  pub each : (k : ℕ) → k < n → slice_index numbers k ≡ k

-- what is kept beside the list of regions
pub record AreKept (list : List Region) (order numbers : List ℕ) : Type 0 where
  pub regions : AreRegions list
  pub ordered : IsOrder list order
  pub numbered : AreNumbers list numbers

-- the region number i holds address a
pub record IsHolder (list : List Region) (a i : ℕ) : Type 0 where
  pub inside : i < length list
  pub holds : (d : Region) → Holds (slice_index_or list i d).span a

-- no region holds address a
abbrev pub NoneHolds : List Region → ℕ → Type 0
NoneHolds list a = (i : ℕ) → IsHolder list a i → ⊥

-- in the order, the regions before place n begin at or below address a, and the others above it
pub record IsCut (list : List Region) (order : List ℕ) (a n : ℕ) : Type 0 where
  pub inside : n ≤ length order
  pub below : (k : ℕ) → k < n → first_of list (slice_index order k) ≤ a
  pub above : (k : ℕ) → n ≤ k → k < length order → a < first_of list (slice_index order k)
