-- Pages of 4,096 bytes, the lists that hold them, and the bytes that such a list stands for.
use Rattle.std.specs.Prelude.{◌≡◌, ◌⊎◌, ℕ, ◌+◌, ◌*◌, ◌/◌, ◌%◌, ◌<◌, ◌≤◌, ◌==◌, cond, List, [], ◌∷◌, length, map, slice_index}
use Rattle.std.specs.List.{All, AllPairs, Contains}
use Rattle.std.specs.FinMap as finite
use Rattle.kc_mem.specs.declared.pages.Page.{Page}
use Rattle.kc_mem.specs.Memory.{Bytes, put}

-- m with the bytes of the list from address a on
abbrev pub put_run : Bytes → ℕ → List ℕ → Bytes
put_run m a [] = m
put_run m a (b ∷ bs) = put (put_run m (a + 1) bs) a b

-- what the pages hold
abbrev pub bytes_of : List Page → Bytes
bytes_of [] = finite.empty
bytes_of (p ∷ ps) = put_run (bytes_of ps) (4096 * p.number) p.bytes.items

-- the byte at address a in the first page that has it
abbrev pub stored : List Page → ℕ → ℕ
stored [] a = 0
stored (p ∷ ps) a = cond (p.number == a / 4096) (slice_index p.bytes.items (a % 4096)) (stored ps a)

abbrev pub numbers_of : List Page → List ℕ
numbers_of ps = map (λ p. p.number) ps

abbrev pub number_at : List Page → ℕ → ℕ
number_at ps i = slice_index (numbers_of ps) i

-- the bytes of a page that holds nothing
pub record AreZeros (bytes : List ℕ) : Type 0 where
  pub size : length bytes ≡ 4096
  pub zeros : (i : ℕ) → slice_index bytes i ≡ 0

-- a page of 4,096 bytes
pub record IsWhole (p : Page) : Type 0 where
  pub size : length p.bytes.items ≡ 4096
  pub bytes : All (λ b. b < 256) p.bytes.items

-- the numbers of the pages rise
abbrev pub AreRising : List Page → Type 0
AreRising ps = (i j : ℕ) → i < j → j < length ps → number_at ps i < number_at ps j

-- pages in order, each of 4,096 bytes
pub record ArePages (ps : List Page) : Type 0 where
  pub rising : AreRising ps
  pub whole : All IsWhole ps

-- the page at index i has this number
pub record IsAt (ps : List Page) (number i : ℕ) : Type 0 where
  pub in_range : i < length ps
  pub is : number_at ps i ≡ number

-- no page has this number, and one of it would stand at index i
pub record IsGapFor (ps : List Page) (number i : ℕ) : Type 0 where
  pub in_range : i ≤ length ps
  pub below : (j : ℕ) → j < i → number_at ps j < number
  pub above : (j : ℕ) → i ≤ j → j < length ps → number < number_at ps j

abbrev pub HasPage : List Page → ℕ → Type 0
HasPage ps number = (i : ℕ) × IsAt ps number i

-- new pages for a list: in order, each of zeros, and of numbers that the list lacks
pub record AreMissing (ps more : List Page) : Type 0 where
  pub rising : AreRising more
  pub zeros : All (λ p. AreZeros p.bytes.items) more
  pub apart : (n : ℕ) → HasPage ps n → ¬ HasPage more n

-- each write has its page in one of the lists
abbrev pub HavePages : List Page → List Page → List (ℕ × ℕ) → Type 0
HavePages ps more writes = All (λ w. HasPage ps (w.0 / 4096) ⊎ HasPage more (w.0 / 4096)) writes
