-- Where stacks, guards, areas and words lie in a valid description. This project's own.
use Rattle.std.specs.Prelude.{◌≡◌, ◌≢◌, ℕ, ◌+◌, ◌-◌, ◌%◌, ◌^◌, ◌<◌, ◌≤◌, ◌⊎◌, true, false, List, length, Some, None, IsSome, Contains}
use Rattle.kc_words.specs.Span.{Holds}
use Rattle.kc_regions.specs.declared.region.Kind.TheVariants.{Area, Stack, Guard}
use Rattle.kc_regions.specs.declared.region.Region.{Region}
use Rattle.kc_regions.specs.declared.entry.Word.{Word}
use Rattle.kc_regions.specs.Region.{region_of, stacks_of, stack_of, stack_at}
use Rattle.kc_regions.specs.Description.{Description}
use Rattle.kc_regions.specs.Permission.{in_guard}

-- x is one of the n bytes from address a on, modulo 2^64
abbrev pub InBytes : ℕ → ℕ → ℕ → Type 0
InBytes x a n = (x + (2 ^ 64 - a)) % 2 ^ 64 < n

-- address x lies in the stack of number s or in the 4,096 bytes below it
abbrev pub InZone : List Region → ℕ → ℕ → Type 0
InZone regions s x = (r : Region) × (stack_at regions s ≡ Some r) × (r.span.from ≤ x + 4096) × (x < r.span.to)

-- stacks end below 2^64 - 15, and their guards begin at 2^63 or above
pub record IsStackAt (r : Region) : Type 0 where
  pub kind : r.kind ≡ Stack
  pub begins : 2 ^ 63 + 4096 ≤ r.span.from
  pub ends : r.span.to ≤ 2 ^ 64 - 16
  pub filled : r.span.from < r.span.to
  pub size : r.span.to ≤ r.span.from + 65536
  pub aligned : (r.span.from % 16 ≡ 0) × (r.span.to % 16 ≡ 0)
  pub write : r.write ≡ true

pub record Laid (d : Description) : Type 0 where
  -- stacks by number and by address
  pub stacks : (s : ℕ) (r : Region) → stack_at d.regions s ≡ Some r → IsStackAt r
  pub stack_count : length (stacks_of d.regions) ≤ 16
  pub stack_bytes : (s : ℕ) (r : Region) (x : ℕ) → stack_at d.regions s ≡ Some r → Holds r.span x
      → stack_of d.regions x ≡ Some s
  pub stack_region : (s x : ℕ) → stack_of d.regions x ≡ Some s
      → (r : Region) × (stack_at d.regions s ≡ Some r) × Holds r.span x × (region_of d.regions x ≡ Some r)
  -- an address of a zone lies in its stack or in a guard, zones don't meet, and other regions lie in none
  pub zone_byte : (s x : ℕ) → InZone d.regions s x → (stack_of d.regions x ≡ Some s) ⊎ (in_guard d.regions x ≡ true)
  pub near : (s b x : ℕ) → stack_of d.regions b ≡ Some s → b ≤ x + 4096 → x ≤ b → InZone d.regions s x
  pub one_zone : (s t x : ℕ) → InZone d.regions s x → InZone d.regions t x → s ≡ t
  pub no_zone : (s x : ℕ) (r : Region) → region_of d.regions x ≡ Some r → r.kind ≢ Stack → r.kind ≢ Guard
      → InZone d.regions s x → ⊥
  -- no region holds 2^64 - 1, so bytes that all lie in regions don't wrap; where none of them lies in a guard and one
  -- lies in a zone, the first one lies in its stack
  pub no_last : region_of d.regions (2 ^ 64 - 1) ≡ None
  pub no_wrap : (a n : ℕ) → a < 2 ^ 64 → 0 < n → ((x : ℕ) → x < 2 ^ 64 → InBytes x a n → IsSome (region_of d.regions x))
      → a + n < 2 ^ 64
  pub first_byte : (s a n x : ℕ) → a < 2 ^ 64 → x < 2 ^ 64
      → ((y : ℕ) → y < 2 ^ 64 → InBytes y a n → IsSome (region_of d.regions y) × (in_guard d.regions y ≡ false))
      → InBytes x a n → InZone d.regions s x → stack_of d.regions a ≡ Some s
  -- the TSS and the tracked words lie in areas
  pub tss : (k : ℕ) → k < 104 → (r : Region) × (region_of d.regions (d.cpu.tss + k) ≡ Some r) × (r.kind ≡ Area)
  pub words : (w : Word) (k : ℕ) → Contains d.words w → k < 8 → (r : Region) × (region_of d.regions (w.at + k) ≡ Some r)
      × (r.kind ≡ Area)
