-- What `may` permits, byte by byte. At a number the walk asks each byte. At an offset the bytes lie in the 4,096 bytes
-- below the base, so in the zone of the key's stack: in the stack, which is present and may be written, or in the guard
-- that ends where the stack begins.
use Rattle.std.proofs.Common.{◌≡◌, ◌≢◌, ℕ, zero, suc, ◌+◌, ◌^◌, ◌<◌, ◌⊎◌, ◌&&◌, ◌||◌, not, nat_eq, inl, inr, Bool, true, false, Option, Some, None, IsSome, ℤ, pos, neg_ℤ, ◌+ℤ◌, ◌≤ℤ◌, int_le, refl, sym, ap, ◌∙◌, subst, arith}
use Rattle.std.specs.Prelude.{FitsSigned}
use Rattle.std.specs.Int.{w64}
use Rattle.std.proofs.lemmas.Int.{ints}
use Rattle.std.proofs.lemmas.Bool.{cases_eq, and_parts, and_from, or_left, or_right, eq-eqb, not-true}
use Rattle.kc_bits.specs.Bits.{word}
use Rattle.kc_regions.specs.Description.{Description}
use Rattle.kc_regions.specs.Layout.{InBytes, InZone}
use Rattle.kc_regions.specs.Permission.{passes, in_guard, is_present, has_right, permits}
use Rattle.kc_regions.specs.Region.{is_guard, region_of, stack_of, stack_at}
use Rattle.kc_regions.specs.Valid.{IsValid}
use Rattle.kc_regions.specs.declared.region.Region.{Region}
use Rattle.kc_regions.specs.declared.touch.Touch.{Touch}
use Rattle.kc_regions.specs.declared.touch.Touch.TheVariants.{Fetch, Read, Write}
use Rattle.kc_regions.proofs.LayoutLemmas.{laid}
use Rattle.kc_space.specs.Spaces.{is_same_map}
use Rattle.kc_space.specs.declared.map.MapState.{MapState}
use Rattle.kc_space.specs.declared.map.MapState.TheVariants.{Kernel as KernelMap, User as UserMap, Any as AnyMap}
use Rattle.kc_state.specs.Access.{is_present_under, may_byte, may_bytes, is_stack_present, may}
use Rattle.kc_state.specs.declared.key.Key.{Key}
use Rattle.kc_state.specs.declared.location.Location.{Location}
use Rattle.kc_state.specs.declared.location.Location.TheVariants.{Number, Relative}
use Rattle.kc_describes.specs.Places.{address_of}
use Rattle.kc_describes.specs.Spaces.{IsCr3Of}
use Rattle.kc_describes.proofs.LocationLemmas.{in_stack, stack_high, IsRelativeKey, IsPlaced}
use Rattle.kc_describes.proofs.OffsetLemmas.{IsNear, near_below}

-- ---- tests

pub int_le-true : (a b : ℤ) → int_le a b ≡ true → a ≤ℤ b
int_le-true a b h = grind (arith, ints)

-- what passes a test is there
pub passed : (test : Region → Bool) (o : Option Region) → passes test o ≡ true
    → (r : Region) × (o ≡ Some r) × (test r ≡ true)
passed test (Some r) h = (r, refl, h)
passed test None h = absurd cc

pub no_guard : (cfg : Description) (x : ℕ) (r : Region) → region_of cfg.regions x ≡ Some r → is_guard r.kind ≡ false
    → in_guard cfg.regions x ≡ false
no_guard cfg x r found h = ap (passes (λ z. is_guard z.kind)) found ∙ h

-- ---- CR3

-- CR3 is one of its two values
abbrev pub IsKnownCr3 : Description → ℕ → Type 0
IsKnownCr3 cfg cr3 = (cr3 ≡ cfg.cpu.kernel_cr3) ⊎ (cr3 ≡ cfg.cpu.user_cr3)

-- where the map is exact
pub known_cr3 : (cfg : Description) (map : MapState) (cr3 : ℕ) → is_same_map map AnyMap ≡ false → IsCr3Of cfg map cr3
    → IsKnownCr3 cfg cr3
known_cr3 cfg KernelMap cr3 exact stands = inl stands
known_cr3 cfg UserMap cr3 exact stands = inr stands
known_cr3 cfg AnyMap cr3 exact stands = absurd cc

module _ (cfg : Description) (map : MapState) (cr3 : ℕ) where
  -- of the kernel's CR3 a region that is no guard, of the user's one that is in its map too
  by_kernel : (r : Region) → is_guard r.kind ≡ false → cr3 ≡ cfg.cpu.kernel_cr3 → is_present cfg.cpu cr3 r ≡ true
  by_kernel r unguarded is =
      and_from (not (is_guard r.kind)) (nat_eq cr3 cfg.cpu.kernel_cr3 || (nat_eq cr3 cfg.cpu.user_cr3 && r.user_map))
      (ap not unguarded)
      (or_left (nat_eq cr3 cfg.cpu.kernel_cr3) (nat_eq cr3 cfg.cpu.user_cr3 && r.user_map)
      (eq-eqb cr3 cfg.cpu.kernel_cr3 is))

  by_user : (r : Region) → is_guard r.kind ≡ false → r.user_map ≡ true → cr3 ≡ cfg.cpu.user_cr3
      → is_present cfg.cpu cr3 r ≡ true
  by_user r unguarded mapped is =
      and_from (not (is_guard r.kind)) (nat_eq cr3 cfg.cpu.kernel_cr3 || (nat_eq cr3 cfg.cpu.user_cr3 && r.user_map))
      (ap not unguarded)
      (or_right (nat_eq cr3 cfg.cpu.kernel_cr3) (nat_eq cr3 cfg.cpu.user_cr3 && r.user_map)
      (and_from (nat_eq cr3 cfg.cpu.user_cr3) r.user_map (eq-eqb cr3 cfg.cpu.user_cr3 is) mapped))

  either_map : (r : Region) → (not (is_guard r.kind) && r.user_map) ≡ true → IsKnownCr3 cfg cr3
      → is_present cfg.cpu cr3 r ≡ true
  either_map r h known =
      let p = and_parts (not (is_guard r.kind)) r.user_map h in
      let unguarded = not-true (is_guard r.kind) p.0 in
      elim known [ inl is ↦ by_kernel r unguarded is | inr is ↦ by_user r unguarded p.1 is ]

present_by : (cfg : Description) (map : MapState) (cr3 : ℕ) (r : Region) → IsCr3Of cfg map cr3 → IsKnownCr3 cfg cr3
    → is_present_under map r ≡ true → (is_present cfg.cpu cr3 r ≡ true) × (is_guard r.kind ≡ false)
present_by cfg KernelMap cr3 r stands known h =
    let unguarded = not-true (is_guard r.kind) h in (by_kernel cfg KernelMap cr3 r unguarded stands, unguarded)
present_by cfg UserMap cr3 r stands known h = (
  either_map cfg UserMap cr3 r h (inr stands),
  not-true (is_guard r.kind) (and_parts (not (is_guard r.kind)) r.user_map h).0,
)
present_by cfg AnyMap cr3 r stands known h =
    (either_map cfg AnyMap cr3 r h known, not-true (is_guard r.kind) (and_parts (not (is_guard r.kind)) r.user_map h).0)

open_by : (map : MapState) (r : Region) → is_present_under map r ≡ true → is_guard r.kind ≡ false
open_by KernelMap r h = not-true (is_guard r.kind) h
open_by UserMap r h = not-true (is_guard r.kind) (and_parts (not (is_guard r.kind)) r.user_map h).0
open_by AnyMap r h = not-true (is_guard r.kind) (and_parts (not (is_guard r.kind)) r.user_map h).0

-- ---- at a number

pub may_each : (cfg : Description) (map : MapState) (touch : Touch) (a n x : ℕ) → a < 2 ^ 64 → x < 2 ^ 64
    → may_bytes cfg map touch a n ≡ true → InBytes x a n → may_byte cfg map touch x ≡ true
unfolding may_bytes
may_each cfg map touch a zero x fits low h inside = absurd (omega (arith, inside))
may_each cfg map touch a (suc n) x fits low h inside =
    let p = and_parts (may_byte cfg map touch a) (may_bytes cfg map touch (word (a + 1)) n) h in
    elim (cases_eq x a) [
      | inl e ↦ ap (may_byte cfg map touch) e ∙ p.0
      | inr e ↦ may_each cfg map touch (word (a + 1)) n x (omega arith) low p.1 (omega (arith, fits, low, inside, e))
    ]

-- a byte that may be accessed lies in a region, and in no guard
pub record IsOpen (cfg : Description) (map : MapState) (touch : Touch) (x : ℕ) : Type 0 where
  pub region : Region
  pub found : region_of cfg.regions x ≡ Some region
  pub present : is_present_under map region ≡ true
  pub right : has_right touch region ≡ true
  pub unguarded : in_guard cfg.regions x ≡ false

pub open_byte : (cfg : Description) (map : MapState) (touch : Touch) (x : ℕ) → may_byte cfg map touch x ≡ true
    → IsOpen cfg map touch x
open_byte cfg map touch x h =
    let p = passed (λ r. is_present_under map r && has_right touch r) (region_of cfg.regions x) h in
    let q = and_parts (is_present_under map p.0) (has_right touch p.0) p.2 in
    record {
      region = p.0;
      found = p.1;
      present = q.0;
      right = q.1;
      unguarded = no_guard cfg x p.0 p.1 (open_by map p.0 q.0);
    }

permits_by : (cfg : Description) (map : MapState) (cr3 : ℕ) (touch : Touch) (x : ℕ) (r : Region) → IsCr3Of cfg map cr3
    → IsKnownCr3 cfg cr3 → region_of cfg.regions x ≡ Some r → is_present_under map r ≡ true → has_right touch r ≡ true
    → permits cfg cr3 touch x ≡ true
permits_by cfg map cr3 touch x r stands known found present right =
    ap (passes (λ z. is_present cfg.cpu cr3 z && has_right touch z)) found
    ∙ and_from (is_present cfg.cpu cr3 r) (has_right touch r) (present_by cfg map cr3 r stands known present).0 right

-- ---- at an offset

stack_right : (touch : Touch) (r : Region) → touch ≢ Fetch → r.write ≡ true → has_right touch r ≡ true
stack_right Fetch r fetches write = absurd (fetches refl)
stack_right Read r fetches write = refl
stack_right Write r fetches write = write

stack_there : (cfg : Description) (map : MapState) (o : Option ℕ) (s : ℕ) → o ≡ Some s
    → is_stack_present cfg o map ≡ true → passes (is_present_under map) (stack_at cfg.regions s) ≡ true
stack_there cfg map o s e h = subst (λ z. is_stack_present cfg z map ≡ true) e h

module _ (cfg : Description) (valid : IsValid cfg) (key : Key) (base : ℕ) (K : IsRelativeKey cfg key base) where
  -- the bytes of an access at an offset lie near the base, and in the zone of the key's stack
  pub relative_near : (map : MapState) (k : ℤ) (n x : ℕ) (touch : Touch) → FitsSigned w64 k
      → may cfg key map (Relative k) n touch ≡ true → x < 2 ^ 64 → InBytes x (address_of base (Relative k)) n
      → IsNear base x
  relative_near map k n x touch fits h low inside =
      let high = stack_high cfg K.stack base valid K.at in
      let p = and_parts (int_le (neg_ℤ (pos 4096)) k && int_le k (neg_ℤ (pos n))) (is_stack_present cfg key.stack map) h
      in
      let q = and_parts (int_le (neg_ℤ (pos 4096)) k) (int_le k (neg_ℤ (pos n))) p.0 in
      let above = int_le-true (neg_ℤ (pos 4096)) k q.0 in
      let below = int_le-true k (neg_ℤ (pos n)) q.1 in
      let ends : (k +ℤ pos n) ≤ℤ pos 0 = omega (arith, ints, below) in
      near_below base x n k high.low (omega (arith, high.high)) low fits above ends inside

  pub near_zone : (x : ℕ) → IsNear base x → InZone cfg.regions K.stack x
  near_zone x near = (laid cfg valid).near K.stack base x K.at near.low (omega (arith, near.high))

  pub relative_zone : (map : MapState) (k : ℤ) (n x : ℕ) (touch : Touch) → FitsSigned w64 k
      → may cfg key map (Relative k) n touch ≡ true → x < 2 ^ 64 → InBytes x (address_of base (Relative k)) n
      → InZone cfg.regions K.stack x
  relative_zone map k n x touch fits h low inside = near_zone x (relative_near map k n x touch fits h low inside)

  stack_permits : (map : MapState) (cr3 : ℕ) (k : ℤ) (n x : ℕ) (touch : Touch) → touch ≢ Fetch → IsCr3Of cfg map cr3
      → IsKnownCr3 cfg cr3 → may cfg key map (Relative k) n touch ≡ true → stack_of cfg.regions x ≡ Some K.stack
      → permits cfg cr3 touch x ≡ true
  stack_permits map cr3 k n x touch fetches stands known h e =
      let p = and_parts (int_le (neg_ℤ (pos 4096)) k && int_le k (neg_ℤ (pos n))) (is_stack_present cfg key.stack map) h
      in
      let there = passed (is_present_under map) (stack_at cfg.regions K.stack)
      (stack_there cfg map key.stack K.stack K.named p.1) in
      let at = in_stack cfg K.stack x valid e in
      let same : there.0 ≡ at.region = cc in
      let present : is_present_under map at.region ≡ true = subst (λ z. is_present_under map z ≡ true) same there.2 in
      permits_by cfg map cr3 touch x at.region stands known at.found present
      (stack_right touch at.region fetches at.is.write)

-- ---- both

-- each byte of an access that may be made lies in a guard, or is permitted under a CR3 that the map says
pub may_permits : (cfg : Description) (key : Key) (base : ℕ) (map : MapState) (cr3 : ℕ) (l : Location) (n x : ℕ)
    (touch : Touch) → IsValid cfg → IsPlaced cfg key base l → touch ≢ Fetch → IsCr3Of cfg map cr3 → IsKnownCr3 cfg cr3
    → may cfg key map l n touch ≡ true → x < 2 ^ 64 → InBytes x (address_of base l) n
    → (in_guard cfg.regions x ≡ true) ⊎ (permits cfg cr3 touch x ≡ true)
may_permits cfg key base map cr3 (Number a) n x touch valid placed fetches stands known h low inside =
    let o = open_byte cfg map touch x (may_each cfg map touch a n x placed low h inside) in
    inr (permits_by cfg map cr3 touch x o.region stands known o.found o.present o.right)
may_permits cfg key base map cr3 (Relative k) n x touch valid placed fetches stands known h low inside =
    let zone = relative_zone cfg valid key base placed.1 map k n x touch placed.0 h low inside in
    elim ((laid cfg valid).zone_byte placed.1.stack x zone) [
      | inl e ↦ inr (stack_permits cfg valid key base placed.1 map cr3 k n x touch fetches stands known h e)
      | inr e ↦ inl e
    ]

-- at a number none lies in a guard
pub may_number : (cfg : Description) (map : MapState) (a n x : ℕ) (touch : Touch) → a < 2 ^ 64 → x < 2 ^ 64
    → may_bytes cfg map touch a n ≡ true → InBytes x a n → in_guard cfg.regions x ≡ false
may_number cfg map a n x touch fits low h inside =
    (open_byte cfg map touch x (may_each cfg map touch a n x fits low h inside)).unguarded

pub some_region : (cfg : Description) (x : ℕ) (r : Region) → region_of cfg.regions x ≡ Some r
    → IsSome (region_of cfg.regions x)
some_region cfg x r e = subst (λ (o : Option Region). IsSome o) (sym e) refl

-- bytes at a number that may be accessed don't wrap
pub may_whole : (cfg : Description) (map : MapState) (a n : ℕ) (touch : Touch) → IsValid cfg → a < 2 ^ 64 → 0 < n
    → may_bytes cfg map touch a n ≡ true → a + n < 2 ^ 64
may_whole cfg map a n touch valid fits some h =
    (laid cfg valid).no_wrap a n fits some
    (λ x low inside.
    let o = open_byte cfg map touch x (may_each cfg map touch a n x fits low h inside) in
    some_region cfg x o.region o.found)
