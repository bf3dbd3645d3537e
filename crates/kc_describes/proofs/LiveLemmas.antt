-- What `clear` says of live bytes. A live byte lies in a stack, whose floor isn't above it. At a number each byte of
-- the access ends at or below that floor; at an offset the byte lies in the zone of the key's stack below the base,
-- which is the floor unless the stack has no live byte.
use Rattle.std.proofs.Common.{◌≡◌, ℕ, zero, suc, ◌+◌, ◌^◌, ◌<◌, ◌≤◌, max, inl, inr, Bool, true, List, Option, Some, None, get_or, ℤ, pos, neg_ℤ, ◌≤ℤ◌, int_le, ap, ◌∙◌, subst, arith}
use Rattle.std.specs.Prelude.{FitsSigned}
use Rattle.std.specs.Int.{w64, cast_unsigned}
use Rattle.std.proofs.lemmas.Int.{ints}
use Rattle.std.proofs.lemmas.Bool.{cases_eq, and_parts, eqb-true, leb-true}
use Rattle.kc_bits.specs.Bits.{word}
use Rattle.kc_frames.specs.Floors.{FloorStands, floor_number, floor_top, none_live}
use Rattle.kc_frames.specs.declared.floor.Floor.{Floor}
use Rattle.kc_frames.specs.declared.floor.Floor.TheVariants.{At, Base}
use Rattle.kc_frames.specs.declared.floors.Floors.{Floors}
use Rattle.kc_regions.specs.Description.{Description}
use Rattle.kc_regions.specs.Layout.{InBytes, InZone}
use Rattle.kc_regions.specs.Region.{stack_of}
use Rattle.kc_regions.specs.Valid.{IsValid}
use Rattle.kc_regions.specs.declared.touch.Touch.TheVariants.{Write}
use Rattle.kc_regions.proofs.LayoutLemmas.{laid}
use Rattle.kc_space.specs.declared.map.MapState.{MapState}
use Rattle.kc_exec.specs.declared.state.Activation.{Activation}
use Rattle.kc_exec.specs.Live.{IsLive}
use Rattle.kc_state.specs.Access.{may, is_floor_from, clear_stack, clear_bytes, is_base_or_none, is_base_clear, clear}
use Rattle.kc_state.specs.declared.key.Key.{Key}
use Rattle.kc_state.specs.declared.location.Location.{Location}
use Rattle.kc_state.specs.declared.location.Location.TheVariants.{Number, Relative}
use Rattle.kc_describes.specs.Fits.{IsBaseOf}
use Rattle.kc_describes.specs.Places.{address_of, FloorsStand}
use Rattle.kc_describes.proofs.LocationLemmas.{in_stack, stack_high, IsRelativeKey, IsPlaced}
use Rattle.kc_describes.proofs.OffsetLemmas.{rising_byte}
use Rattle.kc_describes.proofs.PermissionLemmas.{int_le-true, may_whole, relative_near, near_zone}

-- a live byte lies in a stack
pub live_in : (cfg : Description) (chain : List Activation) (x : ℕ) → IsLive cfg chain x
    → (s : ℕ) × (stack_of cfg.regions x ≡ Some s)
live_in cfg chain x h = (h.4.stack, h.4.within)

-- ---- floors

pub clear_each : (cfg : Description) (key : Key) (floors : Floors) (end a n x : ℕ) → a < 2 ^ 64 → x < 2 ^ 64
    → clear_bytes cfg key floors end a n ≡ true → InBytes x a n
    → clear_stack key floors end (stack_of cfg.regions x) ≡ true
unfolding clear_bytes
clear_each cfg key floors end a zero x fits low h inside = absurd (omega (arith, inside))
clear_each cfg key floors end a (suc n) x fits low h inside =
    let p = and_parts (clear_stack key floors end (stack_of cfg.regions a))
    (clear_bytes cfg key floors end (word (a + 1)) n) h in
    elim (cases_eq x a) [
      | inl e ↦ ap (λ z. clear_stack key floors end (stack_of cfg.regions z)) e ∙ p.0
      | inr e ↦ clear_each cfg key floors end (word (a + 1)) n x (omega arith) low p.1
          (omega (arith, fits, low, inside, e))
    ]

-- an end that isn't above a floor isn't above what the floor bounds
below_base : (cfg : Description) (base : ℕ) (o stack : Option ℕ) (syscall : Bool) (end x : ℕ)
    → IsBaseOf cfg o syscall stack base → is_floor_from end o ≡ true → base ≤ x → end ≤ x
below_base cfg base (Some b) stack syscall end x same h low =
    let under = leb-true end b h in omega (arith, same, under, low)
below_base cfg base None stack syscall end x same h low = absurd cc

below_floor : (cfg : Description) (base : ℕ) (o stack : Option ℕ) (syscall : Bool) (floor : Floor) (end x : ℕ)
    → IsBaseOf cfg o syscall stack base → is_floor_from end (floor_number o floor) ≡ true
    → FloorStands floor base (Some x) → end ≤ x
below_floor cfg base o stack syscall (At m) end x same h stands =
    let under = leb-true end m h in omega (arith, under, stands.1)
below_floor cfg base o stack syscall Base end x same h stands = below_base cfg base o stack syscall end x same h stands

above_base : (floor : Floor) (base x : ℕ) → is_base_or_none floor ≡ true → FloorStands floor base (Some x) → base ≤ x
above_base (At a) base x h stands = absurd (stands.0 (eqb-true a none_live h))
above_base Base base x h stands = stands

stack_floor : (floors : Floors) (o : Option ℕ) (s : ℕ) → o ≡ Some s → is_base_clear floors o ≡ true
    → is_base_or_none (get_or floors.at s floor_top) ≡ true
stack_floor floors o s e h = subst (λ z. is_base_clear floors z ≡ true) e h

module _ (cfg : Description) (valid : IsValid cfg) (key : Key) (floors : Floors) (base : ℕ) (chain : List Activation)
    (based : IsBaseOf cfg key.base key.syscall key.stack base) (stand : FloorsStand cfg floors base chain) where
  -- where a byte is clear up to an end, a live byte of its stack is at or above that end
  cleared : (end y x s : ℕ) → clear_stack key floors end (stack_of cfg.regions y) ≡ true
      → stack_of cfg.regions y ≡ Some s → IsLive cfg chain x → stack_of cfg.regions x ≡ Some s → end ≤ x
  cleared end y x s h at live here =
      let under : is_floor_from end (floor_number key.base (get_or floors.at s floor_top)) ≡ true =
      subst (λ z. clear_stack key floors end z ≡ true) at h in
      below_floor cfg base key.base key.stack key.syscall (get_or floors.at s floor_top) end x based under
      (stand x s live here)

  some_byte : (x a n : ℕ) → InBytes x a n → 0 < n
  some_byte x a n inside = omega (arith, inside)

  number_clear : (map : MapState) (a n x : ℕ) → a < 2 ^ 64 → x < 2 ^ 64 → may cfg key map (Number a) n Write ≡ true
      → clear cfg key floors (Number a) n ≡ true → InBytes x a n → ¬ IsLive cfg chain x
  number_clear map a n x fits low h free inside live =
      let at = live_in cfg chain x live in
      let some = some_byte x a n inside in
      let same : max n 1 ≡ n = omega (arith, some) in
      let each : clear_bytes cfg key floors (a + n) a n ≡ true =
      subst (λ z. clear_bytes cfg key floors (a + n) a z ≡ true) same free in
      let own = clear_each cfg key floors (a + n) a n x fits low each inside in
      let end = cleared (a + n) x x at.0 own at.1 live at.1 in
      let whole = may_whole cfg map a n Write valid fits some h in
      let within = rising_byte x a n low fits (omega (arith, whole)) inside in
      omega (arith, end, within.1)

  relative_clear : (map : MapState) (k : ℤ) (n x : ℕ) → FitsSigned w64 k → IsRelativeKey cfg key base → x < 2 ^ 64
      → may cfg key map (Relative k) n Write ≡ true → clear cfg key floors (Relative k) n ≡ true
      → InBytes x (address_of base (Relative k)) n → ¬ IsLive cfg chain x
  relative_clear map k n x fits K low h free inside live =
      let near = relative_near cfg valid key base K map k n x Write fits h low inside in
      let zone = near_zone cfg valid key base K x near in
      let at = live_in cfg chain x live in
      let there = in_stack cfg at.0 x valid at.1 in
      let own : InZone cfg.regions at.0 x = (there.region, there.numbered, omega (arith, there.held.0), there.held.1) in
      let same : at.0 ≡ K.stack = (laid cfg valid).one_zone at.0 K.stack x own zone in
      let p = and_parts (int_le k (neg_ℤ (pos n))) (is_base_clear floors key.stack) free in
      let floor = stack_floor floors key.stack K.stack K.named p.1 in
      let up = above_base (get_or floors.at K.stack floor_top) base x floor
      (stand x K.stack live (at.1 ∙ ap (λ z. Some z) same)) in
      omega (arith, up, near.high)

  -- no byte that may be written, and is clear, is live
  pub clear_not_live : (map : MapState) (l : Location) (n x : ℕ) → IsPlaced cfg key base l → x < 2 ^ 64
      → may cfg key map l n Write ≡ true → clear cfg key floors l n ≡ true → InBytes x (address_of base l) n
      → ¬ IsLive cfg chain x
  clear_not_live map (Number a) n x placed low h free inside = number_clear map a n x placed low h free inside
  clear_not_live map (Relative k) n x placed low h free inside =
      relative_clear map k n x placed.0 placed.1 low h free inside

  below_the_base : (k : ℤ) → 2 ^ 63 + 4096 ≤ base → base < 2 ^ 64 → FitsSigned w64 k → k ≤ℤ pos 0
      → word (base + cast_unsigned w64 k) ≤ base
  below_the_base k high fits offset low = omega (arith, ints, high, fits, offset, low)

  -- the stack of a location: of an offset the key's
  abbrev pub IsStackOf : Location → ℕ → Type 0
  IsStackOf (Number a) s = stack_of cfg.regions a ≡ Some s
  IsStackOf (Relative k) s = key.stack ≡ Some s

  -- where 0 bytes are clear, no byte of the stack below the location is live
  pub clear_of_none : (l : Location) (s x : ℕ) → IsPlaced cfg key base l → IsStackOf l s
      → clear cfg key floors l 0 ≡ true → IsLive cfg chain x → stack_of cfg.regions x ≡ Some s → address_of base l ≤ x
  clear_of_none (Number a) s x placed at free live here =
      let first : InBytes a a 1 = omega (arith, placed) in
      let end = cleared (a + 0) a x s (clear_each cfg key floors (a + 0) a 1 a placed placed free first) at live here in
      omega (arith, end)
  clear_of_none (Relative k) s x placed at free live here =
      let p = and_parts (int_le k (neg_ℤ (pos 0))) (is_base_clear floors key.stack) free in
      let low = int_le-true k (neg_ℤ (pos 0)) p.0 in
      let floor = stack_floor floors key.stack s at p.1 in
      let up = above_base (get_or floors.at s floor_top) base x floor (stand x s live here) in
      let high = stack_high cfg placed.1.stack base valid placed.1.at in
      let under = below_the_base k high.low (omega (arith, high.high)) placed.0 (omega (arith, ints, low)) in
      omega (arith, up, under)
