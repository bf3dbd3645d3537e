-- Which slots an access may change: where a byte of it is a byte of a slot's word, the slot counts as hit. Words at
-- numbers meet bytes at numbers by their addresses, and words at offsets meet bytes at offsets by their distances. A
-- number and an offset meet where zones say: bytes in the zone of the stack of a key without a base, and words below
-- the base or below the top of that stack.
use Rattle.std.proofs.Common.{◌≡◌, ◌≢◌, ℕ, ◌+◌, ◌-◌, ◌*◌, ◌/◌, ◌%◌, ◌^◌, ◌<◌, ◌≤◌, ◌&&◌, ◌||◌, ◌==◌, nat_le, nat_lt, not, inl, inr, Bool, true, false, Option, Some, None, ℤ, pos, neg_ℤ, refl, sym, ap, ◌∙◌, subst, arith}
use Rattle.std.specs.Prelude.{FitsSigned, slice_get}
use Rattle.std.specs.Int.{w64, cast_unsigned}
use Rattle.std.proofs.lemmas.Int.{ints}
use Rattle.std.proofs.lemmas.Bool.{cases_lt, lt-ltb, le-leb, eq-eqb, ne_eqb, and_from, or_left, or_right}
use Rattle.kc_bits.specs.Bits.{word}
use Rattle.kc_frames.specs.Slots.{slot_count}
use Rattle.kc_regions.specs.Description.{Description}
use Rattle.kc_regions.specs.Layout.{InBytes, InZone}
use Rattle.kc_regions.specs.Region.{region_of, stack_of, marked_of}
use Rattle.kc_regions.specs.Valid.{IsValid}
use Rattle.kc_regions.specs.declared.region.Kind.TheVariants.{Area, Stack, Guard}
use Rattle.kc_regions.specs.declared.region.Region.{Region}
use Rattle.kc_regions.specs.declared.touch.Touch.TheVariants.{Write}
use Rattle.kc_regions.proofs.LayoutLemmas.{laid}
use Rattle.kc_rules.proofs.AnswerLemmas.{some_is}
use Rattle.kc_space.specs.declared.map.MapState.{MapState}
use Rattle.kc_exec.specs.declared.state.Activation.{Activation}
use Rattle.kc_state.specs.Access.{may}
use Rattle.kc_state.specs.Memory.{meets, meets_word, is_base_slot, is_same_stack, holds_top, is_marked_slot, hits}
use Rattle.kc_state.specs.Places.{below_address, location_stack, word_of, base_word}
use Rattle.kc_state.specs.Shift.{has_no_base}
use Rattle.kc_state.specs.declared.key.Key.{Key}
use Rattle.kc_state.specs.declared.location.Location.{Location}
use Rattle.kc_state.specs.declared.location.Location.TheVariants.{Number, Relative}
use Rattle.kc_state.proofs.ApartLemmas.{slot_of_base}
use Rattle.kc_describes.specs.Fits.{IsBaseOf, Fits}
use Rattle.kc_describes.specs.Places.{address_of}
use Rattle.kc_describes.proofs.LocationLemmas.{IsRelativeKey, IsPlaced}
use Rattle.kc_describes.proofs.OffsetLemmas.{rising_byte}
use Rattle.kc_describes.proofs.PermissionLemmas.{may_each, open_byte, some_region, relative_zone}
use Rattle.kc_describes.proofs.SlotLemmas.{area_word, base_word_at, base_zone, marked_word_at, marked_zone}

-- ---- a byte in common

common_byte : (a w x n : ℕ) → a < 2 ^ 64 → w < 2 ^ 64 → x < 2 ^ 64 → InBytes x a n → InBytes x w 8
    → 8 ≤ below_address a w → below_address w a < n
common_byte a w x n fits here low inside within far = omega (arith, fits, here, low, inside, within, far)

same_distance : (base j k : ℕ) → j < 2 ^ 64 → k < 2 ^ 64
    → below_address (word (base + j)) (word (base + k)) ≡ below_address j k
same_distance base j k fits low = omega (arith, fits, low)

some_of : (n : ℕ) → 0 < n → not (n == 0) ≡ true
some_of n some = ap not (ne_eqb n 0 (λ e. omega (arith, some, e)))

near_or : (near far n : ℕ) → 0 < n → (8 ≤ near → far < n)
    → (not (n == 0) && (nat_lt near 8 || nat_lt far n)) ≡ true
near_or near far n some step =
    and_from (not (n == 0)) (nat_lt near 8 || nat_lt far n) (some_of n some) (elim (cases_lt near 8) [
      | inl h ↦ or_left (nat_lt near 8) (nat_lt far n) (lt-ltb near 8 h)
      | inr h ↦ or_right (nat_lt near 8) (nat_lt far n) (lt-ltb far n (step h))
    ])

some_byte : (x a n : ℕ) → InBytes x a n → 0 < n
some_byte x a n inside = omega (arith, inside)

meets_number : (a w x n : ℕ) → a < 2 ^ 64 → w < 2 ^ 64 → x < 2 ^ 64 → InBytes x a n → InBytes x w 8
    → meets (Number a) n (Number w) ≡ true
meets_number a w x n fits here low inside within =
    near_or (below_address a w) (below_address w a) n (some_byte x a n inside)
    (λ far. common_byte a w x n fits here low inside within far)

cast_fits : (k : ℤ) → FitsSigned w64 k → cast_unsigned w64 k < 2 ^ 64
cast_fits k fits = omega (arith, ints, fits)

meets_offset : (base x n : ℕ) (k j : ℤ) → x < 2 ^ 64 → FitsSigned w64 k → FitsSigned w64 j
    → InBytes x (address_of base (Relative k)) n → InBytes x (address_of base (Relative j)) 8
    → meets (Relative k) n (Relative j) ≡ true
meets_offset base x n k j low fits_k fits_j inside within =
    let u = cast_unsigned w64 k in
    let v = cast_unsigned w64 j in
    let one = same_distance base u v (cast_fits k fits_k) (cast_fits j fits_j) in
    let other = same_distance base v u (cast_fits j fits_j) (cast_fits k fits_k) in
    near_or (below_address u v) (below_address v u) n (some_byte x (word (base + u)) n inside)
    (λ far.
    let apart = common_byte (word (base + u)) (word (base + v)) x n (omega arith) (omega arith) low inside within
    (omega (arith, one, far)) in
    omega (arith, other, apart))

-- ---- what kind of place a word is

-- a word at an offset lies below the base, and its offset is one of 64 bits
pub record IsOffsetWord (key : Key) (i : ℕ) (j : ℤ) : Type 0 where
  pub low : 40 ≤ i
  pub high : i < 104
  pub none : key.base ≡ None
  pub event : key.syscall ≡ false
  pub fits : FitsSigned w64 j

minus_fits : (n : ℕ) → 1 ≤ n → n ≤ 64 → FitsSigned w64 (neg_ℤ (pos (8 * n)))
minus_fits n low high = omega (arith, ints, low, high)

offset_base : (base : Option ℕ) (syscall : Bool) (n : ℕ) (j : ℤ) → 1 ≤ n → n ≤ 64
    → base_word base syscall n ≡ Some (Relative j) → (base ≡ None) × (syscall ≡ false) × FitsSigned w64 j
offset_base (Some b) syscall n j low high e =
    absurd (let same = some_is (Number (below_address b (8 * n))) (Relative j) e in cc)
offset_base None true n j low high e = absurd cc
offset_base None false n j low high e =
    let same : neg_ℤ (pos (8 * n)) ≡ j =
    let both = some_is (Relative (neg_ℤ (pos (8 * n)))) (Relative j) e in cc in
    (refl, refl, subst (FitsSigned w64) same (minus_fits n low high))

pub offset_word : (cfg : Description) (key : Key) (i : ℕ) (j : ℤ) → IsValid cfg → word_of cfg key i ≡ Some (Relative j)
    → IsOffsetWord key i j
offset_word cfg key i j valid e = elim (cases_lt i 40) [
  | inl below ↦ absurd (let w = area_word cfg key i (Relative j) valid below e in let is = w.is in cc)
  | inr low ↦ elim (cases_lt i 104) [
    | inl high ↦
        let p = offset_base key.base key.syscall (i - 39) j (omega (arith, low)) (omega (arith, high))
        (sym (slot_of_base cfg key i low high) ∙ e) in
        record { low = low; high = high; none = p.0; event = p.1; fits = p.2 }
    | inr past ↦ absurd (let w = marked_word_at cfg key i (Relative j) valid past e in let at = w.at in cc)
  ]
]

-- ---- hits

-- Byte x is one of the n bytes at the location, whose stack is this one. At a number in a zone of the stack of a key
-- without a base that stack is the key's; at an offset the byte lies in the zone of the key's stack.
abbrev pub Hitting : Description → Key → ℕ → Option ℕ → Location → ℕ → ℕ → Type 0
Hitting cfg key base stack (Number a) n x =
    (a < 2 ^ 64) × InBytes x a n × ((s : ℕ) → key.base ≡ None → key.stack ≡ Some s → InZone cfg.regions s x
    → stack ≡ Some s)
Hitting cfg key base stack (Relative k) n x =
    FitsSigned w64 k × (K : IsRelativeKey cfg key base) × InBytes x (address_of base (Relative k)) n
    × InZone cfg.regions K.stack x

frame_stack : (cfg : Description) (stack : Option ℕ) (base t : ℕ) → IsBaseOf cfg None false stack base
    → stack_of cfg.regions (below_address base 40) ≡ Some t → stack ≡ Some t
frame_stack cfg (Some s) base t based first = sym based.1 ∙ first
frame_stack cfg None base t based first = absurd based.0

same_stack : (one other : Option ℕ) (s : ℕ) → one ≡ Some s → other ≡ Some s → is_same_stack one other ≡ true
same_stack one other s e f =
    subst (λ z. is_same_stack z other ≡ true) (sym e) (subst (λ z. is_same_stack (Some s) z ≡ true) (sym f)
    (eq-eqb s s refl))

no_base : (o : Option ℕ) → o ≡ None → has_no_base o ≡ true
no_base o e = ap has_no_base e

base_slot : (i : ℕ) → 40 ≤ i → i < 104 → is_base_slot i ≡ true
base_slot i low high = and_from (nat_le 40 i) (nat_lt i 104) (le-leb 40 i low) (lt-ltb i 104 high)

module _ (cfg : Description) (valid : IsValid cfg) (key : Key) (user_gs : ℕ) (a : Activation)
    (fits : Fits cfg key user_gs a) (base_fits : a.base < 2 ^ 64) where
  met : (l p : Location) (n i : ℕ) → word_of cfg key i ≡ Some p → meets l n p ≡ true
      → meets_word l n (word_of cfg key i) ≡ true
  met l p n i e h = ap (meets_word l n) e ∙ h

  pub word_fits : (i w : ℕ) → i < slot_count → word_of cfg key i ≡ Some (Number w) → w < 2 ^ 64
  word_fits i w below e = elim (cases_lt i 40) [
    | inl near ↦
        let area = area_word cfg key i (Number w) valid near e in
        let same : w ≡ area.at = let is = area.is in cc in
        omega (arith, same, area.whole)
    | inr low ↦ elim (cases_lt i 104) [
      | inl high ↦
          let word = base_word_at cfg valid key user_gs a fits base_fits i (Number w) low high e in
          omega (arith, word.address)
      | inr past ↦
          let marked = marked_word_at cfg key i (Number w) valid past e in
          let same : w ≡ below_address marked.region.span.to (8 * ((i - 104) % 64 + 1)) =
          let at = marked.at in cc in
          omega (arith, same)
    ]
  ]

  -- a word below the base, met by bytes at a number
  hit_below : (stack : Option ℕ) (at n i x : ℕ) (j : ℤ) → x < 2 ^ 64 → Hitting cfg key a.base stack (Number at) n x
      → word_of cfg key i ≡ Some (Relative j) → InBytes x (address_of a.base (Relative j)) 8
      → hits cfg key stack (Number at) n i ≡ true
  hit_below stack at n i x j low h e within =
      let w = offset_word cfg key i j valid e in
      let event : a.syscall ≡ false = fits.kind ∙ w.event in
      let zone = base_zone cfg valid key user_gs a fits base_fits i x (Relative j) event w.low w.high e low within in
      let s = (fits.frame event).stack in
      let based = subst (λ b. IsBaseOf cfg None b key.stack a.base) w.event
      (subst (λ o. IsBaseOf cfg o key.syscall key.stack a.base) w.none fits.base) in
      let named = frame_stack cfg key.stack a.base s based (fits.frame event).first in
      let own = h.2 s w.none named zone in
      or_right (meets_word (Number at) n (word_of cfg key i))
      (has_no_base key.base && (is_same_stack stack key.stack && is_base_slot i))
      (and_from (has_no_base key.base) (is_same_stack stack key.stack && is_base_slot i) (no_base key.base w.none)
      (and_from (is_same_stack stack key.stack) (is_base_slot i) (same_stack stack key.stack s own named)
      (base_slot i w.low w.high)))

  hit_number : (stack : Option ℕ) (at n i x : ℕ) (p : Location) → x < 2 ^ 64 → i < slot_count
      → Hitting cfg key a.base stack (Number at) n x → word_of cfg key i ≡ Some p → InBytes x (address_of a.base p) 8
      → hits cfg key stack (Number at) n i ≡ true
  hit_number stack at n i x (Number w) low below h e within =
      or_left (meets_word (Number at) n (word_of cfg key i))
      (has_no_base key.base && (is_same_stack stack key.stack && is_base_slot i))
      (met (Number at) (Number w) n i e
      (meets_number at w x n h.0 (word_fits i w below e) low h.1 within))
  hit_number stack at n i x (Relative j) low below h e within = hit_below stack at n i x j low h e within

  -- bytes at an offset lie in no area, and meet no word below a base that is a number, since the key has none
  hit_top : (stack : Option ℕ) (k : ℤ) (n i x w : ℕ) → x < 2 ^ 64
      → Hitting cfg key a.base stack (Relative k) n x → word_of cfg key i ≡ Some (Number w) → InBytes x w 8
      → hits cfg key stack (Relative k) n i ≡ true
  hit_top stack k n i x w low h e within = elim (cases_lt i 40) [
    | inl near ↦ absurd (in_area near)
    | inr up ↦ elim (cases_lt i 104) [
      | inl high ↦ absurd (no_number up high)
      | inr past ↦
          let m = marked_word_at cfg key i (Number w) valid past e in
          let zone = marked_zone cfg i x a.base (Number w) m low within in
          let same : m.stack ≡ h.1.stack = (laid cfg valid).one_zone m.stack h.1.stack x zone h.3 in
          or_right (meets_word (Relative k) n (word_of cfg key i)) (is_marked_slot cfg key.stack i)
          (and_from (nat_le 104 i) (holds_top cfg key.stack (slice_get (marked_of cfg.regions) ((i - 104) / 64)))
          (le-leb 104 i past)
          (ap (holds_top cfg key.stack) m.listed
          ∙ same_stack (stack_of cfg.regions (below_address m.region.span.to 1)) key.stack h.1.stack
          (m.top ∙ ap (λ z. Some z) same) h.1.named))
    ]
  ]
    where
      in_area : i < 40 → ⊥
      in_area near =
          let area = area_word cfg key i (Number w) valid near e in
          let same : w ≡ area.at = let is = area.is in cc in
          let between = rising_byte x w 8 low (omega (arith, same, area.whole)) (omega (arith, same, area.whole)) within
          in
          let byte = area.bytes (x - area.at) (omega (arith, same, between.0, between.1)) in
          let there : area.at + (x - area.at) ≡ x = omega (arith, same, between.0) in
          let found : region_of cfg.regions x ≡ Some byte.0 = sym (ap (region_of cfg.regions) there) ∙ byte.1 in
          (laid cfg valid).no_zone h.1.stack x byte.0 found (λ f. absurd (let g = byte.2 in cc))
          (λ f. absurd (let g = byte.2 in cc)) h.3

      no_number : 40 ≤ i → i < 104 → ⊥
      no_number up high =
          let at = sym (slot_of_base cfg key i up high) ∙ e in
          let none : base_word None key.syscall (i - 39) ≡ Some (Number w) =
          subst (λ o. base_word o key.syscall (i - 39) ≡ Some (Number w)) h.1.none at in
          let event : base_word None false (i - 39) ≡ Some (Number w) =
          subst (λ b. base_word None b (i - 39) ≡ Some (Number w)) h.1.event none in
          absurd cc

  hit_offset : (stack : Option ℕ) (k : ℤ) (n i x : ℕ) (p : Location) → x < 2 ^ 64
      → Hitting cfg key a.base stack (Relative k) n x → word_of cfg key i ≡ Some p → InBytes x (address_of a.base p) 8
      → hits cfg key stack (Relative k) n i ≡ true
  hit_offset stack k n i x (Number w) low h e within = hit_top stack k n i x w low h e within
  hit_offset stack k n i x (Relative j) low h e within =
      let w = offset_word cfg key i j valid e in
      or_left (meets_word (Relative k) n (word_of cfg key i)) (is_marked_slot cfg key.stack i)
      (met (Relative k) (Relative j) n i e (meets_offset a.base x n k j low h.0 w.fits h.2 within))

  -- a slot with a byte among those of the access is hit
  pub hits_cover : (stack : Option ℕ) (l p : Location) (n i x : ℕ) → x < 2 ^ 64 → i < slot_count
      → Hitting cfg key a.base stack l n x → word_of cfg key i ≡ Some p → InBytes x (address_of a.base p) 8
      → hits cfg key stack l n i ≡ true
  hits_cover stack (Number at) p n i x low below h e within = hit_number stack at n i x p low below h e within
  hits_cover stack (Relative k) p n i x low below h e within = hit_offset stack k n i x p low h e within

  -- bytes that may be written are such bytes
  pub written_hits : (map : MapState) (l : Location) (n x : ℕ) → IsPlaced cfg key a.base l → x < 2 ^ 64
      → may cfg key map l n Write ≡ true → InBytes x (address_of a.base l) n
      → Hitting cfg key a.base (location_stack cfg key (Some l)) l n x
  written_hits map (Number at) n x placed low h inside = (
    placed,
    inside,
    λ s none named zone.
        (laid cfg valid).first_byte s at n x placed low
        (λ y here within.
        let o = open_byte cfg map Write y (may_each cfg map Write at n y placed here h within) in
        (some_region cfg y o.region o.found, o.unguarded))
        inside zone,
  )
  written_hits map (Relative k) n x placed low h inside = (
    placed.0,
    placed.1,
    inside,
    relative_zone cfg valid key a.base placed.1 map k n x Write placed.0 h low inside,
  )

  -- a byte of any other kind of region is in no slot's word
  pub outside_slots : (r : Region) (p : Location) (i x : ℕ) → x < 2 ^ 64 → i < slot_count
      → region_of cfg.regions x ≡ Some r → r.kind ≢ Area → r.kind ≢ Stack → r.kind ≢ Guard
      → word_of cfg key i ≡ Some p → InBytes x (address_of a.base p) 8 → ⊥
  outside_slots r p i x low below found no_area no_stack no_guard e within = elim (cases_lt i 40) [
    | inl near ↦
        let area = area_word cfg key i p valid near e in
        let there = subst (λ z. InBytes x (address_of a.base z) 8) area.is within in
        let between = rising_byte x area.at 8 low (omega (arith, area.whole)) (omega (arith, area.whole)) there in
        let byte = area.bytes (x - area.at) (omega (arith, between.0, between.1)) in
        let same : area.at + (x - area.at) ≡ x = omega (arith, between.0) in
        let own : region_of cfg.regions x ≡ Some byte.0 = sym (ap (region_of cfg.regions) same) ∙ byte.1 in
        no_area (subst (λ z. z.kind ≡ Area) (some_is byte.0 r (sym own ∙ found)) byte.2)
    | inr up ↦ elim (cases_lt i 104) [
      | inl high ↦
          let w = base_word_at cfg valid key user_gs a fits base_fits i p up high e in
          let event : a.syscall ≡ false = fits.kind ∙ w.event in
          let zone = base_zone cfg valid key user_gs a fits base_fits i x p event up high e low within in
          (laid cfg valid).no_zone (fits.frame event).stack x r found no_stack no_guard zone
      | inr past ↦
          let m = marked_word_at cfg key i p valid past e in
          (laid cfg valid).no_zone m.stack x r found no_stack no_guard (marked_zone cfg i x a.base p m low within)
    ]
  ]
