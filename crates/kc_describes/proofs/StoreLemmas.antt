-- Slots after a store. A slot whose word is just the bytes takes the value, which is read back; one that is hit becomes
-- the top; and of any other no byte of its word is among those written, so it stands for the same number. The changes
-- of a handler's call only put tops.
use Rattle.std.proofs.Common.{◌≡◌, ℕ, ◌+◌, ◌-◌, ◌%◌, ◌^◌, ◌<◌, ◌≤◌, ◌⊎◌, ◌==◌, inl, inr, Bool, true, false, cond, List, length, All, Option, Some, None, refl, sym, ap, ◌∙◌, subst, arith}
use Rattle.std.specs.Prelude.{FitsSigned}
use Rattle.std.specs.Int.{w64, cast_unsigned}
use Rattle.std.proofs.lemmas.Int.{ints}
use Rattle.std.proofs.lemmas.Bool.{cases_Bool, eqb-true, and_parts, cond-true, cond-false, false≢true}
use Rattle.kc_bits.specs.Bits.{word}
use Rattle.kc_frames.specs.Slots.{slot_count, redone}
use Rattle.kc_regions.specs.Description.{Description}
use Rattle.kc_regions.specs.Layout.{InBytes}
use Rattle.kc_regions.specs.Valid.{IsValid}
use Rattle.kc_regions.specs.declared.touch.Touch.TheVariants.{Write}
use Rattle.kc_space.specs.declared.map.MapState.{MapState}
use Rattle.kc_mem.specs.Memory.{Bytes, byte, read, write}
use Rattle.kc_exec.specs.declared.state.Activation.{Activation}
use Rattle.kc_value.specs.AbsValue.{AbsValue}
use Rattle.kc_value.specs.Value.{Represents, value_top}
use Rattle.kc_value.specs.declared.env.ValueEnv.{ValueEnv}
use Rattle.kc_state.specs.Access.{may}
use Rattle.kc_state.specs.Calls.{moved_down, used}
use Rattle.kc_state.specs.Memory.{distance, is_zero, is_just, hits, stored}
use Rattle.kc_state.specs.Places.{below_address, location_stack, base_word, word_of}
use Rattle.kc_state.specs.declared.key.Key.{Key}
use Rattle.kc_state.specs.declared.location.Location.{Location}
use Rattle.kc_state.specs.declared.location.Location.TheVariants.{Number, Relative}
use Rattle.kc_state.proofs.ApartLemmas.{slot_of_base}
use Rattle.kc_describes.specs.Chain.{newest_of, env_of}
use Rattle.kc_describes.specs.Describes.{AreBaseSlotsTop}
use Rattle.kc_describes.specs.Fits.{ChainFits}
use Rattle.kc_describes.specs.Places.{address_of, WordStands, SlotsStand}
use Rattle.kc_describes.specs.Row.{value_at}
use Rattle.kc_describes.specs.Widths.{IsActivation}
use Rattle.kc_describes.proofs.ChainLemmas.{newest_base}
use Rattle.kc_describes.proofs.HitLemmas.{word_fits, offset_word, hits_cover, written_hits}
use Rattle.kc_describes.proofs.LocationLemmas.{IsPlaced}
use Rattle.kc_describes.proofs.MemoryLemmas.{read_agree, write_elsewhere, read-write}
use Rattle.kc_describes.proofs.SlotLemmas.{get_or-redone, redone_stand}
use Rattle.kc_describes.proofs.ValueLemmas.{top_stands}

-- ---- the same place

abbrev pub IsFitting : Location → Type 0
IsFitting (Number a) = a < 2 ^ 64
IsFitting (Relative k) = FitsSigned w64 k

pub placed_fits : (cfg : Description) (key : Key) (base : ℕ) (l : Location) → IsPlaced cfg key base l → IsFitting l
placed_fits cfg key base (Number a) h = h
placed_fits cfg key base (Relative k) h = h.0

pub address_fits : (base : ℕ) (l : Location) → IsFitting l → address_of base l < 2 ^ 64
address_fits base (Number a) h = h
address_fits base (Relative k) h = omega arith

-- a distance is that of the addresses
pub distance_is : (base off : ℕ) (l p : Location) → IsFitting l → IsFitting p → distance l p ≡ Some off
    → address_of base l ≡ word (address_of base p + off)
distance_is base off (Number a) (Number w) fits low e =
    let same : below_address a w ≡ off = cc in
    omega (arith, same, fits, low)
distance_is base off (Relative k) (Relative j) fits low e =
    let same : below_address (cast_unsigned w64 k) (cast_unsigned w64 j) ≡ off = cc in
    let one : cast_unsigned w64 k < 2 ^ 64 = omega (arith, ints, fits) in
    let other : cast_unsigned w64 j < 2 ^ 64 = omega (arith, ints, low) in
    omega (arith, same, one, other)
distance_is base off (Number a) (Relative j) fits low e = absurd cc
distance_is base off (Relative k) (Number w) fits low e = absurd cc

zero_some : (o : Option ℕ) → is_zero o ≡ true → o ≡ Some 0
zero_some (Some n) h = ap (λ z. Some z) (eqb-true n 0 h)
zero_some None h = absurd (false≢true h)

pub just_there : (base n : ℕ) (l p : Location) → IsFitting l → IsFitting p → is_just l n (Some p) ≡ true
    → (n ≡ 8) × (address_of base l ≡ address_of base p)
just_there base n l p fits low h =
    let q = and_parts (n == 8) (is_zero (distance l p)) h in
    let far = distance_is base 0 l p fits low (zero_some (distance l p) q.1) in
    let here = address_fits base p low in
    (eqb-true n 8 q.0, omega (arith, far, here))

-- ---- words that stay

pub word_kept : (env : ValueEnv) (mem after : Bytes) (v : AbsValue) (p : Location) → IsFitting p
    → ((x : ℕ) → x < 2 ^ 64 → InBytes x (address_of env.base p) 8 → byte after x ≡ byte mem x)
    → WordStands env mem v p → WordStands env after v p
word_kept env mem after v p fits same stands =
    subst (Represents v env) (sym (read_agree after mem (address_of env.base p) 8 (address_fits env.base p fits) same))
    stands

module _ (cfg : Description) (valid : IsValid cfg) (key : Key) (chain : List Activation) (F : ChainFits cfg key chain)
    (typed : All IsActivation chain) where
  abbrev base : ℕ
  base = (newest_of chain).base

  abbrev env : ValueEnv
  env = env_of cfg chain

  base_fits : base < 2 ^ 64
  base_fits = newest_base chain F.one_user typed

  pub word_fitting : (i : ℕ) (p : Location) → i < slot_count → word_of cfg key i ≡ Some p → IsFitting p
  word_fitting i (Number w) below e =
      word_fits cfg valid key env.user_gs (newest_of chain) F.fits base_fits i w below e
  word_fitting i (Relative j) below e = (offset_word cfg key i j valid e).fits

  -- where each slot becomes the top, or stays and its word is as it was, the slots stand
  pub untouched : (slots : List AbsValue) (mem after : Bytes) (f : ℕ → AbsValue → AbsValue) → length slots ≡ slot_count
      → SlotsStand cfg key env slots mem
      → ((i : ℕ) (p : Location) (v : AbsValue) → i < slot_count → word_of cfg key i ≡ Some p → (f i v ≡ value_top)
      ⊎ ((f i v ≡ v)
      × ((x : ℕ) → x < 2 ^ 64 → InBytes x (address_of base p) 8 → byte after x ≡ byte mem x)))
      → SlotsStand cfg key env (redone f 0 slots) after
  untouched slots mem after f count stand each =
      redone_stand cfg key env slots mem after f count stand (λ i p v below e stands. elim (each i p v below e) [
        | inl top ↦
            subst (λ z. WordStands env after z p) (sym top)
            (top_stands cfg valid env refl (read after (address_of base p) 8))
        | inr kept ↦
            subst (λ z. WordStands env after z p) (sym kept.0)
            (word_kept env mem after v p (word_fitting i p below e) kept.1 stands)
      ])

  -- ---- stores

  module _ (map : MapState) (l : Location) (n : ℕ) (new : AbsValue) (w : ℕ) (mem : Bytes)
      (placed : IsPlaced cfg key base l) (few : n < 2 ^ 64) (h : may cfg key map l n Write ≡ true) (fits : w < 2 ^ 64)
      (stands : n ≡ 8 → Represents new env w) where
    abbrev after : Bytes
    after = write mem (address_of base l) n w

    missed : (i : ℕ) (p : Location) → i < slot_count → word_of cfg key i ≡ Some p
        → hits cfg key (location_stack cfg key (Some l)) l n i ≡ false → (x : ℕ) → x < 2 ^ 64
        → InBytes x (address_of base p) 8 → byte after x ≡ byte mem x
    missed i p below e none x low within =
        write_elsewhere mem (address_of base l) n w x (address_fits base l (placed_fits cfg key base l placed)) low
        (λ inside.
        let hitting = written_hits cfg valid key env.user_gs (newest_of chain) F.fits base_fits map l n x placed low h
        inside in
        let hit = hits_cover cfg valid key env.user_gs (newest_of chain) F.fits base_fits
        (location_stack cfg key (Some l)) l p n i x low below hitting e within in
        false≢true (sym none ∙ hit))

    taken : (i : ℕ) (p : Location) → i < slot_count → word_of cfg key i ≡ Some p
        → is_just l n (word_of cfg key i) ≡ true → WordStands env after new p
    taken i p below e just =
        let there = just_there base n l p (placed_fits cfg key base l placed) (word_fitting i p below e)
        (sym (ap (is_just l n) e) ∙ just) in
        let at = address_of base l in
        let low = address_fits base l (placed_fits cfg key base l placed) in
        let back : read (write mem at 8 w) at 8 ≡ w = read-write mem at 8 w low (omega arith) ∙ whole in
        let size : read after at 8 ≡ w = ap (λ z. read (write mem at z w) at 8) there.0 ∙ back in
        let here : read after (address_of base p) 8 ≡ w = sym (ap (λ z. read after z 8) there.1) ∙ size in
        subst (Represents new env) (sym here) (stands there.0)
      where
        whole : w % 256 ^ 8 ≡ w
        whole = omega (arith, fits)

    at_slot : (i : ℕ) (p : Location) (v : AbsValue) → i < slot_count → word_of cfg key i ≡ Some p
        → WordStands env mem v p → WordStands env after (stored cfg key l n new i v) p
    at_slot i p v below e old =
        let just = is_just l n (word_of cfg key i) in
        let hit = hits cfg key (location_stack cfg key (Some l)) l n i in
        let rest = cond hit value_top v in
        elim (cases_Bool just) [
          | inl is ↦
              subst (λ z. WordStands env after z p) (sym (cond-true just new rest is)) (taken i p below e is)
          | inr is ↦
              let second = cond-false just new rest is in
              elim (cases_Bool hit) [
                | inl top ↦
                    subst (λ z. WordStands env after z p) (sym (second ∙ cond-true hit value_top v top))
                    (top_stands cfg valid env refl (read after (address_of base p) 8))
                | inr none ↦
                    subst (λ z. WordStands env after z p) (sym (second ∙ cond-false hit value_top v none))
                    (word_kept env mem after v p (word_fitting i p below e) (missed i p below e none) old)
              ]
        ]

    -- after a store of n bytes, which may be written, each slot stands for its word
    pub store_stands : (slots : List AbsValue) → length slots ≡ slot_count → SlotsStand cfg key env slots mem
        → SlotsStand cfg key env (redone (stored cfg key l n new) 0 slots) after
    store_stands slots count stand =
        redone_stand cfg key env slots mem after (stored cfg key l n new) count stand at_slot

  -- ---- a syscall's slots

  no_word : (i : ℕ) → key.syscall ≡ true → 40 ≤ i → i < 104 → word_of cfg key i ≡ None
  no_word i syscall low high =
      let none : key.base ≡ None = (F.fits.rules.syscall syscall).2 in
      slot_of_base cfg key i low high
      ∙ ap (λ o. base_word o key.syscall (i - 39)) none ∙ ap (λ b. base_word None b (i - 39)) syscall

  -- a change that keeps the top of each slot without a word keeps a syscall's base slots
  pub bare_redone : (slots : List AbsValue) (f : ℕ → AbsValue → AbsValue) → length slots ≡ slot_count
      → ((i : ℕ) → word_of cfg key i ≡ None → f i value_top ≡ value_top) → AreBaseSlotsTop key slots
      → AreBaseSlotsTop key (redone f 0 slots)
  bare_redone slots f count keeps bare syscall i low high =
      let number : 0 + i ≡ i = omega arith in
      get_or-redone f value_top 0 i slots (omega (arith, count, high))
      ∙ ap (λ z. f z (value_at slots i)) number ∙ ap (f i) (bare syscall i low high)
      ∙ keeps i (no_word i syscall low high)

  either_top : (b : Bool) → cond b value_top value_top ≡ value_top
  either_top true = refl
  either_top false = refl

  pub stored_top : (l : Location) (n : ℕ) (new : AbsValue) (i : ℕ) → word_of cfg key i ≡ None
      → stored cfg key l n new i value_top ≡ value_top
  stored_top l n new i none =
      let hit = hits cfg key (location_stack cfg key (Some l)) l n i in
      cond-false (is_just l n (word_of cfg key i)) new (cond hit value_top value_top) (ap (is_just l n) none)
      ∙ either_top hit

  -- ---- a handler's stack

  pub used_stands : (l : Location) (depth : ℕ) (slots : List AbsValue) (mem : Bytes) → length slots ≡ slot_count
      → SlotsStand cfg key env slots mem → SlotsStand cfg key env (redone (used cfg key l depth) 0 slots) mem
  used_stands l depth slots mem count stand =
      untouched slots mem mem (used cfg key l depth) count stand (λ i p v below e.
      let hit = hits cfg key (location_stack cfg key (Some l)) (moved_down l depth) depth i in
      elim (cases_Bool hit) [
        | inl top ↦ inl (cond-true hit value_top v top)
        | inr none ↦ inr (cond-false hit value_top v none, λ x low within. refl)
      ])

  pub used_top : (l : Location) (depth i : ℕ) → used cfg key l depth i value_top ≡ value_top
  used_top l depth i =
      either_top (hits cfg key (location_stack cfg key (Some l)) (moved_down l depth) depth i)
