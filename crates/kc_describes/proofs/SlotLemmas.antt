-- The words of slots: where they lie, by the four ranges of slots. Those of the TSS and of the configuration lie in
-- areas. Those below the base lie in the zone of the stack that holds the frame: the base is aligned as the stack's
-- ends are, and 64 words are fewer than the 4,096 bytes of the guard. Those below the top of a marked stack lie in its
-- zone.
use Rattle.std.proofs.Common.{◌≡◌, ℕ, zero, suc, ◌+◌, ◌-◌, ◌*◌, ◌/◌, ◌%◌, ◌^◌, ◌<◌, ◌≤◌, inl, inr, Bool, true, false, cond, nat_lt, List, [], ◌∷◌, length, get_or, filter, find, All, Contains, Option, Some, None, option_map, pos, neg_ℤ, refl, sym, ap, ◌∙◌, subst, arith}
use Rattle.std.specs.Prelude.{slice_get}
use Rattle.std.specs.Int.{w64, cast_unsigned}
use Rattle.std.proofs.lemmas.Bool.{cases_lt, lt-ltb, le-ltb}
use Rattle.std.proofs.lemmas.List.Elements.{All-head, All-tail}
use Rattle.std.proofs.lemmas.Option.{slice_get_within, get_or_from_slice_get}
use Rattle.kc_bits.specs.Bits.{word}
use Rattle.kc_frames.specs.Slots.{slot_count, redone}
use Rattle.kc_regions.specs.Description.{Description}
use Rattle.kc_regions.specs.Layout.{InBytes, InZone, IsStackAt}
use Rattle.kc_regions.specs.Lookup.{tss_word}
use Rattle.kc_regions.specs.Ranges.{IsRegionInRange}
use Rattle.kc_regions.specs.Region.{holds, region_of, stacks_of, stack_of, stack_at, marked_of}
use Rattle.kc_regions.specs.Valid.{IsValid}
use Rattle.kc_regions.specs.declared.entry.Word.{Word}
use Rattle.kc_regions.specs.declared.region.Kind.TheVariants.{Area}
use Rattle.kc_regions.specs.declared.region.Region.{Region}
use Rattle.kc_regions.proofs.LayoutLemmas.{laid}
use Rattle.kc_regions.proofs.OrderLemmas.{true-holds}
use Rattle.kc_rules.proofs.AnswerLemmas.{some_is}
use Rattle.kc_rules.proofs.TestLemmas.{chosen}
use Rattle.kc_mem.specs.Memory.{Bytes}
use Rattle.kc_exec.specs.declared.state.Activation.{Activation}
use Rattle.kc_value.specs.AbsValue.{AbsValue}
use Rattle.kc_value.specs.Value.{value_top}
use Rattle.kc_value.specs.declared.env.ValueEnv.{ValueEnv}
use Rattle.kc_state.specs.Places.{below_address, tracked_word, base_word, marked_word, word_of}
use Rattle.kc_state.specs.declared.key.Key.{Key}
use Rattle.kc_state.specs.declared.location.Location.{Location}
use Rattle.kc_state.specs.declared.location.Location.TheVariants.{Number, Relative}
use Rattle.kc_state.proofs.ApartLemmas.{slot_of_base, slot_of_top}
use Rattle.kc_describes.specs.Fits.{IsBaseOf, Fits}
use Rattle.kc_describes.specs.Places.{address_of, WordStands, SlotsStand}
use Rattle.kc_describes.proofs.LocationLemmas.{in_stack, stack_high, IsHigh}
use Rattle.kc_describes.proofs.OffsetLemmas.{rising_byte}

-- ---- changes of each slot

pub get_or-redone : {V : Type 0} (f : ℕ → V → V) (top : V) (i j : ℕ) (vs : List V) → j < length vs
    → get_or (redone f i vs) j top ≡ f (i + j) (get_or vs j top)
get_or-redone f top i j [] below = absurd (omega (arith, below))
get_or-redone f top i zero (v ∷ vs) below = let same : i ≡ i + 0 = omega arith in ap (λ n. f n v) same
get_or-redone f top i (suc j) (v ∷ vs) below =
    let same : suc i + j ≡ i + suc j = omega arith in
    get_or-redone f top (suc i) j vs (omega (arith, below)) ∙ ap (λ n. f n (get_or vs j top)) same

-- slots stand after a change that keeps each word's value standing
pub redone_stand : (cfg : Description) (key : Key) (env : ValueEnv) (slots : List AbsValue) (mem after : Bytes)
    (f : ℕ → AbsValue → AbsValue) → length slots ≡ slot_count → SlotsStand cfg key env slots mem
    → ((i : ℕ) (l : Location) (v : AbsValue) → i < slot_count → word_of cfg key i ≡ Some l → WordStands env mem v l
    → WordStands env after (f i v) l)
    → SlotsStand cfg key env (redone f 0 slots) after
redone_stand cfg key env slots mem after f count stand keeps i l below word_is =
    let at : get_or (redone f 0 slots) i value_top ≡ f (0 + i) (get_or slots i value_top) =
    get_or-redone f value_top 0 i slots (omega (arith, below, count)) in
    let number : 0 + i ≡ i = omega arith in
    let value = at ∙ ap (λ n. f n (get_or slots i value_top)) number in
    subst (λ v. WordStands env after v l) (sym value)
    (keeps i l (get_or slots i value_top) below word_is (stand i l below word_is))

-- ---- regions

found_in : (P : Region → Type 0) (test : Region → Bool) (xs : List Region) (r : Region) → find test xs ≡ Some r
    → All P xs → (test r ≡ true) × P r
found_in P test [] r e all = absurd cc
found_in P test (x ∷ xs) r e all = elim (chosen (test x) (Some x) (find test xs) (Some r) e) [
  | inl h ↦
      let same = some_is x r h.1 in
      (subst (λ z. test z ≡ true) same h.0, subst P same (All-head P x xs all))
  | inr h ↦ found_in P test xs r h.1 (All-tail P x xs all)
]

-- no region holds the last address
pub region_fits : (cfg : Description) (x : ℕ) (r : Region) → IsValid cfg → region_of cfg.regions x ≡ Some r
    → x + 1 < 2 ^ 64
region_fits cfg x r valid e =
    let p = found_in IsRegionInRange (λ z. holds z.span x) cfg.regions r e valid.ranges.regions in
    let held = true-holds r.span x p.0 in
    omega (arith, held.1, p.1.span.1)

-- ---- words of the TSS and of the configuration

pub record IsAreaWord (cfg : Description) (l : Location) : Type 0 where
  pub at : ℕ
  pub is : l ≡ Number at
  pub whole : at + 8 < 2 ^ 64
  pub bytes : (k : ℕ) → k < 8 → (r : Region) × (region_of cfg.regions (at + k) ≡ Some r) × (r.kind ≡ Area)

tss_offset : (tss i : ℕ) → i < 8 → (off : ℕ) × (tss_word tss i ≡ tss + off) × (off + 8 ≤ 104)
tss_offset tss zero below = (4, refl, omega arith)
tss_offset tss (suc n) below = (36 + 8 * n, omega arith, omega (arith, below))

near_word : (cfg : Description) (key : Key) (i : ℕ) → i < 40
    → word_of cfg key i ≡ cond (nat_lt i 8) (Some (Number (word (tss_word cfg.cpu.tss i)))) (tracked_word cfg (i - 8))
near_word cfg key i h =
    ap (λ (t : Bool). cond (nat_lt i 8) (Some (Number (word (tss_word cfg.cpu.tss i))))
    (cond t (tracked_word cfg (i - 8)) (cond (nat_lt i 104) (base_word key.base key.syscall (i - 39))
    (marked_word cfg ((i - 104) / 64) ((i - 104) % 64 + 1))))) (lt-ltb i 40 h)

area_from : (cfg : Description) (valid : IsValid cfg) (at : ℕ) (l : Location) → l ≡ Number at
    → ((k : ℕ) → k < 8 → (r : Region) × (region_of cfg.regions (at + k) ≡ Some r) × (r.kind ≡ Area)) → IsAreaWord cfg l
area_from cfg valid at l is bytes =
    let last = bytes 7 (omega arith) in
    let fits = region_fits cfg (at + 7) last.0 valid last.1 in
    record { at = at; is = is; whole = omega (arith, fits); bytes = bytes }

word_of_tss : (cfg : Description) (i : ℕ) (l : Location) → IsValid cfg → i < 8
    → Some (Number (word (tss_word cfg.cpu.tss i))) ≡ Some l → IsAreaWord cfg l
word_of_tss cfg i l valid below e =
    let off = tss_offset cfg.cpu.tss i below in
    let tss = cfg.cpu.tss in
    let bytes : (k : ℕ) → k < 8 → (r : Region) × (region_of cfg.regions (tss + off.0 + k) ≡ Some r) × (r.kind ≡ Area) =
    λ k low.
    let same : tss + (off.0 + k) ≡ tss + off.0 + k = omega arith in
    subst (λ z. (r : Region) × (region_of cfg.regions z ≡ Some r) × (r.kind ≡ Area)) same
    ((laid cfg valid).tss (off.0 + k) (omega (arith, low, off.2))) in
    let last = bytes 7 (omega arith) in
    let fits = region_fits cfg (tss + off.0 + 7) last.0 valid last.1 in
    let at : word (tss_word tss i) ≡ tss + off.0 = omega (arith, off.1, fits) in
    area_from cfg valid (tss + off.0) l (sym (some_is (Number (word (tss_word tss i))) l e) ∙ ap Number at) bytes

word_of_tracked : (cfg : Description) (o : Option Word) (n : ℕ) (l : Location) → IsValid cfg
    → slice_get cfg.words n ≡ o → option_map (λ w. Number w.at) o ≡ Some l → IsAreaWord cfg l
word_of_tracked cfg (Some w) n l valid found e =
    let held : Contains cfg.words w =
    (n, slice_get_within cfg.words n w found, get_or_from_slice_get cfg.words n w w found) in
    area_from cfg valid w.at l (sym (some_is (Number w.at) l e)) (λ k low. (laid cfg valid).words w k held low)
word_of_tracked cfg None n l valid found e = absurd cc

pub area_word : (cfg : Description) (key : Key) (i : ℕ) (l : Location) → IsValid cfg → i < 40
    → word_of cfg key i ≡ Some l → IsAreaWord cfg l
area_word cfg key i l valid below e =
    let near = sym (near_word cfg key i below) ∙ e in
    let tss = Some (Number (word (tss_word cfg.cpu.tss i))) in
    elim (cases_lt i 8) [
      | inl low ↦
          let first : tss ≡ Some l =
          sym (ap (λ (t : Bool). cond t tss (tracked_word cfg (i - 8))) (lt-ltb i 8 low)) ∙ near in
          word_of_tss cfg i l valid low first
      | inr high ↦
          let second : tracked_word cfg (i - 8) ≡ Some l =
          sym (ap (λ (t : Bool). cond t tss (tracked_word cfg (i - 8))) (le-ltb i 8 high)) ∙ near in
          word_of_tracked cfg (slice_get cfg.words (i - 8)) (i - 8) l valid refl second
    ]

-- ---- words below the base

-- the n-th word below the base of an event, at a number where the key has a base and at an offset else
pub record IsBaseWord (key : Key) (base n : ℕ) (l : Location) : Type 0 where
  pub event : key.syscall ≡ false
  pub address : address_of base l ≡ below_address base (8 * n)

cast_minus : (n : ℕ) → 1 ≤ n → n < 2 ^ 64 → cast_unsigned w64 (neg_ℤ (pos n)) ≡ 2 ^ 64 - n
cast_minus zero some fits = absurd (omega (arith, some))
cast_minus (suc n) some fits = refl

base_word_is : (cfg : Description) (key : Key) (at : ℕ) (base : Option ℕ) (syscall : Bool) (n : ℕ) (l : Location)
    → (syscall ≡ true → base ≡ None) → key.syscall ≡ syscall → IsBaseOf cfg base syscall key.stack at → 1 ≤ n → n ≤ 64
    → base_word base syscall n ≡ Some l → IsBaseWord key at n l
base_word_is cfg key at (Some b) true n l rule kind based low high e = absurd (let none = rule refl in cc)
base_word_is cfg key at (Some b) false n l rule kind based low high e = record {
  event = kind;
  address = ap (address_of at) (sym (some_is (Number (below_address b (8 * n))) l e))
      ∙ ap (λ z. below_address z (8 * n)) (sym based);
}
base_word_is cfg key at None true n l rule kind based low high e = absurd cc
base_word_is cfg key at None false n l rule kind based low high e =
    let minus = cast_minus (8 * n) (omega (arith, low)) (omega (arith, high)) in
    record {
      event = kind;
      address = ap (address_of at) (sym (some_is (Relative (neg_ℤ (pos (8 * n)))) l e)) ∙ ap (λ z. word (at + z)) minus;
    }

frame_high : (base : ℕ) → base < 2 ^ 64 → base % 16 ≡ 0 → IsHigh (below_address base 40) → IsHigh (below_address base 8)
    → 2 ^ 63 + 4096 ≤ base
frame_high base fits aligned first last =
    omega (arith, fits, aligned, first.low, first.high, last.low, last.high)

frame_near : (base x n from to : ℕ) → base < 2 ^ 64 → 2 ^ 63 + 4096 ≤ base → base % 16 ≡ 0 → to % 16 ≡ 0
    → from ≤ below_address base 40 → below_address base 8 < to → 1 ≤ n → n ≤ 64 → x < 2 ^ 64
    → InBytes x (below_address base (8 * n)) 8 → (from ≤ x + 4096) × (x < to)
frame_near base x n from to fits high aligned ends first last low few here inside =
    let at : below_address base (8 * n) ≡ base - 8 * n = omega (arith, fits, high, low, few) in
    let whole = subst (λ z. InBytes x z 8) at inside in
    let between = rising_byte x (base - 8 * n) 8 here (omega (arith, fits)) (omega (arith, fits, low)) whole in
    let below : below_address base 40 ≡ base - 40 = omega (arith, fits, high) in
    let under : below_address base 8 ≡ base - 8 = omega (arith, fits, high) in
    (omega (arith, between.0, below, first, few), omega (arith, between.1, under, last, aligned, ends, low, high))

module _ (cfg : Description) (valid : IsValid cfg) (key : Key) (user_gs : ℕ) (a : Activation)
    (fits : Fits cfg key user_gs a) (base_fits : a.base < 2 ^ 64) where
  pub base_word_at : (i : ℕ) (l : Location) → 40 ≤ i → i < 104 → word_of cfg key i ≡ Some l
      → IsBaseWord key a.base (i - 39) l
  base_word_at i l low high e =
      base_word_is cfg key a.base key.base key.syscall (i - 39) l (λ h. (fits.rules.syscall h).2) refl fits.base
      (omega (arith, low)) (omega (arith, high)) (sym (slot_of_base cfg key i low high) ∙ e)

  -- they lie in the zone of the frame's stack
  pub base_zone : (i x : ℕ) (l : Location) (event : a.syscall ≡ false) → 40 ≤ i → i < 104 → word_of cfg key i ≡ Some l
      → x < 2 ^ 64 → InBytes x (address_of a.base l) 8 → InZone cfg.regions (fits.frame event).stack x
  base_zone i x l event low high e here inside =
      let frame = fits.frame event in
      let w = base_word_at i l low high e in
      let first = in_stack cfg frame.stack (below_address a.base 40) valid frame.first in
      let last = in_stack cfg frame.stack (below_address a.base 8) valid frame.last in
      let same : last.region ≡ first.region = cc in
      let top : below_address a.base 8 < first.region.span.to =
      subst (λ z. below_address a.base 8 < z.span.to) same last.held.1 in
      let up = frame_high a.base base_fits frame.aligned
      (stack_high cfg frame.stack (below_address a.base 40) valid frame.first)
      (stack_high cfg frame.stack (below_address a.base 8) valid frame.last) in
      let there = subst (λ z. InBytes x z 8) w.address inside in
      let between = frame_near a.base x (i - 39) first.region.span.from first.region.span.to base_fits up frame.aligned
      first.is.aligned.1 first.held.0 top (omega (arith, low)) (omega (arith, high)) here there in
      (first.region, first.numbered, between.0, between.1)

-- ---- words below the tops of marked stacks

filter_step : {X : Type 0} (q : X → Bool) (y : X) (ys : List X) (x : X)
    → ((m : ℕ) → slice_get (filter q ys) m ≡ Some x → (j : ℕ) × (slice_get ys j ≡ Some x))
    → (b : Bool) (m : ℕ) → slice_get (cond b (y ∷ filter q ys) (filter q ys)) m ≡ Some x
    → (j : ℕ) × (slice_get (y ∷ ys) j ≡ Some x)
filter_step q y ys x deeper true zero e = (0, e)
filter_step q y ys x deeper true (suc m) e = let p = deeper m e in (suc p.0, p.1)
filter_step q y ys x deeper false m e = let p = deeper m e in (suc p.0, p.1)

filter_in : {X : Type 0} (q : X → Bool) (xs : List X) (x : X) (m : ℕ) → slice_get (filter q xs) m ≡ Some x
    → (j : ℕ) × (slice_get xs j ≡ Some x)
filter_in q [] x m e = absurd cc
filter_in q (y ∷ ys) x m e = filter_step q y ys x (λ n h. filter_in q ys x n h) (q y) m e

-- the word of this slot below the top of a marked stack
pub record IsMarkedWord (cfg : Description) (i : ℕ) (l : Location) : Type 0 where
  pub region : Region
  pub stack : ℕ
  pub listed : slice_get (marked_of cfg.regions) ((i - 104) / 64) ≡ Some region
  pub numbered : stack_at cfg.regions stack ≡ Some region
  pub is : IsStackAt region
  pub top : stack_of cfg.regions (below_address region.span.to 1) ≡ Some stack
  pub at : l ≡ Number (below_address region.span.to (8 * ((i - 104) % 64 + 1)))

marked_by : (cfg : Description) (i : ℕ) (o : Option Region) (l : Location) → IsValid cfg
    → slice_get (marked_of cfg.regions) ((i - 104) / 64) ≡ o
    → option_map (λ r. Number (below_address r.span.to (8 * ((i - 104) % 64 + 1)))) o ≡ Some l → IsMarkedWord cfg i l
marked_by cfg i (Some r) l valid listed e =
    let among = filter_in (λ z. z.marked) (stacks_of cfg.regions) r ((i - 104) / 64) listed in
    let is = (laid cfg valid).stacks among.0 r among.1 in
    let last : below_address r.span.to 1 ≡ r.span.to - 1 = omega (arith, is.filled, is.ends) in
    let top : stack_of cfg.regions (r.span.to - 1) ≡ Some among.0 =
    (laid cfg valid).stack_bytes among.0 r (r.span.to - 1) among.1 (omega (arith, is.filled), omega (arith, is.filled))
    in
    record {
      region = r;
      stack = among.0;
      listed = listed;
      numbered = among.1;
      is = is;
      top = ap (stack_of cfg.regions) last ∙ top;
      at = sym (some_is (Number (below_address r.span.to (8 * ((i - 104) % 64 + 1)))) l e);
    }
marked_by cfg i None l valid listed e = absurd cc

pub marked_word_at : (cfg : Description) (key : Key) (i : ℕ) (l : Location) → IsValid cfg → 104 ≤ i
    → word_of cfg key i ≡ Some l → IsMarkedWord cfg i l
marked_word_at cfg key i l valid low e =
    marked_by cfg i (slice_get (marked_of cfg.regions) ((i - 104) / 64)) l valid refl
    (sym (slot_of_top cfg key i low) ∙ e)

top_near : (x n from to : ℕ) → from < to → 2 ^ 63 + 4096 ≤ from → to ≤ 2 ^ 64 - 16 → 1 ≤ n → n ≤ 64 → x < 2 ^ 64
    → InBytes x (below_address to (8 * n)) 8 → (from ≤ x + 4096) × (x < to)
top_near x n from to filled begins ends low few here inside =
    let at : below_address to (8 * n) ≡ to - 8 * n = omega (arith, filled, begins, ends, low, few) in
    let whole = subst (λ z. InBytes x z 8) at inside in
    let between = rising_byte x (to - 8 * n) 8 here (omega (arith, ends)) (omega (arith, ends, low)) whole in
    (omega (arith, between.0, filled, few), omega (arith, between.1, low, filled, begins))

pub marked_zone : (cfg : Description) (i x base : ℕ) (l : Location) (w : IsMarkedWord cfg i l) → x < 2 ^ 64
    → InBytes x (address_of base l) 8 → InZone cfg.regions w.stack x
marked_zone cfg i x base l w here inside =
    let there = subst (λ z. InBytes x (address_of base z) 8) w.at inside in
    let between = top_near x ((i - 104) % 64 + 1) w.region.span.from w.region.span.to w.is.filled w.is.begins w.is.ends
    (omega arith) (omega arith) here there in
    (w.region, w.numbered, between.0, between.1)
