-- A value that is moved by a known number. The bits are those of a sum. The symbol of the base moves with its offset;
-- its set of places stays only where the key has no base and the number moves up, not past the base: from an address of
-- the stack towards the base, which lies in it too.
use Rattle.std.proofs.Common.{◌≡◌, ℕ, ◌+◌, ◌-◌, ◌^◌, ◌<◌, ◌≤◌, ◌⊎◌, ◌&&◌, int_le, inl, inr, true, false, List, length, Option, Some, None, IfSome, ℤ, pos, neg_ℤ, ◌+ℤ◌, ◌≤ℤ◌, refl, sym, ap, ◌∙◌, subst, arith}
use Rattle.std.specs.Prelude.{FitsSigned}
use Rattle.std.specs.Int.{w64, cast_unsigned, bit_at}
use Rattle.std.proofs.lemmas.Int.{ints}
use Rattle.std.proofs.lemmas.Bool.{false≢true, cases_eq, eqb-true, and_parts, cond_both}
use Rattle.std.proofs.lemmas.Nat.Bits.{bit_at-pow_same, bit_at-pow_other}
use Rattle.kc_words.specs.Span.{Holds}
use Rattle.kc_bits.specs.Bits.{all_of, bits_add, word}
use Rattle.kc_bits.proofs.Sums.{add_valid, add_sound}
use Rattle.kc_bits.proofs.Whole.{all_stands}
use Rattle.kc_regions.specs.Description.{Description}
use Rattle.kc_regions.specs.Layout.{InBytes}
use Rattle.kc_regions.specs.Permission.{in_guard}
use Rattle.kc_regions.specs.Region.{stacks_of, stack_of, stack_at}
use Rattle.kc_regions.specs.Valid.{IsValid}
use Rattle.kc_regions.specs.declared.touch.Touch.TheVariants.{Write}
use Rattle.kc_regions.proofs.LayoutLemmas.{laid}
use Rattle.kc_rules.proofs.AnswerLemmas.{some_is}
use Rattle.kc_space.specs.declared.map.MapState.{MapState}
use Rattle.kc_exec.specs.declared.state.Activation.{Activation}
use Rattle.kc_value.specs.AbsValue.{AbsValue}
use Rattle.kc_value.specs.Place.{place_bit, LiesIn}
use Rattle.kc_value.specs.Symbol.{Names, IsSym}
use Rattle.kc_value.specs.Value.{IsValidValue, Represents, all_places}
use Rattle.kc_value.specs.declared.env.ValueEnv.{ValueEnv}
use Rattle.kc_value.specs.declared.symbol.Sym.{Sym}
use Rattle.kc_value.specs.declared.symbol.Sym.TheVariants.{Plain, Base, Entry, UserGs}
use Rattle.kc_state.specs.Access.{may}
use Rattle.kc_state.specs.AbsEffect.{on_stack, only_stack}
use Rattle.kc_state.specs.Location.{location_of}
use Rattle.kc_state.specs.Shift.{is_offset, is_only_stack, has_no_base, shifted_places, based, moved_bits, shifted_from, shifted}
use Rattle.kc_state.specs.declared.key.Key.{Key}
use Rattle.kc_state.specs.declared.location.Location.{Location}
use Rattle.kc_state.specs.declared.location.Location.TheVariants.{Number, Relative}
use Rattle.kc_describes.specs.Chain.{newest_of, env_of}
use Rattle.kc_describes.specs.Fits.{ChainFits}
use Rattle.kc_describes.specs.Places.{address_of}
use Rattle.kc_describes.proofs.LocationLemmas.{in_stack, relative_key, located}
use Rattle.kc_describes.proofs.OffsetLemmas.{moved_up_stays}
use Rattle.kc_describes.proofs.PermissionLemmas.{int_le-true, relative_zone}
use Rattle.kc_describes.proofs.ValidLemmas.{all_valid, offset_fits, shifted_valid}
use Rattle.kc_describes.proofs.ValueLemmas.{bits_stand, nothing_stands, anywhere, lies_in, lies_at}

-- a move by a signed number of 64 bits, or up by 2^63
abbrev pub IsMove : ℤ → Type 0
IsMove c = FitsSigned w64 c ⊎ (c ≡ pos (2 ^ 63))

pub cast_bound : (c : ℤ) → IsMove c → cast_unsigned w64 c < 2 ^ 64
cast_bound c (inl fits) = omega (arith, ints, fits)
cast_bound c (inr is) = let half : cast_unsigned w64 c ≡ 2 ^ 63 = ap (cast_unsigned w64) is in omega (arith, half)

move_bound : (c : ℤ) → IsMove c → c ≤ℤ pos (2 ^ 63)
move_bound c (inl fits) = omega (arith, ints, fits)
move_bound c (inr is) = omega (arith, ints, is)

-- moving twice is moving by the sum
moved_sum : (base n : ℕ) (k c : ℤ) → FitsSigned w64 k → FitsSigned w64 (k +ℤ c) → IsMove c
    → n ≡ word (base + cast_unsigned w64 k)
    → word (n + cast_unsigned w64 c) ≡ word (base + cast_unsigned w64 (k +ℤ c))
moved_sum base n k c fits sum (inl move) is = omega (arith, ints, fits, sum, move, is)
moved_sum base n k c fits sum (inr half) is =
    let up : cast_unsigned w64 c ≡ 2 ^ 63 = ap (cast_unsigned w64) half in
    omega (arith, ints, fits, sum, half, up, is)

-- ---- sets of places

one_bit : (set s j : ℕ) → set ≡ 2 ^ s → bit_at set j ≡ 1 → j ≡ s
one_bit set s j is h = elim (cases_eq j s) [
  | inl e ↦ e
  | inr other ↦
      let none : bit_at set j ≡ 0 = ap (λ z. bit_at z j) is ∙ bit_at-pow_other s j other in
      absurd (omega (arith, none, h))
]

place_from : (o : Option ℕ) (s : ℕ) → s < 16 → place_bit o ≡ s → o ≡ Some s
place_from (Some t) s few e = ap (λ z. Some z) e
place_from None s few e = absurd (omega (arith, few, e))

-- the key's stack alone
record IsOwnPlace (key : Key) (set : ℕ) : Type 0 where
  stack : ℕ
  named : key.stack ≡ Some stack
  only : set ≡ 2 ^ stack

own_place : (key : Key) (set : ℕ) (o : Option ℕ) → key.stack ≡ o → is_only_stack set o ≡ true → IsOwnPlace key set
own_place key set (Some s) named h = record { stack = s; named = named; only = eqb-true set (2 ^ s) h }
own_place key set None named h = absurd cc

none_based : (o : Option ℕ) → has_no_base o ≡ true → o ≡ None
none_based None h = refl
none_based (Some b) h = absurd cc

-- ---- moves

module _ (cfg : Description) (valid : IsValid cfg) (key : Key) (chain : List Activation)
    (F : ChainFits cfg key chain) where
  abbrev base : ℕ
  base = (newest_of chain).base

  abbrev env : ValueEnv
  env = env_of cfg chain

  bits_moved : (v : AbsValue) (n : ℕ) (c : ℤ) → IsValidValue v → n < 2 ^ 64 → Represents v env n → IsMove c
      → Represents (moved_bits cfg v c) env (word (n + cast_unsigned w64 c))
  bits_moved v n c ok fits r move =
      let m = cast_unsigned w64 c in
      let small = cast_bound c move in
      bits_stand cfg valid env refl (bits_add v.bits (all_of m)) (word (n + m)) (add_valid v.bits (all_of m))
      (omega arith)
      (add_sound v.bits (all_of m) ok.bits_fit (all_valid m small) n m fits small r.bits (all_stands m small))

  stack_few : (s : ℕ) → key.stack ≡ Some s → s < 16
  stack_few s named =
      let rule : s < length (stacks_of cfg.regions) =
      subst (λ (o : Option ℕ). IfSome o (λ z. z < length (stacks_of cfg.regions))) named F.fits.rules.stack in
      omega (arith, rule, (laid cfg valid).stack_count)

  -- where the set of places stays, the number is still in the key's stack
  stays_in : (v : AbsValue) (n : ℕ) (k c : ℤ) → Represents v env n → FitsSigned w64 k → FitsSigned w64 (k +ℤ c)
      → IsMove c → n ≡ word (base + cast_unsigned w64 k) → IsOwnPlace key v.stacks → key.base ≡ None → pos 0 ≤ℤ c
      → (k +ℤ c) ≤ℤ pos 0 → LiesIn v.stacks env.stacks (word (n + cast_unsigned w64 c))
  stays_in v n k c r fits sum move is own none up stops =
      let K = relative_key cfg key env.user_gs (newest_of chain) own.stack F.fits none own.named in
      let few = stack_few own.stack own.named in
      let bit = lies_in cfg valid v.stacks n r.place in
      let at : stack_of cfg.regions n ≡ Some own.stack =
      place_from (stack_of cfg.regions n) own.stack few
      (one_bit v.stacks own.stack (place_bit (stack_of cfg.regions n)) own.only bit) in
      let same_stack : K.stack ≡ own.stack = some_is K.stack own.stack (sym K.named ∙ own.named) in
      let b = in_stack cfg K.stack base valid K.at in
      let here = in_stack cfg own.stack n valid at in
      let one : here.region ≡ b.region = some_is here.region b.region
      (sym here.numbered ∙ ap (stack_at cfg.regions) (sym same_stack) ∙ b.numbered) in
      let low : b.region.span.from ≤ n = subst (λ z. z.span.from ≤ n) one here.held.0 in
      let there = moved_up_stays b.region.span.from b.region.span.to base k c (omega (arith, b.is.begins)) b.held.0
      b.held.1 (omega (arith, b.is.ends)) fits (move_bound c move) (subst (λ z. b.region.span.from ≤ z) is low) up
      stops in
      let target = word (n + cast_unsigned w64 c) in
      let moved = moved_sum base n k c fits sum move is in
      let held : Holds b.region.span target =
      (subst (λ z. b.region.span.from ≤ z) (sym moved) there.0, subst (λ z. z < b.region.span.to) (sym moved) there.1)
      in
      let found = (laid cfg valid).stack_bytes K.stack b.region target b.numbered held in
      lies_at cfg valid v.stacks target
      (ap (λ o. bit_at v.stacks (place_bit o)) found ∙ ap (λ z. bit_at v.stacks z) same_stack
      ∙ ap (λ z. bit_at z own.stack) own.only ∙ bit_at-pow_same own.stack)

  -- where the set stays, and where it doesn't
  moved_places : (v : AbsValue) (n : ℕ) (k c : ℤ) → Represents v env n → FitsSigned w64 k → FitsSigned w64 (k +ℤ c)
      → IsMove c → n ≡ word (base + cast_unsigned w64 k)
      → LiesIn (shifted_places key v.stacks c (k +ℤ c)) env.stacks (word (n + cast_unsigned w64 c))
  moved_places v n k c r fits sum move is =
      let up = int_le (pos 0) c in
      let stops = int_le (k +ℤ c) (pos 0) in
      let target = word (n + cast_unsigned w64 c) in
      cond_both (is_only_stack v.stacks key.stack && (has_no_base key.base && (up && stops))) v.stacks all_places
      (λ set. LiesIn set env.stacks target)
      (λ h.
      let p = and_parts (is_only_stack v.stacks key.stack) (has_no_base key.base && (up && stops)) h in
      let q = and_parts (has_no_base key.base) (up && stops) p.1 in
      let t = and_parts up stops q.1 in
      stays_in v n k c r fits sum move is (own_place key v.stacks key.stack refl p.0) (none_based key.base q.0)
      (int_le-true (pos 0) c t.0) (int_le-true (k +ℤ c) (pos 0) t.1))
      (λ h. anywhere cfg valid env refl target)

  by_symbol : (v : AbsValue) (n : ℕ) (c : ℤ) (s : Sym) → IsValidValue v → n < 2 ^ 64 → Represents v env n → IsMove c
      → IsSym s → Names s env n
      → Represents (shifted_from cfg key v c s) env (word (n + cast_unsigned w64 c))
  by_symbol v n c (Base k) ok fits r move sym_fits names =
      let target = word (n + cast_unsigned w64 c) in
      cond_both (is_offset (k +ℤ c)) (based (k +ℤ c) (shifted_places key v.stacks c (k +ℤ c))) (moved_bits cfg v c)
      (λ z. Represents z env target)
      (λ h.
      let sum = offset_fits cfg valid (k +ℤ c) h in
      record {
        symbol = moved_sum base n k c sym_fits sum move names;
        bits = nothing_stands target;
        place = moved_places v n k c r sym_fits sum move names;
      })
      (λ h. bits_moved v n c ok fits r move)
  by_symbol v n c Plain ok fits r move sym_fits names = bits_moved v n c ok fits r move
  by_symbol v n c (Entry w) ok fits r move sym_fits names = bits_moved v n c ok fits r move
  by_symbol v n c UserGs ok fits r move sym_fits names = bits_moved v n c ok fits r move

  -- a value that is moved stands for the sum
  pub shift_stands : (v : AbsValue) (n : ℕ) (c : ℤ) → IsValidValue v → n < 2 ^ 64 → Represents v env n → IsMove c
      → Represents (shifted cfg key v c) env (word (n + cast_unsigned w64 c))
  shift_stands v n c ok fits r move = by_symbol v n c v.sym ok fits r move ok.sym_fits r.symbol

  -- ---- a push

  -- the 8 bytes below n
  abbrev pub below_8 : ℕ → ℕ
  below_8 n = word (n + (2 ^ 64 - 8))

  pub push_move : IsMove (neg_ℤ (pos 8))
  push_move = inl (omega (arith, ints))

  -- RSP after a push: where it is an offset, it lies in the stack of the key
  abbrev pub pushed_value : AbsValue → AbsValue
  pushed_value v =
      on_stack key (shifted cfg key v (neg_ℤ (pos 8))) (location_of key (shifted cfg key v (neg_ℤ (pos 8))))

  pushed_at : (u : AbsValue) (n : ℕ) (map : MapState) (o : Option Location) → location_of key u ≡ o → IsValidValue u
      → n < 2 ^ 64 → Represents u env n
      → ((l : Location) → o ≡ Some l → may cfg key map l 8 Write ≡ true)
      → ((x : ℕ) → x < 2 ^ 64 → InBytes x n 8 → in_guard cfg.regions x ≡ false)
      → Represents (on_stack key u o) env n
  pushed_at u n map None e ok fits r permitted unguarded = r
  pushed_at u n map (Some (Number a)) e ok fits r permitted unguarded = r
  pushed_at u n map (Some (Relative k)) e ok fits r permitted unguarded =
      let at = located cfg key env.user_gs (newest_of chain) F.fits env refl n fits u (Relative k) ok r e in
      let K = at.0.1 in
      let first : InBytes n n 8 = omega (arith, fits) in
      let inside : InBytes n (address_of base (Relative k)) 8 = subst (λ z. InBytes n z 8) (sym at.1) first in
      let zone = relative_zone cfg valid key base K map k 8 n Write at.0.0 (permitted (Relative k) refl) fits inside in
      let there : stack_of cfg.regions n ≡ Some K.stack = elim ((laid cfg valid).zone_byte K.stack n zone) [
        | inl s ↦ s
        | inr g ↦ absurd (false≢true (sym (unguarded n fits first) ∙ g))
      ] in
      let places : only_stack key.stack ≡ 2 ^ K.stack = ap only_stack K.named in
      record {
        symbol = r.symbol;
        bits = r.bits;
        place = lies_at cfg valid (only_stack key.stack) n
            (ap (λ o. bit_at (only_stack key.stack) (place_bit o)) there ∙ ap (λ z. bit_at z K.stack) places
            ∙ bit_at-pow_same K.stack);
      }

  -- RSP after a push that may be made and isn't stopped by a guard
  pub push_stands : (v : AbsValue) (n : ℕ) (map : MapState) → IsValidValue v → n < 2 ^ 64 → Represents v env n
      → ((l : Location) → location_of key (shifted cfg key v (neg_ℤ (pos 8))) ≡ Some l
      → may cfg key map l 8 Write ≡ true)
      → ((x : ℕ) → x < 2 ^ 64 → InBytes x (below_8 n) 8 → in_guard cfg.regions x ≡ false)
      → Represents (pushed_value v) env (below_8 n)
  push_stands v n map ok fits r permitted unguarded =
      let u = shifted cfg key v (neg_ℤ (pos 8)) in
      pushed_at u (below_8 n) map (location_of key u) refl (shifted_valid cfg valid key v (neg_ℤ (pos 8)) ok)
      (omega arith) (shift_stands v n (neg_ℤ (pos 8)) ok fits r push_move) permitted unguarded

  -- such an RSP, where it is an offset, lies in the stack of the key
  pub push_stack : (v : AbsValue) (n : ℕ) (map : MapState) (k : ℤ) → IsValidValue v → n < 2 ^ 64 → Represents v env n
      → location_of key (shifted cfg key v (neg_ℤ (pos 8))) ≡ Some (Relative k)
      → may cfg key map (Relative k) 8 Write ≡ true
      → ((x : ℕ) → x < 2 ^ 64 → InBytes x (below_8 n) 8 → in_guard cfg.regions x ≡ false)
      → stack_of cfg.regions (below_8 n) ≡ key.stack
  push_stack v n map k ok fits r e permitted unguarded =
      let u = shifted cfg key v (neg_ℤ (pos 8)) in
      let target = below_8 n in
      let here : target < 2 ^ 64 = omega arith in
      let at = located cfg key env.user_gs (newest_of chain) F.fits env refl target here u (Relative k)
      (shifted_valid cfg valid key v (neg_ℤ (pos 8)) ok) (shift_stands v n (neg_ℤ (pos 8)) ok fits r push_move) e in
      let K = at.0.1 in
      let first : InBytes target target 8 = omega arith in
      let inside : InBytes target (address_of base (Relative k)) 8 =
      subst (λ z. InBytes target z 8) (sym at.1) first in
      let zone = relative_zone cfg valid key base K map k 8 target Write at.0.0 permitted here inside in
      elim ((laid cfg valid).zone_byte K.stack target zone) [
        | inl s ↦ s ∙ sym K.named
        | inr g ↦ absurd (false≢true (sym (unguarded target here first) ∙ g))
      ]
