-- The bytes that a handler may use on its stack. They lie below the return address, to which the state's RSP points, so
-- they are those that the call's changes count; and the state is one that these changes leave as it is, so a slot which
-- they hit is the top.
use Rattle.std.proofs.Common.{◌≡◌, ℕ, suc, ◌+◌, ◌-◌, ◌^◌, ◌<◌, ◌≤◌, ◌||◌, true, List, [], ◌∷◌, length, Option, Some, None, inl, inr, Bool, All, ℤ, pos, neg_ℤ, int_le, refl, sym, ap, ◌∙◌, subst, arith}
use Rattle.std.specs.Prelude.{FitsSigned}
use Rattle.std.specs.Int.{w64, cast_unsigned, bit_at, int_wrapping_sub}
use Rattle.std.proofs.lemmas.Int.{ints, of_z-to_z, wrapping_sub_is, SFits-int_wrap}
use Rattle.std.proofs.lemmas.Bool.{false≢true, and_parts, cases_eq, cond-true, cond_both, eqb-true}
use Rattle.std.proofs.lemmas.Nat.Bits.{bit_at-pow_other}
use Rattle.kc_words.specs.Span.{Holds}
use Rattle.kc_bits.specs.Bits.{word}
use Rattle.kc_frames.specs.Slots.{slot_count, redone}
use Rattle.kc_regions.specs.Description.{Description}
use Rattle.kc_regions.specs.Layout.{InBytes, InZone}
use Rattle.kc_regions.specs.Region.{stack_of}
use Rattle.kc_regions.specs.Valid.{IsValid}
use Rattle.kc_regions.specs.declared.entry.Handler.{Handler}
use Rattle.kc_regions.specs.declared.region.Region.{Region}
use Rattle.kc_regions.proofs.LayoutLemmas.{laid}
use Rattle.kc_rules.proofs.AnswerLemmas.{some_is}
use Rattle.kc_cpu.specs.declared.cpu.Call.{Call}
use Rattle.kc_cpu.specs.declared.cpu.Cpu.{Cpu}
use Rattle.kc_exec.specs.declared.state.Activation.{Activation}
use Rattle.kc_events.specs.Allowed.{IsFree}
use Rattle.kc_value.specs.AbsValue.{AbsValue}
use Rattle.kc_value.specs.Place.{place_bit}
use Rattle.kc_value.specs.Value.{Represents, value_top}
use Rattle.kc_state.specs.AbsEffect.{moment_of}
use Rattle.kc_state.specs.Calls.{moved_down, moved_up, used, edited_by, edited, with_edits, frame_of, called_at, called}
use Rattle.kc_state.specs.Conditions.{is_exact_at}
use Rattle.kc_state.specs.Location.{location_of}
use Rattle.kc_state.specs.Memory.{hits, is_just, meets_word}
use Rattle.kc_state.specs.Operand.{AbsMoment}
use Rattle.kc_state.specs.Places.{below_address, location_stack, word_of}
use Rattle.kc_state.specs.Shift.{is_only_stack}
use Rattle.kc_state.specs.State.{IsState}
use Rattle.kc_state.specs.declared.key.Key.{Key}
use Rattle.kc_state.specs.declared.location.Location.{Location}
use Rattle.kc_state.specs.declared.location.Location.TheVariants.{Number, Relative}
use Rattle.kc_state.specs.declared.state.AbsState.{AbsState}
use Rattle.kc_describes.specs.Chain.{newest_of, env_of}
use Rattle.kc_describes.specs.Fits.{ChainFits}
use Rattle.kc_describes.specs.Inside.{IsHandlerRunning}
use Rattle.kc_describes.specs.Places.{address_of}
use Rattle.kc_describes.specs.Row.{value_at}
use Rattle.kc_describes.specs.Widths.{IsActivation}
use Rattle.kc_describes.proofs.ChainLemmas.{newest_base}
use Rattle.kc_describes.proofs.HitLemmas.{Hitting, hits_cover}
use Rattle.kc_describes.proofs.LocationLemmas.{in_stack, IsRelativeKey, IsAt, located}
use Rattle.kc_describes.proofs.OperandLemmas.{value_at_valid}
use Rattle.kc_describes.proofs.SlotLemmas.{get_or-redone}
use Rattle.kc_describes.proofs.ValueLemmas.{lies_in}
use Rattle.kc_body.specs.Body.{IsExactInside}

-- ---- the bytes below a location

word_offset : (k : ℤ) → FitsSigned w64 k → cast_unsigned w64 k < 2 ^ 64
word_offset k fits = omega (arith, ints, fits)

-- an offset that moves down, as words do
offset_down : (k : ℤ) (depth : ℕ)
    → cast_unsigned w64 (int_wrapping_sub w64 k (pos depth)) ≡ word (cast_unsigned w64 k + (2 ^ 64 - depth))
offset_down k depth = of_z-to_z w64 (word (cast_unsigned w64 k + (2 ^ 64 - depth))) (omega arith)

offset_fits : (k : ℤ) (depth : ℕ) → FitsSigned w64 k → depth < 2 ^ 63
    → FitsSigned w64 (int_wrapping_sub w64 k (pos depth))
offset_fits k depth fits few =
    let small : FitsSigned w64 (pos depth) = omega (arith, ints, few) in
    subst (FitsSigned w64) (sym (wrapping_sub_is w64 k (pos depth) fits small)) (SFits-int_wrap w64 _)

sum_down : (base u depth : ℕ) → depth < 2 ^ 63
    → word (base + word (u + (2 ^ 64 - depth))) ≡ below_address (word (base + u)) depth
sum_down base u depth few = omega (arith, few)

address_down : (base depth : ℕ) (k : ℤ) → depth < 2 ^ 63
    → address_of base (moved_down (Relative k) depth) ≡ below_address (address_of base (Relative k)) depth
address_down base depth k few =
    ap (λ z. word (base + z)) (offset_down k depth) ∙ sum_down base (cast_unsigned w64 k) depth few

-- the bytes from depth bytes below a up to it
below_bytes : (x a depth : ℕ) → a < 2 ^ 64 → depth ≤ a → a ≤ x + depth → x < a → InBytes x (below_address a depth) depth
below_bytes x a depth fits some low high = omega (arith, fits, some, low, high)

-- ---- slots that the call's changes hit

length-redone : {V : Type 0} (f : ℕ → V → V) (i : ℕ) (vs : List V) → length (redone f i vs) ≡ length vs
length-redone f i [] = refl
length-redone f i (v ∷ vs) = ap suc (length-redone f (suc i) vs)

-- every edit keeps the top
edit_top : (w : Option Location) (l : Location) → edited_by w l value_top ≡ value_top
edit_top w l =
    let P = λ (z : AbsValue). z ≡ value_top in
    cond_both (is_just l 8 w) _ _ P (λ h. refl)
    (λ h. cond_both (is_just (moved_up l 16) 8 w) _ _ P (λ g. refl)
    (λ g. cond_both (is_just (moved_up l 24) 8 w) _ _ P (λ k. refl)
    (λ k. cond_both (meets_word l 8 w || (meets_word (moved_up l 16) 8 w || meets_word (moved_up l 24) 8 w)) _ _ P
    (λ m. refl) (λ m. refl))))

-- slot i may have a byte of the handler's part of its stack, where RSP points to l
abbrev is_hit_from : Description → Key → Handler → Location → ℕ → Bool
is_hit_from cfg key h l i = hits cfg key (location_stack cfg key (Some l)) (moved_down l h.stack) h.stack i

module _ (cfg : Description) (key : Key) (h : Handler) (s : AbsState) (count : length s.slots ≡ slot_count) where
  abbrev hit : Location → ℕ → Bool
  hit l i = is_hit_from cfg key h l i

  abbrev after_use : Location → List AbsValue
  after_use l = redone (used cfg key l h.stack) 0 s.slots

  used_at : (l : Location) (i : ℕ) → i < slot_count → hit l i ≡ true → value_at (after_use l) i ≡ value_top
  used_at l i below is =
      let number : 0 + i ≡ i = omega arith in
      get_or-redone (used cfg key l h.stack) value_top 0 i s.slots (omega (arith, below, count))
      ∙ ap (λ n. used cfg key l h.stack n (value_at s.slots i)) number
      ∙ cond-true (hit l i) value_top (value_at s.slots i) is

  edited_at : (l m : Location) (i : ℕ) → i < slot_count → hit l i ≡ true
      → value_at (redone (edited cfg key m) 0 (after_use l)) i ≡ value_top
  edited_at l m i below is =
      let number : 0 + i ≡ i = omega arith in
      let long = length-redone (used cfg key l h.stack) 0 s.slots in
      get_or-redone (edited cfg key m) value_top 0 i (after_use l) (omega (arith, below, count, long))
      ∙ ap (λ n. edited cfg key m n (value_at (after_use l) i)) number
      ∙ ap (edited cfg key m i) (used_at l i below is) ∙ edit_top (word_of cfg key i) m

  by_frame : (l : Location) (frame : Option ℕ) (i : ℕ) → i < slot_count → hit l i ≡ true
      → value_at (with_edits cfg key frame l (record s { slots = after_use l })).slots i ≡ value_top
  by_frame l None i below is = used_at l i below is
  by_frame l (Some f) i below is = edited_at l (moved_up l f) i below is

  -- in a state that the changes of the call leave as it is, a slot that they hit is the top
  hit_is_top : (l : Location) → location_of key (value_at s.regs 4) ≡ Some l → called cfg key h s ≡ s → (i : ℕ)
      → i < slot_count → hit l i ≡ true → value_at s.slots i ≡ value_top
  hit_is_top l named changed i below is =
      let same : called_at cfg key h s (Some l) ≡ s = sym (ap (called_at cfg key h s) named) ∙ changed in
      sym (ap (λ (t : AbsState). value_at t.slots i) same) ∙ by_frame l (frame_of key h) i below is

-- ---- the handler's part of its stack

module _ (cfg : Description) (valid : IsValid cfg) (key : Key) (chain : List Activation) (F : ChainFits cfg key chain)
    (typed : All IsActivation chain) (s : AbsState) (is : IsState s) (call : Call) (fits : call.rsp < 2 ^ 64)
    (rsp : Represents (value_at s.regs 4) (env_of cfg chain) call.rsp) (exact : IsExactInside cfg key s) (cpu : Cpu)
    (h : Handler) (R : IsHandlerRunning cfg key s chain cpu call h) where
  abbrev base : ℕ
  base = (newest_of chain).base

  abbrev m : AbsMoment
  m = moment_of cfg key s 0

  abbrev pointer : AbsValue
  pointer = value_at s.regs 4

  abbrev region : Region
  region = R.stack.region

  -- RSP at the call, as the state knows it
  pub record IsPointer : Type 0 where
    pub location : Location
    pub named : location_of key pointer ≡ Some location
    pub at : IsAt cfg key base call.rsp location
    pub known : is_exact_at m true pointer (Some location) ≡ true

  pointer_by : (o : Option Location) → location_of key pointer ≡ o → is_exact_at m true pointer o ≡ true → IsPointer
  pointer_by (Some l) named h = record {
    location = l;
    named = named;
    at = located cfg key (env_of cfg chain).user_gs (newest_of chain) F.fits (env_of cfg chain) refl call.rsp fits
        pointer l (value_at_valid s.regs 4 is.regs) rsp named;
    known = h;
  }
  pointer_by None named h = absurd (false≢true h)

  pub pointer_is : IsPointer
  pointer_is =
      let o = location_of key pointer in
      pointer_by o refl (and_parts _ (is_exact_at m true pointer o) exact).1

  -- the return address lies in the stack, which has the handler's bytes below it
  record IsRoom : Type 0 where
    low : region.span.from ≤ call.rsp
    high : call.rsp < region.span.to
    begins : 2 ^ 63 + 4096 ≤ region.span.from
    ends : region.span.to ≤ 2 ^ 64 - 16
    deep : h.stack ≤ call.rsp
    few : h.stack < 2 ^ 63

  room_is : IsRoom
  room_is =
      let there = in_stack cfg R.stack.stack call.rsp valid R.stack.holds in
      let same : there.region ≡ region = some_is there.region region (sym there.numbered ∙ R.stack.numbered) in
      let held = subst (λ (r : Region). Holds r.span call.rsp) same there.held in
      let own = (laid cfg valid).stacks R.stack.stack region R.stack.numbered in
      record {
        low = held.0;
        high = held.1;
        begins = own.begins;
        ends = own.ends;
        deep = omega (arith, R.stack.room, own.begins);
        few = omega (arith, R.stack.room, own.begins, own.ends, held.1);
      }

  own_zone : (x : ℕ) → Holds region.span x → InZone cfg.regions R.stack.stack x
  own_zone x held = (region, R.stack.numbered, omega (arith, held.0), held.1)

  -- of an offset, C4 says that RSP lies in the key's stack
  same_stack : (set s : ℕ) → set ≡ 2 ^ s → bit_at set (place_bit (stack_of cfg.regions call.rsp)) ≡ 1
      → R.stack.stack ≡ s
  same_stack set s only bit =
      let own : bit_at (2 ^ s) R.stack.stack ≡ 1 =
      sym (ap (λ z. bit_at z R.stack.stack) only) ∙ sym (ap (λ o. bit_at set (place_bit o)) R.stack.holds) ∙ bit in
      elim (cases_eq R.stack.stack s) [
        | inl e ↦ e
        | inr other ↦
            let none = bit_at-pow_other s R.stack.stack other in absurd (omega (arith, none, own))
      ]

  only_of : (set s : ℕ) (o : Option ℕ) → o ≡ Some s → is_only_stack set o ≡ true → set ≡ 2 ^ s
  only_of set s o named h = eqb-true set (2 ^ s) (subst (λ z. is_only_stack set z ≡ true) named h)

  key_zone : (K : IsRelativeKey cfg key base) (k : ℤ) → is_exact_at m true pointer (Some (Relative k)) ≡ true → (x : ℕ)
      → Holds region.span x → InZone cfg.regions K.stack x
  key_zone K k exact_at x held =
      let only = (and_parts (int_le (neg_ℤ (pos 4096)) k) (is_only_stack pointer.stacks key.stack) exact_at).1 in
      let same = same_stack pointer.stacks K.stack (only_of pointer.stacks K.stack key.stack K.named only)
      (lies_in cfg valid pointer.stacks call.rsp rsp.place) in
      subst (λ z. InZone cfg.regions z x) same (own_zone x held)

  -- a byte that the handler may use is one of those that the changes of the call count
  free_hits : (l : Location) → IsAt cfg key base call.rsp l → is_exact_at m true pointer (Some l) ≡ true → (x : ℕ)
      → x < 2 ^ 64 → IsFree call h.stack region x
      → Hitting cfg key base (location_stack cfg key (Some l)) (moved_down l h.stack) h.stack x
  free_hits (Number a) at exact_at x low free =
      let room = room_is in (
        omega arith,
        below_bytes x a h.stack at.0 (omega (arith, at.1, room.deep)) (omega (arith, at.1, free.bottom))
            (omega (arith, at.1, free.top)),
        λ t none named zone.
            let same = (laid cfg valid).one_zone R.stack.stack t x (own_zone x free.within) zone in
            ap (stack_of cfg.regions) at.1 ∙ R.stack.holds ∙ ap (λ z. Some z) same,
      )
  free_hits (Relative k) at exact_at x low free =
      let room = room_is in
      let bytes = below_bytes x (address_of base (Relative k)) h.stack (omega arith) (omega (arith, at.1, room.deep))
      (omega (arith, at.1, free.bottom)) (omega (arith, at.1, free.top)) in (
        offset_fits k h.stack at.0.0 room.few,
        at.0.1,
        subst (λ z. InBytes x z h.stack) (sym (address_down base h.stack k room.few)) bytes,
        key_zone at.0.1 k exact_at x free.within,
      )

  -- a slot with such a byte is hit, and a slot that is hit is the top
  abbrev pub is_hit : ℕ → Bool
  is_hit i = is_hit_from cfg key h pointer_is.location i

  pub free_is_hit : (i x : ℕ) (p : Location) → i < slot_count → word_of cfg key i ≡ Some p → x < 2 ^ 64
      → InBytes x (address_of base p) 8 → IsFree call h.stack region x → is_hit i ≡ true
  free_is_hit i x p below e low within free =
      let l = pointer_is.location in
      hits_cover cfg valid key (env_of cfg chain).user_gs (newest_of chain) F.fits (newest_base chain F.one_user typed)
      (location_stack cfg key (Some l)) (moved_down l h.stack) p h.stack i x low below
      (free_hits l pointer_is.at pointer_is.known x low free) e within

  pub top_if_hit : (i : ℕ) → i < slot_count → is_hit i ≡ true → value_at s.slots i ≡ value_top
  top_if_hit i below top =
      hit_is_top cfg key h s is.slots.1 pointer_is.location pointer_is.named R.changed i below top
