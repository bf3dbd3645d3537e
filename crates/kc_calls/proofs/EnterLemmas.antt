-- The push of a call: RSP after it is valid and stands for where the return address lies, which at an offset is the key's
-- stack; the other registers stay; and the slots stand for memory with the return address in it, as after each store.
use Rattle.std.proofs.Common.{◌≡◌, ◌≢◌, ℕ, suc, ◌+◌, ◌-◌, ◌^◌, ◌<◌, true, false, List, [], ◌∷◌, length, set, All, Option, Some, None, slice_index, get_or-set_same, get_or-set_other, pos, neg_ℤ, refl, sym, ap, ◌∙◌, subst, arith}
use Rattle.std.specs.Prelude.{IfSome}
use Rattle.std.proofs.lemmas.Bool.{cond_both}
use Rattle.std.proofs.lemmas.List.Elements.{All-nil, All-cons, All-head, All-tail}
use Rattle.std.proofs.lemmas.Nat.{pow_below}
use Rattle.kc_bits.specs.Bits.{word}
use Rattle.kc_frames.specs.Slots.{AreSlots, redone}
use Rattle.kc_regions.specs.Description.{Description}
use Rattle.kc_regions.specs.Layout.{InBytes}
use Rattle.kc_regions.specs.Permission.{in_guard}
use Rattle.kc_regions.specs.Region.{stacks_of}
use Rattle.kc_regions.specs.Valid.{IsValid}
use Rattle.kc_regions.specs.declared.touch.Touch.TheVariants.{Write}
use Rattle.kc_regions.proofs.LayoutLemmas.{laid}
use Rattle.kc_rules.proofs.AnswerLemmas.{some_is}
use Rattle.kc_cpu.specs.declared.cpu.Cpu.{Cpu}
use Rattle.kc_mem.specs.Memory.{Bytes, write}
use Rattle.kc_exec.specs.declared.state.Activation.{Activation}
use Rattle.kc_value.specs.AbsValue.{AbsValue}
use Rattle.kc_value.specs.Value.{IsValidValue, Represents, value_top}
use Rattle.kc_value.specs.declared.env.ValueEnv.{ValueEnv}
use Rattle.kc_state.specs.Access.{may}
use Rattle.kc_state.specs.AbsEffect.{on_stack, only_stack}
use Rattle.kc_state.specs.Location.{location_of}
use Rattle.kc_state.specs.Memory.{is_just, hits, stored}
use Rattle.kc_state.specs.Operand.{number_value}
use Rattle.kc_state.specs.Places.{location_stack, word_of}
use Rattle.kc_state.specs.Shift.{shifted}
use Rattle.kc_state.specs.State.{IsState}
use Rattle.kc_state.specs.declared.key.Key.{Key}
use Rattle.kc_state.specs.declared.location.Location.{Location}
use Rattle.kc_state.specs.declared.location.Location.TheVariants.{Number, Relative}
use Rattle.kc_state.specs.declared.state.AbsState.{AbsState}
use Rattle.kc_describes.specs.Chain.{newest_of, user_gs_of, env_of}
use Rattle.kc_describes.specs.Describes.{AreBaseSlotsTop}
use Rattle.kc_describes.specs.Fits.{ChainFits}
use Rattle.kc_describes.specs.Places.{SlotsStand}
use Rattle.kc_describes.specs.Row.{value_at, RegistersStand}
use Rattle.kc_describes.specs.Widths.{IsCpu, IsActivation}
use Rattle.kc_describes.proofs.LocationLemmas.{IsAt, located}
use Rattle.kc_describes.proofs.OperandLemmas.{AreRegisters, set_register, word_at, value_at_valid}
use Rattle.kc_describes.proofs.ShiftLemmas.{push_move, push_stands, push_stack, shift_stands}
use Rattle.kc_describes.proofs.StoreLemmas.{bare_redone, store_stands, stored_top}
use Rattle.kc_describes.proofs.ValidLemmas.{top_valid, number_valid, shifted_valid}
use Rattle.kc_describes.proofs.ValueLemmas.{number_stands}
use Rattle.kc_calls.proofs.CallerLemmas.{LiesInKeyStack}

-- ---- values

-- RSP after the push points where it would without its set of places
pub stacked : (key : Key) (v : AbsValue) (o : Option Location) → location_of key (on_stack key v o) ≡ location_of key v
stacked key v (Some (Number a)) = refl
stacked key v (Some (Relative k)) = refl
stacked key v None = refl

places_fit : (cfg : Description) (valid : IsValid cfg) (o : Option ℕ)
    → IfSome o (λ s. s < length (stacks_of cfg.regions)) → only_stack o < 2 ^ 17
places_fit cfg valid (Some s) rule = pow_below s 17 (omega (arith, rule, (laid cfg valid).stack_count))
places_fit cfg valid None rule = omega arith

on_stack_valid : (key : Key) (v : AbsValue) (o : Option Location) → only_stack key.stack < 2 ^ 17 → IsValidValue v
    → IsValidValue (on_stack key v o)
on_stack_valid key v (Some (Number a)) fits ok = ok
on_stack_valid key v (Some (Relative k)) fits ok =
    record { sym_fits = ok.sym_fits; bits_fit = ok.bits_fit; stacks_fit = fits }
on_stack_valid key v None fits ok = ok

-- ---- slots

redone_count : {V : Type 0} (f : ℕ → V → V) (i : ℕ) (vs : List V) → length (redone f i vs) ≡ length vs
redone_count f i [] = refl
redone_count f i (v ∷ vs) = ap suc (redone_count f (suc i) vs)

redone_all : (P : AbsValue → Type 0) (f : ℕ → AbsValue → AbsValue) (i : ℕ) (vs : List AbsValue)
    → ((j : ℕ) (v : AbsValue) → P v → P (f j v)) → All P vs → All P (redone f i vs)
redone_all P f i [] keeps all = All-nil P
redone_all P f i (v ∷ vs) keeps all =
    All-cons P (f i v) (redone f (suc i) vs) (keeps i v (All-head P v vs all))
    (redone_all P f (suc i) vs keeps (All-tail P v vs all))

-- ---- the push

module _ (cfg : Description) (valid : IsValid cfg) (key : Key) (chain : List Activation) (F : ChainFits cfg key chain)
    (typed : All IsActivation chain) (s : AbsState) (is : IsState s) (cpu : Cpu) (ok : IsCpu cpu)
    (stand : RegistersStand (env_of cfg chain) s cpu.regs cpu.flags) where
  abbrev env : ValueEnv
  env = env_of cfg chain

  abbrev rsp_value : AbsValue
  rsp_value = value_at s.regs 4

  abbrev rsp_word : ℕ
  rsp_word = slice_index cpu.regs 4

  abbrev moved : AbsValue
  moved = shifted cfg key rsp_value (neg_ℤ (pos 8))

  -- RSP after the push, and its number
  abbrev pub pushed_value : AbsValue
  pushed_value = on_stack key moved (location_of key moved)

  abbrev pub pushed_word : ℕ
  pushed_word = word (rsp_word + (2 ^ 64 - 8))

  abbrev pub IsOpenPush : Type 0
  IsOpenPush = (x : ℕ) → x < 2 ^ 64 → InBytes x pushed_word 8 → in_guard cfg.regions x ≡ false

  rsp_valid : IsValidValue rsp_value
  rsp_valid = value_at_valid s.regs 4 is.regs

  rsp_fits : rsp_word < 2 ^ 64
  rsp_fits = word_at cpu.regs 4 ok.regs.1

  rsp_stands : Represents rsp_value env rsp_word
  rsp_stands = stand.each 4 (omega arith)

  moved_valid : IsValidValue moved
  moved_valid = shifted_valid cfg valid key rsp_value (neg_ℤ (pos 8)) rsp_valid

  moved_stands : Represents moved env pushed_word
  moved_stands =
      shift_stands cfg valid key chain F rsp_value rsp_word (neg_ℤ (pos 8)) rsp_valid rsp_fits rsp_stands
      (push_move cfg valid key chain F)

  pushed_valid : IsValidValue pushed_value
  pushed_valid =
      on_stack_valid key moved (location_of key moved) (places_fit cfg valid key.stack F.fits.rules.stack) moved_valid

  module _ (l : Location) (there : location_of key pushed_value ≡ Some l)
      (permitted : may cfg key s.map l 8 Write ≡ true) (unguarded : IsOpenPush) where
    moved_there : location_of key moved ≡ Some l
    moved_there = sym (stacked key moved (location_of key moved)) ∙ there

    pub pushed_at : IsAt cfg key (newest_of chain).base pushed_word l
    pushed_at =
        located cfg key (user_gs_of chain) (newest_of chain) F.fits env refl pushed_word (omega arith) moved l
        moved_valid moved_stands moved_there

    pushed_stands : Represents pushed_value env pushed_word
    pushed_stands =
        push_stands cfg valid key chain F rsp_value rsp_word s.map rsp_valid rsp_fits rsp_stands
        (λ p e. subst (λ z. may cfg key s.map z 8 Write ≡ true) (some_is l p (sym moved_there ∙ e)) permitted) unguarded

    lies_by : (p : Location) → l ≡ p → LiesInKeyStack cfg key p pushed_word
    lies_by (Number a) e = tt
    lies_by (Relative k) e =
        push_stack cfg valid key chain F rsp_value rsp_word s.map k rsp_valid rsp_fits rsp_stands
        (moved_there ∙ ap (λ z. Some z) e) (subst (λ z. may cfg key s.map z 8 Write ≡ true) e permitted) unguarded

    pub pushed_lies : LiesInKeyStack cfg key l pushed_word
    pushed_lies = lies_by l refl

    -- ---- registers

    abbrev pub values : List AbsValue
    values = set s.regs 4 pushed_value

    abbrev pub regs : List ℕ
    regs = set cpu.regs 4 pushed_word

    registers_before : AreRegisters env s.regs cpu.regs
    registers_before = record {
      count = is.reg_count;
      valid = is.regs;
      size = ok.regs.0;
      words = ok.regs.1;
      stand = stand.each;
    }

    pub registers_after : AreRegisters env values regs
    registers_after =
        set_register cfg valid key chain F typed s.regs cpu.regs 4 pushed_word pushed_value registers_before
        pushed_valid (omega arith) pushed_stands

    pub rsp_set : slice_index regs 4 ≡ pushed_word
    rsp_set = get_or-set_same cpu.regs 4 pushed_word 0 (omega (arith, ok.regs.0))

    pub rsp_after : Represents (value_at values 4) env pushed_word
    rsp_after = subst (Represents (value_at values 4) env) rsp_set (registers_after.stand 4 (omega arith))

    -- a register other than RSP stands for what it was
    pub other_after : (i : ℕ) → i < 16 → i ≢ 4 → Represents (value_at values i) env (slice_index cpu.regs i)
    other_after i inside other =
        let same : slice_index regs i ≡ slice_index cpu.regs i = get_or-set_other cpu.regs 4 i pushed_word 0 other in
        subst (Represents (value_at values i) env) same (registers_after.stand i inside)

    -- ---- slots

    module _ (next : ℕ) (fits : next < 2 ^ 64) where
      abbrev pub slots : List AbsValue
      slots = redone (stored cfg key l 8 (number_value cfg next)) 0 s.slots

      pub slots_after : (mem : Bytes) → SlotsStand cfg key env s.slots mem
          → SlotsStand cfg key env slots (write mem pushed_word 8 next)
      slots_after mem before =
          subst (λ z. SlotsStand cfg key env slots (write mem z 8 next)) pushed_at.1
          (store_stands cfg valid key chain F typed s.map l 8 (number_value cfg next) next mem pushed_at.0 (omega arith)
          permitted fits (λ e. number_stands cfg valid env refl next fits) s.slots is.slots.1 before)

      value_stored : (i : ℕ) (v : AbsValue) → IsValidValue v
          → IsValidValue (stored cfg key l 8 (number_value cfg next) i v)
      value_stored i v good =
          let hit = hits cfg key (location_stack cfg key (Some l)) l 8 i in
          cond_both (is_just l 8 (word_of cfg key i)) (number_value cfg next) _ IsValidValue
          (λ h. number_valid cfg valid next fits)
          (λ h. cond_both hit value_top v IsValidValue (λ g. top_valid) (λ g. good))

      pub slots_valid : AreSlots IsValidValue slots
      slots_valid =
          let f = stored cfg key l 8 (number_value cfg next) in
          (redone_all IsValidValue f 0 s.slots value_stored is.slots.0, redone_count f 0 s.slots ∙ is.slots.1)

      pub bare_after : AreBaseSlotsTop key s.slots → AreBaseSlotsTop key slots
      bare_after bare =
          bare_redone cfg valid key chain F typed s.slots (stored cfg key l 8 (number_value cfg next)) is.slots.1
          (λ i none. stored_top cfg valid key chain F typed l 8 (number_value cfg next) i none) bare
