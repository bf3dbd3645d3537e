-- The state after an event's return, part by part. Processor and chain are as they were, and what the state says of
-- them too. Slots that stay have kept words, by where RSP is: at a code site it is the processor's, and while a handler
-- runs that of the call, at or below which the processor's is; at an offset it is in the key's stack, by C4. The
-- changes of a call still leave the state as it is, since slots only rise and a call's changes don't read latches.
use Rattle.std.proofs.Common.{◌≡◌, ℕ, suc, ◌^◌, ◌<◌, ◌≤◌, ◌&&◌, not, inl, inr, Bool, true, false, cond, List, [], ◌∷◌, length, All, Option, Some, None, IfSome, IsSomeAnd, slice_get, pos, neg_ℤ, int_le, refl, sym, ap, ◌∙◌, subst, arith}
use Rattle.std.specs.Int.{bit_at}
use Rattle.std.proofs.lemmas.Bool.{cases_eq, cases_Bool, cond-true, cond-false, cond_both, and_from, and_parts, eqb-true, false≢true}
use Rattle.std.proofs.lemmas.Nat.Bits.{bit_at-pow_other}
use Rattle.kc_lattice.specs.Rows.{rows_below}
use Rattle.std.proofs.lemmas.List.Elements.{All-head, All-tail}
use Rattle.kc_frames.specs.ClobberSets.{ClobberSets}
use Rattle.kc_frames.specs.Slots.{redone}
use Rattle.kc_insn.specs.declared.insn.Insn.{Insn}
use Rattle.kc_regions.specs.Description.{Description}
use Rattle.kc_regions.specs.Region.{stacks_of, stack_of}
use Rattle.kc_regions.specs.Valid.{IsValid}
use Rattle.kc_regions.specs.declared.entry.Handler.{Handler}
use Rattle.kc_regions.proofs.LayoutLemmas.{laid}
use Rattle.kc_cpu.specs.declared.cpu.Call.{Call}
use Rattle.kc_cpu.specs.declared.cpu.Cpu.{Cpu}
use Rattle.kc_cpu.specs.declared.cpu.Mode.{Mode}
use Rattle.kc_cpu.specs.declared.cpu.Mode.TheVariants.{User, Code, Inside}
use Rattle.kc_exec.specs.Register.{register, rsp}
use Rattle.kc_exec.specs.declared.state.Activation.{Activation}
use Rattle.kc_exec.specs.declared.state.State.{State}
use Rattle.kc_space.specs.Spaces.{is_same_who, is_same_map}
use Rattle.kc_space.specs.declared.latches.Latches.{Latches}
use Rattle.kc_space.specs.declared.map.MapState.TheVariants as map
use Rattle.kc_space.specs.declared.who.Who.TheVariants as who
use Rattle.kc_value.specs.AbsValue.{AbsValue}
use Rattle.kc_value.specs.Place.{place_bit, LiesIn}
use Rattle.kc_value.specs.Value.{IsValidValue, Represents, value_below, value_top}
use Rattle.kc_value.specs.ValueLaws.{value_laws}
use Rattle.kc_value.specs.declared.env.ValueEnv.{ValueEnv}
use Rattle.kc_state.specs.AbsEffect.{moment_of}
use Rattle.kc_state.specs.AbsReturn.{loses, kept, returned}
use Rattle.kc_state.specs.Calls.{used, with_edits, frame_of, called_at, called}
use Rattle.kc_state.specs.Conditions.{is_exact_at}
use Rattle.kc_state.specs.Location.{location_of}
use Rattle.kc_state.specs.Operand.{AbsMoment}
use Rattle.kc_state.specs.Shift.{is_only_stack}
use Rattle.kc_state.specs.State.{IsState}
use Rattle.kc_state.specs.StateLaws.{state_laws}
use Rattle.kc_state.specs.declared.key.Key.{Key}
use Rattle.kc_state.specs.declared.location.Location.{Location}
use Rattle.kc_state.specs.declared.location.Location.TheVariants.{Number, Relative}
use Rattle.kc_state.specs.declared.site.Site.{Site}
use Rattle.kc_state.specs.declared.state.AbsState.{AbsState}
use Rattle.kc_state.specs.declared.summary.Summary.{Summary}
use Rattle.kc_state.proofs.MomentForms.{redone_all}
use Rattle.kc_describes.specs.Chain.{newest_of, user_gs_of, env_of}
use Rattle.kc_describes.specs.Describes.{AreBaseSlotsTop, IsInsideAt, IsAtPoint, Describes}
use Rattle.kc_describes.specs.Inside.{HasHandlerStack, IsHandlerRunning}
use Rattle.kc_describes.specs.Places.{SlotsStand, stack_spans}
use Rattle.kc_describes.specs.Row.{value_at, FileStands}
use Rattle.kc_describes.specs.Widths.{IsMode}
use Rattle.kc_describes.proofs.AboveLemmas.{called_above}
use Rattle.kc_describes.proofs.FrameLemmas.{IsStateBelow, state_facts, code_file}
use Rattle.kc_describes.proofs.LocationLemmas.{located}
use Rattle.kc_describes.proofs.OperandLemmas.{word_at, value_at_valid}
use Rattle.kc_describes.proofs.StoreLemmas.{untouched, bare_redone}
use Rattle.kc_describes.proofs.ValidLemmas.{top_valid}
use Rattle.kc_describes.proofs.ValueLemmas.{lies_in}
use Rattle.kc_after.specs.After.{ComesBack, IsExactAt, AfterReturnDescribes}
use Rattle.kc_after.proofs.KeptLemmas.{IsOwn, IsTop, slot_kept}

-- ---- slots that rise

length_redone : {V : Type 0} (f : ℕ → V → V) (i : ℕ) (vs : List V) → length (redone f i vs) ≡ length vs
length_redone f i [] = refl
length_redone f i (v ∷ vs) = ap suc (length_redone f (suc i) vs)

rows_rise : (f : ℕ → AbsValue → AbsValue) (i : ℕ) (vs : List AbsValue)
    → ((j : ℕ) (v : AbsValue) → IsValidValue v → value_below v (f j v) ≡ true) → All IsValidValue vs
    → rows_below value_below vs (redone f i vs) ≡ true
rows_rise f i [] up ok = refl
rows_rise f i (v ∷ vs) up ok =
    and_from (value_below v (f i v)) (rows_below value_below vs (redone f (suc i) vs))
    (up i v (All-head IsValidValue v vs ok)) (rows_rise f (suc i) vs up (All-tail IsValidValue v vs ok))

-- ---- a place

one_bit : (set s j : ℕ) → set ≡ 2 ^ s → bit_at set j ≡ 1 → j ≡ s
one_bit set s j is h = elim (cases_eq j s) [
  | inl e ↦ e
  | inr other ↦
      let none : bit_at set j ≡ 0 = ap (λ z. bit_at z j) is ∙ bit_at-pow_other s j other in
      absurd (omega (arith, none, h))
]

place_from : (o : Option ℕ) (s : ℕ) → s < 16 → place_bit o ≡ s → o ≡ Some s
place_from (Some t) s few e = ap (λ z. Some z) e
place_from None s few e = absurd (omega (arith, few, e))

-- ---- a call's changes

-- they don't read latches
relatched : (cfg : Description) (key : Key) (h : Handler) (t : AbsState) (new : Latches) (o : Option Location)
    → called_at cfg key h (record t { latches = new }) o ≡ record (called_at cfg key h t o) { latches = new }
relatched cfg key h t new None = refl
relatched cfg key h t new (Some l) = by_frame (frame_of key h)
  where
    by_frame : (frame : Option ℕ)
        → with_edits cfg key frame l
        (record t { latches = new; slots = redone (used cfg key l h.stack) 0 t.slots })
        ≡ record (with_edits cfg key frame l (record t { slots = redone (used cfg key l h.stack) 0 t.slots }))
        { latches = new }
    by_frame None = refl
    by_frame (Some f) = refl

module _ (cfg : Description) (key : Key) (site : Site) (found : Option (Insn × ℕ)) (s : AbsState) (summary : Summary)
    (a : Activation) (S T : State) (E : IsExactAt cfg key site found s S) (C : ComesBack cfg summary a S T) where
  abbrev valid : IsValid cfg
  valid = E.valid

  abbrev is : IsState s
  is = E.state

  abbrev D : Describes cfg key site found s S
  D = E.described

  abbrev env : ValueEnv
  env = env_of cfg S.chain

  abbrev base : ℕ
  base = (newest_of S.chain).base

  abbrev v : AbsValue
  v = value_at s.regs 4

  abbrev o : Option Location
  o = location_of key v

  abbrev m : AbsMoment
  m = moment_of cfg key s E.next

  abbrev c : ClobberSets
  c = summary.clobber

  abbrev f : ℕ → AbsValue → AbsValue
  f = kept cfg key o c

  -- the state after the return, with the latches as they were
  abbrev t : AbsState
  t = record s { slots = redone f 0 s.slots }

  abbrev out : AbsState
  out = returned cfg key s summary

  -- ---- RSP

  exact_rsp : is_exact_at m site.inside v o ≡ true
  exact_rsp =
      (and_parts (not (is_same_who s.gs.active who.Any) && (not (is_same_who s.gs.inactive who.Any)
      && not (is_same_map s.map map.Any))) (is_exact_at m site.inside v o) E.exact).1

  stack_few : (u : ℕ) → key.stack ≡ Some u → u < 16
  stack_few u named =
      let rule : u < length (stacks_of cfg.regions) =
      subst (λ (z : Option ℕ). IfSome z (λ w. w < length (stacks_of cfg.regions))) named D.chain.fits.rules.stack in
      omega (arith, rule, (laid cfg valid).stack_count)

  own_by : (set n : ℕ) (p : Option ℕ) → key.stack ≡ p → is_only_stack set p ≡ true → LiesIn set (stack_spans cfg) n
      → stack_of cfg.regions n ≡ key.stack
  own_by set n (Some u) named h lies =
      let bit = lies_in cfg valid set n lies in
      place_from (stack_of cfg.regions n) u (stack_few u named)
      (one_bit set u (place_bit (stack_of cfg.regions n)) (eqb-true set (2 ^ u) h) bit)
      ∙ sym named
  own_by set n None named h lies = absurd (false≢true h)

  own_at : (n : ℕ) (l : Location) → Represents v env n → is_exact_at m site.inside v (Some l) ≡ true
      → IsOwn cfg key n l
  own_at n (Number b) stands h = tt
  own_at n (Relative k) stands h =
      own_by v.stacks n key.stack refl
      (and_parts (int_le (neg_ℤ (pos 4096)) k) (is_only_stack v.stacks key.stack) h).1 stands.place

  abbrev Tops : ℕ → ℕ → Type 0
  Tops r n = (l : Location) → o ≡ Some l → IsTop cfg key base r n l

  top_at : (r n : ℕ) → n < 2 ^ 64 → Represents v env n → r ≤ n
      → ((u : ℕ) → stack_of cfg.regions n ≡ Some u → stack_of cfg.regions r ≡ Some u) → Tops r n
  top_at r n fits stands le same l e = record {
    at = located cfg key (user_gs_of S.chain) (newest_of S.chain) D.chain.fits env refl n fits v l
        (value_at_valid s.regs 4 is.regs) stands e;
    below = le;
    same = same;
    own = own_at n l stands (subst (λ z. is_exact_at m site.inside v z ≡ true) e exact_rsp);
  }

  stack_by : (call : Call) (p : Option Handler) → IsSomeAnd p (IsHandlerRunning cfg key s S.chain S.cpu call)
      → (h : Handler) × HasHandlerStack cfg S.chain S.cpu call h
  stack_by call (Some h) running = (h, running.stack)
  stack_by call None running = absurd running

  tops_inside : (mode : Mode) → IsMode mode → FileStands env s S.cpu mode
      → IsInsideAt cfg key site.at found s S.chain S.cpu mode → (n : ℕ) × Tops (register S.cpu rsp) n
  tops_inside User typed file h = absurd h
  tops_inside Code typed file h = absurd h
  tops_inside (Inside call) typed file h =
      let stack = (stack_by call (slice_get cfg.handlers call.handler) h.1).1 in (
        call.rsp,
        top_at (register S.cpu rsp) call.rsp typed.rsp file.rsp stack.free.not_above
            (λ u e. stack.within ∙ sym stack.holds ∙ e),
      )

  tops_by : (inside : Bool) → IsAtPoint cfg key site.at inside found s S.chain S.cpu
      → (n : ℕ) × Tops (register S.cpu rsp) n
  tops_by false h =
      let file = code_file env s S.cpu S.cpu.mode h.0 D.file in (
        register S.cpu rsp,
        top_at (register S.cpu rsp) (register S.cpu rsp) (word_at S.cpu.regs 4 D.typed.cpu.regs.1)
            (file.each 4 (omega arith)) (omega arith) (λ u e. e),
      )
  tops_by true h = tops_inside S.cpu.mode D.typed.cpu.mode D.file h

  tops : (n : ℕ) × Tops (register a.saved rsp) n
  tops =
      let here = tops_by site.inside D.point in
      (here.0, subst (λ cpu. Tops (register cpu rsp) here.0) (sym C.interrupted) here.1)

  -- ---- slots

  slots_after : SlotsStand cfg key env out.slots T.mem.bytes
  slots_after =
      untouched cfg valid key S.chain D.chain D.typed.chain s.slots S.mem.bytes T.mem.bytes f is.slots.1 D.slots
      (λ i p w below e. elim (cases_Bool (loses cfg key o c i)) [
        | inl lost ↦ inl (cond-true (loses cfg key o c i) value_top w lost)
        | inr stays ↦
            inr (
              cond-false (loses cfg key o c i) value_top w stays,
              λ x low inside.
                  C.kept x low
                  (slot_kept cfg valid key S.chain D.chain D.typed.chain c a o tops.0 tops.1 i x p below e stays low
                  inside),
            )
      ])

  either_top : (b : Bool) → cond b value_top value_top ≡ value_top
  either_top true = refl
  either_top false = refl

  bare_after : AreBaseSlotsTop key out.slots
  bare_after =
      bare_redone cfg valid key S.chain D.chain D.typed.chain s.slots f is.slots.1
      (λ i none. either_top (loses cfg key o c i)) D.bare

  -- ---- the changes of a call

  rises : (j : ℕ) (w : AbsValue) → IsValidValue w → value_below w (f j w) ≡ true
  rises j w ok =
      cond_both (loses cfg key o c j) value_top w (λ z. value_below w z ≡ true)
      (λ h. value_laws.top_above w w ok ok tt) (λ h. value_laws.below_refl w ok)

  also : IsState t
  also = record {
    regs = is.regs;
    reg_count = is.reg_count;
    flags = is.flags;
    floors = is.floors;
    slots = (
      redone_all IsValidValue IsValidValue f 0 s.slots
          (λ j w ok. cond_both (loses cfg key o c j) value_top w IsValidValue (λ h. top_valid) (λ h. ok)) is.slots.0,
      length_redone f 0 s.slots ∙ is.slots.1,
    );
  }

  below : IsStateBelow s t
  below =
      let same = state_facts s s (state_laws.below_refl s is) in
      record {
        regs = same.regs;
        flags = same.flags;
        gs = same.gs;
        map = same.map;
        latches = same.latches;
        floors = same.floors;
        slots = rows_rise f 0 s.slots rises is.slots.0;
      }

  still : (h : Handler) → called cfg key h s ≡ s → called cfg key h out ≡ out
  still h before =
      relatched cfg key h t summary.latches o
      ∙ ap {A = AbsState} (λ z. record z { latches = summary.latches })
      (called_above cfg key h s t is also below (inl refl) before)

  -- ---- the parts

  file_after : (cpu : Cpu) (mode : Mode) → FileStands env s cpu mode → FileStands env out cpu mode
  file_after cpu User h = absurd h
  file_after cpu Code h = record { each = h.each; rflags = h.rflags }
  file_after cpu (Inside call) h = record {
    rsp = h.rsp;
    rbx = h.rbx;
    rbp = h.rbp;
    r12 = h.r12;
    r13 = h.r13;
    r14 = h.r14;
    r15 = h.r15;
    flags = h.flags;
  }

  running_after : (call : Call) (p : Option Handler) → IsSomeAnd p (IsHandlerRunning cfg key s S.chain S.cpu call)
      → IsSomeAnd p (IsHandlerRunning cfg key out S.chain S.cpu call)
  running_after call None h = absurd h
  running_after call (Some handler) h =
      record { interrupts = h.interrupts; stack = h.stack; cr3 = h.cr3; changed = still handler h.changed }

  inside_after : (mode : Mode) → IsInsideAt cfg key site.at found s S.chain S.cpu mode
      → IsInsideAt cfg key site.at found out S.chain S.cpu mode
  inside_after User h = absurd h
  inside_after Code h = absurd h
  inside_after (Inside call) h = (h.0, running_after call (slice_get cfg.handlers call.handler) h.1)

  point_after : (inside : Bool) → IsAtPoint cfg key site.at inside found s S.chain S.cpu
      → IsAtPoint cfg key site.at inside found out S.chain S.cpu
  point_after false h = h
  point_after true h = inside_after S.cpu.mode h

  abbrev back : State
  back = record T { cpu = S.cpu; chain = S.chain }

  described_back : Describes cfg key site found out back
  described_back = record {
    typed = record { cpu = D.typed.cpu; mem = C.typed.mem; chain = D.typed.chain };
    running = C.running;
    chain = D.chain;
    floors = D.floors;
    file = file_after S.cpu S.cpu.mode D.file;
    spaces = record { gs = D.spaces.gs; map = D.spaces.map; latches = C.latches };
    slots = slots_after;
    bare = bare_after;
    kernel = D.kernel;
    point = point_after site.inside D.point;
  }

  is_back : back ≡ T
  is_back = λ i. record T { cpu = sym C.cpu i; chain = sym C.chain i }

  pub described_after : Describes cfg key site found out T
  described_after = subst (λ U. Describes cfg key site found out U) is_back described_back

pub after_return_describes : AfterReturnDescribes
after_return_describes cfg key site found s summary a S T E C =
    described_after cfg key site found s summary a S T E C
