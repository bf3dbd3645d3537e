-- Where C7, C9, C10 and C11 hold and no byte of the accesses lies in a guard, an instruction breaks none of B6 to B8:
-- CR3 is loaded with one of its two values; a handler is called with the kernel's GS base and CR3, and with RSP after
-- the push in a stack; and what is forbidden isn't allowed.
use Rattle.std.proofs.Common.{◌≡◌, ℕ, ◌^◌, ◌<◌, ◌&&◌, Bool, true, false, not, if◌then◌else◌, is_some, List, [], ◌∷◌, All, Option, Some, None, slice_get, slice_index, pos, neg_ℤ, inl, inr, refl, sym, ap, ◌∙◌, subst, arith}
use Rattle.std.specs.Prelude.{nat_eq}
use Rattle.std.proofs.lemmas.Bool.{false≢true, and_parts, and_from, eq-eqb}
use Rattle.std.proofs.lemmas.List.Quantifiers.{position-Some}
use Rattle.std.proofs.lemmas.Option.{slice_get_cases}
use Rattle.kc_words.specs.declared.width.Width.TheVariants.{Quad}
use Rattle.kc_insn.specs.declared.insn.Insn.{Insn}
use Rattle.kc_insn.specs.declared.insn.Insn.TheVariants.{Ud2, Rdmsr, Wrmsr, WriteCr3, WriteGs, Call}
use Rattle.kc_regions.specs.Description.{Description}
use Rattle.kc_regions.specs.Layout.{InBytes}
use Rattle.kc_regions.specs.Lookup.{handler_of}
use Rattle.kc_regions.specs.Permission.{in_guard}
use Rattle.kc_regions.specs.Region.{stack_of}
use Rattle.kc_regions.specs.declared.entry.Handler.{Handler}
use Rattle.kc_regions.specs.declared.touch.Touch.TheVariants.{Write}
use Rattle.kc_space.specs.Spaces.{is_same_who, is_same_map, WhoStands, MapStands}
use Rattle.kc_space.specs.declared.env.SpaceEnv.{SpaceEnv}
use Rattle.kc_space.specs.declared.map.MapState.{MapState}
use Rattle.kc_space.specs.declared.map.MapState.TheVariants as map
use Rattle.kc_space.specs.declared.who.Who.{Who}
use Rattle.kc_space.specs.declared.who.Who.TheVariants as who
use Rattle.kc_exec.specs.Breaks.{loads_third_cr3, may_call, miscalls, is_forbidden, break_of}
use Rattle.kc_exec.specs.Change.{pushed_rsp}
use Rattle.kc_exec.specs.Effect.{row, msr_number, edx_eax}
use Rattle.kc_exec.specs.Execution.{access_of}
use Rattle.kc_exec.specs.Moment.{Moment}
use Rattle.kc_exec.specs.declared.access.Access.{Access}
use Rattle.kc_exec.specs.declared.state.Activation.{Activation}
use Rattle.kc_value.specs.AbsValue.{AbsValue}
use Rattle.kc_state.specs.Access.{may, clear}
use Rattle.kc_state.specs.AbsEffect as known
use Rattle.kc_state.specs.AbsEffect.{abs_row, on_stack, pushed}
use Rattle.kc_state.specs.Calls.{called_handler, frame_of}
use Rattle.kc_state.specs.Conditions.{may_at, loads_known_cr3, stack_region, has_room_in, has_room, calls_well_at, calls_handler, is_allowed}
use Rattle.kc_state.specs.Location.{location_of}
use Rattle.kc_state.specs.Operand.{AbsMoment}
use Rattle.kc_state.specs.Shift.{shifted}
use Rattle.kc_state.specs.declared.key.Key.{Key}
use Rattle.kc_state.specs.declared.location.Location.{Location}
use Rattle.kc_state.specs.declared.location.Location.TheVariants.{Number, Relative}
use Rattle.kc_state.specs.declared.state.AbsState.{AbsState}
use Rattle.kc_describes.specs.Chain.{newest_of, user_gs_of, env_of}
use Rattle.kc_describes.specs.Row.{value_at}
use Rattle.kc_describes.specs.Spaces.{gs_env, cr3_env}
use Rattle.kc_describes.proofs.LocationLemmas.{located}
use Rattle.kc_describes.proofs.ShiftLemmas.{push_move, shift_stands, push_stack}
use Rattle.kc_describes.proofs.ValidLemmas.{shifted_valid}
use Rattle.kc_system.specs.System.{known_moment, IsKernelMoment}
use Rattle.kc_system.specs.Forbidden.{AreUnguarded, PassesConditions}
use Rattle.kc_system.proofs.BaseLemmas.{written_canonical, written_cr3}
use Rattle.kc_system.proofs.MsrLemmas.{read_number, known_number, written_number, number_takes}
use Rattle.kc_system.proofs.RowLemmas.{register_is, single, written_covers, admitted}

-- ---- bases and CR3 of a call

kernel_base : (w : Who) (env : SpaceEnv) (n : ℕ) → is_same_who w who.Kernel ≡ true → WhoStands w env n
    → n ≡ env.kernel
kernel_base who.Kernel env n e h = h
kernel_base who.User env n e h = absurd (false≢true e)
kernel_base who.Any env n e h = absurd (false≢true e)

kernel_map : (m : MapState) (env : SpaceEnv) (n : ℕ) → is_same_map m map.Kernel ≡ true → MapStands m env n
    → n ≡ env.kernel
kernel_map map.Kernel env n e h = h
kernel_map map.User env n e h = absurd (false≢true e)
kernel_map map.Any env n e h = absurd (false≢true e)

-- ---- the stack of a call

-- RSP after the push points where it would without its set of places
stacked : (key : Key) (v : AbsValue) (o : Option Location) → location_of key (on_stack key v o) ≡ location_of key v
stacked key v (Some (Number a)) = refl
stacked key v (Some (Relative k)) = refl
stacked key v None = refl

room_in_stack : (cfg : Description) (a : ℕ) (h : Handler) (frame o : Option ℕ)
    → has_room_in a h frame (stack_region cfg o) ≡ true → is_some o ≡ true
room_in_stack cfg a h frame (Some s) e = refl
room_in_stack cfg a h frame None e = absurd (false≢true e)

-- a handler that is called is one of the list
handler_at : (handlers : List Handler) (a h : ℕ) → handler_of handlers a ≡ Some h
    → (x : Handler) × (slice_get handlers h ≡ Some x)
handler_at [] a h e = absurd cc
handler_at (x ∷ xs) a h e = elim (slice_get_cases (x ∷ xs) h).1 [
  | inl is ↦ (is.0, is.2)
  | inr past ↦
      let inside = (position-Some (λ y. nat_eq y.entry a) (x ∷ xs) h x e).0 in absurd (omega (arith, past.0, inside))
]

none_of_three : (a b c : Bool) → a ≡ false → b ≡ false → c ≡ false
    → (if◌then◌else◌ {A = Option ℕ} a (Some 6) (if b then Some 7 else if c then Some 8 else None)) ≡ None
none_of_three false false false p q r = refl
none_of_three true b c p q r = absurd (false≢true (sym p))
none_of_three false true c p q r = absurd (false≢true (sym q))
none_of_three false false true p q r = absurd (false≢true (sym r))

module _ (key : Key) (chain : List Activation) (s : AbsState) (m : Moment) (K : IsKernelMoment key chain s m) where
  abbrev before : AbsMoment
  before = known_moment key s m

  abbrev moved : AbsValue
  moved = shifted m.cfg key (value_at s.regs 4) (neg_ℤ (pos 8))

  -- RSP after a push that may be made and isn't stopped by a guard lies in the stack in which there is room
  push_in_stack : (h : Handler) (l : Location) → location_of key (pushed before) ≡ Some l
      → may m.cfg key s.map l 8 Write ≡ true
      → ((x : ℕ) → x < 2 ^ 64 → InBytes x (pushed_rsp m) 8 → in_guard m.cfg.regions x ≡ false)
      → has_room before h l ≡ true → is_some (stack_of m.cfg.regions (pushed_rsp m)) ≡ true
  push_in_stack h (Number a) e permitted unguarded room =
      let rsp = register_is key chain s m K 4 in
      let there : location_of key moved ≡ Some (Number a) = sym (stacked key moved (location_of key moved)) ∙ e in
      let at = located m.cfg key (user_gs_of chain) (newest_of chain) K.context.fits.fits (env_of m.cfg chain) refl
      (pushed_rsp m) (omega arith) moved (Number a)
      (shifted_valid m.cfg K.context.valid key (value_at s.regs 4) (neg_ℤ (pos 8)) rsp.valid)
      (shift_stands m.cfg K.context.valid key chain K.context.fits (value_at s.regs 4) (slice_index m.cpu.regs 4)
      (neg_ℤ (pos 8)) rsp.valid rsp.fits rsp.stands (push_move m.cfg K.context.valid key chain K.context.fits)) there in
      subst (λ z. is_some (stack_of m.cfg.regions z) ≡ true) at.1
      (room_in_stack m.cfg a h (frame_of key h) (stack_of m.cfg.regions a) room)
  push_in_stack h (Relative k) e permitted unguarded room =
      let rsp = register_is key chain s m K 4 in
      let there : location_of key moved ≡ Some (Relative k) = sym (stacked key moved (location_of key moved)) ∙ e in
      let lies = push_stack m.cfg K.context.valid key chain K.context.fits (value_at s.regs 4)
      (slice_index m.cpu.regs 4) s.map k rsp.valid rsp.fits rsp.stands there permitted unguarded in
      ap (λ o. is_some o) lies ∙ (and_parts (is_some key.stack) _ room).0

  call_at : (h : Handler) (o : Option Location) → location_of key (pushed before) ≡ o
      → may_at before o 8 Write ≡ true
      → ((x : ℕ) → x < 2 ^ 64 → InBytes x (pushed_rsp m) 8 → in_guard m.cfg.regions x ≡ false)
      → calls_well_at before s.floors h o ≡ true → may_call m ≡ true
  call_at h None e permitted unguarded well = absurd (false≢true well)
  call_at h (Some l) e permitted unguarded well =
      let p = and_parts (is_same_who s.gs.active who.Kernel) _ well in
      let q = and_parts (is_same_map s.map map.Kernel) _ p.1 in
      let room = (and_parts (clear m.cfg key s.floors l 0) (has_room before h l) q.1).1 in
      let gs = kernel_base s.gs.active (gs_env m.cfg (user_gs_of chain)) m.cpu.gs p.0 K.row.spaces.gs.active in
      let cr3 = kernel_map s.map (cr3_env m.cfg) m.cpu.cr3 q.0 K.row.spaces.map in
      and_from _ _ (eq-eqb m.cpu.gs m.cfg.cpu.kernel_gs gs) (and_from _ _
      (eq-eqb m.cpu.cr3 m.cfg.cpu.kernel_cr3 cr3) (push_in_stack h l e permitted unguarded room))

  -- ---- the three breaks

  not_third : (insn : Insn) → loads_known_cr3 before insn ≡ true → loads_third_cr3 m insn ≡ false
  not_third (WriteCr3 r) e =
      ap (λ b. not b)
      (written_cr3 m.cfg (env_of m.cfg chain) (value_at s.regs r.0) (slice_index m.cpu.regs r.0)
      (register_is key chain s m K r.0) e)
  not_third insn e = refl

  not_forbidden : (insn : Insn) → is_allowed before insn ≡ true → is_forbidden m insn ≡ false
  not_forbidden Ud2 e = absurd (false≢true e)
  not_forbidden Rdmsr e =
      let o = known.msr_number before.cpu in
      ap (λ b. not b) (known_number o (msr_number m.cpu) (single key chain s m K) (read_number o e))
  not_forbidden Wrmsr e =
      let o = known.msr_number before.cpu in
      let b = known.edx_eax before.cpu in
      ap (λ b. not b)
      (number_takes o b (msr_number m.cpu) (edx_eax m.cpu) (single key chain s m K) (written_covers key chain s m K)
      (written_number o b e))
  not_forbidden (WriteGs r) e =
      ap (λ b. not b)
      (written_canonical m.cfg chain (admitted key chain s m K) (value_at s.regs r.0) (slice_index m.cpu.regs r.0)
      (register_is key chain s m K r.0) e)
  not_forbidden insn e = refl

  may_be_called : (target : ℕ) (o : Option ℕ) → handler_of m.cfg.handlers target ≡ o
      → may_at before (location_of key (pushed before)) 8 Write ≡ true
      → ((x : ℕ) → x < 2 ^ 64 → InBytes x (pushed_rsp m) 8 → in_guard m.cfg.regions x ≡ false)
      → calls_handler before s.floors (called_handler m.cfg o) ≡ true → (is_some o && not (may_call m)) ≡ false
  may_be_called target None e permitted unguarded well = refl
  may_be_called target (Some i) e permitted unguarded well =
      let h = handler_at m.cfg.handlers target i e in
      let there = subst (λ o. calls_handler before s.floors o ≡ true) h.1 well in
      ap (λ b. not b) (call_at h.0 (location_of key (pushed before)) refl permitted unguarded there)

  abbrev AreOpen : List Access → Type 0
  AreOpen accesses =
      All (λ a. (x : ℕ) → x < 2 ^ 64 → InBytes x a.at a.size → in_guard m.cfg.regions x ≡ false) accesses

  not_miscalled : (insn : Insn) → PassesConditions key s m insn → AreUnguarded m (row m insn) → miscalls m insn ≡ false
  unfolding abs_row row
  not_miscalled (Call target) pass unguarded =
      let p = and_parts (may_at before (location_of key (pushed before)) 8 Write && true) true pass.permitted in
      let q = and_parts (may_at before (location_of key (pushed before)) 8 Write) true p.0 in
      let push : Access = access_of (record { at = pushed_rsp m; width = Quad; value = m.next; gs = false }) in
      let pushes : AreOpen (push ∷ []) = unguarded in
      may_be_called target (handler_of m.cfg.handlers target) refl q.0 (pushes 0 push (omega arith)) pass.calls
  not_miscalled insn pass unguarded = refl

  pub unbroken : (insn : Insn) → PassesConditions key s m insn → AreUnguarded m (row m insn) → break_of m insn ≡ None
  unbroken insn pass unguarded =
      none_of_three (loads_third_cr3 m insn) (miscalls m insn) (is_forbidden m insn) (not_third insn pass.cr3)
      (not_miscalled insn pass unguarded) (not_forbidden insn pass.allowed)
