-- The stack in which the state says that RSP lies is the one in which it does, by C4. The word of the interrupted RSP
-- lies in the key's stack, a number in its own, and of an offset C4 lets the key's stack alone. While a handler runs,
-- RSP lies in the stack of its return address.
use Rattle.std.proofs.Common.{◌≡◌, ℕ, ◌^◌, ◌<◌, not, ◌&&◌, inl, inr, Bool, true, false, get_or, length, Option, Some, None, IfSome, IsSomeAnd, slice_get, pos, neg_ℤ, int_le, refl, sym, ap, ◌∙◌, subst, arith}
use Rattle.std.specs.Int.{bit_at}
use Rattle.std.proofs.lemmas.Bool.{and_parts, cases_eq, cases_Bool, cond-true, cond-false, eqb-true, false≢true, true≢false}
use Rattle.std.proofs.lemmas.Nat.Bits.{bit_at-pow_other}
use Rattle.kc_insn.specs.declared.insn.Insn.{Insn}
use Rattle.kc_regions.specs.Description.{Description}
use Rattle.kc_regions.specs.Region.{stacks_of, stack_of}
use Rattle.kc_regions.specs.Valid.{IsValid}
use Rattle.kc_regions.specs.declared.entry.Handler.{Handler}
use Rattle.kc_regions.proofs.LayoutLemmas.{laid}
use Rattle.kc_cpu.specs.declared.cpu.Call.{Call}
use Rattle.kc_cpu.specs.declared.cpu.Mode.{Mode}
use Rattle.kc_cpu.specs.declared.cpu.Mode.TheVariants.{User, Code, Inside}
use Rattle.kc_exec.specs.Register.{register, rsp}
use Rattle.kc_exec.specs.declared.state.Activation.{Activation}
use Rattle.kc_exec.specs.declared.state.State.{State}
use Rattle.kc_space.specs.Spaces.{is_same_who, is_same_map}
use Rattle.kc_space.specs.declared.map.MapState.TheVariants as map
use Rattle.kc_space.specs.declared.who.Who.TheVariants as who
use Rattle.kc_value.specs.AbsValue.{AbsValue}
use Rattle.kc_value.specs.Place.{place_bit, LiesIn}
use Rattle.kc_value.specs.Value.{Represents}
use Rattle.kc_value.specs.declared.env.ValueEnv.{ValueEnv}
use Rattle.kc_state.specs.AbsEffect.{moment_of}
use Rattle.kc_state.specs.Conditions.{is_entry, is_exact_at, is_exact}
use Rattle.kc_state.specs.Location.{location_of}
use Rattle.kc_state.specs.Operand.{AbsMoment}
use Rattle.kc_state.specs.Places.{location_stack, is_interrupted_rsp, value_stack}
use Rattle.kc_state.specs.Shift.{is_only_stack}
use Rattle.kc_state.specs.State.{IsState}
use Rattle.kc_state.specs.declared.key.Key.{Key}
use Rattle.kc_state.specs.declared.location.Location.{Location}
use Rattle.kc_state.specs.declared.location.Location.TheVariants.{Number, Relative}
use Rattle.kc_state.specs.declared.site.Site.{Site}
use Rattle.kc_state.specs.declared.state.AbsState.{AbsState}
use Rattle.kc_describes.specs.Chain.{newest_of, user_gs_of, env_of}
use Rattle.kc_describes.specs.Describes.{IsInsideAt, IsAtPoint, Describes}
use Rattle.kc_describes.specs.Inside.{IsHandlerRunning}
use Rattle.kc_describes.specs.Places.{stack_spans}
use Rattle.kc_describes.specs.Row.{value_at, FileStands}
use Rattle.kc_describes.specs.Widths.{IsMode, IsActivation}
use Rattle.kc_describes.proofs.ChainLemmas.{newest_all}
use Rattle.kc_describes.proofs.LocationLemmas.{located}
use Rattle.kc_describes.proofs.OperandLemmas.{word_at, value_at_valid}
use Rattle.kc_describes.proofs.ValueLemmas.{lies_in}
use Rattle.kc_returns.proofs.WordLemmas.{register_word}
use Rattle.kc_delivers.proofs.RspLemmas.{due_stack, named_rsp, same_test}

-- ---- places

one_bit : (set s j : ℕ) → set ≡ 2 ^ s → bit_at set j ≡ 1 → j ≡ s
one_bit set s j is h = elim (cases_eq j s) [
  | inl e ↦ e
  | inr other ↦
      let none : bit_at set j ≡ 0 = ap (λ z. bit_at z j) is ∙ bit_at-pow_other s j other in
      absurd (omega (arith, none, h))
]

place_from : (o : Option ℕ) (s : ℕ) → s < 16 → place_bit o ≡ s → o ≡ Some s
place_from (Some t) s few e = ap (λ z. Some z) e
place_from None s few e = absurd (omega (arith, few, e))

module _ (cfg : Description) (valid : IsValid cfg) (key : Key) (site : Site) (insn : Insn) (len : ℕ) (s : AbsState)
    (is : IsState s) (S : State) (D : Describes cfg key site (Some (insn, len)) s S)
    (exact : is_exact (moment_of cfg key s 0) site.inside ≡ true) where
  abbrev env : ValueEnv
  env = env_of cfg S.chain

  abbrev a : Activation
  a = newest_of S.chain

  abbrev v : AbsValue
  v = value_at s.regs 4

  abbrev m : AbsMoment
  m = moment_of cfg key s 0

  pub exact_rsp : is_exact_at m site.inside v (location_of key v) ≡ true
  exact_rsp =
      (and_parts (not (is_same_who s.gs.active who.Any) && (not (is_same_who s.gs.inactive who.Any)
      && not (is_same_map s.map map.Any))) (is_exact_at m site.inside v (location_of key v)) exact).1

  -- ---- the word of the interrupted RSP

  due_rsp : get_or env.words 4 0 ≡ register a.due rsp
  due_rsp =
      let typed = newest_all IsActivation S.chain D.chain.one_user D.typed.chain in
      register_word a.due typed.due.regs.0 4 (omega arith)

  -- ---- a word for which the state's RSP stands

  stack_few : (u : ℕ) → key.stack ≡ Some u → u < 16
  stack_few u named =
      let rule : u < length (stacks_of cfg.regions) =
      subst (λ (z : Option ℕ). IfSome z (λ w. w < length (stacks_of cfg.regions))) named D.chain.fits.rules.stack in
      omega (arith, rule, (laid cfg valid).stack_count)

  own_by : (set n : ℕ) (p : Option ℕ) → key.stack ≡ p → is_only_stack set p ≡ true → LiesIn set (stack_spans cfg) n
      → stack_of cfg.regions n ≡ key.stack
  own_by set n (Some u) named h lies =
      let bit = lies_in cfg valid set n lies in
      place_from (stack_of cfg.regions n) u (stack_few u named)
      (one_bit set u (place_bit (stack_of cfg.regions n)) (eqb-true set (2 ^ u) h) bit)
      ∙ sym named
  own_by set n None named h lies = absurd (false≢true h)

  module _ (n : ℕ) (fits : n < 2 ^ 64) (stands : Represents v env n) where
    by_location : (inside : Bool) (o : Option Location) → location_of key v ≡ o → is_interrupted_rsp v.sym ≡ false
        → is_exact_at m inside v o ≡ true → stack_of cfg.regions n ≡ location_stack cfg key o
    by_location inside (Some (Number c)) e other h =
        let at = located cfg key (user_gs_of S.chain) a D.chain.fits env refl n fits v (Number c)
        (value_at_valid s.regs 4 is.regs) stands e in
        ap (stack_of cfg.regions) (sym at.1)
    by_location inside (Some (Relative k)) e other h =
        own_by v.stacks n key.stack refl
        (and_parts (int_le (neg_ℤ (pos 4096)) k) (is_only_stack v.stacks key.stack) h).1 stands.place
    by_location inside None e other h =
        let entry : is_entry v 4 ≡ true = (and_parts (not inside) (is_entry v 4) h).1 in
        absurd (true≢false (sym entry ∙ same_test v.sym ∙ other))

    -- lies where the state says
    pub place_of : stack_of cfg.regions n ≡ value_stack cfg key v
    place_of = elim (cases_Bool (is_interrupted_rsp v.sym)) [
      | inl h ↦
          let named : n ≡ register a.due rsp = named_rsp v.sym env n h stands.symbol ∙ due_rsp in
          ap (stack_of cfg.regions) named ∙ due_stack cfg key S.chain D.chain
          ∙ sym (cond-true (is_interrupted_rsp v.sym) key.stack (location_stack cfg key (location_of key v)) h)
      | inr h ↦
          by_location site.inside (location_of key v) refl h exact_rsp
          ∙ sym (cond-false (is_interrupted_rsp v.sym) key.stack (location_stack cfg key (location_of key v)) h)
    ]

  -- ---- RSP

  -- the handler that runs
  pub running : (call : Call) (o : Option Handler) → IsSomeAnd o (IsHandlerRunning cfg key s S.chain S.cpu call)
      → (h : Handler) × (o ≡ Some h) × IsHandlerRunning cfg key s S.chain S.cpu call h
  running call (Some h) r = (h, refl, r)
  running call None r = absurd r

  code_place : (mode : Mode) → mode ≡ Code → FileStands env s S.cpu mode
      → stack_of cfg.regions (register S.cpu rsp) ≡ value_stack cfg key v
  code_place User e file = absurd file
  code_place Code e file =
      place_of (register S.cpu rsp) (word_at S.cpu.regs 4 D.typed.cpu.regs.1) (file.each 4 (omega arith))
  code_place (Inside call) e file = absurd (inside_code e)
    where
      inside_code : Inside call ≡ Code → ⊥
      inside_code h = absurd cc

  inside_place : (at : ℕ) (mode : Mode) → IsMode mode → FileStands env s S.cpu mode
      → IsInsideAt cfg key at (Some (insn, len)) s S.chain S.cpu mode
      → stack_of cfg.regions (register S.cpu rsp) ≡ value_stack cfg key v
  inside_place at User typed file h = absurd h
  inside_place at Code typed file h = absurd h
  inside_place at (Inside call) typed file h =
      let r = running call (slice_get cfg.handlers call.handler) h.1 in
      r.2.stack.within ∙ sym r.2.stack.holds ∙ place_of call.rsp typed.rsp file.rsp

  place_by : (inside : Bool) → site.inside ≡ inside
      → IsAtPoint cfg key site.at inside (Some (insn, len)) s S.chain S.cpu
      → stack_of cfg.regions (register S.cpu rsp) ≡ value_stack cfg key v
  place_by false e point = code_place S.cpu.mode point.0 D.file
  place_by true e point = inside_place site.at S.cpu.mode D.typed.cpu.mode D.file point

  -- RSP lies in the stack that the state names
  pub place_is_stack : stack_of cfg.regions (register S.cpu rsp) ≡ value_stack cfg key v
  place_is_stack = place_by site.inside refl D.point
