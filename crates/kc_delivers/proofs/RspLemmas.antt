-- Where RSP of interrupted kernel code lies: by C4 it is the interrupted RSP, whose stack is the key's, or a number, or
-- an offset whose place is the key's stack alone.
use Rattle.std.proofs.Common.{◌≡◌, ℕ, ◌^◌, ◌<◌, ◌&&◌, ◌||◌, not, inl, inr, Bool, true, false, cond, List, length, get_or, Option, Some, None, IfSome, pos, neg_ℤ, int_le, refl, sym, ap, ◌∙◌, subst, arith}
use Rattle.std.proofs.lemmas.Bool.{and_parts, eqb-true, cases_Bool, cases_eq, not-true, true≢false, false≢true}
use Rattle.kc_insn.specs.declared.insn.Insn.{Insn}
use Rattle.kc_regions.specs.Description.{Description}
use Rattle.kc_regions.specs.Region.{stack_of, stacks_of}
use Rattle.kc_regions.specs.Valid.{IsValid}
use Rattle.kc_cpu.specs.declared.cpu.Mode.{Mode}
use Rattle.kc_cpu.specs.declared.cpu.Mode.TheVariants.{User, Code, Inside}
use Rattle.kc_exec.specs.Register.{register, rsp}
use Rattle.kc_exec.specs.declared.state.Activation.{Activation}
use Rattle.kc_exec.specs.declared.state.State.{State}
use Rattle.kc_value.specs.Symbol.{Names}
use Rattle.kc_value.specs.declared.env.ValueEnv.{ValueEnv}
use Rattle.kc_value.specs.declared.symbol.Sym.{Sym}
use Rattle.kc_value.specs.declared.symbol.Sym.TheVariants.{Plain, Base, Entry, UserGs}
use Rattle.kc_state.specs.Conditions.{is_word, is_exact_at, is_exact, stack_region}
use Rattle.kc_state.specs.Places.{is_interrupted_rsp, location_stack, value_stack}
use Rattle.kc_state.specs.declared.key.Key.{Key}
use Rattle.kc_describes.specs.Chain.{env_of, newest_of, user_gs_of, IsDue}
use Rattle.kc_describes.specs.Fits.{is_user_mode, Fits, ChainFits}
use Rattle.kc_describes.proofs.ChainLemmas.{newest_all}
use Rattle.std.specs.Int.{bit_at}
use Rattle.std.proofs.lemmas.Nat.Bits.{bit_at-pow_same, bit_at-pow_other}
use Rattle.kc_regions.proofs.LayoutLemmas.{laid}
use Rattle.kc_space.specs.Spaces.{is_same_who, is_same_map}
use Rattle.kc_space.specs.declared.map.MapState.TheVariants as map_is
use Rattle.kc_space.specs.declared.who.Who.TheVariants as who
use Rattle.kc_value.specs.AbsValue.{AbsValue}
use Rattle.kc_value.specs.Place.{place_bit, LiesIn}
use Rattle.kc_value.specs.Value.{Represents, value_top}
use Rattle.kc_state.specs.AbsEffect.{moment_of}
use Rattle.kc_state.specs.Location.{location_of}
use Rattle.kc_state.specs.Shift.{is_only_stack}
use Rattle.kc_state.specs.State.{IsState}
use Rattle.kc_state.specs.declared.location.Location.{Location}
use Rattle.kc_state.specs.declared.location.Location.TheVariants.{Number, Relative}
use Rattle.kc_state.specs.declared.state.AbsState.{AbsState}
use Rattle.kc_describes.specs.Describes.{Describes}
use Rattle.kc_describes.specs.Widths.{IsActivation}
use Rattle.kc_describes.proofs.FrameLemmas.{code, code_file}
use Rattle.kc_describes.proofs.LocationLemmas.{in_stack, located}
use Rattle.kc_describes.proofs.OperandLemmas.{word_at, value_at_valid}
use Rattle.kc_describes.proofs.ValueLemmas.{lies_in, lies_at, nothing_stands}
use Rattle.kc_returns.proofs.WordLemmas.{register_word}
use Rattle.kc_bits.proofs.Prefix.{prefix_sound}
use Rattle.kc_regions.specs.declared.entry.Handler.{Handler}
use Rattle.kc_state.specs.AbsDelivery.{in_region, is_relative, own_rsp, interrupted_at}
use Rattle.kc_describes.proofs.PermissionLemmas.{IsKnownCr3, known_cr3}
use Rattle.kc_delivers.proofs.InterruptedLemmas.{entry_env, IsInterrupted}
use Rattle.kc_delivers.proofs.KernelLemmas.{kernel_interrupted}

-- the stack of the RSP that a return restores is the key's: an edited one lies in none, as the user's does
due_by : (cfg : Description) (key : Key) (user_gs : ℕ) (a : Activation) (m : Mode) → a.saved.mode ≡ m
    → Fits cfg key user_gs a → IsDue cfg a → stack_of cfg.regions (register a.due rsp) ≡ key.stack
due_by cfg key user_gs a User e fits due =
    let of_user : key.kernel ≡ false = fits.side ∙ ap (λ z. not (is_user_mode z)) e in
    (due.user e).0.stack ∙ sym (fits.rules.user of_user)
due_by cfg key user_gs a Code e fits due =
    let same : a.due ≡ a.saved = due.kernel (λ u. true≢false (sym (ap is_user_mode u) ∙ ap is_user_mode e)) in
    ap (λ c. stack_of cfg.regions (register c rsp)) same ∙ fits.stack
due_by cfg key user_gs a (Inside call) e fits due =
    let same : a.due ≡ a.saved = due.kernel (λ u. true≢false (sym (ap is_user_mode u) ∙ ap is_user_mode e)) in
    ap (λ c. stack_of cfg.regions (register c rsp)) same ∙ fits.stack

pub due_stack : (cfg : Description) (key : Key) (chain : List Activation) → ChainFits cfg key chain
    → stack_of cfg.regions (register (newest_of chain).due rsp) ≡ key.stack
due_stack cfg key chain F =
    due_by cfg key (user_gs_of chain) (newest_of chain) (newest_of chain).saved.mode refl F.fits
    (newest_all (IsDue cfg) chain F.one_user F.due)

-- the interrupted RSP is named
pub named_rsp : (v : Sym) (env : ValueEnv) (n : ℕ) → is_interrupted_rsp v ≡ true → Names v env n
    → n ≡ get_or env.words 4 0
named_rsp (Entry w) env n h names = names ∙ ap (λ k. get_or env.words k 0) (eqb-true w 4 h)
named_rsp Plain env n h names = absurd (false≢true h)
named_rsp (Base k) env n h names = absurd (false≢true h)
named_rsp UserGs env n h names = absurd (false≢true h)

pub same_test : (v : Sym) → is_word v 4 ≡ is_interrupted_rsp v
same_test (Entry w) = refl
same_test Plain = refl
same_test (Base k) = refl
same_test UserGs = refl

-- ---- a set of one place

one_bit : (s j : ℕ) → bit_at (2 ^ s) j ≡ 1 → j ≡ s
one_bit s j h = elim (cases_eq j s) [
  | inl e ↦ e
  | inr other ↦ absurd (omega (arith, h, bit_at-pow_other s j other))
]

place_from : (o : Option ℕ) (s : ℕ) → s < 16 → place_bit o ≡ s → o ≡ Some s
place_from (Some t) s few e = ap (λ z. Some z) e
place_from None s few e = absurd (omega (arith, few, e))

-- ---- RSP

module _ (cfg : Description) (valid : IsValid cfg) (key : Key) (at : ℕ) (found : Option (Insn × ℕ)) (s : AbsState)
    (S : State) (ok : IsState s) (D : Describes cfg key (code at) found s S)
    (exact : is_exact (moment_of cfg key s 0) false ≡ true) where
  abbrev v : AbsValue
  v = get_or s.regs 4 value_top

  abbrev n : ℕ
  n = register S.cpu rsp

  abbrev chain_env : ValueEnv
  chain_env = env_of cfg S.chain

  stands : Represents v chain_env n
  stands = (code_file chain_env s S.cpu S.cpu.mode D.point.0 D.file).each 4 (omega arith)

  in_key_stack : (o : Option ℕ) → key.stack ≡ o → is_only_stack v.stacks o ≡ true → stack_of cfg.regions n ≡ o
  in_key_stack (Some t) e h =
      let only : v.stacks ≡ 2 ^ t = eqb-true v.stacks (2 ^ t) h in
      let there = subst (λ z. bit_at z (place_bit (stack_of cfg.regions n)) ≡ 1) only
      (lies_in cfg valid v.stacks n stands.place) in
      let listed : t < length (stacks_of cfg.regions) =
      subst (λ (o : Option ℕ). IfSome o (λ k. k < length (stacks_of cfg.regions))) e D.chain.fits.rules.stack in
      place_from (stack_of cfg.regions n) t (omega (arith, listed, (laid cfg valid).stack_count))
      (one_bit t (place_bit (stack_of cfg.regions n)) there)
  in_key_stack None e h = absurd (false≢true h)

  by_location : (o : Option Location) → location_of key v ≡ o → is_interrupted_rsp v.sym ≡ false
      → is_exact_at (moment_of cfg key s 0) false v o ≡ true → stack_of cfg.regions n ≡ location_stack cfg key o
  by_location (Some (Number a)) e other h =
      let is = located cfg key chain_env.user_gs (newest_of S.chain) D.chain.fits chain_env refl n
      (word_at S.cpu.regs 4 D.typed.cpu.regs.1) v (Number a) (value_at_valid s.regs 4 ok.regs) stands e in
      ap (stack_of cfg.regions) (sym is.1)
  by_location (Some (Relative k)) e other h =
      let p = and_parts (int_le (neg_ℤ (pos 4096)) k) (is_only_stack v.stacks key.stack) h in
      in_key_stack key.stack refl p.1
  by_location None e other h = absurd (false≢true (sym other ∙ sym (same_test v.sym) ∙ h))

  at_exact : is_exact_at (moment_of cfg key s 0) false v (location_of key v) ≡ true
  at_exact =
      let m = moment_of cfg key s 0 in
      (and_parts
      (not (is_same_who m.cpu.gs.active who.Any) && (not (is_same_who m.cpu.gs.inactive who.Any)
      && not (is_same_map m.cpu.map map_is.Any)))
      (is_exact_at m false v (location_of key v)) exact).1

  -- the stack that is named is RSP's
  pub rsp_stack : stack_of cfg.regions n ≡ value_stack cfg key v
  rsp_stack = elim (cases_Bool (is_interrupted_rsp v.sym)) [
    | inl own ↦
        let same : n ≡ register (newest_of S.chain).due rsp =
        named_rsp v.sym chain_env n own stands.symbol
        ∙ register_word (newest_of S.chain).due
        (newest_all IsActivation S.chain D.chain.one_user D.typed.chain).due.regs.0 4 (omega arith) in
        ap (stack_of cfg.regions) same ∙ due_stack cfg key S.chain D.chain
        ∙ sym (ap (λ t. cond t key.stack (location_stack cfg key (location_of key v))) own)
    | inr other ↦
        by_location (location_of key v) refl other at_exact
        ∙ sym (ap (λ t. cond t key.stack (location_stack cfg key (location_of key v))) other)
  ]

  -- ---- the saved RSP

  module _ (user_gs base : ℕ) where
    abbrev env : ValueEnv
    env = entry_env cfg S.cpu user_gs base

    word_is : n ≡ get_or env.words 4 0
    word_is = sym (register_word S.cpu D.typed.cpu.regs.0 4 (omega arith))

    in_place : (o : Option ℕ) → stack_of cfg.regions n ≡ o → LiesIn (2 ^ place_bit o) env.stacks n
    in_place o e =
        lies_at cfg valid (2 ^ place_bit o) n
        (subst (λ z. bit_at (2 ^ place_bit o) (place_bit z) ≡ 1) (sym e) (bit_at-pow_same (place_bit o)))

    in_own_region : (o : Option ℕ) → stack_of cfg.regions n ≡ o → Represents (in_region o (stack_region cfg o)) env n
    in_own_region (Some t) e =
        let there = in_stack cfg t n valid e in
        let r = there.region in
        let ends = there.is.ends in
        let made : Represents (in_region (Some t) (Some r)) env n = record {
          symbol = word_is;
          bits = prefix_sound r.span there.is.filled (omega (arith, ends)) n there.held;
          place = in_place (Some t) e;
        } in
        subst (λ z. Represents (in_region (Some t) z) env n) (sym there.numbered) made
    in_own_region None e = record { symbol = word_is; bits = nothing_stands n; place = in_place None e }

    saved_by : (b : Bool) → Represents (own_rsp cfg b (value_stack cfg key v) v) env n
    saved_by true = in_own_region (value_stack cfg key v) rsp_stack
    saved_by false = record { symbol = word_is; bits = stands.bits; place = stands.place }

    pub saved_rsp : Represents (own_rsp cfg (false || is_relative (location_of key v)) (value_stack cfg key v) v) env n
    saved_rsp = saved_by (false || is_relative (location_of key v))

  -- ---- interrupted kernel code

  known : IsKnownCr3 cfg S.cpu.cr3
  known =
      let m = moment_of cfg key s 0 in
      let p = and_parts
      (not (is_same_who m.cpu.gs.active who.Any) && (not (is_same_who m.cpu.gs.inactive who.Any)
      && not (is_same_map m.cpu.map map_is.Any)))
      (is_exact_at m false v (location_of key v)) exact in
      let q = and_parts (not (is_same_who m.cpu.gs.active who.Any))
      (not (is_same_who m.cpu.gs.inactive who.Any) && not (is_same_map m.cpu.map map_is.Any)) p.0 in
      let r = and_parts (not (is_same_who m.cpu.gs.inactive who.Any)) (not (is_same_map m.cpu.map map_is.Any)) q.1 in
      known_cr3 cfg s.map S.cpu.cr3 (not-true (is_same_map s.map map_is.Any) r.1) D.spaces.map

  -- what is known of it is true of the machine, by C4
  pub code_interrupted : (h : Option Handler)
      → IsInterrupted cfg (interrupted_at cfg key (code at) s h) s.slots S (user_gs_of S.chain)
  code_interrupted h =
      kernel_interrupted cfg valid key at found s S ok D h known rsp_stack (λ base. saved_rsp (user_gs_of S.chain) base)
