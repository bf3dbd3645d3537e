-- The accesses of an instruction that isn't IRETQ. On both sides they agree, and the fetch and each data access break
-- nothing, by C4 to C8. Where none stops the machine, none has a byte in a guard.
use Rattle.std.proofs.Common.{◌≡◌, ℕ, zero, suc, ◌^◌, ◌<◌, ◌&&◌, ◌⊎◌, not, inl, inr, true, false, List, [], ◌∷◌, All, Option, Some, None, refl, sym, ap, ◌∙◌, subst, arith}
use Rattle.std.specs.List.{list_all, list_any}
use Rattle.std.proofs.lemmas.Bool.{cases_eq, and_parts, or_parts, or_cases, not-true, false≢true}
use Rattle.std.proofs.lemmas.List.Elements.{All-nil, All-cons, All-head, All-tail}
use Rattle.kc_insn.specs.declared.insn.Insn.{Insn}
use Rattle.kc_insn.specs.declared.insn.Insn.TheVariants.{Iretq}
use Rattle.kc_image.specs.Image.{Contents}
use Rattle.kc_regions.specs.Description.{Description}
use Rattle.kc_regions.specs.Layout.{InBytes}
use Rattle.kc_regions.specs.Permission.{in_guard}
use Rattle.kc_regions.specs.declared.region.Region.{Region}
use Rattle.kc_space.specs.Spaces.{is_same_who, is_same_map, WhoStands}
use Rattle.kc_space.specs.declared.env.SpaceEnv.{SpaceEnv}
use Rattle.kc_space.specs.declared.map.MapState.TheVariants as map
use Rattle.kc_space.specs.declared.who.Who.{Who}
use Rattle.kc_space.specs.declared.who.Who.TheVariants as who
use Rattle.kc_mem.specs.Memory.{next}
use Rattle.kc_exec.specs.Breaks.{judged, break_of, effect}
use Rattle.kc_exec.specs.Effect.{row}
use Rattle.kc_exec.specs.Execution as machine
use Rattle.kc_exec.specs.Execution.{moment, guarded, stops, fetch_of, data_accesses}
use Rattle.kc_exec.specs.Moment.{Moment}
use Rattle.kc_exec.specs.declared.access.Access.{Access}
use Rattle.kc_exec.specs.declared.executed.Executed.{Executed}
use Rattle.kc_exec.specs.declared.state.Activation.{Activation}
use Rattle.kc_exec.specs.declared.state.State.{State}
use Rattle.kc_state.specs.AbsEffect.{abs_row}
use Rattle.kc_state.specs.Conditions.{accesses_of, may_at, permits_more}
use Rattle.kc_state.specs.Moment.{cpu_of}
use Rattle.kc_state.specs.Operand.{AbsMoment}
use Rattle.kc_state.specs.declared.key.Key.{Key}
use Rattle.kc_state.specs.declared.state.AbsState.{AbsState}
use Rattle.kc_describes.specs.Chain.{newest_of, env_of, user_gs_of}
use Rattle.kc_describes.specs.Spaces.{gs_env}
use Rattle.kc_describes.specs.Widths.{IsWord}
use Rattle.kc_describes.proofs.AccessLemmas.{Agree, HasOperands, accesses_agree}
use Rattle.kc_describes.proofs.FrameLemmas.{code_file, seen_of}
use Rattle.kc_describes.proofs.InsnLemmas.{has_operands}
use Rattle.kc_describes.proofs.OperandLemmas.{IsSeen}
use Rattle.kc_describes.proofs.PermissionLemmas.{IsKnownCr3, known_cr3}
use Rattle.kc_describes.proofs.QuietLemmas.{IsQuiet, quiet_all}
use Rattle.kc_returns.proofs.FetchLemmas.{fetch_quiet}
use Rattle.kc_system.specs.Forbidden.{AreUnguarded, PassesConditions}
use Rattle.kc_system.specs.System.{known_moment, IsKernelMoment}
use Rattle.kc_stack.specs.Rows.{IsSpelled}
use Rattle.kc_effects.proofs.DispLemmas.{disps_of}
use Rattle.kc_effects.proofs.SpelledLemmas.{found_is_spelled}
use Rattle.kc_step.specs.Step.{IsAtInsn}
use Rattle.kc_step.proofs.PassLemmas.{PassesAll}

-- ---- guards

unguarded_byte : (regions : List Region) (a n x : ℕ) → a < 2 ^ 64 → x < 2 ^ 64 → guarded regions a n ≡ false
    → InBytes x a n → in_guard regions x ≡ false
unguarded_byte regions a zero x fits low none inside = absurd (omega (arith, inside))
unguarded_byte regions a (suc n) x fits low none inside =
    let p = or_parts (in_guard regions a) (guarded regions (next a) n) none in
    elim (cases_eq x a) [
      | inl e ↦ ap (in_guard regions) e ∙ p.0
      | inr e ↦ unguarded_byte regions (next a) n x (omega arith) low p.1 (omega (arith, fits, low, inside, e))
    ]

abbrev IsOpen : Description → Access → Type 0
IsOpen cfg a = (x : ℕ) → x < 2 ^ 64 → InBytes x a.at a.size → in_guard cfg.regions x ≡ false

-- accesses at addresses, none of which stops the machine, have no byte in a guard
pub unguarded : (cfg : Description) (cr3 gs : ℕ) (chain : List Activation) (ds : List Access)
    → All (IsQuiet cfg cr3 gs chain) ds → stops cfg ds ≡ false → All (IsOpen cfg) ds
unguarded cfg cr3 gs chain [] quiet none = All-nil (IsOpen cfg)
unguarded cfg cr3 gs chain (d ∷ ds) quiet none =
    let p = or_parts (guarded cfg.regions d.at d.size) (list_any (λ a. guarded cfg.regions a.at a.size) ds) none in
    let first = All-head (IsQuiet cfg cr3 gs chain) d ds quiet in
    All-cons (IsOpen cfg) d ds
    (λ x low inside. unguarded_byte cfg.regions d.at d.size x first.fits low p.0 inside)
    (unguarded cfg cr3 gs chain ds (All-tail (IsQuiet cfg cr3 gs chain) d ds quiet) p.1)

-- ---- the kernel's GS base

kernel_base : (w : Who) (env : SpaceEnv) (n : ℕ) → is_same_who w who.Kernel ≡ true → WhoStands w env n
    → n ≡ env.kernel
kernel_base who.Kernel env n e h = h
kernel_base who.User env n e h = absurd (false≢true e)
kernel_base who.Any env n e h = absurd (false≢true e)

-- a break is no access
judged_data : (o : Option ℕ) (done : Executed) → data_accesses (judged o done) ≡ data_accesses done
judged_data None done = refl
judged_data (Some n) done = refl

-- ---- an instruction that is next

module _ (cfg : Description) (image : Contents) (key : Key) (at : ℕ) (insn : Insn) (len : ℕ) (s : AbsState)
    (S : State) (H : IsAtInsn cfg image key at insn len s S) where
  abbrev pub there : Moment
  there = moment cfg S.cpu S.latch S.mem.bytes len

  abbrev pub before : AbsMoment
  before = known_moment key s there

  abbrev base : ℕ
  base = (newest_of S.chain).base

  abbrev pub Quiet : Access → Type 0
  Quiet access = IsQuiet cfg S.cpu.cr3 S.cpu.gs S.chain access

  pub next_fits : there.next < 2 ^ 64
  next_fits = omega arith

  pub at_fits : at < 2 ^ 64
  at_fits = subst IsWord H.described.point.1 H.described.typed.cpu.rip

  pub kernel : IsKernelMoment key S.chain s there
  kernel = record {
    context = record { valid = H.valid; fits = H.described.chain; typed = H.described.typed.chain };
    state = H.state;
    typed = H.described.typed.cpu;
    next = next_fits;
    kernel = H.described.kernel;
    mode = H.described.point.0;
    row = record {
      file =
          code_file (env_of cfg S.chain) s S.cpu S.cpu.mode H.described.point.0 H.described.file;
      spaces = H.described.spaces;
    };
  }

  pub seen : IsSeen cfg key S.chain (cpu_of s) s.slots S.cpu S.mem.bytes there.next
  seen = seen_of cfg key at there.next (Some (insn, len)) s S H.state next_fits H.described

  -- it has a spelling, since the image spells it
  pub fits : IsSpelled insn
  fits = found_is_spelled image at insn len H.spelled

  pub operands : HasOperands insn
  operands = has_operands insn fits.encodable (disps_of insn fits.fits)

  -- both sides agree on the data accesses
  pub agree : (insn ≡ Iretq → ⊥)
      → Agree cfg key base (accesses_of before insn (abs_row before insn).store) (data_accesses (row there insn))
  agree other =
      accesses_agree cfg H.valid key S.chain H.described.chain H.described.typed.chain (cpu_of s) s.slots S.cpu S.latch
      S.mem.bytes there.next seen insn operands other

  module _ (pass : PassesAll before s insn) where
    known : IsKnownCr3 cfg S.cpu.cr3
    known =
        let p = and_parts (not (is_same_who s.gs.active who.Any) && (not (is_same_who s.gs.inactive who.Any)
        && not (is_same_map s.map map.Any))) _ pass.exact in
        let q = and_parts (not (is_same_who s.gs.active who.Any)) _ p.0 in
        let r = and_parts (not (is_same_who s.gs.inactive who.Any)) (not (is_same_map s.map map.Any)) q.1 in
        known_cr3 cfg s.map S.cpu.cr3 (not-true (is_same_map s.map map.Any) r.1) H.described.spaces.map

    own_gs : (S.cpu.gs ≡ cfg.cpu.kernel_gs)
        ⊎ (list_all (λ a. not a.gs) (accesses_of before insn (abs_row before insn).store) ≡ true)
    own_gs = elim (or_cases (is_same_who s.gs.active who.Kernel) _ pass.own_gs) [
      | inl is ↦ inl (kernel_base s.gs.active (gs_env cfg (user_gs_of S.chain)) S.cpu.gs is H.described.spaces.gs.active)
      | inr none ↦ inr none
    ]

    pub fetched : Quiet (fetch_of S.cpu len)
    fetched =
        fetch_quiet cfg H.valid s.map at len at_fits H.text key S.cpu.cr3 H.described.spaces.map known S.cpu.gs S.chain
        S.cpu H.described.point.1

    data_quiet : (insn ≡ Iretq → ⊥) → All Quiet (data_accesses (row there insn))
    data_quiet other =
        let ls = accesses_of before insn (abs_row before insn).store in
        let p = and_parts (list_all (λ a. may_at before a.at a.size a.touch) ls) (permits_more before insn) pass.permitted
        in
        quiet_all cfg H.valid key base S.cpu.cr3 S.cpu.gs s.floors S.chain H.described.chain.fits.base
        H.described.floors before refl refl H.described.spaces.map known ls (data_accesses (row there insn))
        (agree other) p.0 pass.clear own_gs

    -- the fetch and the data accesses break nothing
    pub all_quiet : (insn ≡ Iretq → ⊥) → All Quiet (machine.accesses_of S.cpu len (effect there insn))
    unfolding effect
    all_quiet other =
        All-cons Quiet (fetch_of S.cpu len) (data_accesses (effect there insn)) fetched
        (subst (All Quiet) (sym (judged_data (break_of there insn) (row there insn))) (data_quiet other))

    -- where the machine doesn't stop, no data access has a byte in a guard
    pub open_data : (insn ≡ Iretq → ⊥) → stops cfg (machine.accesses_of S.cpu len (effect there insn)) ≡ false
        → AreUnguarded there (row there insn)
    unfolding effect
    open_data other none =
        let p = or_parts (guarded cfg.regions S.cpu.rip len) _ none in
        unguarded cfg S.cpu.cr3 S.cpu.gs S.chain (data_accesses (row there insn)) (data_quiet other)
        (subst (λ ds. stops cfg ds ≡ false) (judged_data (break_of there insn) (row there insn)) p.1)

    pub conditions : PassesConditions key s there insn
    conditions =
        record { permitted = pass.permitted; cr3 = pass.cr3; calls = pass.calls; allowed = pass.allowed }
