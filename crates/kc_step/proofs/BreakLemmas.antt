-- No break. A return breaks nothing by the law of returns. Any other instruction ends with the next one, where no byte
-- of its accesses lies in a guard: so B5 to B8 don't come; B1 doesn't by C5, and B2 to B4 don't since its accesses break
-- nothing.
use Rattle.std.proofs.Common.{◌≡◌, ℕ, ◌+◌, ◌==◌, ◌⊎◌, inl, inr, false, List, Option, Some, None, Ok, refl, sym, ap, ◌∙◌, subst}
use Rattle.std.proofs.lemmas.Bool.{cond_both}
use Rattle.kc_bits.specs.Bits.{word}
use Rattle.kc_words.specs.declared.width.Width.{Width}
use Rattle.kc_insn.specs.declared.insn.Insn.{Insn}
use Rattle.kc_insn.specs.declared.insn.Insn.TheVariants.{Nop, Endbr64, Lfence, Ud2, Cld, Clac, Stac, Cli, Sti, Swapgs}
use Rattle.kc_insn.specs.declared.insn.Insn.TheVariants.{Sysretq, Iretq, Rdmsr, Wrmsr, Pushfq, Popfq, Ret, ReadCr3}
use Rattle.kc_insn.specs.declared.insn.Insn.TheVariants.{WriteCr3, ReadGs, WriteGs, Mov, Lea, Xchg, Push, Pop, Alu, Test}
use Rattle.kc_insn.specs.declared.insn.Insn.TheVariants.{Bit, Jcc, Jmp, Call}
use Rattle.kc_insn.specs.declared.insn.Place.{Place}
use Rattle.kc_image.specs.Image.{Contents}
use Rattle.kc_regions.specs.Description.{Description}
use Rattle.kc_exec.specs.Breaks.{effect}
use Rattle.kc_exec.specs.Change.{operated}
use Rattle.kc_exec.specs.Effect as effects
use Rattle.kc_exec.specs.Effect.{row, with_msr}
use Rattle.kc_exec.specs.Execution.{stops}
use Rattle.kc_exec.specs.Moment.{Moment}
use Rattle.kc_exec.specs.declared.access.Access.{Access}
use Rattle.kc_exec.specs.declared.executed.ExecEnd.{ExecEnd}
use Rattle.kc_exec.specs.declared.executed.ExecEnd.TheVariants.{Next, Returned, Forbidden}
use Rattle.kc_exec.specs.declared.executed.Executed.{Executed}
use Rattle.kc_exec.specs.declared.state.State.{State}
use Rattle.kc_events.specs.declared.turn.Turn.TheVariants.{Go}
use Rattle.kc_events.specs.Attempt.{Attempt, executed, attempt}
use Rattle.kc_events.specs.Breaks.{IsUndecodable, BreaksWith}
use Rattle.kc_events.specs.Fetched.{IsAt}
use Rattle.kc_events.specs.Run.{Breaks}
use Rattle.kc_state.specs.AbsEffect.{moment_of}
use Rattle.kc_state.specs.AbsStep.{abs_step}
use Rattle.kc_state.specs.declared.key.Key.{Key}
use Rattle.kc_state.specs.declared.state.AbsState.{AbsState}
use Rattle.kc_state.specs.declared.succ.Succ.{Succ}
use Rattle.kc_describes.proofs.QuietLemmas.{quiet_gs, quiet_touches, quiet_writes}
use Rattle.kc_returns.specs.Whole.{IsReturnCovered}
use Rattle.kc_returns.proofs.FetchLemmas.{one_found, decodable}
use Rattle.kc_returns.proofs.PassLemmas.{step_passes}
use Rattle.kc_returns.proofs.WholeLemmas.{return_covered}
use Rattle.kc_system.proofs.LawLemmas.{breaks_nothing}
use Rattle.kc_effects.specs.Effects.{IsNoReturn}
use Rattle.kc_step.specs.Step.{IsAtInsn, StepBreaksNothing}
use Rattle.kc_step.proofs.PassLemmas.{PassesAll, IsAnswer, answered}
use Rattle.kc_step.proofs.AccessLemmas.{there, before, at_fits, kernel, all_quiet, open_data, conditions}

-- ---- how an instruction ends

operated_end : (m : Moment) (w : Width) (dest : Place) (reads : List Access) (f : ℕ) (r : Option ℕ)
    → (operated m w dest reads f r).end ≡ Next
operated_end m w dest reads f None = refl
operated_end m w dest reads f (Some v) = refl

msr_end : (m : Moment) (number v : ℕ) → (with_msr m number v).end ≡ Next
msr_end m number v =
    let P = λ (done : Executed). done.end ≡ Next in
    cond_both (number == effects.gs_base) _ _ P (λ h. refl)
    (λ h. cond_both (number == effects.kernel_gs_base) _ _ P (λ g. refl)
    (λ g. cond_both (number == effects.mcg_status) _ _ P (λ k. refl) (λ k. refl)))

pub row_end : (m : Moment) (insn : Insn) → IsNoReturn insn → (row m insn).end ≡ Next
unfolding row
row_end m Nop keeps = refl
row_end m Endbr64 keeps = refl
row_end m Lfence keeps = refl
row_end m Ud2 keeps = refl
row_end m (Mov w dest src) keeps = refl
row_end m (Lea w dest src) keeps = refl
row_end m (Xchg w dest src) keeps = refl
row_end m (Push src) keeps = refl
row_end m (Pop dest) keeps = refl
row_end m Pushfq keeps = refl
row_end m Popfq keeps = refl
row_end m (Alu op w dest src) keeps = operated_end m w dest _ _ _
row_end m (Test w dest src) keeps = refl
row_end m (Bit op w dest number) keeps = operated_end m w dest _ _ _
row_end m (Jcc code target) keeps = refl
row_end m (Jmp target) keeps = refl
row_end m (Call target) keeps = refl
row_end m Ret keeps = refl
row_end m Cli keeps = refl
row_end m Cld keeps = refl
row_end m Clac keeps = refl
row_end m Stac keeps = refl
row_end m Sti keeps = refl
row_end m Swapgs keeps = refl
row_end m (ReadGs r) keeps = refl
row_end m (WriteGs r) keeps = refl
row_end m Rdmsr keeps = refl
row_end m Wrmsr keeps = msr_end m (effects.msr_number m.cpu) (effects.edx_eax m.cpu)
row_end m (ReadCr3 r) keeps = refl
row_end m (WriteCr3 r) keeps = refl
row_end m Sysretq keeps = absurd (keeps.sysretq refl)
row_end m Iretq keeps = absurd (keeps.iretq refl)

not_returned : (end : ExecEnd) → end ≡ Next → end ≡ Returned → ⊥
not_returned end is other = absurd cc

not_forbidden : (b : ℕ) (end : ExecEnd) → end ≡ Next → end ≡ Forbidden b → ⊥
not_forbidden b end is other = absurd cc

-- ---- the breaks

module _ (cfg : Description) (image : Contents) (key : Key) (at : ℕ) (insn : Insn) (len : ℕ) (s : AbsState)
    (S : State) (H : IsAtInsn cfg image key at insn len s S) (keeps : IsNoReturn insn)
    (pass : PassesAll (before cfg image key at insn len s S H) s insn) where
  abbrev pub m : Moment
  m = there cfg image key at insn len s S H

  abbrev pub t : Attempt
  t = executed S len (effect m insn)

  pub found_one : (found : Option (Insn × ℕ)) → IsAt image S.cpu.rip found → found ≡ Some (insn, len)
  found_one found fetched =
      one_found image at found insn len H.spelled (subst (λ a. IsAt image a found) H.described.point.1 fetched)

  pub is_row : stops cfg t.accesses ≡ false → effect m insn ≡ row m insn
  is_row runs =
      (breaks_nothing key S.chain s m insn (kernel cfg image key at insn len s S H)
      (conditions cfg image key at insn len s S H pass)
      (open_data cfg image key at insn len s S H pass keeps.iretq runs)).1

  ends : stops cfg t.accesses ≡ false → (effect m insn).end ≡ Next
  ends runs = ap (λ (done : Executed). done.end) (is_row runs) ∙ row_end m insn keeps

  pub unbroken : (b : ℕ) → BreaksWith cfg (Some (insn, len)) S Go t b → ⊥
  unbroken b (inl first) =
      decodable cfg H.valid s.map at len (at_fits cfg image key at insn len s S H) H.text insn
      (subst (λ a. IsUndecodable cfg a (Some (insn, len))) H.described.point.1 first.2)
  unbroken b (inr (inl second)) =
      quiet_gs cfg S t (all_quiet cfg image key at insn len s S H pass keeps.iretq) second.1
  unbroken b (inr (inr (inl third))) =
      quiet_touches cfg S t (all_quiet cfg image key at insn len s S H pass keeps.iretq) third.1
  unbroken b (inr (inr (inr (inl fourth)))) =
      quiet_writes cfg S t (all_quiet cfg image key at insn len s S H pass keeps.iretq) refl fourth.1
  unbroken b (inr (inr (inr (inr (runs, inl fifth))))) =
      not_returned (effect m insn).end (ends runs) fifth.1.0
  unbroken b (inr (inr (inr (inr (runs, inr (inl sixth)))))) =
      not_forbidden b (effect m insn).end (ends runs) sixth
  unbroken b (inr (inr (inr (inr (runs, inr (inr eighth)))))) = keeps.sysretq eighth.1.0

  pub quiet : (b : ℕ) → Breaks cfg image S Go b → ⊥
  quiet b h =
      unbroken b
      (subst (λ f. BreaksWith cfg f S Go (attempt cfg f S Go) b) (found_one h.found h.fetched) h.broken)

-- ---- all instructions

pub which : (insn : Insn) → ((insn ≡ Iretq) ⊎ (insn ≡ Sysretq)) ⊎ IsNoReturn insn
which Iretq = inl (inl refl)
which Sysretq = inl (inr refl)
which insn = inr (record { iretq = λ e. absurd cc; sysretq = λ e. absurd cc })

module _ (cfg : Description) (image : Contents) (key : Key) (at : ℕ) (insn : Insn) (len : ℕ) (s : AbsState)
    (S : State) (H : IsAtInsn cfg image key at insn len s S) (succ : Succ) (out : AbsState)
    (answer : abs_step cfg key s insn (word (at + len)) ≡ Ok (succ, out)) where
  -- the conditions, with the address after the instruction as the machine has it
  pub is_answer : IsAnswer cfg key s insn (before cfg image key at insn len s S H) succ out
  is_answer =
      subst (λ a. IsAnswer cfg key s insn (moment_of cfg key s (word (a + len))) succ out) (sym H.described.point.1)
      (answered cfg key s insn (word (at + len)) succ out answer)

  pub returns : (insn ≡ Iretq) ⊎ (insn ≡ Sysretq) → IsReturnCovered cfg image insn s S
  returns is =
      return_covered cfg image key at insn len s S (record {
        valid = H.valid;
        state = H.state;
        is_return = is;
        spelled = H.spelled;
        text = H.text;
        passes = (step_passes cfg key s insn (word (at + len)) succ out is answer).0;
        described = H.described;
      })

  all_quiet_by : ((insn ≡ Iretq) ⊎ (insn ≡ Sysretq)) ⊎ IsNoReturn insn → (b : ℕ) → Breaks cfg image S Go b → ⊥
  all_quiet_by (inl is) b h = (returns is).quiet b h
  all_quiet_by (inr keeps) b h = quiet cfg image key at insn len s S H keeps is_answer.passes b h

  pub nothing_breaks : (b : ℕ) → Breaks cfg image S Go b → ⊥
  nothing_breaks b h = all_quiet_by (which insn) b h

pub step_breaks_nothing : StepBreaksNothing
step_breaks_nothing cfg image key at insn len s S succ out H answer b h =
    nothing_breaks cfg image key at insn len s S H succ out answer b h
