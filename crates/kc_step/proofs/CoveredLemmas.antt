-- A whole step. A return is covered by the law of returns. After any other instruction kernel code goes on at the
-- successor of its row, which what is known after it stands for: at an address the state with the change describes the
-- machine, and in a handler the state with the call's changes does.
use Rattle.std.proofs.Common.{◌≡◌, ℕ, ◌+◌, ◌⊎◌, inl, inr, true, false, Some, Ok, sym, ap, ◌∙◌, subst}
use Rattle.kc_bits.specs.Bits.{word}
use Rattle.kc_insn.specs.declared.insn.Insn.{Insn}
use Rattle.kc_insn.specs.declared.insn.Insn.TheVariants.{Iretq, Sysretq}
use Rattle.kc_image.specs.Image.{Contents}
use Rattle.kc_regions.specs.Description.{Description}
use Rattle.kc_exec.specs.Breaks.{effect}
use Rattle.kc_exec.specs.Effect.{row}
use Rattle.kc_exec.specs.Execution as machine
use Rattle.kc_exec.specs.Execution.{stops}
use Rattle.kc_exec.specs.Moment.{Moment}
use Rattle.kc_exec.specs.declared.executed.ExecEnd.TheVariants.{Next}
use Rattle.kc_exec.specs.declared.executed.Executed.{Executed}
use Rattle.kc_exec.specs.declared.state.State.{State}
use Rattle.kc_events.specs.declared.turn.Turn.TheVariants.{Go}
use Rattle.kc_events.specs.Run.{IsLike, Steps}
use Rattle.kc_state.specs.AbsEffect.{AbsChange, abs_row, applied}
use Rattle.kc_state.specs.AbsStep.{abs_step, with_call}
use Rattle.kc_state.specs.declared.key.Key.{Key}
use Rattle.kc_state.specs.declared.state.AbsState.{AbsState}
use Rattle.kc_state.specs.declared.succ.Succ.{Succ}
use Rattle.kc_state.specs.declared.succ.Succ.TheVariants.{Falls, Jumps, Branches, Calls, Returns}
use Rattle.kc_describes.specs.Describes.{Describes}
use Rattle.kc_calls.specs.Laws.{body_of}
use Rattle.kc_returns.specs.Whole.{IsBack}
use Rattle.kc_returns.proofs.PassLemmas.{step_passes}
use Rattle.kc_stack.specs.Rows.{RunsAt, GoesOnAt, RowGoesOn}
use Rattle.kc_effects.specs.Effects.{IsNoReturn}
use Rattle.kc_effects.proofs.RowLemmas.{covered_rows}
use Rattle.kc_step.specs.Step.{IsAtInsn}
use Rattle.kc_step.specs.Covered.{DescribesAt, GoesOn, StepIsCovered}
use Rattle.kc_step.proofs.PassLemmas.{IsAnswer}
use Rattle.kc_step.proofs.AccessLemmas.{there, before, kernel, fits, open_data, conditions}
use Rattle.kc_step.proofs.BreakLemmas.{row_end, is_answer, returns, which, step_breaks_nothing}
use Rattle.kc_step.proofs.CallStepLemmas.{IsCallOf, caller, LeadsInside, call_leads}
use Rattle.kc_step.proofs.GoesLemmas.{left_by, goes, leads}
use Rattle.kc_step.proofs.StoreLemmas.{step_makes_store}

-- ---- an instruction that is no return

module _ (cfg : Description) (image : Contents) (key : Key) (at : ℕ) (insn : Insn) (len : ℕ) (s : AbsState)
    (S : State) (H : IsAtInsn cfg image key at insn len s S) (keeps : IsNoReturn insn) (succ : Succ) (out : AbsState)
    (answer : abs_step cfg key s insn (word (at + len)) ≡ Ok (succ, out)) where
  abbrev m : Moment
  m = there cfg image key at insn len s S H

  abbrev change : AbsChange
  change = abs_row (before cfg image key at insn len s S H) insn

  abbrev done : Executed
  done = row m insn

  -- the state with the change
  abbrev known : AbsState
  known = applied cfg key s change

  abbrev Runs : Type 0
  Runs = stops cfg (machine.accesses_of S.cpu len (effect m insn)) ≡ false

  A : IsAnswer cfg key s insn (before cfg image key at insn len s S H) succ out
  A = is_answer cfg image key at insn len s S H succ out answer

  -- where the machine doesn't stop, the row is covered
  row_goes : Runs → RowGoesOn key S.chain s m change done
  row_goes runs =
      covered_rows insn keeps key S.chain s m (kernel cfg image key at insn len s S H)
      (record { bytes = H.described.typed.mem; slots = H.described.slots }) (fits cfg image key at insn len s S H)
      (conditions cfg image key at insn len s S H A.passes)
      (open_data cfg image key at insn len s S H A.passes keeps.iretq runs)

  module _ (runs : Runs) (T : State) (like : IsLike T (left_by S done Next)) where
    R : RowGoesOn key S.chain s m change done
    R = row_goes runs

    -- at an address
    leads_to : (to : ℕ) → RunsAt to done.cpu → DescribesAt cfg key to known T
    leads_to to point =
        leads cfg image key at insn len s S H keeps A.passes to (record {
          row = R.row;
          typed = R.typed;
          kernel = R.kernel;
          mode = point.0;
          rip = point.1;
          store = R.store;
        }) T like

    falls_to : RunsAt m.next done.cpu → DescribesAt cfg key (word (at + len)) known T
    falls_to point =
        subst (λ a. DescribesAt cfg key (word (a + len)) known T) H.described.point.1 (leads_to m.next point)

    -- in a handler
    leads_in : (handler : ℕ) → change.succ ≡ Calls handler
        → Describes cfg key (body_of at) (Some (insn, len)) (with_call cfg key known (Calls handler)) T
    leads_in handler e =
        let C : IsCallOf (before cfg image key at insn len s S H) insn handler =
        caller (before cfg image key at insn len s S H) insn handler e in
        let inside = subst (LeadsInside cfg image key at len s S) (sym C.is)
        (call_leads cfg image key at len s S C.target handler C.entry) in
        subst (λ c. Describes cfg key (body_of at) (Some (insn, len)) (with_call cfg key known c) T) e
        (inside H A.passes runs T (subst (IsLike T) (sym (ap (left_by S done) (row_end m insn keeps))) like))

    by_successor : (c : Succ) → change.succ ≡ c → GoesOnAt m c done.cpu
        → GoesOn cfg key at insn len s S c (with_call cfg key known c) T
    by_successor Falls e point = falls_to point
    by_successor (Jumps target) e point = leads_to target point
    by_successor (Branches target) e (inl point) = inl (falls_to point)
    by_successor (Branches target) e (inr point) = inr (leads_to target point)
    by_successor (Calls handler) e point = leads_in handler e
    by_successor Returns e point = absurd point

    goes_on : GoesOn cfg key at insn len s S succ out T
    goes_on =
        subst (λ o. GoesOn cfg key at insn len s S succ o T)
        (sym (ap (with_call cfg key known) A.leads) ∙ A.leaves)
        (by_successor succ A.leads (subst (λ c. GoesOnAt m c done.cpu) A.leads R.point))

  row_stops_or_goes : (T : State) → Steps cfg image S Go T
      → (T.stopped ≡ true) ⊎ GoesOn cfg key at insn len s S succ out T
  row_stops_or_goes T steps = elim (goes cfg image key at insn len s S H keeps A.passes T steps) [
    | inl halted ↦ inl halted
    | inr left ↦ inr (goes_on left.0 T left.1)
  ]

-- ---- all instructions

module _ (cfg : Description) (image : Contents) (key : Key) (at : ℕ) (insn : Insn) (len : ℕ)
    (s : AbsState) (S : State) (H : IsAtInsn cfg image key at insn len s S) (succ : Succ)
    (out : AbsState) (answer : abs_step cfg key s insn (word (at + len)) ≡ Ok (succ, out)) where
  -- the answer for a return leads nowhere in the context
  gives_back : (insn ≡ Iretq) ⊎ (insn ≡ Sysretq) → (T : State) → IsBack cfg insn s S T
      → GoesOn cfg key at insn len s S succ out T
  gives_back is T back =
      subst (λ c. GoesOn cfg key at insn len s S c out T)
      (sym (step_passes cfg key s insn (word (at + len)) succ out is answer).1) back

  stops_or_goes : ((insn ≡ Iretq) ⊎ (insn ≡ Sysretq)) ⊎ IsNoReturn insn → (T : State) → Steps cfg image S Go T
      → (T.stopped ≡ true) ⊎ GoesOn cfg key at insn len s S succ out T
  stops_or_goes (inl is) T steps =
      elim ((returns cfg image key at insn len s S H succ out answer is).goes T steps) [
        | inl halted ↦ inl halted
        | inr back ↦ inr (gives_back is T back)
      ]
  stops_or_goes (inr keeps) T steps =
      row_stops_or_goes cfg image key at insn len s S H keeps succ out answer T steps

pub step_covered : StepIsCovered
step_covered cfg image key at insn len s S succ out H answer = record {
  quiet = step_breaks_nothing cfg image key at insn len s S succ out H answer;
  goes = stops_or_goes cfg image key at insn len s S H succ out answer (which insn);
  writes = step_makes_store cfg image key at insn len s S succ out H answer;
}
