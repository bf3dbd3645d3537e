-- A step is covered by the law of steps, since the answer is the abstract step's; and the end of a handler by the law of
-- ends: the state that the law has after it is the one that is answered.
use Rattle.std.proofs.Common.{◌≡◌, ℕ, ◌+◌, Bool, sym, ap, ◌∙◌, subst}
use Rattle.std.specs.Prelude.{is_some, IfSome, IfOk, Result, Ok, Err}
use Rattle.kc_bits.specs.Bits.{word}
use Rattle.kc_insn.specs.declared.insn.Insn.{Insn}
use Rattle.kc_regions.specs.Description.{Description}
use Rattle.kc_regions.specs.Valid.{IsValid}
use Rattle.kc_state.specs.AbsStep.{abs_step}
use Rattle.kc_state.specs.Calls.{after_handler}
use Rattle.kc_state.specs.State.{IsState}
use Rattle.kc_state.specs.declared.condition.Condition.{Condition}
use Rattle.kc_state.specs.declared.key.Key.{Key}
use Rattle.kc_state.specs.declared.scratch.Scratch.{Scratch}
use Rattle.kc_state.specs.declared.state.AbsState.{AbsState}
use Rattle.kc_state.specs.declared.succ.Succ.{Succ}
use Rattle.kc_describes.specs.Describes.{Describes}
use Rattle.kc_calls.specs.Laws.{code_at}
use Rattle.kc_calls.proofs.LawLemmas.{leave_covered}
use Rattle.kc_step.proofs.CoveredLemmas.{step_covered}
use Rattle.kc_transfer.specs.Covers.{CoversSteps, CoversEnds}
use Rattle.kc_transfer.specs.Step.{Steps}

pub ends_covered : (cfg : Description) (key : Key) (s : AbsState) (insn : Insn) (answer : Bool) (out : AbsState)
    → IsValid cfg → IsState s → answer ≡ is_some (after_handler cfg key s insn)
    → IfSome (after_handler cfg key s insn) (λ t. out ≡ t) → CoversEnds cfg key s insn answer out
ends_covered cfg key s insn answer out valid state is value image at len S l here set D allowed =
    let c = leave_covered cfg image key at insn len s S l here valid state set D allowed in
    let same = subst (λ h. IfSome h (λ t. out ≡ t)) c.known value in
    record {
      answered = is ∙ ap is_some c.known;
      quiet = c.quiet;
      goes = λ found T steps.
          subst (λ o. Describes cfg key (code_at (word (at + len))) found o T) (sym same) (c.goes found T steps);
    }

-- `size` is the length as the code widens it
pub steps_covered : (cfg : Description) (key : Key) (s : AbsState) (insn : Insn) (len at size : ℕ) → size ≡ len
    → (result : Result Succ Condition) (old new : Scratch) → IsValid cfg → IsState s
    → Steps result old new (abs_step cfg key s insn (word (at + size)))
    → IfOk result (λ succ. CoversSteps cfg key s insn len at succ new.out)
steps_covered cfg key s insn len at size e (Ok succ) old new valid state steps = λ image S spelled text D.
    step_covered cfg image key at insn len s S succ new.out (record {
      valid = valid;
      state = state;
      spelled = spelled;
      text = text;
      described = D;
    }) (subst (λ n. abs_step cfg key s insn (word (at + n)) ≡ Ok (succ, new.out)) e steps.0)
steps_covered cfg key s insn len at size e (Err c) old new valid state steps = tt
