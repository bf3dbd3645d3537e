-- What the answers of an abstract step, and of the abstract end of a handler, say of the machine. This project's own.
use Rattle.std.specs.Prelude.{◌≡◌, ℕ, ◌+◌, Bool, true, Option, Some}
use Rattle.kc_bits.specs.Bits.{word}
use Rattle.kc_insn.specs.declared.insn.Insn.{Insn}
use Rattle.kc_image.specs.Image.{Contents}
use Rattle.kc_regions.specs.Description.{Description}
use Rattle.kc_regions.specs.declared.touch.Touch.TheVariants.{Fetch}
use Rattle.kc_exec.specs.declared.state.State.{State}
use Rattle.kc_events.specs.Allowed.{IsAllowed}
use Rattle.kc_events.specs.Fetched.{IsAt}
use Rattle.kc_events.specs.Run.{Breaks, Steps}
use Rattle.kc_events.specs.declared.turn.LeaveSet.{LeaveSet}
use Rattle.kc_events.specs.declared.turn.Turn.TheVariants.{Leave}
use Rattle.kc_state.specs.Access.{may_bytes}
use Rattle.kc_state.specs.declared.key.Key.{Key}
use Rattle.kc_state.specs.declared.state.AbsState.{AbsState}
use Rattle.kc_state.specs.declared.succ.Succ.{Succ}
use Rattle.kc_describes.specs.Describes.{Describes}
use Rattle.kc_calls.specs.Laws.{body_of, code_at, IsLeaveSet}
use Rattle.kc_step.specs.Covered.{IsStepCovered}

-- ---- an instruction

-- The machine's step is covered, where the image spells the instruction, of len bytes, at this address, in text that
-- may be executed (C5), and the state describes the machine.
abbrev pub CoversSteps : Description → Key → AbsState → Insn → ℕ → ℕ → Succ → AbsState → Type 0
CoversSteps cfg key s insn len at succ out = (image : Contents) (S : State) → IsAt image at (Some (insn, len))
    → may_bytes cfg s.map Fetch at len ≡ true → Describes cfg key (code_at at) (Some (insn, len)) s S
    → IsStepCovered cfg image key at insn len s S succ out

-- ---- the end of a handler

-- The answer is yes. The end breaks nothing, and `out` describes the machine that it leads to, at the instruction after
-- the call; `found` is what is there.
pub record IsEndCovered (cfg : Description) (image : Contents) (key : Key) (at len : ℕ) (S : State) (l : LeaveSet)
    (answer : Bool) (out : AbsState) : Type 0
  where
    pub answered : answer ≡ true
    pub quiet : (b : ℕ) → ¬ Breaks cfg image S (Leave l) b
    pub goes : (found : Option (Insn × ℕ)) (T : State) → Steps cfg image S (Leave l) T
        → Describes cfg key (code_at (word (at + len))) found out T

-- each end that may come is covered, of the handler that the instruction calls, where the state describes the machine
-- while it runs
abbrev pub CoversEnds : Description → Key → AbsState → Insn → Bool → AbsState → Type 0
CoversEnds cfg key s insn answer out = (image : Contents) (at len : ℕ) (S : State) (l : LeaveSet)
    (here : Option (Insn × ℕ)) → IsLeaveSet l → Describes cfg key (body_of at) (Some (insn, len)) s S
    → IsAllowed cfg here S (Leave l) → IsEndCovered cfg image key at len S l answer out
