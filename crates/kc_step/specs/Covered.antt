-- A whole step of kernel code, this project's own: it breaks nothing, writes what the abstract step stores, and goes on
-- where the abstract step says, as the answered state describes it.
use Rattle.std.specs.Prelude.{◌≡◌, ℕ, ◌+◌, true, ◌⊎◌, Option, Some, Ok}
use Rattle.kc_bits.specs.Bits.{word}
use Rattle.kc_insn.specs.declared.insn.Insn.{Insn}
use Rattle.kc_image.specs.Image.{Contents}
use Rattle.kc_regions.specs.Description.{Description}
use Rattle.kc_exec.specs.Breaks.{effect}
use Rattle.kc_exec.specs.Execution.{moment}
use Rattle.kc_exec.specs.declared.state.State.{State}
use Rattle.kc_events.specs.declared.turn.Turn.TheVariants.{Go}
use Rattle.kc_events.specs.Run.{Breaks, Steps}
use Rattle.kc_state.specs.AbsEffect.{abs_row, moment_of}
use Rattle.kc_state.specs.AbsStep.{abs_step}
use Rattle.kc_state.specs.declared.key.Key.{Key}
use Rattle.kc_state.specs.declared.state.AbsState.{AbsState}
use Rattle.kc_state.specs.declared.succ.Succ.{Succ}
use Rattle.kc_state.specs.declared.succ.Succ.TheVariants.{Falls, Jumps, Branches, Calls, Returns}
use Rattle.kc_describes.specs.Chain.{newest_of}
use Rattle.kc_describes.specs.Describes.{Describes}
use Rattle.kc_calls.specs.Laws.{body_of, code_at}
use Rattle.kc_returns.specs.Whole.{IsBack}
use Rattle.kc_step.specs.Step.{IsAtInsn, MakesStore}

-- the state describes the machine at this address, whichever instruction is found there
abbrev pub DescribesAt : Description → Key → ℕ → AbsState → State → Type 0
DescribesAt cfg key at out T = (found : Option (Insn × ℕ)) → Describes cfg key (code_at at) found out T

-- The machine T goes on where the abstract step's answer says: at an address, in the handler that the instruction
-- called, or in the context that the return gives back. S is the machine before, where the instruction has `len` bytes
-- at `at`.
abbrev pub GoesOn : Description → Key → ℕ → Insn → ℕ → AbsState → State → Succ → AbsState → State → Type 0
GoesOn cfg key at insn len s S Falls out T = DescribesAt cfg key (word (at + len)) out T
GoesOn cfg key at insn len s S (Jumps target) out T = DescribesAt cfg key target out T
GoesOn cfg key at insn len s S (Branches target) out T =
    DescribesAt cfg key (word (at + len)) out T ⊎ DescribesAt cfg key target out T
GoesOn cfg key at insn len s S (Calls handler) out T = Describes cfg key (body_of at) (Some (insn, len)) out T
GoesOn cfg key at insn len s S Returns out T = IsBack cfg insn s S T

-- the step breaks nothing, stops the machine or goes on as answered, and writes what the abstract step stores
pub record IsStepCovered (cfg : Description) (image : Contents) (key : Key) (at : ℕ) (insn : Insn) (len : ℕ)
    (s : AbsState) (S : State) (succ : Succ) (out : AbsState) : Type 0
  where
    pub quiet : (b : ℕ) → ¬ Breaks cfg image S Go b
    pub goes : (T : State) → Steps cfg image S Go T
        → (T.stopped ≡ true) ⊎ GoesOn cfg key at insn len s S succ out T
    pub writes : MakesStore (newest_of S.chain).base (abs_row (moment_of cfg key s (word (at + len))) insn).store
        (effect (moment cfg S.cpu S.latch S.mem.bytes len) insn).write

-- where the abstract step of the instruction that is next has an answer, the machine's step is covered by it
abbrev pub StepIsCovered : Type 0
StepIsCovered = (cfg : Description) (image : Contents) (key : Key) (at : ℕ) (insn : Insn) (len : ℕ) (s : AbsState)
    (S : State) (succ : Succ) (out : AbsState) → IsAtInsn cfg image key at insn len s S
    → abs_step cfg key s insn (word (at + len)) ≡ Ok (succ, out)
    → IsStepCovered cfg image key at insn len s S succ out
