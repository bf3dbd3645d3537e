-- What the CALL of a C handler leads to where a state describes the machine before it, a law. This project's own. The
-- machine's CALL: Intel SDM vol. 2, "CALL".
use Rattle.std.specs.Prelude.{◌≡◌, ℕ, true, Some}
use Rattle.kc_insn.specs.declared.insn.Insn.{Insn}
use Rattle.kc_insn.specs.declared.insn.Insn.TheVariants.{Call as CallInsn}
use Rattle.kc_regions.specs.Description.{Description}
use Rattle.kc_regions.specs.Lookup.{handler_of}
use Rattle.kc_regions.specs.Valid.{IsValid}
use Rattle.kc_exec.specs.Effect.{row}
use Rattle.kc_exec.specs.Execution.{moment}
use Rattle.kc_exec.specs.Moment.{Moment}
use Rattle.kc_exec.specs.declared.state.State.{State}
use Rattle.kc_events.specs.Attempt.{executed}
use Rattle.kc_events.specs.Run.{after}
use Rattle.kc_state.specs.AbsEffect.{AbsChange, abs_row, applied}
use Rattle.kc_state.specs.AbsStep.{with_call}
use Rattle.kc_state.specs.Conditions.{accesses_of, is_permitted, calls_well}
use Rattle.kc_state.specs.Operand.{AbsMoment}
use Rattle.kc_state.specs.State.{IsState}
use Rattle.kc_state.specs.declared.key.Key.{Key}
use Rattle.kc_state.specs.declared.state.AbsState.{AbsState}
use Rattle.kc_describes.specs.Describes.{Describes}
use Rattle.kc_system.specs.Forbidden.{AreUnguarded}
use Rattle.kc_system.specs.System.{known_moment}
use Rattle.kc_calls.specs.Laws.{body_of, code_at}

-- ---- an instruction of so many bytes, before and after

-- the machine, and what is known of it
abbrev pub moment_at : Description → State → ℕ → Moment
moment_at cfg S len = moment cfg S.cpu S.latch S.mem.bytes len

abbrev pub known_at : Description → Key → AbsState → State → ℕ → AbsMoment
known_at cfg key s S len = known_moment key s (moment_at cfg S len)

abbrev pub change_at : Description → Key → AbsState → State → ℕ → Insn → AbsChange
change_at cfg key s S len insn = abs_row (known_at cfg key s S len) insn

-- the machine after the instruction, where nothing stops or breaks it
abbrev pub machine_after : Description → State → ℕ → Insn → State
machine_after cfg S len insn = after S (executed S len (row (moment_at cfg S len) insn))

-- the state with the instruction's change, and where that is a handler's call with the handler's changes too
abbrev pub known_after : Description → Key → AbsState → State → ℕ → Insn → AbsState
known_after cfg key s S len insn =
    with_call cfg key (applied cfg key s (change_at cfg key s S len insn)) (change_at cfg key s S len insn).succ

-- ---- a call

-- A handler is about to be called: the state describes the machine, the target is the handler's entry, the push is
-- permitted (C7), the call is as it should be (C10), and no byte of the push lies in a guard.
pub record IsCalling (cfg : Description) (key : Key) (at len target handler : ℕ) (s : AbsState) (S : State) : Type 0
  where
    pub described : Describes cfg key (code_at at) (Some (CallInsn target, len)) s S
    pub entry : handler_of cfg.handlers target ≡ Some handler
    pub permitted : is_permitted (known_at cfg key s S len) (CallInsn target) (accesses_of (known_at cfg key s S len)
        (CallInsn target) (change_at cfg key s S len (CallInsn target)).store) ≡ true
    pub calls : calls_well (known_at cfg key s S len) s.floors (CallInsn target) ≡ true
    pub unguarded : AreUnguarded (moment_at cfg S len) (row (moment_at cfg S len) (CallInsn target))

-- after the call the state with its changes describes the machine while the handler runs
abbrev pub CallIsCovered : Type 0
CallIsCovered = (cfg : Description) (key : Key) (at len target handler : ℕ) (s : AbsState) (S : State) → IsValid cfg
    → IsState s → IsCalling cfg key at len target handler s S
    → Describes cfg key (body_of at) (Some (CallInsn target, len)) (known_after cfg key s S len (CallInsn target))
    (machine_after cfg S len (CallInsn target))
