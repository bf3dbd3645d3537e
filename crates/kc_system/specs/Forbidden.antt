-- What an instruction may do where the conditions on it hold, this project's own.
use Rattle.std.specs.Prelude.{◌≡◌, ℕ, ◌^◌, ◌<◌, true, false, List, All, None}
use Rattle.kc_insn.specs.declared.insn.Insn.{Insn}
use Rattle.kc_regions.specs.Layout.{InBytes}
use Rattle.kc_regions.specs.Permission.{in_guard}
use Rattle.kc_exec.specs.Breaks.{break_of, effect}
use Rattle.kc_exec.specs.Effect.{row}
use Rattle.kc_exec.specs.Execution.{data_accesses}
use Rattle.kc_exec.specs.Moment.{Moment}
use Rattle.kc_exec.specs.declared.executed.Executed.{Executed}
use Rattle.kc_exec.specs.declared.state.Activation.{Activation}
use Rattle.kc_state.specs.AbsEffect.{abs_row}
use Rattle.kc_state.specs.Conditions.{accesses_of, is_permitted, loads_known_cr3, calls_well, is_allowed}
use Rattle.kc_state.specs.declared.key.Key.{Key}
use Rattle.kc_state.specs.declared.state.AbsState.{AbsState}
use Rattle.kc_system.specs.System.{known_moment, IsKernelMoment}

-- no byte of its data accesses lies in a guard
abbrev pub AreUnguarded : Moment → Executed → Type 0
AreUnguarded m done =
    All (λ a. (x : ℕ) → x < 2 ^ 64 → InBytes x a.at a.size → in_guard m.cfg.regions x ≡ false) (data_accesses done)

-- C7, C9, C10 and C11 hold
pub record PassesConditions (key : Key) (s : AbsState) (m : Moment) (insn : Insn) : Type 0 where
  pub permitted : is_permitted (known_moment key s m) insn
      (accesses_of (known_moment key s m) insn (abs_row (known_moment key s m) insn).store) ≡ true
  pub cr3 : loads_known_cr3 (known_moment key s m) insn ≡ true
  pub calls : calls_well (known_moment key s m) s.floors insn ≡ true
  pub allowed : is_allowed (known_moment key s m) insn ≡ true

-- an instruction that passes them, and touches no guard, breaks none of B6 to B8
abbrev pub BreaksNothing : Type 0
BreaksNothing = (key : Key) (chain : List Activation) (s : AbsState) (m : Moment) (insn : Insn)
    → IsKernelMoment key chain s m → PassesConditions key s m insn → AreUnguarded m (row m insn)
    → (break_of m insn ≡ None) × (effect m insn ≡ row m insn)
