-- A whole return, this project's own: where the conditions on an IRETQ or a SYSRETQ hold, it breaks nothing and gives
-- back the context that is due.
use Rattle.std.specs.Prelude.{◌≡◌, ℕ, ◌+◌, true, false, ◌⊎◌, Some, Ok}
use Rattle.kc_bits.specs.Bits.{word}
use Rattle.kc_insn.specs.declared.insn.Insn.{Insn}
use Rattle.kc_insn.specs.declared.insn.Insn.TheVariants.{Iretq, Sysretq}
use Rattle.kc_image.specs.Image.{Contents}
use Rattle.kc_regions.specs.Description.{Description}
use Rattle.kc_regions.specs.Valid.{IsValid}
use Rattle.kc_regions.specs.declared.touch.Touch.TheVariants.{Fetch}
use Rattle.kc_cpu.specs.declared.cpu.Cpu.{Cpu}
use Rattle.kc_exec.specs.Change.{stack_word}
use Rattle.kc_exec.specs.Execution.{moment}
use Rattle.kc_exec.specs.Moment.{Moment}
use Rattle.kc_exec.specs.Register.{register, rsp}
use Rattle.kc_exec.specs.declared.state.State.{State}
use Rattle.kc_events.specs.declared.turn.Turn.TheVariants.{Go}
use Rattle.kc_events.specs.Fetched.{IsAt}
use Rattle.kc_events.specs.Run.{Breaks, Steps}
use Rattle.kc_state.specs.AbsEffect.{abs_row, moment_of}
use Rattle.kc_state.specs.AbsStep.{abs_step}
use Rattle.kc_state.specs.Access.{may_bytes}
use Rattle.kc_state.specs.Conditions.{accesses_of, is_exact, is_permitted, is_allowed, restores}
use Rattle.kc_state.specs.Operand.{AbsMoment}
use Rattle.kc_state.specs.State.{IsState}
use Rattle.kc_state.specs.declared.key.Key.{Key}
use Rattle.kc_state.specs.declared.state.AbsState.{AbsState}
use Rattle.kc_state.specs.declared.succ.Succ.{Succ}
use Rattle.kc_state.specs.declared.succ.Succ.TheVariants.{Returns}
use Rattle.kc_describes.specs.Describes.{Describes}
use Rattle.kc_describes.specs.Returned.{GivesBack}
use Rattle.kc_describes.specs.Spaces.{LatchesStand}
use Rattle.kc_returns.specs.Returns.{due_of, latches_at_return}

-- ---- before

-- C4, C7, C11 and C12 hold
pub record PassesReturn (m : AbsMoment) (insn : Insn) : Type 0 where
  pub exact : is_exact m false ≡ true
  pub permitted : is_permitted m insn (accesses_of m insn (abs_row m insn).store) ≡ true
  pub allowed : is_allowed m insn ≡ true
  pub restores : restores m insn ≡ true

-- where the step of the analysis is answered for a return, these hold, and the program goes on nowhere in its context
abbrev pub StepPassesReturn : Type 0
StepPassesReturn = (cfg : Description) (key : Key) (s : AbsState) (insn : Insn) (next : ℕ) (succ : Succ)
    (out : AbsState) → (insn ≡ Iretq) ⊎ (insn ≡ Sysretq) → abs_step cfg key s insn next ≡ Ok (succ, out)
    → PassesReturn (moment_of cfg key s next) insn × (succ ≡ Returns)

-- A return is next: the image spells it, in text that may be executed (C5), its other conditions hold, and the state
-- describes the machine.
pub record IsReturnAt (cfg : Description) (image : Contents) (key : Key) (at : ℕ) (insn : Insn) (len : ℕ)
    (s : AbsState) (S : State) : Type 0
  where
    pub valid : IsValid cfg
    pub state : IsState s
    pub is_return : (insn ≡ Iretq) ⊎ (insn ≡ Sysretq)
    pub spelled : IsAt image at (Some (insn, len))
    pub text : may_bytes cfg s.map Fetch at len ≡ true
    pub passes : PassesReturn (moment_of cfg key s (word (at + len))) insn
    pub described : Describes cfg key (record { at = at; inside = false }) (Some (insn, len)) s S

-- ---- what is read

-- the five words at RSP are those of the processor that is due
pub record HoldsFrame (m : Moment) (due : Cpu) : Type 0 where
  pub rip : stack_word m 0 ≡ due.rip
  pub cs : stack_word m 1 ≡ due.cs
  pub flags : stack_word m 2 ≡ due.flags
  pub rsp : stack_word m 3 ≡ register due rsp
  pub ss : stack_word m 4 ≡ due.ss

-- an IRETQ whose conditions hold finds the frame of the context that is due
abbrev pub FrameIsDue : Type 0
FrameIsDue = (cfg : Description) (image : Contents) (key : Key) (at len : ℕ) (s : AbsState) (S : State)
    → IsReturnAt cfg image key at Iretq len s S
    → HoldsFrame (moment cfg S.cpu S.latch S.mem.bytes len) (due_of S.chain)

-- ---- after

-- the context that is due is back, with the latches that follow from those before
pub record IsBack (cfg : Description) (insn : Insn) (s : AbsState) (S T : State) : Type 0 where
  pub gives : GivesBack cfg S T
  pub latches : LatchesStand (latches_at_return insn s.latches) T.latch

-- The return breaks nothing; it leads to a stopped machine, or the context is back.
pub record IsReturnCovered (cfg : Description) (image : Contents) (insn : Insn) (s : AbsState) (S : State) : Type 0
  where
    pub quiet : (b : ℕ) → ¬ Breaks cfg image S Go b
    pub goes : (T : State) → Steps cfg image S Go T → (T.stopped ≡ true) ⊎ IsBack cfg insn s S T

-- a return whose conditions hold is covered
abbrev pub ReturnIsCovered : Type 0
ReturnIsCovered = (cfg : Description) (image : Contents) (key : Key) (at : ℕ) (insn : Insn) (len : ℕ) (s : AbsState)
    (S : State) → IsReturnAt cfg image key at insn len s S → IsReturnCovered cfg image insn s S
