-- Before and after an instruction on GS bases, a model-specific register or CR3: what the analysis knows stands for the
-- processor, and kernel code goes on at the next instruction. This project's own.
use Rattle.std.specs.Prelude.{◌≡◌, List, [], None}
use Rattle.kc_insn.specs.declared.insn.Insn.{Insn}
use Rattle.kc_cpu.specs.declared.cpu.Mode.TheVariants.{Code}
use Rattle.kc_exec.specs.Breaks.{break_of, effect}
use Rattle.kc_exec.specs.Effect.{row}
use Rattle.kc_exec.specs.Moment.{Moment}
use Rattle.kc_exec.specs.declared.executed.ExecEnd.TheVariants.{Next}
use Rattle.kc_exec.specs.declared.executed.Executed.{Executed}
use Rattle.kc_exec.specs.declared.state.Activation.{Activation}
use Rattle.kc_state.specs.AbsEffect.{AbsChange, abs_row, applied, moment_of}
use Rattle.kc_state.specs.Operand.{AbsMoment}
use Rattle.kc_state.specs.State.{IsState}
use Rattle.kc_state.specs.declared.key.Key.{Key}
use Rattle.kc_state.specs.declared.state.AbsState.{AbsState}
use Rattle.kc_state.specs.declared.succ.Succ.TheVariants.{Falls}
use Rattle.kc_describes.specs.Chain.{env_of}
use Rattle.kc_describes.specs.Fits.{IsKernelCpu}
use Rattle.kc_describes.specs.Laws.{IsContext}
use Rattle.kc_describes.specs.Row.{RowStands}
use Rattle.kc_describes.specs.Widths.{IsWord, IsCpu}

-- what is known before the instruction
abbrev pub known_moment : Key → AbsState → Moment → AbsMoment
known_moment key s m = moment_of m.cfg key s m.next

-- kernel code runs, of which the state says what it knows
pub record IsKernelMoment (key : Key) (chain : List Activation) (s : AbsState) (m : Moment) : Type 0 where
  pub context : IsContext m.cfg key chain
  pub state : IsState s
  pub typed : IsCpu m.cpu
  pub next : IsWord m.next
  pub kernel : IsKernelCpu m.cfg m.cpu
  pub mode : m.cpu.mode ≡ Code
  pub row : RowStands m.cfg (env_of m.cfg chain) s m.cpu m.latch

-- The state with the change says of the processor what it knows; kernel code goes on at the next instruction, and no
-- memory was read or written.
pub record FallsThrough (key : Key) (chain : List Activation) (s : AbsState) (m : Moment) (change : AbsChange)
    (done : Executed) : Type 0
  where
    pub row : RowStands m.cfg (env_of m.cfg chain) (applied m.cfg key s change) done.cpu done.latch
    pub typed : IsCpu done.cpu
    pub kernel : IsKernelCpu m.cfg done.cpu
    pub mode : done.cpu.mode ≡ Code
    pub rip : done.cpu.rip ≡ m.next
    pub succ : change.succ ≡ Falls
    pub floors : (applied m.cfg key s change).floors ≡ s.floors
    pub slots : (applied m.cfg key s change).slots ≡ s.slots
    pub store : change.store ≡ None
    pub reads : done.reads ≡ []
    pub write : done.write ≡ None
    pub end : done.end ≡ Next

-- the instruction breaks nothing, and what is known after it stands for what it leaves
pub record IsCovered (key : Key) (chain : List Activation) (s : AbsState) (m : Moment) (insn : Insn) : Type 0 where
  pub unbroken : break_of m insn ≡ None
  pub is_row : effect m insn ≡ row m insn
  pub falls : FallsThrough key chain s m (abs_row (known_moment key s m) insn) (row m insn)
