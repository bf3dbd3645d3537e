-- Before and after any instruction but IRETQ and SYSRETQ, in one form: what the analysis knows stands for the
-- processor, its store is the write, and kernel code goes on where it says. This project's own.
use Rattle.std.specs.Prelude.{◌≡◌, ℕ, ◌^◌, ◌<◌, true, ◌⊎◌, List, FitsSigned}
use Rattle.std.specs.Int.{w32, w64}
use Rattle.kc_insn.specs.Encodable.{is_encodable}
use Rattle.kc_insn.specs.Fields.{source_of}
use Rattle.kc_insn.specs.declared.insn.Insn.{Insn}
use Rattle.kc_insn.specs.declared.insn.Insn.TheVariants.{Mov, Lea, Xchg, Push, Pop, Alu, Test, Bit, Jcc, Jmp, Call}
use Rattle.kc_insn.specs.declared.insn.Source.{Source}
use Rattle.kc_insn.specs.declared.insn.Source.TheVariants as source
use Rattle.kc_cpu.specs.declared.cpu.Cpu.{Cpu}
use Rattle.kc_cpu.specs.declared.cpu.Mode.TheVariants.{Code, Inside}
use Rattle.kc_exec.specs.Change.{pushed_rsp, with_pushed_rsp}
use Rattle.kc_exec.specs.Effect.{row, kept_registers}
use Rattle.kc_exec.specs.Moment.{Moment}
use Rattle.kc_exec.specs.declared.executed.ExecEnd.TheVariants.{Next}
use Rattle.kc_exec.specs.declared.executed.Executed.{Executed}
use Rattle.kc_exec.specs.declared.state.Activation.{Activation}
use Rattle.kc_state.specs.AbsEffect.{AbsChange, abs_row, applied}
use Rattle.kc_state.specs.declared.key.Key.{Key}
use Rattle.kc_state.specs.declared.state.AbsState.{AbsState}
use Rattle.kc_state.specs.declared.succ.Succ.{Succ}
use Rattle.kc_state.specs.declared.succ.Succ.TheVariants.{Falls, Jumps, Branches, Calls, Returns}
use Rattle.kc_describes.specs.Chain.{env_of}
use Rattle.kc_describes.specs.Fits.{IsKernelCpu}
use Rattle.kc_describes.specs.Row.{RowStands}
use Rattle.kc_describes.specs.Widths.{IsWord, IsCpu}
use Rattle.kc_system.specs.Forbidden.{PassesConditions, AreUnguarded}
use Rattle.kc_system.specs.System.{known_moment, IsKernelMoment}
use Rattle.kc_moves.specs.Moves.{IsKnownMemory, StoreAgrees}

-- ---- before

-- displacements are signed numbers of 32 bits and immediates of 64, as their types say
abbrev pub FitsSource : Source → Type 0
FitsSource (source.Reg r) = Unit {0}
FitsSource (source.Mem a) = FitsSigned w32 a.disp
FitsSource (source.Imm z) = FitsSigned w64 z

-- each field fits its type: bit numbers are bytes, and targets are words
abbrev pub FitsTypes : Insn → Type 0
FitsTypes (Mov w dest src) = FitsSource (source_of dest) × FitsSource src
FitsTypes (Lea w dest src) = FitsSigned w32 src.disp
FitsTypes (Xchg w dest src) = FitsSource (source_of dest)
FitsTypes (Push src) = FitsSource src
FitsTypes (Pop dest) = FitsSource (source_of dest)
FitsTypes (Alu op w dest src) = FitsSource (source_of dest) × FitsSource src
FitsTypes (Test w dest src) = FitsSource (source_of dest) × FitsSource src
FitsTypes (Bit op w dest number) = FitsSource (source_of dest) × (number < 2 ^ 8)
FitsTypes (Jcc code target) = IsWord target
FitsTypes (Jmp target) = IsWord target
FitsTypes (Call target) = IsWord target
FitsTypes insn = Unit {0}

-- the instruction has a spelling
pub record IsSpelled (insn : Insn) : Type 0 where
  pub encodable : is_encodable insn ≡ true
  pub fits : FitsTypes insn

-- ---- after

-- The handler of this number runs. RSP is that after the push of the address after the call, and else the registers
-- and the flags are as before.
pub record IsCalled (m : Moment) (handler : ℕ) (cpu : Cpu) : Type 0 where
  pub mode : cpu.mode ≡ Inside (record {
    handler = handler;
    rsp = pushed_rsp m;
    back = m.next;
    flags = m.cpu.flags;
    kept = kept_registers m.cpu;
  })
  pub regs : cpu.regs ≡ (with_pushed_rsp m).regs
  pub flags : cpu.flags ≡ m.cpu.flags

-- the instruction at this address runs next
abbrev pub RunsAt : ℕ → Cpu → Type 0
RunsAt at cpu = (cpu.mode ≡ Code) × (cpu.rip ≡ at)

-- kernel code goes on at the successor
abbrev pub GoesOnAt : Moment → Succ → Cpu → Type 0
GoesOnAt m Falls cpu = RunsAt m.next cpu
GoesOnAt m (Jumps target) cpu = RunsAt target cpu
GoesOnAt m (Branches target) cpu = RunsAt m.next cpu ⊎ RunsAt target cpu
GoesOnAt m (Calls handler) cpu = IsCalled m handler cpu
GoesOnAt m Returns cpu = ⊥

-- the state with the change says of the processor what it knows, and kernel code goes on at the change's successor
pub record RowGoesOn (key : Key) (chain : List Activation) (s : AbsState) (m : Moment) (change : AbsChange)
    (done : Executed) : Type 0
  where
    pub row : RowStands m.cfg (env_of m.cfg chain) (applied m.cfg key s change) done.cpu done.latch
    pub typed : IsCpu done.cpu
    pub kernel : IsKernelCpu m.cfg done.cpu
    pub point : GoesOnAt m change.succ done.cpu
    pub floors : (applied m.cfg key s change).floors ≡ s.floors
    pub store : StoreAgrees m.cfg chain change.store done.write
    pub end : done.end ≡ Next

-- what is known after the instruction stands for what it leaves
abbrev pub IsRowCovered : Key → List Activation → AbsState → Moment → Insn → Type 0
IsRowCovered key chain s m insn = RowGoesOn key chain s m (abs_row (known_moment key s m) insn) (row m insn)

-- the instruction is covered wherever kernel code runs it, the conditions on it hold, and no byte of its data accesses
-- lies in a guard
abbrev pub CoversRow : Insn → Type 0
CoversRow insn = (key : Key) (chain : List Activation) (s : AbsState) (m : Moment) → IsKernelMoment key chain s m
    → IsKnownMemory key chain s m → IsSpelled insn → PassesConditions key s m insn → AreUnguarded m (row m insn)
    → IsRowCovered key chain s m insn
