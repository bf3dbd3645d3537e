-- Before and after an instruction that moves values between registers and memory: what the analysis knows stands for
-- the processor, its store is the write, and kernel code goes on at the next instruction. This project's own.
use Rattle.std.specs.Prelude.{◌≡◌, true, List, Option, Some, None, FitsSigned}
use Rattle.std.specs.Int.{w32}
use Rattle.kc_insn.specs.Encodable.{is_encodable}
use Rattle.kc_insn.specs.Fields.{source_of}
use Rattle.kc_insn.specs.declared.insn.Insn.{Insn}
use Rattle.kc_insn.specs.declared.insn.Insn.TheVariants.{Mov, Lea, Xchg, Push, Pop}
use Rattle.kc_insn.specs.declared.insn.Source.{Source}
use Rattle.kc_insn.specs.declared.insn.Source.TheVariants as source
use Rattle.kc_regions.specs.Description.{Description}
use Rattle.kc_cpu.specs.declared.cpu.Mode.TheVariants.{Code}
use Rattle.kc_mem.specs.Memory.{AreBytes}
use Rattle.kc_exec.specs.Effect.{row}
use Rattle.kc_exec.specs.Moment.{Moment}
use Rattle.kc_exec.specs.Operand.{size_of}
use Rattle.kc_exec.specs.declared.access.Write.{Write}
use Rattle.kc_exec.specs.declared.executed.ExecEnd.TheVariants.{Next}
use Rattle.kc_exec.specs.declared.executed.Executed.{Executed}
use Rattle.kc_exec.specs.declared.state.Activation.{Activation}
use Rattle.kc_value.specs.Value.{IsValidValue, Represents}
use Rattle.kc_state.specs.AbsEffect.{AbsChange, AbsStore, abs_row, applied}
use Rattle.kc_state.specs.declared.key.Key.{Key}
use Rattle.kc_state.specs.declared.location.Location.{Location}
use Rattle.kc_state.specs.declared.state.AbsState.{AbsState}
use Rattle.kc_state.specs.declared.succ.Succ.TheVariants.{Falls}
use Rattle.kc_describes.specs.Chain.{newest_of, env_of}
use Rattle.kc_describes.specs.Fits.{IsKernelCpu}
use Rattle.kc_describes.specs.Places.{SlotsStand, address_of}
use Rattle.kc_describes.specs.Row.{RowStands}
use Rattle.kc_describes.specs.Widths.{IsWord, IsCpu}
use Rattle.kc_system.specs.System.{known_moment, IsKernelMoment}

-- ---- before

-- the tracked words stand for memory
pub record IsKnownMemory (key : Key) (chain : List Activation) (s : AbsState) (m : Moment) : Type 0 where
  pub bytes : AreBytes m.mem
  pub slots : SlotsStand m.cfg key (env_of m.cfg chain) s.slots m.mem

-- displacements are signed numbers of 32 bits, as their type says
abbrev pub HasDisp : Source → Type 0
HasDisp (source.Mem a) = FitsSigned w32 a.disp
HasDisp _ = Unit {0}

abbrev pub HasDisps : Insn → Type 0
HasDisps (Mov w dest src) = HasDisp (source_of dest) × HasDisp src
HasDisps (Lea w dest src) = FitsSigned w32 src.disp
HasDisps (Xchg w dest src) = HasDisp (source_of dest)
HasDisps (Push src) = HasDisp src
HasDisps (Pop dest) = HasDisp (source_of dest)
HasDisps insn = Unit {0}

-- the instruction has a spelling
pub record IsSpelled (insn : Insn) : Type 0 where
  pub encodable : is_encodable insn ≡ true
  pub disps : HasDisps insn

-- ---- after

-- the store is the write: where its place is known, that is the address; of 8 bytes its value stands for the number
pub record IsWrite (cfg : Description) (chain : List Activation) (st : AbsStore) (w : Write) : Type 0 where
  pub size : st.size ≡ size_of w.width
  pub gs : st.gs ≡ w.gs
  pub at : (l : Location) → st.at ≡ Some l → address_of (newest_of chain).base l ≡ w.at
  pub valid : IsValidValue st.value
  pub fits : IsWord w.value
  pub value : st.size ≡ 8 → Represents st.value (env_of cfg chain) w.value

-- there is no store and no write, or the store is the write
abbrev pub StoreAgrees : Description → List Activation → Option AbsStore → Option Write → Type 0
StoreAgrees cfg chain None None = Unit {0}
StoreAgrees cfg chain (Some st) (Some w) = IsWrite cfg chain st w
StoreAgrees cfg chain _ _ = ⊥

-- the state with the change says of the processor what it knows, and kernel code goes on at the next instruction
pub record MovesOn (key : Key) (chain : List Activation) (s : AbsState) (m : Moment) (change : AbsChange)
    (done : Executed) : Type 0
  where
    pub row : RowStands m.cfg (env_of m.cfg chain) (applied m.cfg key s change) done.cpu done.latch
    pub typed : IsCpu done.cpu
    pub kernel : IsKernelCpu m.cfg done.cpu
    pub mode : done.cpu.mode ≡ Code
    pub rip : done.cpu.rip ≡ m.next
    pub succ : change.succ ≡ Falls
    pub floors : (applied m.cfg key s change).floors ≡ s.floors
    pub store : StoreAgrees m.cfg chain change.store done.write
    pub end : done.end ≡ Next

-- the instruction is covered wherever kernel code runs it
abbrev pub CoversMove : Insn → Type 0
CoversMove insn = (key : Key) (chain : List Activation) (s : AbsState) (m : Moment) → IsKernelMoment key chain s m
    → IsKnownMemory key chain s m → IsSpelled insn
    → MovesOn key chain s m (abs_row (known_moment key s m) insn) (row m insn)
