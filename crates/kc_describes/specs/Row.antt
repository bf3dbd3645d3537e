-- What an abstract state says of the processor, this project's own.
use Rattle.std.specs.Prelude.{ℕ, ◌<◌, List, get_or, slice_index}
use Rattle.kc_regions.specs.Description.{Description}
use Rattle.kc_cpu.specs.declared.cpu.Call.{Call}
use Rattle.kc_cpu.specs.declared.cpu.Cpu.{Cpu}
use Rattle.kc_cpu.specs.declared.cpu.Latch.{Latch}
use Rattle.kc_cpu.specs.declared.cpu.Mode.{Mode}
use Rattle.kc_cpu.specs.declared.cpu.Mode.TheVariants.{User, Code, Inside}
use Rattle.kc_value.specs.AbsValue.{AbsValue}
use Rattle.kc_value.specs.Value.{Represents, value_top}
use Rattle.kc_value.specs.declared.env.ValueEnv.{ValueEnv}
use Rattle.kc_state.specs.declared.state.AbsState.{AbsState}
use Rattle.kc_describes.specs.Spaces.{GsStands, IsCr3Of, LatchesStand}

abbrev pub value_at : List AbsValue → ℕ → AbsValue
value_at values i = get_or values i value_top

-- ---- registers and flags

-- of kernel code each register and RFLAGS
pub record RegistersStand (env : ValueEnv) (s : AbsState) (regs : List ℕ) (flags : ℕ) : Type 0 where
  pub each : (i : ℕ) → i < 16 → Represents (value_at s.regs i) env (slice_index regs i)
  pub rflags : Represents s.flags env flags

-- while a handler runs RSP and RFLAGS as they were at the call, and RBX, RBP and R12 to R15, which it gives back;
-- nothing is said of the other registers
pub record CallStands (env : ValueEnv) (s : AbsState) (call : Call) : Type 0 where
  pub rsp : Represents (value_at s.regs 4) env call.rsp
  pub rbx : Represents (value_at s.regs 3) env (slice_index call.kept 0)
  pub rbp : Represents (value_at s.regs 5) env (slice_index call.kept 1)
  pub r12 : Represents (value_at s.regs 12) env (slice_index call.kept 2)
  pub r13 : Represents (value_at s.regs 13) env (slice_index call.kept 3)
  pub r14 : Represents (value_at s.regs 14) env (slice_index call.kept 4)
  pub r15 : Represents (value_at s.regs 15) env (slice_index call.kept 5)
  pub flags : Represents s.flags env call.flags

abbrev pub FileStands : ValueEnv → AbsState → Cpu → Mode → Type 0
FileStands env s cpu User = ⊥
FileStands env s cpu Code = RegistersStand env s cpu.regs cpu.flags
FileStands env s cpu (Inside call) = CallStands env s call

-- ---- spaces and latches

pub record SpacesStand (cfg : Description) (env : ValueEnv) (s : AbsState) (cpu : Cpu) (latch : Latch) : Type 0 where
  pub gs : GsStands cfg env.user_gs s.gs cpu
  pub map : IsCr3Of cfg s.map cpu.cr3
  pub latches : LatchesStand s.latches latch

-- ---- all of it, while kernel code runs

pub record RowStands (cfg : Description) (env : ValueEnv) (s : AbsState) (cpu : Cpu) (latch : Latch) : Type 0 where
  pub file : RegistersStand env s cpu.regs cpu.flags
  pub spaces : SpacesStand cfg env s cpu latch
