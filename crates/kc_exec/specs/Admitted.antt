-- The processors with which user code may run, and the states from which a run may begin. This project's own.
use Rattle.std.specs.Prelude.{◌≡◌, ℕ, zero, suc, ◌^◌, ◌<◌, Bool, true, false, List, [], All, None, bit_and, slice_index}
use Rattle.std.specs.Int.{bit_at}
use Rattle.kc_regions.specs.declared.cpu.CpuSetup.{CpuSetup}
use Rattle.kc_regions.specs.Description.{Description}
use Rattle.kc_regions.specs.Lookup.{tss_word}
use Rattle.kc_regions.specs.Permission.{user_ss, is_user_cs}
use Rattle.kc_regions.specs.Region.{stack_of}
use Rattle.kc_cpu.specs.declared.cpu.Cpu.{Cpu}
use Rattle.kc_cpu.specs.declared.cpu.Latch.{Latch}
use Rattle.kc_cpu.specs.declared.cpu.Mode.TheVariants.{User}
use Rattle.kc_mem.specs.Memory.{Bytes, read}
use Rattle.kc_exec.specs.declared.state.State.{State}
use Rattle.kc_exec.specs.Register.{register, rsp}
use Rattle.kc_exec.specs.Breaks.{is_canonical}

-- the flags of the model and bit 1
abbrev pub model_flags : ℕ
model_flags = 0x240FD7

-- IF and bit 1 are set, and no flag outside the model is
pub record AreUserFlags (flags : ℕ) : Type 0 where
  pub interrupts : bit_at flags 9 ≡ 1
  pub fixed : bit_at flags 1 ≡ 1
  pub modelled : bit_and flags model_flags ≡ flags

-- A base below 2^47; any canonical one where user code may write its base.
abbrev pub IsUserGs : Bool → ℕ → Type 0
IsUserGs false gs = gs < 2 ^ 47
IsUserGs true gs = is_canonical gs ≡ true

-- an admitted user processor; its mode isn't looked at, and its other registers are any numbers
pub record IsAdmitted (cfg : Description) (cpu : Cpu) : Type 0 where
  pub cs : is_user_cs cfg.cpu cpu.cs ≡ true
  pub ss : cpu.ss ≡ user_ss cfg.cpu
  pub rip : cpu.rip < 2 ^ 47
  pub flags : AreUserFlags cpu.flags
  pub cr3 : cpu.cr3 ≡ cfg.cpu.user_cr3
  pub inactive : cpu.kgs ≡ cfg.cpu.kernel_gs
  pub active : IsUserGs cfg.cpu.user_gs_writes cpu.gs
  pub stack : stack_of cfg.regions (register cpu rsp) ≡ None

-- what the description says of RSP0 (n is 0) and of IST1 to IST7 (n is 1 to 7)
abbrev pub tss_value : CpuSetup → ℕ → ℕ
tss_value cpu zero = cpu.rsp0
tss_value cpu (suc n) = slice_index cpu.ist n

abbrev pub clear_latches : Latch
clear_latches = record { nmi_blocked = false; shadow = false; mcip = false }

-- The words of the TSS and the tracked words hold what the description says; every other byte is any number.
pub record HoldsConfigured (cfg : Description) (mem : Bytes) : Type 0 where
  pub tss : (n : ℕ) → n < 8 → read mem (tss_word cfg.cpu.tss n) 8 ≡ tss_value cfg.cpu n
  pub words : All (λ w. read mem w.at 8 ≡ w.value) cfg.words

pub record IsAdmittedStart (cfg : Description) (state : State) : Type 0 where
  pub running : state.stopped ≡ false
  pub mode : state.cpu.mode ≡ User
  pub processor : IsAdmitted cfg state.cpu
  pub chain : state.chain ≡ []
  pub latches : state.latch ≡ clear_latches
  pub memory : HoldsConfigured cfg state.mem.bytes
