-- What a return loads, this project's own: flags, selectors, spaces and latches are those of the context that is due.
use Rattle.std.specs.Prelude.{◌≡◌, ◌≢◌, ℕ, ◌+◌, true, false, ◌⊎◌, cond, List, None}
use Rattle.kc_insn.specs.declared.insn.Insn.{Insn}
use Rattle.kc_insn.specs.declared.insn.Insn.TheVariants.{Iretq, Sysretq}
use Rattle.kc_regions.specs.Description.{Description}
use Rattle.kc_regions.specs.Permission.{user_cs64, user_ss, is_user_cs}
use Rattle.kc_cpu.specs.declared.cpu.Cpu.{Cpu}
use Rattle.kc_space.specs.declared.gs.GsPair.{GsPair}
use Rattle.kc_space.specs.declared.latches.Latches.{Latches}
use Rattle.kc_space.specs.declared.map.MapState.{MapState}
use Rattle.kc_space.specs.declared.map.MapState.TheVariants.{Any as AnyMap}
use Rattle.kc_space.specs.declared.tri.Tri.TheVariants.{No}
use Rattle.kc_space.specs.declared.who.Who.TheVariants.{Any}
use Rattle.kc_exec.specs.Breaks.{effect}
use Rattle.kc_exec.specs.Moment.{Moment}
use Rattle.kc_exec.specs.RFlags.{loadable, sysret_mask, loaded}
use Rattle.kc_exec.specs.declared.state.Activation.{Activation}
use Rattle.kc_state.specs.AbsEvents.{is_iretq}
use Rattle.kc_state.specs.declared.key.Key.{Key}
use Rattle.kc_describes.specs.Chain.{newest_of}
use Rattle.kc_describes.specs.Fits.{ChainFits}
use Rattle.kc_describes.specs.Spaces.{GsStands, IsCr3Of, LatchesStand}

-- what the newest activation's return has to restore
abbrev pub due_of : List Activation → Cpu
due_of chain = (newest_of chain).due

-- the latches after a return: the gap after an STI is over, and IRETQ opens NMIs
abbrev pub latches_at_return : Insn → Latches → Latches
latches_at_return insn latches = record latches {
  shadow = No;
  nmi_blocked = cond (is_iretq insn) No latches.nmi_blocked;
}

-- IRETQ and SYSRETQ load the flags that are due as they are
abbrev pub FlagsReload : Type 0
FlagsReload = (cfg : Description) (key : Key) (chain : List Activation) → ChainFits cfg key chain
    → (loaded loadable (due_of chain).flags ≡ (due_of chain).flags)
    × (loaded sysret_mask (due_of chain).flags ≡ (due_of chain).flags)

-- The selectors that are due: of the kernel its CS, and its SS or 0; of the user the user's, and after a syscall, or
-- where there is no 32-bit code, the 64-bit CS.
pub record HasSelectors (cfg : Description) (key : Key) (cpu : Cpu) : Type 0 where
  pub kernel : key.kernel ≡ true
      → (cpu.cs ≡ cfg.cpu.star_kernel) × ((cpu.ss ≡ 0) ⊎ (cpu.ss ≡ cfg.cpu.star_kernel + 8))
  pub user : key.kernel ≡ false → (is_user_cs cfg.cpu cpu.cs ≡ true) × (cpu.ss ≡ user_ss cfg.cpu)
  pub long : key.syscall ≡ true → cpu.cs ≡ user_cs64 cfg.cpu
  pub only : key.kernel ≡ false → cfg.cpu.user_cs32 ≡ None → cpu.cs ≡ user_cs64 cfg.cpu

abbrev pub SelectorsAreDue : Type 0
SelectorsAreDue = (cfg : Description) (key : Key) (chain : List Activation) → ChainFits cfg key chain
    → HasSelectors cfg key (due_of chain)

-- the processor's GS bases and CR3 are the other's
pub record HasSpaces (cpu due : Cpu) : Type 0 where
  pub gs : cpu.gs ≡ due.gs
  pub kgs : cpu.kgs ≡ due.kgs
  pub cr3 : cpu.cr3 ≡ due.cr3

-- A GS pair and a map with nothing unknown in them say which bases and which CR3: two processors for which they stand
-- have the same.
abbrev pub SpacesAreKept : Type 0
SpacesAreKept = (cfg : Description) (user_gs : ℕ) (gs : GsPair) (map : MapState) (cpu due : Cpu) → gs.active ≢ Any
    → gs.inactive ≢ Any → map ≢ AnyMap → GsStands cfg user_gs gs cpu → GsStands cfg user_gs gs due
    → IsCr3Of cfg map cpu.cr3 → IsCr3Of cfg map due.cr3 → HasSpaces cpu due

-- after a return the machine's latches are those that follow from the ones before
abbrev pub LatchesFollow : Type 0
LatchesFollow = (m : Moment) (insn : Insn) (latches : Latches) → (insn ≡ Iretq) ⊎ (insn ≡ Sysretq)
    → LatchesStand latches m.latch → LatchesStand (latches_at_return insn latches) (effect m insn).latch
