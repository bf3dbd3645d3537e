-- What is said of the GS bases, of CR3 and of the latches, this project's own.
use Rattle.std.specs.Prelude.{ℕ}
use Rattle.kc_regions.specs.Description.{Description}
use Rattle.kc_cpu.specs.declared.cpu.Cpu.{Cpu}
use Rattle.kc_cpu.specs.declared.cpu.Latch.{Latch}
use Rattle.kc_space.specs.Latches.{TriStands}
use Rattle.kc_space.specs.Spaces.{WhoStands, MapStands}
use Rattle.kc_space.specs.declared.env.SpaceEnv.{SpaceEnv}
use Rattle.kc_space.specs.declared.gs.GsPair.{GsPair}
use Rattle.kc_space.specs.declared.latches.Latches.{Latches}
use Rattle.kc_space.specs.declared.map.MapState.{MapState}
use Rattle.kc_space.specs.declared.who.Who.{Who}

-- the kernel's GS base, and the user's
abbrev pub gs_env : Description → ℕ → SpaceEnv
gs_env cfg user_gs = record { kernel = cfg.cpu.kernel_gs; user = user_gs }

-- the kernel's CR3, and the user's
abbrev pub cr3_env : Description → SpaceEnv
cr3_env cfg = record { kernel = cfg.cpu.kernel_cr3; user = cfg.cpu.user_cr3 }

abbrev pub IsGsOf : Description → ℕ → Who → ℕ → Type 0
IsGsOf cfg user_gs who n = WhoStands who (gs_env cfg user_gs) n

abbrev pub IsCr3Of : Description → MapState → ℕ → Type 0
IsCr3Of cfg map n = MapStands map (cr3_env cfg) n

pub record GsStands (cfg : Description) (user_gs : ℕ) (pair : GsPair) (cpu : Cpu) : Type 0 where
  pub active : IsGsOf cfg user_gs pair.active cpu.gs
  pub inactive : IsGsOf cfg user_gs pair.inactive cpu.kgs

pub record LatchesStand (latches : Latches) (latch : Latch) : Type 0 where
  pub nmi_blocked : TriStands latches.nmi_blocked latch.nmi_blocked
  pub shadow : TriStands latches.shadow latch.shadow
  pub mcip : TriStands latches.mcip latch.mcip
