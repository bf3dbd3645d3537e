-- What an abstract state says of a state of the machine, this project's own: the one relation between the analysis and
-- the machine. The parts are by what can change them: the chain of activations, live bytes, the processor, the words of
-- memory.
use Rattle.std.specs.Prelude.{◌≡◌, ℕ, ◌≤◌, ◌<◌, Bool, true, false, List, Option}
use Rattle.kc_insn.specs.declared.insn.Insn.{Insn}
use Rattle.kc_image.specs.Image.{Contents}
use Rattle.kc_regions.specs.Description.{Description}
use Rattle.kc_cpu.specs.declared.cpu.Cpu.{Cpu}
use Rattle.kc_cpu.specs.declared.cpu.Mode.{Mode}
use Rattle.kc_cpu.specs.declared.cpu.Mode.TheVariants.{User, Code, Inside}
use Rattle.kc_exec.specs.declared.state.Activation.{Activation}
use Rattle.kc_exec.specs.declared.state.State.{State}
use Rattle.kc_events.specs.Allowed.{Promises}
use Rattle.kc_events.specs.Fetched.{IsAt}
use Rattle.kc_value.specs.AbsValue.{AbsValue}
use Rattle.kc_value.specs.Value.{value_top}
use Rattle.kc_state.specs.declared.key.Key.{Key}
use Rattle.kc_state.specs.declared.site.Site.{Site}
use Rattle.kc_state.specs.declared.state.AbsState.{AbsState}
use Rattle.kc_describes.specs.Chain.{newest_of, env_of}
use Rattle.kc_describes.specs.Fits.{IsKernelCpu, ChainFits}
use Rattle.kc_describes.specs.Inside.{IsCallAt, IsHandlerRunning}
use Rattle.kc_describes.specs.Places.{SlotsStand, FloorsStand}
use Rattle.kc_describes.specs.Row.{value_at, FileStands, SpacesStand}
use Rattle.kc_describes.specs.Widths.{IsMachine}

-- in a syscall's context nothing is known of the words below a base, since there is none
abbrev pub AreBaseSlotsTop : Key → List AbsValue → Type 0
AreBaseSlotsTop key slots = key.syscall ≡ true → (i : ℕ) → 40 ≤ i → i < 104 → value_at slots i ≡ value_top

-- the handler runs that the instruction found at this address calls
abbrev pub IsInsideAt : Description → Key → ℕ → Option (Insn × ℕ) → AbsState → List Activation → Cpu → Mode → Type 0
IsInsideAt cfg key at found s chain cpu User = ⊥
IsInsideAt cfg key at found s chain cpu Code = ⊥
IsInsideAt cfg key at found s chain cpu (Inside call) =
    IsCallAt cfg at found call × Promises cfg call (IsHandlerRunning cfg key s chain cpu call)

abbrev pub IsAtPoint : Description → Key → ℕ → Bool → Option (Insn × ℕ) → AbsState → List Activation → Cpu → Type 0
IsAtPoint cfg key at false found s chain cpu = (cpu.mode ≡ Code) × (cpu.rip ≡ at)
IsAtPoint cfg key at true found s chain cpu = IsInsideAt cfg key at found s chain cpu cpu.mode

-- At a code site the instruction at its address runs next, at an inside site the handler runs that the instruction at
-- its address calls. `found` is that instruction, with its length.
abbrev pub AtSite : Description → Key → Site → Option (Insn × ℕ) → AbsState → List Activation → Cpu → Type 0
AtSite cfg key site found s chain cpu = IsAtPoint cfg key site.at site.inside found s chain cpu

pub record Describes (cfg : Description) (key : Key) (site : Site) (found : Option (Insn × ℕ)) (s : AbsState)
    (S : State) : Type 0
  where
    pub typed : IsMachine S
    pub running : S.stopped ≡ false
    pub chain : ChainFits cfg key S.chain
    pub floors : FloorsStand cfg s.floors (newest_of S.chain).base S.chain
    pub file : FileStands (env_of cfg S.chain) s S.cpu S.cpu.mode
    pub spaces : SpacesStand cfg (env_of cfg S.chain) s S.cpu S.latch
    pub slots : SlotsStand cfg key (env_of cfg S.chain) s.slots S.mem.bytes
    pub bare : AreBaseSlotsTop key s.slots
    pub kernel : IsKernelCpu cfg S.cpu
    pub point : AtSite cfg key site found s S.chain S.cpu

-- the same, where `found` is what the image spells at the site's address
abbrev pub DescribesIn : Description → Contents → Key → Site → AbsState → State → Type 0
DescribesIn cfg image key site s S =
    (found : Option (Insn × ℕ)) × IsAt image site.at found × Describes cfg key site found s S
