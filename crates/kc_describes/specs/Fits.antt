-- Which activation a context is for, this project's own: the newest one of its chain fits the context's key.
use Rattle.std.specs.Prelude.{◌≡◌, ℕ, ◌+◌, ◌%◌, Bool, true, false, not, ◌⊎◌, length, List, All, Option, Some, None, IsSomeAnd}
use Rattle.kc_regions.specs.Description.{Description}
use Rattle.kc_regions.specs.Permission.{user_cs64}
use Rattle.kc_regions.specs.Region.{stack_of, stacks_of}
use Rattle.kc_cpu.specs.declared.cpu.Cpu.{Cpu}
use Rattle.kc_cpu.specs.declared.cpu.Mode.{Mode}
use Rattle.kc_cpu.specs.declared.cpu.Mode.TheVariants.{User, Code, Inside}
use Rattle.kc_exec.specs.declared.state.Activation.{Activation}
use Rattle.kc_exec.specs.Admitted.{IsAdmitted}
use Rattle.kc_exec.specs.Register.{register, rsp}
use Rattle.kc_events.specs.Allowed.{AreModelFlags}
use Rattle.kc_state.specs.Key.{IsKey}
use Rattle.kc_state.specs.Places.{below_address}
use Rattle.kc_state.specs.declared.key.Key.{Key}
use Rattle.kc_describes.specs.Chain.{newest_of, oldest_of, user_gs_of, OnlyOldestIsUser, IsDue}
use Rattle.kc_describes.specs.Spaces.{GsStands, IsCr3Of}

abbrev pub is_user_mode : Mode → Bool
is_user_mode User = true
is_user_mode Code = false
is_user_mode (Inside call) = false

-- the selectors and the flags of kernel code: a null SS after an interrupt of the user, else the kernel's
pub record IsKernelCpu (cfg : Description) (cpu : Cpu) : Type 0 where
  pub cs : cpu.cs ≡ cfg.cpu.star_kernel
  pub ss : (cpu.ss ≡ 0) ⊎ (cpu.ss ≡ cfg.cpu.star_kernel + 8)
  pub flags : AreModelFlags cpu.flags

-- the address lies in this stack
abbrev pub LiesInStack : Description → Option ℕ → ℕ → Type 0
LiesInStack cfg stack a = IsSomeAnd stack (λ s. stack_of cfg.regions a ≡ Some s)

-- The base is the key's. Where the key of an event has none, the frame lies in the key's stack.
abbrev pub IsBaseOf : Description → Option ℕ → Bool → Option ℕ → ℕ → Type 0
IsBaseOf cfg (Some b) syscall stack base = base ≡ b
IsBaseOf cfg None true stack base = Unit {0}
IsBaseOf cfg None false stack base = LiesInStack cfg stack base × LiesInStack cfg stack (below_address base 40)

-- an event's base is aligned, and the five words of its frame lie in one stack
pub record IsFrameBase (cfg : Description) (base : ℕ) : Type 0 where
  pub aligned : base % 16 ≡ 0
  pub stack : ℕ
  pub first : stack_of cfg.regions (below_address base 40) ≡ Some stack
  pub last : stack_of cfg.regions (below_address base 8) ≡ Some stack

-- The activation fits the key: it is of the key's kind, vector and side; GS pair, CR3 and the stack of RSP are those of
-- the interrupted processor, and the base is the key's. That processor is an admitted one, for a syscall with 64-bit
-- code, or one of kernel code. A key that breaks the rules of keys fits nothing.
pub record Fits (cfg : Description) (key : Key) (user_gs : ℕ) (a : Activation) : Type 0 where
  pub rules : IsKey (length (stacks_of cfg.regions)) key
  pub kind : a.syscall ≡ key.syscall
  pub vector : a.vector ≡ key.vector
  pub side : key.kernel ≡ not (is_user_mode a.saved.mode)
  pub gs : GsStands cfg user_gs key.gs a.saved
  pub map : IsCr3Of cfg key.map a.saved.cr3
  pub stack : stack_of cfg.regions (register a.saved rsp) ≡ key.stack
  pub base : IsBaseOf cfg key.base key.syscall key.stack a.base
  pub frame : a.syscall ≡ false → IsFrameBase cfg a.base
  pub user : key.kernel ≡ false → IsAdmitted cfg a.saved
  pub long : key.syscall ≡ true → a.saved.cs ≡ user_cs64 cfg.cpu
  pub kernel : key.kernel ≡ true → IsKernelCpu cfg a.saved

-- The newest activation fits the key; the oldest one, and no other, interrupted the user, with an admitted processor;
-- and each has what its return restores.
pub record ChainFits (cfg : Description) (key : Key) (chain : List Activation) : Type 0 where
  pub fits : Fits cfg key (user_gs_of chain) (newest_of chain)
  pub one_user : OnlyOldestIsUser chain
  pub admitted : IsAdmitted cfg (oldest_of chain).saved
  pub due : All (IsDue cfg) chain
