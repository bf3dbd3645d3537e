-- The range of each value of a description, by itself. This project's own.
use Rattle.std.specs.Prelude.{◌≡◌, ◌≢◌, ℕ, ◌%◌, ◌^◌, ◌<◌, ◌≤◌, ◌⊎◌, true, length, All, IfSome}
use Rattle.std.specs.Int.{bit_at}
use Rattle.kc_regions.specs.declared.regions.TheConstants.{MAX_REGIONS}
use Rattle.kc_regions.specs.declared.config.TheConstants.{MAX_GATES, MAX_HANDLERS, MAX_WORDS}
use Rattle.kc_regions.specs.declared.region.Kind.TheVariants.{Text, Stack, Guard}
use Rattle.kc_regions.specs.declared.region.Region.{Region}
use Rattle.kc_regions.specs.declared.entry.Gate.{Gate}
use Rattle.kc_regions.specs.declared.entry.Handler.{Handler}
use Rattle.kc_regions.specs.declared.entry.Word.{Word}
use Rattle.kc_regions.specs.declared.cpu.CpuSetup.{CpuSetup}
use Rattle.kc_regions.specs.Description.{Description}

-- an address of the upper half
abbrev pub IsUpper : ℕ → Type 0
IsUpper a = (2 ^ 63 ≤ a) × (a < 2 ^ 64)

-- a CS of 32-bit user code: its privilege level is 3, and it doesn't select from a local table
abbrev pub IsUserSelector : ℕ → Type 0
IsUserSelector cs = (11 ≤ cs) × (cs ≤ 65535) × (bit_at cs 0 ≡ 1) × (bit_at cs 1 ≡ 1) × (bit_at cs 2 ≡ 0)

pub record IsCpuInRange (cpu : CpuSetup) : Type 0 where
  pub kernel_gs : (0xffff800000000000 ≤ cpu.kernel_gs) × (cpu.kernel_gs < 2 ^ 64)
  pub kernel_cr3 : cpu.kernel_cr3 < 2 ^ 63
  pub user_cr3 : cpu.user_cr3 < 2 ^ 63
  pub idt : IsUpper cpu.idt
  pub gdt : IsUpper cpu.gdt
  pub tss : IsUpper cpu.tss
  pub syscall : IsUpper cpu.syscall
  pub fmask : (cpu.fmask < 2 ^ 32) × (bit_at cpu.fmask 1 ≡ 0)
  pub star_kernel : (8 ≤ cpu.star_kernel) × (cpu.star_kernel ≤ 65520) × (cpu.star_kernel % 8 ≡ 0)
  pub star_user : (8 ≤ cpu.star_user) × (cpu.star_user ≤ 65499) × (bit_at cpu.star_user 2 ≡ 0)
  pub user_cs32 : IfSome cpu.user_cs32 IsUserSelector
  pub rsp0 : cpu.rsp0 < 2 ^ 64
  pub ist : (length cpu.ist ≡ 7) × All (λ a. a < 2 ^ 64) cpu.ist

-- a to z, 0 to 9, or _
abbrev pub IsNameCharacter : ℕ → Type 0
IsNameCharacter c = ((97 ≤ c) × (c ≤ 122)) ⊎ ((48 ≤ c) × (c ≤ 57)) ⊎ (c ≡ 95)

pub record IsRegionInRange (r : Region) : Type 0 where
  pub name : (1 ≤ length r.name) × (length r.name ≤ 32) × All IsNameCharacter r.name
  pub span : (r.span.from ≤ r.span.to) × (r.span.to < 2 ^ 64)
  pub write : r.write ≡ true → (r.kind ≢ Text) × (r.kind ≢ Guard)
  pub exec : r.exec ≡ true → r.kind ≡ Text
  pub may_fault : r.may_fault ≡ true → r.kind ≢ Guard
  pub quiet : r.quiet ≡ true → r.kind ≡ Text
  pub marked : r.marked ≡ true → r.kind ≡ Stack
  pub stack : r.kind ≡ Stack → r.write ≡ true

pub record IsGateInRange (g : Gate) : Type 0 where
  pub vector : (g.vector < 256) × (g.vector ≢ 8)
  pub entry : g.entry < 2 ^ 64
  pub ist : g.ist ≤ 7
  pub user : g.user ≡ true → 32 ≤ g.vector

-- a multiple of 8 from 8 to 4,096
abbrev pub IsFrame : ℕ → Type 0
IsFrame n = (8 ≤ n) × (n ≤ 4096) × (n % 8 ≡ 0)

pub record IsHandlerInRange (h : Handler) : Type 0 where
  pub entry : h.entry < 2 ^ 64
  pub stack : (h.stack ≤ 65536) × (h.stack % 8 ≡ 0)
  pub frame : IfSome h.frame IsFrame

pub record IsWordInRange (w : Word) : Type 0 where
  pub at : (w.at < 2 ^ 64) × (w.at % 8 ≡ 0)
  pub value : w.value < 2 ^ 64

pub record AreInRange (d : Description) : Type 0 where
  pub cpu : IsCpuInRange d.cpu
  pub region_count : (1 ≤ length d.regions) × (length d.regions ≤ MAX_REGIONS)
  pub regions : All IsRegionInRange d.regions
  pub gate_count : (1 ≤ length d.gates) × (length d.gates ≤ MAX_GATES)
  pub gates : All IsGateInRange d.gates
  pub handler_count : length d.handlers ≤ MAX_HANDLERS
  pub handlers : All IsHandlerInRange d.handlers
  pub word_count : length d.words ≤ MAX_WORDS
  pub words : All IsWordInRange d.words
