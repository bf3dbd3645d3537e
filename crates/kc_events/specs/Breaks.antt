-- The breaks B1 to B8, each a fact of a turn that may come in a state. What is judged, and in which order, is this
-- project's own.
use Rattle.std.specs.Prelude.{◌≡◌, ◌≢◌, ℕ, zero, suc, ◌+◌, ◌%◌, ◌^◌, ◌<◌, Bool, true, false, not, ◌⊎◌, List, [], ◌∷◌, Contains, Option, Some, None, IsSomeAnd, slice_index, take_while}
use Rattle.kc_insn.specs.declared.insn.Insn.{Insn}
use Rattle.kc_insn.specs.declared.insn.Insn.TheVariants.{Sysretq}
use Rattle.kc_regions.specs.declared.region.Kind.TheVariants.{Text}
use Rattle.kc_regions.specs.declared.touch.Touch.TheVariants.{Write as ForWrite}
use Rattle.kc_regions.specs.Description.{Description}
use Rattle.kc_regions.specs.Region.{region_of}
use Rattle.kc_regions.specs.Permission.{permits}
use Rattle.kc_cpu.specs.declared.cpu.Cpu.{Cpu}
use Rattle.kc_cpu.specs.declared.cpu.Mode.TheVariants.{User}
use Rattle.kc_exec.specs.declared.access.Access.{Access}
use Rattle.kc_exec.specs.declared.state.Activation.{Activation}
use Rattle.kc_exec.specs.declared.state.State.{State}
use Rattle.kc_exec.specs.declared.executed.ExecEnd.{ExecEnd}
use Rattle.kc_exec.specs.declared.executed.ExecEnd.TheVariants.{Returned, Forbidden}
use Rattle.kc_exec.specs.Breaks.{effect}
use Rattle.kc_exec.specs.Execution.{moment, guarded, stops}
use Rattle.kc_exec.specs.Live.{IsLive}
use Rattle.kc_exec.specs.Operand.{plus}
use Rattle.kc_exec.specs.Register.{register, rsp}
use Rattle.kc_events.specs.declared.turn.Turn.{Turn}
use Rattle.kc_events.specs.declared.turn.Turn.TheVariants.{Go}
use Rattle.kc_events.specs.Turns.{newest}
use Rattle.kc_events.specs.Attempt.{Attempt, attempt, is_return}

-- the access is judged: it and those before it have no byte in a guard
abbrev pub judged : Description → List Access → List Access
judged cfg accesses = take_while (λ a. not (guarded cfg.regions a.at a.size)) accesses

-- byte x is one of the access's
abbrev pub IsOf : Access → ℕ → Type 0
IsOf a x = (i : ℕ) × (i < a.size) × (x ≡ plus a.at i)

-- ---- the breaks

-- B1, not decodable executable code: no instruction is there, or one of its bytes isn't in executable text
abbrev pub IsUndecodable : Description → ℕ → Option (Insn × ℕ) → Type 0
IsUndecodable cfg rip None = Unit {0}
IsUndecodable cfg rip (Some (insn, n)) =
    (i : ℕ) × (i < n) × ¬ IsSomeAnd (region_of cfg.regions (plus rip i)) (λ r. (r.kind ≡ Text) × (r.exec ≡ true))

-- B2, GS access with another base: the active base that goes into an address isn't the kernel's
abbrev pub UsesOtherGs : Description → State → Attempt → Type 0
UsesOtherGs cfg S t = (a : Access) × Contains (judged cfg t.accesses) a × (a.gs ≡ true) × (S.cpu.gs ≢ cfg.cpu.kernel_gs)

-- B3, absent or forbidden byte: it lies in no region that is present under CR3 and has the right
abbrev pub TouchesForbidden : Description → State → Attempt → Type 0
TouchesForbidden cfg S t =
    (a : Access) × (x : ℕ) × Contains (judged cfg t.accesses) a × IsOf a x × (permits cfg S.cpu.cr3 a.touch x ≡ false)

-- a byte that the turn writes: by a judged access, or, where the machine doesn't stop, besides
abbrev pub IsWritten : Description → Attempt → ℕ → Type 0
IsWritten cfg t x =
    ((a : Access) × Contains (judged cfg t.accesses) a × (a.touch ≡ ForWrite) × IsOf a x)
    ⊎ ((stops cfg t.accesses ≡ false) × Contains t.bytes x)

-- B4, live stack byte written
abbrev pub WritesLive : Description → Attempt → Type 0
WritesLive cfg t = (x : ℕ) × IsWritten cfg t x × IsLive cfg t.chain x

-- The processor is that of the context again: RIP, CS, RFLAGS, RSP, SS, both GS bases and CR3.
pub record IsContext (cpu due : Cpu) : Type 0 where
  pub rip : cpu.rip ≡ due.rip
  pub cs : cpu.cs ≡ due.cs
  pub flags : cpu.flags ≡ due.flags
  pub rsp : register cpu rsp ≡ register due rsp
  pub ss : cpu.ss ≡ due.ss
  pub gs : cpu.gs ≡ due.gs
  pub kgs : cpu.kgs ≡ due.kgs
  pub cr3 : cpu.cr3 ≡ due.cr3

-- the return gives back the interrupted context, with the words that handlers were allowed to edit; into the kernel all
-- sixteen registers too
abbrev pub Restores : Cpu → Activation → Type 0
Restores cpu a = IsContext cpu a.due × (a.saved.mode ≢ User → cpu.regs ≡ a.due.regs)

-- the instruction at RIP ends so
abbrev pub EndsWith : Description → Option (Insn × ℕ) → State → Turn → (Insn → ExecEnd → Type 0) → Type 0
EndsWith cfg (Some (insn, n)) S Go Fact = Fact insn (effect (moment cfg S.cpu S.latch S.mem.bytes n) insn).end
EndsWith cfg found S turn Fact = ⊥

-- B5, return to another context
abbrev pub ReturnsElsewhere : Description → Option (Insn × ℕ) → State → Turn → Attempt → Type 0
ReturnsElsewhere cfg found S turn t =
    EndsWith cfg found S turn (λ insn end. (end ≡ Returned) × ¬ IsSomeAnd (newest S.chain) (Restores t.cpu))

-- B6, third CR3 value; B7, handler called on a wrong GS, CR3 or stack; B8, forbidden instruction or register
abbrev pub IsForbidden : Description → Option (Insn × ℕ) → State → Turn → ℕ → Type 0
IsForbidden cfg found S turn b = EndsWith cfg found S turn (λ insn end. end ≡ Forbidden b)

-- B8 too: SYSRETQ in an activation that isn't a syscall's
abbrev pub ReturnsToNoSyscall : Description → Option (Insn × ℕ) → State → Turn → Type 0
ReturnsToNoSyscall cfg found S turn =
    EndsWith cfg found S turn (λ insn end. (insn ≡ Sysretq) × ¬ IsSomeAnd (newest S.chain) (λ a. a.syscall ≡ true))

-- The turn breaks with this number. B5 to B8 are judged only where no access has a byte in a guard.
abbrev pub BreaksWith : Description → Option (Insn × ℕ) → State → Turn → Attempt → ℕ → Type 0
BreaksWith cfg found S turn t b =
    ((b ≡ 1) × (turn ≡ Go) × IsUndecodable cfg S.cpu.rip found)
    ⊎ (((b ≡ 2) × UsesOtherGs cfg S t)
    ⊎ (((b ≡ 3) × TouchesForbidden cfg S t)
    ⊎ (((b ≡ 4) × WritesLive cfg t)
    ⊎ ((stops cfg t.accesses ≡ false) × (
    ((b ≡ 5) × ReturnsElsewhere cfg found S turn t)
    ⊎ (IsForbidden cfg found S turn b
    ⊎ ((b ≡ 8) × ReturnsToNoSyscall cfg found S turn)))))))
