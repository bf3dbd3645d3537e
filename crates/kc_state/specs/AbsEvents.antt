-- Which events may come at a site of kernel code, and while the user runs: by what is known of the latches (SDM vol.
-- 3A, "Handling Multiple NMIs", and vol. 3B, "Machine-Check Architecture"), of IF and of the gap after an STI (SDM vol.
-- 3A, "Enabling and Disabling Interrupts"). Which exceptions kernel code raises, and what a handler lists, is this
-- project's own.
use Rattle.std.specs.Prelude.{ℕ, suc, zero, ◌+◌, Bool, true, false, not, ◌&&◌, ◌||◌, ◌==◌, nat_le, ◌<◌, length, if◌then◌else◌, Option, Some, None, IfSome}
use Rattle.std.specs.Int.{bit_at}
use Rattle.std.specs.List.{list_any}
use Rattle.kc_bits.specs.KnownBits.{KnownBits}
use Rattle.kc_bits.specs.Bits.{word}
use Rattle.kc_insn.specs.declared.insn.Insn.{Insn}
use Rattle.kc_insn.specs.declared.insn.Insn.TheVariants.{Call, Iretq}
use Rattle.kc_regions.specs.Description.{Description}
use Rattle.kc_regions.specs.Lookup.{gate_of, handler_of}
use Rattle.kc_regions.specs.Permission.{passes}
use Rattle.kc_regions.specs.Region.{region_of, stacks_of}
use Rattle.kc_regions.specs.declared.entry.Gate.{Gate}
use Rattle.kc_regions.specs.declared.entry.Handler.{Handler}
use Rattle.kc_space.specs.Latches.{is_same_tri}
use Rattle.kc_space.specs.declared.tri.Tri.{Tri}
use Rattle.kc_space.specs.declared.tri.Tri.TheVariants.{Yes}
use Rattle.kc_state.specs.AbsEffect.{abs_row, moment_of}
use Rattle.kc_state.specs.Calls.{called_handler}
use Rattle.kc_state.specs.Conditions.{AbsAccess, accesses_of, stack_region}
use Rattle.kc_state.specs.Operand.{AbsMoment}
use Rattle.kc_state.specs.declared.key.Key.{Key}
use Rattle.kc_state.specs.declared.location.Location.{Location}
use Rattle.kc_state.specs.declared.location.Location.TheVariants.{Number, Relative}
use Rattle.kc_state.specs.declared.site.Site.{Site}
use Rattle.kc_state.specs.declared.state.AbsState.{AbsState}
use Rattle.kc_state.specs.declared.user.UserState.{UserState}

-- ---- keys

-- the stack, where there is one, is one of the description's
abbrev pub IsStackOf : Description → Option ℕ → Type 0
IsStackOf d stack = IfSome stack (λ s. s < length (stacks_of d.regions))

abbrev pub HasStack : Description → Key → Type 0
HasStack d key = IsStackOf d key.stack

-- ---- the vectors of events that have conditions of their own

abbrev pub debug : ℕ
debug = 1

abbrev pub nmi : ℕ
nmi = 2

abbrev pub page_fault : ℕ
page_fault = 14

abbrev pub machine_check : ℕ
machine_check = 18

-- ---- the handler that runs

-- the handler that the instruction calls, if it calls one
abbrev pub handler_called_by : Description → Insn → Option Handler
handler_called_by d (Call target) = called_handler d (handler_of d.handlers target)
handler_called_by d _ = None

-- there is a handler, and it passes the test
abbrev pub lists : (Handler → Bool) → Option Handler → Bool
lists test (Some h) = test h
lists test None = false

-- ---- latches and IF

-- the latch may be clear
abbrev pub may_be_clear : Tri → Bool
may_be_clear t = not (is_same_tri t Yes)

-- IF may be set
abbrev pub may_be_open : KnownBits → Bool
may_be_open flags = not (bit_at flags.zeros 9 == 1)

-- a device's interrupt: this isn't the gap after an STI, and IF may be set, or the handler that runs opens it
abbrev pub takes_irq : Description → Site → AbsState → Insn → Bool
takes_irq d site s insn =
    may_be_clear s.latches.shadow
    && (may_be_open s.flags.bits || (site.inside && lists (λ h. h.irq) (handler_called_by d insn)))

-- a debug exception: in a region that isn't quiet, or inside a handler that lists it
abbrev pub takes_debug : Description → Site → Insn → Bool
takes_debug d site insn =
    if site.inside then lists (λ h. h.debug) (handler_called_by d insn)
    else passes (λ r. not r.quiet) (region_of d.regions site.at)

-- ---- page faults

-- one of the n bytes from a lies in a region where page faults may come
unfoldable pub may_fault_bytes : Description → ℕ → ℕ → Bool
may_fault_bytes d a zero = false
may_fault_bytes d a (suc n) =
    passes (λ r. r.may_fault) (region_of d.regions a) || may_fault_bytes d (word (a + 1)) n

-- an access of size bytes at this location may raise a page fault; where it is unknown, it may
abbrev pub may_fault_at : Description → Key → Option Location → ℕ → Bool
may_fault_at d key (Some (Number a)) size = may_fault_bytes d a size
may_fault_at d key (Some (Relative k)) size = passes (λ r. r.may_fault) (stack_region d key.stack)
may_fault_at d key None size = true

abbrev pub faults : AbsMoment → AbsAccess → Bool
faults m a = may_fault_at m.d m.key a.at a.size

abbrev pub is_iretq : Insn → Bool
is_iretq Iretq = true
is_iretq _ = false

-- a data access of the instruction may raise a page fault; IRETQ's faults are left out
abbrev pub may_fault : AbsMoment → Insn → Bool
may_fault m insn =
    not (is_iretq insn) && list_any (faults m) (accesses_of m insn (abs_row m insn).store)

-- a page fault at the instruction, which has len bytes, or inside a handler that lists it
abbrev pub takes_fault : Description → Key → Site → AbsState → Insn → ℕ → Bool
takes_fault d key site s insn len =
    if site.inside then lists (λ h. h.fault) (handler_called_by d insn)
    else may_fault (moment_of d key s (word (site.at + len))) insn

-- ---- events in the kernel

-- which kinds of events may come
pub record Arrivals : Type 0 where
  pub irq : Bool
  pub nmi : Bool
  pub debug : Bool
  pub check : Bool
  pub fault : Bool

abbrev pub arrivals_at : Description → Key → Site → AbsState → Insn → ℕ → Arrivals
arrivals_at d key site s insn len = record {
  irq = takes_irq d site s insn;
  nmi = may_be_clear s.latches.nmi_blocked;
  debug = takes_debug d site insn;
  check = may_be_clear s.latches.mcip;
  fault = takes_fault d key site s insn len;
}

-- the event of this gate may come; in kernel code no other exception does
abbrev pub arrives : Arrivals → Gate → Bool
arrives a g =
    if nat_le 32 g.vector then not g.user && a.irq else
    if g.vector == nmi then a.nmi else
    if g.vector == debug then a.debug else
    if g.vector == machine_check then a.check else
    if g.vector == page_fault then a.fault else false

abbrev pub is_gate : (Gate → Bool) → Option Gate → Bool
is_gate test (Some g) = test g
is_gate test None = false

-- the event of vector v may come at the site, where the instruction has len bytes
abbrev pub comes : Description → Key → Site → AbsState → Insn → ℕ → ℕ → Bool
comes d key site s insn len v = is_gate (arrives (arrivals_at d key site s insn len)) (gate_of d.gates v)

-- ---- events while the user runs

-- Beside SYSCALL, which always may come: devices' interrupts, NMIs and machine checks by their latches, debug
-- exceptions, page faults, and all that user code raises. So every gate but for two latches.
abbrev pub comes_from_user : UserState → Gate → Bool
comes_from_user u g =
    if g.vector == nmi then may_be_clear u.nmi_blocked else
    if g.vector == machine_check then may_be_clear u.mcip else true

-- the event of vector v may come while the user runs
abbrev pub user_comes : Description → UserState → ℕ → Bool
user_comes d u v = is_gate (comes_from_user u) (gate_of d.gates v)
