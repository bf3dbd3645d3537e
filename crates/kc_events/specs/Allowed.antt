-- Which turn may come in which state; one that may not come changes nothing. Of events: SDM vol. 3A, "Enabling and
-- Disabling Interrupts" and "Handling Multiple NMIs", and vol. 3B, "Machine-Check Architecture". Which exceptions
-- kernel code raises, and what a C handler may do, is this project's own.
use Rattle.std.specs.Prelude.{◌≡◌, ◌≢◌, ℕ, ◌+◌, ◌-◌, ◌%◌, ◌^◌, ◌<◌, ◌≤◌, Bool, true, false, not, ◌&&◌, ◌||◌, ◌==◌, nat_le, if◌then◌else◌, ◌⊎◌, List, [], ◌∷◌, All, Any, Option, Some, None, is_some, IsSomeAnd, IfSome, option_and_then, slice_get, slice_index, bit_and}
use Rattle.std.specs.Int.{bit_at}
use Rattle.kc_words.specs.Span.{Holds}
use Rattle.kc_insn.specs.declared.insn.Insn.{Insn}
use Rattle.kc_insn.specs.declared.insn.Insn.TheVariants.{Iretq}
use Rattle.kc_regions.specs.declared.region.Kind.{Kind}
use Rattle.kc_regions.specs.declared.region.Kind.TheVariants as kind
use Rattle.kc_regions.specs.declared.region.Region.{Region}
use Rattle.kc_regions.specs.declared.entry.Handler.{Handler}
use Rattle.kc_regions.specs.declared.entry.AfterIf.{AfterIf}
use Rattle.kc_regions.specs.declared.entry.AfterIf.TheVariants.{Keep, On, Off, Any as Either}
use Rattle.kc_regions.specs.Description.{Description}
use Rattle.kc_regions.specs.Lookup.{gate_of}
use Rattle.kc_regions.specs.Region.{region_of, stack_of, stack_at}
use Rattle.kc_regions.specs.Permission.{user_cs64}
use Rattle.kc_cpu.specs.declared.cpu.Cpu.{Cpu}
use Rattle.kc_cpu.specs.declared.cpu.Call.{Call}
use Rattle.kc_cpu.specs.declared.cpu.Mode.{Mode}
use Rattle.kc_cpu.specs.declared.cpu.Mode.TheVariants.{User, Code, Inside}
use Rattle.kc_exec.specs.declared.state.State.{State}
use Rattle.kc_exec.specs.declared.state.Activation.{Activation}
use Rattle.kc_exec.specs.declared.access.Access.{Access}
use Rattle.kc_exec.specs.Admitted.{model_flags, AreUserFlags, IsAdmitted}
use Rattle.kc_exec.specs.Execution.{moment, data_accesses}
use Rattle.kc_exec.specs.Breaks.{effect}
use Rattle.kc_exec.specs.Register.{rsp}
use Rattle.kc_events.specs.declared.turn.Turn.{Turn}
use Rattle.kc_events.specs.declared.turn.Turn.TheVariants.{Go, Irq, Nmi, Debug, Check, Fault, Trap, Syscall, User as UserTurn, Body, Leave}
use Rattle.kc_events.specs.declared.turn.UserSet.{UserSet}
use Rattle.kc_events.specs.declared.turn.BodySet.{BodySet}
use Rattle.kc_events.specs.declared.turn.Edit.{Edit}
use Rattle.kc_events.specs.declared.turn.LeaveSet.{LeaveSet}
use Rattle.kc_events.specs.Turns.{user_cpu, newest}

-- ---- events

-- IF is set, and this isn't the gap after an STI
pub record IsOpen (S : State) : Type 0 where
  pub enabled : bit_at S.cpu.flags 9 ≡ 1
  pub no_gap : S.latch.shadow ≡ false

-- vector v is a device's: from 32 on, with a gate that user code can't name
abbrev pub IsDevice : Description → ℕ → Type 0
IsDevice cfg v = (32 ≤ v) × IsSomeAnd (gate_of cfg.gates v) (λ g. g.user ≡ false)

-- the contract of the handler that runs has this
abbrev pub Promises : Description → Call → (Handler → Type 0) → Type 0
Promises cfg call Fact = IsSomeAnd (slice_get cfg.handlers call.handler) Fact

-- the address lies in a text region that isn't quiet
abbrev pub IsNoisyText : Description → ℕ → Type 0
IsNoisyText cfg a = IsSomeAnd (region_of cfg.regions a) (λ r. (r.kind ≡ kind.Text) × (r.quiet ≡ false))

-- Debug exceptions come in user code; in kernel code in a text region that isn't quiet; inside a handler that lists
-- them.
abbrev pub TakesDebug : Description → ℕ → Mode → Type 0
TakesDebug cfg rip User = Unit {0}
TakesDebug cfg rip Code = IsNoisyText cfg rip
TakesDebug cfg rip (Inside call) = Promises cfg call (λ h. h.debug ≡ true)

abbrev pub is_iretq : Insn → Bool
is_iretq Iretq = true
is_iretq _ = false

-- the data accesses of the instruction; those of an IRETQ don't count, since its faults are left out
abbrev pub faulting : Description → State → Option (Insn × ℕ) → List Access
faulting cfg S None = []
faulting cfg S (Some (insn, n)) =
    if is_iretq insn then [] else data_accesses (effect (moment cfg S.cpu S.latch S.mem.bytes n) insn)

-- the byte at a is one of the access's; addresses wrap at 2^64
abbrev pub IsTouched : ℕ → Access → Type 0
IsTouched a access = (a + (2 ^ 64 - access.at)) % 2 ^ 64 < access.size

-- the address lies in a region where page faults may come
abbrev pub MayFault : Description → ℕ → Type 0
MayFault cfg a = IsSomeAnd (region_of cfg.regions a) (λ r. r.may_fault ≡ true)

-- A page fault at a comes in user code; in kernel code where the instruction touches the byte, and it lies in a region
-- where faults may come; inside a handler that lists them.
abbrev pub TakesFault : Description → Option (Insn × ℕ) → State → ℕ → Mode → Type 0
TakesFault cfg found S a User = Unit {0}
TakesFault cfg found S a Code = MayFault cfg a × Any (IsTouched a) (faulting cfg S found)
TakesFault cfg found S a (Inside call) = Promises cfg call (λ h. h.fault ≡ true)

-- the vectors whose deliveries push an error code: SDM vol. 3A, "Error Code"
abbrev pub pushes_code : ℕ → Bool
pushes_code v = (nat_le 10 v && nat_le v 14) || (v == 17 || v == 21)

-- debug, NMI, page fault and machine check have turns of their own
abbrev pub has_own_turn : ℕ → Bool
has_own_turn v = v == 1 || (v == 2 || (v == 14 || v == 18))

-- vector v is raised by user code: an exception, or a gate that user code may name
abbrev pub IsTrap : Description → ℕ → Type 0
IsTrap cfg v = IsSomeAnd (gate_of cfg.gates v) (λ g. ((v < 32) × (has_own_turn v ≡ false)) ⊎ (g.user ≡ true))

-- user code raises vector v, with an error code of 0 where it pushes none
pub record MayTrap (cfg : Description) (mode : Mode) (v code : ℕ) : Type 0 where
  pub user : mode ≡ User
  pub trap : IsTrap cfg v
  pub error : pushes_code v ≡ false → code ≡ 0

-- ---- user code

-- 64-bit user code may execute SYSCALL
pub record MaySyscall (cfg : Description) (cpu : Cpu) : Type 0 where
  pub user : cpu.mode ≡ User
  pub long : cpu.cs ≡ user_cs64 cfg.cpu

-- the byte at a lies in a region of this kind
abbrev pub LiesIn : Description → Kind → ℕ → Type 0
LiesIn cfg k a = IsSomeAnd (region_of cfg.regions a) (λ r. r.kind ≡ k)

-- the processor that user code leaves is admitted, and its writes lie in user regions
pub record MayUser (cfg : Description) (S : State) (u : UserSet) : Type 0 where
  pub mode : S.cpu.mode ≡ User
  pub processor : IsAdmitted cfg (user_cpu S.cpu u)
  pub writes : All (λ w. LiesIn cfg kind.User w.0) u.writes

-- ---- C handlers

-- the flags are of the model, with bit 1
pub record AreModelFlags (flags : ℕ) : Type 0 where
  pub fixed : bit_at flags 1 ≡ 1
  pub modelled : bit_and flags model_flags ≡ flags

-- Inside a handler its part of the stack: `stack` holds the return address at call.rsp, below which the handler may use
-- `depth` bytes.
pub record IsFree (call : Call) (depth : ℕ) (stack : Region) (a : ℕ) : Type 0 where
  pub within : Holds stack.span a
  pub bottom : call.rsp ≤ a + depth
  pub top : a < call.rsp

-- the byte at a lies in a data region or in the handler's part of its stack
abbrev pub MayWrite : Description → Call → ℕ → Region → ℕ → Type 0
MayWrite cfg call depth stack a = LiesIn cfg kind.Plain a ⊎ IsFree call depth stack a

-- RSP lies from `depth` bytes below the return address at top up to it
pub record IsRspFree (top depth n : ℕ) : Type 0 where
  pub not_below : top ≤ n + depth
  pub not_above : n ≤ top

-- IF is set only where the handler may be interrupted or IF was set before
abbrev pub MaySetIf : ℕ → Bool → ℕ → Type 0
MaySetIf before irq after = bit_at after 9 ≡ 1 → (irq ≡ true) ⊎ (bit_at before 9 ≡ 1)

-- an edited RIP is below 2^47, edited flags are a user's, an edited RSP lies in no stack
abbrev pub IsRipValid : Option ℕ → Type 0
IsRipValid rip = IfSome rip (λ n. n < 2 ^ 47)

abbrev pub AreFlagsValid : Option ℕ → Type 0
AreFlagsValid flags = IfSome flags AreUserFlags

abbrev pub IsRspValid : Description → Option ℕ → Type 0
IsRspValid cfg rsp = IfSome rsp (λ n. stack_of cfg.regions n ≡ None)

pub record AreEditsValid (cfg : Description) (edit : Edit) : Type 0 where
  pub rip : IsRipValid edit.rip
  pub flags : AreFlagsValid edit.flags
  pub rsp : IsRspValid cfg edit.rsp

-- the newest activation interrupted user code
abbrev pub InterruptedUser : List Activation → Type 0
InterruptedUser chain = IsSomeAnd (newest chain) (λ a. a.saved.mode ≡ User)

-- the frame's five words, from so far above the return address on, lie in the stack
abbrev pub FrameFits : ℕ → Option ℕ → Region → Type 0
FrameFits top frame stack = IsSomeAnd frame (λ n. (stack.span.from ≤ top + n) × (top + n + 40 ≤ stack.span.to))

-- The handler may edit the frame: it has one, user code was interrupted, and the frame lies in the stack.
pub record HasFrame (S : State) (call : Call) (h : Handler) (stack : Region) : Type 0 where
  pub user : InterruptedUser S.chain
  pub frame : FrameFits call.rsp h.frame stack

-- some word is edited
abbrev pub is_edit : Edit → Bool
is_edit edit = is_some edit.rip || (is_some edit.flags || is_some edit.rsp)

-- what a handler may leave after a step
pub record MayBody (cfg : Description) (S : State) (call : Call) (h : Handler) (stack : Region) (b : BodySet) : Type 0
  where
    pub rsp : IsRspFree call.rsp h.stack (slice_index b.regs 4)
    pub flags : AreModelFlags b.flags
    pub interrupts : MaySetIf S.cpu.flags h.irq b.flags
    pub writes : All (λ w. MayWrite cfg call h.stack stack w.0) b.writes
    pub edits : AreEditsValid cfg b.edit
    pub framed : is_edit b.edit ≡ true → HasFrame S call h stack

-- IF after the handler, as its contract says
abbrev pub KeepsIf : AfterIf → ℕ → ℕ → Type 0
KeepsIf Keep before after = bit_at after 9 ≡ bit_at before 9
KeepsIf On before after = bit_at after 9 ≡ 1
KeepsIf Off before after = bit_at after 9 ≡ 0
KeepsIf Either before after = Unit {0}

-- what a handler may return with: DF clear (System V ABI, AMD64, "Registers"), and IF as promised
pub record MayLeave (call : Call) (h : Handler) (l : LeaveSet) : Type 0 where
  pub returns : h.returns ≡ true
  pub flags : AreModelFlags l.flags
  pub forward : bit_at l.flags 10 ≡ 0
  pub interrupts : KeepsIf h.after_if call.flags l.flags

-- ---- the table

abbrev pub InHandler : Description → Mode → (Call → Handler → Type 0) → Type 0
InHandler cfg (Inside call) Fact = Promises cfg call (Fact call)
InHandler cfg User Fact = ⊥
InHandler cfg Code Fact = ⊥

-- the stack that holds address a
abbrev pub stack_over : List Region → ℕ → Option Region
stack_over regions a = option_and_then (λ s. stack_at regions s) (stack_of regions a)

-- there is a stack that holds the address, and the fact is true of it
abbrev pub OfStack : Description → ℕ → (Region → Type 0) → Type 0
OfStack cfg a Fact = IsSomeAnd (stack_over cfg.regions a) Fact

-- where the machine runs
abbrev pub MayCome : Description → Option (Insn × ℕ) → State → Turn → Type 0
MayCome cfg found S Go = S.cpu.mode ≡ Code
MayCome cfg found S (Irq v) = IsDevice cfg v × IsOpen S
MayCome cfg found S Nmi = S.latch.nmi_blocked ≡ false
MayCome cfg found S Debug = TakesDebug cfg S.cpu.rip S.cpu.mode
MayCome cfg found S Check = S.latch.mcip ≡ false
MayCome cfg found S (Fault a code) = TakesFault cfg found S a S.cpu.mode
MayCome cfg found S (Trap v code) = MayTrap cfg S.cpu.mode v code
MayCome cfg found S Syscall = MaySyscall cfg S.cpu
MayCome cfg found S (UserTurn u) = MayUser cfg S u
MayCome cfg found S (Body b) =
    InHandler cfg S.cpu.mode (λ call h. OfStack cfg call.rsp (λ stack. MayBody cfg S call h stack b))
MayCome cfg found S (Leave l) = InHandler cfg S.cpu.mode (λ call h. MayLeave call h l)

-- the turn may come in the state, where `found` is the instruction at RIP; nothing comes in a stopped state
abbrev pub IsAllowed : Description → Option (Insn × ℕ) → State → Turn → Type 0
IsAllowed cfg found S turn = (S.stopped ≡ false) × MayCome cfg found S turn
