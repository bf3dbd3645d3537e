-- What the conditions read of a node: where the program goes on from it, which events may come and what they enter,
-- what its instruction may write, and what holds at its return. This project's own.
use Rattle.std.specs.Prelude.{ℕ, zero, suc, ◌+◌, Bool, true, false, cond, not, ◌&&◌, ◌||◌, ◌==◌, nat_le, if◌then◌else◌, List, [], ◌∷◌, ◌++◌, filter, Option, Some, None, option_map}
use Rattle.kc_bits.specs.Bits.{word}
use Rattle.kc_frames.specs.Clobber.{nothing_written, with_stack, with_word}
use Rattle.kc_frames.specs.ClobberSets.{ClobberSets}
use Rattle.kc_frames.specs.Slots.{redone}
use Rattle.kc_insn.specs.declared.insn.Insn.{Insn}
use Rattle.kc_insn.specs.declared.insn.Insn.TheVariants.{Iretq, Sysretq}
use Rattle.kc_regions.specs.Description.{Description}
use Rattle.kc_regions.specs.Lookup.{gate_of}
use Rattle.kc_regions.specs.Region.{stack_of}
use Rattle.kc_regions.specs.declared.entry.Gate.{Gate}
use Rattle.kc_regions.specs.declared.entry.Handler.{Handler}
use Rattle.kc_space.specs.declared.latches.Latches.{Latches}
use Rattle.kc_space.specs.declared.tri.Tri.{Tri}
use Rattle.kc_space.specs.declared.tri.Tri.TheVariants.{No}
use Rattle.kc_state.specs.AbsDelivery.{delivery, entered_slot}
use Rattle.kc_state.specs.AbsEffect.{AbsChange, AbsStore, abs_row, applied, moment_of, pushed}
use Rattle.kc_state.specs.AbsEvents.{comes, debug, handler_called_by, is_gate, is_iretq, machine_check, nmi, page_fault, user_comes}
use Rattle.kc_state.specs.AbsStep.{with_call}
use Rattle.kc_state.specs.Calls.{after_handler}
use Rattle.kc_state.specs.Location.{location_of}
use Rattle.kc_state.specs.Memory.{meets_word}
use Rattle.kc_state.specs.Operand.{AbsMoment}
use Rattle.kc_state.specs.Places.{location_stack, word_of}
use Rattle.kc_state.specs.declared.key.Key.{Key}
use Rattle.kc_state.specs.declared.location.Location.{Location}
use Rattle.kc_state.specs.declared.location.Location.TheVariants.{Number, Relative}
use Rattle.kc_state.specs.declared.site.Site.{Site}
use Rattle.kc_state.specs.declared.state.AbsState.{AbsState}
use Rattle.kc_state.specs.declared.succ.Succ.{Succ}
use Rattle.kc_state.specs.declared.succ.Succ.TheVariants.{Falls, Jumps, Branches, Calls, Returns}
use Rattle.kc_state.specs.declared.user.UserState.{UserState}

-- n numbers from i on, rising
abbrev pub rising : ℕ → ℕ → List ℕ
rising i zero = []
rising i (suc n) = i ∷ rising (suc i) n

-- what is known at a site of a context, and the instruction there, which has len bytes
pub record Placed : Type 0 where
  pub key : Key
  pub site : Site
  pub state : AbsState
  pub insn : Insn
  pub len : ℕ

abbrev pub next_address : Placed → ℕ
next_address p = word (p.site.at + p.len)

abbrev pub moment : Description → Placed → AbsMoment
moment d p = moment_of d p.key p.state (next_address p)

abbrev pub change : Description → Placed → AbsChange
change d p = abs_row (moment d p) p.insn

-- ---- where the program goes on

abbrev pub before_insn : ℕ → Site
before_insn a = record { at = a; inside = false }

abbrev pub in_body : ℕ → Site
in_body a = record { at = a; inside = true }

-- sites, and what is known at each of them
pub record Successors : Type 0 where
  pub sites : List Site
  pub state : AbsState

abbrev pub sites_after : Placed → Succ → List Site
sites_after p Falls = before_insn (next_address p) ∷ []
sites_after p (Jumps target) = before_insn target ∷ []
sites_after p (Branches target) = before_insn (next_address p) ∷ before_insn target ∷ []
sites_after p (Calls h) = in_body p.site.at ∷ []
sites_after p Returns = []

abbrev pub after_insn : Description → Placed → Successors
after_insn d p = record {
  sites = sites_after p (change d p).succ;
  state = with_call d p.key (applied d p.key p.state (change d p)) (change d p).succ;
}

-- a handler that returns is followed by the instruction after its call
abbrev pub after_body : Placed → Option AbsState → Successors
after_body p (Some s) = record { sites = before_insn (next_address p) ∷ []; state = s }
after_body p None = record { sites = []; state = p.state }

abbrev pub successors : Description → Placed → Successors
successors d p = if p.site.inside then after_body p (after_handler d p.key p.state p.insn) else after_insn d p

-- ---- events

-- a device's interrupt, which IF masks
abbrev pub is_maskable : Gate → Bool
is_maskable g = nat_le 32 g.vector && not g.user

-- an exception that user code alone raises
abbrev pub is_trap : Gate → Bool
is_trap g =
    if nat_le 32 g.vector then g.user
    else not ((g.vector == nmi) || ((g.vector == debug) || ((g.vector == machine_check) || (g.vector == page_fault))))

abbrev pub vectors_of : Description → (Gate → Bool) → List ℕ
vectors_of d test = filter (λ v. is_gate test (gate_of d.gates v)) (rising 0 256)

-- the vectors of the gates in the order in which events are asked: maskable ones rising, NMI, debug, machine check, page
-- fault, and traps rising
abbrev pub vectors_in_order : Description → List ℕ
vectors_in_order d =
    vectors_of d is_maskable ++ nmi ∷ debug ∷ machine_check ∷ page_fault ∷ vectors_of d is_trap

-- the vectors of the events that may come at a node
abbrev pub events_of : Description → Placed → List ℕ
events_of d p = filter (comes d p.key p.site p.state p.insn p.len) (vectors_in_order d)

-- what an event at a node enters, and what is known there
abbrev pub entered_by : Description → Placed → ℕ → Option (Key × AbsState)
entered_by d p v = delivery d p.key p.site p.state p.insn v

-- the vectors of the events that may come while the user runs; SYSCALL, which has none, always may
abbrev pub user_vectors : Description → UserState → List ℕ
user_vectors d u = filter (user_comes d u) (vectors_in_order d)

-- where a context begins: at the entry of the gate, or of SYSCALL
abbrev pub entry_site : Description → Key → Option Site
entry_site d key =
    if key.syscall then Some (before_insn d.cpu.syscall)
    else option_map (λ g. before_insn g.entry) (gate_of d.gates key.vector)

-- ---- what the instruction may write

abbrev pub with_stack_in : ClobberSets → Option ℕ → ClobberSets
with_stack_in c (Some s) = with_stack c s
with_stack_in c None = c

-- c with the stacks of the n bytes from a on
unfoldable pub with_stacks_of : Description → ClobberSets → ℕ → ℕ → ClobberSets
with_stacks_of d c a zero = c
with_stacks_of d c a (suc n) = with_stacks_of d (with_stack_in c (stack_of d.regions a)) (word (a + 1)) n

abbrev pub with_stacks_at : Description → Key → ClobberSets → Location → ℕ → ClobberSets
with_stacks_at d key c (Number a) size = with_stacks_of d c a size
with_stacks_at d key c (Relative k) size = with_stack_in c key.stack

-- c with the words of the TSS and of the configuration, from number i on, that the bytes at l meet
unfoldable pub with_words_at : Description → Key → Location → ℕ → ClobberSets → List ℕ → ClobberSets
with_words_at d key l size c [] = c
with_words_at d key l size c (i ∷ more) =
    with_words_at d key l size (cond (meets_word l size (word_of d key i)) (with_word c i) c) more

abbrev pub with_bytes : Description → Key → ClobberSets → Option Location → ℕ → ClobberSets
with_bytes d key c (Some l) size = with_words_at d key l size (with_stacks_at d key c l size) (rising 0 40)
with_bytes d key c None size = c

-- a store may write the stacks and words that its bytes meet; one whose place is unknown is refused by C7
abbrev pub with_store : Description → Key → ClobberSets → Option AbsStore → ClobberSets
with_store d key c (Some st) = with_bytes d key c st.at st.size
with_store d key c None = c

-- a handler may write the stack on which it is called
abbrev pub called_stack : Description → Placed → Option Handler → Option ℕ
called_stack d p (Some h) = location_stack d p.key (location_of p.key (pushed (moment d p)))
called_stack d p None = None

-- what the instruction, and the handler that it calls, may write; at an inside site it was counted at the call
abbrev pub written_by : Description → Placed → ClobberSets
written_by d p =
    cond p.site.inside nothing_written
    (with_store d p.key (with_stack_in nothing_written (called_stack d p (handler_called_by d p.insn)))
    (change d p).store)

-- ---- returns

abbrev pub is_return_insn : Insn → Bool
is_return_insn Iretq = true
is_return_insn Sysretq = true
is_return_insn _ = false

abbrev pub is_return : Placed → Bool
is_return p = not p.site.inside && is_return_insn p.insn

-- the latches after a return: the gap after an STI is over, and IRETQ opens NMIs
abbrev pub latches_after : Placed → Latches
latches_after p = record p.state.latches {
  shadow = No;
  nmi_blocked = cond (is_iretq p.insn) No p.state.latches.nmi_blocked;
}

-- what is known while the user runs after a return to it
abbrev pub user_after : Placed → UserState
user_after p = record {
  nmi_blocked = (latches_after p).nmi_blocked;
  mcip = (latches_after p).mcip;
  slots = redone (entered_slot []) 0 p.state.slots;
}
