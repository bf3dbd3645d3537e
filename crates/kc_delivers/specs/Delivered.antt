-- What the abstract delivery of an event, and the abstract SYSCALL, say of the machine's, each a law. This project's
-- own.
use Rattle.std.specs.Prelude.{◌≡◌, ℕ, true, ◌⊎◌, Option, Some, None}
use Rattle.kc_insn.specs.declared.insn.Insn.{Insn}
use Rattle.kc_image.specs.Image.{Contents}
use Rattle.kc_regions.specs.Description.{Description}
use Rattle.kc_regions.specs.Lookup.{gate_of}
use Rattle.kc_regions.specs.Valid.{IsValid}
use Rattle.kc_regions.specs.declared.entry.Gate.{Gate}
use Rattle.kc_exec.specs.declared.state.State.{State}
use Rattle.kc_events.specs.Allowed.{IsAllowed}
use Rattle.kc_events.specs.Fetched.{IsAt}
use Rattle.kc_events.specs.Run.{Breaks, Steps}
use Rattle.kc_events.specs.declared.turn.Turn.{Turn}
use Rattle.kc_events.specs.declared.turn.Turn.TheVariants.{Syscall}
use Rattle.kc_state.specs.AbsDelivery.{delivery, user_entry}
use Rattle.kc_state.specs.State.{IsState}
use Rattle.kc_state.specs.User.{IsUserState}
use Rattle.kc_state.specs.declared.key.Key.{Key}
use Rattle.kc_state.specs.declared.site.Site.{Site}
use Rattle.kc_state.specs.declared.state.AbsState.{AbsState}
use Rattle.kc_state.specs.declared.user.UserState.{UserState}
use Rattle.kc_describes.specs.Describes.{Describes}
use Rattle.kc_describes.specs.User.{UserDescribes}
use Rattle.kc_calls.specs.Laws.{code_at}
use Rattle.kc_arrivals.specs.Arrivals.{vector_of}

-- the turn may come, where the instruction at RIP is the one that the image spells there
abbrev pub MayComeIn : Description → Contents → State → Turn → Type 0
MayComeIn cfg image S turn = (here : Option (Insn × ℕ)) × IsAt image S.cpu.rip here × IsAllowed cfg here S turn

-- The turn breaks nothing, and the machine that it leads to runs at this address, described by the state under the key;
-- `found` is the instruction that is there.
pub record Enters (cfg : Description) (image : Contents) (key : Key) (at : ℕ) (s : AbsState) (S : State) (turn : Turn)
    : Type 0
  where
    pub quiet : (b : ℕ) → ¬ Breaks cfg image S turn b
    pub goes : (found : Option (Insn × ℕ)) (T : State) → Steps cfg image S turn T
        → Describes cfg key (code_at at) found s T

-- The same, but that a frame on the interrupted stack, for which the key has no base, may reach the guard below it,
-- where the machine stops.
pub record EntersOrStops (cfg : Description) (image : Contents) (key : Key) (at : ℕ) (s : AbsState) (S : State)
    (turn : Turn) : Type 0
  where
    pub quiet : (b : ℕ) → ¬ Breaks cfg image S turn b
    pub goes : (found : Option (Insn × ℕ)) (T : State) → Steps cfg image S turn T
        → ((T.stopped ≡ true) × (key.base ≡ None)) ⊎ Describes cfg key (code_at at) found s T

-- SYSCALL, which the user state describes, leads to the configured address
abbrev pub SyscallIsCovered : Type 0
SyscallIsCovered = (cfg : Description) (image : Contents) (u : UserState) (S : State) (key : Key) (s : AbsState)
    → IsValid cfg → IsUserState u → UserDescribes cfg u S → MayComeIn cfg image S Syscall
    → user_entry cfg u None ≡ Some (key, s) → Enters cfg image key cfg.cpu.syscall s S Syscall

-- An event that interrupts the user, and for which there is an abstract delivery, leads through its vector's gate; it
-- never stops the machine.
abbrev pub UserDeliveryIsCovered : Type 0
UserDeliveryIsCovered = (cfg : Description) (image : Contents) (u : UserState) (S : State) (turn : Turn) (v : ℕ)
    (key : Key) (s : AbsState) → IsValid cfg → IsUserState u → UserDescribes cfg u S → vector_of turn ≡ Some v
    → MayComeIn cfg image S turn → user_entry cfg u (Some v) ≡ Some (key, s)
    → (g : Gate) × (gate_of cfg.gates v ≡ Some g) × Enters cfg image key g.entry s S turn

-- an event that interrupts kernel code or a handler, and for which there is an abstract delivery, leads through its
-- vector's gate
abbrev pub DeliveryIsCovered : Type 0
DeliveryIsCovered = (cfg : Description) (image : Contents) (key : Key) (site : Site) (insn : Insn) (len : ℕ)
    (s : AbsState) (S : State) (turn : Turn) (v : ℕ) (entered : Key) (out : AbsState) → IsValid cfg → IsState s
    → Describes cfg key site (Some (insn, len)) s S → vector_of turn ≡ Some v → MayComeIn cfg image S turn
    → delivery cfg key site s insn v ≡ Some (entered, out)
    → (g : Gate) × (gate_of cfg.gates v ≡ Some g) × EntersOrStops cfg image entered g.entry out S turn
