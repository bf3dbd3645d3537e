-- Which events may come, this project's own: each that the machine allows is one that the analysis counts with.
use Rattle.std.specs.Prelude.{◌≡◌, ℕ, ◌+◌, true, false, Option, Some, None}
use Rattle.kc_bits.specs.Bits.{word}
use Rattle.kc_insn.specs.declared.insn.Insn.{Insn}
use Rattle.kc_image.specs.Image.{Contents}
use Rattle.kc_regions.specs.Description.{Description}
use Rattle.kc_regions.specs.Valid.{IsValid}
use Rattle.kc_exec.specs.declared.state.State.{State}
use Rattle.kc_events.specs.Allowed.{IsAllowed}
use Rattle.kc_events.specs.Fetched.{IsAt}
use Rattle.kc_events.specs.declared.turn.Turn.{Turn}
use Rattle.kc_events.specs.declared.turn.Turn.TheVariants.{Go, Irq, Nmi, Debug, Check, Fault, Trap, Syscall, User as UserTurn, Body, Leave}
use Rattle.kc_state.specs.AbsEffect.{abs_row, moment_of}
use Rattle.kc_state.specs.AbsEvents.{comes, user_comes}
use Rattle.kc_state.specs.Conditions.{accesses_of, is_permitted}
use Rattle.kc_state.specs.Operand.{AbsMoment}
use Rattle.kc_state.specs.State.{IsState}
use Rattle.kc_state.specs.declared.key.Key.{Key}
use Rattle.kc_state.specs.declared.site.Site.{Site}
use Rattle.kc_state.specs.declared.state.AbsState.{AbsState}
use Rattle.kc_state.specs.declared.user.UserState.{UserState}
use Rattle.kc_describes.specs.Describes.{Describes}
use Rattle.kc_describes.specs.User.{UserDescribes}

-- the vector of a turn, where it is an event that goes through a gate: SDM vol. 3A, "Exception and Interrupt Vectors"
abbrev pub vector_of : Turn → Option ℕ
vector_of (Irq v) = Some v
vector_of Nmi = Some 2
vector_of Debug = Some 1
vector_of Check = Some 18
vector_of (Fault a code) = Some 14
vector_of (Trap v code) = Some v
vector_of Go = None
vector_of Syscall = None
vector_of (UserTurn u) = None
vector_of (Body b) = None
vector_of (Leave l) = None

-- ---- the kernel

-- each data access of the instruction is permitted (C7)
abbrev pub PermitsAccesses : AbsMoment → Insn → Type 0
PermitsAccesses m insn = is_permitted m insn (accesses_of m insn (abs_row m insn).store) ≡ true

-- The state describes the machine at a site where the image spells the instruction, whose accesses are permitted where
-- it is the one that runs next.
pub record IsAtSite (cfg : Description) (image : Contents) (key : Key) (site : Site) (insn : Insn) (len : ℕ)
    (s : AbsState) (S : State) : Type 0
  where
    pub valid : IsValid cfg
    pub state : IsState s
    pub spelled : IsAt image site.at (Some (insn, len))
    pub permitted : site.inside ≡ false → PermitsAccesses (moment_of cfg key s (word (site.at + len))) insn
    pub described : Describes cfg key site (Some (insn, len)) s S

-- an event that is allowed at such a site may come there; found is the instruction at RIP
abbrev pub EventIsAmong : Type 0
EventIsAmong = (cfg : Description) (image : Contents) (key : Key) (site : Site) (insn : Insn) (len : ℕ) (s : AbsState)
    (S : State) (found : Option (Insn × ℕ)) (turn : Turn) (v : ℕ) → IsAtSite cfg image key site insn len s S
    → IsAt image S.cpu.rip found → IsAllowed cfg found S turn → vector_of turn ≡ Some v
    → comes cfg key site s insn len v ≡ true

-- ---- the user

-- an event that is allowed while the user runs may come there
abbrev pub UserEventIsAmong : Type 0
UserEventIsAmong = (cfg : Description) (u : UserState) (S : State) (found : Option (Insn × ℕ)) (turn : Turn) (v : ℕ)
    → IsValid cfg → UserDescribes cfg u S → IsAllowed cfg found S turn → vector_of turn ≡ Some v
    → user_comes cfg u v ≡ true
