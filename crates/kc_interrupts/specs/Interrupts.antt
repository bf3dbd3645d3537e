-- What an event finds that interrupts kernel code or a handler: where RSP lies, and which bytes are live once the event
-- has its activation, each a law. This project's own.
use Rattle.std.specs.Prelude.{◌≡◌, ℕ, ◌+◌, ◌≤◌, ◌<◌, Bool, true, List, [], ◌∷◌, ◌++◌, Option, Some}
use Rattle.kc_insn.specs.declared.insn.Insn.{Insn}
use Rattle.kc_regions.specs.Description.{Description}
use Rattle.kc_regions.specs.Region.{stack_of}
use Rattle.kc_regions.specs.Valid.{IsValid}
use Rattle.kc_space.specs.declared.map.MapState.{MapState}
use Rattle.kc_frames.specs.Floors.{AreFloors}
use Rattle.kc_frames.specs.declared.floors.Floors.{Floors}
use Rattle.kc_exec.specs.Live.{IsLive}
use Rattle.kc_exec.specs.Register.{register, rsp}
use Rattle.kc_exec.specs.declared.state.Activation.{Activation}
use Rattle.kc_exec.specs.declared.state.State.{State}
use Rattle.kc_state.specs.AbsDelivery.{interrupted_floors, may_push}
use Rattle.kc_state.specs.AbsEffect.{moment_of}
use Rattle.kc_state.specs.Conditions.{is_exact}
use Rattle.kc_state.specs.Places.{value_stack}
use Rattle.kc_state.specs.State.{IsState}
use Rattle.kc_state.specs.declared.key.Key.{Key}
use Rattle.kc_state.specs.declared.site.Site.{Site}
use Rattle.kc_state.specs.declared.state.AbsState.{AbsState}
use Rattle.kc_describes.specs.Chain.{newest_of}
use Rattle.kc_describes.specs.Describes.{Describes}
use Rattle.kc_describes.specs.Fits.{ChainFits}
use Rattle.kc_describes.specs.Places.{FloorsStand}
use Rattle.kc_describes.specs.Row.{value_at}

-- where C4 holds, RSP lies in the stack in which the state says that it does, or in none where it says none
abbrev pub PlaceIsStack : Type 0
PlaceIsStack = (cfg : Description) (key : Key) (site : Site) (insn : Insn) (len : ℕ) (s : AbsState) (S : State)
    → IsValid cfg → IsState s → Describes cfg key site (Some (insn, len)) s S
    → is_exact (moment_of cfg key s 0) site.inside ≡ true
    → stack_of cfg.regions (register S.cpu rsp) ≡ value_stack cfg key (value_at s.regs 4)

-- The floors of all that is interrupted bound the live bytes of the chain with the new activation a, whatever its base:
-- the floor of RSP's stack goes down to n, which isn't above RSP; it stays where RSP is the one that was due.
abbrev pub FloorsBoundAll : Type 0
FloorsBoundAll = (cfg : Description) (key : Key) (chain : List Activation) (floors : Floors) (a : Activation)
    (base : ℕ) (stays : Bool) (stack : Option ℕ) (n : ℕ) → IsValid cfg → ChainFits cfg key chain → AreFloors floors
    → FloorsStand cfg floors (newest_of chain).base chain → stack_of cfg.regions (register a.saved rsp) ≡ stack
    → (stays ≡ true → register a.saved rsp ≡ register (newest_of chain).due rsp) → n ≤ register a.saved rsp
    → FloorsStand cfg (interrupted_floors floors key.base stays stack n) base (chain ++ a ∷ [])

-- no byte of the n below a constant base is live, where they may be pushed
abbrev pub PushedFrameIsFree : Type 0
PushedFrameIsFree = (cfg : Description) (map : MapState) (floors : Floors) (base n old : ℕ) (chain : List Activation)
    → IsValid cfg → may_push cfg map floors base n ≡ true → FloorsStand cfg floors old chain → (x : ℕ)
    → base ≤ x + n → x < base → ¬ IsLive cfg chain x
