-- What is known after an event's return, this project's own: the state after it describes the machine.
use Rattle.std.specs.Prelude.{◌≡◌, ℕ, true, false, [], ◌∷◌, ◌++◌, Option}
use Rattle.kc_insn.specs.declared.insn.Insn.{Insn}
use Rattle.kc_regions.specs.Description.{Description}
use Rattle.kc_regions.specs.Valid.{IsValid}
use Rattle.kc_exec.specs.declared.state.Activation.{Activation}
use Rattle.kc_exec.specs.declared.state.State.{State}
use Rattle.kc_state.specs.AbsEffect.{moment_of}
use Rattle.kc_state.specs.AbsReturn.{returned}
use Rattle.kc_state.specs.Conditions.{is_exact}
use Rattle.kc_state.specs.State.{IsState}
use Rattle.kc_state.specs.declared.key.Key.{Key}
use Rattle.kc_state.specs.declared.site.Site.{Site}
use Rattle.kc_state.specs.declared.state.AbsState.{AbsState}
use Rattle.kc_state.specs.declared.summary.Summary.{Summary}
use Rattle.kc_describes.specs.Describes.{Describes}
use Rattle.kc_describes.specs.Spaces.{LatchesStand}
use Rattle.kc_describes.specs.Widths.{IsMachine}
use Rattle.kc_after.specs.Kept.{Keeps}

-- T is S after an event with this summary has returned, which was the activation a: processor and chain are as they
-- were, the latches are the summary's, and each byte that may not differ is as it was.
pub record ComesBack (cfg : Description) (summary : Summary) (a : Activation) (S T : State) : Type 0 where
  pub interrupted : a.saved ≡ S.cpu
  pub typed : IsMachine T
  pub running : T.stopped ≡ false
  pub cpu : T.cpu ≡ S.cpu
  pub chain : T.chain ≡ S.chain
  pub latches : LatchesStand summary.latches T.latch
  pub kept : Keeps cfg summary.clobber (S.chain ++ a ∷ []) S.mem.bytes T.mem.bytes

-- a state that describes the machine before the event, and is exact (C4)
pub record IsExactAt (cfg : Description) (key : Key) (site : Site) (found : Option (Insn × ℕ)) (s : AbsState)
    (S : State) : Type 0
  where
    pub valid : IsValid cfg
    pub state : IsState s
    pub next : ℕ
    pub exact : is_exact (moment_of cfg key s next) site.inside ≡ true
    pub described : Describes cfg key site found s S

-- after the event's return the state that the analysis has then describes the machine
abbrev pub AfterReturnDescribes : Type 0
AfterReturnDescribes = (cfg : Description) (key : Key) (site : Site) (found : Option (Insn × ℕ)) (s : AbsState)
    (summary : Summary) (a : Activation) (S T : State) → IsExactAt cfg key site found s S
    → ComesBack cfg summary a S T → Describes cfg key site found (returned cfg key s summary) T
