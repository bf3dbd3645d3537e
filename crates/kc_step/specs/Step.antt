-- The step of one instruction, this project's own: what the abstract step says of the machine's.
use Rattle.std.specs.Prelude.{◌≡◌, ℕ, ◌+◌, true, Option, Some, None, Ok}
use Rattle.kc_bits.specs.Bits.{word}
use Rattle.kc_insn.specs.declared.insn.Insn.{Insn}
use Rattle.kc_image.specs.Image.{Contents}
use Rattle.kc_regions.specs.Description.{Description}
use Rattle.kc_regions.specs.Valid.{IsValid}
use Rattle.kc_regions.specs.declared.touch.Touch.TheVariants.{Fetch}
use Rattle.kc_exec.specs.Breaks.{effect}
use Rattle.kc_exec.specs.Execution.{moment}
use Rattle.kc_exec.specs.Operand.{size_of}
use Rattle.kc_exec.specs.declared.access.Write.{Write}
use Rattle.kc_exec.specs.declared.state.State.{State}
use Rattle.kc_events.specs.declared.turn.Turn.TheVariants.{Go}
use Rattle.kc_events.specs.Fetched.{IsAt}
use Rattle.kc_events.specs.Run.{Breaks}
use Rattle.kc_state.specs.AbsEffect.{AbsStore, abs_row, moment_of}
use Rattle.kc_state.specs.AbsStep.{abs_step}
use Rattle.kc_state.specs.Access.{may_bytes}
use Rattle.kc_state.specs.State.{IsState}
use Rattle.kc_state.specs.declared.key.Key.{Key}
use Rattle.kc_state.specs.declared.location.Location.{Location}
use Rattle.kc_state.specs.declared.state.AbsState.{AbsState}
use Rattle.kc_state.specs.declared.succ.Succ.{Succ}
use Rattle.kc_describes.specs.Chain.{newest_of}
use Rattle.kc_describes.specs.Describes.{Describes}
use Rattle.kc_describes.specs.Places.{address_of}
use Rattle.kc_calls.specs.Laws.{code_at}

-- ---- before

-- An instruction is next: the image spells it, in text that may be executed (C5), and the state describes the machine.
pub record IsAtInsn (cfg : Description) (image : Contents) (key : Key) (at : ℕ) (insn : Insn) (len : ℕ) (s : AbsState)
    (S : State) : Type 0
  where
    pub valid : IsValid cfg
    pub state : IsState s
    pub spelled : IsAt image at (Some (insn, len))
    pub text : may_bytes cfg s.map Fetch at len ≡ true
    pub described : Describes cfg key (code_at at) (Some (insn, len)) s S

-- ---- what breaks

-- the step breaks nothing, where the abstract step has an answer
abbrev pub StepBreaksNothing : Type 0
StepBreaksNothing = (cfg : Description) (image : Contents) (key : Key) (at : ℕ) (insn : Insn) (len : ℕ) (s : AbsState)
    (S : State) (succ : Succ) (out : AbsState) → IsAtInsn cfg image key at insn len s S
    → abs_step cfg key s insn (word (at + len)) ≡ Ok (succ, out) → (b : ℕ) → ¬ Breaks cfg image S Go b

-- ---- what is written

-- the write begins where the store does, and has its size
pub record IsStoreAt (base : ℕ) (st : AbsStore) (w : Write) : Type 0 where
  pub place : Location
  pub known : st.at ≡ Some place
  pub at : address_of base place ≡ w.at
  pub size : st.size ≡ size_of w.width

-- there is no store and no write, or the write is the store
abbrev pub MakesStore : ℕ → Option AbsStore → Option Write → Type 0
MakesStore base None None = Unit {0}
MakesStore base (Some st) (Some w) = IsStoreAt base st w
MakesStore base _ _ = ⊥

-- the step writes what the abstract step stores
abbrev pub StepMakesStore : Type 0
StepMakesStore = (cfg : Description) (image : Contents) (key : Key) (at : ℕ) (insn : Insn) (len : ℕ) (s : AbsState)
    (S : State) (succ : Succ) (out : AbsState) → IsAtInsn cfg image key at insn len s S
    → abs_step cfg key s insn (word (at + len)) ≡ Ok (succ, out)
    → MakesStore (newest_of S.chain).base (abs_row (moment_of cfg key s (word (at + len))) insn).store
    (effect (moment cfg S.cpu S.latch S.mem.bytes len) insn).write
