-- What a step of a C handler leaves where a state describes the machine while the handler runs, a law. This project's
-- own.
use Rattle.std.specs.Prelude.{◌≡◌, ℕ, ◌<◌, ◌⊎◌, true, length, All, Option, Some}
use Rattle.kc_insn.specs.declared.insn.Insn.{Insn}
use Rattle.kc_image.specs.Image.{Contents}
use Rattle.kc_regions.specs.Description.{Description}
use Rattle.kc_regions.specs.Valid.{IsValid}
use Rattle.kc_exec.specs.declared.state.State.{State}
use Rattle.kc_events.specs.declared.turn.BodySet.{BodySet}
use Rattle.kc_events.specs.declared.turn.Turn.TheVariants.{Body}
use Rattle.kc_events.specs.Allowed.{IsAllowed}
use Rattle.kc_events.specs.Run.{Breaks, Steps}
use Rattle.kc_state.specs.AbsEffect.{moment_of}
use Rattle.kc_state.specs.Conditions.{is_exact}
use Rattle.kc_state.specs.State.{IsState}
use Rattle.kc_state.specs.declared.key.Key.{Key}
use Rattle.kc_state.specs.declared.state.AbsState.{AbsState}
use Rattle.kc_describes.specs.Describes.{Describes}
use Rattle.kc_describes.specs.Widths.{IsWord}
use Rattle.kc_calls.specs.Laws.{body_of}
use Rattle.kc_body.specs.Edit.{IsEditSet}

-- an address and a byte, as their types say
pub record IsByteAt (w : ℕ × ℕ) : Type 0 where
  pub at : IsWord w.0
  pub byte : w.1 < 256

-- each number of the turn fits its register, as its type says
pub record IsBodySet (b : BodySet) : Type 0 where
  pub regs : (length b.regs ≡ 16) × All IsWord b.regs
  pub rip : IsWord b.rip
  pub flags : IsWord b.flags
  pub writes : All IsByteAt b.writes
  pub edit : IsEditSet b.edit

-- C4 while a handler runs: GS pair, CR3 and the place of the return address are exact
abbrev pub IsExactInside : Description → Key → AbsState → Type 0
IsExactInside cfg key s = is_exact (moment_of cfg key s 0) true ≡ true

-- The turn breaks nothing; it leads to a stopped machine, or to one that the same state describes while the handler
-- runs.
pub record IsBodyCovered (cfg : Description) (image : Contents) (key : Key) (at : ℕ) (insn : Insn) (len : ℕ)
    (s : AbsState) (S : State) (b : BodySet) : Type 0
  where
    pub quiet : (n : ℕ) → ¬ Breaks cfg image S (Body b) n
    pub goes : (T : State) → Steps cfg image S (Body b) T
        → (T.stopped ≡ true) ⊎ Describes cfg key (body_of at) (Some (insn, len)) s T

-- a handler's step that may come is covered, where a state describes the machine while the handler runs
abbrev pub BodyIsCovered : Type 0
BodyIsCovered = (cfg : Description) (image : Contents) (key : Key) (at : ℕ) (insn : Insn) (len : ℕ) (s : AbsState)
    (S : State) (b : BodySet) (here : Option (Insn × ℕ)) → IsValid cfg → IsState s → IsBodySet b
    → Describes cfg key (body_of at) (Some (insn, len)) s S → IsExactInside cfg key s
    → IsAllowed cfg here S (Body b)
    → IsBodyCovered cfg image key at insn len s S b
