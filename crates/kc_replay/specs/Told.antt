-- What a replay tells of a run: this project's own. Turns are counted from 1.
use Rattle.std.specs.Prelude.{◌≡◌, ℕ, suc, Bool, true, false, ◌⊎◌, List, [], ◌∷◌, ◌++◌, codes, decimal}
use Rattle.kc_image.specs.Image.{Contents}
use Rattle.kc_regions.specs.Description.{Description}
use Rattle.kc_cpu.specs.declared.cpu.Cpu.{Cpu}
use Rattle.kc_exec.specs.declared.state.State.{State}
use Rattle.kc_exec.specs.Admitted.{IsAdmittedStart}
use Rattle.kc_events.specs.declared.turn.Turn.{Turn}
use Rattle.kc_events.specs.declared.turn.UserSet.{UserSet}
use Rattle.kc_events.specs.Run.{Stops, BreaksFirst}
use Rattle.kc_machine.specs.Start.{first_cpu, first_bytes}
use Rattle.kc_machine.specs.Step.{Refused, Taken}
use Rattle.kc_trace.specs.declared.line.Line.{Line}
use Rattle.kc_replay.specs.Turns.{turns_of, first_set}

-- ---- the lines

abbrev pub not_allowed_line : ℕ → List ℕ
not_allowed_line n = codes "turn " ++ decimal n ++ codes " not allowed\n"

abbrev pub stopped_line : ℕ → List ℕ
stopped_line n = codes "turn " ++ decimal n ++ codes " stopped\n"

abbrev pub break_line : ℕ → ℕ → List ℕ
break_line n b = codes "turn " ++ decimal n ++ codes " break B" ++ decimal b ++ codes "\n"

-- how many turns were tried
abbrev pub turns_line : ℕ → List ℕ
turns_line n = codes "turns " ++ decimal n ++ codes "\n"

-- ---- a turn

-- The turn of number n leads from S to T, and this is told of it.
pub data Passes (cfg : Description) (image : Contents) (S : State) (turn : Turn) (n : ℕ) (T : State) (told : List ℕ)
    : Type 0 where
  NotAllowed : Refused cfg image S turn T → told ≡ not_allowed_line n → Passes cfg image S turn n T told
  Done : Taken cfg image S turn T → told ≡ [] → Passes cfg image S turn n T told

-- The run ends with the turn of number n, and this is told of it; a run is clean that breaks nothing.
pub data EndsRun (cfg : Description) (image : Contents) (S : State) (turn : Turn) (n : ℕ) (told : List ℕ) (clean : Bool)
    : Type 0 where
  Stopped : Stops cfg image S turn → told ≡ stopped_line n → clean ≡ true → EndsRun cfg image S turn n told clean
  Broke : (b : ℕ) → BreaksFirst cfg image S turn b → told ≡ break_line n b → clean ≡ false
      → EndsRun cfg image S turn n told clean

-- ---- a run

-- From S, after n turns, these turns follow, and this text is told of them. The run goes on after a turn that passes,
-- and ends with one that stops or breaks.
abbrev pub Tells : Description → Contents → ℕ → State → List (Cpu → Turn) → List ℕ → Bool → Type 0
Tells cfg image n S [] text clean = (text ≡ turns_line n) × (clean ≡ true)
Tells cfg image n S (turn ∷ turns) text clean =
    ((T : State) × (told : List ℕ) × (more : List ℕ) × Passes cfg image S (turn S.cpu) (suc n) T told
    × (text ≡ told ++ more) × Tells cfg image (suc n) T turns more clean)
    ⊎ ((told : List ℕ) × EndsRun cfg image S (turn S.cpu) (suc n) told clean × (text ≡ told ++ turns_line (suc n)))

-- the state with which a run begins
pub record Begins (cfg : Description) (first : UserSet) (S : State) : Type 0 where
  pub admitted : IsAdmittedStart cfg S
  pub processor : S.cpu ≡ first_cpu cfg first
  pub memory : S.mem.bytes ≡ first_bytes cfg first

-- Of the run that the lines say this text is told; it is clean where no turn breaks.
abbrev pub IsReplayed : Description → Contents → List Line → List ℕ → Bool → Type 0
IsReplayed cfg image lines text clean =
    (S : State) × Begins cfg (first_set cfg lines) S × Tells cfg image 0 S (turns_of cfg lines) text clean
