-- How a run goes on, and what is told of it so far. Machinery: what is told of a whole run stands in Told.
use Rattle.std.specs.Prelude.{◌≡◌, ℕ, ◌+◌, Bool, true, List, [], ◌++◌, length, string_bytes}
use Rattle.kc_image.specs.Image.{Contents}
use Rattle.kc_regions.specs.Description.{Description}
use Rattle.kc_cpu.specs.declared.cpu.Cpu.{Cpu}
use Rattle.kc_events.specs.declared.turn.Turn.{Turn}
use Rattle.kc_events.specs.declared.turn.UserSet.{UserSet}
use Rattle.kc_replay.specs.declared.run.Run.{Run}
use Rattle.kc_replay.specs.declared.run.Progress.{Progress}
use Rattle.kc_replay.specs.declared.run.Progress.TheVariants.{GoesOn, Over}
use Rattle.kc_replay.specs.Told.{Tells, Begins, turns_line}

-- The turns lead from P to Q. What is told of later turns from Q on comes after what was told of these.
pub record LeadsTo (P Q : Run) (turns : List (Cpu → Turn)) : Type 0 where
  pub config : Q.machine.config ≡ P.machine.config
  pub image : Q.machine.image ≡ P.machine.image
  pub count : Q.count ≡ P.count + length turns
  pub told : List ℕ
  pub added : string_bytes Q.told ≡ string_bytes P.told ++ told
  pub tells : (rest : List (Cpu → Turn)) (more : List ℕ) (clean : Bool)
      → Tells P.machine.config P.machine.image Q.count Q.machine.state rest more clean
      → Tells P.machine.config P.machine.image P.count P.machine.state (turns ++ rest) (told ++ more) clean

-- The run that goes on from P with these turns is over in Q, whatever turns were to follow.
pub record EndsIn (P Q : Run) (turns : List (Cpu → Turn)) (clean : Bool) : Type 0 where
  pub told : List ℕ
  pub added : string_bytes Q.told ≡ string_bytes P.told ++ told
  pub tells : (rest : List (Cpu → Turn))
      → Tells P.machine.config P.machine.image P.count P.machine.state (turns ++ rest) (told ++ turns_line Q.count)
      clean

abbrev pub Advances : Run → Run → List (Cpu → Turn) → Progress → Type 0
Advances P Q turns GoesOn = LeadsTo P Q turns
Advances P Q turns (Over clean) = EndsIn P Q turns clean

-- no turn broke
abbrev pub is_clean : Progress → Bool
is_clean GoesOn = true
is_clean (Over clean) = clean

-- a run that begins with this set, before its first turn
pub record IsFresh (cfg : Description) (image : Contents) (first : UserSet) (P : Run) : Type 0 where
  pub config : P.machine.config ≡ cfg
  pub contents : P.machine.image ≡ image
  pub begins : Begins cfg first P.machine.state
  pub count : P.count ≡ 0
  pub told : string_bytes P.told ≡ []
