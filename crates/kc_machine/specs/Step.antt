-- What each answer of a step says. This project's own.
use Rattle.std.specs.Prelude.{◌≡◌, ℕ, List, Option, Result}
use Rattle.kc_plain.specs.declared.memory.NoMemory.{NoMemory}
use Rattle.kc_insn.specs.declared.insn.Insn.{Insn}
use Rattle.kc_image.specs.Image.{Contents}
use Rattle.kc_regions.specs.Description.{Description}
use Rattle.kc_exec.specs.declared.access.Access.{Access}
use Rattle.kc_exec.specs.declared.state.State.{State}
use Rattle.kc_events.specs.declared.turn.Turn.{Turn}
use Rattle.kc_events.specs.Fetched.{IsAt}
use Rattle.kc_events.specs.Allowed.{IsAllowed}
use Rattle.kc_events.specs.Attempt.{attempt}
use Rattle.kc_events.specs.Run.{Stops, Breaks, IsLike, after}
use Rattle.kc_machine.specs.declared.end.StepEnd.{StepEnd}
use Rattle.kc_machine.specs.Ends.{listed_after}

-- The turn may not come, and nothing changed.
pub record Refused (cfg : Description) (image : Contents) (S : State) (turn : Turn) (T : State) : Type 0 where
  pub found : Option (Insn × ℕ)
  pub fetched : IsAt image S.cpu.rip found
  pub refused : ¬ IsAllowed cfg found S turn
  pub unchanged : IsLike T S

-- The turn may come, neither stops nor breaks, and what it does was done.
pub record Taken (cfg : Description) (image : Contents) (S : State) (turn : Turn) (T : State) : Type 0 where
  pub found : Option (Insn × ℕ)
  pub fetched : IsAt image S.cpu.rip found
  pub allowed : IsAllowed cfg found S turn
  pub runs_on : ¬ Stops cfg image S turn
  pub unbroken : (b : ℕ) → ¬ Breaks cfg image S turn b
  pub left : IsLike T (after S (attempt cfg found S turn))

-- the accesses of the last turn, after those before
pub record Lists (cfg : Description) (image : Contents) (S : State) (turn : Turn) (end : Result StepEnd NoMemory)
    (before now : List Access) : Type 0 where
  pub found : Option (Insn × ℕ)
  pub fetched : IsAt image S.cpu.rip found
  pub listed : now ≡ listed_after before (attempt cfg found S turn).accesses end
