-- A step of the machine, a run over a list of turns, and when an image is safe. This project's own.
use Rattle.std.specs.Prelude.{◌≡◌, ℕ, ◌<◌, Bool, true, false, ◌⊎◌, List, [], ◌∷◌, Option}
use Rattle.kc_insn.specs.declared.insn.Insn.{Insn}
use Rattle.kc_image.specs.Image.{Contents}
use Rattle.kc_regions.specs.Description.{Description}
use Rattle.kc_exec.specs.declared.state.State.{State}
use Rattle.kc_exec.specs.Admitted.{IsAdmittedStart}
use Rattle.kc_exec.specs.Execution.{stops}
use Rattle.kc_events.specs.declared.turn.Turn.{Turn}
use Rattle.kc_events.specs.Fetched.{IsAt}
use Rattle.kc_events.specs.Allowed.{IsAllowed}
use Rattle.kc_events.specs.Attempt.{Attempt, attempt}
use Rattle.kc_events.specs.Breaks.{BreaksWith}

-- The turn may come in the state and breaks with this number. `found` is the instruction at RIP.
pub record Breaks (cfg : Description) (image : Contents) (S : State) (turn : Turn) (b : ℕ) : Type 0 where
  pub found : Option (Insn × ℕ)
  pub fetched : IsAt image S.cpu.rip found
  pub allowed : IsAllowed cfg found S turn
  pub broken : BreaksWith cfg found S turn (attempt cfg found S turn) b

-- it breaks with this number and none below it
abbrev pub BreaksFirst : Description → Contents → State → Turn → ℕ → Type 0
BreaksFirst cfg image S turn b = Breaks cfg image S turn b × ((k : ℕ) → k < b → ¬ Breaks cfg image S turn k)

-- it may come, breaks nothing, and an access has a byte in a guard
pub record Stops (cfg : Description) (image : Contents) (S : State) (turn : Turn) : Type 0 where
  pub found : Option (Insn × ℕ)
  pub fetched : IsAt image S.cpu.rip found
  pub allowed : IsAllowed cfg found S turn
  pub stops : stops cfg (attempt cfg found S turn).accesses ≡ true
  pub quiet : (b : ℕ) → ¬ BreaksWith cfg found S turn (attempt cfg found S turn) b

-- the two states agree but in how many empty pages of memory were made ahead
pub record IsLike (S T : State) : Type 0 where
  pub cpu : S.cpu ≡ T.cpu
  pub latch : S.latch ≡ T.latch
  pub mem : S.mem.bytes ≡ T.mem.bytes
  pub stopped : S.stopped ≡ T.stopped
  pub chain : S.chain ≡ T.chain

-- the state after the attempt
abbrev pub after : State → Attempt → State
after S t = record S { cpu = t.cpu; latch = t.latch; mem = record S.mem { bytes = t.mem }; chain = t.left }

abbrev pub halted : State → State
halted S = record S { stopped = true }

-- One step. A turn that may not come changes nothing; one that stops or breaks leaves a stopped state.
pub data Steps (cfg : Description) (image : Contents) (S : State) (turn : Turn) (T : State) : Type 0 where
  Refused : (found : Option (Insn × ℕ)) → IsAt image S.cpu.rip found → ¬ IsAllowed cfg found S turn → IsLike T S
      → Steps cfg image S turn T
  Halted : Stops cfg image S turn ⊎ ((b : ℕ) × Breaks cfg image S turn b) → IsLike T (halted S)
      → Steps cfg image S turn T
  Done : (found : Option (Insn × ℕ)) → IsAt image S.cpu.rip found → IsAllowed cfg found S turn
      → ¬ Stops cfg image S turn → ((b : ℕ) → ¬ Breaks cfg image S turn b)
      → IsLike T (after S (attempt cfg found S turn)) → Steps cfg image S turn T

-- the turns in their order lead from S to T
abbrev pub Runs : Description → Contents → State → List Turn → State → Type 0
Runs cfg image S [] T = IsLike T S
Runs cfg image S (turn ∷ turns) T = (U : State) × Steps cfg image S turn U × Runs cfg image U turns T

-- The image is safe under the description: from every admitted start, over every list of turns, no turn breaks.
abbrev pub IsSafe : Contents → Description → Type 0
IsSafe image cfg = (start : State) (turns : List Turn) (S : State) (turn : Turn) (b : ℕ)
    → IsAdmittedStart cfg start → Runs cfg image start turns S → ¬ Breaks cfg image S turn b
