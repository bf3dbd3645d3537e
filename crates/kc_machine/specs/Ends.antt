-- How a turn ends: what each answer of a step says, and what stands afterwards. This project's own.
use Rattle.std.specs.Prelude.{◌≡◌, ℕ, ◌<◌, ◌==◌, true, false, List, [], Result, Ok, Err, if◌then◌else◌}
use Rattle.kc_plain.specs.declared.memory.NoMemory.{NoMemory}
use Rattle.kc_regions.specs.Description.{Description}
use Rattle.kc_exec.specs.declared.access.Access.{Access}
use Rattle.kc_exec.specs.declared.state.State.{State}
use Rattle.kc_exec.specs.Execution.{stops}
use Rattle.kc_events.specs.Attempt.{Attempt}
use Rattle.kc_events.specs.Run.{IsLike, after}
use Rattle.kc_machine.specs.declared.end.StepEnd.{StepEnd}
use Rattle.kc_machine.specs.declared.end.StepEnd.TheVariants.{NotAllowed, Done, Stopped, Broke}

-- it breaks with number b and none below it
abbrev pub IsLeast : (ℕ → Type 0) → ℕ → Type 0
IsLeast breaks b = breaks b × ((k : ℕ) → k < b → ¬ breaks k)

-- The end of an attempt that breaks with these numbers: the least of them; none of them where it stops or is done.
abbrev pub IsEnd : Description → Attempt → (ℕ → Type 0) → StepEnd → Type 0
IsEnd cfg t breaks NotAllowed = ⊥
IsEnd cfg t breaks Done = (stops cfg t.accesses ≡ false) × ((b : ℕ) → ¬ breaks b)
IsEnd cfg t breaks Stopped = (stops cfg t.accesses ≡ true) × ((b : ℕ) → ¬ breaks b)
IsEnd cfg t breaks (Broke b) = IsLeast breaks b

-- what stands after it: the attempt where it is done; after a stop and a break no more is said than that the state is
-- stopped
abbrev pub Leaves : State → Attempt → State → StepEnd → Type 0
Leaves S t T NotAllowed = IsLike T S
Leaves S t T Done = IsLike T (after S t)
Leaves S t T Stopped = T.stopped ≡ true
Leaves S t T (Broke b) = T.stopped ≡ true

-- the turn ended so; out of memory nothing has changed
abbrev pub Ends : Description → State → Attempt → (ℕ → Type 0) → State → Result StepEnd NoMemory → Type 0
Ends cfg S t breaks T (Ok end) = IsEnd cfg t breaks end × Leaves S t T end
Ends cfg S t breaks T (Err e) = IsLike T S

-- ---- the accesses of the last turn

-- Those of the attempt, also those from a guard on. None where the turn may not come, and none where no instruction is
-- decoded, break 1.
abbrev pub listed : List Access → StepEnd → List Access
listed accesses NotAllowed = []
listed accesses Done = accesses
listed accesses Stopped = accesses
listed accesses (Broke b) = if b == 1 then [] else accesses

-- out of memory they are those before
abbrev pub listed_after : List Access → List Access → Result StepEnd NoMemory → List Access
listed_after before accesses (Ok end) = listed accesses end
listed_after before accesses (Err e) = before
