-- What the abstract step of an instruction answers, this project's own.
use Rattle.std.specs.Prelude.{◌≡◌, Result, Ok, Err}
use Rattle.kc_state.specs.declared.condition.Condition.{Condition}
use Rattle.kc_state.specs.declared.scratch.Scratch.{Scratch}
use Rattle.kc_state.specs.declared.state.AbsState.{AbsState}
use Rattle.kc_state.specs.declared.succ.Succ.{Succ}

-- The answer is that of the step: where the program goes on, with the state in `out`; or the condition that fails, and
-- then both states stay. The state after an event's return stays either way.
abbrev pub Steps : Result Succ Condition → Scratch → Scratch → Result (Succ × AbsState) Condition → Type 0
Steps (Ok succ) old new due = (due ≡ Ok (succ, new.out)) × (new.back ≡ old.back)
Steps (Err e) old new due = (due ≡ Err e) × (new ≡ old)
