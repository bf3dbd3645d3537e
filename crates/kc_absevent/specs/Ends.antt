-- How abstract deliveries end.
use Rattle.std.specs.Prelude.{◌≡◌, Option, Some, None, Result, Ok, Err}
use Rattle.kc_state.specs.declared.condition.Condition.{Condition}
use Rattle.kc_state.specs.declared.key.Key.{Key}
use Rattle.kc_state.specs.declared.scratch.Scratch.{Scratch}
use Rattle.kc_state.specs.declared.state.AbsState.{AbsState}

-- The answer is that of the delivery: the key that is entered, with the entry state in `out`; or C14 where there is
-- none, and then both states stay. The state after an event's return stays either way.
abbrev pub Delivers : Result Key Condition → Scratch → Scratch → Option (Key × AbsState) → Type 0
Delivers (Ok key) old new due = (due ≡ Some (key, new.out)) × (new.back ≡ old.back)
Delivers (Err e) old new due = (due ≡ None) × (e.0 ≡ 14) × (new ≡ old)
