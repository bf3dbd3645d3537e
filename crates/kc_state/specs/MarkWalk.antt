-- What a walk over the regions gives that has found some marks and has the rest to pass: machinery of the walk.
use Rattle.std.specs.Prelude.{List, Option}
use Rattle.kc_regions.specs.declared.region.Region.{Region}
use Rattle.kc_state.specs.Marks.{marks_from, with_marks}
use Rattle.kc_state.specs.declared.slot_words.Found.{Found}
use Rattle.kc_state.specs.declared.slot_words.Mark.{Mark}

abbrev pub marks_left : Found → List Region → List (Option Mark)
marks_left found rest = with_marks found.count found.marks (marks_from found.stacks rest)
