use Rattle.std.proofs.Common.{◌≡◌, take, ◌+◌}
use Rattle.kc_image.specs.SymbolSteps.{entry_count}
use Rattle.kc_image.proofs.index.tables_within.Given as goal

abbrev pub invariant-loop-i : goal.invariant-loop-i
invariant-loop-i l = entry_count (take l.i l.tables) + l.left ≡ l.most
