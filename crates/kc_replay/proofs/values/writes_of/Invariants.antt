use Rattle.std.proofs.Common.{◌≡◌, ◌++◌, drop}
use Rattle.kc_replay.specs.Values.{writes_of}
use Rattle.kc_replay.proofs.values.writes_of.Given as goal

-- what the lines left write, after what was found, is what all lines write
abbrev pub invariant-loop-line : goal.invariant-loop-line
invariant-loop-line l = l.writes ++ writes_of (drop l.line-index l.lines) ≡ writes_of l.lines
