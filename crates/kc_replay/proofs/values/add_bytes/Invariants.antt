use Rattle.std.proofs.Common.{◌≡◌, ◌++◌, drop}
use Rattle.kc_replay.specs.Values.{placed}
use Rattle.kc_replay.proofs.values.add_bytes.Given as goal

-- the bytes left, after those that were added, are what all bytes add
abbrev pub invariant-loop-byte : goal.invariant-loop-byte
invariant-loop-byte l = l.writes ++ placed l.at (drop l.byte-index l.bytes) ≡ l.fn.writes ++ placed l.fn.address l.bytes
