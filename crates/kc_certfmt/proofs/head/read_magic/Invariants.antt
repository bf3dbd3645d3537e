use Rattle.std.proofs.Common.{◌≡◌, drop}
use Rattle.kc_certfmt.specs.Reading.{magic_at}
use Rattle.kc_certfmt.proofs.head.read_magic.Given as goal

-- the bytes that are left
abbrev pub invariant-loop-byte : goal.invariant-loop-byte
invariant-loop-byte l = magic_at (drop l.byte-index l.bytes) l.input ≡ magic_at l.bytes l.initial.input
