use Rattle.std.proofs.Common.{◌≡◌, ◌+◌, ◌^◌, ◌<◌, ◌≤◌, false, take, drop, replicate, length}
use Rattle.std.specs.Fmt.{digits}
use Rattle.kc_text.proofs.DigitsLemmas.{onto}
use Rattle.kc_text.proofs.digits.write_digits.Given as goal

-- the digits from `at` on are written, and the rest has no more than are left
abbrev pub invariant-loop-rest : goal.invariant-loop-rest
invariant-loop-rest l =
    (1 ≤ l.at) × (l.at ≤ 16) × (length l.out ≡ 16) × (l.rest < 16 ^ l.at) × (take l.at l.out ≡ replicate l.at 48)
    × (onto (l.at + 48) l.rest (drop l.at l.out) ≡ digits 16 false l.n)

abbrev pub decreases-loop-rest : goal.decreases-loop-rest
decreases-loop-rest l = l.at
