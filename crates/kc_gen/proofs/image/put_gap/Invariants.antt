use Rattle.std.proofs.Common.{◌≡◌, ◌-◌, ◌++◌, replicate}
use Rattle.kc_gen.proofs.image.put_gap.Given as goal

-- the gap is filled up to here
abbrev pub invariant-loop : goal.invariant-loop
invariant-loop l = l.out.items ≡ l.initial.out.items ++ replicate (l.counter - l.at) 0x90
