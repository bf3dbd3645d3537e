use Rattle.std.proofs.Common.{◌≡◌, ◌++◌, take}
use Rattle.kc_transfer.proofs.accesses.Accesses.append.Given as goal

-- the accesses so far were appended
abbrev pub invariant-loop-access : goal.invariant-loop-access
invariant-loop-access l = l.self ≡ l.fn.self ++ take l.access-index l.access-items
