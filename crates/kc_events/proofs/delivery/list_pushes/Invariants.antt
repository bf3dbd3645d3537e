use Rattle.std.proofs.Common.{◌≡◌, ◌++◌, take, map}
use Rattle.kc_events.specs.Delivery.{push_access}
use Rattle.kc_events.proofs.delivery.list_pushes.Given as goal

-- the pushes so far were appended
abbrev pub invariant-loop-word : goal.invariant-loop-word
invariant-loop-word l = l.log ≡ l.fn.log ++ map push_access (take l.word-index l.frame)
