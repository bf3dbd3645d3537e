use Rattle.std.proofs.Common.{◌≡◌, ◌++◌, take, drop}
use Rattle.kc_certform.specs.Written.{IsWritten, written_states}
use Rattle.kc_certwrite.specs.Shares.{shares_after, shares_of}
use Rattle.kc_certwrite.proofs.sharing.plan_shares.Given as goal

-- the nodes up to here have their shares, and what they wrote is known
abbrev pub invariant-loop-i : goal.invariant-loop-i
invariant-loop-i l = record {
  written : IsWritten (take l.i l.nodes) l.written;
  shares : l.shares.items ++ shares_after (written_states (take l.i l.nodes) l.written) (drop l.i l.nodes)
      ≡ shares_of l.nodes;
}
