use Rattle.std.proofs.Common.{Option, None}
use Rattle.std.specs.Option.{IfSome}
use Rattle.std.proofs.lemmas.List.Elements.{All-replicate}
use Rattle.kc_machine.specs.declared.fetcher.Kept.{Kept}
use Rattle.kc_machine.specs.FetchSteps.{IsKept}
use Rattle.kc_machine.proofs.fetcher.Fetcher.new.Goals as goal

-- nothing is kept
pub invariant_of-result : goal.invariant_of-result
invariant_of-result c = All-replicate (λ (k : Option Kept). IfSome k (IsKept c.args.image)) 256 None (tt {0})
