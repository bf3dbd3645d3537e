use Rattle.std.proofs.Common.{◌%◌, Some, arith, subst}
use Rattle.kc_image.specs.Image.{Contents}
use Rattle.kc_machine.specs.FetchSteps.{IsFetched}
use Rattle.kc_machine.proofs.fetcher.Fetcher.fetch.Goals as goal

pub returns-in-Some-clause-fetched : goal.returns-in-Some-clause-fetched
returns-in-Some-clause-fetched c =
    subst (λ (i : Contents). IsFetched i c.args.at (Some c.in-Some.found)) c.self.view_is
    (c.in-Some.ensures c.self.inside.image (c.self.invariant (c.args.at % 256) _ (omega arith)))
