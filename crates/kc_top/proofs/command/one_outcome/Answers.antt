use Rattle.kc_top.specs.Words.{request_of}
use Rattle.kc_top.specs.Output.{work_of}
use Rattle.kc_top.proofs.WorkLemmas.{Comes-one, Comes-some}
use Rattle.kc_top.proofs.OutputLemmas.{single, ending}
use Rattle.kc_top.proofs.command.one_outcome.Goals as goal

-- one text is told of a run, so no end of the work has two outcomes
pub returns-clause-at_most_one : goal.returns-clause-at_most_one
returns-clause-at_most_one c = λ held words o p tied.
    Comes-one held (work_of (request_of words)) (single c.one_text.ensures.once (request_of words) tied) o p

pub returns-clause-at_least_one : goal.returns-clause-at_least_one
returns-clause-at_least_one c = λ held words decided.
    Comes-some held (work_of (request_of words)) (ending (request_of words) decided)
