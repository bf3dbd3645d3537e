use Rattle.kc_limit.proofs.ExistLemmas.{limit-exists}
use Rattle.kc_limit.proofs.LimitLemmas.{closed-next, limit-closed, limit-fits, limit-once, next-closed}
use Rattle.kc_limit.proofs.laws.iteration_limit.Goals as goal

pub returns : goal.returns
returns c = record {
  at_most_one = limit-once;
  at_least_one = limit-exists;
  within = λ image d t n limit fits. limit-fits image d t limit fits n;
  closed = λ image d t rounds limit. limit-closed image d rounds t limit;
  fixed = λ image d t table valid. (next-closed image d t table valid, closed-next image d t table valid);
}
