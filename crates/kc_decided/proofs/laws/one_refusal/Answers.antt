use Rattle.kc_decided.proofs.FormLemmas.{refusal-once, refusal-none, refusal-or}
use Rattle.kc_decided.proofs.laws.one_refusal.Goals as goal

pub returns : goal.returns
returns c = record {
  at_least_one = refusal-or;
  at_most_one = refusal-once;
  none = λ image d digests cert r certified first. refusal-none image d digests cert r first certified;
}
