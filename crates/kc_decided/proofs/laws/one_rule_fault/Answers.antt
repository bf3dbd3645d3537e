use Rattle.kc_decided.proofs.FaultLemmas.{rule_fault-once, rule_fault-none, rule_fault-or}
use Rattle.kc_decided.proofs.laws.one_rule_fault.Goals as goal

pub returns : goal.returns
returns c = record {
  at_least_one = rule_fault-or;
  at_most_one = rule_fault-once;
  none = λ d e valid fault. rule_fault-none d e valid fault;
}
