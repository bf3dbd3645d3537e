use Rattle.kc_arith.proofs.ArithmeticLemmas.{result_covers, operation_covers, self_result, self_flags_after}
use Rattle.kc_arith.proofs.operations.arithmetic.Goals as goal

pub returns : goal.returns
returns c = record {
  result = result_covers;
  flags = operation_covers;
  self_result = self_result;
  self_flags = self_flags_after;
}
