use Rattle.kc_arith.proofs.WidthLemmas.{cut_stands, bits_represent, value_stands, width_represents, put_represents}
use Rattle.kc_arith.proofs.masks.widths.Goals as goal

pub returns : goal.returns
returns c = record {
  bits = cut_stands;
  value = bits_represent;
  register = width_represents;
  operand = value_stands;
  put = put_represents;
}
