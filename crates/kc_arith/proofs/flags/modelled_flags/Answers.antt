use Rattle.kc_arith.proofs.ModelLemmas.{alu_modelled, bit_modelled, set_modelled, clear_modelled, loaded_modelled}
use Rattle.kc_arith.proofs.flags.modelled_flags.Goals as goal

pub returns : goal.returns
returns c = record {
  arithmetic = alu_modelled;
  bit_test = bit_modelled;
  set = set_modelled;
  cleared = clear_modelled;
  loaded = loaded_modelled;
}
