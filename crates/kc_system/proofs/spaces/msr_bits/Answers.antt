use Rattle.kc_system.proofs.LawLemmas.{written_bits, status_bits}
use Rattle.kc_system.proofs.spaces.msr_bits.Goals as goal

pub returns : goal.returns
returns c = record { written = written_bits; status = status_bits }
