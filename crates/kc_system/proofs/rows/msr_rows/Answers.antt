use Rattle.kc_system.proofs.LawLemmas.{rdmsr, wrmsr}
use Rattle.kc_system.proofs.rows.msr_rows.Goals as goal

pub returns : goal.returns
returns c = record { read = rdmsr; write = wrmsr }
