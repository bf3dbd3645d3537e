use Rattle.kc_system.proofs.LawLemmas.{read_cr3, write_cr3}
use Rattle.kc_system.proofs.rows.cr3_rows.Goals as goal

pub returns : goal.returns
returns c = record { read = read_cr3; write = write_cr3 }
