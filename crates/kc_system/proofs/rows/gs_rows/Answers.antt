use Rattle.kc_system.proofs.LawLemmas.{swapgs, read_gs, write_gs}
use Rattle.kc_system.proofs.rows.gs_rows.Goals as goal

pub returns : goal.returns
returns c = record { swap = swapgs; read = read_gs; write = write_gs }
