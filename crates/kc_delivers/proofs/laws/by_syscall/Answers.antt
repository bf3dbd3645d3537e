use Rattle.kc_delivers.proofs.SyscallLemmas.{syscall_is_covered}
use Rattle.kc_delivers.proofs.laws.by_syscall.Goals as goal

pub returns : goal.returns
returns c = record { covered = syscall_is_covered }
