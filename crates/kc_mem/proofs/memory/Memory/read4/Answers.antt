use Rattle.std.proofs.Common.{arith}
use Rattle.kc_mem.proofs.NumberLemmas.{read_small}
use Rattle.kc_mem.proofs.memory.Memory.read4.Goals as goal

pub overflow_cast-result : goal.overflow_cast-result
overflow_cast-result c =
    omega (arith, c.number.ensures, read_small c.args.self.now.bytes c.args.a 4 c.tell.ensures.exact)
