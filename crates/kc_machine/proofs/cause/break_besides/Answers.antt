use Rattle.kc_machine.proofs.BesidesLemmas.{none-besides, forbidden-besides}
use Rattle.kc_machine.proofs.cause.break_besides.Goals as goal

pub returns-in-Next : goal.returns-in-Next
returns-in-Next c =
    none-besides c.requires.0 c.args.chain.now c.args.insn.now c.args.end c.args.cpu.now c.requires.1 c.in-Next.is

pub returns-in-Forbidden : goal.returns-in-Forbidden
returns-in-Forbidden c =
    forbidden-besides c.requires.0 c.args.chain.now c.args.insn.now c.args.end c.args.cpu.now c.in-Forbidden.number
    c.requires.1 c.in-Forbidden.is
