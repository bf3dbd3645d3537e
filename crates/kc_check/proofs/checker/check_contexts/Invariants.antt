use Rattle.std.proofs.Common.{◌≡◌, drop}
use Rattle.kc_cert.specs.FirstRefusal.{context_refusal, each_from}
use Rattle.kc_check.proofs.checker.check_contexts.Given as goal

-- what is left decides
abbrev pub invariant-loop-i : goal.invariant-loop-i
invariant-loop-i l =
    let ask = context_refusal l.table.image.now l.table.cfg.now l.table.cert.now in
    each_from ask l.i (drop l.i l.table.cert.now.contexts) ≡ each_from ask 0 l.table.cert.now.contexts
