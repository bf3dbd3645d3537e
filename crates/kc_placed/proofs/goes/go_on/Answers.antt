use Rattle.std.proofs.Common.{subst}
use Rattle.kc_cert.specs.Placed.{Placed}
use Rattle.kc_placed.specs.Goes.{GoesOn}
use Rattle.kc_placed.proofs.GoesLemmas.{insn-goes}
use Rattle.kc_placed.proofs.goes.go_on.Goals as goal

pub returns-else-p : goal.returns-else-p
returns-else-p c =
    let p = c.p.inside in
    let q : Placed = record { key = p.key.now; site = p.site; state = p.state.now; insn = p.insn; len = p.len } in
    record {
      goes = subst (λ (x : Placed). GoesOn c.args.cfg.now x c.transfer.result c.transfer.new.out.out) c.p.view_is
          (insn-goes c.args.cfg.now q c.transfer.result c.args.out.now c.transfer.new.out c.if-p.false
          c.transfer.ensures.value);
    }
