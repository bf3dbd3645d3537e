use Rattle.std.proofs.Common.{◌≡◌, ℕ, [], List, length, ap, sym, ◌∙◌, subst}
use Rattle.std.specs.Prelude.{OnOk, OnErr}
use Rattle.std.proofs.lemmas.Result.{err_from_is_err_and}
use Rattle.kc_io.specs.Sink.{Writes, Refuses}
use Rattle.kc_cert.specs.declared.certificate.Node.{Node}
use Rattle.kc_certform.specs.CertBytes.{contexts_bytes, shared_bytes}
use Rattle.kc_certwrite.specs.ShareSteps.{shared_nodes_bytes}
use Rattle.kc_certwrite.proofs.ShareLemmas.{shares-spell, shares-long}
use Rattle.kc_certwrite.proofs.WriteLemmas.{refuses-before, writes-last, refuses-last}
use Rattle.kc_certwrite.proofs.sharing.write_with_shares.Goals as goal

-- as many shares as nodes
pub write_shared_nodes-requires-clause-count : goal.write_shared_nodes-requires-clause-count
write_shared_nodes-requires-clause-count g c =
    ap length c.requires.shares ∙ shares-long [] c.args.cert.now.nodes ∙ ap length (sym c.as_slice.ensures.items)

-- what stands before the nodes is refused
pub returns-in_err-write_contexts-clause-part : goal.returns-in_err-write_contexts-clause-part
returns-in_err-write_contexts-clause-part g c =
    let exit = err_from_is_err_and c.from_residual.result c.from_residual.ensures.1 in
    rw exit.1 (refuses-before _ _ (contexts_bytes 2 c.args.cert.now) _ c.in_err-write_contexts.ensures.part)

pub returns-clause-all : goal.returns-clause-all
returns-clause-all g c =
    let old = g.S.Sink.state c.args.out.now in
    let begun = g.S.Sink.state c.write_contexts.new.out in
    let now = g.S.Sink.state c.write_shared_nodes.new.out in
    let cert = c.args.cert.now in
    let spelled : shared_nodes_bytes cert.stacks c.as_slice.result.now c.args.shares.now
    ≡ shared_bytes cert.stacks [] cert.nodes =
    ap (λ (ns : List Node). shared_nodes_bytes cert.stacks ns c.args.shares.now) c.as_slice.ensures.items
    ∙ ap (λ (ks : List ℕ). shared_nodes_bytes cert.stacks cert.nodes ks) c.requires.shares
    ∙ shares-spell cert.stacks [] cert.nodes in
    let last : OnOk c.write_shared_nodes.result (Writes begun now (shared_bytes cert.stacks [] cert.nodes)) =
    subst (λ (t : List ℕ). OnOk c.write_shared_nodes.result (Writes begun now t)) spelled
    c.write_shared_nodes.ensures.all in
    writes-last c.write_shared_nodes.result old begun now (contexts_bytes 2 cert) _
    c.in_ok-write_contexts.ensures.all last

pub returns-clause-part : goal.returns-clause-part
returns-clause-part g c =
    let old = g.S.Sink.state c.args.out.now in
    let begun = g.S.Sink.state c.write_contexts.new.out in
    let now = g.S.Sink.state c.write_shared_nodes.new.out in
    let cert = c.args.cert.now in
    let spelled : shared_nodes_bytes cert.stacks c.as_slice.result.now c.args.shares.now
    ≡ shared_bytes cert.stacks [] cert.nodes =
    ap (λ (ns : List Node). shared_nodes_bytes cert.stacks ns c.args.shares.now) c.as_slice.ensures.items
    ∙ ap (λ (ks : List ℕ). shared_nodes_bytes cert.stacks cert.nodes ks) c.requires.shares
    ∙ shares-spell cert.stacks [] cert.nodes in
    let last : OnErr c.write_shared_nodes.result (Refuses begun now (shared_bytes cert.stacks [] cert.nodes)) =
    subst (λ (t : List ℕ). OnErr c.write_shared_nodes.result (Refuses begun now t)) spelled
    c.write_shared_nodes.ensures.part in
    refuses-last c.write_shared_nodes.result old begun now (contexts_bytes 2 cert) _ c.in_ok-write_contexts.ensures.kept
    c.in_ok-write_contexts.ensures.all last
