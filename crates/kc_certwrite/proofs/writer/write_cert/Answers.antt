use Rattle.std.proofs.Common.{List, subst}
use Rattle.std.specs.Prelude.{OnOk, OnErr}
use Rattle.std.specs.List.{flat_map}
use Rattle.std.proofs.lemmas.Result.{err_from_is_err_and}
use Rattle.kc_io.specs.Sink.{Writes, Refuses}
use Rattle.kc_cert.specs.declared.certificate.Node.{Node}
use Rattle.kc_certform.specs.CertBytes.{contexts_bytes, node_bytes}
use Rattle.kc_certwrite.proofs.WriteLemmas.{refuses-before, writes-last, refuses-last}
use Rattle.kc_certwrite.proofs.writer.write_cert.Goals as goal

-- what stands before the nodes is refused
pub returns-in_err-write_contexts-clause-part : goal.returns-in_err-write_contexts-clause-part
returns-in_err-write_contexts-clause-part g c =
    let exit = err_from_is_err_and c.from_residual.result c.from_residual.ensures.1 in
    rw exit.1 (refuses-before _ _ (contexts_bytes 1 c.args.cert.now) _ c.in_err-write_contexts.ensures.part)

pub returns-clause-all : goal.returns-clause-all
returns-clause-all g c =
    let old = g.S.Sink.state c.args.out.now in
    let begun = g.S.Sink.state c.write_contexts.new.out in
    let now = g.S.Sink.state c.write_each_node.new.out in
    let stacks = c.args.cert.now.stacks in
    let last : OnOk c.write_each_node.result (Writes begun now (flat_map (node_bytes stacks) c.args.cert.now.nodes)) =
    subst (λ (xs : List Node). OnOk c.write_each_node.result (Writes begun now (flat_map (node_bytes stacks) xs)))
    c.as_slice.ensures.items c.write_each_node.ensures.all in
    writes-last c.write_each_node.result old begun now (contexts_bytes 1 c.args.cert.now) _
    c.in_ok-write_contexts.ensures.all last

pub returns-clause-part : goal.returns-clause-part
returns-clause-part g c =
    let old = g.S.Sink.state c.args.out.now in
    let begun = g.S.Sink.state c.write_contexts.new.out in
    let now = g.S.Sink.state c.write_each_node.new.out in
    let stacks = c.args.cert.now.stacks in
    let last : OnErr c.write_each_node.result (Refuses begun now (flat_map (node_bytes stacks) c.args.cert.now.nodes)) =
    subst (λ (xs : List Node). OnErr c.write_each_node.result (Refuses begun now (flat_map (node_bytes stacks) xs)))
    c.as_slice.ensures.items c.write_each_node.ensures.part in
    refuses-last c.write_each_node.result old begun now (contexts_bytes 1 c.args.cert.now) _
    c.in_ok-write_contexts.ensures.kept c.in_ok-write_contexts.ensures.all last
