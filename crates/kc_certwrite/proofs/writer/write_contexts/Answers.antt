use Rattle.std.proofs.Common.{◌++◌, ℕ, List, length, append_assoc, subst}
use Rattle.std.specs.Prelude.{OnOk, OnErr}
use Rattle.std.specs.List.{flat_map}
use Rattle.std.proofs.lemmas.Result.{err_from_is_err_and}
use Rattle.kc_io.specs.Sink.{Writes, Refuses}
use Rattle.kc_cert.specs.declared.certificate.Context.{Context}
use Rattle.kc_certfields.specs.Spelling.{u32_bytes}
use Rattle.kc_certform.specs.CertBytes.{context_bytes, head_bytes}
use Rattle.kc_certwrite.proofs.WriteLemmas.{kept-both, writes-both, refuses-after, refuses-before, writes-last, refuses-last}
use Rattle.kc_certwrite.proofs.writer.write_contexts.Goals as goal

-- the head is refused
pub returns-in_err-write_head-clause-part : goal.returns-in_err-write_head-clause-part
returns-in_err-write_head-clause-part g c =
    let exit = err_from_is_err_and c.from_residual.result c.from_residual.ensures.1 in
    rw exit.1
    (refuses-before _ _ (head_bytes c.args.version c.args.cert.now) _ c.in_err-write_head.ensures.part)

-- a context is refused
pub returns-in_err-write_each_context-clause-part : goal.returns-in_err-write_each_context-clause-part
returns-in_err-write_each_context-clause-part g c =
    let exit = err_from_is_err_and c.from_residual-in_err-write_each_context.result
    c.from_residual-in_err-write_each_context.ensures.1 in
    let old = g.S.Sink.state c.args.out.now in
    let headed = g.S.Sink.state c.write_head.new.out in
    let now = g.S.Sink.state c.write_each_context.new.out in
    let refused : Refuses headed now (flat_map context_bytes c.args.cert.now.contexts) =
    subst (λ (xs : List Context). Refuses headed now (flat_map context_bytes xs)) c.as_slice.ensures.items
    c.in_err-write_each_context.ensures.part in
    rw exit.1
    (refuses-after old headed now (head_bytes c.args.version c.args.cert.now) _ c.in_ok-write_head.ensures.kept
    c.in_ok-write_head.ensures.all (refuses-before headed now _ _ refused))

pub returns-clause-all : goal.returns-clause-all
returns-clause-all g c =
    let old = g.S.Sink.state c.args.out.now in
    let headed = g.S.Sink.state c.write_head.new.out in
    let listed = g.S.Sink.state c.write_each_context.new.out in
    let now = g.S.Sink.state c.write_count.new.out in
    let head = head_bytes c.args.version c.args.cert.now in
    let each = flat_map context_bytes c.args.cert.now.contexts in
    let count = u32_bytes (length c.args.cert.now.nodes) in
    let written : Writes headed listed each =
    subst (λ (xs : List Context). Writes headed listed (flat_map context_bytes xs)) c.as_slice.ensures.items
    c.in_ok-write_each_context.ensures.all in
    let last : OnOk c.write_count.result (Writes listed now count) =
    subst (λ (n : ℕ). OnOk c.write_count.result (Writes listed now (u32_bytes n))) c.len.ensures.len
    c.write_count.ensures.all in
    subst (λ (t : List ℕ). OnOk c.write_count.result (Writes old now t)) (append_assoc head each count)
    (writes-last c.write_count.result old listed now (head ++ each) count
    (writes-both old headed listed head each c.in_ok-write_head.ensures.all written) last)

pub returns-clause-part : goal.returns-clause-part
returns-clause-part g c =
    let old = g.S.Sink.state c.args.out.now in
    let headed = g.S.Sink.state c.write_head.new.out in
    let listed = g.S.Sink.state c.write_each_context.new.out in
    let now = g.S.Sink.state c.write_count.new.out in
    let head = head_bytes c.args.version c.args.cert.now in
    let each = flat_map context_bytes c.args.cert.now.contexts in
    let count = u32_bytes (length c.args.cert.now.nodes) in
    let written : Writes headed listed each =
    subst (λ (xs : List Context). Writes headed listed (flat_map context_bytes xs)) c.as_slice.ensures.items
    c.in_ok-write_each_context.ensures.all in
    let last : OnErr c.write_count.result (Refuses listed now count) =
    subst (λ (n : ℕ). OnErr c.write_count.result (Refuses listed now (u32_bytes n))) c.len.ensures.len
    c.write_count.ensures.part in
    subst (λ (t : List ℕ). OnErr c.write_count.result (Refuses old now t)) (append_assoc head each count)
    (refuses-last c.write_count.result old listed now (head ++ each) count
    (kept-both old headed listed c.in_ok-write_head.ensures.kept c.in_ok-write_each_context.ensures.kept)
    (writes-both old headed listed head each c.in_ok-write_head.ensures.all written) last)
