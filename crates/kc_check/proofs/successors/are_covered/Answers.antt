use Rattle.std.proofs.Common.{ℕ, ap, ◌∙◌}
use Rattle.kc_cert.specs.Placed.{Placed, before_insn, in_body, next_address, sites_after}
use Rattle.kc_cert.specs.Table.{covers}
use Rattle.kc_check.proofs.NodeLemmas.{first-fails, one-site, two-sites}
use Rattle.kc_check.proofs.successors.are_covered.Goals as goal

pub returns-in-Falls : goal.returns-in-Falls
returns-in-Falls c =
    let cert = c.args.table.now.cert.now in
    let s = c.args.state.now in
    let p = c.args.p.now in
    one-site cert c.args.i s p c.args.succ c.covers_insn.result (before_insn (next_address p))
    (ap (sites_after p) c.in-Falls.is)
    (c.covers_insn.ensures ∙ ap (λ (a : ℕ). covers cert c.args.i (before_insn a) s) c.next.ensures.value)

pub returns-in-Jumps : goal.returns-in-Jumps
returns-in-Jumps c =
    let p = c.args.p.now in
    one-site c.args.table.now.cert.now c.args.i c.args.state.now p c.args.succ c.covers_insn-in-Jumps.result
    (before_insn c.in-Jumps.target) (ap (sites_after p) c.in-Jumps.is) c.covers_insn-in-Jumps.ensures

pub returns-then-covers_insn : goal.returns-then-covers_insn
returns-then-covers_insn c =
    let cert = c.args.table.now.cert.now in
    let s = c.args.state.now in
    let p = c.args.p.now in
    two-sites cert c.args.i s p c.args.succ c.covers_insn-in-Branches.result (before_insn (next_address p))
    (before_insn c.in-Branches.target) (ap (sites_after p) c.in-Branches.is)
    (c.covers_insn-in-Branches.ensures
    ∙ ap (λ (a : ℕ). covers cert c.args.i (before_insn a) s) c.next-in-Branches.ensures.value)
    c.covers_insn-then-covers_insn.result c.if-covers_insn.true c.covers_insn-then-covers_insn.ensures

pub returns-else-covers_insn : goal.returns-else-covers_insn
returns-else-covers_insn c =
    let cert = c.args.table.now.cert.now in
    let s = c.args.state.now in
    let p = c.args.p.now in
    first-fails cert c.args.i s p c.args.succ c.covers_insn-in-Branches.result (before_insn (next_address p))
    (before_insn c.in-Branches.target) (ap (sites_after p) c.in-Branches.is)
    (c.covers_insn-in-Branches.ensures
    ∙ ap (λ (a : ℕ). covers cert c.args.i (before_insn a) s) c.next-in-Branches.ensures.value)
    c.if-covers_insn.false

pub returns-in-Calls : goal.returns-in-Calls
returns-in-Calls c =
    let cert = c.args.table.now.cert.now in
    let s = c.args.state.now in
    let p = c.args.p.now in
    one-site cert c.args.i s p c.args.succ c.covers.result (in_body p.site.at) (ap (sites_after p) c.in-Calls.is)
    (c.covers.ensures ∙ ap (λ (q : Placed). covers cert c.args.i (in_body q.site.at) s) c.p.view_is)
