use Rattle.std.proofs.Common.{◌≡◌, arith, sym, ◌∙◌}
use Rattle.kc_image.proofs.LoadedLemmas.{run_ends, run_full, run_more}
use Rattle.kc_image.proofs.image.Image.bytes_at.Goals as goal

pub loop-n-preserved : goal.loop-n-preserved
loop-n-preserved c =
    run_more c.args.self.now.segments c.args.a c.loop-n.at c.loop-n.n c.in-Some.byte c.args.buf.now c.loop-n.buf
    c.loop-n-test.true c.in-Some.ensures.byte c.loop-n.invariant

pub returns-in_default-clause-count : goal.returns-in_default-clause-count
returns-in_default-clause-count c =
    (run_ends c.args.self.now.segments c.args.a c.loop-n.at c.loop-n.n c.args.buf.now c.loop-n.buf
    c.loop-n-test.true c.in_default.ensures.byte c.loop-n.invariant).count

pub returns-in_default-clause-bytes : goal.returns-in_default-clause-bytes
returns-in_default-clause-bytes c =
    (run_ends c.args.self.now.segments c.args.a c.loop-n.at c.loop-n.n c.args.buf.now c.loop-n.buf
    c.loop-n-test.true c.in_default.ensures.byte c.loop-n.invariant).bytes

pub returns-clause-count : goal.returns-clause-count
returns-clause-count c =
    let end : c.loop-n.n ≡ 15 = omega (arith, c.loop-n-test.false, c.loop-n.auto.n-end) in
    let segments = c.args.self.now.segments in
    sym end
    ∙ (run_full segments c.args.a c.loop-n.at c.loop-n.n c.args.buf.now c.loop-n.buf end c.loop-n.invariant).count

pub returns-clause-bytes : goal.returns-clause-bytes
returns-clause-bytes c =
    let end : c.loop-n.n ≡ 15 = omega (arith, c.loop-n-test.false, c.loop-n.auto.n-end) in
    let segments = c.args.self.now.segments in
    let written =
    run_full segments c.args.a c.loop-n.at c.loop-n.n c.args.buf.now c.loop-n.buf end c.loop-n.invariant in
    rw end at written.bytes
