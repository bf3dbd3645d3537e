use Rattle.std.proofs.Common.{arith}
use Rattle.std.proofs.lemmas.Result.{err_from_is_err_and}
use Rattle.kc_image.specs.FirstFault.{add_segment}
use Rattle.kc_image.proofs.TableLemmas.{program_bound, over_more, over_fails, over_all}
use Rattle.kc_image.proofs.loads.read_segments.Goals as goal

pub overflow_add-at : goal.overflow_add-at
overflow_add-at c = omega (arith, program_bound c.args.file.now c.args.header.now (omega arith) c.requires)

pub with_segment-requires : goal.with_segment-requires
with_segment-requires c = omega (arith, program_bound c.args.file.now c.args.header.now (omega arith) c.requires)

pub returns-in_err-segments : goal.returns-in_err-segments
returns-in_err-segments c =
    let exit = err_from_is_err_and c.from_residual.result c.from_residual.ensures.1 in
    rw (exit.1, exit.2)
    (over_fails (add_segment c.args.file.now) _ _ _ _ _ _ _ c.in_err-segments.field-0.0 c.loop-i-test.true
    (omega (arith, c.from.ensures)) c.in_err-segments.ensures c.loop-i.invariant)

pub loop-i-preserved : goal.loop-i-preserved
loop-i-preserved c =
    over_more (add_segment c.args.file.now) _ _ _ _ _ _ _ _ c.loop-i-test.true (omega (arith, c.from.ensures))
    c.in_ok-segments.ensures c.loop-i.invariant

pub returns : goal.returns
returns c = over_all (add_segment c.args.file.now) _ _ _ _ _ _ c.loop-i-test.false c.loop-i.invariant
