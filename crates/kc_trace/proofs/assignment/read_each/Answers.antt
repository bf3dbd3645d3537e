use Rattle.std.proofs.Common.{◌+◌, drop, get_or}
use Rattle.std.proofs.lemmas.Result.{err_from_is_err_and}
use Rattle.kc_trace.specs.Faults.{no_line_memory}
use Rattle.kc_trace.specs.Words.{texts}
use Rattle.kc_trace.specs.Assignments.{add_assignment}
use Rattle.kc_trace.proofs.EachLemmas.{words_more, words_end, absent, over_more, over_stops_or, over_done}
use Rattle.kc_trace.proofs.assignment.read_each.Goals as goal

pub loop-word-preserved : goal.loop-word-preserved
loop-word-preserved c =
    over_more add_assignment (texts (drop c.loop-word.word-index c.args.words.now))
    (texts (drop (c.loop-word.word-index + 1) c.args.words.now))
    (get_or c.args.words.now c.loop-word.word-index absent).now c.loop-word.found c.add_assignment.new.found _
    (words_more c.args.words.now c.loop-word.word-index absent c.loop-word-test.true) c.in_ok-add_assignment.ensures
    c.loop-word.invariant

pub returns-in_err-add_assignment : goal.returns-in_err-add_assignment
returns-in_err-add_assignment c =
    let exit = err_from_is_err_and c.from_residual.result c.from_residual.ensures.1 in
    rw (exit.1, exit.2)
    (over_stops_or no_line_memory add_assignment (texts (drop c.loop-word.word-index c.args.words.now))
    (texts (drop (c.loop-word.word-index + 1) c.args.words.now))
    (get_or c.args.words.now c.loop-word.word-index absent).now
    c.loop-word.found c.in_err-add_assignment.field-0.0 _
    (words_more c.args.words.now c.loop-word.word-index absent c.loop-word-test.true) c.in_err-add_assignment.ensures
    c.loop-word.invariant)

pub returns : goal.returns
returns c =
    over_done add_assignment (texts (drop c.loop-word.word-index c.args.words.now)) c.loop-word.found _
    (words_end c.args.words.now c.loop-word.word-index c.loop-word-test.false) c.loop-word.invariant
