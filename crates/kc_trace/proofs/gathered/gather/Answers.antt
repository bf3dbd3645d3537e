use Rattle.std.proofs.Common.{◌≡◌, suc, length, arith, ap}
use Rattle.std.proofs.lemmas.Result.{err_from_is_err_and}
use Rattle.kc_trace.specs.Faults.{no_trace_memory}
use Rattle.kc_trace.specs.Words.{lines_of}
use Rattle.kc_trace.specs.Script.{add_line}
use Rattle.kc_trace.proofs.EachLemmas.{over_more, over_stops_or, over_done, line_counted, no_lines}
use Rattle.kc_trace.proofs.gathered.gather.Goals as goal

pub loop-rest-preserved : goal.loop-rest-preserved
loop-rest-preserved c =
    let before = c.loop-rest.invariant in
    let next = line_counted c.loop-rest.found c.in_ok-found.found c.cut_line.result.0.now c.in_ok-found.ensures in
    let more : length (lines_of c.loop-rest.rest.now) ≡ suc (length (lines_of c.cut_line.result.1.now)) =
    ap length c.cut_line.ensures.lines in
    record {
      found =
          over_more add_line (lines_of c.loop-rest.rest.now) (lines_of c.cut_line.result.1.now) c.cut_line.result.0.now
          c.loop-rest.found c.in_ok-found.found _ c.cut_line.ensures.lines c.in_ok-found.ensures before.found;
      count = let so_far = before.count in omega (arith, next, more, so_far);
    }

pub returns-in_err-found : goal.returns-in_err-found
returns-in_err-found c =
    let exit = err_from_is_err_and c.from_residual.result c.from_residual.ensures.1 in
    record {
      read = rw (exit.1, exit.2)
          (over_stops_or no_trace_memory add_line (lines_of c.loop-rest.rest.now) (lines_of c.cut_line.result.1.now)
          c.cut_line.result.0.now
          c.loop-rest.found c.in_err-found.field-0.0 _ c.cut_line.ensures.lines c.in_err-found.ensures
          c.loop-rest.invariant.found);
      count = rw exit.1 tt;
    }

pub returns-clause-read : goal.returns-clause-read
returns-clause-read c =
    over_done add_line (lines_of c.loop-rest.rest.now) c.loop-rest.found _
    (no_lines c.loop-rest.rest.now c.loop-rest-test.ensures)
    c.loop-rest.invariant.found
