use Rattle.kc_explain.specs.Explanation.{gs_line, map_line}
use Rattle.kc_explain.proofs.SinkLemmas.{on_err, on_err_too, on_ok_too, first_refused, both_written, second_refused}
use Rattle.kc_explain.proofs.known.write_spaces.Goals as goal

pub returns-in_err-write_gs-clause-part : goal.returns-in_err-write_gs-clause-part
returns-in_err-write_gs-clause-part g c =
    let s = c.args.state.now in
    on_err c.from_residual.result _
    (first_refused (g.S.Sink.state c.args.out.now) (g.S.Sink.state c.write_gs.new.out) (gs_line s.gs) (map_line s.map)
    c.in_err-write_gs.ensures.part)

pub returns-clause-all : goal.returns-clause-all
returns-clause-all g c =
    let s = c.args.state.now in
    on_ok_too c.write_map.result _ _
    (both_written (g.S.Sink.state c.args.out.now) (g.S.Sink.state c.write_gs.new.out) (gs_line s.gs) (map_line s.map)
    (g.S.Sink.state c.write_map.new.out) c.in_ok-write_gs.ensures.all)
    c.write_map.ensures.all

pub returns-clause-part : goal.returns-clause-part
returns-clause-part g c =
    let s = c.args.state.now in
    on_err_too c.write_map.result _ _
    (second_refused (g.S.Sink.state c.args.out.now) (g.S.Sink.state c.write_gs.new.out) (gs_line s.gs) (map_line s.map)
    (g.S.Sink.state c.write_map.new.out) c.in_ok-write_gs.ensures.all c.in_ok-write_gs.ensures.kept)
    c.write_map.ensures.part
