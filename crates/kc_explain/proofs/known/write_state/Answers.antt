use Rattle.std.proofs.Common.{◌++◌}
use Rattle.kc_explain.specs.Explanation.{gs_line, map_line, nmi_line, rsp_line, rsp_of}
use Rattle.kc_explain.proofs.SinkLemmas.{on_err, on_err_too, on_ok_too}
use Rattle.kc_explain.proofs.SinkLemmas.{first_of_three_refused, second_of_three_refused, three_written, third_refused}
use Rattle.kc_explain.proofs.known.write_state.Goals as goal

pub returns-in_err-write_spaces-clause-part : goal.returns-in_err-write_spaces-clause-part
returns-in_err-write_spaces-clause-part g c =
    let s = c.args.state.now in
    on_err c.from_residual.result _
    (first_of_three_refused (g.S.Sink.state c.args.out.now) (g.S.Sink.state c.write_spaces.new.out)
    (gs_line s.gs ++ map_line s.map) (nmi_line s.latches.nmi_blocked) (rsp_line (rsp_of s))
    c.in_err-write_spaces.ensures.part)

pub returns-in_err-write_nmi-clause-part : goal.returns-in_err-write_nmi-clause-part
returns-in_err-write_nmi-clause-part g c =
    let s = c.args.state.now in
    on_err c.from_residual-in_err-write_nmi.result _
    (second_of_three_refused (g.S.Sink.state c.args.out.now) (g.S.Sink.state c.write_spaces.new.out)
    (gs_line s.gs ++ map_line s.map) (nmi_line s.latches.nmi_blocked) (rsp_line (rsp_of s))
    (g.S.Sink.state c.write_nmi.new.out) c.in_ok-write_spaces.ensures.all c.in_ok-write_spaces.ensures.kept
    c.in_err-write_nmi.ensures.part)

pub returns-clause-all : goal.returns-clause-all
returns-clause-all g c =
    let s = c.args.state.now in
    on_ok_too c.write_rsp.result _ _
    (three_written (g.S.Sink.state c.args.out.now) (g.S.Sink.state c.write_spaces.new.out)
    (gs_line s.gs ++ map_line s.map) (nmi_line s.latches.nmi_blocked) (rsp_line (rsp_of s))
    (g.S.Sink.state c.write_nmi.new.out) c.in_ok-write_spaces.ensures.all c.in_ok-write_spaces.ensures.kept
    (g.S.Sink.state c.write_rsp.new.out) c.in_ok-write_nmi.ensures.all)
    c.write_rsp.ensures.all

pub returns-clause-part : goal.returns-clause-part
returns-clause-part g c =
    let s = c.args.state.now in
    on_err_too c.write_rsp.result _ _
    (third_refused (g.S.Sink.state c.args.out.now) (g.S.Sink.state c.write_spaces.new.out)
    (gs_line s.gs ++ map_line s.map) (nmi_line s.latches.nmi_blocked) (rsp_line (rsp_of s))
    (g.S.Sink.state c.write_nmi.new.out) c.in_ok-write_spaces.ensures.all c.in_ok-write_spaces.ensures.kept
    (g.S.Sink.state c.write_rsp.new.out) c.in_ok-write_nmi.ensures.all c.in_ok-write_nmi.ensures.kept)
    c.write_rsp.ensures.part
