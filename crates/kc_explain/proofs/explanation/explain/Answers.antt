use Rattle.kc_explain.specs.Lines.{refused_line}
use Rattle.kc_explain.specs.Explanation.{spot_lines, because_line}
use Rattle.kc_explain.proofs.SinkLemmas.{on_err, on_err_too, on_ok_too}
use Rattle.kc_explain.proofs.SinkLemmas.{first_of_three_refused, second_of_three_refused, three_written, third_refused}
use Rattle.kc_explain.proofs.explanation.explain.Goals as goal

pub returns-in_err-write_refusal-clause-part : goal.returns-in_err-write_refusal-clause-part
returns-in_err-write_refusal-clause-part g c =
    let r = c.args.refusal.now in
    on_err c.from_residual.result _
    (first_of_three_refused (g.S.Sink.state c.args.out.now) (g.S.Sink.state c.write_refusal.new.out)
    (refused_line c.args.cfg.now r) (spot_lines c.args.image.now c.args.cert.now r.spot) (because_line r.condition.0)
    c.in_err-write_refusal.ensures.part)

pub returns-in_err-write_spot-clause-part : goal.returns-in_err-write_spot-clause-part
returns-in_err-write_spot-clause-part g c =
    let r = c.args.refusal.now in
    on_err c.from_residual-in_err-write_spot.result _
    (second_of_three_refused (g.S.Sink.state c.args.out.now) (g.S.Sink.state c.write_refusal.new.out)
    (refused_line c.args.cfg.now r) (spot_lines c.args.image.now c.args.cert.now r.spot) (because_line r.condition.0)
    (g.S.Sink.state c.write_spot.new.out) c.in_ok-write_refusal.ensures.all c.in_ok-write_refusal.ensures.kept
    c.in_err-write_spot.ensures.part)

pub returns-clause-all : goal.returns-clause-all
returns-clause-all g c =
    let r = c.args.refusal.now in
    on_ok_too c.write_because.result _ _
    (three_written (g.S.Sink.state c.args.out.now) (g.S.Sink.state c.write_refusal.new.out)
    (refused_line c.args.cfg.now r) (spot_lines c.args.image.now c.args.cert.now r.spot) (because_line r.condition.0)
    (g.S.Sink.state c.write_spot.new.out) c.in_ok-write_refusal.ensures.all c.in_ok-write_refusal.ensures.kept
    (g.S.Sink.state c.write_because.new.out) c.in_ok-write_spot.ensures.all)
    c.write_because.ensures.all

pub returns-clause-part : goal.returns-clause-part
returns-clause-part g c =
    let r = c.args.refusal.now in
    on_err_too c.write_because.result _ _
    (third_refused (g.S.Sink.state c.args.out.now) (g.S.Sink.state c.write_refusal.new.out)
    (refused_line c.args.cfg.now r) (spot_lines c.args.image.now c.args.cert.now r.spot) (because_line r.condition.0)
    (g.S.Sink.state c.write_spot.new.out) c.in_ok-write_refusal.ensures.all c.in_ok-write_refusal.ensures.kept
    (g.S.Sink.state c.write_because.new.out) c.in_ok-write_spot.ensures.all c.in_ok-write_spot.ensures.kept)
    c.write_because.ensures.part
