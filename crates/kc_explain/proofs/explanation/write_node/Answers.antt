use Rattle.kc_explain.specs.Explanation.{instruction_line, state_lines}
use Rattle.kc_explain.proofs.SinkLemmas.{on_err, on_err_too, on_ok_too, first_refused, both_written, second_refused}
use Rattle.kc_explain.proofs.explanation.write_node.Goals as goal

pub returns-in_err-write_instruction-clause-part : goal.returns-in_err-write_instruction-clause-part
returns-in_err-write_instruction-clause-part g c =
    on_err c.from_residual.result _
    (first_refused (g.S.Sink.state c.args.out.now) (g.S.Sink.state c.write_instruction.new.out)
    (instruction_line c.args.image.now c.args.at) (state_lines c.args.node.now.state)
    c.in_err-write_instruction.ensures.part)

pub returns-clause-all : goal.returns-clause-all
returns-clause-all g c =
    on_ok_too c.write_state.result _ _
    (both_written (g.S.Sink.state c.args.out.now) (g.S.Sink.state c.write_instruction.new.out)
    (instruction_line c.args.image.now c.args.at) (state_lines c.args.node.now.state)
    (g.S.Sink.state c.write_state.new.out) c.in_ok-write_instruction.ensures.all)
    c.write_state.ensures.all

pub returns-clause-part : goal.returns-clause-part
returns-clause-part g c =
    on_err_too c.write_state.result _ _
    (second_refused (g.S.Sink.state c.args.out.now) (g.S.Sink.state c.write_instruction.new.out)
    (instruction_line c.args.image.now c.args.at) (state_lines c.args.node.now.state)
    (g.S.Sink.state c.write_state.new.out) c.in_ok-write_instruction.ensures.all
    c.in_ok-write_instruction.ensures.kept)
    c.write_state.ensures.part
