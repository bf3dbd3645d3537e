use Rattle.std.proofs.Common.{codes}
use Rattle.kc_cert.specs.Code.{insn_at}
use Rattle.kc_explain.specs.Explanation.{instruction_text}
use Rattle.kc_explain.proofs.SinkLemmas.{on_err, on_err_too, on_ok_too}
use Rattle.kc_explain.proofs.SinkLemmas.{first_of_three_refused, second_of_three_refused, three_written, third_refused}
use Rattle.kc_explain.proofs.explanation.write_instruction.Goals as goal

pub returns-in_err-write_all-clause-part : goal.returns-in_err-write_all-clause-part
returns-in_err-write_all-clause-part g c =
    on_err c.from_residual.result _
    (first_of_three_refused (g.S.Sink.state c.args.out.now) (g.S.Sink.state c.write_all.new.out)
    (codes "instruction ") (instruction_text (insn_at c.args.image.now c.args.at)) (codes "\n")
    (rw c.as_bytes.ensures.value at c.in_err-write_all.ensures.part))

pub returns-in_err-write_text-clause-part : goal.returns-in_err-write_text-clause-part
returns-in_err-write_text-clause-part g c =
    on_err c.from_residual-in_err-write_text.result _
    (second_of_three_refused (g.S.Sink.state c.args.out.now) (g.S.Sink.state c.write_all.new.out)
    (codes "instruction ") (instruction_text (insn_at c.args.image.now c.args.at)) (codes "\n")
    (g.S.Sink.state c.write_text.new.out)
    (rw c.as_bytes.ensures.value at c.in_ok-write_all.ensures.all) c.in_ok-write_all.ensures.kept
    (rw c.insn_at.ensures.value at c.in_err-write_text.ensures.part))

pub returns-clause-all : goal.returns-clause-all
returns-clause-all g c =
    on_ok_too c.write_all-2.result _ _
    (three_written (g.S.Sink.state c.args.out.now) (g.S.Sink.state c.write_all.new.out)
    (codes "instruction ") (instruction_text (insn_at c.args.image.now c.args.at)) (codes "\n")
    (g.S.Sink.state c.write_text.new.out)
    (rw c.as_bytes.ensures.value at c.in_ok-write_all.ensures.all) c.in_ok-write_all.ensures.kept
    (g.S.Sink.state c.write_all-2.new.out)
    (rw c.insn_at.ensures.value at c.in_ok-write_text.ensures.all))
    (rw c.as_bytes-2.ensures.value at c.write_all-2.ensures.all)

pub returns-clause-part : goal.returns-clause-part
returns-clause-part g c =
    on_err_too c.write_all-2.result _ _
    (third_refused (g.S.Sink.state c.args.out.now) (g.S.Sink.state c.write_all.new.out)
    (codes "instruction ") (instruction_text (insn_at c.args.image.now c.args.at)) (codes "\n")
    (g.S.Sink.state c.write_text.new.out)
    (rw c.as_bytes.ensures.value at c.in_ok-write_all.ensures.all) c.in_ok-write_all.ensures.kept
    (g.S.Sink.state c.write_all-2.new.out)
    (rw c.insn_at.ensures.value at c.in_ok-write_text.ensures.all) c.in_ok-write_text.ensures.kept)
    (rw c.as_bytes-2.ensures.value at c.write_all-2.ensures.part)
