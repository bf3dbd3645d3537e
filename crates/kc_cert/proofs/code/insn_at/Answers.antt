use Rattle.std.proofs.Common.{take, refl, sym, ◌∙◌}
use Rattle.kc_events.proofs.FetchLemmas.{in_buffer}
use Rattle.kc_cert.proofs.CodeLemmas.{at-run, is-there, is-encodable}
use Rattle.kc_cert.proofs.code.insn_at.Goals as goal

pub returns-clause-value : goal.returns-clause-value
returns-clause-value c =
    let n = c.bytes_at-count.result in
    let buf = c.bytes_at-count.new.buf in
    let whole = in_buffer c.args.image.now c.args.at n buf _ (take n buf) c.bytes_at-count.ensures.count
    c.bytes_at-count.ensures.bytes refl in
    c.read.ensures.value ∙ sym (at-run c.args.image.now c.args.at (take n buf) whole)

pub returns-clause-spelled : goal.returns-clause-spelled
returns-clause-spelled c =
    let n = c.bytes_at-count.result in
    let buf = c.bytes_at-count.new.buf in
    let whole = in_buffer c.args.image.now c.args.at n buf _ (take n buf) c.bytes_at-count.ensures.count
    c.bytes_at-count.ensures.bytes refl in
    is-there c.args.image.now c.args.at (take n buf) whole c.read.result c.read.ensures.spelled c.read.ensures.absent

pub returns-clause-encodable : goal.returns-clause-encodable
returns-clause-encodable c =
    is-encodable c.args.at (take c.bytes_at-count.result c.bytes_at-count.new.buf) c.read.result c.read.ensures.spelled
