use Rattle.std.proofs.Common.{◌∙◌, append_assoc}
use Rattle.kc_top.proofs.lines.bad_trace_text.Goals as goal

pub returns : goal.returns
returns c =
    c.in_ok-format.ensures.ok ∙ rw (c.trace_kind-kind.ensures, c.fault_line-line.ensures) (simp append_assoc)
