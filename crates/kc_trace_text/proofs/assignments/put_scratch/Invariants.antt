use Rattle.std.proofs.Common.{◌≤◌, ◌+◌, ◌*◌, length, take}
use Rattle.kc_plain.specs.Appended.{Appended}
use Rattle.kc_trace_text.specs.Lines.{scratch_registers}
use Rattle.kc_trace_text.specs.Text.{text_of_assignments}
use Rattle.kc_trace_text.proofs.assignments.put_scratch.Given as goal

abbrev pub invariant-loop-number : goal.invariant-loop-number
invariant-loop-number l = record {
  text : Appended l.fn.line.items l.line.items (text_of_assignments (scratch_registers 0 (take l.number l.regs)));
  long : length l.line.items ≤ length l.fn.line.items + 23 * l.number;
}
