use Rattle.kc_trace_text.proofs.LoopLemmas.{begins}
use Rattle.kc_trace_text.proofs.bytes.line_length.Goals as goal

pub loop-count-init : goal.loop-count-init
loop-count-init c = begins c.args.writes.now
