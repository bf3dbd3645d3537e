-- What is said of an answer where memory may run out.
use Rattle.std.specs.Prelude.{Result}
use Rattle.kc_rules.specs.Rules.{Gives}
use Rattle.kc_trace.specs.declared.fault.LineFault.{LineFault}
use Rattle.kc_trace.specs.declared.fault.LineFault.TheVariants.{NoMemory as NoMemoryForLine}
use Rattle.kc_trace.specs.declared.fault.TraceFault.{TraceFault}
use Rattle.kc_trace.specs.declared.fault.TraceFault.TheVariants.{NoMemory}

-- out of memory, the one answer without a cause
abbrev pub no_line_memory : LineFault
no_line_memory = NoMemoryForLine

abbrev pub no_trace_memory : TraceFault
no_trace_memory = NoMemory

-- what was read, as view shows it, is what the definition gives, unless memory ran out
abbrev pub ReadsLine : {X Y : Type 0} → (X → Y) → Result X LineFault → Result Y LineFault → Type 0
ReadsLine view result due = Gives no_line_memory view result due

abbrev pub ReadsTrace : {X Y : Type 0} → (X → Y) → Result X TraceFault → Result Y TraceFault → Type 0
ReadsTrace view result due = Gives no_trace_memory view result due
