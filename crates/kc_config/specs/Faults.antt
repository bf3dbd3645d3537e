-- What is said of an answer where memory may run out.
use Rattle.std.specs.Prelude.{Result}
use Rattle.kc_rules.specs.Rules.{Gives}
use Rattle.kc_config.specs.declared.fault.ConfigFault.{ConfigFault}
use Rattle.kc_config.specs.declared.fault.ConfigFault.TheVariants.{NoMemory}

-- out of memory, the one answer without a cause
abbrev pub no_memory : ConfigFault
no_memory = NoMemory

-- what was read, as view shows it, is what the definition gives, unless memory ran out
abbrev pub Reads : {X Y : Type 0} → (X → Y) → Result X ConfigFault → Result Y ConfigFault → Type 0
Reads view result due = Gives no_memory view result due
