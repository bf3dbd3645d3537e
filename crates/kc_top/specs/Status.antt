-- The status that the program ends with, this project's own.
use Rattle.std.specs.Prelude.{ℕ}
use Rattle.kc_top.specs.declared.status.Status.{Status}
use Rattle.kc_top.specs.declared.status.Status.TheVariants.{Done, Refused, Usage, BadImage, BadConfig, BadCert}
use Rattle.kc_top.specs.declared.status.Status.TheVariants.{BadTrace, ReadFault, WriteFault, NoMemory, TooLarge}

-- the number of each status
abbrev pub code_of : Status → ℕ
code_of Done = 0
code_of Refused = 1
code_of Usage = 2
code_of BadImage = 3
code_of BadConfig = 4
code_of BadCert = 5
code_of BadTrace = 6
code_of ReadFault = 7
code_of WriteFault = 8
code_of NoMemory = 9
code_of TooLarge = 10
