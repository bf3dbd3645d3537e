-- The lines that the program prints, this project's own. Each ends with one byte 0A.
use Rattle.std.specs.Prelude.{ℕ, List, ◌++◌, codes, decimal}
use Rattle.hex.specs.Hex.{encode_lower}
use Rattle.kc_image.specs.declared.fault.ImageFault.{ImageFault}
use Rattle.kc_image.specs.declared.fault.ImageKind.{ImageKind}
use Rattle.kc_image.specs.declared.fault.ImageKind.TheVariants.{BadMagic, BadClass, BadType, BadMachine, HeaderOut}
use Rattle.kc_image.specs.declared.fault.ImageKind.TheVariants.{SegmentOut, SegmentsMeet, SymbolOut}
use Rattle.kc_image.specs.declared.fault.ImageKind.TheVariants.{NoMemory as NoImageMemory}
use Rattle.kc_config.specs.declared.fault.ConfigFault.{ConfigFault}
use Rattle.kc_config.specs.declared.fault.ConfigFault.TheVariants.{Syntax, Missing, WrongKind, OutOfRange, UnknownKey}
use Rattle.kc_config.specs.declared.fault.ConfigFault.TheVariants.{NoSymbol, Regions, GuardMissing}
use Rattle.kc_config.specs.declared.fault.ConfigFault.TheVariants.{NoMemory as NoConfigMemory}
use Rattle.kc_certfields.specs.declared.fault.CertFault.{CertFault}
use Rattle.kc_certfields.specs.declared.fault.CertKind.{CertKind}
use Rattle.kc_certfields.specs.declared.fault.CertKind.TheVariants as cert
use Rattle.kc_trace.specs.declared.fault.TraceFault.{TraceFault}
use Rattle.kc_trace.specs.declared.fault.TraceFault.TheVariants.{BadLine, BadNumber, NotAdmitted}
use Rattle.kc_trace.specs.declared.fault.TraceFault.TheVariants.{NoMemory as NoTraceMemory}

abbrev pub usage_line : List ℕ
usage_line =
    codes
    "usage: entrycert check IMAGE CONFIG CERT, find IMAGE CONFIG, explain IMAGE CONFIG [CERT], replay IMAGE CONFIG TRACE, gen SEED SIZE, upgrade CERT\n"

abbrev pub read_fault_line : List ℕ → List ℕ
read_fault_line name = codes "read fault " ++ name ++ codes "\n"

abbrev pub too_large_line : List ℕ → List ℕ
too_large_line name = codes "too large " ++ name ++ codes "\n"

-- the number and the name of a kind of fault in an image; the last one is said of no file
abbrev pub image_kind : ImageKind → List ℕ
image_kind BadMagic = codes "1 BadMagic"
image_kind BadClass = codes "2 BadClass"
image_kind BadType = codes "3 BadType"
image_kind BadMachine = codes "4 BadMachine"
image_kind HeaderOut = codes "5 HeaderOut"
image_kind SegmentOut = codes "6 SegmentOut"
image_kind SegmentsMeet = codes "7 SegmentsMeet"
image_kind SymbolOut = codes "8 SymbolOut"
image_kind NoImageMemory = codes "9 NoMemory"

abbrev pub bad_image_line : ImageFault → List ℕ
bad_image_line fault = codes "bad image " ++ image_kind fault.kind ++ codes " at " ++ decimal fault.at ++ codes "\n"

-- the number and the name of a kind of fault in a description; the last one is said of no text
abbrev pub config_kind : ConfigFault → List ℕ
config_kind Syntax = codes "1 Syntax"
config_kind (Missing path) = codes "2 Missing"
config_kind (WrongKind path) = codes "3 WrongKind"
config_kind (OutOfRange path) = codes "4 OutOfRange"
config_kind (UnknownKey path) = codes "5 UnknownKey"
config_kind (NoSymbol path) = codes "6 NoSymbol"
config_kind (Regions path) = codes "7 Regions"
config_kind (GuardMissing path) = codes "8 GuardMissing"
config_kind NoConfigMemory = codes "9 NoMemory"

-- the path of the key at fault, `-` where there is none
abbrev pub config_path : ConfigFault → List ℕ
config_path Syntax = codes "-"
config_path (Missing path) = path
config_path (WrongKind path) = path
config_path (OutOfRange path) = path
config_path (UnknownKey path) = path
config_path (NoSymbol path) = path
config_path (Regions path) = path
config_path (GuardMissing path) = path
config_path NoConfigMemory = codes "-"

abbrev pub bad_config_line : ConfigFault → List ℕ
bad_config_line fault =
    codes "bad config " ++ config_kind fault ++ codes " " ++ config_path fault ++ codes "\n"

-- the number and the name of a kind of fault in a certificate; the last one is said of no file
abbrev pub cert_kind : CertKind → List ℕ
cert_kind cert.BadMagic = codes "1 BadMagic"
cert_kind cert.Version = codes "2 Version"
cert_kind cert.Short = codes "3 Short"
cert_kind cert.Trailing = codes "4 Trailing"
cert_kind cert.Order = codes "5 Order"
cert_kind cert.Range = codes "6 Range"
cert_kind cert.TooMany = codes "7 TooMany"
cert_kind cert.NoMemory = codes "8 NoMemory"

abbrev pub bad_cert_line : CertFault → List ℕ
bad_cert_line fault =
    codes "bad certificate " ++ cert_kind fault.kind ++ codes " at " ++ decimal fault.at ++ codes "\n"

-- the number and the name of a kind of fault in a trace; the last one is said of no text
abbrev pub trace_kind : TraceFault → List ℕ
trace_kind (BadLine n) = codes "1 BadLine"
trace_kind (BadNumber n) = codes "2 BadNumber"
trace_kind (NotAdmitted n) = codes "3 NotAdmitted"
trace_kind NoTraceMemory = codes "4 NoMemory"

-- the number of the line at fault
abbrev pub fault_line : TraceFault → ℕ
fault_line (BadLine n) = n
fault_line (BadNumber n) = n
fault_line (NotAdmitted n) = n
fault_line NoTraceMemory = 0

abbrev pub bad_trace_line : TraceFault → List ℕ
bad_trace_line fault = codes "bad trace " ++ trace_kind fault ++ codes " line " ++ decimal (fault_line fault) ++ codes "\n"

-- ---- what is said of a certificate

abbrev pub accepted_line : ℕ → ℕ → List ℕ
accepted_line contexts nodes =
    codes "accepted contexts=" ++ decimal contexts ++ codes " nodes=" ++ decimal nodes ++ codes "\n"

-- no table was found within the limits on contexts and nodes
abbrev pub limits_line : List ℕ
limits_line = codes "refused limits\n"

-- of so many contexts and nodes that were found for an input that was made, and the SHA-256 of their bytes
abbrev pub summary_line : ℕ → ℕ → ℕ → ℕ → List ℕ → List ℕ
summary_line seed size contexts nodes digest =
    codes "gen seed=" ++ decimal seed ++ codes " size=" ++ decimal size ++ codes " contexts=" ++ decimal contexts
    ++ codes " nodes=" ++ decimal nodes ++ codes " digest=" ++ encode_lower digest ++ codes "\n"
