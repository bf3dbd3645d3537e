-- The line of a refusal, this project's own. It ends with one byte 0A.
use Rattle.std.specs.Prelude.{ℕ, ◌-◌, List, [], ◌++◌, length, replicate, false, codes, decimal, ◌==◌, if◌then◌else◌}
use Rattle.std.specs.Prelude.{Option, Some, None}
use Rattle.std.specs.Fmt.{digits}
use Rattle.kc_regions.specs.Description.{Description}
use Rattle.kc_regions.specs.Lookup.{gate_of}
use Rattle.kc_state.specs.AbsEvents.{debug, nmi, page_fault, machine_check, is_gate}
use Rattle.kc_state.specs.declared.site.Site.{Site}
use Rattle.kc_cert.specs.Placed.{is_maskable}
use Rattle.kc_cert.specs.declared.refusal.Event.{Event}
use Rattle.kc_cert.specs.declared.refusal.Event.TheVariants.{Vector, Syscall}
use Rattle.kc_cert.specs.declared.refusal.Refusal.{Refusal}
use Rattle.kc_cert.specs.declared.refusal.Spot.{Spot}
use Rattle.kc_cert.specs.declared.refusal.Spot.TheVariants as spot

-- `0x` and sixteen hexadecimal digits in lower case
abbrev pub address_text : ℕ → List ℕ
address_text a = codes "0x" ++ replicate (16 - length (digits 16 false a)) 48 ++ digits 16 false a

-- the event of a vector: a device's interrupt where the gate is for one, and else an exception or an INT of user code
abbrev pub vector_text : Description → ℕ → List ℕ
vector_text d v =
    if v == nmi then codes "nmi"
    else if v == debug then codes "debug"
    else if v == machine_check then codes "check"
    else if v == page_fault then codes "fault"
    else if is_gate is_maskable (gate_of d.gates v) then codes "irq " ++ decimal v
    else codes "trap " ++ decimal v

abbrev pub event_text : Description → Event → List ℕ
event_text d (Vector v) = vector_text d v
event_text d Syscall = codes "syscall"

-- the site of a node: an instruction, or the body of the handler that is called there
abbrev pub site_text : Site → List ℕ
site_text site = address_text site.at ++ (if site.inside then codes " body" else [])

-- where a condition fails; of the table as a whole nothing is said
abbrev pub spot_text : Spot → List ℕ
spot_text spot.Table = []
spot_text spot.User = codes " user"
spot_text (spot.Context i) = codes " context " ++ decimal i
spot_text (spot.Node i site) = codes " context " ++ decimal i ++ codes " at " ++ site_text site

-- at which event it fails, where it does at one
abbrev pub at_event_text : Description → Option Event → List ℕ
at_event_text d (Some event) = codes " event " ++ event_text d event
at_event_text d None = []

abbrev pub refused_line : Description → Refusal → List ℕ
refused_line d r =
    codes "refused C" ++ decimal r.condition.0 ++ spot_text r.spot ++ at_event_text d r.event ++ codes "\n"
