-- The first fault of a trace by line is what reading its lines gives.
use Rattle.std.proofs.Common.{◌≡◌, ◌≢◌, ℕ, ◌⊎◌, inl, inr, List, Err, refl, subst}
use Rattle.kc_regions.specs.Description.{Description}
use Rattle.kc_trace.specs.declared.fault.TraceFault.{TraceFault}
use Rattle.kc_trace.specs.declared.fault.TraceFault.TheVariants.{BadLine, BadNumber, NotAdmitted, NoMemory}
use Rattle.kc_trace.specs.Faults.{no_trace_memory}
use Rattle.kc_trace.specs.Script.{scripted}
use Rattle.kc_replay.specs.Script.{Reads}

-- it is another fault than want of memory
abbrev IsSaid : TraceFault → Type 0
IsSaid NoMemory = ⊥
IsSaid _ = Unit {0}

due : (text : List ℕ) (fault : TraceFault) → IsSaid fault → (fault ≡ no_trace_memory) ⊎ (scripted text ≡ Err fault)
    → scripted text ≡ Err fault
due text fault said (inl none) = absurd (subst IsSaid none said)
due text fault said (inr is) = is

pub read_fault : (cfg : Description) (text : List ℕ) (fault : TraceFault) → ((n : ℕ) → fault ≢ NotAdmitted n)
    → (fault ≡ no_trace_memory) ⊎ (scripted text ≡ Err fault) → Reads cfg text (Err fault)
read_fault cfg text (BadLine n) other is = due text (BadLine n) tt is
read_fault cfg text (BadNumber n) other is = due text (BadNumber n) tt is
read_fault cfg text (NotAdmitted n) other is = absurd (other n refl)
read_fault cfg text NoMemory other is = tt
