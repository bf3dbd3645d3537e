-- What a description's text says, and the first fault by the order of reading: this project's own.
use Rattle.std.specs.Prelude.{◌≡◌, codes, ℕ, ◌⊎◌, ◌==◌, List, [], ◌∷◌, ◌++◌, length, ok_or, Result, Ok, Err, if◌then◌else◌}
use Rattle.std.specs.Str.{is_utf8}
use Rattle.toml.specs.Data.{Members}
use Rattle.toml.specs.Parse.{parse_document}
use Rattle.kc_rules.specs.Rules.{over, ◌>>=◌}
use Rattle.kc_regions.specs.Description.{Description}
use Rattle.kc_regions.specs.Regions.{AreRegions, IsFirstRegionFault}
use Rattle.kc_regions.specs.CrossRules.{IsFirstCrossFault}
use Rattle.kc_regions.specs.declared.regions.RegionFault.{RegionFault}
use Rattle.kc_regions.specs.declared.regions.RegionFault.TheVariants.{Meet, Empty, TooMany}
use Rattle.kc_regions.specs.declared.config.CrossFault.{CrossFault}
use Rattle.kc_config.specs.declared.fault.ConfigFault.{ConfigFault}
use Rattle.kc_config.specs.declared.fault.ConfigFault.TheVariants.{Syntax, Missing, OutOfRange, Regions, GuardMissing}
use Rattle.kc_config.specs.declared.path.Place.{Place}
use Rattle.kc_config.specs.declared.path.Place.TheVariants.{AtTop, InCpu, InRegion, InGate, InHandler, InWord}
use Rattle.kc_config.specs.Paths.{path, region_path, gate_path}
use Rattle.kc_config.specs.Keys.{Section}
use Rattle.kc_config.specs.Tables.{top, cpu, region, gate, handler, tracked_word}

-- the table that the text is as a TOML document
abbrev pub document : List ℕ → Result Members ConfigFault
document text = if is_utf8 text then ok_or (parse_document text) Syntax else Err Syntax

abbrev pub section : List (List ℕ × ℕ) → Place → Members → Section
section symbols place members = record { place = place; members = members; symbols = symbols }

-- a table adds what it describes; its index is the number of those before it
abbrev pub add_table : {A : Type 0} → (Section → Result A ConfigFault) → (ℕ → Place) → List (List ℕ × ℕ) → List A
    → Members → Result (List A) ConfigFault
add_table read place symbols earlier members = do
  x ← read (section symbols (place (length earlier)) members)
  Ok (earlier ++ x ∷ [])

-- an array's tables in their order
abbrev pub each : {A : Type 0} → (Section → Result A ConfigFault) → (ℕ → Place) → List (List ℕ × ℕ) → List Members
    → Result (List A) ConfigFault
each read place symbols tables = over (add_table read place symbols) [] tables

-- what the tables describe: the top, then the processor, then each region, gate, handler and word
unfoldable pub description : List (List ℕ × ℕ) → List ℕ → Result Description ConfigFault
description symbols text = do
  members ← document text
  found ← top (section symbols AtTop members)
  setup ← cpu (section symbols InCpu found.cpu)
  regions ← each region InRegion symbols found.regions
  gates ← each gate InGate symbols found.gates
  handlers ← each handler InHandler symbols found.handlers
  words ← each tracked_word InWord symbols found.words
  Ok (record { cpu = setup; regions = regions; gates = gates; handlers = handlers; words = words })

-- the fault of a list of regions, at the region that breaks its rule
abbrev pub region_fault : RegionFault → ConfigFault
region_fault (Meet i) = Regions (region_path i)
region_fault (Empty i) = Regions (region_path i)
region_fault TooMany = Regions (region_path 0)

-- The fault of a rule between the tables, by its number: 2 the sides of the address space, 3 the stacks, 4 the guards,
-- 5 the CR3 values, 6 the TSS, 7 the vectors, 8 the needed gates, 9 the handlers' entries, 10 the words.
unfoldable pub cross_fault : CrossFault → ConfigFault
cross_fault f =
    if f.rule == 2 then OutOfRange (path (InRegion f.index) (codes "at"))
    else if f.rule == 3 then OutOfRange (path (InRegion f.index) (codes "size"))
    else if f.rule == 4 then GuardMissing (region_path f.index)
    else if f.rule == 5 then OutOfRange (path InCpu (codes "user_cr3"))
    else if f.rule == 6 then OutOfRange (path InCpu (codes "tss"))
    else if f.rule == 7 then OutOfRange (path (InGate f.index) (codes "vector"))
    else if f.rule == 8 then Missing (gate_path f.index)
    else if f.rule == 9 then OutOfRange (path (InHandler f.index) (codes "entry"))
    else OutOfRange (path (InWord f.index) (codes "at"))

-- The fault of rules between the tables, first of those on the list of regions.
abbrev pub IsRuleFault : Description → ConfigFault → Type 0
IsRuleFault d fault =
    ((f : RegionFault) × IsFirstRegionFault d.regions f × (fault ≡ region_fault f))
    ⊎ (AreRegions d.regions × ((f : CrossFault) × IsFirstCrossFault d f × (fault ≡ cross_fault f)))

-- the first fault: one of the tables, or of the rules between them
abbrev pub IsFirstFault : List (List ℕ × ℕ) → List ℕ → ConfigFault → Type 0
IsFirstFault symbols text fault =
    (description symbols text ≡ Err fault)
    ⊎ ((d : Description) × (description symbols text ≡ Ok d) × IsRuleFault d fault)
