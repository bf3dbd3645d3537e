-- Reading floors of stacks, this project's own.
use Rattle.std.specs.Prelude.{ℕ, ◌-◌, ◌==◌, if◌then◌else◌, List, [], ◌∷◌, ◌++◌, replicate, Ok, Err}
use Rattle.kc_rules.specs.Rules.{◌>>=◌}
use Rattle.kc_frames.specs.Floors.{none_live}
use Rattle.kc_frames.specs.declared.floor.Floor.{Floor}
use Rattle.kc_frames.specs.declared.floor.Floor.TheVariants.{At, Base}
use Rattle.kc_frames.specs.declared.floors.Floors.{Floors}
use Rattle.kc_certfields.specs.Fault.{fault}
use Rattle.kc_certfields.specs.declared.fault.CertKind.TheVariants.{Range}
use Rattle.kc_certfields.specs.Rest.{Rest}
use Rattle.kc_certfields.specs.Reads.{Reading, times}
use Rattle.kc_certfields.specs.Numbers.{u8_at, u64_at}

unfoldable pub address_at : Reading Floor
address_at i = do
  a ← u64_at i
  Ok (At a.0, a.1)

-- what follows the tag, which is at this offset
abbrev pub floor_after : ℕ → ℕ → Reading Floor
floor_after at tag j =
    if tag == 0 then address_at j else
    if tag == 1 then Ok (Base, j) else Err (fault Range at)

unfoldable pub floor_at : Reading Floor
floor_at i = do
  tag ← u8_at i
  floor_after i.at tag.0 tag.1

-- a floor more
abbrev pub next_floor : List Floor → Reading (List Floor)
next_floor fs i = do
  f ← floor_at i
  Ok (fs ++ f.0 ∷ [], f.1)

-- a floor for each stack; where there is no stack, no byte is live
unfoldable pub floors_at : ℕ → Reading Floors
floors_at stacks i = do
  fs ← times next_floor stacks [] i
  Ok (record { at = fs.0 ++ replicate (16 - stacks) (At none_live) }, fs.1)
