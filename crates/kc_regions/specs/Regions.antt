-- Lists of regions: none is empty, and no address lies in two. This project's own.
use Rattle.std.specs.Prelude.{ℕ, ◌<◌, ◌≤◌, List, length, All}
use Rattle.kc_words.specs.Span.{Holds, Meets}
use Rattle.kc_regions.specs.declared.regions.TheConstants.{MAX_REGIONS}
use Rattle.kc_regions.specs.declared.region.Region.{Region}
use Rattle.kc_regions.specs.declared.regions.RegionFault.{RegionFault}
use Rattle.kc_regions.specs.declared.regions.RegionFault.TheVariants.{Meet, Empty, TooMany}
use Rattle.kc_regions.specs.Each.{Each, IsFirstBreaking}

-- some address lies in the region
abbrev pub HasByte : List Region → Region → Type 0
HasByte earlier r = (a : ℕ) × Holds r.span a

-- no address of the region lies in an earlier one
abbrev pub MeetsNone : List Region → Region → Type 0
MeetsNone earlier r = All (λ e. ¬ Meets e.span r.span) earlier

pub record AreRegions (regions : List Region) : Type 0 where
  pub few : length regions ≤ MAX_REGIONS
  pub filled : Each HasByte regions
  pub apart : Each MeetsNone regions

-- The first rule that the list breaks: too many regions, then one without an address, then one that meets an earlier
-- one.
abbrev pub IsFirstRegionFault : List Region → RegionFault → Type 0
IsFirstRegionFault regions TooMany = MAX_REGIONS < length regions
IsFirstRegionFault regions (Empty i) = (length regions ≤ MAX_REGIONS) × IsFirstBreaking HasByte regions i
IsFirstRegionFault regions (Meet i) =
    (length regions ≤ MAX_REGIONS) × Each HasByte regions × IsFirstBreaking MeetsNone regions i
