-- What an access may touch under a CR3, and the selectors of user code. This project's own, but for the selectors,
-- which are those of SDM vol. 2B, "SYSRET".
use Rattle.std.specs.Prelude.{ℕ, ◌+◌, Bool, true, false, ◌&&◌, ◌||◌, not, nat_eq, List, Option, Some, None, bit_or}
use Rattle.kc_regions.specs.declared.region.Region.{Region}
use Rattle.kc_regions.specs.declared.cpu.CpuSetup.{CpuSetup}
use Rattle.kc_regions.specs.declared.touch.Touch.{Touch}
use Rattle.kc_regions.specs.declared.touch.Touch.TheVariants.{Fetch, Read, Write}
use Rattle.kc_regions.specs.Description.{Description}
use Rattle.kc_regions.specs.Region.{is_guard, region_of}

-- there is a region, and it passes the test
abbrev pub passes : (Region → Bool) → Option Region → Bool
passes test None = false
passes test (Some r) = test r

-- address a lies in a guard
abbrev pub in_guard : List Region → ℕ → Bool
in_guard regions a = passes (λ r. is_guard r.kind) (region_of regions a)

-- Under the kernel's CR3 every region is present but guards; under the user's those of the user's map.
abbrev pub is_present : CpuSetup → ℕ → Region → Bool
is_present cpu cr3 r = not (is_guard r.kind) && (nat_eq cr3 cpu.kernel_cr3 || (nat_eq cr3 cpu.user_cr3 && r.user_map))

-- the region has the right that the access needs; a present region may be read
abbrev pub has_right : Touch → Region → Bool
has_right Fetch r = r.exec
has_right Read r = true
has_right Write r = r.write

-- address a lies in a region that is present under this CR3 and has the right
abbrev pub permits : Description → ℕ → Touch → ℕ → Bool
permits d cr3 touch a = passes (λ r. is_present d.cpu cr3 r && has_right touch r) (region_of d.regions a)

-- the CS that SYSRET gives 64-bit user code, and the SS of user code
abbrev pub user_cs64 : CpuSetup → ℕ
user_cs64 cpu = bit_or (cpu.star_user + 16) 3

abbrev pub user_ss : CpuSetup → ℕ
user_ss cpu = bit_or (cpu.star_user + 8) 3

abbrev pub is_cs32 : Option ℕ → ℕ → Bool
is_cs32 None cs = false
is_cs32 (Some cs32) cs = nat_eq cs cs32

-- the CS values of user code
abbrev pub is_user_cs : CpuSetup → ℕ → Bool
is_user_cs cpu cs = nat_eq cs (user_cs64 cpu) || is_cs32 cpu.user_cs32 cs
