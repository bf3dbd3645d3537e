-- Reading what is known of latches, GS bases and CR3, this project's own.
use Rattle.std.specs.Prelude.{ℕ, ◌/◌, ◌%◌, ◌==◌, nat_lt, if◌then◌else◌, Option, Some, None, Ok}
use Rattle.kc_rules.specs.Rules.{◌>>=◌}
use Rattle.kc_space.specs.declared.gs.GsPair.{GsPair}
use Rattle.kc_space.specs.declared.latches.Latches.{Latches}
use Rattle.kc_space.specs.declared.map.MapState.{MapState}
use Rattle.kc_space.specs.declared.map.MapState.TheVariants as map
use Rattle.kc_space.specs.declared.tri.Tri.{Tri}
use Rattle.kc_space.specs.declared.tri.Tri.TheVariants as tri
use Rattle.kc_space.specs.declared.who.Who.{Who}
use Rattle.kc_space.specs.declared.who.Who.TheVariants as who
use Rattle.kc_certfields.specs.Reads.{Reading, one_of}
use Rattle.kc_certfields.specs.Numbers.{u8_at}

abbrev pub tri_of : ℕ → Option Tri
tri_of n = if n == 0 then Some tri.No else if n == 1 then Some tri.Yes else if n == 2 then Some tri.Any else None

abbrev pub map_of : ℕ → Option MapState
map_of n =
    if n == 0 then Some map.Kernel else if n == 1 then Some map.User else if n == 2 then Some map.Any else None

-- of a number below 3
abbrev pub who_of : ℕ → Who
who_of n = if n == 0 then who.Kernel else if n == 1 then who.User else who.Any

-- the active one, and three times the inactive one
abbrev pub gs_of : ℕ → Option GsPair
gs_of n = if nat_lt n 9 then Some (record { active = who_of (n % 3); inactive = who_of (n / 3) }) else None

unfoldable pub tri_at : Reading Tri
tri_at i = do
  n ← u8_at i
  t ← one_of (tri_of n.0) i.at
  Ok (t, n.1)

unfoldable pub map_at : Reading MapState
map_at i = do
  n ← u8_at i
  m ← one_of (map_of n.0) i.at
  Ok (m, n.1)

unfoldable pub gs_at : Reading GsPair
gs_at i = do
  n ← u8_at i
  g ← one_of (gs_of n.0) i.at
  Ok (g, n.1)

unfoldable pub latches_at : Reading Latches
latches_at i = do
  nmi ← tri_at i
  shadow ← tri_at nmi.1
  mcip ← tri_at shadow.1
  Ok (record { nmi_blocked = nmi.0; shadow = shadow.0; mcip = mcip.0 }, mcip.1)
