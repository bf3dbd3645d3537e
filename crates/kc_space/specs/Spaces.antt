-- Whose GS bases and whose CR3 are at work, this project's own: flat orders under Any, and what each stands for.
use Rattle.std.specs.Prelude.{◌≡◌, ℕ, ◌+◌, ◌*◌, Bool, true, false, ◌&&◌}
use Rattle.kc_shapes.specs.Flat.{flat_below, flat_joined, flat_rank}
use Rattle.kc_space.specs.declared.env.SpaceEnv.{SpaceEnv}
use Rattle.kc_space.specs.declared.gs.GsPair.{GsPair}
use Rattle.kc_space.specs.declared.map.MapState.{MapState}
use Rattle.kc_space.specs.declared.map.MapState.TheVariants.{Kernel as KernelMap, User as UserMap, Any as AnyMap}
use Rattle.kc_space.specs.declared.who.Who.{Who}
use Rattle.kc_space.specs.declared.who.Who.TheVariants.{Kernel, User, Any}

-- ---- a GS base

abbrev pub is_same_who : Who → Who → Bool
is_same_who Kernel Kernel = true
is_same_who User User = true
is_same_who Any Any = true
is_same_who _ _ = false

abbrev pub who_below : Who → Who → Bool
who_below lesser greater = flat_below is_same_who Any lesser greater

abbrev pub who_joined : Who → Who → Who
who_joined x y = flat_joined is_same_who Any x y

abbrev pub who_rank : Who → ℕ
who_rank x = flat_rank is_same_who Any x

-- its number in a certificate
abbrev pub who_number : Who → ℕ
who_number Kernel = 0
who_number User = 1
who_number Any = 2

-- n is whose base it says
abbrev pub WhoStands : Who → SpaceEnv → ℕ → Type 0
WhoStands Kernel env n = n ≡ env.kernel
WhoStands User env n = n ≡ env.user
WhoStands Any env n = Unit {0}

-- ---- CR3

abbrev pub is_same_map : MapState → MapState → Bool
is_same_map KernelMap KernelMap = true
is_same_map UserMap UserMap = true
is_same_map AnyMap AnyMap = true
is_same_map _ _ = false

abbrev pub map_below : MapState → MapState → Bool
map_below lesser greater = flat_below is_same_map AnyMap lesser greater

abbrev pub map_joined : MapState → MapState → MapState
map_joined x y = flat_joined is_same_map AnyMap x y

abbrev pub map_rank : MapState → ℕ
map_rank x = flat_rank is_same_map AnyMap x

abbrev pub map_number : MapState → ℕ
map_number KernelMap = 0
map_number UserMap = 1
map_number AnyMap = 2

-- n is the CR3 that it says
abbrev pub MapStands : MapState → SpaceEnv → ℕ → Type 0
MapStands KernelMap env n = n ≡ env.kernel
MapStands UserMap env n = n ≡ env.user
MapStands AnyMap env n = Unit {0}

-- ---- both GS bases, part by part

abbrev pub gs_below : GsPair → GsPair → Bool
gs_below lesser greater = who_below lesser.active greater.active && who_below lesser.inactive greater.inactive

abbrev pub gs_joined : GsPair → GsPair → GsPair
gs_joined x y = record { active = who_joined x.active y.active; inactive = who_joined x.inactive y.inactive }

abbrev pub gs_top : GsPair
gs_top = record { active = Any; inactive = Any }

abbrev pub gs_rank : GsPair → ℕ
gs_rank x = who_rank x.active + who_rank x.inactive

abbrev pub gs_number : GsPair → ℕ
gs_number x = who_number x.active + 3 * who_number x.inactive
