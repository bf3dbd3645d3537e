-- The laws of spaces as domains: the `Domain` and the `Meaning` of `Who`, `MapState` and `GsPair` cite these.
use Rattle.std.proofs.Common.{◌≡◌, ℕ, ◌≤◌, true, refl, arith}
use Rattle.std.proofs.lemmas.Bool.{false≢true}
use Rattle.kc_lattice.specs.Laws.{Laws, AllAlike}
use Rattle.kc_lattice.specs.PairLaws.{both_laws}
use Rattle.kc_lattice.specs.declared.both.Both.{Both}
use Rattle.kc_shapes.specs.Flat.{AllValid}
use Rattle.kc_shapes.specs.FlatLaws.{flat_laws, flat_grows, flat_rank-le}
use Rattle.kc_shapes.specs.ShapeLaws.{reshaped_laws}
use Rattle.kc_space.specs.Spaces.{is_same_who, who_below, who_joined, who_rank, WhoStands, is_same_map, map_below, map_joined, map_rank, MapStands, gs_below, gs_joined, gs_top, gs_rank}
use Rattle.kc_space.specs.declared.env.SpaceEnv.{SpaceEnv}
use Rattle.kc_space.specs.declared.gs.GsPair.{GsPair}
use Rattle.kc_space.specs.declared.map.MapState.{MapState}
use Rattle.kc_space.specs.declared.map.MapState.TheVariants.{Kernel as KernelMap, User as UserMap, Any as AnyMap}
use Rattle.kc_space.specs.declared.who.Who.{Who}
use Rattle.kc_space.specs.declared.who.Who.TheVariants.{Kernel, User, Any}

same_who : (x y : Who) → is_same_who x y ≡ true → x ≡ y
same_who Kernel Kernel h = refl
same_who Kernel User h = absurd (false≢true h)
same_who Kernel Any h = absurd (false≢true h)
same_who User Kernel h = absurd (false≢true h)
same_who User User h = refl
same_who User Any h = absurd (false≢true h)
same_who Any Kernel h = absurd (false≢true h)
same_who Any User h = absurd (false≢true h)
same_who Any Any h = refl

same_who-refl : (x : Who) → is_same_who x x ≡ true
same_who-refl Kernel = refl
same_who-refl User = refl
same_who-refl Any = refl

pub who_laws : Laws AllValid AllAlike who_below who_joined (λ x. Any) who_rank
who_laws = flat_laws is_same_who Any same_who same_who-refl

pub who_grows : (x y : Who) (env : SpaceEnv) (n : ℕ) → who_below x y ≡ true → WhoStands x env n → WhoStands y env n
who_grows x y env n h k =
    flat_grows is_same_who Any same_who same_who-refl (λ (z : Who) (m : ℕ). WhoStands z env m) (λ m. tt) x y n h k

pub who_rank-le : (x : Who) → who_rank x ≤ 1
who_rank-le x = flat_rank-le is_same_who Any same_who same_who-refl x

same_map : (x y : MapState) → is_same_map x y ≡ true → x ≡ y
same_map KernelMap KernelMap h = refl
same_map KernelMap UserMap h = absurd (false≢true h)
same_map KernelMap AnyMap h = absurd (false≢true h)
same_map UserMap KernelMap h = absurd (false≢true h)
same_map UserMap UserMap h = refl
same_map UserMap AnyMap h = absurd (false≢true h)
same_map AnyMap KernelMap h = absurd (false≢true h)
same_map AnyMap UserMap h = absurd (false≢true h)
same_map AnyMap AnyMap h = refl

same_map-refl : (x : MapState) → is_same_map x x ≡ true
same_map-refl KernelMap = refl
same_map-refl UserMap = refl
same_map-refl AnyMap = refl

pub map_laws : Laws AllValid AllAlike map_below map_joined (λ x. AnyMap) map_rank
map_laws = flat_laws is_same_map AnyMap same_map same_map-refl

pub map_grows : (x y : MapState) (env : SpaceEnv) (n : ℕ) → map_below x y ≡ true → MapStands x env n → MapStands y env n
map_grows x y env n h k = flat_grows is_same_map AnyMap same_map same_map-refl
    (λ (z : MapState) (m : ℕ). MapStands z env m) (λ m. tt) x y n h k

pub map_rank-le : (x : MapState) → map_rank x ≤ 1
map_rank-le x = flat_rank-le is_same_map AnyMap same_map same_map-refl x

-- the pair as a pair of its parts
abbrev parts : GsPair → Both Who Who
parts p = record { first = p.active; second = p.inactive }

abbrev of_parts : Both Who Who → GsPair
of_parts b = record { active = b.first; inactive = b.second }

pub gs_laws : Laws AllValid AllAlike gs_below gs_joined (λ x. gs_top) gs_rank
gs_laws = reshaped_laws (both_laws who_laws who_laws) parts of_parts (λ x. refl) (λ y. refl) AllValid (λ x h. (tt, tt))
    (λ y h. tt) (λ x y hx hy. (tt, tt))

pub gs_rank-le : (x : GsPair) → gs_rank x ≤ 2
gs_rank-le x = omega (arith, who_rank-le x.active, who_rank-le x.inactive)
