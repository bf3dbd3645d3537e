-- The laws of latches as domains: the `Domain` and the `Meaning` of `Tri` and `Latches` cite these.
use Rattle.std.proofs.Common.{◌≡◌, ◌≤◌, Bool, true, refl, arith}
use Rattle.std.proofs.lemmas.Bool.{false≢true}
use Rattle.kc_lattice.specs.Laws.{Laws, AllAlike}
use Rattle.kc_lattice.specs.PairLaws.{both_laws}
use Rattle.kc_lattice.specs.declared.both.Both.{Both}
use Rattle.kc_shapes.specs.Flat.{AllValid}
use Rattle.kc_shapes.specs.FlatLaws.{flat_laws, flat_grows, flat_rank-le}
use Rattle.kc_shapes.specs.ShapeLaws.{reshaped_laws}
use Rattle.kc_space.specs.Latches.{is_same_tri, tri_below, tri_joined, tri_rank, TriStands, latches_below, latches_joined, latches_top, latches_rank}
use Rattle.kc_space.specs.declared.latches.Latches.{Latches}
use Rattle.kc_space.specs.declared.tri.Tri.{Tri}
use Rattle.kc_space.specs.declared.tri.Tri.TheVariants.{No, Yes, Any}

same_tri : (x y : Tri) → is_same_tri x y ≡ true → x ≡ y
same_tri No No h = refl
same_tri No Yes h = absurd (false≢true h)
same_tri No Any h = absurd (false≢true h)
same_tri Yes No h = absurd (false≢true h)
same_tri Yes Yes h = refl
same_tri Yes Any h = absurd (false≢true h)
same_tri Any No h = absurd (false≢true h)
same_tri Any Yes h = absurd (false≢true h)
same_tri Any Any h = refl

same_tri-refl : (x : Tri) → is_same_tri x x ≡ true
same_tri-refl No = refl
same_tri-refl Yes = refl
same_tri-refl Any = refl

pub tri_laws : Laws AllValid AllAlike tri_below tri_joined (λ x. Any) tri_rank
tri_laws = flat_laws is_same_tri Any same_tri same_tri-refl

pub tri_grows : (x y : Tri) (set : Bool) → tri_below x y ≡ true → TriStands x set → TriStands y set
tri_grows x y set h k = flat_grows is_same_tri Any same_tri same_tri-refl TriStands (λ s. tt) x y set h k

pub tri_rank-le : (x : Tri) → tri_rank x ≤ 1
tri_rank-le x = flat_rank-le is_same_tri Any same_tri same_tri-refl x

-- the latches as pairs of their parts
abbrev parts : Latches → Both Tri (Both Tri Tri)
parts x = record { first = x.nmi_blocked; second = record { first = x.shadow; second = x.mcip } }

abbrev of_parts : Both Tri (Both Tri Tri) → Latches
of_parts b = record { nmi_blocked = b.first; shadow = b.second.first; mcip = b.second.second }

pub latches_laws : Laws AllValid AllAlike latches_below latches_joined (λ x. latches_top) latches_rank
latches_laws =
    reshaped_laws (both_laws tri_laws (both_laws tri_laws tri_laws)) parts of_parts (λ x. refl) (λ y. refl) AllValid
    (λ x h. (tt, (tt, tt))) (λ y h. tt) (λ x y hx hy. (tt, (tt, tt)))

pub latches_rank-le : (x : Latches) → latches_rank x ≤ 3
latches_rank-le x = omega (arith, tri_rank-le x.nmi_blocked, tri_rank-le x.shadow, tri_rank-le x.mcip)
