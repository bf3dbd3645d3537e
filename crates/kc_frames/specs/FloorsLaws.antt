-- The laws of floors: the `Domain` and the `Meaning` of `Floor` and `Floors` cite these.
use Rattle.std.proofs.Common.{◌≡◌, ℕ, ◌-◌, ◌*◌, ◌^◌, ◌≤◌, Bool, true, cond, Option, Some, None, List, refl, sym, ap, ◌∙◌, subst, inl, inr, ◌⊎◌, arith, lit<}
use Rattle.std.proofs.lemmas.Bool.{cases_eq, eq-eqb, ne_eqb, eqb-true, leb-true, le-leb}
use Rattle.kc_lattice.specs.Laws.{Laws, AllAlike}
use Rattle.kc_shapes.specs.RowLaws.{counted_laws, rows_rank-le, all_alike_rows}
use Rattle.kc_shapes.specs.ShapeLaws.{reshaped_laws}
use Rattle.kc_frames.specs.Floors.{IsFloor, none_live, floor_below, beside_base, floor_joined, floor_top, floor_rank, FloorStands, AreFloors, floors_below, floors_joined, floors_top, floors_rank}
use Rattle.kc_frames.specs.declared.floor.Floor.{Floor}
use Rattle.kc_frames.specs.declared.floor.Floor.TheVariants.{At, Base}
use Rattle.kc_frames.specs.declared.floors.Floors.{Floors}

-- ---- the order as facts on numbers

abbrev Under : Floor → Floor → Type 0
Under (At a) (At b) = b ≤ a
Under (At a) Base = a ≡ none_live
Under Base (At b) = b ≡ 0
Under Base Base = Unit {0}

under : (x y : Floor) → floor_below x y ≡ true → Under x y
under (At a) (At b) h = leb-true b a h
under (At a) Base h = eqb-true a none_live h
under Base (At b) h = eqb-true b 0 h
under Base Base h = tt

below : (x y : Floor) → Under x y → floor_below x y ≡ true
below (At a) (At b) h = le-leb b a h
below (At a) Base h = eq-eqb a none_live h
below Base (At b) h = eq-eqb b 0 h
below Base Base h = refl

under_trans : (x y z : Floor) → IsFloor x → IsFloor y → Under x y → Under y z → Under x z
under_trans (At a) (At b) (At c) hx hy h k = omega (arith, h, k)
under_trans (At a) (At b) Base hx hy h k = omega (arith, h, k, hx)
under_trans (At a) Base (At c) hx hy h k = omega (arith, h, k)
under_trans (At a) Base Base hx hy h k = h
under_trans Base (At b) (At c) hx hy h k = omega (arith, h, k)
under_trans Base (At b) Base hx hy h k = tt
under_trans Base Base (At c) hx hy h k = k
under_trans Base Base Base hx hy h k = tt

under_antisym : (x y : Floor) → Under x y → Under y x → x ≡ y
under_antisym (At a) (At b) h k = ap At (omega (arith, h, k))
under_antisym (At a) Base h k = absurd (omega (arith, h, k))
under_antisym Base (At b) h k = absurd (omega (arith, h, k))
under_antisym Base Base h k = refl

under_refl : (x : Floor) → Under x x
under_refl (At a) = omega arith
under_refl Base = tt

-- ---- joins

-- the address says no live byte, and the base is the join; or it doesn't, and the top is
beside_cases : (a : ℕ) → ((a ≡ none_live) × (beside_base a ≡ Base))
    ⊎ ((a ≡ none_live → ⊥) × (beside_base a ≡ floor_top))
beside_cases a = elim (cases_eq a none_live) [
  | inl e ↦ inl (e, ap (λ (t : Bool). cond t Base floor_top) (eq-eqb a none_live e))
  | inr e ↦ inr (e, ap (λ (t : Bool). cond t Base floor_top) (ne_eqb a none_live e))
]

beside_fits : (a : ℕ) → IsFloor (beside_base a)
beside_fits a = elim (beside_cases a) [ inl p ↦ subst IsFloor (sym p.1) tt | inr p ↦ subst IsFloor (sym p.1) (lit< tt) ]

above_address : (a : ℕ) → Under (At a) (beside_base a)
above_address a = elim (beside_cases a) [
  | inl p ↦ subst (Under (At a)) (sym p.1) p.0
  | inr p ↦ subst (Under (At a)) (sym p.1) (omega arith)
]

above_base : (a : ℕ) → Under Base (beside_base a)
above_base a =
    elim (beside_cases a) [ inl p ↦ subst (Under Base) (sym p.1) tt | inr p ↦ subst (Under Base) (sym p.1) refl ]

least_beside : (a : ℕ) (z : Floor) → Under (At a) z → Under Base z → Under (beside_base a) z
least_beside a (At c) h k = elim (beside_cases a) [
  | inl p ↦ subst (λ (x : Floor). Under x (At c)) (sym p.1) k
  | inr p ↦ subst (λ (x : Floor). Under x (At c)) (sym p.1) (omega (arith, k))
]
least_beside a Base h k = elim (beside_cases a) [
  | inl p ↦ subst (λ (x : Floor). Under x Base) (sym p.1) tt
  | inr p ↦ absurd (p.0 h)
]

join_fits : (x y : Floor) → IsFloor x → IsFloor y → IsFloor (floor_joined x y)
join_fits (At a) (At b) hx hy = omega (arith, hx, hy)
join_fits (At a) Base hx hy = beside_fits a
join_fits Base (At b) hx hy = beside_fits b
join_fits Base Base hx hy = tt

join_left : (x y : Floor) → Under x (floor_joined x y)
join_left (At a) (At b) = omega arith
join_left (At a) Base = above_address a
join_left Base (At b) = above_base b
join_left Base Base = tt

join_right : (x y : Floor) → Under y (floor_joined x y)
join_right (At a) (At b) = omega arith
join_right (At a) Base = above_base a
join_right Base (At b) = above_address b
join_right Base Base = tt

join_least : (x y z : Floor) → Under x z → Under y z → Under (floor_joined x y) z
join_least (At a) (At b) (At c) h k = omega (arith, h, k)
join_least (At a) (At b) Base h k = omega (arith, h, k)
join_least (At a) Base z h k = least_beside a z h k
join_least Base (At b) z h k = least_beside b z k h
join_least Base Base z h k = h

top_above : (y : Floor) → Under y floor_top
top_above (At b) = omega arith
top_above Base = refl

falls : (x y : Floor) → Under x y → floor_rank y ≤ floor_rank x
falls (At a) (At b) h = h
falls (At a) Base h = omega (arith, h)
falls Base (At b) h = omega (arith, h)
falls Base Base h = omega arith

tied : (x y : Floor) → Under x y → floor_rank x ≡ floor_rank y → x ≡ y
tied (At a) (At b) h e = ap At e
tied (At a) Base h e = absurd (omega (arith, h, e))
tied Base (At b) h e = absurd (omega (arith, h, e))
tied Base Base h e = refl

pub floor_laws : Laws IsFloor AllAlike floor_below floor_joined (λ x. floor_top) floor_rank
floor_laws = record {
  alike_refl = λ x h. tt;
  alike_sym = λ x y hx hy h. tt;
  alike_trans = λ x y z hx hy hz h k. tt;
  ordered_alike = λ x y hx hy h. tt;
  below_refl = λ x h. below x x (under_refl x);
  below_trans = λ x y z hx hy hz h k. below x z (under_trans x y z hx hy (under x y h) (under y z k));
  below_antisym = λ x y hx hy h k. under_antisym x y (under x y h) (under y x k);
  join_valid = λ x y hx hy h. join_fits x y hx hy;
  join_left = λ x y hx hy h. below x (floor_joined x y) (join_left x y);
  join_right = λ x y hx hy h. below y (floor_joined x y) (join_right x y);
  join_least = λ x y z hx hy hz h k l. below (floor_joined x y) z (join_least x y z (under x z k) (under y z l));
  top_valid = λ x h. lit< tt;
  top_above = λ x y hx hy h. below y floor_top (top_above y);
  rank_falls = λ x y hx hy h. falls x y (under x y h);
  rank_tied = λ x y hx hy h e. tied x y (under x y h) e;
}

pub floor_rank-le : (x : Floor) → IsFloor x → floor_rank x ≤ 2 ^ 64 - 1
floor_rank-le (At a) h = omega (arith, h)
floor_rank-le Base h = omega arith

-- ---- meaning

grows : (x y : Floor) (base least : ℕ) → IsFloor x → Under x y → FloorStands x base (Some least)
    → FloorStands y base (Some least)
grows (At a) (At b) base least hx h k = (λ e. k.0 (omega (arith, h, e, hx)), omega (arith, h, k.1))
grows (At a) Base base least hx h k = absurd (k.0 h)
grows Base (At b) base least hx h k = (λ e. omega (arith, h, e), omega (arith, h))
grows Base Base base least hx h k = k

-- what a lesser floor stands for, a greater one stands for too
pub floor_grows : (x y : Floor) (base : ℕ) (least : Option ℕ) → IsFloor x → IsFloor y → floor_below x y ≡ true
    → FloorStands x base least → FloorStands y base least
floor_grows x y base None hx hy h k = tt
floor_grows x y base (Some least) hx hy h k = grows x y base least hx (under x y h) k

-- ---- a floor for each stack

abbrev parts : Floors → List Floor
parts f = f.at

abbrev of_parts : List Floor → Floors
of_parts l = record { at = l }

pub floors_laws : Laws AreFloors AllAlike floors_below floors_joined floors_top floors_rank
floors_laws = reshaped_laws (counted_laws floor_laws 16) parts of_parts (λ x. refl) (λ y. refl) AreFloors
    (λ x h. (h.each, h.count)) (λ y h. record { each = h.0; count = h.1 })
    (λ x y hx hy. all_alike_rows x.at y.at (hx.count ∙ sym hy.count))

pub floors_rank-le : (f : Floors) → AreFloors f → floors_rank f ≤ 16 * (2 ^ 64 - 1)
floors_rank-le f h =
    subst (λ (n : ℕ). floors_rank f ≤ n * (2 ^ 64 - 1)) h.count
    (rows_rank-le floor_laws (2 ^ 64 - 1) floor_rank-le f.at h.each)
