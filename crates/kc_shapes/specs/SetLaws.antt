-- Sets of numbers below a bound are a domain: its laws, bit by bit.
use Rattle.std.proofs.Common.{◌≡◌, ℕ, ◌^◌, ◌<◌, ◌≤◌, min, true, bit_and, bit_or, ◌↔◌, ◌⊎◌, inl, inr, sym, ap, ◌∙◌, arith}
use Rattle.std.proofs.lemmas.Bool.{cases_eq, eqb-true, eq-eqb}
use Rattle.std.proofs.lemmas.Nat.{and_comm, and_assoc, and_mask, and_le_l, or_lt, pow_below}
use Rattle.std.proofs.lemmas.Nat.Bits.{same_from_bits, bit_at_and, bit_at_or, bit_at-lt, bit_at-pow_same, bit_at-pow_other}
use Rattle.std.proofs.Math.Nat.{mod-eq_of_lt}
use Rattle.std.specs.Int.{bit_at}
use Rattle.kc_lattice.specs.Laws.{Laws, AllAlike}
use Rattle.kc_shapes.specs.Sets.{IsSet, is_subset, union, all_below, set_rank}

-- every number of the second set is in the first
abbrev Has : ℕ → ℕ → Type 0
Has x y = bit_and x y ≡ y

subset_fact : (x y : ℕ) → is_subset x y ≡ true → Has y x
subset_fact x y h = eqb-true (bit_and y x) x h

subset_from : (x y : ℕ) → Has y x → is_subset x y ≡ true
subset_from x y h = eq-eqb (bit_and y x) x h

has_self : (x : ℕ) → Has x x
has_self x = same_from_bits (bit_and x x) x (λ i. bit_at_and x x i ∙ omega arith)

has_trans : (x y z : ℕ) → Has x y → Has y z → Has x z
has_trans x y z h k = ap (bit_and x) (sym k) ∙ sym (and_assoc z x y) ∙ ap (λ (v : ℕ). bit_and v z) h ∙ k

has_antisym : (x y : ℕ) → Has x y → Has y x → x ≡ y
has_antisym x y h k = sym k ∙ and_comm y x ∙ h

or_left : (x y : ℕ) → Has (bit_or x y) x
or_left x y =
    same_from_bits (bit_and (bit_or x y) x) x (λ i. bit_at_and (bit_or x y) x i ∙ omega (arith, bit_at_or x y i))

or_right : (x y : ℕ) → Has (bit_or x y) y
or_right x y =
    same_from_bits (bit_and (bit_or x y) y) y (λ i. bit_at_and (bit_or x y) y i ∙ omega (arith, bit_at_or x y i))

or_least : (x y z : ℕ) → Has z x → Has z y → Has z (bit_or x y)
or_least x y z h k = same_from_bits (bit_and z (bit_or x y)) (bit_or x y) (λ i.
    let e : min (bit_at z i) (bit_at x i) ≡ bit_at x i = sym (bit_at_and z x i) ∙ ap (λ (v : ℕ). bit_at v i) h in
    let f : min (bit_at z i) (bit_at y i) ≡ bit_at y i = sym (bit_at_and z y i) ∙ ap (λ (v : ℕ). bit_at v i) k in
    bit_at_and z (bit_or x y) i ∙ omega (arith, bit_at_or x y i, e, f))

has_all : (n x : ℕ) → x < 2 ^ n → Has (all_below n) x
has_all n x h = and_comm (all_below n) x ∙ and_mask x n ∙ mod-eq_of_lt h

subset_le : (x y : ℕ) → is_subset x y ≡ true → x ≤ y
subset_le x y h = let k : bit_and y x ≤ y = and_le_l y x in omega (arith, k, subset_fact x y h)

-- a number of a lesser set is one of a greater
pub subset_bit : (x y i : ℕ) → is_subset x y ≡ true → bit_at x i ≡ 1 → bit_at y i ≡ 1
subset_bit x y i h one =
    let e : min (bit_at y i) (bit_at x i) ≡ bit_at x i = sym (bit_at_and y x i) ∙ ap (λ (v : ℕ). bit_at v i)
    (subset_fact x y h) in
    omega (arith, e, one, bit_at-lt y i)

pub set_rank-le : (n x : ℕ) → set_rank n x ≤ all_below n
set_rank-le n x = omega arith

below_power : (n x : ℕ) → x < 2 ^ n → x ≤ all_below n
below_power n x h = omega (arith, h)

-- a set with the number k added
pub added_fits : (n set k : ℕ) → IsSet n set → k < n → IsSet n (bit_or set (2 ^ k))
added_fits n set k h below = or_lt n set (2 ^ k) h (pow_below k n below)

pub added_bit : (set k i : ℕ) → (bit_at (bit_or set (2 ^ k)) i ≡ 1) ↔ ((bit_at set i ≡ 1) ⊎ (i ≡ k))
added_bit set k i = elim (cases_eq i k) [
  | inl e ↦ (
    λ h. inr e,
    λ h. let one : bit_at (2 ^ k) i ≡ 1 = ap (bit_at (2 ^ k)) e ∙ bit_at-pow_same k in
        omega (arith, bit_at_or set (2 ^ k) i, one, bit_at-lt set i),
  )
  | inr e ↦
      let same : bit_at (bit_or set (2 ^ k)) i ≡ bit_at set i =
      omega (arith, bit_at_or set (2 ^ k) i, bit_at-pow_other k i e) in
      (λ h. inl (sym same ∙ h), λ h. elim h [ inl one ↦ same ∙ one | inr is ↦ absurd (e is) ])
]

pub set_laws : (n : ℕ) → Laws (IsSet n) AllAlike is_subset union (λ x. all_below n) (set_rank n)
set_laws n = record {
  alike_refl = λ x h. tt;
  alike_sym = λ x y hx hy h. tt;
  alike_trans = λ x y z hx hy hz h k. tt;
  ordered_alike = λ x y hx hy h. tt;
  below_refl = λ x h. subset_from x x (has_self x);
  below_trans = λ x y z hx hy hz h k. subset_from x z (has_trans z y x (subset_fact y z k) (subset_fact x y h));
  below_antisym = λ x y hx hy h k. has_antisym x y (subset_fact y x k) (subset_fact x y h);
  join_valid = λ x y hx hy h. or_lt n x y hx hy;
  join_left = λ x y hx hy h. subset_from x (union x y) (or_left x y);
  join_right = λ x y hx hy h. subset_from y (union x y) (or_right x y);
  join_least =
      λ x y z hx hy hz h k l. subset_from (union x y) z (or_least x y z (subset_fact x z k) (subset_fact y z l));
  top_valid = λ x h. omega (arith, h);
  top_above = λ x y hx hy h. subset_from y (all_below n) (has_all n y hy);
  rank_falls = λ x y hx hy h. omega (arith, subset_le x y h);
  rank_tied = λ x y hx hy h e. omega (arith, e, subset_le x y h, below_power n x hx, below_power n y hy);
}
