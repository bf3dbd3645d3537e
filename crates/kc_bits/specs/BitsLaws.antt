-- The laws of known bits as a domain: the `Domain` and the `Meaning` of `Bits` cite these.
use Rattle.std.proofs.Common.{◌≡◌, ℕ, ◌^◌, ◌<◌, ◌≤◌, min, true, ◌==◌, bit_and, refl, sym, ap, ◌∙◌, arith, lit<}
use Rattle.std.proofs.lemmas.Bool.{and_parts, and_from, eqb-true, eq-eqb}
use Rattle.std.proofs.lemmas.Nat.{and_assoc, and_comm, and_le_l}
use Rattle.std.proofs.lemmas.Nat.Bits.{same_from_bits, bit_at_and, bit_at-zero, bit_at-lt}
use Rattle.std.specs.Int.{bit_at}
use Rattle.kc_lattice.specs.Laws.{Laws, AllAlike}
use Rattle.kc_bits.specs.KnownBits.{KnownBits}
use Rattle.kc_bits.specs.Bits.{IsValid, StandsFor, is_below, bits_joined, nothing_known, bits_rank}

pub and_self : (x : ℕ) → bit_and x x ≡ x
and_self x = same_from_bits (bit_and x x) x (λ i. bit_at_and x x i ∙ omega arith)

and_zero : (x : ℕ) → bit_and x 0 ≡ 0
and_zero x = same_from_bits (bit_and x 0) 0 (λ i. bit_at_and x 0 i ∙ omega (arith, bit_at-zero i))

-- every bit of the second mask is in the first
abbrev pub Has : ℕ → ℕ → Type 0
Has x y = bit_and x y ≡ y

pub has_trans : (x y z : ℕ) → Has x y → Has y z → Has x z
has_trans x y z h k = ap (bit_and x) (sym k) ∙ sym (and_assoc z x y) ∙ ap (λ (v : ℕ). bit_and v z) h ∙ k

pub has_antisym : (x y : ℕ) → Has x y → Has y x → x ≡ y
has_antisym x y h k = sym k ∙ and_comm y x ∙ h

has_left : (x y : ℕ) → Has x (bit_and x y)
has_left x y = sym (and_assoc y x x) ∙ ap (λ (v : ℕ). bit_and v y) (and_self x)

has_right : (x y : ℕ) → Has y (bit_and x y)
has_right x y = ap (bit_and y) (and_comm x y) ∙ has_left y x ∙ and_comm y x

has_both : (x y z : ℕ) → Has x z → Has y z → Has (bit_and x y) z
has_both x y z h k = and_assoc z x y ∙ ap (bit_and x) k ∙ h

-- a bit of the second is one of the first
pub has_bit : (x y i : ℕ) → Has x y → bit_at y i ≡ 1 → bit_at x i ≡ 1
has_bit x y i h one =
    let e : min (bit_at x i) (bit_at y i) ≡ bit_at y i = sym (bit_at_and x y i) ∙ ap (λ (v : ℕ). bit_at v i) h in
    omega (arith, e, one, bit_at-lt x i)

pub apart_parts : (z o z' o' : ℕ) → bit_and z o ≡ 0 → bit_and (bit_and z z') (bit_and o o') ≡ 0
apart_parts z o z' o' h = same_from_bits (bit_and (bit_and z z') (bit_and o o')) 0 (λ i.
    let e : min (bit_at z i) (bit_at o i) ≡ 0 = sym (bit_at_and z o i) ∙ ap (λ (v : ℕ). bit_at v i) h ∙ bit_at-zero i in
    rw (bit_at_and, bit_at_and, bit_at_and, bit_at-zero) (omega (arith, e)))

-- the order as two facts on masks
pub record IsBelow (x y : KnownBits) : Type 0 where
  pub zeros : bit_and x.zeros y.zeros ≡ y.zeros
  pub ones : bit_and x.ones y.ones ≡ y.ones

pub below_facts : (x y : KnownBits) → is_below x y ≡ true → IsBelow x y
below_facts x y h =
    let p = and_parts (bit_and x.zeros y.zeros == y.zeros) (bit_and x.ones y.ones == y.ones) h in
    record {
      zeros = eqb-true (bit_and x.zeros y.zeros) y.zeros p.0;
      ones =
          eqb-true (bit_and x.ones y.ones) y.ones p.1;
    }

pub below_from : (x y : KnownBits) → bit_and x.zeros y.zeros ≡ y.zeros → bit_and x.ones y.ones ≡ y.ones
    → is_below x y ≡ true
below_from x y h k =
    and_from (bit_and x.zeros y.zeros == y.zeros) (bit_and x.ones y.ones == y.ones)
    (eq-eqb (bit_and x.zeros y.zeros) y.zeros h)
    (eq-eqb (bit_and x.ones y.ones) y.ones k)

pub same_bits : (x y : KnownBits) → x.zeros ≡ y.zeros → x.ones ≡ y.ones → x ≡ y
same_bits x y p q = λ i. record { zeros = p i; ones = q i }

bits_join_valid : (x y : KnownBits) → IsValid x → IsValid y → IsValid (bits_joined x y)
bits_join_valid x y hx hy =
    let below_zeros : bit_and x.zeros y.zeros ≤ x.zeros = and_le_l x.zeros y.zeros in
    let below_ones : bit_and x.ones y.ones ≤ x.ones = and_le_l x.ones y.ones in
    let zeros : x.zeros < 2 ^ 64 = hx.zeros_fit in
    let ones : x.ones < 2 ^ 64 = hx.ones_fit in
    record {
      zeros_fit = omega arith;
      ones_fit = omega arith;
      apart =
          apart_parts x.zeros x.ones y.zeros y.ones hx.apart;
    }

bits_rank_falls : (x y : KnownBits) → is_below x y ≡ true → (y.zeros ≤ x.zeros) × (y.ones ≤ x.ones)
bits_rank_falls x y h =
    let b = below_facts x y h in
    let zeros : bit_and x.zeros y.zeros ≤ x.zeros = and_le_l x.zeros y.zeros in
    let ones : bit_and x.ones y.ones ≤ x.ones = and_le_l x.ones y.ones in
    (omega (arith, b.zeros), omega (arith, b.ones))

pub bits_laws : Laws IsValid AllAlike is_below bits_joined (λ x. nothing_known) bits_rank
bits_laws = record {
  alike_refl = λ x h. tt;
  alike_sym = λ x y hx hy h. tt;
  alike_trans = λ x y z hx hy hz h k. tt;
  ordered_alike = λ x y hx hy h. tt;
  below_refl = λ x h. below_from x x (and_self x.zeros) (and_self x.ones);
  below_trans = λ x y z hx hy hz h k.
      let p = below_facts x y h in
      let q = below_facts y z k in
      below_from x z (has_trans x.zeros y.zeros z.zeros p.zeros q.zeros) (has_trans x.ones y.ones z.ones p.ones q.ones);
  below_antisym = λ x y hx hy h k.
      let p = below_facts x y h in
      let q = below_facts y x k in
      same_bits x y (has_antisym x.zeros y.zeros p.zeros q.zeros) (has_antisym x.ones y.ones p.ones q.ones);
  join_valid = λ x y hx hy h. bits_join_valid x y hx hy;
  join_left = λ x y hx hy h. below_from x (bits_joined x y) (has_left x.zeros y.zeros) (has_left x.ones y.ones);
  join_right = λ x y hx hy h. below_from y (bits_joined x y) (has_right x.zeros y.zeros) (has_right x.ones y.ones);
  join_least = λ x y z hx hy hz h k l.
      let p = below_facts x z k in
      let q = below_facts y z l in
      below_from (bits_joined x y) z (has_both x.zeros y.zeros z.zeros p.zeros q.zeros)
      (has_both x.ones y.ones z.ones p.ones q.ones);
  top_valid = λ x h. record { zeros_fit = lit< tt; ones_fit = lit< tt; apart = refl };
  top_above = λ x y hx hy h. below_from y nothing_known (and_zero y.zeros) (and_zero y.ones);
  rank_falls = λ x y hx hy h. let p = bits_rank_falls x y h in omega (arith, p.0, p.1);
  rank_tied = λ x y hx hy h e. let p = bits_rank_falls x y h in
      same_bits x y (omega (arith, p.0, p.1, e)) (omega (arith, p.0, p.1, e));
}

-- what a lesser one stands for, a greater one stands for too
pub bits_grow : (x y : KnownBits) (n : ℕ) → is_below x y ≡ true → StandsFor x n → StandsFor y n
bits_grow x y n h s = λ i.
    let b = below_facts x y h in
    (λ z. (s i).0 (has_bit x.zeros y.zeros i b.zeros z), λ o. (s i).1 (has_bit x.ones y.ones i b.ones o))
