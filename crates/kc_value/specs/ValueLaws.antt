-- The laws of values: the `Domain` and the `Meaning` of `Value` cite these.
use Rattle.std.proofs.Common.{◌≡◌, ℕ, ◌^◌, ◌<◌, ◌≤◌, min, true, ◌&&◌, bit_and, bit_or, refl, sym, ap, ◌∙◌, arith, subst, inl, inr, lit<}
use Rattle.std.proofs.lemmas.Bool.{and_parts, and_from, eqb-true, eq-eqb}
use Rattle.std.proofs.lemmas.Nat.{and_comm, and_mask, and_le_l, or_lt}
use Rattle.std.proofs.lemmas.Nat.Bits.{same_from_bits, bit_at_and, bit_at_or}
use Rattle.std.proofs.Math.Nat.{mod-eq_of_lt}
use Rattle.std.specs.Int.{bit_at}
use Rattle.kc_lattice.specs.Laws.{Laws, AllAlike}
use Rattle.kc_bits.specs.Bits.{is_below, bits_rank}
use Rattle.kc_bits.specs.BitsLaws.{bits_laws, bits_grow, Has, has_bit, has_trans, has_antisym, and_self}
use Rattle.kc_value.specs.AbsValue.{AbsValue}
use Rattle.kc_value.specs.Place.{place_bit}
use Rattle.kc_value.specs.Symbol.{Names, is_sym_below, sym_rank}
use Rattle.kc_value.specs.SymbolLaws.{below_cases, below_plain, below_same, sym_trans, sym_antisym, sym_left, sym_right, sym_least, sym_joined_fits, sym_falls, sym_tied}
use Rattle.kc_value.specs.Value.{IsValidValue, is_subset, value_below, value_joined, all_places, value_top, value_rank, Represents}
use Rattle.kc_value.specs.declared.env.ValueEnv.{ValueEnv}
use Rattle.kc_value.specs.declared.symbol.Sym.{Sym}
use Rattle.kc_value.specs.declared.symbol.Sym.TheVariants.{Plain}

-- ---- sets of places

or_left : (x y : ℕ) → Has (bit_or x y) x
or_left x y = same_from_bits (bit_and (bit_or x y) x) x
    (λ i. bit_at_and (bit_or x y) x i ∙ omega (arith, bit_at_or x y i))

or_right : (x y : ℕ) → Has (bit_or x y) y
or_right x y = same_from_bits (bit_and (bit_or x y) y) y
    (λ i. bit_at_and (bit_or x y) y i ∙ omega (arith, bit_at_or x y i))

or_least : (x y z : ℕ) → Has z x → Has z y → Has z (bit_or x y)
or_least x y z h k = same_from_bits (bit_and z (bit_or x y)) (bit_or x y) (λ i.
    let e : min (bit_at z i) (bit_at x i) ≡ bit_at x i = sym (bit_at_and z x i) ∙ ap (λ (v : ℕ). bit_at v i) h in
    let f : min (bit_at z i) (bit_at y i) ≡ bit_at y i = sym (bit_at_and z y i) ∙ ap (λ (v : ℕ). bit_at v i) k in
    bit_at_and z (bit_or x y) i ∙ omega (arith, bit_at_or x y i, e, f))

pub has_all : (x : ℕ) → x < 2 ^ 17 → Has all_places x
has_all x h = and_comm all_places x ∙ and_mask x 17 ∙ mod-eq_of_lt h

-- ---- the order as three facts

pub record IsValueBelow (v w : AbsValue) : Type 0 where
  pub sym_below : is_sym_below v.sym w.sym ≡ true
  pub bits_below : is_below v.bits w.bits ≡ true
  pub places : bit_and w.stacks v.stacks ≡ v.stacks

pub value_facts : (v w : AbsValue) → value_below v w ≡ true → IsValueBelow v w
value_facts v w h =
    let p = and_parts (is_sym_below v.sym w.sym) (is_below v.bits w.bits && is_subset v.stacks w.stacks) h in
    let q = and_parts (is_below v.bits w.bits) (is_subset v.stacks w.stacks) p.1 in
    record { sym_below = p.0; bits_below = q.0; places = eqb-true (bit_and w.stacks v.stacks) v.stacks q.1 }

pub value_from : (v w : AbsValue) → is_sym_below v.sym w.sym ≡ true → is_below v.bits w.bits ≡ true
    → Has w.stacks v.stacks → value_below v w ≡ true
value_from v w s b p =
    and_from (is_sym_below v.sym w.sym) (is_below v.bits w.bits && is_subset v.stacks w.stacks) s
    (and_from (is_below v.bits w.bits) (is_subset v.stacks w.stacks) b (eq-eqb (bit_and w.stacks v.stacks) v.stacks p))

same_value : (v w : AbsValue) → v.sym ≡ w.sym → v.bits ≡ w.bits → v.stacks ≡ w.stacks → v ≡ w
same_value v w p q r = λ i. record { sym = p i; bits = q i; stacks = r i }

places_le : (v w : AbsValue) → IsValueBelow v w → v.stacks ≤ w.stacks
places_le v w b = let h : bit_and w.stacks v.stacks ≤ w.stacks = and_le_l w.stacks v.stacks in
    omega (arith, b.places, h)

-- ---- the laws

value_trans : (x y z : AbsValue) → IsValidValue x → IsValidValue y → IsValidValue z → value_below x y ≡ true
    → value_below y z ≡ true → value_below x z ≡ true
value_trans x y z hx hy hz h k =
    let p = value_facts x y h in
    let q = value_facts y z k in
    value_from x z (sym_trans x.sym y.sym z.sym p.sym_below q.sym_below)
    (bits_laws.below_trans x.bits y.bits z.bits hx.bits_fit hy.bits_fit hz.bits_fit p.bits_below q.bits_below)
    (has_trans z.stacks y.stacks x.stacks q.places p.places)

value_antisym : (x y : AbsValue) → IsValidValue x → IsValidValue y → value_below x y ≡ true → value_below y x ≡ true
    → x ≡ y
value_antisym x y hx hy h k =
    let p = value_facts x y h in
    let q = value_facts y x k in
    same_value x y (sym_antisym x.sym y.sym p.sym_below q.sym_below)
    (bits_laws.below_antisym x.bits y.bits hx.bits_fit hy.bits_fit p.bits_below q.bits_below)
    (has_antisym x.stacks y.stacks q.places p.places)

value_join_valid : (x y : AbsValue) → IsValidValue x → IsValidValue y → IsValidValue (value_joined x y)
value_join_valid x y hx hy = record {
  sym_fits = sym_joined_fits x.sym y.sym hx.sym_fits;
  bits_fit = bits_laws.join_valid x.bits y.bits hx.bits_fit hy.bits_fit tt;
  stacks_fit = or_lt 17 x.stacks y.stacks hx.stacks_fit hy.stacks_fit;
}

value_least : (x y z : AbsValue) → IsValidValue x → IsValidValue y → IsValidValue z → value_below x z ≡ true
    → value_below y z ≡ true → value_below (value_joined x y) z ≡ true
value_least x y z hx hy hz h k =
    let p = value_facts x z h in
    let q = value_facts y z k in
    value_from (value_joined x y) z (sym_least x.sym y.sym z.sym p.sym_below q.sym_below)
    (bits_laws.join_least x.bits y.bits z.bits hx.bits_fit hy.bits_fit hz.bits_fit tt p.bits_below q.bits_below)
    (or_least x.stacks y.stacks z.stacks p.places q.places)

value_falls : (x y : AbsValue) → IsValidValue x → IsValidValue y → value_below x y ≡ true →
    (sym_rank y.sym ≤ sym_rank x.sym) × (bits_rank y.bits ≤ bits_rank x.bits) × (x.stacks ≤ y.stacks)
value_falls x y hx hy h =
    let p = value_facts x y h in (
      sym_falls x.sym y.sym p.sym_below,
      bits_laws.rank_falls x.bits y.bits hx.bits_fit hy.bits_fit p.bits_below,
      places_le x y p,
    )

value_tied : (x y : AbsValue) → IsValidValue x → IsValidValue y → value_below x y ≡ true → value_rank x ≡ value_rank y
    → x ≡ y
value_tied x y hx hy h e =
    let p = value_facts x y h in
    let f = value_falls x y hx hy h in
    let fits_x : x.stacks < 2 ^ 17 = hx.stacks_fit in
    let fits_y : y.stacks < 2 ^ 17 = hy.stacks_fit in
    same_value x y (sym_tied x.sym y.sym p.sym_below (omega (arith, e, f.0, f.1, f.2)))
    (bits_laws.rank_tied x.bits y.bits hx.bits_fit hy.bits_fit p.bits_below (omega (arith, e, f.0, f.1, f.2)))
    (omega (arith, e, f.0, f.1, f.2))

pub value_laws : Laws IsValidValue AllAlike value_below value_joined (λ v. value_top) value_rank
value_laws = record {
  alike_refl = λ x h. tt;
  alike_sym = λ x y hx hy h. tt;
  alike_trans = λ x y z hx hy hz h k. tt;
  ordered_alike = λ x y hx hy h. tt;
  below_refl = λ x h. value_from x x (below_same x.sym x.sym refl) (bits_laws.below_refl x.bits h.bits_fit)
      (and_self x.stacks);
  below_trans = value_trans;
  below_antisym = value_antisym;
  join_valid = λ x y hx hy h. value_join_valid x y hx hy;
  join_left = λ x y hx hy h.
      value_from x (value_joined x y) (sym_left x.sym y.sym)
      (bits_laws.join_left x.bits y.bits hx.bits_fit hy.bits_fit tt) (or_left x.stacks y.stacks);
  join_right = λ x y hx hy h.
      value_from y (value_joined x y) (sym_right x.sym y.sym)
      (bits_laws.join_right x.bits y.bits hx.bits_fit hy.bits_fit tt) (or_right x.stacks y.stacks);
  join_least = λ x y z hx hy hz h k l. value_least x y z hx hy hz k l;
  top_valid = λ x h. record { sym_fits = tt; bits_fit = bits_laws.top_valid x.bits h.bits_fit; stacks_fit = lit< tt };
  top_above = λ x y hx hy h.
      value_from y value_top (below_plain y.sym Plain refl)
      (bits_laws.top_above x.bits y.bits hx.bits_fit hy.bits_fit tt) (has_all y.stacks hy.stacks_fit);
  rank_falls = λ x y hx hy h. let f = value_falls x y hx hy h in omega (arith, f.0, f.1, f.2);
  rank_tied = value_tied;
}

-- ---- meaning

pub names_grow : (s t : Sym) (env : ValueEnv) (n : ℕ) → is_sym_below s t ≡ true → Names s env n → Names t env n
names_grow s t env n h named = elim (below_cases s t h) [
  | inl p ↦ subst (λ (u : Sym). Names u env n) (sym p) tt
  | inr e ↦ subst (λ (u : Sym). Names u env n) e named
]

-- what a lesser value stands for, a greater one stands for too
pub value_grows : (v w : AbsValue) (env : ValueEnv) (n : ℕ) → value_below v w ≡ true → Represents v env n
    → Represents w env n
value_grows v w env n h r =
    let p = value_facts v w h in
    record {
      symbol = names_grow v.sym w.sym env n p.sym_below r.symbol;
      bits = bits_grow v.bits w.bits n p.bits_below r.bits;
      place = (r.place.0, r.place.1, has_bit w.stacks v.stacks (place_bit r.place.0) p.places r.place.2);
    }
