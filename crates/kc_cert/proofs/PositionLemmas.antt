-- Positions and keys are ordered by the lists of their numbers: the order is total, and positions of equal numbers are
-- one. What comes before the first site of a context, and what doesn't, goes by the contexts' numbers alone.
use Rattle.std.proofs.Common.{◌≡◌, ℕ, zero, suc, ◌<◌, ◌≤◌, Bool, true, false, cond, List, [], ◌∷◌, refl, sym, ap, ◌∙◌, subst, arith}
use Rattle.std.proofs.lemmas.Cmp.{nat_list_cmp_total}
use Rattle.std.specs.Cmp.{ranks}
use Rattle.std.proofs.lemmas.Map.Lookups.{exact_bytes}
use Rattle.std.specs.Ordering.{is_eq, is_lt, nat_cmp, ordering_reverse, ordering_then, MatchOrdering}
use Rattle.std.specs.declared.cmp.Ordering.{Ordering}
use Rattle.std.specs.declared.cmp.Ordering.TheVariants.{Less, Equal, Greater}
use Rattle.kc_state.specs.Key.{key_numbers}
use Rattle.kc_state.specs.declared.key.Key.{Key}
use Rattle.kc_state.specs.declared.site.Site.{Site}
use Rattle.kc_cert.specs.Table.{Position, key_order, position_numbers, position_order}

pub equal-is : (r : Ordering) → is_eq r ≡ true → r ≡ Equal
equal-is Less e = absurd cc
equal-is Equal e = refl
equal-is Greater e = absurd cc

pub position_trans : (x y z : Position) → position_order x y ≡ Less → position_order y z ≡ Less
    → position_order x z ≡ Less
position_trans x y z = nat_list_cmp_total.trans (position_numbers x) (position_numbers y) (position_numbers z)

pub key_trans : (x y z : Key) → key_order x y ≡ Less → key_order y z ≡ Less → key_order x z ≡ Less
key_trans x y z = nat_list_cmp_total.trans (key_numbers x) (key_numbers y) (key_numbers z)

self : (r : Ordering) → r ≡ ordering_reverse r → r ≡ Equal
self Less e = absurd cc
self Equal e = refl
self Greater e = absurd cc

pub position_self : (p : Position) → position_order p p ≡ Equal
position_self p = self (position_order p p) (nat_list_cmp_total.antisymm (position_numbers p) (position_numbers p))

abbrev bit : Bool → ℕ
bit b = cond b 1 0

flags : (a b : Bool) → bit a ≡ bit b → a ≡ b
flags true true e = refl
flags true false e = absurd (omega (arith, e))
flags false true e = absurd (omega (arith, e))
flags false false e = refl

abbrev numbered : ℕ → List ℕ → ℕ
numbered k [] = 0
numbered zero (x ∷ xs) = x
numbered (suc k) (x ∷ xs) = numbered k xs

pub same-position : (q p : Position) → is_eq (position_order q p) ≡ true → q ≡ p
same-position (i, s) (j, t) e =
    let numbers = exact_bytes (position_numbers (i, s)) (position_numbers (j, t))
    (equal-is (position_order (i, s) (j, t)) e) in
    let context : i ≡ j = ap (numbered 0) numbers in
    let address : s.at ≡ t.at = ap (numbered 1) numbers in
    let inside : s.inside ≡ t.inside = flags s.inside t.inside (ap (numbered 2) numbers) in
    λ k. (context k, record { at = address k; inside = inside k })

abbrev pub first_site : Site
first_site = record { at = 0; inside = false }

pub before-context : (q : Position) (i : ℕ) → is_lt (position_order q (i, first_site)) ≡ true → q.0 < i
before-context (c, s) i h = go (nat_cmp c i) (ranks c i) (nat_cmp s.at 0) (ranks s.at 0)
    (nat_cmp (bit s.inside) 0) (ranks (bit s.inside) 0) h
  where
    go : (r : Ordering) → MatchOrdering r (c < i) (c ≡ i) (i < c) → (a : Ordering)
        → MatchOrdering a (s.at < 0) (s.at ≡ 0) (0 < s.at) → (f : Ordering)
        → MatchOrdering f (bit s.inside < 0) (bit s.inside ≡ 0) (0 < bit s.inside)
        → is_lt (ordering_then r (ordering_then a (ordering_then f Equal))) ≡ true
        → c < i
    go Less m a n f o e = m
    go Equal m Less n f o e = absurd (omega (arith, n))
    go Equal m Equal n Less o e = absurd (omega (arith, o))
    go Equal m Equal n Equal o e = absurd cc
    go Equal m Equal n Greater o e = absurd cc
    go Equal m Greater n f o e = absurd cc
    go Greater m a n f o e = absurd cc

pub from-context : (q : Position) (i : ℕ) → is_lt (position_order q (i, first_site)) ≡ false → i ≤ q.0
from-context (c, s) i h = go (nat_cmp c i) (ranks c i) h
  where
    go : (r : Ordering) → MatchOrdering r (c < i) (c ≡ i) (i < c)
        → is_lt (ordering_then r (ordering_then (nat_cmp s.at 0) (ordering_then (nat_cmp (bit s.inside) 0) Equal)))
        ≡ false
        → i ≤ c
    go Less m e = absurd cc
    go Equal m e = omega (arith, m)
    go Greater m e = omega (arith, m)
