-- What halving finds is what the definitions look for: the first node at a position, the index of the first context of a
-- key, and the nodes of a context, which lie side by side. By induction on the list, whose items rise.
use Rattle.std.proofs.Common.{◌≡◌, ℕ, zero, suc, ◌+◌, ◌-◌, ◌<◌, ◌≤◌, ◌⊎◌, inl, inr, Bool, true, false, cond, eqb, ltb, List, [], ◌∷◌, length, map, take, drop, Option, Some, None, refl, sym, ap, ◌∙◌, subst, arith}
use Rattle.std.proofs.lemmas.Bool.{eq-eqb, ne_eqb, le-ltb, lt-ltb}
use Rattle.std.proofs.lemmas.List.Sums.{position_or_len_is}
use Rattle.std.specs.Prelude.{slice_get, slice_index_or, find, filter, position, Contains, ◌==◌}
use Rattle.std.specs.Ordering.{is_eq, is_lt}
use Rattle.std.specs.declared.cmp.Ordering.{Ordering}
use Rattle.std.specs.declared.cmp.Ordering.TheVariants.{Less, Equal, Greater}
use Rattle.kc_cert.specs.Table.{Position, IsFirstFrom, RisesBy, is_at, position_of, position_order}
use Rattle.kc_cert.specs.declared.certificate.Node.{Node}
use Rattle.kc_cert.proofs.HalvingLemmas.{three}
use Rattle.kc_cert.proofs.PositionLemmas.{equal-is, position_self, same-position}

-- ---- an item by its index

pub got : {A : Type 0} (items : List A) (i : ℕ) (d : A) → i < length items
    → slice_get items i ≡ Some (slice_index_or items i d)
got [] i d h = absurd (omega (arith, h))
got (x ∷ xs) zero d h = refl
got (x ∷ xs) (suc i) d h = got xs i d (omega (arith, h))

pub lt-not-eq : (r : Ordering) → is_lt r ≡ true → is_eq r ≡ false
lt-not-eq Less e = refl
lt-not-eq Equal e = absurd cc
lt-not-eq Greater e = absurd cc

-- ---- a position that is found, or absent

pub absent-from : (items : List Position) (p : Position) (at : ℕ) → RisesBy position_order items
    → IsFirstFrom position_order items p at
    → (at < length items → is_eq (position_order (slice_index_or items at p) p) ≡ false)
    → ¬ Contains items p
absent-from items p at rises first other (k, fits, is) = go (three k at)
  where
    itself : is_eq (position_order (slice_index_or items k p) p) ≡ true
    itself = ap (λ (q : Position). is_eq (position_order q p)) is ∙ ap is_eq (position_self p)

    clash : (b : Bool) → b ≡ true → b ≡ false → ⊥
    clash true t f = absurd cc
    clash false t f = absurd cc

    go : (k < at) ⊎ ((k ≡ at) ⊎ (at < k)) → ⊥
    go (inl less) = clash _ itself (lt-not-eq _ (first.before k p less))
    go (inr (inl same)) = clash _ itself
        (subst (λ (n : ℕ). is_eq (position_order (slice_index_or items n p) p) ≡ false) (sym same)
        (other (subst (λ (n : ℕ). n < length items) same fits)))
    go (inr (inr more)) =
        let below : is_lt (position_order (slice_index_or items at p) p) ≡ true =
        ap (λ (q : Position). is_lt (position_order (slice_index_or items at p) q)) (sym is)
        ∙ ap is_lt (rises at k p more fits) in
        clash _ below (first.after at p (omega arith) (omega (arith, more, fits)))

-- ---- the node at a position

chosen : {A : Type 0} (b : Bool) (x y : A) → b ≡ true → cond b x y ≡ x
chosen b x y e = ap (λ (t : Bool). cond t x y) e

passed : {A : Type 0} (b : Bool) (x y : A) → b ≡ false → cond b x y ≡ y
passed b x y e = ap (λ (t : Bool). cond t x y) e

pub node-found : (nodes : List Node) (p : Position) (at : ℕ) → RisesBy position_order (map position_of nodes)
    → slice_get (map position_of nodes) at ≡ Some p → slice_get nodes at ≡ find (is_at p) nodes
node-found [] p at rises h = absurd cc
node-found (n ∷ ns) p zero rises h =
    let same : position_of n ≡ p = cc (h) in
    sym (chosen (is_at p n) (Some n) (find (is_at p) ns)
    (ap (λ (q : Position). is_eq (position_order q p)) same ∙ ap is_eq (position_self p)))
node-found (n ∷ ns) p (suc at) rises h =
    let fits : at < length (map position_of ns) = within (map position_of ns) at p h in
    let is : slice_index_or (map position_of ns) at p ≡ p =
    let same : Some (slice_index_or (map position_of ns) at p) ≡ Some p = sym (got (map position_of ns) at p fits) ∙ h in
    cc (same) in
    let less : position_order (position_of n) p ≡ Less =
    ap (λ (q : Position). position_order (position_of n) q) (sym is) ∙ rises 0 (suc at) p (omega arith) (omega (arith, fits)) in
    let other : is_at p n ≡ false = lt-not-eq (position_order (position_of n) p) (ap is_lt less) in
    node-found ns p at (λ i j d lt le. rises (suc i) (suc j) d (omega (arith, lt)) (omega (arith, le))) h
    ∙ sym (passed (is_at p n) (Some n) (find (is_at p) ns) other)
  where
    within : (items : List Position) (k : ℕ) (q : Position) → slice_get items k ≡ Some q → k < length items
    within [] k q e = absurd cc
    within (x ∷ xs) zero q e = omega arith
    within (x ∷ xs) (suc k) q e = omega (arith, within xs k q e)

pub node-absent : (nodes : List Node) (p : Position) → ¬ Contains (map position_of nodes) p
    → None ≡ find (is_at p) nodes
node-absent [] p h = refl
node-absent (n ∷ ns) p h = go (is_at p n) refl (node-absent ns p (λ c. h (suc c.0, omega (arith, c.1), c.2)))
  where
    go : (b : Bool) → is_at p n ≡ b → None ≡ find (is_at p) ns → None ≡ find (is_at p) (n ∷ ns)
    go true e rest = absurd (h (0, omega arith, same-position (position_of n) p e))
    go false e rest = rest ∙ sym (passed (is_at p n) (Some n) (find (is_at p) ns) e)

-- ---- the index of the first item that passes

pub position-found : {A : Type 0} (test : A → Bool) (items : List A) (at : ℕ) (d : A) → at < length items
    → ((k : ℕ) → k < at → test (slice_index_or items k d) ≡ false) → test (slice_index_or items at d) ≡ true
    → Some at ≡ position test items
position-found test items at d fits before here =
    let first = position_or_len_is test items at d (omega (arith, fits)) before (λ lt. here) in
    sym (ap (λ (n : ℕ). cond (ltb n (length items)) (Some n) None) first
    ∙ chosen (ltb at (length items)) (Some at) None (lt-ltb at (length items) fits))

pub position-absent : {A : Type 0} (test : A → Bool) (items : List A) (d : A)
    → ((k : ℕ) → k < length items → test (slice_index_or items k d) ≡ false) → None ≡ position test items
position-absent test items d none =
    let first = position_or_len_is test items (length items) d (omega arith) none (λ lt. absurd (omega (arith, lt))) in
    sym (ap (λ (n : ℕ). cond (ltb n (length items)) (Some n) None) first
    ∙ passed (ltb (length items) (length items)) (Some (length items)) None (le-ltb (length items) (length items) (omega arith)))

-- ---- the nodes of a context

above : (i : ℕ) (nodes : List Node) → ((k : ℕ) (d : Position) → k < length nodes
    → i < (slice_index_or (map position_of nodes) k d).0) → [] ≡ filter (λ n. n.context == i) nodes
above i [] h = refl
above i (n ∷ ns) h =
    let other : (n.context == i) ≡ false =
    ne_eqb n.context i (λ e. omega (arith, e, h 0 (position_of n) (omega arith))) in
    above i ns (λ k d lt. h (suc k) d (omega (arith, lt)))
    ∙ sym (passed (n.context == i) (n ∷ filter (λ n. n.context == i) ns) (filter (λ n. n.context == i) ns) other)

-- the first s nodes belong to lesser contexts, the next w ones to context i, and the rest to greater ones
pub side-by-side : (i : ℕ) (nodes : List Node) (s w : ℕ) → s + w ≤ length nodes
    → ((k : ℕ) (d : Position) → k < s → (slice_index_or (map position_of nodes) k d).0 < i)
    → ((k : ℕ) (d : Position) → s ≤ k → k < s + w → (slice_index_or (map position_of nodes) k d).0 ≡ i)
    → ((k : ℕ) (d : Position) → s + w ≤ k → k < length nodes → i < (slice_index_or (map position_of nodes) k d).0)
    → take w (drop s nodes) ≡ filter (λ n. n.context == i) nodes
side-by-side i [] zero zero fits less same more = refl
side-by-side i [] zero (suc w) fits less same more = absurd (omega (arith, fits))
side-by-side i [] (suc s) w fits less same more = absurd (omega (arith, fits))
side-by-side i (n ∷ ns) zero zero fits less same more = above i (n ∷ ns) (λ k d lt. more k d (omega arith) lt)
side-by-side i (n ∷ ns) zero (suc w) fits less same more =
    let this : (n.context == i) ≡ true = eq-eqb n.context i (same 0 (position_of n) (omega arith) (omega arith)) in
    ap (λ (l : List Node). n ∷ l) (side-by-side i ns 0 w (omega (arith, fits))
    (λ k d lt. absurd (omega (arith, lt)))
    (λ k d le lt. same (suc k) d (omega arith) (omega (arith, lt)))
    (λ k d le lt. more (suc k) d (omega (arith, le)) (omega (arith, lt))))
    ∙ sym (chosen (n.context == i) (n ∷ filter (λ n. n.context == i) ns) (filter (λ n. n.context == i) ns) this)
side-by-side i (n ∷ ns) (suc s) w fits less same more =
    let other : (n.context == i) ≡ false =
    ne_eqb n.context i (λ e. omega (arith, e, less 0 (position_of n) (omega arith))) in
    side-by-side i ns s w (omega (arith, fits))
    (λ k d lt. less (suc k) d (omega (arith, lt)))
    (λ k d le lt. same (suc k) d (omega (arith, le)) (omega (arith, lt)))
    (λ k d le lt. more (suc k) d (omega (arith, le)) (omega (arith, lt)))
    ∙ sym (passed (n.context == i) (n ∷ filter (λ n. n.context == i) ns) (filter (λ n. n.context == i) ns) other)

-- one index has one item
pub one-item : {A : Type 0} (items : List A) (k : ℕ) (x y : A) → k < length items → x ≡ slice_index_or items k x
    → y ≡ slice_index_or items k y → x ≡ y
one-item [] k x y lt p q = absurd (omega (arith, lt))
one-item (z ∷ zs) zero x y lt p q = p ∙ sym q
one-item (z ∷ zs) (suc k) x y lt p q = one-item zs k x y (omega (arith, lt)) p q
