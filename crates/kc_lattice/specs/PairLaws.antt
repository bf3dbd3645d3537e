-- A pair keeps the laws of its parts.
use Rattle.std.proofs.Common.{◌≡◌, ℕ, ◌≤◌, Bool, true, arith}
use Rattle.std.proofs.lemmas.Bool.{and_parts, and_from}
use Rattle.kc_lattice.specs.declared.both.Both.{Both}
use Rattle.kc_lattice.specs.Laws.{Laws}
use Rattle.kc_lattice.specs.Pair.{both_valid, both_alike, both_below, both_joined, both_top, both_rank}

same_pair : {A B : Type 0} (x y : Both A B) → x.first ≡ y.first → x.second ≡ y.second → x ≡ y
same_pair x y p q = λ i. record { first = p i; second = q i }

module _ {A B : Type 0} {av : A → Type 0} {bv : B → Type 0} {aa : A → A → Type 0} {ba : B → B → Type 0}
    {ab : A → A → Bool} {bb : B → B → Bool}
    {aj : A → A → A} {bj : B → B → B} {at : A → A} {bt : B → B} {ar : A → ℕ} {br : B → ℕ} (m : Laws av aa ab aj at ar)
    (n : Laws bv ba bb bj bt br) where
  pub both_laws : Laws (both_valid av bv) (both_alike aa ba) (both_below ab bb) (both_joined aj bj) (both_top at bt)
      (both_rank ar br)
  both_laws = record {
    alike_refl = λ x h. (m.alike_refl x.first h.0, n.alike_refl x.second h.1);
    alike_sym = λ x y hx hy h. (m.alike_sym x.first y.first hx.0 hy.0 h.0, n.alike_sym x.second y.second hx.1 hy.1 h.1);
    alike_trans = λ x y z hx hy hz h k. (
      m.alike_trans x.first y.first z.first hx.0 hy.0 hz.0 h.0 k.0,
      n.alike_trans x.second y.second z.second hx.1 hy.1 hz.1 h.1 k.1,
    );
    ordered_alike = λ x y hx hy h.
        let p = and_parts _ _ h in
        (m.ordered_alike x.first y.first hx.0 hy.0 p.0, n.ordered_alike x.second y.second hx.1 hy.1 p.1);
    below_refl = λ x h. and_from _ _ (m.below_refl x.first h.0) (n.below_refl x.second h.1);
    below_trans = λ x y z hx hy hz h k.
        let p = and_parts _ _ h in
        let q = and_parts _ _ k in
        and_from _ _ (m.below_trans x.first y.first z.first hx.0 hy.0 hz.0 p.0 q.0)
        (n.below_trans x.second y.second z.second hx.1 hy.1 hz.1 p.1 q.1);
    below_antisym = λ x y hx hy h k.
        let p = and_parts _ _ h in
        let q = and_parts _ _ k in
        same_pair x y (m.below_antisym x.first y.first hx.0 hy.0 p.0 q.0)
        (n.below_antisym x.second y.second hx.1 hy.1 p.1 q.1);
    join_valid = λ x y hx hy h. (
      m.join_valid x.first y.first hx.0 hy.0 h.0,
      n.join_valid x.second y.second hx.1 hy.1 h.1,
    );
    join_left = λ x y hx hy h. and_from _ _ (m.join_left x.first y.first hx.0 hy.0 h.0)
        (n.join_left x.second y.second hx.1 hy.1 h.1);
    join_right = λ x y hx hy h. and_from _ _ (m.join_right x.first y.first hx.0 hy.0 h.0)
        (n.join_right x.second y.second hx.1 hy.1 h.1);
    join_least = λ x y z hx hy hz h k l.
        let p = and_parts _ _ k in
        let q = and_parts _ _ l in
        and_from _ _ (m.join_least x.first y.first z.first hx.0 hy.0 hz.0 h.0 p.0 q.0)
        (n.join_least x.second y.second z.second hx.1 hy.1 hz.1 h.1 p.1 q.1);
    top_valid = λ x h. (m.top_valid x.first h.0, n.top_valid x.second h.1);
    top_above = λ x y hx hy h. and_from _ _ (m.top_above x.first y.first hx.0 hy.0 h.0)
        (n.top_above x.second y.second hx.1 hy.1 h.1);
    rank_falls = λ x y hx hy h.
        let p = and_parts _ _ h in
        let a : ar y.first ≤ ar x.first = m.rank_falls x.first y.first hx.0 hy.0 p.0 in
        let b : br y.second ≤ br x.second = n.rank_falls x.second y.second hx.1 hy.1 p.1 in
        omega arith;
    rank_tied = λ x y hx hy h e.
        let p = and_parts _ _ h in
        let a : ar y.first ≤ ar x.first = m.rank_falls x.first y.first hx.0 hy.0 p.0 in
        let b : br y.second ≤ br x.second = n.rank_falls x.second y.second hx.1 hy.1 p.1 in
        same_pair x y (m.rank_tied x.first y.first hx.0 hy.0 p.0 (omega arith))
        (n.rank_tied x.second y.second hx.1 hy.1 p.1 (omega arith));
  }

module _ {A B AE BE AC BC : Type 0} {av : A → Type 0} {bv : B → Type 0} {ab : A → A → Bool} {bb : B → B → Bool}
    (p : A → AE → AC → Type 0) (q : B → BE → BC → Type 0) where
  pub both_grows : ((x y : A) (e : AE) (c : AC) → av x → av y → ab x y ≡ true → p x e c → p y e c) →
      ((x y : B) (e : BE) (c : BC) → bv x → bv y → bb x y ≡ true → q x e c → q y e c) →
      (x y : Both A B) (e : AE × BE) (c : AC × BC) → both_valid av bv x → both_valid av bv y
      → both_below ab bb x y ≡ true →
      p x.first e.0 c.0 × q x.second e.1 c.1 → p y.first e.0 c.0 × q y.second e.1 c.1
  both_grows f g x y e c hx hy h k =
      let l = and_parts _ _ h in
      (f x.first y.first e.0 c.0 hx.0 hy.0 l.0 k.0, g x.second y.second e.1 c.1 hx.1 hy.1 l.1 k.1)
