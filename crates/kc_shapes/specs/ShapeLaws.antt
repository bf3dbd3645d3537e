-- Laws that one domain has from another: where fewer values are valid, and where the same parts stand in a
-- record of another type.
use Rattle.std.proofs.Common.{◌≡◌, ℕ, Bool, true, sym, ap, ◌∙◌, subst}
use Rattle.kc_lattice.specs.Laws.{Laws, AllAlike}

module _ {A : Type 0} {valid : A → Type 0} {alike : A → A → Type 0} {below : A → A → Bool} {joined : A → A → A}
    {top_of : A → A} {rank : A → ℕ}
    (m : Laws valid alike below joined top_of rank) (kept : A → Type 0) where
  -- only the values that have a further fact are valid, which joins and tops keep
  pub narrowed_laws : ((x y : A) → kept x → kept y → alike x y → kept (joined x y))
      → ((x : A) → kept x → kept (top_of x)) →
      Laws (λ x. valid x × kept x) alike below joined top_of rank
  narrowed_laws joins tops = record {
    alike_refl = λ x h. m.alike_refl x h.0;
    alike_sym = λ x y hx hy h. m.alike_sym x y hx.0 hy.0 h;
    alike_trans = λ x y z hx hy hz h k. m.alike_trans x y z hx.0 hy.0 hz.0 h k;
    ordered_alike = λ x y hx hy h. m.ordered_alike x y hx.0 hy.0 h;
    below_refl = λ x h. m.below_refl x h.0;
    below_trans = λ x y z hx hy hz h k. m.below_trans x y z hx.0 hy.0 hz.0 h k;
    below_antisym = λ x y hx hy h k. m.below_antisym x y hx.0 hy.0 h k;
    join_valid = λ x y hx hy h. (m.join_valid x y hx.0 hy.0 h, joins x y hx.1 hy.1 h);
    join_left = λ x y hx hy h. m.join_left x y hx.0 hy.0 h;
    join_right = λ x y hx hy h. m.join_right x y hx.0 hy.0 h;
    join_least = λ x y z hx hy hz h k l. m.join_least x y z hx.0 hy.0 hz.0 h k l;
    top_valid = λ x h. (m.top_valid x h.0, tops x h.1);
    top_above = λ x y hx hy h. m.top_above x y hx.0 hy.0 h;
    rank_falls = λ x y hx hy h. m.rank_falls x y hx.0 hy.0 h;
    rank_tied = λ x y hx hy h e. m.rank_tied x y hx.0 hy.0 h e;
  }

module _ {A B : Type 0} {valid : B → Type 0} {alike : B → B → Type 0} {below : B → B → Bool} {joined : B → B → B}
    {top_of : B → B} {rank : B → ℕ}
    (m : Laws valid alike below joined top_of rank)
    (to : A → B) (from : B → A) (from_to : (x : A) → from (to x) ≡ x) (to_from : (y : B) → to (from y) ≡ y)
    (fits : A → Type 0) (fits_to : (x : A) → fits x → valid (to x)) (fits_from : (y : B) → valid y → fits (from y))
    (one_shape : (x y : A) → fits x → fits y → alike (to x) (to y)) where
  same : (x y : A) → to x ≡ to y → x ≡ y
  same x y e = sym (from_to x) ∙ ap from e ∙ from_to y

  -- a record that holds the parts of a value of B, of which all are alike
  pub reshaped_laws : Laws fits AllAlike (λ x y. below (to x) (to y)) (λ x y. from (joined (to x) (to y)))
      (λ x. from (top_of (to x))) (λ x. rank (to x))
  reshaped_laws = record {
    alike_refl = λ x h. tt;
    alike_sym = λ x y hx hy h. tt;
    alike_trans = λ x y z hx hy hz h k. tt;
    ordered_alike = λ x y hx hy h. tt;
    below_refl = λ x h. m.below_refl (to x) (fits_to x h);
    below_trans =
        λ x y z hx hy hz h k. m.below_trans (to x) (to y) (to z) (fits_to x hx) (fits_to y hy) (fits_to z hz) h k;
    below_antisym = λ x y hx hy h k. same x y (m.below_antisym (to x) (to y) (fits_to x hx) (fits_to y hy) h k);
    join_valid = λ x y hx hy h. fits_from (joined (to x) (to y))
        (m.join_valid (to x) (to y) (fits_to x hx) (fits_to y hy) (one_shape x y hx hy));
    join_left = λ x y hx hy h.
        subst (λ (z : B). below (to x) z ≡ true) (sym (to_from (joined (to x) (to y))))
        (m.join_left (to x) (to y) (fits_to x hx) (fits_to y hy) (one_shape x y hx hy));
    join_right = λ x y hx hy h.
        subst (λ (z : B). below (to y) z ≡ true) (sym (to_from (joined (to x) (to y))))
        (m.join_right (to x) (to y) (fits_to x hx) (fits_to y hy) (one_shape x y hx hy));
    join_least = λ x y z hx hy hz h k l.
        subst (λ (v : B). below v (to z) ≡ true) (sym (to_from (joined (to x) (to y))))
        (m.join_least (to x) (to y) (to z) (fits_to x hx) (fits_to y hy) (fits_to z hz) (one_shape x y hx hy) k l);
    top_valid = λ x h. fits_from (top_of (to x)) (m.top_valid (to x) (fits_to x h));
    top_above = λ x y hx hy h.
        subst (λ (z : B). below (to y) z ≡ true) (sym (to_from (top_of (to x))))
        (m.top_above (to x) (to y) (fits_to x hx) (fits_to y hy) (one_shape x y hx hy));
    rank_falls = λ x y hx hy h. m.rank_falls (to x) (to y) (fits_to x hx) (fits_to y hy) h;
    rank_tied = λ x y hx hy h e. same x y (m.rank_tied (to x) (to y) (fits_to x hx) (fits_to y hy) h e);
  }
