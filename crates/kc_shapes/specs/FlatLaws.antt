-- A flat order is a domain: its laws, from those of the test for the same value.
use Rattle.std.proofs.Common.{◌≡◌, ◌≤◌, Bool, true, false, ◌||◌, cond, refl, sym, ap, ◌∙◌, subst, inl, inr, ◌⊎◌, arith}
use Rattle.std.proofs.lemmas.Bool.{cases_Bool, false≢true}
use Rattle.kc_lattice.specs.Laws.{Laws, AllAlike}
use Rattle.kc_shapes.specs.Flat.{AllValid, flat_below, flat_joined, flat_rank}

module _ {A : Type 0} (same : A → A → Bool) (any : A) (same_is : (x y : A) → same x y ≡ true → x ≡ y)
    (same_refl : (x : A) → same x x ≡ true) where
  is_same : (x y : A) → x ≡ y → same x y ≡ true
  is_same x y e = ap (λ (z : A). same z y) e ∙ same_refl y

  -- below: the greater is any, or they are one
  below_cases : (x y : A) → flat_below same any x y ≡ true → (y ≡ any) ⊎ (x ≡ y)
  below_cases x y h = elim (cases_Bool (same y any)) [
    | inl p ↦ inl (same_is y any p)
    | inr p ↦ inr (same_is x y (sym (ap (λ (b : Bool). b || same x y) p) ∙ h))
  ]

  below_any : (x y : A) → y ≡ any → flat_below same any x y ≡ true
  below_any x y e = ap (λ (b : Bool). b || same x y) (is_same y any e)

  below_same : (x y : A) → x ≡ y → flat_below same any x y ≡ true
  below_same x y e = elim (cases_Bool (same y any)) [
    | inl p ↦ ap (λ (b : Bool). b || same x y) p
    | inr p ↦ ap (λ (b : Bool). b || same x y) p ∙ is_same x y e
  ]

  -- a join is the first where the two are one, and any else
  joined_cases : (x y : A) → ((x ≡ y) × (flat_joined same any x y ≡ x))
      ⊎ ((same x y ≡ false) × (flat_joined same any x y ≡ any))
  joined_cases x y = elim (cases_Bool (same x y)) [
    | inl e ↦ inl (same_is x y e, ap (λ (b : Bool). cond b x any) e)
    | inr e ↦ inr (e, ap (λ (b : Bool). cond b x any) e)
  ]

  trans : (x y z : A) → flat_below same any x y ≡ true → flat_below same any y z ≡ true → flat_below same any x z ≡ true
  trans x y z h k = elim (below_cases y z k) [
    | inl p ↦ below_any x z p
    | inr e ↦ elim (below_cases x y h) [ inl p ↦ below_any x z (sym e ∙ p) | inr f ↦ below_same x z (f ∙ e) ]
  ]

  antisym : (x y : A) → flat_below same any x y ≡ true → flat_below same any y x ≡ true → x ≡ y
  antisym x y h k = elim (below_cases x y h) [
    | inr e ↦ e
    | inl p ↦ elim (below_cases y x k) [ inr e ↦ sym e | inl q ↦ q ∙ sym p ]
  ]

  left : (x y : A) → flat_below same any x (flat_joined same any x y) ≡ true
  left x y = elim (joined_cases x y) [
    | inl p ↦ below_same x (flat_joined same any x y) (sym p.1)
    | inr p ↦ below_any x (flat_joined same any x y) p.1
  ]

  right : (x y : A) → flat_below same any y (flat_joined same any x y) ≡ true
  right x y = elim (joined_cases x y) [
    | inl p ↦ below_same y (flat_joined same any x y) (sym p.0 ∙ sym p.1)
    | inr p ↦ below_any y (flat_joined same any x y) p.1
  ]

  least : (x y z : A) → flat_below same any x z ≡ true → flat_below same any y z ≡ true
      → flat_below same any (flat_joined same any x y) z ≡ true
  least x y z h k = elim (joined_cases x y) [
    | inl p ↦ ap (λ (v : A). flat_below same any v z) p.1 ∙ h
    | inr p ↦ elim (below_cases x z h) [
      | inl q ↦ below_any (flat_joined same any x y) z q
      | inr e ↦ elim (below_cases y z k) [
        | inl q ↦ below_any (flat_joined same any x y) z q
        | inr f ↦ absurd (false≢true (sym p.0 ∙ is_same x y (e ∙ sym f)))
      ]
    ]
  ]

  pub flat_rank-le : (x : A) → flat_rank same any x ≤ 1
  flat_rank-le x = elim (cases_Bool (same x any)) [
    | inl p ↦ let e : flat_rank same any x ≡ 0 = ap (λ (b : Bool). cond b 0 1) p in omega (arith, e)
    | inr p ↦ let e : flat_rank same any x ≡ 1 = ap (λ (b : Bool). cond b 0 1) p in omega (arith, e)
  ]

  falls : (x y : A) → flat_below same any x y ≡ true → flat_rank same any y ≤ flat_rank same any x
  falls x y h = elim (below_cases x y h) [
    | inl p ↦ let e : flat_rank same any y ≡ 0 = ap (λ (b : Bool). cond b 0 1) (is_same y any p) in omega (arith, e)
    | inr p ↦ let e : flat_rank same any x ≡ flat_rank same any y = ap (flat_rank same any) p in omega (arith, e)
  ]

  tied : (x y : A) → flat_below same any x y ≡ true → flat_rank same any x ≡ flat_rank same any y → x ≡ y
  tied x y h e = elim (below_cases x y h) [
    | inr p ↦ p
    | inl p ↦ elim (cases_Bool (same x any)) [
      | inl q ↦ same_is x any q ∙ sym p
      | inr q ↦
          let zero_is : flat_rank same any y ≡ 0 = ap (λ (b : Bool). cond b 0 1) (is_same y any p) in
          let one_is : flat_rank same any x ≡ 1 = ap (λ (b : Bool). cond b 0 1) q in
          absurd (omega (arith, e, zero_is, one_is))
    ]
  ]

  pub flat_laws : Laws AllValid AllAlike (flat_below same any) (flat_joined same any) (λ x. any) (flat_rank same any)
  flat_laws = record {
    alike_refl = λ x h. tt;
    alike_sym = λ x y hx hy h. tt;
    alike_trans = λ x y z hx hy hz h k. tt;
    ordered_alike = λ x y hx hy h. tt;
    below_refl = λ x h. below_same x x refl;
    below_trans = λ x y z hx hy hz h k. trans x y z h k;
    below_antisym = λ x y hx hy h k. antisym x y h k;
    join_valid = λ x y hx hy h. tt;
    join_left = λ x y hx hy h. left x y;
    join_right = λ x y hx hy h. right x y;
    join_least = λ x y z hx hy hz h k l. least x y z k l;
    top_valid = λ x h. tt;
    top_above = λ x y hx hy h. below_any y any refl;
    rank_falls = λ x y hx hy h. falls x y h;
    rank_tied = λ x y hx hy h e. tied x y h e;
  }

  -- what a value stands for, a greater one stands for too, where any stands for all
  pub flat_grows : {C : Type 0} (holds : A → C → Type 0) → ((c : C) → holds any c) → (x y : A) (c : C)
      → flat_below same any x y ≡ true → holds x c → holds y c
  flat_grows holds all x y c h k = elim (below_cases x y h) [
    | inl p ↦ subst (λ (z : A). holds z c) (sym p) (all c)
    | inr e ↦ subst (λ (z : A). holds z c) e k
  ]
