-- The order of two lists of which the first values are kept and all others are one value, place by place.
use Rattle.std.proofs.Common.{◌≡◌, ℕ, zero, suc, ◌+◌, ◌-◌, ◌<◌, ◌≤◌, Bool, true, false, ◌&&◌, List, ◌∷◌, length}
use Rattle.std.proofs.Common.{get_or, drop, replicate, sym, ap, ◌∙◌, refl, arith}
use Rattle.std.proofs.lemmas.List.{drop_more}
use Rattle.kc_lattice.specs.Rows.{rows_below}
use Rattle.kc_frames.specs.Padded.{padded}
use Rattle.kc_frames.proofs.PaddedLemmas.{length-padded, get_or-padded, drop-padded}

and_true : (b : Bool) → (b && true) ≡ b
and_true true = refl
and_true false = refl

and_same : (b : Bool) → (b && b) ≡ b
and_same true = refl
and_same false = refl

module _ {V : Type 0} (f : V → V → Bool) where
  -- one value many times
  pub below_last : (k : ℕ) (r s : V) → rows_below f (replicate (suc k) r) (replicate (suc k) s) ≡ f r s
  below_last zero r s = and_true (f r s)
  below_last (suc k) r s = ap (λ b. f r s && b) (below_last k r s) ∙ and_same (f r s)

  module _ (n : ℕ) (r s : V) (xs ys : List V) (few : length xs ≤ n) (few' : length ys ≤ n) where
    Left : ℕ → Bool
    Left i = rows_below f (drop i (padded n r xs)) (drop i (padded n s ys))

    pub below_one : (i : ℕ) (x y : V) → i < n → x ≡ get_or xs i r → y ≡ get_or ys i s
        → rows_below f (drop i (padded n r xs)) (drop i (padded n s ys))
        ≡ (f x y && rows_below f (drop (i + 1) (padded n r xs)) (drop (i + 1) (padded n s ys)))
    below_one i x y below ex ey =
        let P = padded n r xs in
        let Q = padded n s ys in
        let p : i < length P = omega (arith, length-padded n r xs few, below) in
        let q : i < length Q = omega (arith, length-padded n s ys few', below) in
        let atx : get_or P i r ≡ x = sym (ex ∙ get_or-padded n i r r xs few below) in
        let aty : get_or Q i s ≡ y = sym (ey ∙ get_or-padded n i s s ys few' below) in
        ap (λ us. rows_below f us (drop i Q)) (drop_more P i r p)
        ∙ ap (λ vs. rows_below f (get_or P i r ∷ drop (i + 1) P) vs) (drop_more Q i s q)
        ∙ ap (λ z. f z (get_or Q i s) && rows_below f (drop (i + 1) P) (drop (i + 1) Q)) atx
        ∙ ap (λ z. f x z && rows_below f (drop (i + 1) P) (drop (i + 1) Q)) aty

    pub below_all : (i : ℕ) → i ≡ n → true ≡ rows_below f (drop i (padded n r xs)) (drop i (padded n s ys))
    below_all i whole =
        let none : n - i ≡ 0 = omega (arith, whole) in
        sym (ap (λ us. rows_below f us (drop i (padded n s ys))) (drop-padded n i r xs few (omega (arith, whole, few)))
        ∙ ap (λ vs. rows_below f (replicate (n - i) r) vs) (drop-padded n i s ys few' (omega (arith, whole, few')))
        ∙ ap (λ k. rows_below f (replicate k r) (replicate k s)) none)

    pub below_rest : (i : ℕ) → i < n → length xs ≤ i → length ys ≤ i
        → f r s ≡ rows_below f (drop i (padded n r xs)) (drop i (padded n s ys))
    below_rest i below past past' =
        let some : n - i ≡ suc (n - i - 1) = omega (arith, below) in
        sym (ap (λ us. rows_below f us (drop i (padded n s ys))) (drop-padded n i r xs few past)
        ∙ ap (λ vs. rows_below f (replicate (n - i) r) vs) (drop-padded n i s ys few' past')
        ∙ ap (λ k. rows_below f (replicate k r) (replicate k s)) some ∙ below_last (n - i - 1) r s)
