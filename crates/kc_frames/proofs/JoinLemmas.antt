-- The join of two lists of which the first values are kept and all others are one value, place by place.
use Rattle.std.proofs.Common.{◌≡◌, ℕ, zero, suc, ◌+◌, ◌-◌, ◌<◌, ◌≤◌, List, [], ◌∷◌, ◌++◌, length, get_or, take, drop, set}
use Rattle.std.proofs.Common.{replicate, sym, ap, ◌∙◌, refl, subst, append_assoc, arith}
use Rattle.std.proofs.lemmas.List.{take_all, drop_all, take_more_set, drop-set-lt, append-nil}
use Rattle.std.specs.List.{AllZip}
use Rattle.kc_lattice.specs.Rows.{rows_joined}
use Rattle.kc_lattice.proofs.ListLemmas.{drop_read}
use Rattle.kc_frames.specs.Padded.{padded}
use Rattle.kc_frames.proofs.PaddedLemmas.{length-padded, padded_at}

module _ {V : Type 0} where
  module _ (R : V → V → Type 0) where
    -- pairs of two lists in two parts each
    alike_parts : (xs ys us vs : List V) → length xs ≡ length ys → AllZip R (xs ++ us) (ys ++ vs)
        → AllZip R xs ys × AllZip R us vs
    alike_parts [] [] us vs e h = (tt, h)
    alike_parts [] (y ∷ ys) us vs e h = absurd (omega (arith, e))
    alike_parts (x ∷ xs) [] us vs e h = absurd (omega (arith, e))
    alike_parts (x ∷ xs) (y ∷ ys) us vs e h =
        let rest = alike_parts xs ys us vs (omega (arith, e)) h.1 in
        ((h.0, rest.0), rest.1)

    alike_last : (k : ℕ) (r s : V) → 0 < k → AllZip R (replicate k r) (replicate k s) → R r s
    alike_last zero r s some h = absurd (omega (arith, some))
    alike_last (suc k) r s some h = h.0

    pub alike_padded : (n : ℕ) (r s : V) (xs ys : List V) → length ys ≤ length xs → length xs ≤ n
        → AllZip R (padded n r xs) (padded n s ys)
        → AllZip R xs (padded (length xs) s ys) × (length xs < n → R r s)
    unfolding padded
    alike_padded n r s xs ys few within h =
        let k = n - length xs in
        let there = padded (length xs) s ys in
        let parts = alike_parts xs there (replicate k r) (replicate k s) (sym (length-padded (length xs) s ys few))
        (subst (λ vs. AllZip R (padded n r xs) vs) (padded_at n (length xs) s ys few within) h) in
        (parts.0, λ some. alike_last k r s (omega (arith, some)) parts.1)

  module _ (f : V → V → V) where
    join_parts : (xs ys us vs : List V) → length xs ≡ length ys
        → rows_joined f (xs ++ us) (ys ++ vs) ≡ rows_joined f xs ys ++ rows_joined f us vs
    join_parts [] [] us vs e = refl
    join_parts [] (y ∷ ys) us vs e = absurd (omega (arith, e))
    join_parts (x ∷ xs) [] us vs e = absurd (omega (arith, e))
    join_parts (x ∷ xs) (y ∷ ys) us vs e = ap (λ zs. f x y ∷ zs) (join_parts xs ys us vs (omega (arith, e)))

    join_last : (k : ℕ) (r s : V) → rows_joined f (replicate k r) (replicate k s) ≡ replicate k (f r s)
    join_last zero r s = refl
    join_last (suc k) r s = ap (λ zs. f r s ∷ zs) (join_last k r s)

    length-joined : (xs ys : List V) → length xs ≡ length ys → length (rows_joined f xs ys) ≡ length xs
    length-joined [] [] e = refl
    length-joined [] (y ∷ ys) e = refl
    length-joined (x ∷ xs) [] e = absurd (omega (arith, e))
    length-joined (x ∷ xs) (y ∷ ys) e = ap suc (length-joined xs ys (omega (arith, e)))

    -- the join of the first ones, and that of the rest if there is one
    pub join_padded : (n : ℕ) (r s t : V) (xs ys : List V) → length ys ≤ length xs → length xs ≤ n
        → (length xs < n → t ≡ f r s)
        → padded n t (rows_joined f xs (padded (length xs) s ys)) ≡ rows_joined f (padded n r xs) (padded n s ys)
    unfolding padded
    join_padded n r s t xs ys few within rest =
        let there = padded (length xs) s ys in
        let k = n - length xs in
        let count : length xs ≡ length there = sym (length-padded (length xs) s ys few) in
        let zs = rows_joined f xs there in
        ap (λ m. zs ++ replicate (n - m) t) (length-joined xs there count)
        ∙ ap (λ us. zs ++ us) (last k (λ some. rest (omega (arith, some))))
        ∙ sym (ap (λ vs. rows_joined f (padded n r xs) vs) (padded_at n (length xs) s ys few within)
        ∙ join_parts xs there (replicate k r) (replicate k s) count)
      where
        last : (k : ℕ) → (0 < k → t ≡ f r s) → replicate k t ≡ rows_joined f (replicate k r) (replicate k s)
        last zero h = refl
        last (suc k) h = ap (λ y. replicate (suc k) y) (h (omega arith)) ∙ sym (join_last (suc k) r s)

    -- one turn of the join place by place
    pub join_one : (i : ℕ) (v w y : V) (these those : List V) → i < length these → i < length those
        → v ≡ get_or these i v → y ≡ get_or those i y → w ≡ f v y
        → take (i + 1) (set these i w) ++ rows_joined f (drop (i + 1) (set these i w)) (drop (i + 1) those)
        ≡ take i these ++ rows_joined f (drop i these) (drop i those)
    join_one i v w y these those h h' ev ey is =
        let rest = rows_joined f (drop (i + 1) these) (drop (i + 1) those) in
        ap (λ front. front ++ rows_joined f (drop (i + 1) (set these i w)) (drop (i + 1) those))
        (take_more_set these i w h)
        ∙ ap (λ us. (take i these ++ w ∷ []) ++ rows_joined f us (drop (i + 1) those))
        (drop-set-lt (i + 1) these i w (omega arith))
        ∙ append_assoc (take i these) (w ∷ []) rest
        ∙ ap (λ z. take i these ++ (z ∷ rest)) is
        ∙ ap (λ us. take i these ++ rows_joined f us (y ∷ drop (i + 1) those)) (sym (drop_read these i v h ev))
        ∙ ap (λ vs. take i these ++ rows_joined f (drop i these) vs) (sym (drop_read those i y h' ey))

    pub join_all : (n : ℕ) (these those : List V) → length these ≤ n
        → take n these ++ rows_joined f (drop n these) (drop n those) ≡ these
    join_all n these those h =
        ap (λ us. take n these ++ rows_joined f us (drop n those)) (drop_all n these h) ∙ append-nil (take n these)
        ∙ take_all n these h
