-- Slots as a loop walks them: what is left of two lists decides their order.
use Rattle.std.proofs.Common.{◌≡◌, ℕ, suc, ◌+◌, ◌<◌, Bool, true, false, ◌&&◌, List, ◌∷◌, length, get_or, drop, sym, ap, ◌∙◌, arith}
use Rattle.std.proofs.lemmas.List.{drop_more}
use Rattle.kc_frames.specs.Slots.{redone}
use Rattle.kc_lattice.specs.Rows.{rows_below}

-- a pair, and what comes after it
rows-at : {V : Type 0} (below : V → V → Bool) (f : ℕ → V → V) (xs ys : List V) (i : ℕ) (x y : V) → i < length xs
    → i < length ys → x ≡ get_or xs i x → y ≡ get_or ys i y
    → rows_below below (redone f i (drop i xs)) (drop i ys)
    ≡ (below (f i x) y && rows_below below (redone f (i + 1) (drop (i + 1) xs)) (drop (i + 1) ys))
rows-at {V = V} below f xs ys i x y lx ly ex ey =
    let one : suc i ≡ i + 1 = omega arith in
    ap (λ (l : List V). rows_below below (redone f i l) (drop i ys)) (drop_more xs i x lx)
    ∙ ap (λ (l : List V). rows_below below (f i (get_or xs i x) ∷ redone f (suc i) (drop (i + 1) xs)) l) (drop_more ys i y ly)
    ∙ (λ k. below (f i (sym ex k)) (sym ey k) && rows_below below (redone f (one k) (drop (i + 1) xs)) (drop (i + 1) ys))

module _ {V : Type 0} (below : V → V → Bool) (f : ℕ → V → V) (xs ys : List V) (i : ℕ) (x y : V) (b : Bool)
    (lx : i < length xs) (ly : i < length ys) (ex : x ≡ get_or xs i x) (ey : y ≡ get_or ys i y)
    (eb : b ≡ below (f i x) y) where
  from-this : rows_below below (redone f i (drop i xs)) (drop i ys)
      ≡ (b && rows_below below (redone f (i + 1) (drop (i + 1) xs)) (drop (i + 1) ys))
  from-this =
      rows-at below f xs ys i x y lx ly ex ey
      ∙ ap (λ (t : Bool). t && rows_below below (redone f (i + 1) (drop (i + 1) xs)) (drop (i + 1) ys)) (sym eb)

  -- a pair out of order decides
  pub rows-fail : b ≡ false → false ≡ rows_below below (redone f i (drop i xs)) (drop i ys)
  rows-fail e =
      sym (from-this
      ∙ ap (λ (t : Bool). t && rows_below below (redone f (i + 1) (drop (i + 1) xs)) (drop (i + 1) ys)) e)

  -- after a pair in order what is left decides
  pub rows-pass : b ≡ true → rows_below below (redone f (i + 1) (drop (i + 1) xs)) (drop (i + 1) ys)
      ≡ rows_below below (redone f i (drop i xs)) (drop i ys)
  rows-pass e =
      sym (from-this
      ∙ ap (λ (t : Bool). t && rows_below below (redone f (i + 1) (drop (i + 1) xs)) (drop (i + 1) ys)) e)
