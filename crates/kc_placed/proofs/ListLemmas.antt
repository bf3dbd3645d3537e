-- Lists as the loops here walk them. Slots: what is left of two lists decides their order. Numbers that rise: those that
-- pass a test are gathered one after the other. Each step is how a list is its item at an index before what comes after
-- it.
use Rattle.std.proofs.Common.{◌≡◌, ℕ, suc, ◌+◌, ◌-◌, ◌<◌, Bool, true, false, cond, ◌&&◌, List, [], ◌∷◌, ◌++◌, length, get_or, drop, append_assoc, sym, ap, ◌∙◌, refl, arith}
use Rattle.std.proofs.lemmas.List.{drop_more}
use Rattle.std.specs.Prelude.{filter}
use Rattle.kc_frames.specs.Slots.{redone}
use Rattle.kc_lattice.specs.Rows.{rows_below}
use Rattle.kc_cert.specs.Placed.{rising}

-- ---- slots

rows-at : {V : Type 0} (below : V → V → Bool) (f : ℕ → V → V) (xs ys : List V) (i : ℕ) (x y : V) → i < length xs
    → i < length ys → x ≡ get_or xs i x → y ≡ get_or ys i y
    → rows_below below (redone f i (drop i xs)) (drop i ys)
    ≡ (below (f i x) y && rows_below below (redone f (i + 1) (drop (i + 1) xs)) (drop (i + 1) ys))
rows-at {V = V} below f xs ys i x y lx ly ex ey =
    let one : suc i ≡ i + 1 = omega arith in
    ap (λ (l : List V). rows_below below (redone f i l) (drop i ys)) (drop_more xs i x lx)
    ∙ ap (λ (l : List V). rows_below below (f i (get_or xs i x) ∷ redone f (suc i) (drop (i + 1) xs)) l) (drop_more ys i y ly)
    ∙ (λ k. below (f i (sym ex k)) (sym ey k) && rows_below below (redone f (one k) (drop (i + 1) xs)) (drop (i + 1) ys))

module _ {V : Type 0} (below : V → V → Bool) (f : ℕ → V → V) (xs ys : List V) (i : ℕ) (x y made : V) (b : Bool)
    (lx : i < length xs) (ly : i < length ys) (ex : x ≡ get_or xs i x) (ey : y ≡ get_or ys i y) (em : made ≡ f i x)
    (eb : b ≡ below made y) where
  from-this : rows_below below (redone f i (drop i xs)) (drop i ys)
      ≡ (b && rows_below below (redone f (i + 1) (drop (i + 1) xs)) (drop (i + 1) ys))
  from-this =
      rows-at below f xs ys i x y lx ly ex ey
      ∙ ap (λ (t : Bool). t && rows_below below (redone f (i + 1) (drop (i + 1) xs)) (drop (i + 1) ys))
      (ap (λ (v : V). below v y) (sym em) ∙ sym eb)

  -- a pair out of order decides
  pub rows-fail : b ≡ false → false ≡ rows_below below (redone f i (drop i xs)) (drop i ys)
  rows-fail e =
      sym (from-this
      ∙ ap (λ (t : Bool). t && rows_below below (redone f (i + 1) (drop (i + 1) xs)) (drop (i + 1) ys)) e)

  -- after a pair in order what is left decides
  pub rows-pass : b ≡ true → rows_below below (redone f (i + 1) (drop (i + 1) xs)) (drop (i + 1) ys)
      ≡ rows_below below (redone f i (drop i xs)) (drop i ys)
  rows-pass e =
      sym (from-this
      ∙ ap (λ (t : Bool). t && rows_below below (redone f (i + 1) (drop (i + 1) xs)) (drop (i + 1) ys)) e)

pub same-redone : {V : Type 0} (f : ℕ → V) (i : ℕ) (xs ys : List V) → length xs ≡ length ys
    → redone (λ k old. f k) i xs ≡ redone (λ k old. f k) i ys
same-redone f i [] [] e = refl
same-redone f i [] (y ∷ ys) e = absurd (omega (arith, e))
same-redone f i (x ∷ xs) [] e = absurd (omega (arith, e))
same-redone {V = V} f i (x ∷ xs) (y ∷ ys) e = ap (λ (l : List V). f i ∷ l) (same-redone f (suc i) xs ys (omega (arith, e)))

-- ---- numbers that rise

pub rising-at : (v : ℕ) → v < 256 → rising v (256 - v) ≡ v ∷ rising (v + 1) (256 - (v + 1))
rising-at v lt =
    let one : suc v ≡ v + 1 = omega arith in
    let many : 256 - v ≡ suc (256 - (v + 1)) = omega (arith, lt) in
    ap (rising v) many ∙ ap (λ (n : ℕ). v ∷ rising n (256 - (v + 1))) one

module _ (test : ℕ → Bool) where
  abbrev pub passing : ℕ → List ℕ
  passing v = filter test (rising v (256 - v))

  from-here : (v : ℕ) → v < 256 → passing v ≡ cond (test v) (v ∷ passing (v + 1)) (passing (v + 1))
  from-here v lt = ap (λ (l : List ℕ). filter test l) (rising-at v lt)

  pub gathered-kept : (xs : List ℕ) (v : ℕ) → v < 256 → test v ≡ true
      → (xs ++ v ∷ []) ++ passing (v + 1) ≡ xs ++ passing v
  gathered-kept xs v lt e =
      append_assoc xs (v ∷ []) (passing (v + 1))
      ∙ sym (ap (λ (l : List ℕ). xs ++ l) (from-here v lt
      ∙ ap (λ (b : Bool). cond b (v ∷ passing (v + 1)) (passing (v + 1))) e))

  pub gathered-left : (xs : List ℕ) (v : ℕ) → v < 256 → test v ≡ false → xs ++ passing (v + 1) ≡ xs ++ passing v
  gathered-left xs v lt e =
      sym (ap (λ (l : List ℕ). xs ++ l) (from-here v lt
      ∙ ap (λ (b : Bool). cond b (v ∷ passing (v + 1)) (passing (v + 1))) e))
