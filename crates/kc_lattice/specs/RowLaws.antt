-- A row keeps the laws of its items: the laws of the row's `Domain` and `Meaning` cite these.
use Rattle.std.proofs.Common.{◌≡◌, ℕ, ◌+◌, ◌≤◌, Bool, true, List, [], ◌∷◌, map, All, sum_by, refl, sym, ap, ◌∙◌, arith}
use Rattle.std.specs.List.{AllZip}
use Rattle.std.proofs.lemmas.Bool.{and_parts, and_from, false≢true}
use Rattle.std.proofs.lemmas.List.Elements.{All-nil, All-cons, All-head, All-tail, All-map, All-weaker}
use Rattle.std.proofs.lemmas.List.Sums.{sum_by-cons}
use Rattle.kc_lattice.specs.Laws.{Laws}
use Rattle.kc_lattice.specs.Rows.{rows_below, rows_joined}

module _ {A : Type 0} {valid : A → Type 0} {alike : A → A → Type 0} {below : A → A → Bool} {joined : A → A → A}
    {top_of : A → A} {rank : A → ℕ}
    (m : Laws valid alike below joined top_of rank) where
  alike_refl : (xs : List A) → All valid xs → AllZip alike xs xs
  alike_refl [] h = tt
  alike_refl (x ∷ xs) h = (m.alike_refl x (All-head valid x xs h), alike_refl xs (All-tail valid x xs h))

  alike_sym : (xs ys : List A) → All valid xs → All valid ys → AllZip alike xs ys → AllZip alike ys xs
  alike_sym [] [] hx hy h = tt
  alike_sym [] (y ∷ ys) hx hy h = absurd h
  alike_sym (x ∷ xs) [] hx hy h = absurd h
  alike_sym (x ∷ xs) (y ∷ ys) hx hy h = (
    m.alike_sym x y (All-head valid x xs hx) (All-head valid y ys hy) h.0,
    alike_sym xs ys (All-tail valid x xs hx) (All-tail valid y ys hy) h.1,
  )

  alike_trans : (xs ys zs : List A) → All valid xs → All valid ys → All valid zs → AllZip alike xs ys
      → AllZip alike ys zs → AllZip alike xs zs
  alike_trans [] [] zs hx hy hz h k = k
  alike_trans [] (y ∷ ys) zs hx hy hz h k = absurd h
  alike_trans (x ∷ xs) [] zs hx hy hz h k = absurd h
  alike_trans (x ∷ xs) (y ∷ ys) [] hx hy hz h k = absurd k
  alike_trans (x ∷ xs) (y ∷ ys) (z ∷ zs) hx hy hz h k = (
    m.alike_trans x y z (All-head valid x xs hx) (All-head valid y ys hy) (All-head valid z zs hz) h.0 k.0,
    alike_trans xs ys zs (All-tail valid x xs hx) (All-tail valid y ys hy) (All-tail valid z zs hz) h.1 k.1,
  )

  ordered_alike : (xs ys : List A) → All valid xs → All valid ys → rows_below below xs ys ≡ true → AllZip alike xs ys
  ordered_alike [] [] hx hy h = tt
  ordered_alike [] (y ∷ ys) hx hy h = absurd (false≢true h)
  ordered_alike (x ∷ xs) [] hx hy h = absurd (false≢true h)
  ordered_alike (x ∷ xs) (y ∷ ys) hx hy h =
      let p = and_parts (below x y) (rows_below below xs ys) h in (
        m.ordered_alike x y (All-head valid x xs hx) (All-head valid y ys hy) p.0,
        ordered_alike xs ys (All-tail valid x xs hx) (All-tail valid y ys hy) p.1,
      )

  below_refl : (xs : List A) → All valid xs → rows_below below xs xs ≡ true
  below_refl [] h = refl
  below_refl (x ∷ xs) h =
      and_from (below x x) (rows_below below xs xs) (m.below_refl x (All-head valid x xs h))
      (below_refl xs (All-tail valid x xs h))

  below_trans : (xs ys zs : List A) → All valid xs → All valid ys → All valid zs →
      rows_below below xs ys ≡ true → rows_below below ys zs ≡ true → rows_below below xs zs ≡ true
  below_trans [] [] zs hx hy hz h k = k
  below_trans [] (y ∷ ys) zs hx hy hz h k = absurd (false≢true h)
  below_trans (x ∷ xs) [] zs hx hy hz h k = absurd (false≢true h)
  below_trans (x ∷ xs) (y ∷ ys) [] hx hy hz h k = absurd (false≢true k)
  below_trans (x ∷ xs) (y ∷ ys) (z ∷ zs) hx hy hz h k =
      let p = and_parts (below x y) (rows_below below xs ys) h in
      let q = and_parts (below y z) (rows_below below ys zs) k in
      and_from (below x z) (rows_below below xs zs)
      (m.below_trans x y z (All-head valid x xs hx) (All-head valid y ys hy) (All-head valid z zs hz) p.0 q.0)
      (below_trans xs ys zs (All-tail valid x xs hx) (All-tail valid y ys hy) (All-tail valid z zs hz) p.1 q.1)

  below_antisym : (xs ys : List A) → All valid xs → All valid ys → rows_below below xs ys ≡ true
      → rows_below below ys xs ≡ true → xs ≡ ys
  below_antisym [] [] hx hy h k = refl
  below_antisym [] (y ∷ ys) hx hy h k = absurd (false≢true h)
  below_antisym (x ∷ xs) [] hx hy h k = absurd (false≢true h)
  below_antisym (x ∷ xs) (y ∷ ys) hx hy h k =
      let p = and_parts (below x y) (rows_below below xs ys) h in
      let q = and_parts (below y x) (rows_below below ys xs) k in
      let first : x ≡ y = m.below_antisym x y (All-head valid x xs hx) (All-head valid y ys hy) p.0 q.0 in
      let rest : xs ≡ ys = below_antisym xs ys (All-tail valid x xs hx) (All-tail valid y ys hy) p.1 q.1 in
      ap (λ (z : A). z ∷ xs) first ∙ ap (λ (zs : List A). y ∷ zs) rest

  join_valid : (xs ys : List A) → All valid xs → All valid ys → AllZip alike xs ys
      → All valid (rows_joined joined xs ys)
  join_valid [] [] hx hy h = All-nil valid
  join_valid [] (y ∷ ys) hx hy h = absurd h
  join_valid (x ∷ xs) [] hx hy h = absurd h
  join_valid (x ∷ xs) (y ∷ ys) hx hy h =
      All-cons valid (joined x y) (rows_joined joined xs ys)
      (m.join_valid x y (All-head valid x xs hx) (All-head valid y ys hy) h.0)
      (join_valid xs ys (All-tail valid x xs hx) (All-tail valid y ys hy) h.1)

  join_left : (xs ys : List A) → All valid xs → All valid ys → AllZip alike xs ys
      → rows_below below xs (rows_joined joined xs ys) ≡ true
  join_left [] [] hx hy h = refl
  join_left [] (y ∷ ys) hx hy h = absurd h
  join_left (x ∷ xs) [] hx hy h = absurd h
  join_left (x ∷ xs) (y ∷ ys) hx hy h =
      and_from (below x (joined x y)) (rows_below below xs (rows_joined joined xs ys))
      (m.join_left x y (All-head valid x xs hx) (All-head valid y ys hy) h.0)
      (join_left xs ys (All-tail valid x xs hx) (All-tail valid y ys hy) h.1)

  join_right : (xs ys : List A) → All valid xs → All valid ys → AllZip alike xs ys
      → rows_below below ys (rows_joined joined xs ys) ≡ true
  join_right [] [] hx hy h = refl
  join_right [] (y ∷ ys) hx hy h = absurd h
  join_right (x ∷ xs) [] hx hy h = absurd h
  join_right (x ∷ xs) (y ∷ ys) hx hy h =
      and_from (below y (joined x y)) (rows_below below ys (rows_joined joined xs ys))
      (m.join_right x y (All-head valid x xs hx) (All-head valid y ys hy) h.0)
      (join_right xs ys (All-tail valid x xs hx) (All-tail valid y ys hy) h.1)

  join_least : (xs ys zs : List A) → All valid xs → All valid ys → All valid zs → AllZip alike xs ys →
      rows_below below xs zs ≡ true → rows_below below ys zs ≡ true
      → rows_below below (rows_joined joined xs ys) zs ≡ true
  join_least [] [] zs hx hy hz h k l = k
  join_least [] (y ∷ ys) zs hx hy hz h k l = absurd h
  join_least (x ∷ xs) [] zs hx hy hz h k l = absurd h
  join_least (x ∷ xs) (y ∷ ys) [] hx hy hz h k l = absurd (false≢true k)
  join_least (x ∷ xs) (y ∷ ys) (z ∷ zs) hx hy hz h k l =
      let p = and_parts (below x z) (rows_below below xs zs) k in
      let q = and_parts (below y z) (rows_below below ys zs) l in
      and_from (below (joined x y) z) (rows_below below (rows_joined joined xs ys) zs)
      (m.join_least x y z (All-head valid x xs hx) (All-head valid y ys hy) (All-head valid z zs hz) h.0 p.0 q.0)
      (join_least xs ys zs (All-tail valid x xs hx) (All-tail valid y ys hy) (All-tail valid z zs hz) h.1 p.1 q.1)

  top_above : (xs ys : List A) → All valid xs → All valid ys → AllZip alike xs ys
      → rows_below below ys (map top_of xs) ≡ true
  top_above [] [] hx hy h = refl
  top_above [] (y ∷ ys) hx hy h = absurd h
  top_above (x ∷ xs) [] hx hy h = absurd h
  top_above (x ∷ xs) (y ∷ ys) hx hy h =
      and_from (below y (top_of x)) (rows_below below ys (map top_of xs))
      (m.top_above x y (All-head valid x xs hx) (All-head valid y ys hy) h.0)
      (top_above xs ys (All-tail valid x xs hx) (All-tail valid y ys hy) h.1)

  rank_falls : (xs ys : List A) → All valid xs → All valid ys → rows_below below xs ys ≡ true
      → sum_by rank ys ≤ sum_by rank xs
  rank_falls [] [] hx hy h = omega arith
  rank_falls [] (y ∷ ys) hx hy h = absurd (false≢true h)
  rank_falls (x ∷ xs) [] hx hy h = absurd (false≢true h)
  rank_falls (x ∷ xs) (y ∷ ys) hx hy h =
      let p = and_parts (below x y) (rows_below below xs ys) h in
      let first : rank y ≤ rank x = m.rank_falls x y (All-head valid x xs hx) (All-head valid y ys hy) p.0 in
      let rest : sum_by rank ys ≤ sum_by rank xs =
      rank_falls xs ys (All-tail valid x xs hx) (All-tail valid y ys hy) p.1 in
      omega (arith, sum_by-cons rank x xs, sum_by-cons rank y ys)

  rank_tied : (xs ys : List A) → All valid xs → All valid ys → rows_below below xs ys ≡ true
      → sum_by rank xs ≡ sum_by rank ys → xs ≡ ys
  rank_tied [] [] hx hy h e = refl
  rank_tied [] (y ∷ ys) hx hy h e = absurd (false≢true h)
  rank_tied (x ∷ xs) [] hx hy h e = absurd (false≢true h)
  rank_tied (x ∷ xs) (y ∷ ys) hx hy h e =
      let p = and_parts (below x y) (rows_below below xs ys) h in
      let vx = All-head valid x xs hx in
      let vy = All-head valid y ys hy in
      let wx = All-tail valid x xs hx in
      let wy = All-tail valid y ys hy in
      let first : rank y ≤ rank x = m.rank_falls x y vx vy p.0 in
      let rest : sum_by rank ys ≤ sum_by rank xs = rank_falls xs ys wx wy p.1 in
      let sums : rank x + sum_by rank xs ≡ rank y + sum_by rank ys = sym (sum_by-cons rank x xs) ∙ e
      ∙ sum_by-cons rank y ys in
      let same : x ≡ y = m.rank_tied x y vx vy p.0 (omega (arith, sums)) in
      let others : xs ≡ ys = rank_tied xs ys wx wy p.1 (omega (arith, sums)) in
      ap (λ (z : A). z ∷ xs) same ∙ ap (λ (zs : List A). y ∷ zs) others

  pub rows_laws : Laws (All valid) (AllZip alike) (rows_below below) (rows_joined joined) (map top_of) (sum_by rank)
  rows_laws = record {
    alike_refl = alike_refl;
    alike_sym = alike_sym;
    alike_trans = alike_trans;
    ordered_alike = ordered_alike;
    below_refl = below_refl;
    below_trans = below_trans;
    below_antisym = below_antisym;
    join_valid = join_valid;
    join_left = join_left;
    join_right = join_right;
    join_least = join_least;
    top_valid = λ xs h. All-map valid top_of xs (All-weaker valid (λ x. valid (top_of x)) m.top_valid xs h);
    top_above = top_above;
    rank_falls = rank_falls;
    rank_tied = rank_tied;
  }

module _ {A C : Type 0} (valid : A → Type 0) (below : A → A → Bool) (holds : A → C → Type 0)
    (grows : (x y : A) (c : C) → valid x → valid y → below x y ≡ true → holds x c → holds y c) where
  pub rows_grows : (xs ys : List A) (cs : List C) → All valid xs → All valid ys → rows_below below xs ys ≡ true
      → AllZip holds xs cs → AllZip holds ys cs
  rows_grows [] [] cs hx hy h k = k
  rows_grows [] (y ∷ ys) cs hx hy h k = absurd (false≢true h)
  rows_grows (x ∷ xs) [] cs hx hy h k = absurd (false≢true h)
  rows_grows (x ∷ xs) (y ∷ ys) [] hx hy h k = absurd k
  rows_grows (x ∷ xs) (y ∷ ys) (c ∷ cs) hx hy h k =
      let p = and_parts (below x y) (rows_below below xs ys) h in (
        grows x y c (All-head valid x xs hx) (All-head valid y ys hy) p.0 k.0,
        rows_grows xs ys cs (All-tail valid x xs hx) (All-tail valid y ys hy) p.1 k.1,
      )
