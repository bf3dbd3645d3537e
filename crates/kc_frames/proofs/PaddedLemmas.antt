-- What a list is of which the first values are kept and all others are one value.
use Rattle.std.proofs.Common.{◌≡◌, ℕ, zero, suc, ◌+◌, ◌-◌, ◌<◌, ◌≤◌, List, [], ◌∷◌, ◌++◌, length, get_or, take, drop}
use Rattle.std.proofs.Common.{set, map, replicate, All, sym, ap, ◌∙◌, refl, append_assoc, arith}
use Rattle.std.proofs.lemmas.List.{length-append, length-replicate, length-set, length-map, length_push, get_or-replicate}
use Rattle.std.proofs.lemmas.List.{get_or_past, set-append_left, set-get_or, map-append, drop-replicate, take_at, drop_at}
use Rattle.std.proofs.lemmas.List.{replicate-append-replicate, length-take-le, take_more, take_all}
use Rattle.std.proofs.lemmas.List.Elements.{All-append, All-replicate}
use Rattle.kc_frames.specs.Padded.{padded}

-- two lists of two parts, by their parts
pub same_parts : {A : Type 0} (xs ys us vs : List A) → length xs ≡ length ys → xs ++ us ≡ ys ++ vs
    → (xs ≡ ys) × (us ≡ vs)
same_parts xs ys us vs count e =
    let n = length ys in (
      sym (take_at xs us n count) ∙ ap (take n) e ∙ take_at ys vs n refl,
      sym (drop_at xs us n count) ∙ ap (drop n) e ∙ drop_at ys vs n refl,
    )

map-replicate : {A B : Type 0} (f : A → B) (n : ℕ) (r : A) → map f (replicate n r) ≡ replicate n (f r)
map-replicate f zero r = refl
map-replicate f (suc n) r = ap (λ ys. f r ∷ ys) (map-replicate f n r)

module _ {V : Type 0} where
  pub length-padded : (n : ℕ) (r : V) (xs : List V) → length xs ≤ n → length (padded n r xs) ≡ n
  unfolding padded
  length-padded n r xs within =
      let k = n - length xs in
      let whole : length xs + k ≡ n = omega (arith, within) in
      length-append xs (replicate k r) ∙ ap (λ m. length xs + m) (length-replicate k r) ∙ whole

  pub get_or-padded : (n i : ℕ) (r d : V) (xs : List V) → length xs ≤ n → i < n
      → get_or xs i r ≡ get_or (padded n r xs) i d
  unfolding padded
  get_or-padded n i r d [] within below =
      let all : n - 0 ≡ n = omega arith in
      get_or_past [] i r (omega arith)
      ∙ sym (ap (λ k. get_or (replicate k r) i d) all ∙ get_or-replicate n i r d below)
  get_or-padded zero i r d (x ∷ xs) within below = absurd (omega (arith, below))
  get_or-padded (suc n) zero r d (x ∷ xs) within below = refl
  get_or-padded (suc n) (suc i) r d (x ∷ xs) within below =
      let left : suc n - suc (length xs) ≡ n - length xs = omega arith in
      rw left (get_or-padded n i r d xs (omega (arith, within)) (omega (arith, below)))

  pub set-padded : (n i : ℕ) (r v : V) (xs : List V) → i < length xs
      → padded n r (set xs i v) ≡ set (padded n r xs) i v
  unfolding padded
  set-padded n i r v xs inside =
      ap (λ k. set xs i v ++ replicate (n - k) r) (length-set xs i v)
      ∙ sym (set-append_left xs (replicate (n - length xs) r) i v inside)

  pub set-rest : (n i : ℕ) (r : V) (xs : List V) → length xs ≤ n → i < n → length xs ≤ i
      → padded n r xs ≡ set (padded n r xs) i r
  set-rest n i r xs within below past =
      let whole = padded n r xs in
      let is : r ≡ get_or whole i r = sym (get_or_past xs i r past) ∙ get_or-padded n i r r xs within below in
      sym (ap (set whole i) is ∙ set-get_or whole i r)

  pub push-padded : (n : ℕ) (r : V) (xs : List V) → length xs < n → padded n r (xs ++ r ∷ []) ≡ padded n r xs
  unfolding padded
  push-padded n r xs below =
      let left = n - length (xs ++ r ∷ []) in
      let more : suc left ≡ n - length xs = omega (arith, length_push xs r, below) in
      append_assoc xs (r ∷ []) (replicate left r) ∙ ap (λ k. xs ++ replicate k r) more

  -- the last one needs no place where it is the rest
  pub pop-padded : (n : ℕ) (r : V) (xs : List V) → 0 < length xs → length xs ≤ n → get_or xs (length xs - 1) r ≡ r
      → padded n r (take (length xs - 1) xs) ≡ padded n r xs
  pop-padded n r xs some within last =
      let m = length xs - 1 in
      let inside : m < length xs = omega (arith, some) in
      let next : m + 1 ≡ length xs = omega (arith, some) in
      let few : length (take m xs) < n = omega (arith, length-take-le m xs (omega arith), some, within) in
      let whole : take m xs ++ r ∷ [] ≡ xs =
      ap (λ v. take m xs ++ v ∷ []) (sym last) ∙ sym (take_more xs m r inside) ∙ ap (λ k. take k xs) next
      ∙ take_all (length xs) xs (omega arith) in
      sym (push-padded n r (take m xs) few) ∙ ap (padded n r) whole

  pub drop-padded : (n i : ℕ) (r : V) (xs : List V) → length xs ≤ n → length xs ≤ i
      → drop i (padded n r xs) ≡ replicate (n - i) r
  unfolding padded
  drop-padded n i r [] within past =
      let all : n - 0 ≡ n = omega arith in
      ap (λ k. drop i (replicate k r)) all ∙ drop-replicate i n r
  drop-padded zero i r (x ∷ xs) within past = absurd (omega (arith, within))
  drop-padded (suc n) zero r (x ∷ xs) within past = absurd (omega (arith, past))
  drop-padded (suc n) (suc i) r (x ∷ xs) within past =
      let left : suc n - suc (length xs) ≡ n - length xs = omega arith in
      let more : suc n - suc i ≡ n - i = omega arith in
      rw (left, more) (drop-padded n i r xs (omega (arith, within)) (omega (arith, past)))

  pub map-padded : (f : V → V) (n : ℕ) (r : V) (xs : List V) → map f (padded n r xs) ≡ padded n (f r) (map f xs)
  unfolding padded
  map-padded f n r xs =
      map-append f xs (replicate (n - length xs) r)
      ∙ ap (λ ys. map f xs ++ ys) (map-replicate f (n - length xs) r)
      ∙ ap (λ k. map f xs ++ replicate (n - k) (f r)) (sym (length-map xs f))

  pub All-padded : (P : V → Type 0) (n : ℕ) (r : V) (xs : List V) → All P xs → P r → All P (padded n r xs)
  unfolding padded
  All-padded P n r xs each rest = All-append P xs (replicate (n - length xs) r) each (All-replicate P (n - length xs) r rest)

  -- where the list has them all, the rest is none of them
  pub padded_whole : (n : ℕ) (r : V) (xs : List V) → length xs ≡ n → padded n r xs ≡ xs ++ []
  unfolding padded
  padded_whole n r xs whole =
      let none : n - length xs ≡ 0 = omega (arith, whole) in
      ap (λ k. xs ++ replicate k r) none

  -- what is written out for some place
  pub padded_at : (n m : ℕ) (r : V) (xs : List V) → length xs ≤ m → m ≤ n
      → padded n r xs ≡ padded m r xs ++ replicate (n - m) r
  unfolding padded
  padded_at n m r xs few within =
      let k = m - length xs in
      let whole : k + (n - m) ≡ n - length xs = omega (arith, few, within) in
      sym (append_assoc xs (replicate k r) (replicate (n - m) r)
      ∙ ap (λ ys. xs ++ ys) (replicate-append-replicate k (n - m) r ∙ ap (λ j. replicate j r) whole))

  -- all are of a kind exactly where the first ones are, and the rest if there is one
  pub top_whole : (f : V → V) (n : ℕ) (r : V) (xs : List V) → length xs ≤ n → xs ≡ map f xs
      → (length xs < n → r ≡ f r) → padded n r xs ≡ map f (padded n r xs)
  unfolding padded
  top_whole f n r xs within first rest =
      ap (λ ys. ys ++ replicate (n - length xs) r) first
      ∙ ap (λ ys. map f xs ++ ys) (last (n - length xs) (λ some. rest (omega (arith, some))))
      ∙ sym (map-append f xs (replicate (n - length xs) r))
    where
      last : (k : ℕ) → (0 < k → r ≡ f r) → replicate k r ≡ map f (replicate k r)
      last zero h = refl
      last (suc k) h =
          ap (λ y. replicate (suc k) y) (h (omega arith)) ∙ sym (map-replicate f (suc k) r)

  pub top_parts : (f : V → V) (n : ℕ) (r : V) (xs : List V) → padded n r xs ≡ map f (padded n r xs)
      → (xs ≡ map f xs) × (length xs < n → r ≡ f r)
  unfolding padded
  top_parts f n r xs e =
      let k = n - length xs in
      let parts = same_parts xs (map f xs) (replicate k r) (map f (replicate k r)) (sym (length-map xs f))
      (e ∙ map-append f xs (replicate k r)) in (
        parts.0,
        λ some.
            let there : 0 < k = omega (arith, some) in
            sym (get_or-replicate k 0 r r there) ∙ ap (λ ys. get_or ys 0 r) (parts.1 ∙ map-replicate f k r)
            ∙ get_or-replicate k 0 (f r) r there,
      )
