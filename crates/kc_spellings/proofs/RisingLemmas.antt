-- Items that rise one after the other rise as a whole: each is above the last one before it, and so above all by
-- transitivity. And back: where all rise, each is above the last one before it. Lists are read by their indexes.
use Rattle.std.proofs.Common.{◌≡◌, ℕ, ◌-◌, ◌<◌, ◌⊎◌, inl, inr, Bool, true, List, [], ◌∷◌, ◌++◌, length, map, get_or, Option, Some, None, refl, sym, ap, ◌∙◌, arith}
use Rattle.std.specs.Prelude.{slice_get}
use Rattle.std.specs.Ordering.{is_lt}
use Rattle.std.specs.declared.cmp.Ordering.{Ordering}
use Rattle.std.specs.declared.cmp.Ordering.TheVariants.{Less, Equal, Greater}
use Rattle.std.proofs.lemmas.List.{length-append, length-map, get_or_append_left, get_or-map}
use Rattle.std.proofs.lemmas.List.Quantifiers.{all_pairs_push}
use Rattle.std.proofs.lemmas.Option.{slice_get-get_or}
use Rattle.std.proofs.Math.Seq.{get_or-append_seam}
use Rattle.kc_cert.specs.Table.{RisesBy}
use Rattle.kc_cert.proofs.HalvingLemmas.{three}
use Rattle.kc_certfmt.specs.Reading.{last_of}

less-is : (o : Ordering) → is_lt o ≡ true → o ≡ Less
less-is Less e = refl
less-is Equal e = absurd cc
less-is Greater e = absurd cc

is-less : (o : Ordering) → o ≡ Less → is_lt o ≡ true
is-less o e = ap is_lt e

-- the last item
pub last-push : {A : Type 0} (xs : List A) (x : A) → last_of (xs ++ x ∷ []) ≡ Some x
last-push xs x =
    let long : length (xs ++ x ∷ []) - 1 ≡ length xs = omega (arith, length-append xs (x ∷ [])) in
    ap (λ (n : ℕ). slice_get (xs ++ x ∷ []) n) long
    ∙ slice_get-get_or (xs ++ x ∷ []) (length xs) x (omega (arith, length-append xs (x ∷ [])))
    ∙ ap Some (get_or-append_seam xs x [] x)

module _ {A : Type 0} (order : A → A → Ordering)
    (trans : (x y z : A) → order x y ≡ Less → order y z ≡ Less → order x z ≡ Less) where
  -- the item is above the last one, where there is one
  abbrev pub is_above : Option A → A → Bool
  is_above None y = true
  is_above (Some x) y = is_lt (order x y)

  pub rises-push : (xs : List A) (y : A) → RisesBy order xs → is_above (last_of xs) y ≡ true
      → RisesBy order (xs ++ y ∷ [])
  rises-push xs y rises above =
      all_pairs_push (λ (x z : A). order x z ≡ Less) xs y rises (λ k d below. each k d below)
    where
      last : (d : A) → 0 < length xs → order (get_or xs (length xs - 1) d) y ≡ Less
      last d some =
          let is = slice_get-get_or xs (length xs - 1) d (omega arith) in
          less-is (order (get_or xs (length xs - 1) d) y)
          (sym (ap (λ (o : Option A). is_above o y) is) ∙ above)

      each : (k : ℕ) (d : A) → k < length xs → order (get_or xs k d) y ≡ Less
      each k d below = go (three k (length xs - 1))
        where
          go : (k < length xs - 1) ⊎ ((k ≡ length xs - 1) ⊎ (length xs - 1 < k)) → order (get_or xs k d) y ≡ Less
          go (inl before) =
              trans (get_or xs k d) (get_or xs (length xs - 1) d) y
              (rises k (length xs - 1) d before (omega (arith, below))) (last d (omega (arith, below)))
          go (inr (inl same)) =
              ap (λ (n : ℕ). order (get_or xs n d) y) same ∙ last d (omega (arith, below))
          go (inr (inr after)) = absurd (omega (arith, below, after))

  pub rises-last : (xs ys : List A) (y : A) → RisesBy order (xs ++ y ∷ ys) → is_above (last_of xs) y ≡ true
  rises-last [] ys y rises = refl
  rises-last (x ∷ xs) ys y rises =
      let all : List A = x ∷ xs in
      let n : ℕ = length all - 1 in
      let below : n < length all = omega arith in
      let is = slice_get-get_or all n x below in
      let less = rises n (length all) x below (omega (arith, length-append all (y ∷ ys))) in
      let left : get_or (all ++ y ∷ ys) n x ≡ get_or all n x = get_or_append_left all (y ∷ ys) x n below in
      let right : get_or (all ++ y ∷ ys) (length all) x ≡ y = get_or-append_seam all y ys x in
      ap (λ (o : Option A). is_above o y) is
      ∙ is-less (order (get_or all n x) y)
      (sym ((λ k. order (left k) (right k))) ∙ less)

-- items whose keys rise
pub rises-keys : {A B : Type 0} (key : A → B) (order : B → B → Ordering) (xs : List A)
    → RisesBy (λ x y. order (key x) (key y)) xs → RisesBy order (map key xs)
rises-keys {A} {B} key order [] rises i j d less below = absurd (omega (arith, below))
rises-keys {A} {B} key order (x ∷ xs) rises i j d less below =
    let all : List A = x ∷ xs in
    let fits : j < length all = omega (arith, below, length-map all key) in
    let one = get_or-map key all i x d (omega (arith, less, fits)) in
    let other = get_or-map key all j x d fits in
    (λ k. order (one k) (other k)) ∙ rises i j x less fits

pub keys-rise : {A B : Type 0} (key : A → B) (order : B → B → Ordering) (xs : List A)
    → RisesBy order (map key xs) → RisesBy (λ x y. order (key x) (key y)) xs
keys-rise {A} {B} key order xs rises i j d less below =
    let one = get_or-map key xs i d (key d) (omega (arith, less, below)) in
    let other = get_or-map key xs j d (key d) below in
    sym (λ k. order (one k) (other k)) ∙ rises i j (key d) less (omega (arith, below, length-map xs key))
