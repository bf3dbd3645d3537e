-- Lists that grow at their end by an item above the last one rise. What is left behind so many slots, and the floors
-- of stacks that aren't there, stay as they were.
use Rattle.std.proofs.Common.{◌≡◌, ℕ, zero, suc, ◌+◌, ◌-◌, ◌<◌, ◌≤◌, ◌⊎◌, inl, inr, List, [], ◌∷◌, ◌++◌, length, drop, get_or, refl, sym, ap, ◌∙◌, subst, arith}
use Rattle.std.specs.Prelude.{All, replicate}
use Rattle.std.specs.declared.cmp.Ordering.{Ordering}
use Rattle.std.specs.declared.cmp.Ordering.TheVariants.{Less}
use Rattle.std.proofs.Math.Seq.{get_or-append_seam}
use Rattle.std.proofs.lemmas.Bool.{cases_lt}
use Rattle.std.proofs.lemmas.List.{get_or_append_left, length-append}
use Rattle.std.proofs.lemmas.List.Elements.{All-append}
use Rattle.kc_cert.specs.Table.{RisesBy}

pub one-more : {A : Type 0} (P : A → Type 0) (items : List A) (x : A) → All P items → P x → All P (items ++ x ∷ [])
one-more {A} P items x all p = All-append P items (x ∷ []) all only
  where
    only : All P (x ∷ [])
    only zero d lt = p
    only (suc i) d lt = absurd (omega (arith, lt))

module _ {A : Type 0} (order : A → A → Ordering)
    (trans : (x y z : A) → order x y ≡ Less → order y z ≡ Less → order x z ≡ Less)
    (items : List A) (x : A) (rises : RisesBy order items)
    (last : (d : A) → 0 < length items → order (get_or items (length items - 1) d) x ≡ Less) where
  long : length (items ++ x ∷ []) ≡ length items + 1
  long = length-append items (x ∷ [])

  below : (i : ℕ) (d : A) → i < length items → order (get_or items i d) x ≡ Less
  below i d lt = go (cases_lt i (length items - 1))
    where
      go : (i < length items - 1) ⊎ (length items - 1 ≤ i) → order (get_or items i d) x ≡ Less
      go (inl less) = trans (get_or items i d) (get_or items (length items - 1) d) x
          (rises i (length items - 1) d less (omega (arith, lt))) (last d (omega (arith, lt)))
      go (inr more) =
          let same : length items - 1 ≡ i = omega (arith, lt, more) in
          subst (λ (k : ℕ). order (get_or items k d) x ≡ Less) same (last d (omega (arith, lt)))

  pub rises-more : RisesBy order (items ++ x ∷ [])
  rises-more i j d lt fits = go (cases_lt j (length items))
    where
      left : (k : ℕ) → k < length items → get_or (items ++ x ∷ []) k d ≡ get_or items k d
      left k inside = get_or_append_left items (x ∷ []) d k inside

      go : (j < length items) ⊎ (length items ≤ j)
          → order (get_or (items ++ x ∷ []) i d) (get_or (items ++ x ∷ []) j d) ≡ Less
      go (inl less) =
          ap (λ (y : A). order y (get_or (items ++ x ∷ []) j d)) (left i (omega (arith, lt, less)))
          ∙ ap (order (get_or items i d)) (left j less)
          ∙ rises i j d lt less
      go (inr more) =
          let here : length items ≡ j = omega (arith, more, fits, long) in
          ap (λ (y : A). order y (get_or (items ++ x ∷ []) j d)) (left i (omega (arith, lt, fits, long)))
          ∙ ap (λ (k : ℕ). order (get_or items i d) (get_or (items ++ x ∷ []) k d)) (sym here)
          ∙ ap (order (get_or items i d)) (get_or-append_seam items x [] d)
          ∙ below i d (omega (arith, lt, here))

-- ---- lists of the same item

pub all-same : {A : Type 0} (x : A) (n : ℕ) → All (λ y. y ≡ x) (replicate n x)
all-same x zero i d lt = absurd (omega (arith, lt))
all-same x (suc n) zero d lt = refl
all-same x (suc n) (suc i) d lt = all-same x n i d (omega (arith, lt))

pub all-same-after : {A : Type 0} (x : A) (k n : ℕ) → All (λ y. y ≡ x) (drop k (replicate n x))
all-same-after x zero n = all-same x n
all-same-after x (suc k) zero = λ i d lt. absurd (omega (arith, lt))
all-same-after x (suc k) (suc n) = all-same-after x k n

-- so many items, and then the same one
pub all-same-behind : {A : Type 0} (x : A) (items : List A) (k n : ℕ) → length items ≡ k
    → All (λ y. y ≡ x) (drop k (items ++ replicate n x))
all-same-behind x [] zero n e = all-same x n
all-same-behind x [] (suc k) n e = absurd (omega (arith, e))
all-same-behind x (y ∷ items) zero n e = absurd (omega (arith, e))
all-same-behind x (y ∷ items) (suc k) n e = all-same-behind x items k n (omega (arith, e))
