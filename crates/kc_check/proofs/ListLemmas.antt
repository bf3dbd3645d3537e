-- Lists as the loops of the checker walk them: one of the items from a number on may be found that isn't as all should be;
-- and lists that rise, whose order is transitive, so that it is enough to compare neighbours.
use Rattle.std.proofs.Common.{◌≡◌, ℕ, zero, suc, ◌+◌, ◌-◌, ◌<◌, ◌≤◌, ◌⊎◌, inl, inr, Bool, true, false, List, [], ◌∷◌, length, drop, get_or, length-drop, refl, sym, ap, ◌∙◌, subst, arith}
use Rattle.std.proofs.lemmas.List.{get_or-drop}
use Rattle.std.proofs.lemmas.Bool.{cases_lt}
use Rattle.std.specs.Prelude.{All, IsTrue, ◌↔◌, slice_index_or}
use Rattle.std.specs.Ordering.{is_lt}
use Rattle.std.specs.declared.cmp.Ordering.{Ordering}
use Rattle.std.specs.declared.cmp.Ordering.TheVariants.{Less, Equal, Greater}
use Rattle.kc_cert.specs.Table.{RisesBy}

-- ---- the items from a number on

from-all : {A : Type 0} (P : A → Type 0) (xs : List A) (n k : ℕ) (d : A) → n ≤ k → k < length xs → All P (drop n xs)
    → P (slice_index_or xs k d)
from-all P xs n k d le lt h =
    let there : n + (k - n) ≡ k = omega (arith, le) in
    subst (λ (j : ℕ). P (slice_index_or xs j d)) there
    (subst P (get_or-drop n xs (k - n) d) (h (k - n) d (omega (arith, le, lt, length-drop n xs))))

-- one of the items from number n on has been found not to be so
pub none-from : {A : Type 0} (P : A → Type 0) (xs : List A) (n i : ℕ) (x : A) (b : Bool) → n ≤ i → i < length xs
    → x ≡ get_or xs i x → (P x → IsTrue b) → b ≡ false → IsTrue false ↔ All P (drop n xs)
none-from P xs n i x b le lt is says e =
    (λ t. absurd cc, λ h. sym e ∙ says (subst P (sym is) (from-all P xs n i x le lt h)))

-- ---- lists that rise

-- each of the first n items is less than the next of them
abbrev pub StepsUp : {A : Type 0} → (A → A → Ordering) → List A → ℕ → Type 0
StepsUp {A = A} order items n =
    (k : ℕ) (d : A) → k + 1 < n → order (slice_index_or items k d) (slice_index_or items (k + 1) d) ≡ Less

module _ {A : Type 0} (order : A → A → Ordering) (trans : (x y z : A) → order x y ≡ Less → order y z ≡ Less
    → order x z ≡ Less) (items : List A) where
  climb : StepsUp order items (length items) → (k i : ℕ) (d : A) → i + suc k < length items
      → order (slice_index_or items i d) (slice_index_or items (i + suc k) d) ≡ Less
  climb steps zero i d lt = steps i d (omega (arith, lt))
  climb steps (suc k) i d lt =
      let last : i + suc k + 1 ≡ i + suc (suc k) = omega arith in
      trans (slice_index_or items i d) (slice_index_or items (i + suc k) d) (slice_index_or items (i + suc (suc k)) d)
      (climb steps k i d (omega (arith, lt)))
      (subst (λ (n : ℕ). order (slice_index_or items (i + suc k) d) (slice_index_or items n d) ≡ Less) last
      (steps (i + suc k) d (omega (arith, lt))))

  by-steps : StepsUp order items (length items) → RisesBy order items
  by-steps steps i j d lt fits =
      let there : i + suc (j - suc i) ≡ j = omega (arith, lt) in
      subst (λ (n : ℕ). order (slice_index_or items i d) (slice_index_or items n d) ≡ Less) there
      (climb steps (j - suc i) i d (omega (arith, lt, fits)))

  pub rises-by-steps : (n : ℕ) → length items ≤ n → StepsUp order items n → IsTrue true ↔ RisesBy order items
  rises-by-steps n le steps =
      (λ t. by-steps (λ k d lt. steps k d (omega (arith, lt, le))), λ rises. refl)

is-less : (r : Ordering) → is_lt r ≡ true → r ≡ Less
is-less Less e = refl
is-less Equal e = absurd cc
is-less Greater e = absurd cc

module _ {A : Type 0} (order : A → A → Ordering) (items : List A) where
  -- the item at index i - 1 was found to be less than the next
  pub step-more : (i : ℕ) (b : Bool) → 1 ≤ i → StepsUp order items i
      → ((d : A) → b ≡ is_lt (order (slice_index_or items (i - 1) d) (slice_index_or items (i - 1 + 1) d))) → b ≡ true
      → StepsUp order items (i + 1)
  step-more i b le steps says e k d lt = go (cases_lt (k + 1) i)
    where
      go : (k + 1 < i) ⊎ (i ≤ k + 1) → order (slice_index_or items k d) (slice_index_or items (k + 1) d) ≡ Less
      go (inl less) = steps k d less
      go (inr more) =
          let same : i - 1 ≡ k = omega (arith, lt, more) in
          subst (λ (j : ℕ). order (slice_index_or items j d) (slice_index_or items (j + 1) d) ≡ Less) same
          (is-less _ (sym (says d) ∙ e))

  -- or it was found not to be
  pub step-not : (k : ℕ) (b : Bool) → k + 1 < length items
      → ((d : A) → b ≡ is_lt (order (slice_index_or items k d) (slice_index_or items (k + 1) d))) → b ≡ false
      → IsTrue false ↔ RisesBy order items
  step-not k b lt says e = (λ t. absurd cc, λ rises. go items rises says lt)
    where
      go : (xs : List A) → RisesBy order xs
          → ((d : A) → b ≡ is_lt (order (slice_index_or xs k d) (slice_index_or xs (k + 1) d))) → k + 1 < length xs
          → IsTrue false
      go [] rises says lt = absurd (omega (arith, lt))
      go (x ∷ xs) rises says lt =
          let less : order (slice_index_or (x ∷ xs) k x) (slice_index_or (x ∷ xs) (k + 1) x) ≡ Less =
          rises k (k + 1) x (omega arith) lt in
          sym e ∙ says x ∙ ap is_lt less
