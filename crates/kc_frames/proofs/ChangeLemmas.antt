-- Changes of slots one by one: the slots before an index, which are changed, and the change of the others stay the
-- whole change.
use Rattle.std.proofs.Common.{◌≡◌, ℕ, zero, suc, ◌+◌, ◌<◌, ◌≤◌, Bool, List, [], ◌∷◌, ◌++◌, length, get_or, take, drop, set}
use Rattle.std.proofs.Common.{replicate, sym, ap, ◌∙◌, refl, append_assoc, arith}
use Rattle.std.proofs.lemmas.List.{take_all, drop_all, take_more_set, drop-set-lt, append-nil, take-append-drop}
use Rattle.kc_lattice.proofs.ListLemmas.{drop_read}
use Rattle.kc_lattice.specs.Rows.{rows_below}
use Rattle.kc_frames.specs.Slots.{redone}
use Rattle.kc_frames.proofs.OrderLemmas.{below_last}

module _ {V : Type 0} (f : ℕ → V → V) where
  -- what is one value many times stays, where each change of it keeps it
  pub redone_stays : (i k : ℕ) (r : V) → ((j : ℕ) → i ≤ j → j < i + k → f j r ≡ r)
      → redone f i (replicate k r) ≡ replicate k r
  redone_stays i zero r each = refl
  redone_stays i (suc k) r each =
      let rest = redone_stays (suc i) k r (λ j low high. each j (omega (arith, low)) (omega (arith, high))) in
      ap (λ y. y ∷ redone f (suc i) (replicate k r)) (each i (omega arith) (omega arith))
      ∙ ap (λ ys. r ∷ ys) rest

  -- so its order with another that is one value many times is that of the two
  pub rest_below : (below : V → V → Bool) (i k : ℕ) (r s : V) (xs ys : List V) → 0 < k
      → ((j : ℕ) → i ≤ j → j < i + k → f j r ≡ r) → xs ≡ replicate k r → ys ≡ replicate k s
      → below r s ≡ rows_below below (redone f i xs) ys
  rest_below below i zero r s xs ys some each ex ey = absurd (omega (arith, some))
  rest_below below i (suc k) r s xs ys some each ex ey =
      sym (ap (λ us. rows_below below (redone f i us) ys) ex
      ∙ ap (λ vs. rows_below below (redone f i (replicate (suc k) r)) vs) ey
      ∙ ap (λ us. rows_below below us (replicate (suc k) s)) (redone_stays i (suc k) r each)
      ∙ below_last below k r s)

  pub change_one : (i : ℕ) (v w : V) (slots : List V) → i < length slots → v ≡ get_or slots i v → w ≡ f i v
      → take (i + 1) (set slots i w) ++ redone f (i + 1) (drop (i + 1) (set slots i w))
      ≡ take i slots ++ redone f i (drop i slots)
  change_one i v w slots h e is =
      let next : suc i ≡ i + 1 = omega arith in
      let rest = redone f (i + 1) (drop (i + 1) slots) in
      ap (λ front. front ++ redone f (i + 1) (drop (i + 1) (set slots i w))) (take_more_set slots i w h)
      ∙ ap (λ ys. (take i slots ++ w ∷ []) ++ redone f (i + 1) ys) (drop-set-lt (i + 1) slots i w (omega arith))
      ∙ append_assoc (take i slots) (w ∷ []) rest
      ∙ ap (λ x. take i slots ++ (x ∷ rest)) is
      ∙ ap (λ j. take i slots ++ (f i v ∷ redone f j (drop (i + 1) slots))) (sym next)
      ∙ ap (λ ys. take i slots ++ redone f i ys) (sym (drop_read slots i v h e))

  pub change_kept : (i : ℕ) (slots : List V) → redone f i (drop i slots) ≡ drop i slots
      → take i slots ++ redone f i (drop i slots) ≡ slots
  change_kept i slots same = ap (λ ys. take i slots ++ ys) same ∙ take-append-drop i slots

  pub change_all : (n : ℕ) (slots : List V) → length slots ≤ n → take n slots ++ redone f n (drop n slots) ≡ slots
  change_all n slots h =
      ap (λ ys. take n slots ++ redone f n ys) (drop_all n slots h) ∙ append-nil (take n slots) ∙ take_all n slots h
