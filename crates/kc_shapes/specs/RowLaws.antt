-- Lists of one fixed length are a domain where their items are.
use Rattle.std.proofs.Common.{◌≡◌, ℕ, ◌*◌, ◌≤◌, suc, Bool, List, [], ◌∷◌, length, map, All, sum_by, refl, ap, ◌∙◌, arith}
use Rattle.std.proofs.lemmas.List.{length-map}
use Rattle.std.proofs.lemmas.List.Elements.{All-head, All-tail}
use Rattle.std.proofs.lemmas.List.Sums.{sum_by-cons}
use Rattle.std.proofs.Math.Nat.{suc-mul}
use Rattle.std.specs.List.{AllZip}
use Rattle.kc_lattice.specs.Laws.{Laws, AllAlike}
use Rattle.kc_lattice.specs.Rows.{rows_below, rows_joined}
use Rattle.kc_lattice.specs.RowLaws.{rows_laws}
use Rattle.kc_shapes.specs.ShapeLaws.{narrowed_laws}

pub length-rows_joined : {A : Type 0} (R : A → A → Type 0) (f : A → A → A) (xs ys : List A) → AllZip R xs ys
    → length (rows_joined f xs ys) ≡ length xs
length-rows_joined R f [] [] h = refl
length-rows_joined R f [] (y ∷ ys) h = refl
length-rows_joined R f (x ∷ xs) [] h = absurd h
length-rows_joined R f (x ∷ xs) (y ∷ ys) h = ap suc (length-rows_joined R f xs ys h.1)

-- lists of one length, of items that are all alike
pub all_alike_rows : {A : Type 0} (xs ys : List A) → length xs ≡ length ys → AllZip AllAlike xs ys
all_alike_rows [] [] e = tt
all_alike_rows [] (y ∷ ys) e = absurd (omega (arith, e))
all_alike_rows (x ∷ xs) [] e = absurd (omega (arith, e))
all_alike_rows (x ∷ xs) (y ∷ ys) e = (tt, all_alike_rows xs ys (omega (arith, e)))

module _ {A : Type 0} {valid : A → Type 0} {alike : A → A → Type 0} {below : A → A → Bool} {joined : A → A → A}
    {top_of : A → A} {rank : A → ℕ}
    (m : Laws valid alike below joined top_of rank) where
  pub counted_laws : (n : ℕ) → Laws (λ xs. All valid xs × (length xs ≡ n)) (AllZip alike) (rows_below below)
      (rows_joined joined) (map top_of) (sum_by rank)
  counted_laws n = narrowed_laws (rows_laws m) (λ (xs : List A). length xs ≡ n)
      (λ xs ys hx hy h. length-rows_joined alike joined xs ys h ∙ hx)
      (λ xs h. length-map xs top_of ∙ h)

  pub rows_rank-le : (bound : ℕ) → ((x : A) → valid x → rank x ≤ bound) → (xs : List A) → All valid xs
      → sum_by rank xs ≤ length xs * bound
  rows_rank-le bound each [] h = omega arith
  rows_rank-le bound each (x ∷ xs) h =
      let first : rank x ≤ bound = each x (All-head valid x xs h) in
      let rest : sum_by rank xs ≤ length xs * bound = rows_rank-le bound each xs (All-tail valid x xs h) in
      omega (arith, sum_by-cons rank x xs, first, rest, suc-mul (length xs) bound)
