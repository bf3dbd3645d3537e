-- One turn of a loop over lists, place by place, and the bound that a join of many keeps.
-- Each loop has done the places before an index and left those after it. A turn moves one item over: the lemmas split
-- a list at the index (take and drop) and say what a fact on the whole is on the two parts and the item between them.
use Rattle.std.proofs.Common.{◌≡◌, ℕ, suc, ◌+◌, ◌<◌, Bool, true, List, [], ◌∷◌, ◌++◌, length, get_or, take, drop, All, sym, ap, ◌∙◌, refl, add-one, drop-cons}
use Rattle.std.proofs.lemmas.List.{take_more}
use Rattle.std.proofs.lemmas.List.Elements.{All-nil, All-cons, All-head, All-tail, All-push}
use Rattle.std.specs.List.{AllZip}
use Rattle.kc_lattice.specs.Laws.{Laws, IsLeastUpperBound}

module _ {A : Type 0} where
  -- what is left of a list from a place on, by what was read there
  pub drop_read : (xs : List A) (i : ℕ) (x : A) → i < length xs → x ≡ get_or xs i x → drop i xs ≡ x ∷ drop (i + 1) xs
  drop_read xs i x h e = rw add-one (drop-cons xs i x h ∙ ap (λ (y : A). y ∷ drop (suc i) xs) (sym e))

  pub take_read : (xs : List A) (i : ℕ) (x : A) → i < length xs → x ≡ get_or xs i x
      → take (i + 1) xs ≡ take i xs ++ x ∷ []
  take_read xs i x h e = take_more xs i x h ∙ ap (λ (y : A). take i xs ++ y ∷ []) (sym e)

module _ {A B : Type 0} where
  pub AllZip-read : (R : A → B → Type 0) (xs : List A) (ys : List B) (i : ℕ) (x : A) (y : B) → i < length xs
      → i < length ys →
      x ≡ get_or xs i x → y ≡ get_or ys i y
      → AllZip R (drop i xs) (drop i ys) ≡ (R x y × AllZip R (drop (i + 1) xs) (drop (i + 1) ys))
  AllZip-read R xs ys i x y hx hy ex ey = rw (drop_read xs i x hx ex, drop_read ys i y hy ey)

  pub length-AllZip : (R : A → B → Type 0) (xs : List A) (ys : List B) → AllZip R xs ys → length xs ≡ length ys
  length-AllZip R [] [] h = refl
  length-AllZip R [] (y ∷ ys) h = absurd h
  length-AllZip R (x ∷ xs) [] h = absurd h
  length-AllZip R (x ∷ xs) (y ∷ ys) h = ap suc (length-AllZip R xs ys h.1)

-- the least upper bound of a valid value and of valid items
pub record IsBound {A : Type 0} (valid : A → Type 0) (below : A → A → Bool) (first : A) (xs : List A) (z : A) : Type 0
  where
    pub valid_first : valid first
    pub valid_items : All valid xs
    pub bound : IsLeastUpperBound valid below (first ∷ xs) z

module _ {A : Type 0} {valid : A → Type 0} {alike : A → A → Type 0} {below : A → A → Bool} {joined : A → A → A}
    {top_of : A → A} {rank : A → ℕ}
    (m : Laws valid alike below joined top_of rank) where
  abbrev IsUnder : A → A → Type 0
  IsUnder z x = below x z ≡ true

  pub IsBound-none : (first : A) → valid first → IsBound valid below first [] first
  IsBound-none first h = record {
    valid_first = h;
    valid_items = All-nil valid;
    bound = record {
      valid_bound = h;
      above = All-cons (IsUnder first) first [] (m.below_refl first h) (All-nil (IsUnder first));
      least = λ w hw k. All-head (IsUnder w) first [] k;
    };
  }

  -- what is alike the first value is alike the bound
  pub bound_alike : (first x z : A) (xs : List A) → valid x → alike first x → IsBound valid below first xs z → alike z x
  bound_alike first x z xs hx h b =
      let hz = b.bound.valid_bound in
      let up = m.ordered_alike first z b.valid_first hz (All-head (IsUnder z) first xs b.bound.above) in
      m.alike_trans z first x hz b.valid_first hx (m.alike_sym first z b.valid_first hz up) h

  raised : (z z' : A) → valid z → valid z' → below z z' ≡ true → (xs : List A) → All valid xs → All (IsUnder z) xs
      → All (IsUnder z') xs
  raised z z' hz hz' up xs v h = λ k d lt. m.below_trans (get_or xs k d) z z' (v k d lt) hz hz' (h k d lt) up

  front : (P : A → Type 0) (xs : List A) (x : A) → All P (xs ++ x ∷ []) → All P xs × P x
  front P [] x h = (All-nil P, All-head P x [] h)
  front P (y ∷ ys) x h =
      let r = front P ys x (All-tail P y (ys ++ x ∷ []) h) in
      (All-cons P y ys (All-head P y (ys ++ x ∷ []) h) r.0, r.1)

  pub IsBound-more : (first x z : A) (xs : List A) → valid x → alike first x → IsBound valid below first xs z
      → IsBound valid below first (xs ++ x ∷ []) (joined z x)
  IsBound-more first x z xs hx h b =
      let hz = b.bound.valid_bound in
      let shape = bound_alike first x z xs hx h b in
      let hj = m.join_valid z x hz hx shape in
      let up = m.join_left z x hz hx shape in
      let old = raised z (joined z x) hz hj up (first ∷ xs) (All-cons valid first xs b.valid_first b.valid_items)
      b.bound.above in
      record {
        valid_first = b.valid_first;
        valid_items = All-push valid xs x b.valid_items hx;
        bound = record {
          valid_bound = hj;
          above = All-push (IsUnder (joined z x)) (first ∷ xs) x old (m.join_right z x hz hx shape);
          least = λ w hw k.
              let r = front (IsUnder w) (first ∷ xs) x k in
              m.join_least z x w hz hx hw shape (b.bound.least w hw r.0) r.1;
        };
      }
