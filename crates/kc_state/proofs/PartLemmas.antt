-- The walk over slots part by part: the slots before an index as they are and the change of the others stay the whole
-- change when the slot at the index is changed, and when it is passed over and would stay as it is.
use Rattle.std.proofs.Common.{◌≡◌, ℕ, zero, suc, ◌+◌, ◌*◌, ◌<◌, ◌≤◌, List, [], ◌∷◌, ◌++◌, length, get_or, take, drop, set, sym, ap, ◌∙◌, refl, append_assoc, arith}
use Rattle.std.proofs.lemmas.List.{take_all, drop_all, take_more_set, drop-set-lt, append-nil}
use Rattle.kc_frames.specs.Slots.{redone}
use Rattle.kc_lattice.proofs.ListLemmas.{drop_read, take_read}
use Rattle.kc_value.specs.AbsValue.{AbsValue}
use Rattle.kc_state.specs.PartSteps.{changed_from, StaysFrom, Stays}

pub read_again : (slots : List AbsValue) (i : ℕ) (x : AbsValue) → i < length slots
    → get_or slots i x ≡ get_or slots i (get_or slots i x)
read_again [] i x h = absurd (omega (arith, h))
read_again (y ∷ ys) zero x h = refl
read_again (y ∷ ys) (suc i) x h = read_again ys i x (omega (arith, h))

module _ (f : ℕ → AbsValue → AbsValue) where
  pub changed_none : (slots : List AbsValue) → changed_from f 0 slots ≡ redone f 0 slots
  changed_none slots = refl

  pub changed_all : (n : ℕ) (slots : List AbsValue) → length slots ≤ n → changed_from f n slots ≡ slots
  changed_all n slots h =
      ap (λ (rest : List AbsValue). take n slots ++ redone f n rest) (drop_all n slots h)
      ∙ append-nil (take n slots) ∙ take_all n slots h

  -- the change of what is left by that of its first slot
  one_left : (i : ℕ) (v : AbsValue) (slots : List AbsValue) → i < length slots → v ≡ get_or slots i v
      → changed_from f i slots ≡ (take i slots ++ f i v ∷ []) ++ redone f (i + 1) (drop (i + 1) slots)
  one_left i v slots h e =
      let next : suc i ≡ i + 1 = omega arith in
      ap (λ (rest : List AbsValue). take i slots ++ redone f i rest) (drop_read slots i v h e)
      ∙ ap (λ (j : ℕ). take i slots ++ (f i v ∷ redone f j (drop (i + 1) slots))) next
      ∙ sym (append_assoc (take i slots) (f i v ∷ []) (redone f (i + 1) (drop (i + 1) slots)))

  pub changed_one : (i : ℕ) (v w : AbsValue) (slots : List AbsValue) → i < length slots → v ≡ get_or slots i v → w ≡ f i v
      → changed_from f (i + 1) (set slots i w) ≡ changed_from f i slots
  changed_one i v w slots h e is =
      ap (λ (front : List AbsValue). front ++ redone f (i + 1) (drop (i + 1) (set slots i w)))
      (take_more_set slots i w h)
      ∙ ap (λ (rest : List AbsValue). (take i slots ++ w ∷ []) ++ redone f (i + 1) rest)
      (drop-set-lt (i + 1) slots i w (omega arith))
      ∙ ap (λ (x : AbsValue). (take i slots ++ x ∷ []) ++ redone f (i + 1) (drop (i + 1) slots)) is
      ∙ sym (one_left i v slots h e)

  changed_same : (i : ℕ) (v : AbsValue) (slots : List AbsValue) → i < length slots → v ≡ get_or slots i v → f i v ≡ v
      → changed_from f (i + 1) slots ≡ changed_from f i slots
  changed_same i v slots h e same =
      ap (λ (front : List AbsValue). front ++ redone f (i + 1) (drop (i + 1) slots)) (take_read slots i v h e)
      ∙ ap (λ (x : AbsValue). (take i slots ++ x ∷ []) ++ redone f (i + 1) (drop (i + 1) slots)) (sym same)
      ∙ sym (one_left i v slots h e)

  -- n of the slots that stay
  changed_some : (from few n : ℕ) (x : AbsValue) (slots : List AbsValue) → n ≤ few → from + n ≤ length slots
      → StaysFrom f from few
      → changed_from f (from + n) slots ≡ changed_from f from slots
  changed_some from few zero x slots within inside stays =
      let none : from + 0 ≡ from = omega arith in
      ap (λ (i : ℕ). changed_from f i slots) none
  changed_some from few (suc n) x slots within inside stays =
      let i = from + n in
      let more : from + suc n ≡ i + 1 = omega arith in
      let below : i < length slots = omega (arith, inside) in
      let v = get_or slots i x in
      ap (λ (j : ℕ). changed_from f j slots) more
      ∙ changed_same i v slots below (read_again slots i x below) (stays i v (omega arith) (omega (arith, within)))
      ∙ changed_some from few n x slots (omega (arith, within)) (omega (arith, inside)) stays

  pub changed_part : (part : ℕ) (x : AbsValue) (slots : List AbsValue) → 8 * part + 8 ≤ length slots → Stays f part
      → changed_from f (8 * part + 8) slots ≡ changed_from f (8 * part) slots
  changed_part part x slots inside stays = changed_some (8 * part) 8 8 x slots (omega arith) inside stays

  pub changed_block : (block : ℕ) (x : AbsValue) (slots : List AbsValue) → 64 * block + 104 ≤ length slots
      → StaysFrom f (64 * block + 40) 64
      → changed_from f (64 * block + 104) slots ≡ changed_from f (64 * block + 40) slots
  changed_block block x slots inside stays =
      let end : 64 * block + 104 ≡ 64 * block + 40 + 64 = omega arith in
      ap (λ (i : ℕ). changed_from f i slots) end
      ∙ changed_some (64 * block + 40) 64 64 x slots (omega arith) (omega (arith, inside)) stays
