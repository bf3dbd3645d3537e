-- Slots as they are written, one by one. `known-more` counts a slot more, by cases on whether it is top;
-- `records-more` writes one, and `records-end` is the end of the list. Numbers are left to omega.
use Rattle.std.proofs.Common.{◌≡◌, ℕ, suc, ◌+◌, ◌<◌, ◌≤◌, Bool, true, false, cond, not, List, [], ◌∷◌, ◌++◌, length, take, drop, get_or, refl, sym, ap, ◌∙◌, append_assoc, append-nil, add-zero, add-one, arith}
use Rattle.std.proofs.lemmas.Grind.{common_steps}
use Rattle.std.proofs.lemmas.List.{drop_more}
use Rattle.std.proofs.lemmas.List.Sums.{count_by_more_no, count_by_more_yes}
use Rattle.kc_value.specs.AbsValue.{AbsValue}
use Rattle.kc_value.specs.Value.{value_top}
use Rattle.kc_certfields.specs.Spelling.{is_value_top, known_slots, slot_bytes, slot_records}

pub known-more : (slots : List AbsValue) (i : ℕ) (v : AbsValue) → i < length slots → v ≡ get_or slots i value_top
    → known_slots (take (i + 1) slots) ≡ known_slots (take i slots) + cond (is_value_top v) 0 1
known-more slots i v below e = go (is_value_top v) refl
  where
    go : (b : Bool) → is_value_top v ≡ b → known_slots (take (i + 1) slots) ≡ known_slots (take i slots) + cond b 0 1
    go true t =
        count_by_more_no (λ (w : AbsValue). not (is_value_top w)) slots i value_top below
        (ap (λ (w : AbsValue). not (is_value_top w)) (sym e) ∙ ap not t) ∙ sym (add-zero _)
    go false t =
        count_by_more_yes (λ (w : AbsValue). not (is_value_top w)) slots i value_top below
        (ap (λ (w : AbsValue). not (is_value_top w)) (sym e) ∙ ap not t)

opened : (slots rest : List AbsValue) (i : ℕ) (v : AbsValue) → slots ≡ v ∷ rest
    → slot_records i slots ≡ slot_bytes i v ++ slot_records (i + 1) rest
unfolding slot_records
opened slots rest i v e = rw (e, add-one) refl

pub records-more : (out new : List ℕ) (slots : List AbsValue) (i : ℕ) (v : AbsValue) → i < length slots
    → v ≡ get_or slots i value_top → new ≡ out ++ slot_bytes i v
    → new ++ slot_records (i + 1) (drop (i + 1) slots) ≡ out ++ slot_records i (drop i slots)
records-more out new slots i v below e written =
    let here : drop i slots ≡ v ∷ drop (i + 1) slots =
    drop_more slots i value_top below ∙ ap (λ (w : AbsValue). w ∷ drop (i + 1) slots) (sym e) in
    ap (λ (x : List ℕ). x ++ slot_records (i + 1) (drop (i + 1) slots)) written
    ∙ append_assoc out (slot_bytes i v) (slot_records (i + 1) (drop (i + 1) slots))
    ∙ ap (λ (x : List ℕ). out ++ x) (sym (opened (drop i slots) (drop (i + 1) slots) i v here))

ended : (slots : List AbsValue) (n : ℕ) → slots ≡ [] → slot_records n slots ≡ []
unfolding slot_records
ended slots n e = rw e refl

pub records-end : (out : List ℕ) (slots : List AbsValue) (n : ℕ) → length slots ≤ n
    → out ++ slot_records n (drop n slots) ≡ out
records-end out slots n all =
    ap (λ (x : List ℕ). out ++ x) (ended (drop n slots) n (grind (arith, common_steps))) ∙ append-nil out

pub known-one : (b : Bool) → cond b 0 1 ≤ 1
known-one true = omega arith
known-one false = omega arith
