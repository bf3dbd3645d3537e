-- One turn of a loop that asks conditions of items in their order, where `items` is the slice that the loop walks and `all`
-- the list that the conditions name. What was answered at the item at index i is `answer`: Ok, and then what is left
-- decides, or a refusal, and then that decides. By the laws of rules in a row.
use Rattle.std.proofs.Common.{◌≡◌, ℕ, ◌+◌, ◌<◌, ◌≤◌, ◌&&◌, Bool, true, false, cond, List, length, get_or, drop, Option, Some, None, Result, Ok, Err, refl, sym, ap, ◌∙◌, arith}
use Rattle.std.proofs.lemmas.List.{at_drop_more, at_drop_all}
use Rattle.std.specs.List.{list_all}
use Rattle.std.specs.Prelude.{IsSome, filter}
use Rattle.kc_rules.specs.Rules.{◌>>=◌}
use Rattle.kc_regions.specs.declared.entry.Gate.{Gate}
use Rattle.kc_state.specs.AbsEvents.{is_gate}
use Rattle.kc_cert.specs.FirstRefusal.{each, each_from}
use Rattle.kc_check.proofs.EachLemmas.{bind-ok, bind-err, each-next, each-end, each_filter-next, each_filter-end, each_from-next, each_from-end}

-- ---- vectors, of which those are asked whose events may come

module _ {E : Type 0} (ask : ℕ → Result (Unit {0}) E) (test : ℕ → Bool) (items all : List ℕ) (same : items ≡ all) where
  of-vector : (i : ℕ) (answer : Result (Unit {0}) E) → i < length items
      → answer ≡ cond (test (get_or items i 0)) (ask (get_or items i 0)) (Ok tt)
      → each ask (filter test (drop i all)) ≡ (answer >>= λ ok. each ask (filter test (drop (i + 1) all)))
  of-vector i answer lt e =
      each_filter-next ask test all i 0 (omega (arith, lt, ap length same))
      ∙ ap (λ (r : Result (Unit {0}) E). r >>= λ ok. each ask (filter test (drop (i + 1) all)))
      (ap (λ (l : List ℕ). cond (test (get_or l i 0)) (ask (get_or l i 0)) (Ok tt)) (sym same) ∙ sym e)

  pub vector-passed : (i : ℕ) (answer : Result (Unit {0}) E) → i < length items
      → answer ≡ cond (test (get_or items i 0)) (ask (get_or items i 0)) (Ok tt) → answer ≡ Ok tt
      → each ask (filter test (drop (i + 1) all)) ≡ each ask (filter test (drop i all))
  vector-passed i answer lt e ok =
      sym (of-vector i answer lt e ∙ bind-ok answer (each ask (filter test (drop (i + 1) all))) ok)

  pub vector-refused : (i : ℕ) (answer : Result (Unit {0}) E) (d : E) → i < length items
      → answer ≡ cond (test (get_or items i 0)) (ask (get_or items i 0)) (Ok tt) → answer ≡ Err d
      → Err d ≡ each ask (filter test (drop i all))
  vector-refused i answer d lt e err =
      sym (of-vector i answer lt e ∙ bind-err answer (each ask (filter test (drop (i + 1) all))) d err)

  pub vectors-ended : (i : ℕ) → length items ≤ i → Ok tt ≡ each ask (filter test (drop i all))
  vectors-ended i le = sym (each_filter-end ask test all i (omega (arith, le, ap length same)))

-- a vector whose event may come has a gate
pub gate-there : (test : Gate → Bool) (o : Option Gate) → is_gate test o ≡ true → IsSome o
gate-there test (Some g) e = refl
gate-there test None e = absurd cc

-- ---- all items

module _ {A E : Type 0} (ask : A → Result (Unit {0}) E) (items : List A) where
  of-item : (i : ℕ) (x : A) (answer : Result (Unit {0}) E) → i < length items → x ≡ get_or items i x → answer ≡ ask x
      → each ask (drop i items) ≡ (answer >>= λ ok. each ask (drop (i + 1) items))
  of-item i x answer lt is e =
      each-next ask items i x lt
      ∙ ap (λ (r : Result (Unit {0}) E). r >>= λ ok. each ask (drop (i + 1) items)) (ap ask (sym is) ∙ sym e)

  pub item-passed : (i : ℕ) (x : A) (answer : Result (Unit {0}) E) → i < length items → x ≡ get_or items i x
      → answer ≡ ask x → answer ≡ Ok tt → each ask (drop (i + 1) items) ≡ each ask (drop i items)
  item-passed i x answer lt is e ok =
      sym (of-item i x answer lt is e ∙ bind-ok answer (each ask (drop (i + 1) items)) ok)

  pub item-refused : (i : ℕ) (x : A) (answer : Result (Unit {0}) E) (d : E) → i < length items → x ≡ get_or items i x
      → answer ≡ ask x → answer ≡ Err d → Err d ≡ each ask (drop i items)
  item-refused i x answer d lt is e err =
      sym (of-item i x answer lt is e ∙ bind-err answer (each ask (drop (i + 1) items)) d err)

  pub items-ended : (i : ℕ) → length items ≤ i → Ok tt ≡ each ask (drop i items)
  items-ended i le = sym (each-end ask items i le)

-- ---- all items with their numbers

module _ {A E : Type 0} (ask : ℕ → A → Result (Unit {0}) E) (items all : List A) (same : items ≡ all) where
  of-numbered : (i : ℕ) (x : A) (answer : Result (Unit {0}) E) → i < length items → x ≡ get_or items i x
      → answer ≡ ask i x → each_from ask i (drop i all) ≡ (answer >>= λ ok. each_from ask (i + 1) (drop (i + 1) all))
  of-numbered i x answer lt is e =
      each_from-next ask all i x (omega (arith, lt, ap length same))
      ∙ ap (λ (r : Result (Unit {0}) E). r >>= λ ok. each_from ask (i + 1) (drop (i + 1) all))
      (ap (λ (l : List A). ask i (get_or l i x)) (sym same) ∙ ap (ask i) (sym is) ∙ sym e)

  pub numbered-passed : (i : ℕ) (x : A) (answer : Result (Unit {0}) E) → i < length items → x ≡ get_or items i x
      → answer ≡ ask i x → answer ≡ Ok tt
      → each_from ask (i + 1) (drop (i + 1) all) ≡ each_from ask i (drop i all)
  numbered-passed i x answer lt is e ok =
      sym (of-numbered i x answer lt is e ∙ bind-ok answer (each_from ask (i + 1) (drop (i + 1) all)) ok)

  pub numbered-refused : (i : ℕ) (x : A) (answer : Result (Unit {0}) E) (d : E) → i < length items
      → x ≡ get_or items i x → answer ≡ ask i x → answer ≡ Err d → Err d ≡ each_from ask i (drop i all)
  numbered-refused i x answer d lt is e err =
      sym (of-numbered i x answer lt is e ∙ bind-err answer (each_from ask (i + 1) (drop (i + 1) all)) d err)

  pub numbered-ended : (i : ℕ) → length items ≤ i → Ok tt ≡ each_from ask i (drop i all)
  numbered-ended i le = sym (each_from-end ask all i (omega (arith, le, ap length same)))

-- ---- items that all pass a test

module _ {A : Type 0} (test : A → Bool) (items : List A) where
  of-tested : (i : ℕ) (x : A) (b : Bool) → i < length items → x ≡ get_or items i x → b ≡ test x
      → list_all test (drop i items) ≡ (b && list_all test (drop (i + 1) items))
  of-tested i x b lt is e =
      at_drop_more (λ (l : List A). list_all test l) items i x lt
      ∙ ap (λ (t : Bool). t && list_all test (drop (i + 1) items)) (ap test (sym is) ∙ sym e)

  pub tested-passed : (i : ℕ) (x : A) (b : Bool) → i < length items → x ≡ get_or items i x → b ≡ test x → b ≡ true
      → list_all test (drop (i + 1) items) ≡ list_all test (drop i items)
  tested-passed i x b lt is e holds =
      sym (of-tested i x b lt is e ∙ ap (λ (t : Bool). t && list_all test (drop (i + 1) items)) holds)

  pub tested-failed : (i : ℕ) (x : A) (b : Bool) → i < length items → x ≡ get_or items i x → b ≡ test x → b ≡ false
      → false ≡ list_all test (drop i items)
  tested-failed i x b lt is e fails =
      sym (of-tested i x b lt is e ∙ ap (λ (t : Bool). t && list_all test (drop (i + 1) items)) fails)

  pub tested-ended : (i : ℕ) → length items ≤ i → true ≡ list_all test (drop i items)
  tested-ended i le = sym (at_drop_all (λ (l : List A). list_all test l) items i le)
