-- Marks of contexts, one for each number: a context returns where it is marked, or where a node that is left says so. A
-- node that is at a return marks its context, and another one is left out; by cases on whether the context is the node's.
use Rattle.std.proofs.Common.{◌≡◌, ◌≢◌, ℕ, zero, suc, ◌+◌, ◌<◌, ◌≤◌, ◌&&◌, ◌||◌, Bool, true, false, List, length, get_or, drop, refl, sym, ap, ◌∙◌, subst}
use Rattle.std.proofs.Math.ListN.{set, replicate}
use Rattle.std.proofs.lemmas.Bool.{eq-eqb, eqb-true}
use Rattle.std.proofs.lemmas.List.{drop_more, drop_all}
use Rattle.std.proofs.Common.{get_or-set_same, get_or-set_other}
use Rattle.std.specs.List.{list_any}
use Rattle.std.specs.Prelude.{◌==◌}
use Rattle.kc_cert.specs.declared.certificate.Node.{Node}

abbrev names : (Node → Bool) → ℕ → Node → Bool
names at_return i n = (n.context == i) && at_return n

abbrev pub marked_or_left : (Node → Bool) → List Bool → List Node → ℕ → Bool
marked_or_left at_return marks left i = get_or marks i false || list_any (names at_return i) left

or-true : (a : Bool) → (a || true) ≡ true
or-true true = refl
or-true false = refl

and-false : (a : Bool) → (a && false) ≡ false
and-false true = refl
and-false false = refl

module _ (at_return : Node → Bool) where
  next : (marks : List Bool) (nodes : List Node) (k : ℕ) (n : Node) (i : ℕ) → k < length nodes → n ≡ get_or nodes k n
      → marked_or_left at_return marks (drop k nodes) i
      ≡ (get_or marks i false || (names at_return i n || list_any (names at_return i) (drop (k + 1) nodes)))
  next marks nodes k n i lt is =
      ap (λ (l : List Node). marked_or_left at_return marks l i) (drop_more nodes k n lt)
      ∙ ap (λ (m : Node). get_or marks i false || (names at_return i m || list_any (names at_return i) (drop (k + 1) nodes)))
      (sym is)

  marked : (marks : List Bool) (c i : ℕ) (b r rest : Bool) → c < length marks → (c == i) ≡ b → r ≡ true
      → (get_or (set marks c true) i false || rest) ≡ (get_or marks i false || (((c == i) && r) || rest))
  marked marks c i true r rest lt e t =
      let same : c ≡ i = eqb-true c i e in
      let here : get_or (set marks c true) i false ≡ true =
      subst (λ (j : ℕ). get_or (set marks c true) j false ≡ true) same (get_or-set_same marks c true false lt) in
      ap (λ (x : Bool). x || rest) here
      ∙ sym (ap (λ (x : Bool). get_or marks i false || ((x && r) || rest)) e
      ∙ ap (λ (x : Bool). get_or marks i false || (x || rest)) t ∙ or-true (get_or marks i false))
  marked marks c i false r rest lt e t =
      let other : i ≢ c = λ q. absurd (clash (c == i) (eq-eqb c i (sym q)) e) in
      ap (λ (x : Bool). x || rest) (get_or-set_other marks c i true false other)
      ∙ sym (ap (λ (x : Bool). get_or marks i false || ((x && r) || rest)) e)
    where
      clash : (x : Bool) → x ≡ true → x ≡ false → ⊥
      clash true p q = absurd cc
      clash false p q = absurd cc

  pub is-marked : (marks : List Bool) (nodes : List Node) (k : ℕ) (n : Node) (i : ℕ) → k < length nodes
      → n ≡ get_or nodes k n → n.context < length marks → at_return n ≡ true
      → marked_or_left at_return (set marks n.context true) (drop (k + 1) nodes) i
      ≡ marked_or_left at_return marks (drop k nodes) i
  is-marked marks nodes k n i lt is fits e =
      marked marks n.context i (n.context == i) (at_return n) (list_any (names at_return i) (drop (k + 1) nodes)) fits refl e
      ∙ sym (next marks nodes k n i lt is)

  pub isn't-marked : (marks : List Bool) (nodes : List Node) (k : ℕ) (n : Node) (i : ℕ) → k < length nodes
      → n ≡ get_or nodes k n → at_return n ≡ false
      → marked_or_left at_return marks (drop (k + 1) nodes) i ≡ marked_or_left at_return marks (drop k nodes) i
  isn't-marked marks nodes k n i lt is e =
      sym (next marks nodes k n i lt is
      ∙ ap (λ (x : Bool). get_or marks i false || (((n.context == i) && x) || list_any (names at_return i) (drop (k + 1) nodes))) e
      ∙ ap (λ (x : Bool). get_or marks i false || (x || list_any (names at_return i) (drop (k + 1) nodes)))
      (and-false (n.context == i)))

  pub all-marked : (marks : List Bool) (nodes : List Node) (k i : ℕ) → length nodes ≤ k
      → get_or marks i false ≡ marked_or_left at_return marks (drop k nodes) i
  all-marked marks nodes k i le =
      sym (ap (λ (l : List Node). marked_or_left at_return marks l i) (drop_all k nodes le) ∙ or-false (get_or marks i false))
    where
      or-false : (a : Bool) → (a || false) ≡ a
      or-false true = refl
      or-false false = refl

  pub none-marked : (many : ℕ) (marks : List Bool) (nodes : List Node) (i : ℕ) → marks ≡ replicate many false
      → marked_or_left at_return marks nodes i ≡ list_any (names at_return i) nodes
  none-marked many marks nodes i e =
      ap (λ (l : List Bool). marked_or_left at_return l nodes i) e
      ∙ ap (λ (x : Bool). x || list_any (names at_return i) nodes) (unmarked many i)
    where
      unmarked : (n j : ℕ) → get_or (replicate n false) j false ≡ false
      unmarked zero j = refl
      unmarked (suc n) zero = refl
      unmarked (suc n) (suc j) = unmarked n j
