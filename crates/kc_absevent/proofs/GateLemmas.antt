-- A walk over the gates that adds the vectors of those that pass a test gives the set of the vectors whose gate passes
-- it: vectors differ, so the gate that a vector has is the one of the walk. By induction on the list, and one step of
-- the walk.
use Rattle.std.proofs.Common.{◌≡◌, ◌≢◌, ℕ, suc, ◌+◌, ◌<◌, ◌≤◌, ◌==◌, Bool, true, false, ◌&&◌, ◌||◌, List, [], ◌∷◌, length, take, get_or, slice_index_or, cond, Some, inl, inr, refl, sym, ap, ◌∙◌, arith}
use Rattle.std.specs.List.{list_any}
use Rattle.std.proofs.lemmas.Bool.Decides.{eqb_tells}
use Rattle.std.proofs.lemmas.List.Folds.{list_any_more}
use Rattle.std.proofs.lemmas.List.{take_all}
use Rattle.kc_regions.specs.Description.{Description}
use Rattle.kc_regions.specs.Each.{Each}
use Rattle.kc_regions.specs.Valid.{IsValid}
use Rattle.kc_regions.specs.CrossRules.{IsNewVector}
use Rattle.kc_regions.specs.Lookup.{gate_of}
use Rattle.kc_regions.specs.declared.entry.Gate.{Gate}
use Rattle.kc_state.specs.AbsEvents.{is_gate}
use Rattle.kc_absevent.specs.Sets.{has_vector, IsSetOf}

-- the gate is that of vector v, and passes
abbrev pub passes_at : (Gate → Bool) → ℕ → Gate → Bool
passes_at test v g = (g.vector == v) && test g

or_false : (b : Bool) → (b || false) ≡ b
or_false true = refl
or_false false = refl

or_true : (b : Bool) → (b || true) ≡ true
or_true true = refl
or_true false = refl

and_false : (b : Bool) → (b && false) ≡ false
and_false true = refl
and_false false = refl

none_of : (test : Gate → Bool) (gates : List Gate) (v : ℕ)
    → ((i : ℕ) (d : Gate) → i < length gates → (slice_index_or gates i d).vector ≢ v)
    → list_any (passes_at test v) gates ≡ false
none_of test [] v h = refl
none_of test (g ∷ gates) v h = elim (eqb_tells g.vector v) [
  | inl same ↦ absurd (h 0 g (omega arith) same.1)
  | inr other ↦
      let rest = none_of test gates v (λ i d b. h (suc i) d (omega (arith, b))) in
      λ i. (other.0 i && test g) || rest i
]

pub among : (test : Gate → Bool) (gates : List Gate) (v : ℕ) → Each IsNewVector gates
    → list_any (passes_at test v) gates ≡ is_gate test (gate_of gates v)
among test [] v h = refl
among test (g ∷ gates) v h = elim (eqb_tells g.vector v) [
  | inl same ↦
      let rest = none_of test gates v (λ i d b e. h (suc i) d (omega (arith, b)) 0 g (omega arith) (same.1 ∙ sym e)) in
      (λ i. (same.0 i && test g) || rest i) ∙ or_false (test g)
      ∙ sym (λ i. is_gate test (cond (same.0 i) (Some g) (gate_of gates v)))
  | inr other ↦
      let rest = among test gates v (λ i d b k e lt. h (suc i) d (omega (arith, b)) (suc k) e (omega (arith, lt))) in
      (λ i. (other.0 i && test g) || rest i)
      ∙ sym (λ i. is_gate test (cond (other.0 i) (Some g) (gate_of gates v)))
]

-- the set has the vectors of the gates walked so far that pass
abbrev pub Walked : (Gate → Bool) → List Gate → ℕ → List ℕ → Type 0
Walked test gates i words = (v : ℕ) → v < 256 → has_vector words v ≡ list_any (passes_at test v) (take i gates)

more : (test : Gate → Bool) (gates : List Gate) (i v : ℕ) (g : Gate) → i < length gates → g ≡ get_or gates i g
    → list_any (passes_at test v) (take (i + 1) gates)
    ≡ (list_any (passes_at test v) (take i gates) || passes_at test v g)
more test gates i v g b e =
    list_any_more (passes_at test v) gates i g b
    ∙ ap (λ (x : Gate). list_any (passes_at test v) (take i gates) || passes_at test v x) (sym e)

-- one that passes is added
pub walked_added : (test : Gate → Bool) (gates : List Gate) (i : ℕ) (g : Gate) (old new : List ℕ) → i < length gates
    → g ≡ get_or gates i g → test g ≡ true → has_vector new g.vector ≡ true
    → ((w : ℕ) → w < 256 → w ≢ g.vector → has_vector new w ≡ has_vector old w)
    → Walked test gates i old → Walked test gates (i + 1) new
walked_added test gates i g old new b e pass added others before v bound =
    let all : Bool = list_any (passes_at test v) (take i gates) in
    elim (eqb_tells g.vector v) [
      | inl same ↦
          ap (has_vector new) (sym same.1) ∙ added
          ∙ sym (more test gates i v g b e ∙ (λ j. all || (same.0 j && pass j)) ∙ or_true all)
      | inr other ↦
          others v bound (λ f. other.1 (sym f)) ∙ before v bound
          ∙ sym (more test gates i v g b e ∙ (λ j. all || (other.0 j && test g)) ∙ or_false all)
    ]

-- and one that doesn't changes nothing
pub walked_kept : (test : Gate → Bool) (gates : List Gate) (i : ℕ) (g : Gate) (old : List ℕ) → i < length gates
    → g ≡ get_or gates i g → test g ≡ false → Walked test gates i old → Walked test gates (i + 1) old
walked_kept test gates i g old b e fail before v bound =
    let all : Bool = list_any (passes_at test v) (take i gates) in
    before v bound
    ∙ sym (more test gates i v g b e ∙ (λ j. all || ((g.vector == v) && fail j))
    ∙ ap (λ (x : Bool). all || x) (and_false (g.vector == v)) ∙ or_false all)

-- before the walk
pub walked_none : (test : Gate → Bool) (gates : List Gate) (words : List ℕ) → IsSetOf words (λ v. false)
    → Walked test gates 0 words
walked_none test gates words empty v b = empty v b

-- and at its end
pub walked_all : (d : Description) (test : Gate → Bool) (n : ℕ) (words : List ℕ) → IsValid d → length d.gates ≤ n
    → Walked test d.gates n words → IsSetOf words (λ v. is_gate test (gate_of d.gates v))
walked_all d test n words valid past walked v b =
    walked v b ∙ ap (list_any (passes_at test v)) (take_all n d.gates past) ∙ among test d.gates v valid.rules.vectors
