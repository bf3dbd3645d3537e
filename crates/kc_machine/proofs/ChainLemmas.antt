-- The newest activation is the last of the chain. Each change of it is read off by induction on the chain, whose last
-- step has one activation.
use Rattle.std.proofs.Common.{◌≡◌, ℕ, suc, ◌-◌, List, [], ◌∷◌, ◌++◌, length, Option, Some, None, IsSomeAnd, MatchOption, slice_set, arith, refl, ap, sym, ◌∙◌, subst}
use Rattle.kc_exec.specs.declared.state.Activation.{Activation}
use Rattle.kc_events.specs.declared.turn.Edit.{Edit}
use Rattle.kc_events.specs.Turns.{newest, without_newest}
use Rattle.kc_events.specs.Edits.{edited_cpu, with_edit}
use Rattle.kc_machine.specs.Chain.{with_newest, with_base}

pub without-append : (chain : List Activation) (a : Activation) → without_newest (chain ++ a ∷ []) ≡ chain
without-append [] a = refl
without-append (x ∷ []) a = refl
without-append (x ∷ (y ∷ rest)) a = ap (λ (xs : List Activation). x ∷ xs) (without-append (y ∷ rest) a)

pub newest-set : (chain : List Activation) (n : Activation) → slice_set chain (length chain - 1) n ≡ with_newest n chain
newest-set [] n = refl
newest-set (a ∷ []) n = refl
newest-set (a ∷ (b ∷ rest)) n =
    let here : length (a ∷ (b ∷ rest)) - 1 ≡ suc (length rest) = omega arith in
    let there : length (b ∷ rest) - 1 ≡ length rest = omega arith in
    ap (λ (k : ℕ). slice_set (a ∷ (b ∷ rest)) k n) here
    ∙ ap (λ (xs : List Activation). a ∷ xs) (sym (ap (λ (k : ℕ). slice_set (b ∷ rest) k n) there)
    ∙ newest-set (b ∷ rest) n)

pub base-set : (chain : List Activation) (a : Activation) (base : ℕ) → newest chain ≡ Some a
    → with_newest (record a { base = base }) chain ≡ with_base base chain
base-set [] a base e = refl
base-set (x ∷ []) a base e =
    let same : x ≡ a = cc (e) in ap (λ (y : Activation). record y { base = base } ∷ []) (sym same)
base-set (x ∷ (y ∷ rest)) a base e = ap (λ (xs : List Activation). x ∷ xs) (base-set (y ∷ rest) a base e)

pub due-set : (chain : List Activation) (a : Activation) (edit : Edit) → newest chain ≡ Some a
    → with_newest (record a { due = edited_cpu edit a.due }) chain ≡ with_edit edit chain
due-set [] a edit e = refl
due-set (x ∷ []) a edit e =
    let same : x ≡ a = cc (e) in ap (λ (y : Activation). record y { due = edited_cpu edit y.due } ∷ []) (sym same)
due-set (x ∷ (y ∷ rest)) a edit e = ap (λ (xs : List Activation). x ∷ xs) (due-set (y ∷ rest) a edit e)

pub base-append : (chain : List Activation) (a : Activation) (base : ℕ) → with_base base (chain ++ a ∷ []) ≡ chain
    ++ record a { base = base } ∷ []
base-append [] a base = refl
base-append (x ∷ []) a base = refl
base-append (x ∷ (y ∷ rest)) a base = ap (λ (xs : List Activation). x ∷ xs) (base-append (y ∷ rest) a base)

-- what is said of the newest activation
pub newest-has : (P : Activation → Type 0) (chain : List Activation) (a : Activation) → newest chain ≡ Some a → P a
    → IsSomeAnd (newest chain) P
newest-has P chain a e p = subst (λ (o : Option Activation). IsSomeAnd o P) (sym e) p

pub newest-is : (P : Activation → Type 0) (chain : List Activation) (a : Activation) → newest chain ≡ Some a
    → IsSomeAnd (newest chain) P → P a
newest-is P chain a e h = subst (λ (o : Option Activation). IsSomeAnd o P) e h

pub newest-none : (P : Activation → Type 0) (chain : List Activation) → newest chain ≡ None → IsSomeAnd (newest chain) P
    → ⊥
newest-none P chain e h = subst (λ (o : Option Activation). IsSomeAnd o P) e h

-- an empty chain stays empty
pub base-none : (chain : List Activation) (base : ℕ) → newest chain ≡ None → chain ≡ with_base base chain
base-none [] base e = refl
base-none (x ∷ []) base e = absurd (let k : ◌≡◌ {A = Option Activation} (Some x) None = e in cc)
base-none (x ∷ (y ∷ rest)) base e = ap (λ (xs : List Activation). x ∷ xs) (base-none (y ∷ rest) base e)

pub due-none : (chain : List Activation) (edit : Edit) → newest chain ≡ None → chain ≡ with_edit edit chain
due-none [] edit e = refl
due-none (x ∷ []) edit e = absurd (let k : ◌≡◌ {A = Option Activation} (Some x) None = e in cc)
due-none (x ∷ (y ∷ rest)) edit e = ap (λ (xs : List Activation). x ∷ xs) (due-none (y ∷ rest) edit e)

-- what a pop leaves
pub popped : (r : Option Activation) (old new : List Activation) → MatchOption r ((old ≡ []) × (new ≡ []))
    (λ last. old ≡ new ++ last ∷ [])
    → new ≡ without_newest old
popped None old new h = h.1 ∙ sym (ap (λ (xs : List Activation). without_newest xs) h.0)
popped (Some a) old new h = sym (ap (λ (xs : List Activation). without_newest xs) h ∙ without-append new a)
