-- The order of symbols as two cases, and what follows; the laws of values cite these.
use Rattle.std.proofs.Common.{◌≡◌, ◌≤◌, Bool, true, false, cond, refl, sym, ap, ◌∙◌, subst, inl, inr, ◌⊎◌, arith}
use Rattle.std.proofs.lemmas.Bool.{false≢true, eqb-true, eq-eqb, cases_Bool}
use Rattle.std.proofs.lemmas.Bool.Decides.{Decides-int_eq}
use Rattle.kc_value.specs.Symbol.{IsSym, is_same_sym, is_plain, is_sym_below, sym_joined, sym_rank}
use Rattle.kc_value.specs.declared.symbol.Sym.{Sym}
use Rattle.kc_value.specs.declared.symbol.Sym.TheVariants.{Plain, Base, Entry, UserGs}

pub same_sym : (s t : Sym) → is_same_sym s t ≡ true → s ≡ t
same_sym Plain Plain h = refl
same_sym Plain (Base l) h = absurd (false≢true h)
same_sym Plain (Entry w) h = absurd (false≢true h)
same_sym Plain UserGs h = absurd (false≢true h)
same_sym (Base k) Plain h = absurd (false≢true h)
same_sym (Base k) (Base l) h = ap Base ((Decides-int_eq k l).0 h)
same_sym (Base k) (Entry w) h = absurd (false≢true h)
same_sym (Base k) UserGs h = absurd (false≢true h)
same_sym (Entry v) Plain h = absurd (false≢true h)
same_sym (Entry v) (Base l) h = absurd (false≢true h)
same_sym (Entry v) (Entry w) h = ap Entry (eqb-true v w h)
same_sym (Entry v) UserGs h = absurd (false≢true h)
same_sym UserGs Plain h = absurd (false≢true h)
same_sym UserGs (Base l) h = absurd (false≢true h)
same_sym UserGs (Entry w) h = absurd (false≢true h)
same_sym UserGs UserGs h = refl

pub is_same_sym-refl : (s : Sym) → is_same_sym s s ≡ true
is_same_sym-refl Plain = refl
is_same_sym-refl (Base k) = (Decides-int_eq k k).1 refl
is_same_sym-refl (Entry w) = eq-eqb w w refl
is_same_sym-refl UserGs = refl

pub plain_is : (s : Sym) → is_plain s ≡ true → s ≡ Plain
plain_is Plain h = refl
plain_is (Base k) h = absurd (false≢true h)
plain_is (Entry w) h = absurd (false≢true h)
plain_is UserGs h = absurd (false≢true h)

-- below: the greater is Plain, or they are one
pub below_cases : (s t : Sym) → is_sym_below s t ≡ true → (t ≡ Plain) ⊎ (s ≡ t)
below_cases s t h = elim (cases_Bool (is_plain t)) [
  | inl p ↦ inl (plain_is t p)
  | inr p ↦ inr (same_sym s t (subst (λ (b : Bool). cond b true (is_same_sym s t) ≡ true) p h))
]

pub below_plain : (s t : Sym) → t ≡ Plain → is_sym_below s t ≡ true
below_plain s t e = ap (λ (u : Sym). is_sym_below s u) e

pub below_same : (s t : Sym) → s ≡ t → is_sym_below s t ≡ true
below_same s t e = elim (cases_Bool (is_plain t)) [
  | inl p ↦ ap (λ (b : Bool). cond b true (is_same_sym s t)) p
  | inr p ↦ ap (λ (b : Bool). cond b true (is_same_sym s t)) p ∙ ap (λ (u : Sym). is_same_sym u t) e
      ∙ is_same_sym-refl t
]

pub sym_trans : (s t u : Sym) → is_sym_below s t ≡ true → is_sym_below t u ≡ true → is_sym_below s u ≡ true
sym_trans s t u h k = elim (below_cases t u k) [
  | inl p ↦ below_plain s u p
  | inr e ↦ elim (below_cases s t h) [ inl p ↦ below_plain s u (sym e ∙ p) | inr f ↦ below_same s u (f ∙ e) ]
]

pub sym_antisym : (s t : Sym) → is_sym_below s t ≡ true → is_sym_below t s ≡ true → s ≡ t
sym_antisym s t h k = elim (below_cases s t h) [
  | inr e ↦ e
  | inl p ↦ elim (below_cases t s k) [ inr e ↦ sym e | inl q ↦ q ∙ sym p ]
]

-- a join is the first where the two are one, and Plain else
pub joined_cases : (s t : Sym) → ((s ≡ t) × (sym_joined s t ≡ s))
    ⊎ ((is_same_sym s t ≡ false) × (sym_joined s t ≡ Plain))
joined_cases s t = elim (cases_Bool (is_same_sym s t)) [
  | inl e ↦ inl (same_sym s t e, ap (λ (b : Bool). cond b s Plain) e)
  | inr e ↦ inr (e, ap (λ (b : Bool). cond b s Plain) e)
]

pub sym_left : (s t : Sym) → is_sym_below s (sym_joined s t) ≡ true
sym_left s t = elim (joined_cases s t) [
  | inl p ↦ below_same s (sym_joined s t) (sym p.1)
  | inr p ↦
      below_plain s (sym_joined s t) p.1
]

pub sym_right : (s t : Sym) → is_sym_below t (sym_joined s t) ≡ true
sym_right s t = elim (joined_cases s t) [
  | inl p ↦ below_same t (sym_joined s t) (sym p.0 ∙ sym p.1)
  | inr p ↦
      below_plain t (sym_joined s t) p.1
]

pub sym_least : (s t u : Sym) → is_sym_below s u ≡ true → is_sym_below t u ≡ true
    → is_sym_below (sym_joined s t) u ≡ true
sym_least s t u h k = elim (joined_cases s t) [
  | inl p ↦ ap (λ (v : Sym). is_sym_below v u) p.1 ∙ h
  | inr p ↦ elim (below_cases s u h) [
    | inl q ↦ below_plain (sym_joined s t) u q
    | inr e ↦ elim (below_cases t u k) [
      | inl q ↦ below_plain (sym_joined s t) u q
      | inr f ↦
          let one : is_same_sym s t ≡ true = ap (is_same_sym s) (f ∙ sym e) ∙ is_same_sym-refl s in
          absurd (false≢true (sym p.0 ∙ one))
    ]
  ]
]

pub sym_joined_fits : (s t : Sym) → IsSym s → IsSym (sym_joined s t)
sym_joined_fits s t h = elim (joined_cases s t) [ inl p ↦ subst IsSym (sym p.1) h | inr p ↦ subst IsSym (sym p.1) tt ]

sym_rank-le : (s : Sym) → sym_rank s ≤ 1
sym_rank-le Plain = omega arith
sym_rank-le (Base k) = omega arith
sym_rank-le (Entry w) = omega arith
sym_rank-le UserGs = omega arith

rank_zero : (s : Sym) → sym_rank s ≡ 0 → s ≡ Plain
rank_zero Plain h = refl
rank_zero (Base k) h = absurd (omega arith)
rank_zero (Entry w) h = absurd (omega arith)
rank_zero UserGs h = absurd (omega arith)

pub sym_falls : (s t : Sym) → is_sym_below s t ≡ true → sym_rank t ≤ sym_rank s
sym_falls s t h = elim (below_cases s t h) [
  | inl p ↦ let zero_is : sym_rank t ≡ 0 = ap sym_rank p in omega arith
  | inr e ↦ let one : sym_rank s ≡ sym_rank t = ap sym_rank e in omega arith
]

pub sym_tied : (s t : Sym) → is_sym_below s t ≡ true → sym_rank s ≡ sym_rank t → s ≡ t
sym_tied s t h e = elim (below_cases s t h) [
  | inl p ↦ rank_zero s (e ∙ ap sym_rank p) ∙ sym p
  | inr f ↦ f
]
