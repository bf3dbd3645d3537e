-- What a decoder answers at bytes that spell an instruction, and no more: by its clause `only` at their whole length.
use Rattle.std.proofs.Common.{◌≡◌, ℕ, ◌≤◌, List, length, take, Result, Ok, Err, sym, ap, subst, ◌∙◌, arith}
use Rattle.std.proofs.lemmas.List.{take_all}
use Rattle.kc_insn.specs.declared.insn.Insn.{Insn}
use Rattle.kc_insn.specs.Spells.{Spells}

module _ {E : Type 0} (answer : Result (Insn × ℕ) E) (bytes : List ℕ) (at : ℕ) (i : Insn)
    (only : (n : ℕ) (j : Insn) → n ≤ length bytes → Spells (take n bytes) at j → answer ≡ Ok (j, n))
    (spelt : Spells bytes at i) where
  answered : answer ≡ Ok (i, length bytes)
  answered = only (length bytes) i (omega arith)
      (subst (λ (l : List ℕ). Spells l at i) (sym (take_all (length bytes) bytes (omega arith))) spelt)

  pub never-refused : (e : E) → answer ≡ Err e → ⊥
  never-refused e h = let clash : ◌≡◌ {A = Result (Insn × ℕ) E} (Ok (i, length bytes)) (Err e) = sym answered ∙ h in
      absurd cc

  pub found-is : (j : Insn) (n : ℕ) → answer ≡ Ok (j, n) → j ≡ i
  found-is j n h =
      let same : ◌≡◌ {A = Result (Insn × ℕ) E} (Ok (j, n)) (Ok (i, length bytes)) = sym h ∙ answered in
      let pair : (j, n) ≡ (i, length bytes) = cc in
      ap (λ (p : Insn × ℕ). p.0) pair
