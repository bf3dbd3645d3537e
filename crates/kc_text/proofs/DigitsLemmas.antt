-- Digits that are written from the last one on. The claim: after each turn the bytes from `at` on are the digits of
-- what was divided away, before those of the rest (`onto`), and the bytes before are zeros. The induction is the loop's
-- own, one division by 16 a turn; `put_digit` carries it, and `omega` is left quotients and offsets.
use Rattle.std.proofs.Common.{◌≡◌, ◌∙◌, sym, ap, subst, refl, ℕ, zero, suc, ◌+◌, ◌-◌, ◌*◌, ◌/◌, ◌%◌, ◌^◌, ◌<◌, ◌≤◌}
use Rattle.std.proofs.Common.{Bool, true, false, cond, List, [], ◌∷◌, length, take, drop, replicate, set, arith, nat_eq}
use Rattle.std.proofs.Common.{eq-eqb, ne_eqb}
use Rattle.std.proofs.lemmas.List.{drop-set, take-set, take-take, take-replicate}
use Rattle.std.proofs.Math.Nat.{pow-suc}
use Rattle.std.specs.Fmt.{digits, digits_onto, digit_glyph}

-- the last k digits of n at most, before those that are written
unfoldable pub onto : ℕ → ℕ → List ℕ → List ℕ
onto k n acc = digits_onto k 16 false n acc

pub onto-nil : (n : ℕ) → onto 64 n [] ≡ digits 16 false n
unfolding digits onto
onto-nil n = refl

module _ (n : ℕ) (acc : List ℕ) where
  at_test : (k : ℕ) (t : Bool) → nat_eq (n / 16) 0 ≡ t
      → onto (suc k) n acc ≡ cond t (digit_glyph false (n % 16) ∷ acc)
      (onto k (n / 16) (digit_glyph false (n % 16) ∷ acc))
  unfolding onto
  at_test k t e = ap (λ (b : Bool). cond b (digit_glyph false (n % 16) ∷ acc)
      (digits_onto k 16 false (n / 16) (digit_glyph false (n % 16) ∷ acc))) e

  pub onto-last : (k : ℕ) → n / 16 ≡ 0 → onto (suc k) n acc ≡ digit_glyph false (n % 16) ∷ acc
  onto-last k e = at_test k true (eq-eqb _ 0 e)

  pub onto-more : (k : ℕ) → (n / 16 ≡ 0 → ⊥) → onto (suc k) n acc ≡ onto k (n / 16) (digit_glyph false (n % 16) ∷ acc)
  onto-more k e = at_test k false (ne_eqb _ 0 e)

-- one digit d is put before those from `at` on
module _ (at n d : ℕ) (out : List ℕ) (some : 1 ≤ at) (within : at ≤ length out)
    (is_digit : d ≡ digit_glyph false (n % 16)) where
  put_digit : drop (at - 1) (set out (at - 1) d) ≡ digit_glyph false (n % 16) ∷ drop at out
  put_digit =
      let back : at - 1 + 1 ≡ at = omega arith in
      drop-set out (at - 1) d (omega arith) ∙ (λ i. is_digit i ∷ drop (back i) out)

  pub zeros_stay : at ≤ 16 → take at out ≡ replicate at 48 → take (at - 1) (set out (at - 1) d) ≡ replicate (at - 1) 48
  zeros_stay le e =
      take-set out (at - 1) d ∙ sym (take-take (at - 1) at out (omega arith)) ∙ ap (take (at - 1)) e ∙ take-replicate
      (at - 1) at 48 (omega arith)

  pub last_digit : (ds : List ℕ) → n / 16 ≡ 0 → onto (at + 48) n (drop at out) ≡ ds →
      drop (at - 1) (set out (at - 1) d) ≡ ds
  last_digit ds e h =
      let up : at + 48 ≡ suc (at + 47) = omega arith in
      put_digit ∙ sym (onto-last n (drop at out) (at + 47) e) ∙ ap (λ k. onto k n (drop at out)) (sym up) ∙ h

  pub more_digits : (ds : List ℕ) → (n / 16 ≡ 0 → ⊥) → onto (at + 48) n (drop at out) ≡ ds
      → onto (at - 1 + 48) (n / 16) (drop (at - 1) (set out (at - 1) d)) ≡ ds
  more_digits ds e h =
      let up : at + 48 ≡ suc (at - 1 + 48) = omega arith in
      ap (onto (at - 1 + 48) (n / 16)) put_digit ∙ sym (onto-more n (drop at out) (at - 1 + 48) e) ∙ ap
      (λ k. onto k n (drop at out)) (sym up) ∙ h

-- what is left needs a place fewer
pub rest_less : (at n : ℕ) → n < 16 ^ at → (n / 16 ≡ 0 → ⊥) → (1 ≤ at - 1) × (n / 16 < 16 ^ (at - 1))
rest_less zero n h e = absurd (e (omega arith))
rest_less (suc zero) n h e = absurd (e (omega arith))
rest_less (suc (suc k)) n h e =
    let more : 16 ^ suc (suc k) ≡ 16 ^ suc k * 16 = pow-suc 16 (suc k) in
    let less : n / 16 < 16 ^ suc k = omega (arith, more) in
    let fewer : suc (suc k) - 1 ≡ suc k = omega arith in
    (omega arith, subst (λ j. n / 16 < 16 ^ j) (sym fewer) less)
