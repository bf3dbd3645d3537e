-- A set of vectors is a list of words, 64 vectors a word: the vector that is added is in the set, and each other one is
-- in it as before. By cases on whether both are in one word.
use Rattle.std.proofs.Common.{◌≡◌, ◌≢◌, ℕ, ◌/◌, ◌%◌, ◌^◌, ◌<◌, ◌==◌, true, List, length, get_or, bit_or, inl, inr, refl, sym, ap, ◌∙◌, arith}
use Rattle.std.proofs.lemmas.Bool.{cases_eq, eq-eqb}
use Rattle.std.proofs.lemmas.List.{get_or-set_same, get_or-set_other}
use Rattle.std.proofs.lemmas.Nat.Bits.{bit_at_or, bit_at-lt, bit_at-pow_other}
use Rattle.std.proofs.Math.Nat.{div-add-mod}
use Rattle.std.specs.Int.{bit_at}
use Rattle.kc_shapes.specs.SetLaws.{added_bit}
use Rattle.kc_absevent.specs.Sets.{has_vector, with_vector}

pub added_has : (words : List ℕ) (v : ℕ) → v / 64 < length words → has_vector (with_vector words v) v ≡ true
added_has words v h =
    let x : ℕ = get_or words (v / 64) 0 in
    let k : ℕ = v % 64 in
    let read : get_or (with_vector words v) (v / 64) 0 ≡ bit_or x (2 ^ k) =
    get_or-set_same words (v / 64) (bit_or x (2 ^ k)) 0 h in
    let one : bit_at (bit_or x (2 ^ k)) k ≡ 1 = (added_bit x k k).1 (inr refl) in
    eq-eqb (bit_at (get_or (with_vector words v) (v / 64) 0) k) 1 (ap (λ (w : ℕ). bit_at w k) read ∙ one)

pub added_keeps : (words : List ℕ) (v w : ℕ) → v / 64 < length words → w ≢ v
    → has_vector (with_vector words v) w ≡ has_vector words w
added_keeps words v w h apart =
    let x : ℕ = get_or words (v / 64) 0 in
    let k : ℕ = v % 64 in
    elim (cases_eq (w / 64) (v / 64)) [
      | inl e ↦
          let other : w % 64 ≢ k = λ same. apart (omega (arith, e, same, div-add-mod w 64, div-add-mod v 64)) in
          let read : get_or (with_vector words v) (w / 64) 0 ≡ bit_or x (2 ^ k) =
          ap (λ (i : ℕ). get_or (with_vector words v) i 0) e
          ∙ get_or-set_same words (v / 64) (bit_or x (2 ^ k)) 0 h in
          let bits : bit_at (bit_or x (2 ^ k)) (w % 64) ≡ bit_at x (w % 64) =
          omega (arith, bit_at_or x (2 ^ k) (w % 64), bit_at-pow_other k (w % 64) other, bit_at-lt x (w % 64)) in
          let whole : bit_at (get_or (with_vector words v) (w / 64) 0) (w % 64) ≡ bit_at (get_or words (w / 64) 0)
          (w % 64) =
          ap (λ (y : ℕ). bit_at y (w % 64)) read ∙ bits
          ∙ ap (λ (i : ℕ). bit_at (get_or words i 0) (w % 64)) (sym e) in
          ap (λ (b : ℕ). b == 1) whole
      | inr n ↦
          ap (λ (y : ℕ). bit_at y (w % 64) == 1)
          (get_or-set_other words (v / 64) (w / 64) (bit_or x (2 ^ k)) 0 n)
    ]
