-- Known bits that leave one word: where no bit is open, two words with these bits agree in each of them.
use Rattle.std.proofs.Common.{◌≡◌, ℕ, ◌^◌, ◌<◌, bit_and, arith, sym, ap, ◌∙◌, inl, inr}
use Rattle.std.proofs.lemmas.Bool.{cases_lt}
use Rattle.std.proofs.lemmas.Nat.Bits.{same_from_bits, same_from_bits_below, bit_at_and, bit_at-zero, bit_at-lt, bit_at_above}
use Rattle.std.specs.Int.{bit_at}
use Rattle.kc_bits.specs.KnownBits.{KnownBits}
use Rattle.kc_bits.specs.Bits.{IsValid, StandsFor, flipped, all_of, unknown}
use Rattle.kc_bits.proofs.Masks.{two, bit_at-flipped, known_alike}

pub all_apart : (v : ℕ) → v < 2 ^ 64 → bit_and (flipped v) v ≡ 0
all_apart v h = same_from_bits (bit_and (flipped v) v) 0 (λ i.
    bit_at_and (flipped v) v i
    ∙ elim (cases_lt i 64) [
      | inl k ↦ omega (arith, bit_at-flipped v i h k, bit_at-lt v i, bit_at-zero i)
      | inr k ↦ omega (arith, bit_at_above v 64 i h k, bit_at-zero i)
    ])

pub all_stands : (v : ℕ) → v < 2 ^ 64 → StandsFor (all_of v) v
all_stands v h = λ i.
    elim (cases_lt i 64) [
      | inl k ↦ (λ z. omega (arith, z, bit_at-flipped v i h k, bit_at-lt v i), λ o. o)
      | inr k ↦ (λ z. bit_at_above v 64 i h k, λ o. o)
    ]

pub all_only : (v n : ℕ) → v < 2 ^ 64 → n < 2 ^ 64 → StandsFor (all_of v) n → n ≡ v
all_only v n hv hn s = same_from_bits_below 64 n v hn hv (λ i k.
    elim (two (bit_at v i) (bit_at-lt v i)) [
      | inl e ↦ omega (arith, e, (s i).0 (omega (arith, e, bit_at-flipped v i hv k)))
      | inr e ↦ omega (arith, e, (s i).1 e)
    ])

pub known_only : (b : KnownBits) (n : ℕ) → IsValid b → n < 2 ^ 64 → unknown b ≡ 0 → StandsFor b n → n ≡ b.ones
known_only b n h hn none s = same_from_bits_below 64 n b.ones hn h.ones_fit (λ i k.
    sym (known_alike b n i h s k (ap (λ (u : ℕ). bit_at u i) none ∙ bit_at-zero i)).0)
