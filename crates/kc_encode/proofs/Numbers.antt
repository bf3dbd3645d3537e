-- The numbers in the chosen bytes, as the grammar reads them.
-- Each number is written in the bytes of its bits at 8, 32 or 64, and reads back as itself where it fits: std's
-- to_z-of_z and of_z-to_z. An immediate is written by its sign-extended form where that fits a byte. omega is left the
-- ranges.
use Rattle.std.proofs.Common.{◌≡◌, ℕ, ◌+◌, ◌-◌, ◌%◌, ◌^◌, ◌<◌, true, ltb, leb, [], ◌∷◌, ℤ, pos, negsuc, refl, sym, ap, ◌∙◌, arith}
use Rattle.std.specs.Prelude.{FitsSigned, int_le}
use Rattle.std.specs.Int.{w8, w32, w64, cast_signed, cast_unsigned, to_le_bytes}
use Rattle.std.proofs.lemmas.Bool.{ltb-true, leb-true, and_parts}
use Rattle.std.proofs.lemmas.Int.{to_z-of_z, of_z-to_z}
use Rattle.std.proofs.lemmas.Nat.{from_le_bytes-to_le_bytes_4, from_le_bytes-to_le_bytes_8}
use Rattle.kc_words.specs.declared.width.Width.{Width}
use Rattle.kc_words.specs.declared.width.Width.TheVariants.{Byte, Long, Quad}
use Rattle.kc_reading.specs.Reading.{IsNumber}
use Rattle.kc_insn.specs.Fields.{IsSigned, ib, id, IsImmediate, target}
use Rattle.kc_insn.specs.Encodable.{is_signed_long, is_immediate}
use Rattle.kc_encode.specs.Canonical.{is_signed_byte, one_byte, four_bytes, eight_bytes, signed_at, distance}

-- ---- bytes

number1 : (v : ℕ) → v < 256 → IsNumber 1 (v ∷ []) v
number1 v h = (refl, (h, tt), omega arith)

low-byte : (n : ℕ) → n % 256 < 256
low-byte n = omega arith

number4 : (v : ℕ) → v < 2 ^ 32 → IsNumber 4 (to_le_bytes w32 v) v
number4 v h =
    (refl, (low-byte _, (low-byte _, (low-byte _, (low-byte _, tt)))), omega (arith, from_le_bytes-to_le_bytes_4 v h))

number8 : (v : ℕ) → v < 2 ^ 64 → IsNumber 8 (to_le_bytes w64 v) v
number8 v h = (
  refl,
  (
    low-byte _,
    (
      low-byte _,
      (
        low-byte _,
        (low-byte _, (low-byte _, (low-byte _, (low-byte _, (low-byte _, tt))))),
      ),
    ),
  ),
  omega (arith, from_le_bytes-to_le_bytes_8 v h),
)

-- ---- signed numbers

pub byte-fits : (z : ℤ) → is_signed_byte z ≡ true → FitsSigned w8 z
unfolding is_signed_byte
byte-fits (pos n) h = record { sfits = ltb-true n 128 (and_parts (int_le (negsuc 127) (pos n)) (ltb n 128) h).1 }
byte-fits (negsuc n) h = let k = leb-true n 127 (and_parts (leb n 127) true h).0 in record { sfits = omega (arith, k) }

pub long-fits : (z : ℤ) → is_signed_long z ≡ true → FitsSigned w32 z
long-fits (pos n) h =
    record { sfits = ltb-true n 2147483648 (and_parts (int_le (negsuc 2147483647) (pos n)) (ltb n 2147483648) h).1 }
long-fits (negsuc n) h = let k = leb-true n 2147483647 (and_parts (leb n 2147483647) true h).0 in
    record { sfits = omega (arith, k) }

bits8 : (z : ℤ) → FitsSigned w8 z → cast_unsigned w8 z < 256
bits8 (pos n) f = omega (arith, f.sfits)
bits8 (negsuc n) f = omega (arith, f.sfits)

bits32 : (z : ℤ) → FitsSigned w32 z → cast_unsigned w32 z < 2 ^ 32
bits32 (pos n) f = omega (arith, f.sfits)
bits32 (negsuc n) f = omega (arith, f.sfits)

bits64 : (z : ℤ) → FitsSigned w64 z → cast_unsigned w64 z < 2 ^ 64
bits64 (pos n) f = omega (arith, f.sfits)
bits64 (negsuc n) f = omega (arith, f.sfits)

pub signed1 : (z : ℤ) → is_signed_byte z ≡ true → IsSigned 1 (one_byte z) z
signed1 z h = let f = byte-fits z h in
    (cast_unsigned w8 z, number1 (cast_unsigned w8 z) (bits8 z f), sym (to_z-of_z w8 z f))

pub signed4 : (z : ℤ) → FitsSigned w32 z → IsSigned 4 (four_bytes z) z
unfolding four_bytes
signed4 z f = (cast_unsigned w32 z, number4 (cast_unsigned w32 z) (bits32 z f), sym (to_z-of_z w32 z f))

pub number-quad : (z : ℤ) → FitsSigned w64 z → (v : ℕ) × IsNumber 8 (eight_bytes z) v × (z ≡ cast_signed w64 v)
unfolding eight_bytes
number-quad z f = (cast_unsigned w64 z, number8 (cast_unsigned w64 z) (bits64 z f), sym (to_z-of_z w64 z f))

-- ---- immediates

pub number-long : (z : ℤ) → is_immediate Long z ≡ true → (v : ℕ) × IsNumber 4 (four_bytes z) v × (z ≡ pos v)
unfolding four_bytes
number-long (pos n) h = (n, number4 n (ltb-true n 4294967296 (and_parts (leb 0 n) (ltb n 4294967296) h).1), refl)
number-long (negsuc n) h = absurd cc

pub imm4 : (w : Width) (z : ℤ) → (w ≡ Byte → ⊥) → is_immediate w z ≡ true → IsImmediate w id (four_bytes z) z
imm4 Byte z other h = absurd (other refl)
imm4 Long z other h = number-long z h
imm4 Quad z other h = signed4 z (long-fits z h)

pub imm-byte : (z : ℤ) → is_immediate Byte z ≡ true → IsImmediate Byte ib (one_byte z) z
imm-byte (pos n) h = (n, number1 n (ltb-true n 256 (and_parts (leb 0 n) (ltb n 256) h).1), refl)
imm-byte (negsuc n) h = absurd cc

long1 : (n : ℕ) → n < 2 ^ 32 → is_signed_byte (signed_at Long (pos n)) ≡ true
    → IsImmediate Long ib (one_byte (signed_at Long (pos n))) (pos n)
unfolding signed_at
long1 n h s =
    let f = byte-fits (cast_signed w32 n) s in (
      cast_unsigned w8 (cast_signed w32 n),
      number1 _ (bits8 (cast_signed w32 n) f),
      sym (ap (λ (k : ℤ). pos (cast_unsigned w32 k)) (to_z-of_z w8 (cast_signed w32 n) f) ∙ ap pos (of_z-to_z w32 n h)),
    )

quad1 : (z : ℤ) → is_signed_byte (signed_at Quad z) ≡ true → IsImmediate Quad ib (one_byte (signed_at Quad z)) z
unfolding signed_at
quad1 z s = signed1 z s

pub imm1 : (w : Width) (z : ℤ) → (w ≡ Byte → ⊥) → is_immediate w z ≡ true → is_signed_byte (signed_at w z) ≡ true
    → IsImmediate w ib (one_byte (signed_at w z)) z
imm1 Byte z other h s = absurd (other refl)
imm1 Long (pos n) other h s = long1 n (ltb-true n 4294967296 (and_parts (leb 0 n) (ltb n 4294967296) h).1) s
imm1 Long (negsuc n) other h s = absurd cc
imm1 Quad z other h s = quad1 z s

-- ---- distances

pub target-of-distance : (next t : ℕ) → t < 2 ^ 64 → target next (distance next t) ≡ t
target-of-distance next t h =
    let d : ℕ = (t + (2 ^ 64 - next % 2 ^ 64)) % 2 ^ 64 in
    ap (λ (n : ℕ). (next + n) % 2 ^ 64) (of_z-to_z w64 d (omega arith)) ∙ back
  where
    back : (next + (t + (2 ^ 64 - next % 2 ^ 64)) % 2 ^ 64) % 2 ^ 64 ≡ t
    back = omega arith
