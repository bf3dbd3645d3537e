-- Byte memory, this project's own. Numbers are stored little-endian: Intel SDM vol. 1, "Bit and Byte Order".
use Rattle.std.specs.Prelude.{ℕ, zero, suc, ◌+◌, ◌*◌, ◌/◌, ◌%◌, ◌^◌, ◌<◌, ◌==◌, cond, List, [], ◌∷◌, refl}
use Rattle.std.specs.Option.{unwrap_or, IfSome}
use Rattle.std.specs.Ordering.{nat_cmp}
use Rattle.std.specs.FinMap as map
use Rattle.std.specs.Coded.{Coded, code_by, coded×, coded_ℕ}

-- the bytes that aren't 0, by their addresses
abbrev pub Bytes : Type 0
Bytes = map.FinMap nat_cmp ℕ

-- what contracts see of a memory: its bytes, and how many empty pages were made ahead
pub record MemoryValue : Type 0 where
  pub bytes : Bytes
  pub spare : ℕ

abbrev pub memory_code : Coded MemoryValue
memory_code =
    code_by (Bytes × ℕ) (coded× (map.code coded_ℕ coded_ℕ) coded_ℕ) (λ m. (m.bytes, m.spare))
    (λ p. record { bytes = p.0; spare = p.1 }) (λ _. refl)

-- each is a byte other than 0
abbrev pub AreBytes : Bytes → Type 0
AreBytes m = (a : ℕ) → IfSome (map.get m a) (λ v. (0 < v) × (v < 256))

-- the byte at address a: 0 where the map has none
abbrev pub byte : Bytes → ℕ → ℕ
byte m a = unwrap_or (map.get m a) 0

-- with the byte v at address a
abbrev pub put : Bytes → ℕ → ℕ → Bytes
put m a v = cond (v == 0) (map.remove m a) (map.insert m a v)

-- the address after a
abbrev pub next : ℕ → ℕ
next a = (a + 1) % 2 ^ 64

-- the number whose n bytes stand from address a on, the least significant first
unfoldable pub read : Bytes → ℕ → ℕ → ℕ
read m a zero = 0
read m a (suc n) = byte m a + 256 * read m (next a) n

-- with the low n bytes of v from address a on, the least significant first
unfoldable pub write : Bytes → ℕ → ℕ → ℕ → Bytes
write m a zero v = m
write m a (suc n) v = write (put m a (v % 256)) (next a) n (v / 256)

-- with each of these bytes at its address, in their order
abbrev pub put_all : Bytes → List (ℕ × ℕ) → Bytes
put_all m [] = m
put_all m (w ∷ ws) = put_all (put m w.0 w.1) ws
