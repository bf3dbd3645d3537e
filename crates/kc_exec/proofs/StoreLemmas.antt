-- A write of n bytes takes the low n bytes of its number, here for the two sizes below 8. By the definition of `write`
-- both sides put the same bytes one after another; `omega` compares each two.
use Rattle.std.proofs.Common.{◌≡◌, ℕ, ◌+◌, ◌/◌, ◌%◌, ◌^◌, arith, ap, ◌∙◌}
use Rattle.kc_mem.specs.Memory.{Bytes, put, next, write}

-- four bytes
abbrev four : Bytes → ℕ → ℕ → ℕ → ℕ → ℕ → Bytes
four m a x y z u = put (put (put (put m a x) (next a) y) (next (next a)) z) (next (next (next a))) u

pub write-byte : (m : Bytes) (a v : ℕ) → write m a 1 (v % 2 ^ 8) ≡ write m a 1 v
unfolding write
write-byte m a v = let e : v % 2 ^ 8 % 256 ≡ v % 256 = omega arith in ap (λ (x : ℕ). put m a x) e

pub write-long : (m : Bytes) (a v : ℕ) → write m a 4 (v % 2 ^ 32) ≡ write m a 4 v
unfolding write
write-long m a v =
    let x = v % 2 ^ 32 in
    let e0 : x % 256 ≡ v % 256 = omega arith in
    let e1 : x / 256 % 256 ≡ v / 256 % 256 = omega arith in
    let e2 : x / 256 / 256 % 256 ≡ v / 256 / 256 % 256 = omega arith in
    let e3 : x / 256 / 256 / 256 % 256 ≡ v / 256 / 256 / 256 % 256 = omega arith in
    λ i. four m a (e0 i) (e1 i) (e2 i) (e3 i)
