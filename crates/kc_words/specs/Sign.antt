-- Sign extension of a doubleword: Intel SDM vol. 1, "Sign Extension"; vol. 2, MOVSXD.
use Rattle.std.specs.Prelude.{ℕ, ◌+◌, ◌-◌, ◌^◌, ◌==◌, cond}
use Rattle.std.specs.Int.{bit_at}

-- v where its bit 31 is clear, else v with 32 ones above it
abbrev pub sign_extended : ℕ → ℕ
sign_extended v = cond (bit_at v 31 == 1) (v + (2 ^ 64 - 2 ^ 32)) v
