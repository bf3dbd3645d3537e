-- Which operands have an index that an address can have: its scale is 1, 2, 4 or 8. Intel SDM vol. 2, "ModR/M and SIB
-- Bytes".
use Rattle.std.specs.Prelude.{◌≡◌, ℕ, Bool, true, ◌||◌, ◌==◌, Option, Some, None}
use Rattle.kc_insn.specs.declared.insn.Reg.{Reg}
use Rattle.kc_insn.specs.declared.insn.Source.{Source}
use Rattle.kc_insn.specs.declared.insn.Source.TheVariants as source

abbrev pub is_scale : ℕ → Bool
is_scale n = (n == 1) || ((n == 2) || ((n == 4) || (n == 8)))

abbrev pub IsScaled : Option (Reg × ℕ) → Type 0
IsScaled None = Unit {0}
IsScaled (Some i) = is_scale i.1 ≡ true

abbrev pub HasScale : Source → Type 0
HasScale (source.Reg r) = Unit {0}
HasScale (source.Mem a) = IsScaled a.index
HasScale (source.Imm z) = Unit {0}
