-- Instructions that follow each other in memory, this project's own.
use Rattle.std.specs.Prelude.{◌≡◌, ℕ, zero, suc, ◌+◌, ◌≤◌, List, length, take, drop}
use Rattle.kc_insn.specs.declared.insn.Insn.{Insn}
use Rattle.kc_insn.specs.Spells.{Spells}

-- the bytes from the start up to `end` are n instructions, each at the address of its first byte
abbrev pub AreInstructions : List ℕ → ℕ → ℕ → Type 0
AreInstructions bytes zero end = end ≡ 0
AreInstructions bytes (suc n) end = (at : ℕ) × (len : ℕ) × (insn : Insn) × AreInstructions bytes n at
    × (end ≡ at + len) × (end ≤ length bytes) × Spells (take len (drop at bytes)) at insn
