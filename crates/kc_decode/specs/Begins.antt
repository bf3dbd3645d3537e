-- How bytes may begin, by the grammar.
use Rattle.std.specs.Prelude.{ℕ, ◌<◌, ◌≤◌, ◌⊎◌, List, ◌++◌, length, take}
use Rattle.kc_insn.specs.declared.insn.Insn.{Insn}
use Rattle.kc_insn.specs.Spells.{Spells, SpellsUnbounded}

-- the bytes are a proper prefix of an instruction's spelling
abbrev pub IsProperPrefix : List ℕ → ℕ → Type 0
IsProperPrefix bytes at = (more : List ℕ) × (insn : Insn) × (0 < length more) × Spells (bytes ++ more) at insn

-- a prefix of the bytes is an instruction's spelling
abbrev pub HasSpelledPrefix : List ℕ → ℕ → Type 0
HasSpelledPrefix bytes at = (n : ℕ) × (insn : Insn) × (n ≤ length bytes) × Spells (take n bytes) at insn

-- one of these holds without the bound of fifteen bytes
abbrev pub BeginsUnbounded : List ℕ → ℕ → Type 0
BeginsUnbounded bytes at =
    ((n : ℕ) × (insn : Insn) × (n ≤ length bytes) × SpellsUnbounded (take n bytes) at insn)
    ⊎ ((more : List ℕ) × (insn : Insn) × (0 < length more) × SpellsUnbounded (bytes ++ more) at insn)
