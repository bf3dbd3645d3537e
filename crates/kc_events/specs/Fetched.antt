-- The instruction that an image's bytes spell at an address, whatever the regions say.
use Rattle.std.specs.Prelude.{◌≡◌, ℕ, List, length, Option, Some, None}
use Rattle.kc_insn.specs.declared.insn.Insn.{Insn}
use Rattle.kc_insn.specs.Spells.{Spells}
use Rattle.kc_image.specs.Image.{Contents, run}

-- the n loaded bytes from address a on spell the instruction there
abbrev pub IsSpelledAt : Contents → ℕ → Insn → ℕ → Type 0
IsSpelledAt image a insn n =
    (bytes : List ℕ) × (length bytes ≡ n) × (run image.segments a n ≡ bytes) × Spells bytes a insn

-- the instruction at address a and the number of its bytes; none where no bytes from there on spell one
abbrev pub IsAt : Contents → ℕ → Option (Insn × ℕ) → Type 0
IsAt image a (Some (insn, n)) = IsSpelledAt image a insn n
IsAt image a None = (insn : Insn) (n : ℕ) → ¬ IsSpelledAt image a insn n
