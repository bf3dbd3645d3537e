-- The raw image of a listing, this project's own: the bytes `ENTRYRAW`, the load address in eight little-endian bytes,
-- and the code.
use Rattle.std.specs.Prelude.{ℕ, ◌+◌, ◌-◌, ◌^◌, Bool, true, ◌&&◌, nat_le, nat_lt, List, [], ◌∷◌, ◌++◌, length, replicate, codes}
use Rattle.std.specs.Int.{w64, to_le_bytes}
use Rattle.kc_insn.specs.Encodable.{is_encodable}
use Rattle.kc_encode.specs.Canonical.{canonical_bytes, reaches}
use Rattle.kc_gen.specs.declared.line.Line.{Line}
use Rattle.kc_gen.specs.declared.line.Line.TheVariants.{At, Code}

-- the bytes of a line where `at` is reached: NOPs up to the next address, or an instruction in its chosen spelling
abbrev pub line_bytes : ℕ → Line → List ℕ
line_bytes at (At to) = replicate (to - at) 0x90
line_bytes at (Code insn) = canonical_bytes insn at

-- the address that is reached after the line
abbrev pub reached : ℕ → Line → ℕ
reached at (At to) = to
reached at (Code insn) = at + length (canonical_bytes insn at)

abbrev pub code_from : ℕ → List Line → List ℕ
code_from at [] = []
code_from at (line ∷ rest) = line_bytes at line ++ code_from (reached at line) rest

abbrev pub header : ℕ → List ℕ
header load = codes "ENTRYRAW" ++ to_le_bytes w64 load

abbrev pub image_of : ℕ → List Line → List ℕ
image_of load lines = header load ++ code_from load lines

-- ---- which listings have an image

-- no address is set back; an instruction has a spelling, and its target is in reach
abbrev pub can_stand : ℕ → Line → Bool
can_stand at (At to) = nat_le at to
can_stand at (Code insn) = is_encodable insn && reaches insn at

-- what is reached lies below 64 MiB after the load address, and is an address
abbrev pub within : ℕ → ℕ → Bool
within load at = nat_lt at (load + 2 ^ 26) && nat_lt at (2 ^ 64)

abbrev pub is_listing : ℕ → ℕ → List Line → Bool
is_listing load at [] = true
is_listing load at (line ∷ rest) =
    can_stand at line && (within load (reached at line) && is_listing load (reached at line) rest)
