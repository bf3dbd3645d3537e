-- How the text of a trace is cut into lines, and a line into words: this project's own.
use Rattle.std.specs.Prelude.{◌==◌, ℕ, Bool, true, List, [], ◌∷◌, map, if◌then◌else◌}
use Rattle.std.specs.Borrow.{Bor}
use Rattle.std.specs.List.{slice_split, onto_first}

abbrev pub is_newline : ℕ → Bool
is_newline byte = byte == 0x0A

abbrev pub is_blank : ℕ → Bool
is_blank byte = byte == 0x20

-- The lines: each ends with 0A, and the last one needn't. What follows the last 0A is no line where it is empty.
abbrev pub lines_of : List ℕ → List (List ℕ)
lines_of [] = []
lines_of (byte ∷ bytes) = if is_newline byte then [] ∷ lines_of bytes else onto_first byte (lines_of bytes)

-- An empty line, and one that begins with `#`, says nothing.
abbrev pub is_passed_over : List ℕ → Bool
is_passed_over [] = true
is_passed_over (byte ∷ bytes) = byte == 0x23

-- The words: the line is cut at each single blank, so two blanks in a row have an empty word between them.
abbrev pub words_of : List ℕ → List (List ℕ)
words_of line = slice_split is_blank line

-- the bytes of each word
abbrev pub texts : List (Bor (List ℕ)) → List (List ℕ)
texts words = map (λ w. w.now) words
