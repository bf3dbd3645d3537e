-- A listing by its first line: what holds of it whole, holds of the line and of the rest from the address that the line
-- reaches. The loop that writes a listing keeps that what is written and what the rest gives are the image.
use Rattle.std.proofs.Common.{◌≡◌, ◌∙◌, sym, ap, refl, ℕ, suc, ◌+◌, ◌<◌, Bool, true, false, List, ◌∷◌, ◌++◌, length, drop, get_or, arith, append_assoc}
use Rattle.std.specs.Prelude.{IsTrue, ◌&&◌}
use Rattle.std.proofs.Math.Seq.{drop-cons}
use Rattle.kc_gen.specs.declared.line.Line.{Line}
use Rattle.kc_gen.specs.Image.{line_bytes, reached, code_from, can_stand, within, is_listing}

both : (a b : Bool) → IsTrue (a && b) → IsTrue a × IsTrue b
both true true e = (refl, refl)
both true false e = absurd (cc)
both false b e = absurd (cc)

-- the first line of those that are left
pub first_left : (lines : List Line) (i : ℕ) (d : Line) → i < length lines
    → drop i lines ≡ get_or lines i d ∷ drop (i + 1) lines
first_left lines i d h =
    let up : suc i ≡ i + 1 = omega arith in
    drop-cons lines i d h ∙ ap (λ j. get_or lines i d ∷ drop j lines) up

pub record First (load at : ℕ) (line : Line) (rest : List Line) : Type 0 where
  pub stands : IsTrue (can_stand at line)
  pub fits : IsTrue (within load (reached at line))
  pub others : IsTrue (is_listing load (reached at line) rest)

pub first_of : (load at : ℕ) (line : Line) (rest : List Line) → IsTrue (is_listing load at (line ∷ rest))
    → First load at line rest
first_of load at line rest h =
    let outer = both (can_stand at line) (within load (reached at line) && is_listing load (reached at line) rest) h in
    let inner = both (within load (reached at line)) (is_listing load (reached at line) rest) outer.1 in
    record { stands = outer.0; fits = inner.0; others = inner.1 }

-- the first line is written, and those after it are left
pub one_written : (at next : ℕ) (line : Line) (rest left : List Line) (out more image : List ℕ) → left ≡ line ∷ rest
    → out ++ code_from at left ≡ image
    → more ≡ out ++ line_bytes at line → next ≡ reached at line → more ++ code_from next rest ≡ image
one_written at next line rest left out more image is h written after =
    (λ i. written i ++ code_from (after i) rest)
    ∙ append_assoc out (line_bytes at line) (code_from (reached at line) rest)
    ∙ sym (ap (λ ls. out ++ code_from at ls) is) ∙ h
