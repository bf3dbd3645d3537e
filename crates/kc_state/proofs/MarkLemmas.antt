-- What the marked stacks say that were looked up once is what the list of regions says. A walk over the regions finds
-- them: a stack's number is how many stacks stand before it, and the byte below its top lies in it.
use Rattle.std.proofs.Common.{◌≡◌, ℕ, zero, suc, ◌+◌, ◌*◌, ◌<◌, ◌≤◌, Bool, true, false, cond, List, [], ◌∷◌, length, map, filter, set, slice_get, Option, Some, None, option_map, get_or, arith, refl, sym, ap, ◌∙◌, subst}
use Rattle.std.proofs.lemmas.Option.{slice_get-map}
use Rattle.kc_regions.specs.Description.{Description}
use Rattle.kc_regions.specs.Layout.{IsStackAt}
use Rattle.kc_regions.specs.Region.{is_stack, stacks_of, stack_of, marked_of}
use Rattle.kc_regions.specs.Valid.{IsValid}
use Rattle.kc_regions.specs.declared.region.Region.{Region}
use Rattle.kc_regions.proofs.LayoutLemmas.{laid}
use Rattle.kc_state.specs.Marks.{mark_of, mark_in, marks_of, marks_from, with_marks}
use Rattle.kc_state.specs.Memory.{is_same_stack, holds_top}
use Rattle.kc_state.specs.Places.{below_address}
use Rattle.kc_state.specs.declared.location.Location.{Location}
use Rattle.kc_state.specs.declared.location.Location.TheVariants.{Number}
use Rattle.kc_state.specs.declared.slot_words.Mark.{Mark}

pub one_mark : (d : Description) (m : ℕ) (other : Option Mark) → m < 3 → get_or (marks_of d) m other ≡ mark_in d m
one_mark d zero other h = refl
one_mark d (suc zero) other h = refl
one_mark d (suc (suc zero)) other h = refl
one_mark d (suc (suc (suc m))) other h = absurd (omega (arith, h))

abbrev word_below : ℕ → Option Mark → Option Location
word_below n (Some mark) = Some (Number (below_address mark.to (8 * n)))
word_below n None = None

word_of_region : (d : Description) (n : ℕ) (o : Option Region)
    → option_map (λ r. Number (below_address r.span.to (8 * n))) o ≡ word_below n (option_map (mark_of d) o)
word_of_region d n (Some r) = refl
word_of_region d n None = refl

pub word_by : (d : Description) (n : ℕ) (o : Option Region) (mark : Option Mark) → mark ≡ option_map (mark_of d) o
    → option_map (λ r. Number (below_address r.span.to (8 * n))) o ≡ word_below n mark
word_by d n o mark e =
    subst (λ (k : Option Mark). option_map (λ r. Number (below_address r.span.to (8 * n))) o ≡ word_below n k) (sym e)
    (word_of_region d n o)

abbrev has_stack : Option ℕ → Option Mark → Bool
has_stack stack (Some mark) = is_same_stack mark.stack stack
has_stack stack None = false

holds_of_region : (d : Description) (stack : Option ℕ) (o : Option Region)
    → holds_top d stack o ≡ has_stack stack (option_map (mark_of d) o)
holds_of_region d stack (Some r) = refl
holds_of_region d stack None = refl

pub holds_by : (d : Description) (stack : Option ℕ) (o : Option Region) (mark : Option Mark)
    → mark ≡ option_map (mark_of d) o
    → holds_top d stack o ≡ has_stack stack mark
holds_by d stack o mark e =
    subst (λ (k : Option Mark). holds_top d stack o ≡ has_stack stack k) (sym e) (holds_of_region d stack o)

-- ---- the walk over the regions

-- the byte below the top of each of these stacks lies in it; the first one has the number s
abbrev Numbered : Description → ℕ → List Region → Type 0
Numbered d s stacks = (t : ℕ) (r : Region) → slice_get stacks t ≡ Some r
    → stack_of d.regions (below_address r.span.to 1) ≡ Some (s + t)

all_numbered : (d : Description) → IsValid d → Numbered d 0 (stacks_of d.regions)
all_numbered d valid t r e =
    let at : IsStackAt r = (laid d valid).stacks t r e in
    let same : t ≡ 0 + t = omega arith in
    (laid d valid).stack_bytes t r (below_address r.span.to 1) e
    (omega (arith, at.filled, at.ends), omega (arith, at.filled, at.ends))
    ∙ ap (λ (n : ℕ). Some n) same

abbrev mark_at : ℕ → Option ℕ → Mark
mark_at to stack = record { to = to; stack = stack }

by_mark : (d : Description) (r : Region) (s : ℕ) (c : Bool) (ms : List Mark) (more : List Region)
    → stack_of d.regions (below_address r.span.to 1) ≡ Some s → ms ≡ map (mark_of d) more
    → cond c (mark_at r.span.to (Some s) ∷ ms) ms ≡ map (mark_of d) (cond c (r ∷ more) more)
by_mark d r s true ms more is e =
    ap (λ (o : Option ℕ). mark_at r.span.to o ∷ ms) (sym is) ∙ ap (λ (rest : List Mark). mark_of d r ∷ rest) e
by_mark d r s false ms more is e = e

by_kind : (d : Description) (r : Region) (rs : List Region) (s : ℕ) (b : Bool)
    → Numbered d s (cond b (r ∷ stacks_of rs) (stacks_of rs))
    → ((n : ℕ) → Numbered d n (stacks_of rs) → marks_from n rs ≡ map (mark_of d) (marked_of rs))
    → cond b (cond r.marked (mark_at r.span.to (Some s) ∷ marks_from (suc s) rs) (marks_from (suc s) rs)) (marks_from s rs)
    ≡ map (mark_of d) (filter (λ z. z.marked) (cond b (r ∷ stacks_of rs) (stacks_of rs)))
by_kind d r rs s true h rest =
    let first : s + 0 ≡ s = omega arith in
    let here = h 0 r refl ∙ ap (λ (n : ℕ). Some n) first in
    by_mark d r s r.marked (marks_from (suc s) rs) (marked_of rs) here (rest (suc s) (λ t q e. later t q e))
  where
    later : Numbered d (suc s) (stacks_of rs)
    later t q e = let next : s + suc t ≡ suc s + t = omega arith in h (suc t) q e ∙ ap (λ (n : ℕ). Some n) next
by_kind d r rs s false h rest = rest s h

marks_are : (d : Description) (rs : List Region) (s : ℕ) → Numbered d s (stacks_of rs)
    → marks_from s rs ≡ map (mark_of d) (marked_of rs)
marks_are d [] s h = refl
marks_are d (r ∷ rs) s h = by_kind d r rs s (is_stack r.kind) h (λ n k. marks_are d rs n k)

set_past : (places : List (Option Mark)) (n : ℕ) (o : Option Mark) → length places ≤ n → set places n o ≡ places
set_past [] n o h = refl
set_past (p ∷ ps) zero o h = absurd (omega (arith, h))
set_past (p ∷ ps) (suc n) o h = ap (λ (rest : List (Option Mark)). p ∷ rest) (set_past ps n o (omega (arith, h)))

pub full : (n : ℕ) (places : List (Option Mark)) (ms : List Mark) → length places ≤ n → with_marks n places ms ≡ places
full n places [] h = refl
full n places (m ∷ ms) h =
    ap (λ (ps : List (Option Mark)). with_marks (suc n) ps ms) (set_past places n (Some m) h)
    ∙ full (suc n) places ms (omega (arith, h))

pub add_full : (n : ℕ) (places : List (Option Mark)) (m : Mark) (more : List Mark) → length places ≤ n
    → with_marks n places more ≡ with_marks n places (m ∷ more)
add_full n places m more h = full n places more h ∙ sym (full n places (m ∷ more) h)

abbrev pub no_marks : List (Option Mark)
no_marks = None ∷ None ∷ None ∷ []

first_three : (ms : List Mark)
    → with_marks 0 no_marks ms ≡ slice_get ms 0 ∷ slice_get ms 1 ∷ slice_get ms 2 ∷ []
first_three [] = refl
first_three (a ∷ []) = refl
first_three (a ∷ b ∷ []) = refl
first_three (a ∷ b ∷ c ∷ ms) = full 3 (Some a ∷ Some b ∷ Some c ∷ []) ms (omega arith)

pub all_marks : (d : Description) → IsValid d → with_marks 0 no_marks (marks_from 0 d.regions) ≡ marks_of d
all_marks d valid =
    let ms = map (mark_of d) (marked_of d.regions) in
    let place = slice_get-map (mark_of d) (marked_of d.regions) in
    ap (with_marks 0 no_marks) (marks_are d d.regions 0 (all_numbered d valid)) ∙ first_three ms
    ∙ ap (λ (o : Option Mark). o ∷ slice_get ms 1 ∷ slice_get ms 2 ∷ []) (place 0)
    ∙ ap (λ (o : Option Mark). mark_in d 0 ∷ o ∷ slice_get ms 2 ∷ []) (place 1)
    ∙ ap (λ (o : Option Mark). mark_in d 0 ∷ mark_in d 1 ∷ o ∷ []) (place 2)
