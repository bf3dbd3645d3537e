-- A trace that was read has at most 1,000,000 turns: a line has no more turns than are left at its place, by the cases
-- of its form, and what is left and what the lines before have are 1,000,000 together, line by line.
use Rattle.std.proofs.Common.{◌≡◌, ◌≢◌, ℕ, ◌⊎◌, inl, inr, ◌+◌, ◌<◌, ◌≤◌, Bool, true, false, not, ◌&&◌, nat_lt, nat_le, if◌then◌else◌, List, [], ◌∷◌, ◌++◌, Option, Some, None, ok_or, Result, Ok, Err, codes, refl, sym, ◌∙◌, subst, arith}
use Rattle.std.proofs.lemmas.Bool.{false≢true}
use Rattle.std.proofs.lemmas.Bool.Decides.{nat_tests}
use Rattle.std.specs.Str.{bytes_eq}
use Rattle.kc_rules.specs.Rules.{over, ◌>>=◌}
use Rattle.kc_trace.specs.declared.fault.LineFault.{LineFault}
use Rattle.kc_trace.specs.declared.fault.LineFault.TheVariants.{Form, Number, NoMemory as NoMemoryForLine}
use Rattle.kc_trace.specs.declared.fault.TraceFault.{TraceFault}
use Rattle.kc_trace.specs.declared.fault.TraceFault.TheVariants.{BadLine, BadNumber, NotAdmitted, NoMemory}
use Rattle.kc_trace.specs.declared.line.Line.{Line}
use Rattle.kc_trace.specs.declared.line.Line.TheVariants.{Start, Mem, Go, Irq, Nmi, Debug, Check, Fault, Trap, Syscall, User, Body, Leave}
use Rattle.kc_trace.specs.declared.line.Place.{Place}
use Rattle.kc_trace.specs.declared.gathered.Gathered.{Gathered}
use Rattle.kc_trace.specs.Numbers.{number, decimal, code, vector, bytes}
use Rattle.kc_trace.specs.Words.{lines_of, words_of, is_passed_over}
use Rattle.kc_trace.specs.Form.{no_word, one_word, two_words, count_up_to, go_line, mem_line, irq_line, fault_line, trap_line, bare_line, start_line, user_line, body_line, leave_line, turn_line, placed, line_of_words, line_of, turns_of as turns_in}
use Rattle.kc_trace.specs.Faults.{no_trace_memory}
use Rattle.kc_trace.specs.Script.{nothing, passed, fault_at, with_read, add_line, gathered, count_of}

-- ---- a line

-- it is at most so many turns, where it was read
abbrev Within : ℕ → Result Line LineFault → Type 0
Within most (Ok line) = turns_in line ≤ most
Within most (Err fault) = Unit {0}

if_within : (most : ℕ) (b : Bool) (x y : Result Line LineFault) → Within most x → Within most y
    → Within most (if b then x else y)
if_within most true x y one other = one
if_within most false x y one other = other

then_within : {A : Type 0} (most : ℕ) (r : Result A LineFault) (make : A → Result Line LineFault)
    → ((a : A) → Within most (make a)) → Within most (r >>= make)
then_within most (Ok a) make each = each a
then_within most (Err fault) make each = tt

wider : (most left : ℕ) (r : Result Line LineFault) → most ≤ left → Within most r → Within left r
wider most left (Ok line) le h = omega (arith, le, h)
wider most left (Err fault) le h = tt

start_within : (most : ℕ) (ws : List (List ℕ)) → Within most (start_line ws)
unfolding start_line
start_within most ws = then_within most _ (λ set. Ok (Start set)) (λ set. omega arith)

mem_within : (most : ℕ) (ws : List (List ℕ)) → Within most (mem_line ws)
unfolding mem_line
mem_within most ws =
    then_within most (two_words ws)
    (λ w. ok_or (number w.0) Number >>= (λ at. ok_or (bytes w.1) Number >>= (λ bs. Ok (Mem at bs))))
    (λ w. then_within most (ok_or (number w.0) Number) (λ at. ok_or (bytes w.1) Number >>= (λ bs. Ok (Mem at bs)))
    (λ at. then_within most (ok_or (bytes w.1) Number) (λ bs. Ok (Mem at bs)) (λ bs. omega arith)))

count_within : (left n : ℕ) (b : Bool) → (nat_le 1 n && nat_le n left) ≡ b
    → Within left (ok_or (if b then Some n else None) Number >>= (λ m. Ok (Go m)))
count_within left n true h = grind (arith, nat_tests, h)
count_within left n false h = tt

steps_within : (left : ℕ) (c : Option ℕ) → Within left (ok_or (count_up_to left c) Number >>= (λ n. Ok (Go n)))
steps_within left None = tt
steps_within left (Some n) = count_within left n (nat_le 1 n && nat_le n left) refl

go_within : (left : ℕ) (ws : List (List ℕ)) → Within left (go_line left ws)
unfolding go_line
go_within left ws =
    then_within left (one_word ws) (λ w. ok_or (count_up_to left (decimal w)) Number >>= (λ n. Ok (Go n)))
    (λ w. steps_within left (decimal w))

irq_within : (ws : List (List ℕ)) → Within 1 (irq_line ws)
unfolding irq_line
irq_within ws =
    then_within 1 (one_word ws) (λ w. ok_or (vector w) Number >>= (λ v. Ok (Irq v)))
    (λ w. then_within 1 (ok_or (vector w) Number) (λ v. Ok (Irq v)) (λ v. omega arith))

fault_within : (ws : List (List ℕ)) → Within 1 (fault_line ws)
unfolding fault_line
fault_within ws =
    then_within 1 (two_words ws)
    (λ w. ok_or (number w.0) Number >>= (λ at. ok_or (code w.1) Number >>= (λ c. Ok (Fault at c))))
    (λ w. then_within 1 (ok_or (number w.0) Number) (λ at. ok_or (code w.1) Number >>= (λ c. Ok (Fault at c)))
    (λ at. then_within 1 (ok_or (code w.1) Number) (λ c. Ok (Fault at c)) (λ c. omega arith)))

trap_within : (ws : List (List ℕ)) → Within 1 (trap_line ws)
unfolding trap_line
trap_within ws =
    then_within 1 (two_words ws)
    (λ w. ok_or (vector w.0) Number >>= (λ v. ok_or (code w.1) Number >>= (λ c. Ok (Trap v c))))
    (λ w. then_within 1 (ok_or (vector w.0) Number) (λ v. ok_or (code w.1) Number >>= (λ c. Ok (Trap v c)))
    (λ v. then_within 1 (ok_or (code w.1) Number) (λ c. Ok (Trap v c)) (λ c. omega arith)))

bare_within : (line : Line) (ws : List (List ℕ)) → turns_in line ≤ 1 → Within 1 (bare_line line ws)
unfolding bare_line
bare_within line ws one = then_within 1 (no_word ws) (λ ok. Ok line) (λ ok. one)

user_within : (ws : List (List ℕ)) → Within 1 (user_line ws)
unfolding user_line
user_within ws = then_within 1 _ (λ set. Ok (User set)) (λ set. omega arith)

body_within : (ws : List (List ℕ)) → Within 1 (body_line ws)
unfolding body_line
body_within ws = then_within 1 _ (λ set. Ok (Body set)) (λ set. omega arith)

leave_within : (ws : List (List ℕ)) → Within 1 (leave_line ws)
unfolding leave_line
leave_within ws = then_within 1 _ (λ set. Ok (Leave set)) (λ set. omega arith)

turn_within : (w : List ℕ) (ws : List (List ℕ)) → Within 1 (turn_line w ws)
turn_within w ws =
    if_within 1 (bytes_eq w (codes "irq")) _ _ (irq_within ws)
    (if_within 1 (bytes_eq w (codes "nmi")) _ _ (bare_within Nmi ws (omega arith))
    (if_within 1 (bytes_eq w (codes "debug")) _ _ (bare_within Debug ws (omega arith))
    (if_within 1 (bytes_eq w (codes "check")) _ _ (bare_within Check ws (omega arith))
    (if_within 1 (bytes_eq w (codes "fault")) _ _ (fault_within ws)
    (if_within 1 (bytes_eq w (codes "trap")) _ _ (trap_within ws)
    (if_within 1 (bytes_eq w (codes "syscall")) _ _ (bare_within Syscall ws (omega arith))
    (if_within 1 (bytes_eq w (codes "user")) _ _ (user_within ws)
    (if_within 1 (bytes_eq w (codes "body")) _ _ (body_within ws)
    (if_within 1 (bytes_eq w (codes "leave")) _ _ (leave_within ws) tt)))))))))

placed_within : (most : ℕ) (b : Bool) (r : Result Line LineFault) → Within most r → Within most (placed b r)
placed_within most true r h = h
placed_within most false r h = tt

turn_placed : (begun : Bool) (left : ℕ) (b : Bool) (r : Result Line LineFault) → (begun && nat_lt 0 left) ≡ b
    → Within 1 r → Within left (placed b r)
turn_placed begun left false r is h = tt
turn_placed true left true r is h =
    let some : 0 < left = grind (arith, nat_tests, is) in wider 1 left r (omega (arith, some)) h
turn_placed false left true r is h = absurd (false≢true is)

words_within : (place : Place) (ws : List (List ℕ)) → Within place.left (line_of_words place ws)
words_within place [] = tt
words_within place (w ∷ ws) =
    if_within place.left (bytes_eq w (codes "start")) _ _
    (placed_within place.left (not place.begun) (start_line ws) (start_within place.left ws))
    (if_within place.left (bytes_eq w (codes "mem")) _ _
    (placed_within place.left place.takes_bytes (mem_line ws) (mem_within place.left ws))
    (if_within place.left (bytes_eq w (codes "go")) _ _
    (placed_within place.left place.begun (go_line place.left ws) (go_within place.left ws))
    (turn_placed place.begun place.left (place.begun && nat_lt 0 place.left) (turn_line w ws) refl (turn_within w ws))))

-- ---- the lines

abbrev Kept : Result Gathered TraceFault → Type 0
Kept (Ok g) = g.place.left + count_of g.lines ≡ 1000000
Kept (Err fault) = Unit {0}

count_added : (lines : List Line) (line : Line) → count_of (lines ++ line ∷ []) ≡ count_of lines + turns_in line
count_added [] line = omega arith
count_added (first ∷ lines) line = let rest = count_added lines line in omega (arith, rest)

read_kept : (g : Gathered) (r : Result Line LineFault) → Within g.place.left r
    → g.place.left + count_of g.lines ≡ 1000000 → Kept (with_read g r)
read_kept g (Ok line) within kept = let more = count_added g.lines line in omega (arith, within, kept, more)
read_kept g (Err fault) within kept = tt

choose_kept : (b : Bool) (x y : Result Gathered TraceFault) → Kept x → Kept y → Kept (if b then x else y)
choose_kept true x y one other = one
choose_kept false x y one other = other

line_kept : (g : Gathered) (text : List ℕ) → g.place.left + count_of g.lines ≡ 1000000 → Kept (add_line g text)
line_kept g text kept =
    choose_kept (is_passed_over text) (Ok (passed g)) (with_read g (line_of g.place text)) kept
    (read_kept g (line_of g.place text) (words_within g.place (words_of text)) kept)

then_kept : (r : Result Gathered TraceFault) (next : Gathered → Result Gathered TraceFault) → Kept r
    → ((g : Gathered) → g.place.left + count_of g.lines ≡ 1000000 → Kept (next g)) → Kept (r >>= next)
then_kept (Ok g) next kept each = each g kept
then_kept (Err fault) next kept each = tt

all_kept : (g : Gathered) (texts : List (List ℕ)) → g.place.left + count_of g.lines ≡ 1000000
    → Kept (over add_line g texts)
unfolding over
all_kept g [] kept = kept
all_kept g (text ∷ texts) kept =
    then_kept (add_line g text) (λ more. over add_line more texts) (line_kept g text kept)
    (λ more kept. all_kept more texts kept)

-- the lines of a text are at most 1,000,000 turns
pub few_turns : (text : List ℕ) (g : Gathered) → gathered text ≡ Ok g → count_of g.lines ≤ 1000000
few_turns text g is =
    let start : 1000000 + 0 ≡ 1000000 = omega arith in
    let kept : g.place.left + count_of g.lines ≡ 1000000 = subst Kept is (all_kept nothing (lines_of text) start) in
    omega (arith, kept)

-- ---- the faults

-- it isn't said that a start isn't admitted
abbrev pub ByLine : Result Gathered TraceFault → Type 0
ByLine (Ok g) = Unit {0}
ByLine (Err (BadLine n)) = Unit {0}
ByLine (Err (BadNumber n)) = Unit {0}
ByLine (Err (NotAdmitted n)) = ⊥
ByLine (Err NoMemory) = Unit {0}

fault_by_line : (n : ℕ) (fault : LineFault) → ByLine (Err (fault_at n fault))
fault_by_line n Form = tt
fault_by_line n Number = tt
fault_by_line n NoMemoryForLine = tt

read_by_line : (g : Gathered) (r : Result Line LineFault) → ByLine (with_read g r)
read_by_line g (Ok line) = tt
read_by_line g (Err fault) = fault_by_line (g.count + 1) fault

add_by_line : (b : Bool) (g : Gathered) (r : Result Line LineFault)
    → ByLine (if b then Ok (passed g) else with_read g r)
add_by_line true g r = tt
add_by_line false g r = read_by_line g r

then_by_line : (r : Result Gathered TraceFault) (next : Gathered → Result Gathered TraceFault) → ByLine r
    → ((g : Gathered) → ByLine (next g)) → ByLine (r >>= next)
then_by_line (Ok g) next here each = each g
then_by_line (Err (BadLine n)) next here each = tt
then_by_line (Err (BadNumber n)) next here each = tt
then_by_line (Err (NotAdmitted n)) next here each = absurd here
then_by_line (Err NoMemory) next here each = tt

all_by_line : (g : Gathered) (texts : List (List ℕ)) → ByLine (over add_line g texts)
unfolding over
all_by_line g [] = tt
all_by_line g (text ∷ texts) =
    then_by_line (add_line g text) (λ more. over add_line more texts)
    (add_by_line (is_passed_over text) g (line_of g.place text)) (λ more. all_by_line more texts)

stops_by_line : (text : List ℕ) (fault : TraceFault) → (fault ≡ no_trace_memory) ⊎ (gathered text ≡ Err fault)
    → ByLine (Err fault)
stops_by_line text fault (inl none) = subst (λ (e : TraceFault). ByLine (Err e)) (sym none) tt
stops_by_line text fault (inr due) = subst ByLine due (all_by_line nothing (lines_of text))

-- no fault of reading lines is that the start isn't admitted
pub by_line : (text : List ℕ) (fault : TraceFault) (result : Result Gathered TraceFault) → result ≡ Err fault
    → (fault ≡ no_trace_memory) ⊎ (gathered text ≡ Err fault) → (n : ℕ) → result ≢ Err (NotAdmitted n)
by_line text fault result here due n is = subst ByLine (sym here ∙ is) (stops_by_line text fault due)
