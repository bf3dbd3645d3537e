-- The lines of a trace, each at its place. The claim: the text of a trace's lines is read as those lines. By induction
-- on the lines, once each of them is read at its place (`AreRead`); and the lines of a trace are, by induction on its
-- turns: after n turns Go, as many turns may come as are left to print (`MayCome`). A line of bytes takes no turn.
use Rattle.std.proofs.Common.{◌≡◌, ◌∙◌, sym, ap, subst, refl, ℕ, zero, suc, ◌+◌, ◌^◌, ◌<◌, ◌≤◌, lit≤}
use Rattle.std.proofs.Common.{Bool, true, false, cond, ◌&&◌, List, [], ◌∷◌, ◌++◌, append_assoc, append-nil, length, Ok, arith, nat_eq, nat_lt, codes}
use Rattle.std.proofs.lemmas.Bool.Decides.{nat_tests}
use Rattle.std.proofs.lemmas.List.{length-append}
use Rattle.std.proofs.lemmas.List.Elements.{All-head, All-tail}
use Rattle.std.specs.List.{All}
use Rattle.hex.specs.Hex.{IsBytes}
use Rattle.kc_rules.specs.Rules.{over}
use Rattle.kc_events.specs.declared.turn.Turn.{Turn}
use Rattle.kc_events.specs.declared.turn.Turn.TheVariants as turn
use Rattle.kc_trace.specs.declared.line.Line.{Line}
use Rattle.kc_trace.specs.declared.line.Line.TheVariants.{Mem}
use Rattle.kc_trace.specs.declared.gathered.Gathered.{Gathered}
use Rattle.kc_trace.specs.Words.{lines_of}
use Rattle.kc_trace.specs.Form.{place_after}
use Rattle.kc_trace.specs.Script.{nothing, with_line, add_line, scripted}
use Rattle.kc_trace_text.specs.Lines.{mem_from, mem_lines, go_lines, lines_of_turn, lines_after}
use Rattle.kc_trace_text.specs.Text.{text_of_line, text_of_lines}
use Rattle.kc_trace_law.proofs.Types.{Place}
use Rattle.kc_trace_law.proofs.WordLemmas.{cut_line}
use Rattle.kc_trace_law.proofs.LineLemmas.{IsRead, mem_read, go_read}

-- ---- lines

-- each line is read at its place
abbrev pub AreRead : Place → List Line → Type 0
AreRead place [] = Unit {0}
AreRead place (line ∷ lines) = IsRead place line × AreRead (place_after place line) lines

-- the place after some lines
abbrev pub after : Place → List Line → Place
after place [] = place
after place (line ∷ lines) = after (place_after place line) lines

pub joined_read : (place : Place) (xs ys : List Line) → AreRead place xs → AreRead (after place xs) ys
    → AreRead place (xs ++ ys)
joined_read place [] ys these those = those
joined_read place (x ∷ xs) ys these those = (these.0, joined_read (place_after place x) xs ys these.1 those)

pub after_joined : (place : Place) (xs ys : List Line) → after place (xs ++ ys) ≡ after (after place xs) ys
after_joined place [] ys = refl
after_joined place (x ∷ xs) ys = after_joined (place_after place x) xs ys

-- what is gathered with some lines more
abbrev with_lines : Gathered → List Line → Gathered
with_lines g [] = g
with_lines g (line ∷ lines) = with_lines (with_line g line) lines

text_read : (g : Gathered) (lines : List Line) → AreRead g.place lines
    → over add_line g (lines_of (text_of_lines lines)) ≡ Ok (with_lines g lines)
unfolding over
text_read g [] each = refl
text_read g (line ∷ lines) each =
    let here = each.0 in
    ap (λ (t : List ℕ). over add_line g (lines_of t))
    (append_assoc (text_of_line line) (codes "\n") (text_of_lines lines))
    ∙ ap (over add_line g) (cut_line (text_of_line line) (text_of_lines lines) here.bright)
    ∙ rw (here.counts, here.read) (text_read (with_line g line) lines each.1)

lines_kept : (g : Gathered) (lines : List Line) → (with_lines g lines).lines ≡ g.lines ++ lines
lines_kept g [] = sym (append-nil g.lines)
lines_kept g (line ∷ lines) =
    lines_kept (with_line g line) lines ∙ append_assoc g.lines (line ∷ []) lines

stays_begun : (g : Gathered) (lines : List Line) → g.place.begun ≡ true → (with_lines g lines).place.begun ≡ true
stays_begun g [] h = h
stays_begun g (line ∷ lines) h = stays_begun (with_line g line) lines refl

-- a text of lines, the first of which is read, is read as these lines
pub lines_read : (line : Line) (lines : List Line) → AreRead nothing.place (line ∷ lines)
    → (read : Gathered) × (scripted (text_of_lines (line ∷ lines)) ≡ Ok read) × (read.lines ≡ line ∷ lines)
unfolding scripted
lines_read line lines each =
    let all = text_read nothing (line ∷ lines) each in
    let begun = stays_begun (with_line nothing line) lines refl in
    (with_lines nothing (line ∷ lines), rw (all, begun) refl, lines_kept nothing (line ∷ lines))

-- ---- places

-- n turns may come
pub record MayCome (place : Place) (n : ℕ) : Type 0 where
  pub begun : place.begun ≡ true
  pub left : n ≤ place.left

-- ---- bytes

abbrev AreWrites : List (ℕ × ℕ) → Type 0
AreWrites ws = All (λ w. (w.0 < 2 ^ 64) × (w.1 < 256)) ws

bytes_push : (bs : List ℕ) (b : ℕ) → IsBytes bs → b < 256 → IsBytes (bs ++ b ∷ [])
bytes_push [] b h less zero = less
bytes_push [] b h less (suc i) = omega arith
bytes_push (c ∷ cs) b h less zero = h zero
bytes_push (c ∷ cs) b h less (suc i) = bytes_push cs b (λ j. h (suc j)) less i

-- the lines of bytes are read where bytes may come, and leave the turns that may come
pub record Bytes (place : Place) (n : ℕ) (lines : List Line) : Type 0 where
  pub read : AreRead place lines
  pub left : MayCome (after place lines) n

bytes_case : (place : Place) (n a : ℕ) (bs : List ℕ) (w : ℕ × ℕ) (ws : List (ℕ × ℕ)) (t : Bool)
    → (nat_eq w.0 (a + length bs) && nat_lt (length bs) 4096) ≡ t
    → (length bs < 4096 → Bytes place n (mem_from a (bs ++ w.1 ∷ []) ws))
    → IsRead place (Mem a bs) → Bytes (place_after place (Mem a bs)) n (mem_from w.0 (w.1 ∷ []) ws)
    → Bytes place n (cond t (mem_from a (bs ++ w.1 ∷ []) ws) (Mem a bs ∷ mem_from w.0 (w.1 ∷ []) ws))
bytes_case place n a bs w ws true e more one rest =
    more (grind (arith, nat_tests, e))
bytes_case place n a bs w ws false e more one rest = record { read = (one, rest.read); left = rest.left }

bytes_from : (place : Place) (n a : ℕ) (bs : List ℕ) (ws : List (ℕ × ℕ)) → place.takes_bytes ≡ true
    → MayCome place n → a < 2 ^ 64 → IsBytes bs → 1 ≤ length bs → length bs ≤ 4096 → AreWrites ws
    → Bytes place n (mem_from a bs ws)
bytes_from place n a bs [] takes may word each some few writes = record {
  read = (mem_read place a bs takes word each some few, tt);
  left = record { begun = refl; left = let left = may.left in omega (arith, left) };
}
bytes_from place n a bs (w ∷ ws) takes may word each some few writes =
    let one = All-head (λ w. (w.0 < 2 ^ 64) × (w.1 < 256)) w ws writes in
    let rest = All-tail (λ w. (w.0 < 2 ^ 64) × (w.1 < 256)) w ws writes in
    bytes_case place n a bs w ws (nat_eq w.0 (a + length bs) && nat_lt (length bs) 4096) refl
    (λ less. bytes_from place n a (bs ++ w.1 ∷ []) ws takes may word (bytes_push bs w.1 each one.1)
    (let more = length-append bs (w.1 ∷ []) in omega (arith, more))
    (let more = length-append bs (w.1 ∷ []) in omega (arith, more, less)) rest)
    (mem_read place a bs takes word each some few)
    (bytes_from (place_after place (Mem a bs)) n w.0 (w.1 ∷ []) ws refl
    (record { begun = refl; left = let left = may.left in omega (arith, left) }) one.0
    (bytes_push [] w.1 (λ i. omega arith) one.1) (lit≤ tt) (lit≤ tt) rest)

pub bytes_placed : (place : Place) (n : ℕ) (ws : List (ℕ × ℕ)) → place.takes_bytes ≡ true → MayCome place n
    → AreWrites ws → Bytes place n (mem_lines ws)
bytes_placed place n [] takes may writes = record { read = tt; left = may }
bytes_placed place n (w ∷ ws) takes may writes =
    let one = All-head (λ w. (w.0 < 2 ^ 64) × (w.1 < 256)) w ws writes in
    bytes_from place n w.0 (w.1 ∷ []) ws takes may one.0 (bytes_push [] w.1 (λ i. omega arith) one.1) (lit≤ tt)
    (lit≤ tt) (All-tail (λ w. (w.0 < 2 ^ 64) × (w.1 < 256)) w ws writes)

-- ---- turns

-- the lines of a turn are read where a turn may come, and take one at most
pub record TurnRead (t : Turn) : Type 0 where
  pub read : (place : Place) → MayCome place 1 → AreRead place (lines_of_turn t)
  pub left : (place : Place) (n : ℕ) → MayCome place (suc n) → MayCome (after place (lines_of_turn t)) n

abbrev pub EachTurn : List Turn → Type 0
EachTurn [] = Unit {0}
EachTurn (t ∷ ts) = TurnRead t × EachTurn ts

-- a line of a run of turns Go
go_placed : (place : Place) (n more : ℕ) → n + more ≤ 1000000 → MayCome place (n + more)
    → Bytes place more (go_lines n)
go_placed place zero more most may = record {
  read = tt;
  left = record { begun = may.begun; left = let left = may.left in omega (arith, left) };
}
go_placed place (suc n) more most may =
    let left = may.left in record {
      read =
          (go_read place may.begun (suc n) (omega arith) (omega (arith, left)) (omega (arith, most)), tt);
      left = record { begun = refl; left = omega (arith, left) };
    }

-- a turn that ends a run of turns Go, and the lines after it
ended_read : (place : Place) (n : ℕ) (t : Turn) (m : ℕ) (later : List Line) → n + suc m ≤ 1000000
    → MayCome place (n + suc m) → TurnRead t
    → ((next : Place) → MayCome next m → AreRead next later) → AreRead place ((go_lines n ++ lines_of_turn t) ++ later)
ended_read place n t m later most may one rest =
    let run = go_placed place n (suc m) most may in
    let here : MayCome (after place (go_lines n)) 1 = record {
      begun = run.left.begun;
      left = let left = run.left.left in omega (arith, left);
    } in
    subst (AreRead place) (sym (append_assoc (go_lines n) (lines_of_turn t) later))
    (joined_read place (go_lines n) (lines_of_turn t ++ later) run.read
    (joined_read (after place (go_lines n)) (lines_of_turn t) later (one.read (after place (go_lines n)) here)
    (rest (after (after place (go_lines n)) (lines_of_turn t)) (one.left (after place (go_lines n)) m run.left))))

pub turns_read : (place : Place) (n : ℕ) (ts : List Turn) → n + length ts ≤ 1000000 → MayCome place (n + length ts)
    → EachTurn ts → AreRead place (lines_after n ts)
turns_read place n [] most may each = (go_placed place n 0 most may).read
turns_read place n (turn.Go ∷ ts) most may each =
    let left = may.left in
    turns_read place (suc n) ts (omega (arith, most)) (record { begun = may.begun; left = omega (arith, left) }) each.1
turns_read place n (t ∷ ts) most may each =
    ended_read place n t (length ts) (lines_after 0 ts) most may each.0
    (λ next come. turns_read next 0 ts (omega (arith, most))
    (record { begun = come.begun; left = let left = come.left in omega (arith, left) }) each.1)
