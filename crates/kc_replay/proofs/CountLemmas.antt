-- How many turns lines are. Each line's list of turns has as many as the line says, by cases on the line; the lines'
-- lists stand one after the other.
use Rattle.std.proofs.Common.{◌≡◌, ℕ, zero, suc, ◌+◌, ◌<◌, ◌≤◌, List, [], ◌∷◌, ◌++◌, length, replicate, take, drop, get_or, ◌-◌, refl, ap, sym, ◌∙◌, arith}
use Rattle.std.proofs.lemmas.Grind.{common_steps}
use Rattle.std.proofs.lemmas.List.{append-nil, length-append, length-replicate, drop_more, drop_all}
use Rattle.kc_regions.specs.Description.{Description}
use Rattle.kc_cpu.specs.declared.cpu.Cpu.{Cpu}
use Rattle.kc_events.specs.declared.turn.Turn.{Turn}
use Rattle.kc_events.specs.declared.turn.Turn.TheVariants as turn
use Rattle.kc_trace.specs.declared.line.Line.{Line}
use Rattle.kc_trace.specs.declared.line.Line.TheVariants.{Start, Mem, Go, Irq, Nmi, Debug, Check, Fault, Trap, Syscall, User, Body, Leave}
use Rattle.kc_trace.specs.Form.{turns_of as turns_in}
use Rattle.kc_trace.specs.Script.{count_of}
use Rattle.kc_replay.specs.Turns.{turns_at, turns_of}

-- what a slice from the n-th element on is
pub rest_of : {A : Type 0} (n : ℕ) (xs : List A) → take (length xs - n) (drop n xs) ≡ drop n xs
rest_of n xs = grind (arith, common_steps)

steps : (n : ℕ) → length {A = Cpu → Turn} (replicate n (λ cpu. turn.Go) ++ []) ≡ n
steps n = let go : Cpu → Turn = λ cpu. turn.Go in ap length (append-nil (replicate n go)) ∙ length-replicate n go

turns_counted : (cfg : Description) (line : Line) (rest : List Line) → length (turns_at cfg line rest) ≡ turns_in line
turns_counted cfg (Start set) rest = refl
turns_counted cfg (Mem at bs) rest = refl
turns_counted cfg (Go n) rest = steps n
turns_counted cfg (Irq v) rest = refl
turns_counted cfg Nmi rest = refl
turns_counted cfg Debug rest = refl
turns_counted cfg Check rest = refl
turns_counted cfg (Fault a code) rest = refl
turns_counted cfg (Trap v code) rest = refl
turns_counted cfg Syscall rest = refl
turns_counted cfg (User set) rest = refl
turns_counted cfg (Body set) rest = refl
turns_counted cfg (Leave set) rest = refl

sum_of : (a b c d : ℕ) → a ≡ b → c ≡ d → a + c ≡ b + d
sum_of a b c d p q = omega (arith, p, q)

pub counted : (cfg : Description) (lines : List Line) → length (turns_of cfg lines) ≡ count_of lines
counted cfg [] = refl
counted cfg (line ∷ rest) =
    length-append (turns_at cfg line rest) (turns_of cfg rest)
    ∙ sum_of (length (turns_at cfg line rest)) (turns_in line) (length (turns_of cfg rest)) (count_of rest)
    (turns_counted cfg line rest) (counted cfg rest)

-- ---- the same turn again and again

one_more : {A : Type 0} (x : A) (i : ℕ) → replicate i x ++ x ∷ [] ≡ replicate (suc i) x
one_more x zero = refl
one_more x (suc i) = ap (λ xs. x ∷ xs) (one_more x i)

pub once_more : {A : Type 0} (x : A) (i : ℕ) → replicate i x ++ x ∷ [] ≡ replicate (i + 1) x
once_more x i = let next : suc i ≡ i + 1 = omega arith in one_more x i ∙ ap (λ n. replicate n x) next

-- one more, and those that are left
all_more : {A : Type 0} (x : A) (i k : ℕ) → replicate i x ++ replicate k x ≡ replicate (i + k) x
all_more x zero k = let none : k ≡ 0 + k = omega arith in ap (λ n. replicate n x) none
all_more x (suc i) k =
    let next : suc (i + k) ≡ suc i + k = omega arith in
    ap (λ xs. x ∷ xs) (all_more x i k) ∙ ap (λ n. replicate n x) next

pub all_of : {A : Type 0} (x : A) (i k n : ℕ) → n ≡ i + 1 + k
    → (replicate i x ++ x ∷ []) ++ replicate k x ≡ replicate n x
all_of x i k n is =
    ap (λ xs. xs ++ replicate k x) (once_more x i) ∙ all_more x (i + 1) k ∙ ap (λ m. replicate m x) (sym is)

-- ---- lines

-- the turns of the i-th line, and then those of the lines after it, are those of the lines from the i-th on
pub turns_more : (cfg other : Description) (lines : List Line) (i : ℕ) (line : Line) → i < length lines
    → line ≡ get_or lines i line → other ≡ cfg
    → turns_at other line (take (length lines - (i + 1)) (drop (i + 1) lines)) ++ turns_of cfg (drop (i + 1) lines)
    ≡ turns_of cfg (drop i lines)
turns_more cfg other lines i line within is same =
    let later = turns_of cfg (drop (i + 1) lines) in
    ap (λ (d : Description). turns_at d line (take (length lines - (i + 1)) (drop (i + 1) lines)) ++ later) same
    ∙ ap (λ (rest : List Line). turns_at cfg line rest ++ later) (rest_of (i + 1) lines)
    ∙ ap (λ (l : Line). turns_at cfg l (drop (i + 1) lines) ++ later) is
    ∙ sym (ap (turns_of cfg) (drop_more lines i line within))

pub no_turns : (cfg : Description) (lines : List Line) (i : ℕ) → length lines ≤ i → [] ≡ turns_of cfg (drop i lines)
no_turns cfg lines i past = sym (ap (turns_of cfg) (drop_all i lines past))
