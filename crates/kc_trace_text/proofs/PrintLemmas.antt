-- Lines that are written one after the other. The lines of the writes that are left are a first one and those of the
-- rest, and the lines of the turns that are left are those that end with the next turn and those after it; so each turn
-- of the two loops takes a piece off what is left, or is refused in the middle of it.
use Rattle.std.proofs.Common.{◌≡◌, ◌≢◌, ◌∙◌, sym, ap, subst, refl, ℕ, ◌+◌, ◌-◌, ◌<◌, ◌≤◌, List, [], ◌∷◌, ◌++◌, append_assoc, length, take, drop, get_or, Result, Ok, Err, codes, arith}
use Rattle.std.proofs.lemmas.Grind.{common_steps}
use Rattle.std.proofs.lemmas.List.{drop_more, drop_all}
use Rattle.std.specs.Result.{OnErr, OnOk}
use Rattle.kc_io.specs.Sink.{SinkState, SinkKept, Writes, Refuses}
use Rattle.kc_events.specs.declared.turn.Turn.{Turn}
use Rattle.kc_events.specs.declared.turn.Turn.TheVariants as turn
use Rattle.kc_trace.specs.declared.line.Line.{Line}
use Rattle.kc_trace.specs.declared.line.Line.TheVariants.{Mem}
use Rattle.kc_trace_text.specs.Lines.{mem_lines, go_lines, lines_of_turn, go_count, ended_run, lines_after}
use Rattle.kc_trace_text.specs.Text.{text_of_line, text_of_lines, text_of_first}
use Rattle.kc_trace_text.specs.BytesSteps.{written_by, bytes_of, StartsLine}
use Rattle.kc_trace_text.proofs.SinkLemmas.{Writes-both, Printed, Printed-more, Printed-refused, Printed-cut, Refuses-first, Refuses-second}

pub on_err : {A E : Type 0} (result : Result A E) (P : Type 0) → P → OnErr result P
on_err (Ok x) P p = tt
on_err (Err e) P p = p

pub on_err_too : {A E : Type 0} (result : Result A E) (P Q : Type 0) → (P → Q) → OnErr result P → OnErr result Q
on_err_too (Ok x) P Q f p = tt
on_err_too (Err e) P Q f p = f p

pub on_ok_too : {A E : Type 0} (result : Result A E) (P Q : Type 0) → (P → Q) → OnOk result P → OnOk result Q
on_ok_too (Ok x) P Q f p = f p
on_ok_too (Err e) P Q f p = tt

-- ---- a line that is put together

-- two pieces after an empty line
pub two_put : (none one two out x y : List ℕ) → none ≡ [] → one ≡ none ++ x → two ≡ one ++ y → out ≡ two → out ≡ x ++ y
two_put none one two out x y empty first second same =
    same ∙ second ∙ ap (λ t. t ++ y) (first ∙ ap (λ t. t ++ x) empty)

module _ (a b : SinkState) (line piece left whole : List ℕ) (whole_is : whole ≡ piece ++ left) (line_is : line ≡ piece)
  where
    -- the first piece is refused
    pub line_refused : Refuses a b line → Refuses a b whole
    line_refused refused =
        subst (λ (t : List ℕ). Refuses a b t) (sym whole_is)
        (Refuses-first a b piece left (subst (λ (t : List ℕ). Refuses a b t) line_is refused))

    -- what comes after it is
    pub rest_refused : (c : SinkState) → Writes a b line → SinkKept a b → Refuses b c left → Refuses a c whole
    rest_refused c writes kept refused =
        subst (λ (t : List ℕ). Refuses a c t) (sym whole_is)
        (Refuses-second a b piece left c (subst (λ (t : List ℕ). Writes a b t) line_is writes) kept refused)

    -- or it is written
    pub rest_written : (c : SinkState) → Writes a b line → Writes b c left → Writes a c whole
    rest_written c writes more =
        subst (λ (t : List ℕ). Writes a c t) (sym whole_is)
        (Writes-both a b piece left c (subst (λ (t : List ℕ). Writes a b t) line_is writes) more)

-- ---- texts

pub lines_joined : (these those : List Line)
    → text_of_lines (these ++ those) ≡ text_of_lines these ++ text_of_lines those
lines_joined [] those = refl
lines_joined (line ∷ these) those =
    ap (λ t. (text_of_line line ++ codes "\n") ++ t) (lines_joined these those)
    ∙ sym (append_assoc (text_of_line line ++ codes "\n") (text_of_lines these) (text_of_lines those))

-- a turn's line, and the lines of its bytes
pub turn_text : (t : Turn) → t ≢ turn.Go
    → text_of_lines (lines_of_turn t) ≡ (text_of_first t ++ codes "\n") ++ text_of_lines (mem_lines (written_by t))
turn_text turn.Go other = absurd (other refl)
turn_text (turn.Irq v) other = refl
turn_text turn.Nmi other = refl
turn_text turn.Debug other = refl
turn_text turn.Check other = refl
turn_text (turn.Fault a code) other = refl
turn_text (turn.Trap v code) other = refl
turn_text turn.Syscall other = refl
turn_text (turn.User u) other = refl
turn_text (turn.Body b) other = refl
turn_text (turn.Leave l) other = refl

-- a turn other than Go ends a run of turns Go
pub ends_run : (n : ℕ) (t : Turn) → t ≢ turn.Go → ended_run n t ≡ go_lines n
ends_run n turn.Go other = absurd (other refl)
ends_run n (turn.Irq v) other = refl
ends_run n turn.Nmi other = refl
ends_run n turn.Debug other = refl
ends_run n turn.Check other = refl
ends_run n (turn.Fault a code) other = refl
ends_run n (turn.Trap v code) other = refl
ends_run n turn.Syscall other = refl
ends_run n (turn.User u) other = refl
ends_run n (turn.Body b) other = refl
ends_run n (turn.Leave l) other = refl

pub counts_anew : (n : ℕ) (t : Turn) → t ≢ turn.Go → 0 ≡ go_count n t
counts_anew n turn.Go other = absurd (other refl)
counts_anew n (turn.Irq v) other = refl
counts_anew n turn.Nmi other = refl
counts_anew n turn.Debug other = refl
counts_anew n turn.Check other = refl
counts_anew n (turn.Fault a code) other = refl
counts_anew n (turn.Trap v code) other = refl
counts_anew n turn.Syscall other = refl
counts_anew n (turn.User u) other = refl
counts_anew n (turn.Body b) other = refl
counts_anew n (turn.Leave l) other = refl

pub ended_text : (n : ℕ) (t : Turn) → t ≢ turn.Go
    → text_of_lines (ended_run n t ++ lines_of_turn t) ≡ text_of_lines (go_lines n) ++ text_of_lines (lines_of_turn t)
ended_text n t other =
    lines_joined (ended_run n t) (lines_of_turn t)
    ∙ ap (λ lines. text_of_lines lines ++ text_of_lines (lines_of_turn t)) (ends_run n t other)

-- ---- bytes

rest_of : {A : Type 0} (n : ℕ) (xs : List A) → take (length xs - n) (drop n xs) ≡ drop n xs
rest_of n xs = grind (arith, common_steps)

-- the line of the first n writes
abbrev first_line : List (ℕ × ℕ) → ℕ → List ℕ
first_line ws n = text_of_lines (Mem (get_or ws 0 (0, 0)).0 (bytes_of (take n ws)) ∷ [])

abbrev other_lines : List (ℕ × ℕ) → ℕ → List ℕ
other_lines ws n = text_of_lines (mem_lines (take (length ws - n) (drop n ws)))

bytes_text : (ws : List (ℕ × ℕ)) (n : ℕ) → 0 < length ws → StartsLine ws n
    → text_of_lines (mem_lines ws) ≡ first_line ws n ++ other_lines ws n
bytes_text [] n some starts = absurd (omega (arith, some))
bytes_text (w ∷ ws) n some starts =
    ap text_of_lines starts.line
    ∙ lines_joined (Mem w.0 (bytes_of (take n (w ∷ ws))) ∷ []) (mem_lines (drop n (w ∷ ws)))
    ∙ ap (λ (xs : List (ℕ × ℕ)). first_line (w ∷ ws) n ++ text_of_lines (mem_lines xs)) (sym (rest_of n (w ∷ ws)))

module _ (a b c : SinkState) (whole : List ℕ) (ws : List (ℕ × ℕ)) (n : ℕ) (some : 0 < length ws)
    (starts : StartsLine ws n) (before : Printed a b whole (text_of_lines (mem_lines ws))) where
  split : Printed a b whole (first_line ws n ++ other_lines ws n)
  split = subst (λ (t : List ℕ). Printed a b whole t) (bytes_text ws n some starts) before

  pub bytes_refused : Refuses b c (first_line ws n) → Refuses a c whole
  bytes_refused refused = Printed-refused a b whole (first_line ws n) (other_lines ws n) split c refused

  pub bytes_printed : Writes b c (first_line ws n) → SinkKept b c → Printed a c whole (other_lines ws n)
  bytes_printed writes kept = Printed-more a b whole (first_line ws n) (other_lines ws n) split c writes kept

-- ---- turns

pub count_few : (n : ℕ) (t : Turn) → go_count n t ≤ n + 1
count_few n turn.Go = omega arith
count_few n t = omega arith

-- no turn is left
pub end_cut : (a b c : SinkState) (whole : List ℕ) (ts : List Turn) (i n : ℕ) → length ts ≤ i
    → Printed a b whole (text_of_lines (lines_after n (drop i ts))) → Refuses b c (text_of_lines (go_lines n))
    → Refuses a c whole
end_cut a b c whole ts i n past before refused =
    Printed-cut a b c whole (text_of_lines (go_lines n))
    (subst (λ (xs : List Turn). Printed a b whole (text_of_lines (lines_after n xs))) (drop_all i ts past) before)
    refused

abbrev ended_lines : ℕ → Turn → List ℕ
ended_lines n t = text_of_lines (ended_run n t ++ lines_of_turn t)

module _ (a b c : SinkState) (whole : List ℕ) (ts : List Turn) (i n : ℕ) (t : Turn) (within : i < length ts)
    (is : t ≡ get_or ts i t) (before : Printed a b whole (text_of_lines (lines_after n (drop i ts)))) where
  turns_text : text_of_lines (lines_after n (drop i ts))
      ≡ ended_lines n t ++ text_of_lines (lines_after (go_count n t) (drop (i + 1) ts))
  turns_text =
      ap (λ (xs : List Turn). text_of_lines (lines_after n xs)) (drop_more ts i t within)
      ∙ ap (λ (u : Turn). text_of_lines (lines_after n (u ∷ drop (i + 1) ts))) (sym is)
      ∙ lines_joined (ended_run n t ++ lines_of_turn t) (lines_after (go_count n t) (drop (i + 1) ts))

  parted : Printed a b whole (ended_lines n t ++ text_of_lines (lines_after (go_count n t) (drop (i + 1) ts)))
  parted = subst (λ (u : List ℕ). Printed a b whole u) turns_text before

  pub turn_refused : Refuses b c (ended_lines n t) → Refuses a c whole
  turn_refused refused =
      Printed-refused a b whole (ended_lines n t) (text_of_lines (lines_after (go_count n t) (drop (i + 1) ts)))
      parted c
      refused

  pub turn_printed : (m : ℕ) → m ≡ go_count n t → Writes b c (ended_lines n t) → SinkKept b c
      → Printed a c whole (text_of_lines (lines_after m (drop (i + 1) ts)))
  turn_printed m count writes kept =
      subst (λ (k : ℕ). Printed a c whole (text_of_lines (lines_after k (drop (i + 1) ts)))) (sym count)
      (Printed-more a b whole (ended_lines n t) (text_of_lines (lines_after (go_count n t) (drop (i + 1) ts))) parted c
      writes kept)
