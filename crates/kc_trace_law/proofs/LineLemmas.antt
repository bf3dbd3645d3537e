-- Lines that are written, then read. The claim: each line's text is read as the line at a place where it may stand. Its
-- words are cut first; then the form of its first word computes, and its numbers are read by `NumberLemmas`.
use Rattle.std.proofs.Common.{◌≡◌, ◌∙◌, ap, refl, ℕ, ◌^◌, ◌<◌, ◌≤◌}
use Rattle.std.proofs.Common.{true, false, ◌&&◌, List, [], ◌∷◌, ◌++◌, append_assoc, map, length, Result, Ok, arith, codes, nat_lt}
use Rattle.std.proofs.lemmas.List.Folds.{list_all-append}
use Rattle.std.specs.Fmt.{decimal as decimal_text}
use Rattle.std.specs.List.{list_all}
use Rattle.hex.specs.Hex.{IsBytes, encode_lower}
use Rattle.kc_trace.specs.declared.assignment.Assignment.{Assignment}
use Rattle.kc_trace.specs.declared.line.Line.{Line}
use Rattle.kc_trace.specs.declared.line.Line.TheVariants.{Start, Mem, Go, Irq, Nmi, Debug, Check, Fault, Trap, Syscall, User, Body, Leave}
use Rattle.kc_trace.specs.Words.{words_of, is_passed_over}
use Rattle.kc_trace.specs.Form.{go_line, mem_line, irq_line, fault_line, trap_line, bare_line, start_line, user_line, body_line, leave_line, placed, line_of_words, line_of}
use Rattle.kc_trace_text.specs.Text.{number_text, text_of_assignments, text_of_line}
use Rattle.kc_trace_law.proofs.Types.{Place, LineFault, by_user, by_body, by_leave}
use Rattle.kc_trace_law.proofs.NumberLemmas.{both, le_test, lt_test, is_dark, number_read, code_read, decimal_read, vector_read, bytes_read, number_dark, decimal_dark, bytes_dark}
use Rattle.kc_trace_law.proofs.WordLemmas.{is_bright, dark_is_bright, cut_word, last_word}
use Rattle.kc_trace_law.proofs.AssignmentLemmas.{name_of, AreReadable, are_named, cut_assignments, set_read, assignments_bright}

-- what is read of a line's text at a place
pub record IsRead (place : Place) (line : Line) : Type 0 where
  pub bright : list_all is_bright (text_of_line line) ≡ true
  pub counts : is_passed_over (text_of_line line) ≡ false
  pub read : line_of place (text_of_line line) ≡ Ok line

bright_both : (xs ys : List ℕ) → list_all is_bright xs ≡ true → list_all is_bright ys ≡ true
    → list_all is_bright (xs ++ ys) ≡ true
bright_both xs ys h k =
    list_all-append is_bright xs ys ∙ both (list_all is_bright xs) (list_all is_bright ys) h k

-- ---- words

two : (first second : List ℕ) → list_all is_dark first ≡ true → list_all is_dark second ≡ true
    → words_of (first ++ 32 ∷ second) ≡ first ∷ second ∷ []
two first second h k = cut_word first second h ∙ ap (λ (ws : List (List ℕ)). first ∷ ws) (last_word second k)

three : (first second third : List ℕ) → list_all is_dark first ≡ true → list_all is_dark second ≡ true
    → list_all is_dark third ≡ true
    → words_of (first ++ 32 ∷ ((second ++ codes " ") ++ third)) ≡ first ∷ second ∷ third ∷ []
three first second third h k l =
    ap (λ (t : List ℕ). words_of (first ++ 32 ∷ t)) (append_assoc second (codes " ") third)
    ∙ cut_word first (second ++ 32 ∷ third) h ∙ ap (λ (ws : List (List ℕ)). first ∷ ws) (two second third k l)

bright_two : (first second : List ℕ) → list_all is_bright first ≡ true → list_all is_dark second ≡ true
    → list_all is_bright (first ++ second) ≡ true
bright_two first second h k = bright_both first second h (dark_is_bright second k)

bright_three : (first second third : List ℕ) → list_all is_bright first ≡ true → list_all is_dark second ≡ true
    → list_all is_dark third ≡ true → list_all is_bright (((first ++ second) ++ codes " ") ++ third) ≡ true
bright_three first second third h k l =
    bright_both ((first ++ second) ++ codes " ") third
    (bright_both (first ++ second) (codes " ") (bright_two first second h k) refl) (dark_is_bright third l)

-- ---- lines of assignments

module _ (place : Place) (set : List Assignment) (each : AreReadable set) where
  pub start_read : place.begun ≡ false → are_named by_user (map name_of set) ≡ true → IsRead place (Start set)
  unfolding start_line
  start_read fresh names = record {
    bright = bright_both (codes "start") (text_of_assignments set) refl (assignments_bright set each);
    counts = refl;
    read =
        ap (line_of_words place) (cut_assignments (codes "start") set refl each)
        ∙ rw (fresh, set_read by_user set each names) refl;
  }

module _ (place : Place) (begun : place.begun ≡ true) where
  -- a turn may come
  module _ (some : 1 ≤ place.left) where
    may_come : (r : Result Line LineFault) → placed (place.begun && nat_lt 0 place.left) r ≡ r
    may_come r = let more = lt_test 0 place.left (omega (arith, some)) in rw (begun, more) refl

    module _ (set : List Assignment) (each : AreReadable set) where
      pub user_read : are_named by_user (map name_of set) ≡ true → IsRead place (User set)
      unfolding start_line user_line
      user_read names = record {
        bright = bright_both (codes "user") (text_of_assignments set) refl (assignments_bright set each);
        counts = refl;
        read =
            ap (line_of_words place) (cut_assignments (codes "user") set refl each)
            ∙ may_come _ ∙ rw (set_read by_user set each names) refl;
      }

      pub body_read : are_named by_body (map name_of set) ≡ true → IsRead place (Body set)
      unfolding body_line
      body_read names = record {
        bright = bright_both (codes "body") (text_of_assignments set) refl (assignments_bright set each);
        counts = refl;
        read =
            ap (line_of_words place) (cut_assignments (codes "body") set refl each)
            ∙ may_come _ ∙ rw (set_read by_body set each names) refl;
      }

      pub leave_read : are_named by_leave (map name_of set) ≡ true → IsRead place (Leave set)
      unfolding leave_line
      leave_read names = record {
        bright = bright_both (codes "leave") (text_of_assignments set) refl (assignments_bright set each);
        counts = refl;
        read =
            ap (line_of_words place) (cut_assignments (codes "leave") set refl each)
            ∙ may_come _ ∙ rw (set_read by_leave set each names) refl;
      }

    pub irq_read : (v : ℕ) → v < 256 → IsRead place (Irq v)
    unfolding irq_line
    irq_read v h = record {
      bright = bright_two (codes "irq ") (decimal_text v) refl (decimal_dark v);
      counts = refl;
      read =
          ap (line_of_words place) (two (codes "irq") (decimal_text v) refl (decimal_dark v))
          ∙ may_come _ ∙ rw (vector_read v h) refl;
    }

    pub nmi_read : IsRead place Nmi
    unfolding bare_line
    nmi_read = record { bright = refl; counts = refl; read = may_come (Ok Nmi) }

    pub debug_read : IsRead place Debug
    unfolding bare_line
    debug_read = record { bright = refl; counts = refl; read = may_come (Ok Debug) }

    pub check_read : IsRead place Check
    unfolding bare_line
    check_read = record { bright = refl; counts = refl; read = may_come (Ok Check) }

    pub syscall_read : IsRead place Syscall
    unfolding bare_line
    syscall_read = record { bright = refl; counts = refl; read = may_come (Ok Syscall) }

    pub fault_read : (a c : ℕ) → a < 2 ^ 64 → c < 2 ^ 32 → IsRead place (Fault a c)
    unfolding fault_line
    fault_read a c h k = record {
      bright = bright_three (codes "fault ") (number_text a) (number_text c) refl (number_dark a) (number_dark c);
      counts = refl;
      read =
          ap (line_of_words place)
          (three (codes "fault") (number_text a) (number_text c) refl (number_dark a) (number_dark c))
          ∙ may_come _ ∙ rw (number_read a h, code_read c k) refl;
    }

    pub trap_read : (v c : ℕ) → v < 256 → c < 2 ^ 32 → IsRead place (Trap v c)
    unfolding trap_line
    trap_read v c h k = record {
      bright = bright_three (codes "trap ") (decimal_text v) (number_text c) refl (decimal_dark v) (number_dark c);
      counts = refl;
      read =
          ap (line_of_words place)
          (three (codes "trap") (decimal_text v) (number_text c) refl (decimal_dark v) (number_dark c))
          ∙ may_come _ ∙ rw (vector_read v h, code_read c k) refl;
    }

  pub go_read : (n : ℕ) → 1 ≤ n → n ≤ place.left → n ≤ 1000000 → IsRead place (Go n)
  unfolding go_line
  go_read n some few most =
      let low = le_test 1 n some in
      let high = le_test n place.left few in
      record {
        bright = bright_two (codes "go ") (decimal_text n) refl (decimal_dark n);
        counts = refl;
        read =
            ap (line_of_words place) (two (codes "go") (decimal_text n) refl (decimal_dark n))
            ∙ rw (begun, decimal_read n most, low, high) refl;
      }

pub mem_read : (place : Place) (a : ℕ) (bs : List ℕ) → place.takes_bytes ≡ true → a < 2 ^ 64 → IsBytes bs
    → 1 ≤ length bs → length bs ≤ 4096 → IsRead place (Mem a bs)
unfolding mem_line
mem_read place a bs takes word each some few = record {
  bright = bright_three (codes "mem ") (number_text a) (encode_lower bs) refl (number_dark a) (bytes_dark bs each);
  counts = refl;
  read =
      ap (line_of_words place)
      (three (codes "mem") (number_text a) (encode_lower bs) refl (number_dark a) (bytes_dark bs each))
      ∙ rw (takes, number_read a word, bytes_read bs each some few) refl;
}
