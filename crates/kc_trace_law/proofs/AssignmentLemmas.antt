-- Assignments that are written, then read. The claim: the words of assignments of a setter, with their numbers in
-- range, are read as those assignments. Each word is read by itself (`word_read`): its name ends at the first `=`. That
-- no name stands twice is a fact on the names alone (`are_named`), which compute.
use Rattle.std.proofs.Common.{◌≡◌, ◌∙◌, sym, ap, refl, ℕ, ◌^◌, ◌<◌}
use Rattle.std.proofs.Common.{Bool, true, not, ◌&&◌, List, [], ◌∷◌, ◌++◌, append_assoc, append-nil, map, Option, Some, Ok, codes}
use Rattle.std.proofs.lemmas.List.Folds.{list_all-append}
use Rattle.std.specs.List.{list_all, list_any}
use Rattle.std.specs.Option.{option_and_then}
use Rattle.std.specs.Str.{bytes_eq}
use Rattle.kc_rules.specs.Rules.{over}
use Rattle.kc_trace.specs.declared.assignment.Assignment.{Assignment}
use Rattle.kc_trace.specs.declared.assignment.Assignment.TheVariants.{SetRegister, SetRip, SetFlags, SetCs, SetGs, SetDueRip, SetDueFlags, SetDueRsp}
use Rattle.kc_trace.specs.Assignments.{name_text, number_text, has_equals, named, may_set_named, mentions, are_assignments, assigned, assignment, add_assignment, assignments}
use Rattle.kc_trace.specs.Numbers.{number}
use Rattle.kc_trace.specs.Words.{words_of}
use Rattle.kc_trace_text.specs.Text.{register_name, text_of_assignment, text_of_assignments, number_text as text_of_number}
use Rattle.kc_trace_law.proofs.Types.{Setter}
use Rattle.kc_trace_law.proofs.NumberLemmas.{both, is_dark, number_read, number_dark}
use Rattle.kc_trace_law.proofs.WordLemmas.{is_named, is_bright, dark_is_bright, cut_word, last_word, name_before, number_after, equals_found}

-- ---- one word

abbrev pub name_of : Assignment → List ℕ
name_of (SetRegister r n) = register_name r
name_of (SetRip n) = codes "rip"
name_of (SetFlags n) = codes "rflags"
name_of (SetCs n) = codes "cs"
name_of (SetGs n) = codes "gs"
name_of (SetDueRip n) = codes "due.rip"
name_of (SetDueFlags n) = codes "due.rflags"
name_of (SetDueRsp n) = codes "due.rsp"

abbrev pub value_of : Assignment → ℕ
value_of (SetRegister r n) = n
value_of (SetRip n) = n
value_of (SetFlags n) = n
value_of (SetCs n) = n
value_of (SetGs n) = n
value_of (SetDueRip n) = n
value_of (SetDueFlags n) = n
value_of (SetDueRsp n) = n

abbrev pub word_of : Assignment → List ℕ
word_of a = name_of a ++ 61 ∷ text_of_number (value_of a)

word_text : (a : Assignment) → text_of_assignment a ≡ 32 ∷ word_of a
word_text (SetRegister r n) = append_assoc (codes " " ++ register_name r) (codes "=") (text_of_number n)
word_text (SetRip n) = refl
word_text (SetFlags n) = refl
word_text (SetCs n) = refl
word_text (SetGs n) = refl
word_text (SetDueRip n) = refl
word_text (SetDueFlags n) = refl
word_text (SetDueRsp n) = refl

-- its name is one, and its number in range
pub record IsReadable (a : Assignment) : Type 0 where
  pub dark : list_all is_dark (name_of a) ≡ true
  pub plain : list_all is_named (name_of a) ≡ true
  pub word : value_of a < 2 ^ 64
  pub assigns : option_and_then (λ name. assigned name (value_of a)) (named (name_of a)) ≡ Some a

module _ (a : Assignment) (readable : IsReadable a) where
  word_dark : list_all is_dark (word_of a) ≡ true
  word_dark =
      list_all-append is_dark (name_of a) (61 ∷ text_of_number (value_of a))
      ∙ both (list_all is_dark (name_of a)) (list_all is_dark (61 ∷ text_of_number (value_of a))) readable.dark
      (number_dark (value_of a))

  pub name_is : name_text (word_of a) ≡ name_of a
  name_is = name_before (name_of a) (text_of_number (value_of a)) readable.plain

  number_is : number_text (word_of a) ≡ text_of_number (value_of a)
  number_is = number_after (name_of a) (text_of_number (value_of a)) readable.plain

  word_read : assignment (word_of a) ≡ Some a
  word_read =
      ap (λ (t : List ℕ). option_and_then (λ name. option_and_then (assigned name) (number t))
      (named (name_text (word_of a)))) number_is
      ∙ ap (λ (t : List ℕ). option_and_then
      (λ name. option_and_then (assigned name) (number (text_of_number (value_of a)))) (named t)) name_is
      ∙ ap (λ (o : Option ℕ). option_and_then (λ name. option_and_then (assigned name) o) (named (name_of a)))
      (number_read (value_of a) readable.word)
      ∙ readable.assigns

  has_equals_is : has_equals (word_of a) ≡ true
  has_equals_is = equals_found (name_of a) (text_of_number (value_of a)) readable.plain

-- ---- the words of a line

abbrev pub AreReadable : List Assignment → Type 0
AreReadable [] = Unit {0}
AreReadable (a ∷ more) = IsReadable a × AreReadable more

pub cut_assignments : (word : List ℕ) (set : List Assignment) → list_all is_dark word ≡ true → AreReadable set
    → words_of (word ++ text_of_assignments set) ≡ word ∷ map word_of set
cut_assignments word [] dark each = ap words_of (append-nil word) ∙ last_word word dark
cut_assignments word (a ∷ more) dark each =
    ap (λ (t : List ℕ). words_of (word ++ (t ++ text_of_assignments more))) (word_text a)
    ∙ cut_word word (word_of a ++ text_of_assignments more) dark
    ∙ ap (λ (ws : List (List ℕ)). word ∷ ws) (cut_assignments (word_of a) more (word_dark a each.0) each.1)

over_words : (earlier set : List Assignment) → AreReadable set
    → over add_assignment earlier (map word_of set) ≡ Ok (earlier ++ set)
unfolding over
over_words earlier [] each = ap Ok (sym (append-nil earlier))
over_words earlier (a ∷ more) each =
    rw (word_read a each.0) (over_words (earlier ++ a ∷ []) more each.1 ∙ ap Ok (append_assoc earlier (a ∷ []) more))

-- ---- names

abbrev stands_in : List ℕ → List (List ℕ) → Bool
stands_in n names = list_any (λ m. bytes_eq m n) names

-- each may be set, and none stands twice
abbrev pub are_named : Setter → List (List ℕ) → Bool
are_named setter [] = true
are_named setter (n ∷ names) =
    may_set_named setter (named n) && (not (stands_in n names) && are_named setter names)

mentions_is : (n : List ℕ) (set : List Assignment) → AreReadable set
    → mentions n (map word_of set) ≡ stands_in n (map name_of set)
mentions_is n [] each = refl
mentions_is n (a ∷ more) each = rw (name_is a each.0, mentions_is n more each.1) refl

are_words : (setter : Setter) (set : List Assignment) → AreReadable set
    → are_assignments setter (map word_of set) ≡ are_named setter (map name_of set)
are_words setter [] each = refl
are_words setter (a ∷ more) each =
    rw (has_equals_is a each.0, name_is a each.0, mentions_is (name_of a) more each.1, are_words setter more each.1)
    refl

pub set_read : (setter : Setter) (set : List Assignment) → AreReadable set
    → are_named setter (map name_of set) ≡ true → assignments setter (map word_of set) ≡ Ok set
unfolding assignments
set_read setter set each names = rw (are_words setter set each ∙ names) (over_words [] set each)

-- ---- no end of a line

pub assignments_bright : (set : List Assignment) → AreReadable set → list_all is_bright (text_of_assignments set) ≡ true
assignments_bright [] each = refl
assignments_bright (a ∷ more) each =
    ap (λ (t : List ℕ). list_all is_bright (t ++ text_of_assignments more)) (word_text a)
    ∙ list_all-append is_bright (word_of a) (text_of_assignments more)
    ∙ both (list_all is_bright (word_of a)) (list_all is_bright (text_of_assignments more))
    (dark_is_bright (word_of a) (word_dark a each.0)) (assignments_bright more each.1)
