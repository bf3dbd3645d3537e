-- Loops over words. What was found so far, and what the words left add to it, is what all words give.
use Rattle.std.proofs.Common.{◌≡◌, ℕ, suc, ◌+◌, ◌-◌, ◌==◌, ◌⊎◌, inl, inr, if◌then◌else◌, arith, ◌<◌, ◌≤◌, Bool, true, false, not, ◌&&◌, ◌||◌, List, [], ◌∷◌, length, get_or, take, drop, Result, Ok, Err, Bor, refl, ap, sym, ◌∙◌}
use Rattle.std.proofs.lemmas.Bool.Decides.{nat_tests}
use Rattle.std.proofs.lemmas.List.{drop_more, drop_all}
use Rattle.std.specs.List.{list_any}
use Rattle.std.specs.Str.{bytes_eq}
use Rattle.kc_rules.specs.Rules.{over}
use Rattle.kc_trace.specs.declared.assignment.Setter.{Setter}
use Rattle.kc_trace.specs.declared.fault.LineFault.{LineFault}
use Rattle.kc_trace.specs.declared.fault.TraceFault.{TraceFault}
use Rattle.kc_trace.specs.declared.gathered.Gathered.{Gathered}
use Rattle.kc_trace.specs.declared.line.Line.{Line}
use Rattle.kc_trace.specs.Words.{texts, lines_of, is_passed_over}
use Rattle.kc_trace.specs.Form.{line_of}
use Rattle.kc_trace.specs.Script.{passed, with_read, add_line}
use Rattle.kc_trace.specs.Assignments.{name_text, mentions, is_assignment, are_assignments}
use Rattle.kc_trace.proofs.CutLemmas.{rest_of}

-- the words from the i-th on
pub words_more : (words : List (Bor (List ℕ))) (i : ℕ) (d : Bor (List ℕ)) → i < length words
    → texts (drop i words) ≡ (get_or words i d).now ∷ texts (drop (i + 1) words)
words_more words i d within = ap texts (drop_more words i d within)

pub words_end : (words : List (Bor (List ℕ))) (i : ℕ) → length words ≤ i → texts (drop i words) ≡ []
words_end words i end = ap texts (drop_all i words end)

-- what stands past the end of a slice of words
abbrev pub absent : Bor (List ℕ)
absent = record { ref_ptr = (0, 0); now = [] }

any_texts : (p : List ℕ → Bool) (words : List (Bor (List ℕ))) → list_any (λ w. p w.now) words ≡ list_any p (texts words)
any_texts p [] = refl
any_texts p (w ∷ ws) = ap (λ b. p w.now || b) (any_texts p ws)

-- ---- the form of assignments

assoc : (a b c : Bool) → (a && (b && c)) ≡ ((a && b) && c)
assoc true b c = refl
assoc false b c = refl

-- the first of the words left is new among them, or isn't
pub form_step : (setter : Setter) (words : List (Bor (List ℕ))) (i : ℕ) (d : Bor (List ℕ)) (new : Bool)
    → i < length words
    → new ≡ (is_assignment setter (get_or words i d).now
    && not (list_any (λ v. bytes_eq (name_text v.now) (name_text (get_or words i d).now))
    (take (length words - (i + 1)) (drop (i + 1) words))))
    → are_assignments setter (texts (drop i words)) ≡ (new && are_assignments setter (texts (drop (i + 1) words)))
form_step setter words i d new within here =
    let later = drop (i + 1) words in
    let w = (get_or words i d).now in
    let same : list_any (λ v. bytes_eq (name_text v.now) (name_text w)) (take (length words - (i + 1)) later)
    ≡ mentions (name_text w) (texts later)
    = ap (list_any (λ (v : Bor (List ℕ)). bytes_eq (name_text v.now) (name_text w))) (rest_of (i + 1) words)
    ∙ any_texts (λ v. bytes_eq (name_text v) (name_text w)) later in
    ap (are_assignments setter) (words_more words i d within)
    ∙ assoc (is_assignment setter w) (not (mentions (name_text w) (texts later))) (are_assignments setter (texts later))
    ∙ ap (λ b. b && are_assignments setter (texts later)) (sym (here ∙ ap (λ m. is_assignment setter w && not m) same))

-- ---- what is added word by word

over_next : {A P E : Type 0} (add : A → P → Result A E) (found more : A) (item : P) (items : List P)
    → add found item ≡ Ok more → over add found (item ∷ items) ≡ over add more items
unfolding over
over_next add found more item items e = rw e refl

over_fault : {A P E : Type 0} (add : A → P → Result A E) (found : A) (fault : E) (item : P) (items : List P)
    → add found item ≡ Err fault → over add found (item ∷ items) ≡ Err fault
unfolding over
over_fault add found fault item items e = rw e refl

over_end : {A P E : Type 0} (add : A → P → Result A E) (found : A) → over add found [] ≡ Ok found
unfolding over
over_end add found = refl

pub over_more : {A P E : Type 0} (add : A → P → Result A E) (items rest : List P) (item : P) (found more : A)
    (due : Result A E)
    → items ≡ item ∷ rest → add found item ≡ Ok more → over add found items ≡ due → over add more rest ≡ due
over_more add items rest item found more due next here so_far =
    sym (over_next add found more item rest here) ∙ ap (over add found) (sym next) ∙ so_far

pub over_stops : {A P E : Type 0} (add : A → P → Result A E) (items rest : List P) (item : P) (found : A) (fault : E)
    (due : Result A E)
    → items ≡ item ∷ rest → add found item ≡ Err fault → over add found items ≡ due → due ≡ Err fault
over_stops add items rest item found fault due next here so_far =
    sym so_far ∙ ap (over add found) next ∙ over_fault add found fault item rest here

pub over_done : {A P E : Type 0} (add : A → P → Result A E) (items : List P) (found : A) (due : Result A E)
    → items ≡ [] → over add found items ≡ due → due ≡ Ok found
over_done add items found due none so_far = sym so_far ∙ ap (over add found) none ∙ over_end add found

-- out of memory, or the first fault
pub over_stops_or : {A P E : Type 0} (no_memory : E) (add : A → P → Result A E) (items rest : List P) (item : P)
    (found : A) (fault : E) (due : Result A E)
    → items ≡ item ∷ rest → (fault ≡ no_memory) ⊎ (add found item ≡ Err fault) → over add found items ≡ due
    → (fault ≡ no_memory) ⊎ (due ≡ Err fault)
over_stops_or no_memory add items rest item found fault due next (inl none) so_far = inl none
over_stops_or no_memory add items rest item found fault due next (inr here) so_far =
    inr (over_stops add items rest item found fault due next here so_far)

-- ---- the lines of a text

abbrev tag : Result Gathered TraceFault → ℕ
tag (Ok g) = suc g.count
tag (Err e) = 0

-- a line that was read is counted
counted : (g next : Gathered) (is_nothing : Bool) (line : Result Line LineFault)
    → (if is_nothing then Ok (passed g) else with_read g line) ≡ Ok next → next.count ≡ g.count + 1
counted g next true line h = let e : suc (g.count + 1) ≡ suc next.count = ap tag h in omega (arith, e)
counted g next false (Ok line) h = let e : suc (g.count + 1) ≡ suc next.count = ap tag h in omega (arith, e)
counted g next false (Err fault) h = let e : 0 ≡ suc next.count = ap tag h in absurd (omega (arith, e))

pub line_counted : (g next : Gathered) (text : List ℕ) → add_line g text ≡ Ok next → next.count ≡ g.count + 1
line_counted g next text h = counted g next (is_passed_over text) (line_of g.place text) h

no_length : (n : ℕ) → true ≡ (n == 0) → n ≡ 0
no_length n h = grind (arith, nat_tests, h)

pub no_lines : (text : List ℕ) → true ≡ (length text == 0) → lines_of text ≡ []
no_lines [] h = refl
no_lines (b ∷ bs) h = let e = no_length (length (b ∷ bs)) h in absurd (omega (arith, e))
