-- What one turn of a loop adds. Bytes, registers and scratch registers are written one by one: the text of the first
-- i + 1 of them is that of the first i and one more, by induction on the list that the one is put after. The writes
-- that one line takes: so far the lines are those of a line of the first n bytes that goes on with the rest
-- (`Runs`); the next write goes on with it, or begins the next line.
use Rattle.std.proofs.Common.{◌≡◌, ◌∙◌, sym, ap, refl, ℕ, zero, suc, ◌+◌, ◌<◌, ◌≤◌, lit≤}
use Rattle.std.proofs.Common.{Bool, true, false, cond, ◌&&◌, List, [], ◌∷◌, ◌++◌, append_assoc, append-nil, length, take, drop, get_or, slice_index, ◌/◌, ◌%◌, arith, nat_eq, nat_lt}
use Rattle.std.proofs.lemmas.Bool.Decides.{nat_tests}
use Rattle.std.proofs.lemmas.Grind.{common_steps}
use Rattle.std.proofs.lemmas.List.{take_more, drop_more, drop_all, map-append}
use Rattle.hex.specs.Hex.{encode_lower, encode_with, lower_digits}
use Rattle.kc_trace.specs.declared.assignment.Assignment.{Assignment}
use Rattle.kc_trace.specs.declared.assignment.Assignment.TheVariants.{SetRegister}
use Rattle.kc_trace.specs.declared.line.Line.TheVariants.{Mem}
use Rattle.kc_trace.specs.Assignments.{is_given_back}
use Rattle.kc_trace_text.specs.Lines.{registers, scratch_registers, mem_from, mem_lines}
use Rattle.kc_trace_text.specs.Text.{register_name, assignment_text, text_of_assignment, text_of_assignments}
use Rattle.kc_trace_text.specs.BytesSteps.{bytes_of, goes_on, StartsLine}

-- ---- lists that grow at their end

-- two pieces that are added one after the other
pub then_added : (a b c xs ys zs : List ℕ) → b ≡ a ++ xs → c ≡ b ++ ys → zs ≡ xs ++ ys → c ≡ a ++ zs
then_added a b c xs ys zs first second whole =
    second ∙ ap (λ t. t ++ ys) first ∙ append_assoc a xs ys ∙ ap (λ t. a ++ t) (sym whole)

-- ---- bytes

pub no_digits : encode_lower [] ≡ []
unfolding encode_with
no_digits = refl

digits_push : (bs : List ℕ) (b : ℕ) → encode_lower (bs ++ b ∷ []) ≡ encode_lower bs ++ encode_lower (b ∷ [])
unfolding encode_with
digits_push [] b = refl
digits_push (c ∷ cs) b =
    ap (λ t. slice_index lower_digits (c / 16) ∷ (slice_index lower_digits (c % 16) ∷ t)) (digits_push cs b)

-- the text of one write more
pub written_more : (ws : List (ℕ × ℕ)) (i : ℕ) (d : ℕ × ℕ) → i < length ws
    → encode_lower (bytes_of (take (i + 1) ws))
    ≡ encode_lower (bytes_of (take i ws)) ++ encode_lower ((get_or ws i d).1 ∷ [])
written_more ws i d within =
    ap (λ (xs : List (ℕ × ℕ)). encode_lower (bytes_of xs)) (take_more ws i d within)
    ∙ ap encode_lower (map-append (λ (w : ℕ × ℕ). w.1) (take i ws) (get_or ws i d ∷ []))
    ∙ digits_push (bytes_of (take i ws)) (get_or ws i d).1

-- ---- registers

-- the text of some assignments, and then of others
pub text_joined : (set more : List Assignment)
    → text_of_assignments (set ++ more) ≡ text_of_assignments set ++ text_of_assignments more
text_joined [] more = refl
text_joined (a ∷ set) more =
    ap (λ t. text_of_assignment a ++ t) (text_joined set more)
    ∙ sym (append_assoc (text_of_assignment a) (text_of_assignments set) (text_of_assignments more))

-- three and four pieces that are added one after the other
pub three_added : (a b c d x y z whole : List ℕ) → b ≡ a ++ x → c ≡ b ++ y → d ≡ c ++ z → whole ≡ x ++ (y ++ z)
    → d ≡ a ++ whole
three_added a b c d x y z whole one two three is =
    then_added a b d x (y ++ z) whole one (then_added b c d y z (y ++ z) two three refl) is

pub four_added : (a b c d e w x y z whole : List ℕ) → b ≡ a ++ w → c ≡ b ++ x → d ≡ c ++ y → e ≡ d ++ z
    → whole ≡ w ++ (x ++ (y ++ z)) → e ≡ a ++ whole
four_added a b c d e w x y z whole one two three four is =
    then_added a b e w (x ++ (y ++ z)) whole one
    (three_added b c d e x y z (x ++ (y ++ z)) two three four refl) is

pub five_added : (a b c d e f v w x y z whole : List ℕ) → b ≡ a ++ v → c ≡ b ++ w → d ≡ c ++ x → e ≡ d ++ y
    → f ≡ e ++ z → whole ≡ v ++ (w ++ (x ++ (y ++ z))) → f ≡ a ++ whole
five_added a b c d e f v w x y z whole one two three four five is =
    then_added a b f v (w ++ (x ++ (y ++ z))) whole one
    (four_added b c d e f w x y z (w ++ (x ++ (y ++ z))) two three four five refl) is

pub text_alone : (a : Assignment) → text_of_assignments (a ∷ []) ≡ text_of_assignment a
text_alone a = append-nil (text_of_assignment a)

assignments_push : (set : List Assignment) (a : Assignment)
    → text_of_assignments (set ++ a ∷ []) ≡ text_of_assignments set ++ text_of_assignment a
assignments_push [] a = append-nil (text_of_assignment a)
assignments_push (x ∷ xs) a =
    ap (λ t. text_of_assignment x ++ t) (assignments_push xs a)
    ∙ sym (append_assoc (text_of_assignment x) (text_of_assignments xs) (text_of_assignment a))

registers_push : (k : ℕ) (rs : List ℕ) (r : ℕ)
    → registers k (rs ++ r ∷ []) ≡ registers k rs ++ SetRegister (k + length rs) r ∷ []
registers_push k [] r =
    let here : k ≡ k + 0 = omega arith in ap (λ (j : ℕ). SetRegister j r ∷ []) here
registers_push k (c ∷ cs) r =
    let here : suc k + length cs ≡ k + suc (length cs) = omega arith in
    ap (λ set. SetRegister k c ∷ set) (registers_push (suc k) cs r)
    ∙ ap (λ (j : ℕ). SetRegister k c ∷ (registers (suc k) cs ++ SetRegister j r ∷ [])) here

chosen_push : (b : Bool) (a : Assignment) (xs ys zs : List Assignment) → xs ≡ ys ++ zs
    → cond b xs (a ∷ xs) ≡ cond b ys (a ∷ ys) ++ zs
chosen_push true a xs ys zs h = h
chosen_push false a xs ys zs h = ap (λ set. a ∷ set) h

-- a register, where it isn't given back
abbrev scratch : ℕ → ℕ → List Assignment
scratch k r = cond (is_given_back k) [] (SetRegister k r ∷ [])

scratch_push : (k : ℕ) (rs : List ℕ) (r : ℕ)
    → scratch_registers k (rs ++ r ∷ []) ≡ scratch_registers k rs ++ scratch (k + length rs) r
scratch_push k [] r = let here : k ≡ k + 0 = omega arith in ap (λ (j : ℕ). scratch j r) here
scratch_push k (c ∷ cs) r =
    let here : suc k + length cs ≡ k + suc (length cs) = omega arith in
    chosen_push (is_given_back k) (SetRegister k c) (scratch_registers (suc k) (cs ++ r ∷ []))
    (scratch_registers (suc k) cs) (scratch (k + suc (length cs)) r)
    (scratch_push (suc k) cs r ∙ ap (λ (j : ℕ). scratch_registers (suc k) cs ++ scratch j r) here)

module _ (rs : List ℕ) (i d : ℕ) (within : i < length rs) where
  last_number : 0 + length (take i rs) ≡ i
  last_number = grind (arith, common_steps, within)

  -- the text of one register more
  pub registers_more : text_of_assignments (registers 0 (take (i + 1) rs))
      ≡ text_of_assignments (registers 0 (take i rs)) ++ assignment_text (register_name i) (get_or rs i d)
  registers_more =
      ap (λ xs. text_of_assignments (registers 0 xs)) (take_more rs i d within)
      ∙ ap text_of_assignments (registers_push 0 (take i rs) (get_or rs i d))
      ∙ ap (λ (j : ℕ). text_of_assignments (registers 0 (take i rs) ++ SetRegister j (get_or rs i d) ∷ [])) last_number
      ∙ assignments_push (registers 0 (take i rs)) (SetRegister i (get_or rs i d))

  scratch_more : text_of_assignments (scratch_registers 0 (take (i + 1) rs))
      ≡ text_of_assignments (scratch_registers 0 (take i rs) ++ scratch i (get_or rs i d))
  scratch_more =
      ap (λ xs. text_of_assignments (scratch_registers 0 xs)) (take_more rs i d within)
      ∙ ap text_of_assignments (scratch_push 0 (take i rs) (get_or rs i d))
      ∙ ap (λ (j : ℕ). text_of_assignments (scratch_registers 0 (take i rs) ++ scratch j (get_or rs i d))) last_number

  pub scratch_kept : is_given_back i ≡ true → text_of_assignments (scratch_registers 0 (take (i + 1) rs))
      ≡ text_of_assignments (scratch_registers 0 (take i rs))
  scratch_kept h =
      scratch_more
      ∙ ap (λ b. text_of_assignments (scratch_registers 0 (take i rs)
      ++ cond b [] (SetRegister i (get_or rs i d) ∷ []))) h
      ∙ ap text_of_assignments (append-nil (scratch_registers 0 (take i rs)))

  pub scratch_added : is_given_back i ≡ false → text_of_assignments (scratch_registers 0 (take (i + 1) rs))
      ≡ text_of_assignments (scratch_registers 0 (take i rs)) ++ assignment_text (register_name i) (get_or rs i d)
  scratch_added h =
      scratch_more
      ∙ ap (λ b. text_of_assignments (scratch_registers 0 (take i rs)
      ++ cond b [] (SetRegister i (get_or rs i d) ∷ []))) h
      ∙ assignments_push (scratch_registers 0 (take i rs)) (SetRegister i (get_or rs i d))

-- ---- the writes of one line

pub record RunsOn (w : ℕ × ℕ) (ws : List (ℕ × ℕ)) (n : ℕ) : Type 0 where
  pub few : n ≤ 4096
  pub lines : mem_lines (w ∷ ws) ≡ mem_from w.0 (bytes_of (take n (w ∷ ws))) (drop n (w ∷ ws))

-- the first n writes are at rising addresses
abbrev pub Runs : List (ℕ × ℕ) → ℕ → Type 0
Runs [] n = Unit {0}
Runs (w ∷ ws) n = RunsOn w ws n

pub begins : (ws : List (ℕ × ℕ)) → Runs ws 0
begins [] = tt
begins (w ∷ ws) =
    let same : nat_eq w.0 (w.0 + 0) ≡ true = grind (arith, nat_tests) in
    record { few = lit≤ tt; lines = rw same refl }

choose : (a n : ℕ) (bs : List ℕ) (x : ℕ × ℕ) (xs : List (ℕ × ℕ)) (b : Bool) → length bs ≡ n → goes_on a n x.0 ≡ b
    → mem_from a bs (x ∷ xs) ≡ cond b (mem_from a (bs ++ x.1 ∷ []) xs) (Mem a bs ∷ mem_lines (x ∷ xs))
choose a n bs x xs b long is =
    let test : (nat_eq x.0 (a + length bs) && nat_lt (length bs) 4096) ≡ b = rw long is in
    ap (λ t. cond t (mem_from a (bs ++ x.1 ∷ []) xs) (Mem a bs ∷ mem_from x.0 (x.1 ∷ []) xs)) test

module _ (w : ℕ × ℕ) (ws : List (ℕ × ℕ)) (n : ℕ) (d : ℕ × ℕ) (within : n < length (w ∷ ws))
    (runs : RunsOn w ws n) where
  taken : length (bytes_of (take n (w ∷ ws))) ≡ n
  taken = grind (arith, common_steps, within)

  chosen : (b : Bool) → goes_on w.0 n (get_or (w ∷ ws) n d).0 ≡ b
      → mem_lines (w ∷ ws) ≡ cond b
      (mem_from w.0 (bytes_of (take n (w ∷ ws)) ++ (get_or (w ∷ ws) n d).1 ∷ []) (drop (n + 1) (w ∷ ws)))
      (Mem w.0 (bytes_of (take n (w ∷ ws))) ∷ mem_lines (drop n (w ∷ ws)))
  chosen b is =
      runs.lines
      ∙ ap (λ (xs : List (ℕ × ℕ)). mem_from w.0 (bytes_of (take n (w ∷ ws))) xs) (drop_more (w ∷ ws) n d within)
      ∙ choose w.0 n (bytes_of (take n (w ∷ ws))) (get_or (w ∷ ws) n d) (drop (n + 1) (w ∷ ws)) b taken is
      ∙ ap (λ (xs : List (ℕ × ℕ)). cond b
      (mem_from w.0 (bytes_of (take n (w ∷ ws)) ++ (get_or (w ∷ ws) n d).1 ∷ []) (drop (n + 1) (w ∷ ws)))
      (Mem w.0 (bytes_of (take n (w ∷ ws))) ∷ mem_lines xs)) (sym (drop_more (w ∷ ws) n d within))

  more : goes_on w.0 n (get_or (w ∷ ws) n d).0 ≡ true → RunsOn w ws (n + 1)
  more is = record {
    few = grind (arith, nat_tests, is);
    lines =
        chosen true is
        ∙ ap (λ (bs : List ℕ). mem_from w.0 bs (drop (n + 1) (w ∷ ws)))
        (sym (map-append (λ (x : ℕ × ℕ). x.1) (take n (w ∷ ws)) (get_or (w ∷ ws) n d ∷ [])))
        ∙ ap (λ (xs : List (ℕ × ℕ)). mem_from w.0 (bytes_of xs) (drop (n + 1) (w ∷ ws)))
        (sym (take_more (w ∷ ws) n d within));
  }

-- the first write goes on with no bytes
not_first : (w : ℕ × ℕ) (ws : List (ℕ × ℕ)) (n : ℕ) (d : ℕ × ℕ) → goes_on w.0 n (get_or (w ∷ ws) n d).0 ≡ false → 0 < n
not_first w ws zero d is = absurd (grind (arith, nat_tests, is))
not_first w ws (suc n) d is = omega arith

-- the next write goes on with the line
pub goes_further : (ws : List (ℕ × ℕ)) (n : ℕ) (d : ℕ × ℕ) → n < length ws → Runs ws n
    → goes_on (get_or ws 0 d).0 n (get_or ws n d).0 ≡ true → Runs ws (n + 1)
goes_further [] n d within runs is = tt
goes_further (w ∷ ws) n d within runs is = more w ws n d within runs is

-- the next write begins another line
pub ends_before : (ws : List (ℕ × ℕ)) (n : ℕ) (d : ℕ × ℕ) → n < length ws → Runs ws n
    → goes_on (get_or ws 0 d).0 n (get_or ws n d).0 ≡ false → StartsLine ws n
ends_before [] n d within runs is = absurd (omega (arith, within))
ends_before (w ∷ ws) n d within runs is = record {
  some = not_first w ws n d is;
  few = runs.few;
  within = omega (arith, within);
  line = chosen w ws n d within runs false is;
}

-- there is no next write
pub ends_there : (ws : List (ℕ × ℕ)) → Runs ws (length ws) → StartsLine ws (length ws)
ends_there [] runs = refl
ends_there (w ∷ ws) runs =
    let all : drop (length (w ∷ ws)) (w ∷ ws) ≡ [] = drop_all (length (w ∷ ws)) (w ∷ ws) (omega arith) in
    record {
      some = omega arith;
      few = runs.few;
      within = omega arith;
      line =
          runs.lines
          ∙ ap (λ (xs : List (ℕ × ℕ)). mem_from w.0 (bytes_of (take (length (w ∷ ws)) (w ∷ ws))) xs) all
          ∙ ap (λ (xs : List (ℕ × ℕ)). Mem w.0 (bytes_of (take (length (w ∷ ws)) (w ∷ ws))) ∷ mem_lines xs) (sym all);
    }
