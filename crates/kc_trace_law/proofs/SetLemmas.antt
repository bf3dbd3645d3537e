-- The assignments of each kind of line. The claim: their names are ones that the line may set, and none stands twice.
-- The names don't depend on the values, so they compute; that a register's name is read as the register is looked up
-- for the sixteen one by one (`each_register`).
use Rattle.std.proofs.Common.{◌≡◌, ◌∙◌, ap, refl, ℕ, zero, suc, ◌+◌, ◌^◌, ◌<◌, ◌≤◌}
use Rattle.std.proofs.Common.{Bool, true, false, cond, List, [], ◌∷◌, ◌++◌, map, length, Option, Some, None, arith}
use Rattle.std.proofs.lemmas.List.{map-append}
use Rattle.std.proofs.lemmas.List.Elements.{All-head, All-tail}
use Rattle.std.specs.List.{All, list_all}
use Rattle.std.specs.Option.{IfSome, option_and_then}
use Rattle.kc_events.specs.declared.turn.UserSet.{UserSet}
use Rattle.kc_events.specs.declared.turn.BodySet.{BodySet}
use Rattle.kc_events.specs.declared.turn.LeaveSet.{LeaveSet}
use Rattle.kc_events.specs.declared.turn.Edit.{Edit}
use Rattle.kc_trace.specs.declared.assignment.Assignment.{Assignment}
use Rattle.kc_trace.specs.declared.assignment.Assignment.TheVariants.{SetRegister, SetRip, SetFlags, SetCs, SetGs, SetDueRip, SetDueFlags, SetDueRsp}
use Rattle.kc_trace.specs.Assignments.{named, is_given_back, assigned}
use Rattle.kc_trace.specs.Form.{start_line, body_line, leave_line}
use Rattle.kc_trace_text.specs.Lines.{registers, scratch_registers, edited, edits, user_assignments, body_assignments, leave_assignments}
use Rattle.kc_trace_text.specs.Text.{register_name}
use Rattle.kc_trace_law.proofs.Types.{Setter, by_user, by_body, by_leave}
use Rattle.kc_trace_law.proofs.NumberLemmas.{is_dark, lt_test}
use Rattle.kc_trace_law.proofs.WordLemmas.{is_named}
use Rattle.kc_trace_law.proofs.AssignmentLemmas.{name_of, IsReadable, AreReadable, are_named}

-- ---- each of some numbers from 0 on

abbrev EachOf : ℕ → (ℕ → Type 0) → Type 0
EachOf zero P = Unit {0}
EachOf (suc n) P = P zero × EachOf n (λ k. P (suc k))

each_at : (n : ℕ) (P : ℕ → Type 0) → EachOf n P → (k : ℕ) → k < n → P k
each_at zero P each k less = absurd (omega (arith, less))
each_at (suc n) P each zero less = each.0
each_at (suc n) P each (suc k) less = each_at n (λ j. P (suc j)) each.1 k (omega (arith, less))

-- ---- a register

record IsRegister (r : ℕ) : Type 0 where
  dark : list_all is_dark (register_name r) ≡ true
  plain : list_all is_named (register_name r) ≡ true
  assigns : (n : ℕ) → option_and_then (λ name. assigned name n) (named (register_name r)) ≡ Some (SetRegister r n)

each_register : EachOf 16 IsRegister
each_register = (
  record { dark = refl; plain = refl; assigns = λ n. refl },
  (
    record { dark = refl; plain = refl; assigns = λ n. refl },
    (
      record { dark = refl; plain = refl; assigns = λ n. refl },
      (
        record { dark = refl; plain = refl; assigns = λ n. refl },
        (
          record { dark = refl; plain = refl; assigns = λ n. refl },
          (
            record { dark = refl; plain = refl; assigns = λ n. refl },
            (
              record { dark = refl; plain = refl; assigns = λ n. refl },
              (
                record { dark = refl; plain = refl; assigns = λ n. refl },
                (
                  record { dark = refl; plain = refl; assigns = λ n. refl },
                  (
                    record { dark = refl; plain = refl; assigns = λ n. refl },
                    (
                      record { dark = refl; plain = refl; assigns = λ n. refl },
                      (
                        record { dark = refl; plain = refl; assigns = λ n. refl },
                        (
                          record { dark = refl; plain = refl; assigns = λ n. refl },
                          (
                            record { dark = refl; plain = refl; assigns = λ n. refl },
                            (
                              record { dark = refl; plain = refl; assigns = λ n. refl },
                              (
                                record { dark = refl; plain = refl; assigns = λ n. refl },
                                tt,
                              ),
                            ),
                          ),
                        ),
                      ),
                    ),
                  ),
                ),
              ),
            ),
          ),
        ),
      ),
    ),
  ),
)

register_readable : (r n : ℕ) → r < 16 → n < 2 ^ 64 → IsReadable (SetRegister r n)
register_readable r n less word =
    let is = each_at 16 IsRegister each_register r less in
    record { dark = is.dark; plain = is.plain; word = word; assigns = is.assigns n }

-- ---- registers

abbrev Words : List ℕ → Type 0
Words regs = All (λ n. n < 2 ^ 64) regs

registers_readable : (k : ℕ) (regs : List ℕ) → k + length regs ≤ 16 → Words regs → AreReadable (registers k regs)
registers_readable k [] few words = tt
registers_readable k (r ∷ rs) few words = (
  register_readable k r (omega (arith, few)) (All-head (λ n. n < 2 ^ 64) r rs words),
  registers_readable (suc k) rs (omega (arith, few)) (All-tail (λ n. n < 2 ^ 64) r rs words),
)

chosen_readable : (b : Bool) (a : Assignment) (more : List Assignment) → IsReadable a → AreReadable more
    → AreReadable (cond b more (a ∷ more))
chosen_readable true a more one each = each
chosen_readable false a more one each = (one, each)

scratch_readable : (k : ℕ) (regs : List ℕ) → k + length regs ≤ 16 → Words regs
    → AreReadable (scratch_registers k regs)
scratch_readable k [] few words = tt
scratch_readable k (r ∷ rs) few words =
    chosen_readable (is_given_back k) (SetRegister k r) (scratch_registers (suc k) rs)
    (register_readable k r (omega (arith, few)) (All-head (λ n. n < 2 ^ 64) r rs words))
    (scratch_readable (suc k) rs (omega (arith, few)) (All-tail (λ n. n < 2 ^ 64) r rs words))

joined_readable : (xs ys : List Assignment) → AreReadable xs → AreReadable ys → AreReadable (xs ++ ys)
joined_readable [] ys these those = those
joined_readable (x ∷ xs) ys these those = (these.0, joined_readable xs ys these.1 those)

abbrev names_from : ℕ → ℕ → List (List ℕ)
names_from k zero = []
names_from k (suc n) = register_name k ∷ names_from (suc k) n

abbrev scratch_names : ℕ → ℕ → List (List ℕ)
scratch_names k zero = []
scratch_names k (suc n) = cond (is_given_back k) (scratch_names (suc k) n) (register_name k ∷ scratch_names (suc k) n)

registers_names : (k : ℕ) (regs : List ℕ) → map name_of (registers k regs) ≡ names_from k (length regs)
registers_names k [] = refl
registers_names k (r ∷ rs) = ap (λ ns. register_name k ∷ ns) (registers_names (suc k) rs)

chosen_names : (b : Bool) (a : Assignment) (more : List Assignment)
    → map name_of (cond b more (a ∷ more)) ≡ cond b (map name_of more) (name_of a ∷ map name_of more)
chosen_names true a more = refl
chosen_names false a more = refl

scratch_registers_names : (k : ℕ) (regs : List ℕ)
    → map name_of (scratch_registers k regs) ≡ scratch_names k (length regs)
scratch_registers_names k [] = refl
scratch_registers_names k (r ∷ rs) =
    chosen_names (is_given_back k) (SetRegister k r) (scratch_registers (suc k) rs)
    ∙ ap (λ ns. cond (is_given_back k) ns (register_name k ∷ ns)) (scratch_registers_names (suc k) rs)

-- sixteen of them, and other assignments after them
named_after : (setter : Setter) (regs : List ℕ) (rest : List Assignment) → length regs ≡ 16
    → are_named setter (names_from 0 16 ++ map name_of rest) ≡ true
    → are_named setter (map name_of (registers 0 regs ++ rest)) ≡ true
named_after setter regs rest sixteen names =
    ap (are_named setter) (map-append name_of (registers 0 regs) rest)
    ∙ ap (λ ns. are_named setter (ns ++ map name_of rest)) (registers_names 0 regs)
    ∙ ap (λ n. are_named setter (names_from 0 n ++ map name_of rest)) sixteen
    ∙ names

-- ---- user code

module _ (u : UserSet) (sixteen : length u.regs ≡ 16) where
  pub user_readable : Words u.regs → u.rip < 2 ^ 64 → u.flags < 2 ^ 64 → u.cs < 2 ^ 16 → u.gs < 2 ^ 64
      → AreReadable (user_assignments u)
  user_readable regs rip flags cs gs =
      let small = lt_test u.cs 65536 (omega (arith, cs)) in
      joined_readable (registers 0 u.regs) (SetRip u.rip ∷ SetFlags u.flags ∷ SetCs u.cs ∷ SetGs u.gs ∷ [])
      (registers_readable 0 u.regs (omega (arith, sixteen)) regs) (
        record { dark = refl; plain = refl; word = rip; assigns = refl },
        (
          record { dark = refl; plain = refl; word = flags; assigns = refl },
          (
            record {
              dark = refl;
              plain = refl;
              word = omega (arith, cs);
              assigns = rw small refl;
            },
            (record { dark = refl; plain = refl; word = gs; assigns = refl }, tt),
          ),
        ),
      )

  pub user_named : are_named by_user (map name_of (user_assignments u)) ≡ true
  unfolding start_line
  user_named =
      named_after by_user u.regs (SetRip u.rip ∷ SetFlags u.flags ∷ SetCs u.cs ∷ SetGs u.gs ∷ []) sixteen refl

-- ---- a handler's step

edited_readable : (assign : ℕ → Assignment) (edit : Option ℕ) → ((n : ℕ) → n < 2 ^ 64 → IsReadable (assign n))
    → IfSome edit (λ n. n < 2 ^ 64) → AreReadable (edited assign edit)
edited_readable assign None one word = tt
edited_readable assign (Some n) one word = (one n word, tt)

due_rip_readable : (n : ℕ) → n < 2 ^ 64 → IsReadable (SetDueRip n)
due_rip_readable n h =
    record { dark = refl; plain = refl; word = h; assigns = refl }

due_flags_readable : (n : ℕ) → n < 2 ^ 64 → IsReadable (SetDueFlags n)
due_flags_readable n h =
    record { dark = refl; plain = refl; word = h; assigns = refl }

due_rsp_readable : (n : ℕ) → n < 2 ^ 64 → IsReadable (SetDueRsp n)
due_rsp_readable n h =
    record { dark = refl; plain = refl; word = h; assigns = refl }

pub edits_readable : (e : Edit) → IfSome e.rip (λ n. n < 2 ^ 64) → IfSome e.flags (λ n. n < 2 ^ 64)
    → IfSome e.rsp (λ n. n < 2 ^ 64) → AreReadable (edits e)
edits_readable e rip flags rsp =
    joined_readable (edited SetDueRip e.rip ++ edited SetDueFlags e.flags) (edited SetDueRsp e.rsp)
    (joined_readable (edited SetDueRip e.rip) (edited SetDueFlags e.flags)
    (edited_readable SetDueRip e.rip due_rip_readable rip)
    (edited_readable SetDueFlags e.flags due_flags_readable flags))
    (edited_readable SetDueRsp e.rsp due_rsp_readable rsp)

-- whichever edits there are
edits_named : (a b : ℕ) (rip flags rsp : Option ℕ)
    → are_named by_body (names_from 0 16 ++ map name_of (SetRip a ∷ SetFlags b
    ∷ (edited SetDueRip rip ++ edited SetDueFlags flags ++ edited SetDueRsp rsp))) ≡ true
unfolding body_line
edits_named a b None None None = refl
edits_named a b None None (Some s) = refl
edits_named a b None (Some f) None = refl
edits_named a b None (Some f) (Some s) = refl
edits_named a b (Some r) None None = refl
edits_named a b (Some r) None (Some s) = refl
edits_named a b (Some r) (Some f) None = refl
edits_named a b (Some r) (Some f) (Some s) = refl

module _ (b : BodySet) (sixteen : length b.regs ≡ 16) where
  pub body_readable : Words b.regs → b.rip < 2 ^ 64 → b.flags < 2 ^ 64 → AreReadable (edits b.edit)
      → AreReadable (body_assignments b)
  body_readable regs rip flags due =
      joined_readable (registers 0 b.regs) (SetRip b.rip ∷ SetFlags b.flags ∷ edits b.edit)
      (registers_readable 0 b.regs (omega (arith, sixteen)) regs) (
        record { dark = refl; plain = refl; word = rip; assigns = refl },
        (record { dark = refl; plain = refl; word = flags; assigns = refl }, due),
      )

  pub body_named : are_named by_body (map name_of (body_assignments b)) ≡ true
  body_named =
      named_after by_body b.regs (SetRip b.rip ∷ SetFlags b.flags ∷ edits b.edit) sixteen
      (edits_named b.rip b.flags b.edit.rip b.edit.flags b.edit.rsp)

-- ---- a handler's return

module _ (l : LeaveSet) (sixteen : length l.regs ≡ 16) where
  pub leave_readable : Words l.regs → l.flags < 2 ^ 64 → AreReadable (leave_assignments l)
  leave_readable regs flags =
      joined_readable (scratch_registers 0 l.regs) (SetFlags l.flags ∷ [])
      (scratch_readable 0 l.regs (omega (arith, sixteen)) regs)
      (record { dark = refl; plain = refl; word = flags; assigns = refl }, tt)

  pub leave_named : are_named by_leave (map name_of (leave_assignments l)) ≡ true
  unfolding leave_line
  leave_named =
      ap (are_named by_leave) (map-append name_of (scratch_registers 0 l.regs) (SetFlags l.flags ∷ []))
      ∙ ap (λ ns. are_named by_leave (ns ++ map name_of (SetFlags l.flags ∷ []))) (scratch_registers_names 0 l.regs)
      ∙ ap (λ n. are_named by_leave (scratch_names 0 n ++ map name_of (SetFlags l.flags ∷ []))) sixteen
