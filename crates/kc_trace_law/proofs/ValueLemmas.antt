-- What the assignments of a line put in place. The claim: the assignments of what user code or a handler leaves put
-- just that in place, whatever was there before. A list of sixteen registers is sixteen numbers (`each_of`), and with
-- these written out all assignments compute; edits go by the cases of which there are. Then the bytes: the bytes of a
-- line are placed at rising addresses, so a write that goes on with them is placed after them (`placed_push`).
use Rattle.std.proofs.Common.{◌≡◌, ◌∙◌, sym, ap, refl, ℕ, zero, suc, ◌+◌, ◌^◌, ◌<◌}
use Rattle.std.proofs.Common.{Bool, true, false, cond, ◌&&◌, List, [], ◌∷◌, ◌++◌, append_assoc, length, Option, Some, None, arith, nat_eq, nat_lt}
use Rattle.std.proofs.lemmas.Bool.Decides.{nat_tests}
use Rattle.std.proofs.lemmas.List.Elements.{All-head, All-tail}
use Rattle.std.proofs.lemmas.List.Sums.{fold-append}
use Rattle.std.proofs.Math.Nat.{mod-eq_of_lt}
use Rattle.std.specs.List.{All, fold}
use Rattle.kc_mem.specs.Memory.{next}
use Rattle.kc_regions.specs.Description.{Description}
use Rattle.kc_cpu.specs.declared.cpu.Cpu.{Cpu}
use Rattle.kc_events.specs.declared.turn.UserSet.{UserSet}
use Rattle.kc_events.specs.declared.turn.BodySet.{BodySet}
use Rattle.kc_events.specs.declared.turn.LeaveSet.{LeaveSet}
use Rattle.kc_events.specs.declared.turn.Edit.{Edit}
use Rattle.kc_trace.specs.declared.assignment.Assignment.TheVariants.{SetRip, SetFlags}
use Rattle.kc_trace.specs.declared.line.Line.{Line}
use Rattle.kc_trace.specs.declared.line.Line.TheVariants.{Mem}
use Rattle.kc_trace_text.specs.Lines.{registers, user_assignments, body_assignments, leave_assignments, edits, mem_from, mem_lines}
use Rattle.kc_replay.specs.Values.{placed, writes_of, user_set, assign_body, no_edit, same_body, body_set, assign_leave, same_leave, scratch, leave_set}
use Rattle.kc_replay.specs.Turns.{turns_of}

-- ---- sixteen registers

abbrev Each : ℕ → (List ℕ → Type 0) → Type 0
Each zero P = P []
Each (suc n) P = (r : ℕ) → Each n (λ rs. P (r ∷ rs))

each_of : (n : ℕ) (P : List ℕ → Type 0) → Each n P → (rs : List ℕ) → length rs ≡ n → P rs
each_of zero P all [] is = all
each_of zero P all (r ∷ rs) is = absurd (omega (arith, is))
each_of (suc n) P all [] is = absurd (omega (arith, is))
each_of (suc n) P all (r ∷ rs) is = each_of n (λ more. P (r ∷ more)) (all r) rs (omega (arith, is))

-- ---- user code

abbrev UserSays : Description → List ℕ → Type 0
UserSays cfg regs =
    (rip flags cs gs : ℕ) (ws : List (ℕ × ℕ))
    → user_set cfg
    (user_assignments (record { regs = regs; rip = rip; flags = flags; cs = cs; gs = gs; writes = ws })) ws
    ≡ record { regs = regs; rip = rip; flags = flags; cs = cs; gs = gs; writes = ws }

pub user_says : (cfg : Description) (u : UserSet) → length u.regs ≡ 16
    → user_set cfg (user_assignments u) u.writes ≡ u
user_says cfg u sixteen =
    each_of 16 (UserSays cfg)
    (λ r0 r1 r2 r3 r4 r5 r6 r7 r8 r9 r10 r11 r12 r13 r14 r15 rip flags cs gs ws. refl) u.regs sixteen u.rip u.flags u.cs
    u.gs u.writes

-- ---- a handler's step

abbrev RegistersSay : List ℕ → List ℕ → Type 0
RegistersSay old regs =
    (rip flags : ℕ) (ws : List (ℕ × ℕ)) (e : Edit)
    → fold assign_body (record { regs = old; rip = rip; flags = flags; writes = ws; edit = e }) (registers 0 regs)
    ≡ record { regs = regs; rip = rip; flags = flags; writes = ws; edit = e }

registers_say : (old regs : List ℕ) → length old ≡ 16 → length regs ≡ 16 → RegistersSay old regs
registers_say old regs before after =
    each_of 16 (λ o. RegistersSay o regs)
    (λ o0 o1 o2 o3 o4 o5 o6 o7 o8 o9 o10 o11 o12 o13 o14 o15. each_of 16
    (λ rs. RegistersSay (o0 ∷ o1 ∷ o2 ∷ o3 ∷ o4 ∷ o5 ∷ o6 ∷ o7 ∷ o8 ∷ o9 ∷ o10 ∷ o11 ∷ o12 ∷ o13 ∷ o14 ∷ o15 ∷ []) rs)
    (λ r0 r1 r2 r3 r4 r5 r6 r7 r8 r9 r10 r11 r12 r13 r14 r15 rip flags ws e. refl) regs after) old before

edits_say : (regs : List ℕ) (rip flags : ℕ) (ws : List (ℕ × ℕ)) (due_rip due_flags due_rsp : Option ℕ)
    → fold assign_body (record { regs = regs; rip = rip; flags = flags; writes = ws; edit = no_edit })
    (edits (record { rip = due_rip; flags = due_flags; rsp = due_rsp }))
    ≡ record {
      regs = regs;
      rip = rip;
      flags = flags;
      writes = ws;
      edit = record { rip = due_rip; flags = due_flags; rsp = due_rsp };
    }
edits_say regs rip flags ws None None None = refl
edits_say regs rip flags ws None None (Some s) = refl
edits_say regs rip flags ws None (Some f) None = refl
edits_say regs rip flags ws None (Some f) (Some s) = refl
edits_say regs rip flags ws (Some r) None None = refl
edits_say regs rip flags ws (Some r) None (Some s) = refl
edits_say regs rip flags ws (Some r) (Some f) None = refl
edits_say regs rip flags ws (Some r) (Some f) (Some s) = refl

pub body_says : (cpu : Cpu) (b : BodySet) → length cpu.regs ≡ 16 → length b.regs ≡ 16
    → body_set cpu (body_assignments b) b.writes ≡ b
body_says cpu b before after =
    fold-append assign_body (same_body cpu b.writes) (registers 0 b.regs)
    (SetRip b.rip ∷ SetFlags b.flags ∷ edits b.edit)
    ∙ ap (λ (s : BodySet). fold assign_body s (SetRip b.rip ∷ SetFlags b.flags ∷ edits b.edit))
    (registers_say cpu.regs b.regs before after cpu.rip cpu.flags b.writes no_edit)
    ∙ edits_say b.regs b.rip b.flags b.writes b.edit.rip b.edit.flags b.edit.rsp

-- ---- a handler's return

abbrev LeaveSays : List ℕ → Type 0
LeaveSays regs =
    (old : List ℕ) (was flags : ℕ)
    → fold assign_leave (record { regs = scratch old; flags = was })
    (leave_assignments (record { regs = regs; flags = flags }))
    ≡ record { regs = scratch regs; flags = flags }

pub leave_says : (cfg : Description) (cpu : Cpu) (l : LeaveSet) → length l.regs ≡ 16 → scratch l.regs ≡ l.regs
    → leave_set cfg cpu (leave_assignments l) ≡ l
leave_says cfg cpu l sixteen given_back =
    each_of 16 LeaveSays (λ r0 r1 r2 r3 r4 r5 r6 r7 r8 r9 r10 r11 r12 r13 r14 r15 old was flags. refl) l.regs sixteen
    cpu.regs (same_leave cfg cpu).flags l.flags
    ∙ ap (λ (regs : List ℕ). record { regs = regs; flags = l.flags }) given_back

-- ---- bytes

abbrev pub AreWrites : List (ℕ × ℕ) → Type 0
AreWrites ws = All (λ w. (w.0 < 2 ^ 64) × (w.1 < 256)) ws

placed_push : (a : ℕ) (bs : List ℕ) (b : ℕ) → a + length bs < 2 ^ 64
    → placed a (bs ++ b ∷ []) ≡ placed a bs ++ (a + length bs, b) ∷ []
placed_push a [] b fits =
    let here : a ≡ a + 0 = omega arith in ap (λ (at : ℕ). (at, b) ∷ []) here
placed_push a (c ∷ cs) b fits =
    let above : next a ≡ a + 1 = mod-eq_of_lt (omega (arith, fits)) in
    let here : a + 1 + length cs ≡ a + suc (length cs) = omega arith in
    ap (λ (at : ℕ). (a, c) ∷ placed at (cs ++ b ∷ [])) above
    ∙ ap (λ (ws : List (ℕ × ℕ)). (a, c) ∷ ws) (placed_push (a + 1) cs b (omega (arith, fits)))
    ∙ ap (λ (at : ℕ). (a, c) ∷ (placed (a + 1) cs ++ (at, b) ∷ [])) here
    ∙ ap (λ (at : ℕ). (a, c) ∷ (placed at cs ++ (a + suc (length cs), b) ∷ [])) (sym above)

module _ (rest : List Line) (none : writes_of rest ≡ []) where
  bytes_case : (a : ℕ) (bs : List ℕ) (w : ℕ × ℕ) (ws : List (ℕ × ℕ)) (t : Bool) → w.0 < 2 ^ 64
      → (nat_eq w.0 (a + length bs) && nat_lt (length bs) 4096) ≡ t
      → writes_of (mem_from a (bs ++ w.1 ∷ []) ws ++ rest) ≡ placed a (bs ++ w.1 ∷ []) ++ ws
      → writes_of (mem_from w.0 (w.1 ∷ []) ws ++ rest) ≡ w ∷ ws
      → writes_of (cond t (mem_from a (bs ++ w.1 ∷ []) ws) (Mem a bs ∷ mem_from w.0 (w.1 ∷ []) ws) ++ rest)
      ≡ placed a bs ++ w ∷ ws
  bytes_case a bs w ws true word is more anew =
      let here : w.0 ≡ a + length bs = grind (arith, nat_tests, is) in
      more
      ∙ ap (λ (xs : List (ℕ × ℕ)). xs ++ ws) (placed_push a bs w.1 (omega (arith, word, here)))
      ∙ append_assoc (placed a bs) ((a + length bs, w.1) ∷ []) ws
      ∙ ap (λ (at : ℕ). placed a bs ++ (at, w.1) ∷ ws) (sym here)
  bytes_case a bs w ws false word is more anew = ap (λ (xs : List (ℕ × ℕ)). placed a bs ++ xs) anew

  bytes_say : (a : ℕ) (bs : List ℕ) (ws : List (ℕ × ℕ)) → AreWrites ws
      → writes_of (mem_from a bs ws ++ rest) ≡ placed a bs ++ ws
  bytes_say a bs [] writes = ap (λ (xs : List (ℕ × ℕ)). placed a bs ++ xs) none
  bytes_say a bs (w ∷ ws) writes =
      let one = All-head (λ x. (x.0 < 2 ^ 64) × (x.1 < 256)) w ws writes in
      let more = All-tail (λ x. (x.0 < 2 ^ 64) × (x.1 < 256)) w ws writes in
      bytes_case a bs w ws (nat_eq w.0 (a + length bs) && nat_lt (length bs) 4096) one.0 refl
      (bytes_say a (bs ++ w.1 ∷ []) ws more) (bytes_say w.0 (w.1 ∷ []) ws more)

  -- the lines of the writes write them
  pub writes_say : (ws : List (ℕ × ℕ)) → AreWrites ws → writes_of (mem_lines ws ++ rest) ≡ ws
  writes_say [] writes = none
  writes_say (w ∷ ws) writes =
      bytes_say w.0 (w.1 ∷ []) ws (All-tail (λ x. (x.0 < 2 ^ 64) × (x.1 < 256)) w ws writes)

-- and they are no turn
module _ (cfg : Description) (rest : List Line) where
  no_turn_case : (t : Bool) (these those : List Line) → turns_of cfg (these ++ rest) ≡ turns_of cfg rest
      → turns_of cfg (those ++ rest) ≡ turns_of cfg rest → turns_of cfg (cond t these those ++ rest) ≡ turns_of cfg rest
  no_turn_case true these those one other = one
  no_turn_case false these those one other = other

  no_turn_from : (a : ℕ) (bs : List ℕ) (ws : List (ℕ × ℕ))
      → turns_of cfg (mem_from a bs ws ++ rest) ≡ turns_of cfg rest
  no_turn_from a bs [] = refl
  no_turn_from a bs (w ∷ ws) =
      no_turn_case (nat_eq w.0 (a + length bs) && nat_lt (length bs) 4096) (mem_from a (bs ++ w.1 ∷ []) ws)
      (Mem a bs ∷ mem_from w.0 (w.1 ∷ []) ws) (no_turn_from a (bs ++ w.1 ∷ []) ws) (no_turn_from w.0 (w.1 ∷ []) ws)

  pub no_turn : (ws : List (ℕ × ℕ)) → turns_of cfg (mem_lines ws ++ rest) ≡ turns_of cfg rest
  no_turn [] = refl
  no_turn (w ∷ ws) = no_turn_from w.0 (w.1 ∷ []) ws
