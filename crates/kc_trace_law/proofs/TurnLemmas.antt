-- What the lines of a trace say. The claim: after n turns Go the lines of the turns that follow say n turns Go and
-- those, on each processor of sixteen registers. By induction on the turns: Go is one more of the run, and any other
-- turn is said by its own lines after the line of the run (`turn_said`). The lines of a turn are also read where a turn
-- may come (`turn_readable`), so both halves of the law meet here.
use Rattle.std.proofs.Common.{◌≡◌, ◌∙◌, sym, ap, refl, ℕ, zero, suc, ◌+◌, ◌-◌, ◌≤◌, List, [], ◌∷◌, ◌++◌, append_assoc, append-nil, map, length, replicate, arith}
use Rattle.std.proofs.lemmas.List.{map-append, replicate_more}
use Rattle.std.proofs.lemmas.List.Elements.{All-head, All-tail}
use Rattle.std.specs.List.{All}
use Rattle.kc_regions.specs.Description.{Description}
use Rattle.kc_cpu.specs.declared.cpu.Cpu.{Cpu}
use Rattle.kc_events.specs.declared.turn.UserSet.{UserSet}
use Rattle.kc_events.specs.declared.turn.BodySet.{BodySet}
use Rattle.kc_events.specs.declared.turn.LeaveSet.{LeaveSet}
use Rattle.kc_events.specs.declared.turn.Turn.{Turn}
use Rattle.kc_events.specs.declared.turn.Turn.TheVariants as turn
use Rattle.kc_events.specs.declared.turn.Trace.{Trace}
use Rattle.kc_trace.specs.declared.line.Line.{Line}
use Rattle.kc_trace.specs.declared.line.Line.TheVariants.{Start, User, Body}
use Rattle.kc_trace.specs.Form.{place_after}
use Rattle.kc_trace.specs.Script.{nothing}
use Rattle.kc_replay.specs.Values.{writes_of, user_set, body_set}
use Rattle.kc_replay.specs.Turns.{turns_of, first_set}
use Rattle.kc_trace_text.specs.Lines.{user_assignments, body_assignments, leave_assignments, mem_lines, go_lines, lines_of_turn, lines_after}
use Rattle.kc_trace_text.specs.Text.{text_of_trace}
use Rattle.kc_trace_law.specs.Reads.{IsUser, IsBody, IsLeave, IsWritable, IsPrintable, Says}
use Rattle.kc_trace_law.proofs.SetLemmas.{user_readable, user_named, edits_readable, body_readable, body_named, leave_readable, leave_named}
use Rattle.kc_trace_law.proofs.Types.{Place}
use Rattle.kc_trace_law.proofs.LineLemmas.{start_read, user_read, body_read, leave_read, irq_read, nmi_read, debug_read, check_read, syscall_read, fault_read, trap_read}
use Rattle.kc_trace_law.proofs.PlaceLemmas.{AreRead, after, joined_read, lines_read, MayCome, bytes_placed, TurnRead, EachTurn, turns_read}
use Rattle.kc_trace_law.proofs.ValueLemmas.{user_says, body_says, leave_says, writes_say, no_turn}

-- ---- read

came : (place : Place) (n : ℕ) → MayCome place (suc n) → n ≤ place.left - 1
came place n may = let left = may.left in omega (arith, left)

module _ (u : UserSet) (is : IsUser u) where
  start_readable : AreRead nothing.place (Start (user_assignments u) ∷ mem_lines u.writes)
  start_readable = (
    start_read nothing.place (user_assignments u)
        (user_readable u is.regs.0 is.regs.1 is.rip is.flags is.cs is.gs) refl (user_named u is.regs.0),
    (bytes_placed (place_after nothing.place (Start (user_assignments u))) 0 u.writes refl
        (record { begun = refl; left = omega arith }) is.writes).read,
  )

  start_leaves : (n : ℕ) → n ≤ 1000000
      → MayCome (after nothing.place (Start (user_assignments u) ∷ mem_lines u.writes)) n
  start_leaves n few =
      (bytes_placed (place_after nothing.place (Start (user_assignments u))) n u.writes refl
      (record { begun = refl; left = omega (arith, few) }) is.writes).left

  user_turn : TurnRead (turn.User u)
  user_turn = record {
    read =
        λ place may. (
          user_read place may.begun may.left (user_assignments u)
              (user_readable u is.regs.0 is.regs.1 is.rip is.flags is.cs is.gs) (user_named u is.regs.0),
          (bytes_placed (place_after place (User (user_assignments u))) 0 u.writes refl
              (record { begun = refl; left = omega arith }) is.writes).read,
        );
    left =
        λ place n may. (bytes_placed (place_after place (User (user_assignments u))) n u.writes refl
        (record { begun = refl; left = came place n may }) is.writes).left;
  }

body_turn : (b : BodySet) → IsBody b → TurnRead (turn.Body b)
body_turn b is = record {
  read =
      λ place may. (
        body_read place may.begun may.left (body_assignments b)
            (body_readable b is.regs.0 is.regs.1 is.rip is.flags
            (edits_readable b.edit is.due_rip is.due_flags is.due_rsp)) (body_named b is.regs.0),
        (bytes_placed (place_after place (Body (body_assignments b))) 0 b.writes refl
            (record { begun = refl; left = omega arith }) is.writes).read,
      );
  left =
      λ place n may. (bytes_placed (place_after place (Body (body_assignments b))) n b.writes refl
      (record { begun = refl; left = came place n may }) is.writes).left;
}

leave_turn : (l : LeaveSet) → IsLeave l → TurnRead (turn.Leave l)
leave_turn l is = record {
  read =
      λ place may. (
        leave_read place may.begun may.left (leave_assignments l) (leave_readable l is.regs.0 is.regs.1 is.flags)
            (leave_named l is.regs.0),
        tt,
      );
  left = λ place n may. record { begun = refl; left = came place n may };
}

-- the lines of each turn are read where it may come
turn_readable : (t : Turn) → IsWritable t → TurnRead t
turn_readable turn.Go is = record {
  read = λ place may. tt;
  left = λ place n may. record { begun = may.begun; left = let left = may.left in omega (arith, left) };
}
turn_readable (turn.Irq v) is = record {
  read = λ place may. (irq_read place may.begun may.left v is, tt);
  left = λ place n may. record { begun = refl; left = came place n may };
}
turn_readable turn.Nmi is = record {
  read = λ place may. (nmi_read place may.begun may.left, tt);
  left = λ place n may. record { begun = refl; left = came place n may };
}
turn_readable turn.Debug is = record {
  read = λ place may. (debug_read place may.begun may.left, tt);
  left = λ place n may. record { begun = refl; left = came place n may };
}
turn_readable turn.Check is = record {
  read = λ place may. (check_read place may.begun may.left, tt);
  left = λ place n may. record { begun = refl; left = came place n may };
}
turn_readable (turn.Fault a code) is = record {
  read = λ place may. (fault_read place may.begun may.left a code is.0 is.1, tt);
  left = λ place n may. record { begun = refl; left = came place n may };
}
turn_readable (turn.Trap v code) is = record {
  read = λ place may. (trap_read place may.begun may.left v code is.0 is.1, tt);
  left = λ place n may. record { begun = refl; left = came place n may };
}
turn_readable turn.Syscall is = record {
  read = λ place may. (syscall_read place may.begun may.left, tt);
  left = λ place n may. record { begun = refl; left = came place n may };
}
turn_readable (turn.User u) is = user_turn u is
turn_readable (turn.Body b) is = body_turn b is
turn_readable (turn.Leave l) is = leave_turn l is

each_readable : (ts : List Turn) → All IsWritable ts → EachTurn ts
each_readable [] each = tt
each_readable (t ∷ ts) each =
    (turn_readable t (All-head IsWritable t ts each), each_readable ts (All-tail IsWritable t ts each))

-- ---- said

-- a turn other than Go
abbrev IsOther : Turn → Type 0
IsOther turn.Go = ⊥
IsOther t = Unit {0}

-- a run of turns Go writes nothing, and no line of it is one of bytes
no_bytes : (n : ℕ) (ts : List Turn) → writes_of (lines_after n ts) ≡ []
no_bytes zero [] = refl
no_bytes (suc n) [] = refl
no_bytes n (turn.Go ∷ ts) = no_bytes (suc n) ts
no_bytes zero (t ∷ ts) = refl
no_bytes (suc n) (t ∷ ts) = refl

module _ (cfg : Description) (cpu : Cpu) (sixteen : length cpu.regs ≡ 16) where
  abbrev said : List Line → List Turn
  said lines = map (λ t. t cpu) (turns_of cfg lines)

  run_said : (n : ℕ) → map (λ (t : Cpu → Turn). t cpu) (replicate n (λ c. turn.Go)) ≡ replicate n turn.Go
  run_said zero = refl
  run_said (suc n) = ap (λ ts. turn.Go ∷ ts) (run_said n)

  go_said : (n : ℕ) (rest : List Line) → said (go_lines n ++ rest) ≡ replicate n turn.Go ++ said rest
  go_said zero rest = refl
  go_said (suc n) rest =
      let run : List (Cpu → Turn) = replicate (suc n) (λ c. turn.Go) in
      map-append (λ (t : Cpu → Turn). t cpu) (run ++ []) (turns_of cfg rest)
      ∙ ap (λ (ts : List (Cpu → Turn)). map (λ t. t cpu) ts ++ said rest) (append-nil run)
      ∙ ap (λ ts. ts ++ said rest) (run_said (suc n))

  -- a turn other than Go is said by its lines, if the lines after them are of no bytes
  turn_said : (t : Turn) (rest : List Line) → IsWritable t → IsOther t → writes_of rest ≡ []
      → said (lines_of_turn t ++ rest) ≡ t ∷ said rest
  turn_said turn.Go rest is other none = absurd other
  turn_said (turn.Irq v) rest is other none = refl
  turn_said turn.Nmi rest is other none = refl
  turn_said turn.Debug rest is other none = refl
  turn_said turn.Check rest is other none = refl
  turn_said (turn.Fault a code) rest is other none = refl
  turn_said (turn.Trap v code) rest is other none = refl
  turn_said turn.Syscall rest is other none = refl
  turn_said (turn.User u) rest is other none =
      ap (λ (ws : List (ℕ × ℕ)). turn.User (user_set cfg (user_assignments u) ws) ∷ said (mem_lines u.writes ++ rest))
      (writes_say rest none u.writes is.writes)
      ∙ ap (λ (v : UserSet). turn.User v ∷ said (mem_lines u.writes ++ rest)) (user_says cfg u is.regs.0)
      ∙ ap (λ (ts : List (Cpu → Turn)). turn.User u ∷ map (λ t. t cpu) ts) (no_turn cfg rest u.writes)
  turn_said (turn.Body b) rest is other none =
      ap (λ (ws : List (ℕ × ℕ)). turn.Body (body_set cpu (body_assignments b) ws) ∷ said (mem_lines b.writes ++ rest))
      (writes_say rest none b.writes is.writes)
      ∙ ap (λ (c : BodySet). turn.Body c ∷ said (mem_lines b.writes ++ rest)) (body_says cpu b sixteen is.regs.0)
      ∙ ap (λ (ts : List (Cpu → Turn)). turn.Body b ∷ map (λ t. t cpu) ts) (no_turn cfg rest b.writes)
  turn_said (turn.Leave l) rest is other none =
      ap (λ (m : LeaveSet). turn.Leave m ∷ said rest) (leave_says cfg cpu l is.regs.0 is.given_back)

  ended_said : (n : ℕ) (t : Turn) (ts : List Turn) → IsWritable t → IsOther t → said (lines_after 0 ts) ≡ ts
      → said ((go_lines n ++ lines_of_turn t) ++ lines_after 0 ts) ≡ replicate n turn.Go ++ t ∷ ts
  ended_said n t ts is other rest =
      ap said (append_assoc (go_lines n) (lines_of_turn t) (lines_after 0 ts))
      ∙ go_said n (lines_of_turn t ++ lines_after 0 ts)
      ∙ ap (λ us. replicate n turn.Go ++ us) (turn_said t (lines_after 0 ts) is other (no_bytes 0 ts))
      ∙ ap (λ us. replicate n turn.Go ++ t ∷ us) rest

  pub turns_said : (n : ℕ) (ts : List Turn) → All IsWritable ts → said (lines_after n ts) ≡ replicate n turn.Go ++ ts
  turns_said n [] each = ap said (sym (append-nil (go_lines n))) ∙ go_said n []
  turns_said n (turn.Go ∷ ts) each =
      let next : n + 1 ≡ suc n = omega arith in
      turns_said (suc n) ts (All-tail IsWritable turn.Go ts each)
      ∙ ap (λ k. replicate k turn.Go ++ ts) (sym next)
      ∙ ap (λ us. us ++ ts) (sym (replicate_more n turn.Go))
      ∙ append_assoc (replicate n turn.Go) (turn.Go ∷ []) ts
  turns_said n (t ∷ ts) each =
      ended_said n t ts (All-head IsWritable t ts each) tt (turns_said 0 ts (All-tail IsWritable t ts each))

-- ---- a trace

pub trace_says : (cfg : Description) (trace : Trace) → IsPrintable trace → Says cfg trace (text_of_trace trace)
trace_says cfg trace is =
    let u : UserSet = trace.first in
    let later : List Line = lines_after 0 trace.turns in
    let few = is.few in
    let lines = joined_read nothing.place (Start (user_assignments u) ∷ mem_lines u.writes) later
    (start_readable u is.first)
    (turns_read (after nothing.place (Start (user_assignments u) ∷ mem_lines u.writes)) 0 trace.turns
    (omega (arith, few)) (start_leaves u is.first (0 + length trace.turns) (omega (arith, few)))
    (each_readable trace.turns is.turns)) in
    let read = lines_read (Start (user_assignments u)) (mem_lines u.writes ++ later) lines in
    record {
      read = read.0;
      accepted = read.1;
      first =
          ap (first_set cfg) read.2
          ∙ ap (λ (ws : List (ℕ × ℕ)). user_set cfg (user_assignments u) ws)
          (writes_say later (no_bytes 0 trace.turns) u.writes is.first.writes)
          ∙ user_says cfg u is.first.regs.0;
      turns =
          λ cpu sixteen. ap (λ (ls : List Line). map (λ (t : Cpu → Turn). t cpu) (turns_of cfg ls)) read.2
          ∙ ap (λ (ts : List (Cpu → Turn)). map (λ (t : Cpu → Turn). t cpu) ts) (no_turn cfg later u.writes)
          ∙ turns_said cfg cpu sixteen 0 trace.turns is.turns;
    }
