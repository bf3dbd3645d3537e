-- One text is told of a run. From states that agree, the first turn has one instruction to execute, so that it comes to
-- the same end in both, and what passes leads to states that agree again: by induction on the turns.
use Rattle.std.proofs.Common.{◌≡◌, ℕ, suc, ◌<◌, ◌≤◌, Bool, ◌⊎◌, inl, inr, List, [], ◌∷◌, ◌++◌, length, drop, Option, Some, None, refl, ap, sym, ◌∙◌, subst, arith}
use Rattle.std.proofs.lemmas.Bool.{cases_lt}
use Rattle.std.proofs.lemmas.List.{append-nil, take-append-drop}
use Rattle.kc_insn.specs.declared.insn.Insn.{Insn}
use Rattle.kc_insn.specs.Spells.{Spells}
use Rattle.kc_image.specs.Image.{Contents, run}
use Rattle.kc_regions.specs.Description.{Description}
use Rattle.kc_cpu.specs.declared.cpu.Cpu.{Cpu}
use Rattle.kc_exec.specs.declared.state.State.{State}
use Rattle.kc_events.specs.declared.turn.Turn.{Turn}
use Rattle.kc_events.specs.declared.turn.UserSet.{UserSet}
use Rattle.kc_events.specs.Fetched.{IsSpelledAt, IsAt}
use Rattle.kc_events.specs.Allowed.{IsAllowed}
use Rattle.kc_events.specs.Attempt.{attempt}
use Rattle.kc_events.specs.Breaks.{BreaksWith}
use Rattle.kc_events.specs.Run.{Breaks, Stops, IsLike}
use Rattle.kc_events.proofs.FetchLemmas.{take-run}
use Rattle.kc_machine.specs.Step.{Refused, Taken}
use Rattle.kc_trace.specs.declared.line.Line.{Line}
use Rattle.kc_replay.specs.Turns.{turns_of, first_set}
use Rattle.kc_replay.specs.Told.{Passes, NotAllowed, Done, EndsRun, Stopped, Broke, Tells, Begins, IsReplayed, turns_line, break_line}
use Rattle.kc_replay.proofs.LikeLemmas.{spared, like_spared, attempt_same, allowed_same, breaks_same, stops_same}

-- ---- one instruction

-- no spelling begins another
abbrev pub ReadsOnce : Type 0
ReadsOnce =
    (a b x y : List ℕ) (at : ℕ) (i j : Insn) → Spells a at i → Spells b at j → a ++ x ≡ b ++ y → (a ≡ b) × (i ≡ j)

begins : (image : Contents) (a n m : ℕ) → n ≤ m
    → run image.segments a n ++ drop n (run image.segments a m) ≡ run image.segments a m ++ []
begins image a n m le =
    ap (λ (front : List ℕ). front ++ drop n (run image.segments a m)) (sym (take-run image.segments a n m le))
    ∙ take-append-drop n (run image.segments a m) ∙ sym (append-nil (run image.segments a m))

shorter_once : ReadsOnce → (image : Contents) (a : ℕ) (i j : Insn) (n m : ℕ) → n ≤ m → IsSpelledAt image a i n
    → IsSpelledAt image a j m → (i ≡ j) × (n ≡ m)
shorter_once once image a i j n m le s t =
    let first : Spells (run image.segments a n) a i = subst (λ (bytes : List ℕ). Spells bytes a i) (sym s.2) s.3 in
    let second : Spells (run image.segments a m) a j = subst (λ (bytes : List ℕ). Spells bytes a j) (sym t.2) t.3 in
    let same = once (run image.segments a n) (run image.segments a m) (drop n (run image.segments a m)) [] a i
    j first second
    (begins image a n m le) in
    (same.1, sym s.1 ∙ ap length (sym s.2 ∙ same.0 ∙ t.2) ∙ t.1)

by_order : (n m : ℕ) → (n < m) ⊎ (m ≤ n) → ReadsOnce → (image : Contents) (a : ℕ) (i j : Insn)
    → IsSpelledAt image a i n → IsSpelledAt image a j m → (i ≡ j) × (n ≡ m)
by_order n m (inl less) once image a i j s t = shorter_once once image a i j n m (omega (arith, less)) s t
by_order n m (inr le) once image a i j s t =
    let same = shorter_once once image a j i m n le t s in (sym same.0, sym same.1)

one_found : ReadsOnce → (image : Contents) (a : ℕ) (x y : Option (Insn × ℕ)) → IsAt image a x → IsAt image a y → x ≡ y
one_found once image a None None s t = refl
one_found once image a None (Some (j, m)) s t = absurd (s j m t)
one_found once image a (Some (i, n)) None s t = absurd (t i n s)
one_found once image a (Some (i, n)) (Some (j, m)) s t =
    let same = by_order n m (cases_lt n m) once image a i j s t in
    λ k. Some (same.0 k, same.1 k)

-- ---- one turn, in states that agree

-- the facts of a turn in the state with another number of empty pages, at the instruction found in the state
allowed_here : ReadsOnce → (cfg : Description) (image : Contents) (S : State) (k : ℕ) (turn : Turn)
    (found other : Option (Insn × ℕ)) → IsAt image S.cpu.rip found → IsAt image S.cpu.rip other
    → IsAllowed cfg other (spared S k) turn → IsAllowed cfg found S turn
allowed_here once cfg image S k turn found other here there allowed =
    subst (λ (x : Option (Insn × ℕ)). IsAllowed cfg x S turn) (one_found once image S.cpu.rip other found there here)
    (allowed_same cfg other (spared S k) S.mem.spare turn allowed)

like_after : ReadsOnce → (cfg : Description) (image : Contents) (S : State) (k : ℕ) (turn : Turn) (T U : State)
    → Taken cfg image S turn T → Taken cfg image (spared S k) turn U → IsLike U T
like_after once cfg image S k turn T U s t =
    let found = one_found once image S.cpu.rip t.found s.found t.fetched s.fetched in
    let same = attempt_same cfg t.found S k turn ∙ ap (λ x. attempt cfg x S turn) found in
    record {
      cpu = t.left.cpu ∙ ap (λ a. a.cpu) same ∙ sym s.left.cpu;
      latch = t.left.latch ∙ ap (λ a. a.latch) same ∙ sym s.left.latch;
      mem = t.left.mem ∙ ap (λ a. a.mem) same ∙ sym s.left.mem;
      stopped = t.left.stopped ∙ sym s.left.stopped;
      chain = t.left.chain ∙ ap (λ a. a.left) same ∙ sym s.left.chain;
    }

like_refused : (cfg : Description) (image : Contents) (S : State) (k : ℕ) (turn : Turn) (T U : State)
    → Refused cfg image S turn T → Refused cfg image (spared S k) turn U → IsLike U T
like_refused cfg image S k turn T U s t = record {
  cpu = t.unchanged.cpu ∙ sym s.unchanged.cpu;
  latch = t.unchanged.latch ∙ sym s.unchanged.latch;
  mem = t.unchanged.mem ∙ sym s.unchanged.mem;
  stopped = t.unchanged.stopped ∙ sym s.unchanged.stopped;
  chain = t.unchanged.chain ∙ sym s.unchanged.chain;
}

-- what passes in both tells the same, and leads to states that agree
passes_once : ReadsOnce → (cfg : Description) (image : Contents) (S : State) (k : ℕ) (turn : Turn) (n : ℕ) (T U : State)
    (told other : List ℕ) → Passes cfg image S turn n T told → Passes cfg image (spared S k) turn n U other
    → (told ≡ other) × IsLike U T
passes_once once cfg image S k turn n T U told other (NotAllowed s is) (NotAllowed t also) =
    (is ∙ sym also, like_refused cfg image S k turn T U s t)
passes_once once cfg image S k turn n T U told other (Done s is) (Done t also) =
    (is ∙ sym also, like_after once cfg image S k turn T U s t)
passes_once once cfg image S k turn n T U told other (NotAllowed s is) (Done t also) =
    absurd (s.refused (allowed_here once cfg image S k turn s.found t.found s.fetched t.fetched t.allowed))
passes_once once cfg image S k turn n T U told other (Done s is) (NotAllowed t also) =
    absurd (t.refused (allowed_same cfg t.found S k turn
    (subst (λ (x : Option (Insn × ℕ)). IsAllowed cfg x S turn)
    (one_found once image S.cpu.rip s.found t.found s.fetched t.fetched) s.allowed)))

-- what passes doesn't end the run
passes_on : ReadsOnce → (cfg : Description) (image : Contents) (S : State) (k : ℕ) (turn : Turn) (n : ℕ) (T : State)
    (told other : List ℕ) (clean : Bool) → Passes cfg image S turn n T told
    → EndsRun cfg image (spared S k) turn n other clean → ⊥
passes_on once cfg image S k turn n T told other clean (NotAllowed s is) (Stopped t also ends) =
    s.refused (allowed_here once cfg image S k turn s.found t.found s.fetched t.fetched t.allowed)
passes_on once cfg image S k turn n T told other clean (NotAllowed s is) (Broke b t also ends) =
    s.refused (allowed_here once cfg image S k turn s.found t.0.found s.fetched t.0.fetched t.0.allowed)
passes_on once cfg image S k turn n T told other clean (Done s is) (Stopped t also ends) =
    s.runs_on (stops_same cfg image (spared S k) S.mem.spare turn t)
passes_on once cfg image S k turn n T told other clean (Done s is) (Broke b t also ends) =
    s.unbroken b (breaks_same cfg image (spared S k) S.mem.spare turn b t.0)

-- the least break is one
least_by : (P : ℕ → Type 0) (b c : ℕ) → P b → P c → ((k : ℕ) → k < b → ¬ P k) → ((k : ℕ) → k < c → ¬ P k)
    → (b < c) ⊎ (c ≤ b) → (c < b) ⊎ (b ≤ c) → b ≡ c
least_by P b c p q below lower (inl less) other = absurd (lower b less p)
least_by P b c p q below lower (inr le) (inl less) = absurd (below c less q)
least_by P b c p q below lower (inr le) (inr ge) = omega (arith, le, ge)

least_once : (P : ℕ → Type 0) (b c : ℕ) → P b → P c → ((k : ℕ) → k < b → ¬ P k) → ((k : ℕ) → k < c → ¬ P k) → b ≡ c
least_once P b c p q below lower = least_by P b c p q below lower (cases_lt b c) (cases_lt c b)

-- what stops breaks nothing
stops_unbroken : ReadsOnce → (cfg : Description) (image : Contents) (S : State) (turn : Turn) (b : ℕ)
    → Stops cfg image S turn → Breaks cfg image S turn b → ⊥
stops_unbroken once cfg image S turn b s t =
    s.quiet b (subst (λ (x : Option (Insn × ℕ)). BreaksWith cfg x S turn (attempt cfg x S turn) b)
    (one_found once image S.cpu.rip t.found s.found t.fetched s.fetched) t.broken)

ends_once : ReadsOnce → (cfg : Description) (image : Contents) (S : State) (k : ℕ) (turn : Turn) (n : ℕ)
    (told other : List ℕ) (clean same : Bool) → EndsRun cfg image S turn n told clean
    → EndsRun cfg image (spared S k) turn n other same → (told ≡ other) × (clean ≡ same)
ends_once once cfg image S k turn n told other clean same (Stopped s is ends) (Stopped t also over) =
    (is ∙ sym also, ends ∙ sym over)
ends_once once cfg image S k turn n told other clean same (Stopped s is ends) (Broke b t also over) =
    absurd (stops_unbroken once cfg image S turn b s (breaks_same cfg image (spared S k) S.mem.spare turn b t.0))
ends_once once cfg image S k turn n told other clean same (Broke b s is ends) (Stopped t also over) =
    absurd (stops_unbroken once cfg image S turn b (stops_same cfg image (spared S k) S.mem.spare turn t) s.0)
ends_once once cfg image S k turn n told other clean same (Broke b s is ends) (Broke c t also over) =
    let one = least_once (Breaks cfg image S turn) b c s.0 (breaks_same cfg image (spared S k) S.mem.spare turn c t.0)
    s.1 (λ j less broken. t.1 j less (breaks_same cfg image S k turn j broken)) in
    (is ∙ ap (break_line n) one ∙ sym also, ends ∙ sym over)

-- ---- a run

told_once : ReadsOnce → (cfg : Description) (image : Contents) (turns : List (Cpu → Turn)) (n : ℕ) (S : State) (k : ℕ)
    (text other : List ℕ) (clean same : Bool) → Tells cfg image n S turns text clean
    → Tells cfg image n (spared S k) turns other same → (text ≡ other) × (clean ≡ same)
told_once once cfg image [] n S k text other clean same s t = (s.0 ∙ sym t.0, s.1 ∙ sym t.1)
told_once once cfg image (turn ∷ turns) n S k text other clean same (inl s) (inl t) =
    let one = passes_once once cfg image S k (turn S.cpu) (suc n) s.0 t.0 s.1 t.1 s.3 t.3 in
    let next = told_once once cfg image turns (suc n) s.0 t.0.mem.spare s.2 t.2 clean same s.5
    (subst (λ (V : State). Tells cfg image (suc n) V turns t.2 same) (like_spared s.0 t.0 one.1) t.5) in
    (s.4 ∙ (λ i. one.0 i ++ next.0 i) ∙ sym t.4, next.1)
told_once once cfg image (turn ∷ turns) n S k text other clean same (inl s) (inr t) =
    absurd (passes_on once cfg image S k (turn S.cpu) (suc n) s.0 s.1 t.0 same s.3 t.1)
told_once once cfg image (turn ∷ turns) n S k text other clean same (inr s) (inl t) =
    absurd (passes_on once cfg image (spared S k) S.mem.spare (turn S.cpu) (suc n) t.0 t.1 s.0 clean t.3 s.1)
told_once once cfg image (turn ∷ turns) n S k text other clean same (inr s) (inr t) =
    let one = ends_once once cfg image S k (turn S.cpu) (suc n) s.0 t.0 clean same s.1 t.1 in
    (s.2 ∙ ap (λ told. told ++ turns_line (suc n)) one.0 ∙ sym t.2, one.1)

begins_once : (cfg : Description) (first : UserSet) (S T : State) → Begins cfg first S → Begins cfg first T → IsLike T S
begins_once cfg first S T s t = record {
  cpu = t.processor ∙ sym s.processor;
  latch = t.admitted.latches ∙ sym s.admitted.latches;
  mem = t.memory ∙ sym s.memory;
  stopped = t.admitted.running ∙ sym s.admitted.running;
  chain = t.admitted.chain ∙ sym s.admitted.chain;
}

pub replayed_once : ReadsOnce → (cfg : Description) (image : Contents) (lines : List Line) (text other : List ℕ)
    (clean same : Bool) → IsReplayed cfg image lines text clean → IsReplayed cfg image lines other same
    → (text ≡ other) × (clean ≡ same)
replayed_once once cfg image lines text other clean same s t =
    let like = begins_once cfg (first_set cfg lines) s.0 t.0 s.1 t.1 in
    told_once once cfg image (turns_of cfg lines) 0 s.0 t.0.mem.spare text other clean same s.2
    (subst (λ (V : State). Tells cfg image 0 V (turns_of cfg lines) other same) (like_spared s.0 t.0 like) t.2)
