-- How many empty pages of memory were made ahead makes no difference to a turn: each fact of a turn reads the
-- processor, the latches, the bytes, the stopped flag and the chain alone. So a fact in a state holds in the state
-- with another number of pages, by the cases of the turn; back again is the same lemma with the first number.
use Rattle.std.proofs.Common.{◌≡◌, ℕ, true, inl, inr, Option, Some, None, refl, sym, subst}
use Rattle.std.specs.Prelude.{Any, IsSomeAnd, slice_get}
use Rattle.kc_insn.specs.declared.insn.Insn.{Insn}
use Rattle.kc_image.specs.Image.{Contents}
use Rattle.kc_regions.specs.declared.region.Region.{Region}
use Rattle.kc_regions.specs.declared.entry.Gate.{Gate}
use Rattle.kc_regions.specs.declared.entry.Handler.{Handler}
use Rattle.kc_regions.specs.Description.{Description}
use Rattle.kc_regions.specs.Lookup.{gate_of}
use Rattle.kc_cpu.specs.declared.cpu.Call.{Call}
use Rattle.kc_cpu.specs.declared.cpu.Mode.{Mode}
use Rattle.kc_cpu.specs.declared.cpu.Mode.TheVariants.{User as InUser, Code, Inside}
use Rattle.kc_exec.specs.declared.state.State.{State}
use Rattle.kc_exec.specs.declared.executed.ExecEnd.{ExecEnd}
use Rattle.kc_exec.specs.Execution.{stops}
use Rattle.kc_events.specs.declared.turn.BodySet.{BodySet}
use Rattle.kc_events.specs.declared.turn.Turn.{Turn}
use Rattle.kc_events.specs.declared.turn.Turn.TheVariants.{Go, Irq, Nmi, Debug, Check, Fault, Trap, Syscall, User, Body, Leave}
use Rattle.kc_events.specs.Allowed.{TakesFault, faulting, IsTouched, MayBody, HasFrame, InHandler, OfStack, stack_over, MayCome, IsAllowed}
use Rattle.kc_events.specs.Attempt.{Attempt, attempt, gone, through_gate}
use Rattle.kc_events.specs.Breaks.{EndsWith, BreaksWith}
use Rattle.kc_events.specs.Run.{Breaks, Stops, IsLike}

-- the state, with another number of empty pages
abbrev pub spared : State → ℕ → State
spared S k = record S { mem = record S.mem { spare = k } }

-- a state that agrees with another is that one, with its own number of empty pages
pub like_spared : (S T : State) → IsLike T S → T ≡ spared S T.mem.spare
like_spared S T like = λ i. record {
  cpu = like.cpu i;
  latch = like.latch i;
  mem = record { bytes = like.mem i; spare = T.mem.spare };
  stopped = like.stopped i;
  chain = like.chain i;
}

-- ---- what a turn does

gone_same : (cfg : Description) (found : Option (Insn × ℕ)) (S : State) (k : ℕ)
    → gone cfg found (spared S k) ≡ gone cfg found S
gone_same cfg None S k = refl
gone_same cfg (Some (insn, n)) S k = refl

through_same : (cfg : Description) (g : Option Gate) (S : State) (k code : ℕ)
    → through_gate cfg g (spared S k) code ≡ through_gate cfg g S code
through_same cfg None S k code = refl
through_same cfg (Some g) S k code = refl

pub attempt_same : (cfg : Description) (found : Option (Insn × ℕ)) (S : State) (k : ℕ) (turn : Turn)
    → attempt cfg found (spared S k) turn ≡ attempt cfg found S turn
attempt_same cfg found S k Go = gone_same cfg found S k
attempt_same cfg found S k (Irq v) = through_same cfg (gate_of cfg.gates v) S k 0
attempt_same cfg found S k Nmi = through_same cfg (gate_of cfg.gates 2) S k 0
attempt_same cfg found S k Debug = through_same cfg (gate_of cfg.gates 1) S k 0
attempt_same cfg found S k Check = through_same cfg (gate_of cfg.gates 18) S k 0
attempt_same cfg found S k (Fault a code) = through_same cfg (gate_of cfg.gates 14) S k code
attempt_same cfg found S k (Trap v code) = through_same cfg (gate_of cfg.gates v) S k code
attempt_same cfg found S k Syscall = refl
attempt_same cfg found S k (User u) = refl
attempt_same cfg found S k (Body b) = refl
attempt_same cfg found S k (Leave l) = refl

-- ---- whether a turn may come

some_map : {A : Type 0} {P Q : A → Type 0} (o : Option A) → ((a : A) → P a → Q a) → IsSomeAnd o P → IsSomeAnd o Q
some_map None f h = absurd h
some_map (Some a) f h = f a h

frame_may : (S : State) (k : ℕ) (call : Call) (h : Handler) (stack : Region) → HasFrame S call h stack
    → HasFrame (spared S k) call h stack
frame_may S k call h stack may = record { user = may.user; frame = may.frame }

body_may : (cfg : Description) (S : State) (k : ℕ) (call : Call) (h : Handler) (stack : Region) (b : BodySet)
    → MayBody cfg S call h stack b → MayBody cfg (spared S k) call h stack b
body_may cfg S k call h stack b may = record {
  rsp = may.rsp;
  flags = may.flags;
  interrupts = may.interrupts;
  writes = may.writes;
  edits = may.edits;
  framed = λ edited. frame_may S k call h stack (may.framed edited);
}

handler_may : (cfg : Description) (S : State) (k : ℕ) (b : BodySet) (mode : Mode)
    → InHandler cfg mode (λ call h. OfStack cfg call.rsp (λ stack. MayBody cfg S call h stack b))
    → InHandler cfg mode (λ call h. OfStack cfg call.rsp (λ stack. MayBody cfg (spared S k) call h stack b))
handler_may cfg S k b (Inside call) may =
    some_map (slice_get cfg.handlers call.handler)
    (λ h free. some_map (stack_over cfg.regions call.rsp) (λ stack one. body_may cfg S k call h stack b one) free) may
handler_may cfg S k b InUser may = absurd may
handler_may cfg S k b Code may = absurd may

touched_may : (cfg : Description) (found : Option (Insn × ℕ)) (S : State) (k a : ℕ)
    → Any (IsTouched a) (faulting cfg S found) → Any (IsTouched a) (faulting cfg (spared S k) found)
touched_may cfg None S k a may = may
touched_may cfg (Some (insn, n)) S k a may = may

fault_may : (cfg : Description) (found : Option (Insn × ℕ)) (S : State) (k a : ℕ) (mode : Mode)
    → TakesFault cfg found S a mode → TakesFault cfg found (spared S k) a mode
fault_may cfg found S k a InUser may = may
fault_may cfg found S k a Code may = (may.0, touched_may cfg found S k a may.1)
fault_may cfg found S k a (Inside call) may = may

may_come : (cfg : Description) (found : Option (Insn × ℕ)) (S : State) (k : ℕ) (turn : Turn)
    → MayCome cfg found S turn → MayCome cfg found (spared S k) turn
may_come cfg found S k Go may = may
may_come cfg found S k (Irq v) may = (may.0, record { enabled = may.1.enabled; no_gap = may.1.no_gap })
may_come cfg found S k Nmi may = may
may_come cfg found S k Debug may = may
may_come cfg found S k Check may = may
may_come cfg found S k (Fault a code) may = fault_may cfg found S k a S.cpu.mode may
may_come cfg found S k (Trap v code) may = may
may_come cfg found S k Syscall may = may
may_come cfg found S k (User u) may =
    record { mode = may.mode; processor = may.processor; writes = may.writes }
may_come cfg found S k (Body b) may = handler_may cfg S k b S.cpu.mode may
may_come cfg found S k (Leave l) may = may

pub allowed_same : (cfg : Description) (found : Option (Insn × ℕ)) (S : State) (k : ℕ) (turn : Turn)
    → IsAllowed cfg found S turn → IsAllowed cfg found (spared S k) turn
allowed_same cfg found S k turn allowed = (allowed.0, may_come cfg found S k turn allowed.1)

-- ---- whether it breaks

ends_same : (cfg : Description) (found : Option (Insn × ℕ)) (S : State) (k : ℕ) (turn : Turn)
    (Fact : Insn → ExecEnd → Type 0) → EndsWith cfg found S turn Fact → EndsWith cfg found (spared S k) turn Fact
ends_same cfg None S k turn Fact ends = absurd ends
ends_same cfg (Some (insn, n)) S k Go Fact ends = ends
ends_same cfg (Some (insn, n)) S k (Irq v) Fact ends = absurd ends
ends_same cfg (Some (insn, n)) S k Nmi Fact ends = absurd ends
ends_same cfg (Some (insn, n)) S k Debug Fact ends = absurd ends
ends_same cfg (Some (insn, n)) S k Check Fact ends = absurd ends
ends_same cfg (Some (insn, n)) S k (Fault a code) Fact ends = absurd ends
ends_same cfg (Some (insn, n)) S k (Trap v code) Fact ends = absurd ends
ends_same cfg (Some (insn, n)) S k Syscall Fact ends = absurd ends
ends_same cfg (Some (insn, n)) S k (User u) Fact ends = absurd ends
ends_same cfg (Some (insn, n)) S k (Body b) Fact ends = absurd ends
ends_same cfg (Some (insn, n)) S k (Leave l) Fact ends = absurd ends

broken_same : (cfg : Description) (found : Option (Insn × ℕ)) (S : State) (k : ℕ) (turn : Turn) (t : Attempt) (b : ℕ)
    → BreaksWith cfg found S turn t b → BreaksWith cfg found (spared S k) turn t b
broken_same cfg found S k turn t b (inl one) = inl one
broken_same cfg found S k turn t b (inr (inl two)) = inr (inl two)
broken_same cfg found S k turn t b (inr (inr (inl three))) = inr (inr (inl three))
broken_same cfg found S k turn t b (inr (inr (inr (inl four)))) = inr (inr (inr (inl four)))
broken_same cfg found S k turn t b (inr (inr (inr (inr (quiet, inl five))))) =
    inr (inr (inr (inr (quiet, inl (five.0, ends_same cfg found S k turn _ five.1)))))
broken_same cfg found S k turn t b (inr (inr (inr (inr (quiet, inr (inl forbidden)))))) =
    inr (inr (inr (inr (quiet, inr (inl (ends_same cfg found S k turn _ forbidden))))))
broken_same cfg found S k turn t b (inr (inr (inr (inr (quiet, inr (inr eight)))))) =
    inr (inr (inr (inr (quiet, inr (inr (eight.0, ends_same cfg found S k turn _ eight.1))))))

attempt_broken : (cfg : Description) (found : Option (Insn × ℕ)) (S : State) (k : ℕ) (turn : Turn) (b : ℕ)
    → BreaksWith cfg found S turn (attempt cfg found S turn) b
    → BreaksWith cfg found (spared S k) turn (attempt cfg found (spared S k) turn) b
attempt_broken cfg found S k turn b broken =
    subst (λ (t : Attempt). BreaksWith cfg found (spared S k) turn t b) (sym (attempt_same cfg found S k turn))
    (broken_same cfg found S k turn (attempt cfg found S turn) b broken)

pub breaks_same : (cfg : Description) (image : Contents) (S : State) (k : ℕ) (turn : Turn) (b : ℕ)
    → Breaks cfg image S turn b → Breaks cfg image (spared S k) turn b
breaks_same cfg image S k turn b it = record {
  found = it.found;
  fetched = it.fetched;
  allowed = allowed_same cfg it.found S k turn it.allowed;
  broken = attempt_broken cfg it.found S k turn b it.broken;
}

pub stops_same : (cfg : Description) (image : Contents) (S : State) (k : ℕ) (turn : Turn)
    → Stops cfg image S turn → Stops cfg image (spared S k) turn
stops_same cfg image S k turn it = record {
  found = it.found;
  fetched = it.fetched;
  allowed = allowed_same cfg it.found S k turn it.allowed;
  stops =
      subst (λ (t : Attempt). stops cfg t.accesses ≡ true) (sym (attempt_same cfg it.found S k turn)) it.stops;
  quiet = λ b broken. it.quiet b (attempt_broken cfg it.found (spared S k) S.mem.spare turn b broken);
}
