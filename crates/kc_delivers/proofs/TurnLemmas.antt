-- A turn that executes no instruction, whose accesses are all quiet: it breaks nothing, and a step of it stops or leads
-- to what the attempt leaves. One instruction is at RIP, so a turn that may come isn't refused.
use Rattle.std.proofs.Common.{◌≡◌, ℕ, ◌⊎◌, inl, inr, true, false, [], All, Option, Some, None, refl, sym, ap, ◌∙◌, subst}
use Rattle.std.proofs.lemmas.Bool.{true≢false}
use Rattle.kc_insn.specs.declared.insn.Insn.{Insn}
use Rattle.kc_image.specs.Image.{Contents}
use Rattle.kc_regions.specs.Description.{Description}
use Rattle.kc_rules.proofs.AnswerLemmas.{some_is}
use Rattle.kc_exec.specs.Execution.{stops}
use Rattle.kc_exec.specs.declared.executed.ExecEnd.{ExecEnd}
use Rattle.kc_exec.specs.declared.state.State.{State}
use Rattle.kc_events.specs.Allowed.{IsAllowed}
use Rattle.kc_events.specs.Attempt.{Attempt, attempt, event}
use Rattle.kc_events.specs.Breaks.{BreaksWith, EndsWith}
use Rattle.kc_events.specs.Fetched.{IsAt}
use Rattle.kc_events.specs.Run.{IsLike, after, Breaks, Steps}
use Rattle.kc_events.specs.Run.Steps.{Refused, Halted, Done}
use Rattle.kc_events.specs.declared.turn.Turn.{Turn}
use Rattle.kc_events.specs.declared.turn.Turn.TheVariants.{Go, Irq, Nmi, Debug, Check, Fault, Trap, Syscall, User as UserTurn, Body, Leave}
use Rattle.kc_describes.proofs.QuietLemmas.{IsQuiet, quiet_gs, quiet_touches, quiet_writes}
use Rattle.kc_returns.proofs.FetchLemmas.{one_found}
use Rattle.kc_arrivals.specs.Arrivals.{vector_of}
use Rattle.kc_delivers.specs.Delivered.{MayComeIn}

-- ---- the instruction at RIP

same_found : (image : Contents) (a : ℕ) (found here : Option (Insn × ℕ)) → IsAt image a found → IsAt image a here
    → here ≡ found
same_found image a (Some (insn, n)) here one other = one_found image a here insn n one other
same_found image a None None one other = refl
same_found image a None (Some (insn, n)) one other = absurd (one insn n other)

-- ---- turns that execute no instruction

ends_go : (cfg : Description) (found : Option (Insn × ℕ)) (S : State) (turn : Turn) (P : Insn → ExecEnd → Type 0)
    → EndsWith cfg found S turn P → turn ≡ Go
ends_go cfg None S turn P h = absurd h
ends_go cfg (Some (insn, n)) S Go P h = refl
ends_go cfg (Some (insn, n)) S (Irq v) P h = absurd h
ends_go cfg (Some (insn, n)) S Nmi P h = absurd h
ends_go cfg (Some (insn, n)) S Debug P h = absurd h
ends_go cfg (Some (insn, n)) S Check P h = absurd h
ends_go cfg (Some (insn, n)) S (Fault a code) P h = absurd h
ends_go cfg (Some (insn, n)) S (Trap v code) P h = absurd h
ends_go cfg (Some (insn, n)) S Syscall P h = absurd h
ends_go cfg (Some (insn, n)) S (UserTurn u) P h = absurd h
ends_go cfg (Some (insn, n)) S (Body b) P h = absurd h
ends_go cfg (Some (insn, n)) S (Leave l) P h = absurd h

module _ (cfg : Description) (image : Contents) (S : State) (turn : Turn) (t : Attempt)
    (same : (found : Option (Insn × ℕ)) → attempt cfg found S turn ≡ t) (other : turn ≡ Go → ⊥) (none : t.bytes ≡ [])
    (all : All (IsQuiet cfg S.cpu.cr3 S.cpu.gs t.chain) t.accesses) where
  unbroken : (found : Option (Insn × ℕ)) (b : ℕ) → BreaksWith cfg found S turn t b → ⊥
  unbroken found b (inl h) = other h.1
  unbroken found b (inr (inl h)) = quiet_gs cfg S t all h.1
  unbroken found b (inr (inr (inl h))) = quiet_touches cfg S t all h.1
  unbroken found b (inr (inr (inr (inl h)))) = quiet_writes cfg S t all none h.1
  unbroken found b (inr (inr (inr (inr (free, inl h))))) = other (ends_go cfg found S turn _ h.1)
  unbroken found b (inr (inr (inr (inr (free, inr (inl h)))))) = other (ends_go cfg found S turn _ h)
  unbroken found b (inr (inr (inr (inr (free, inr (inr h)))))) = other (ends_go cfg found S turn _ h.1)

  pub quiet : (b : ℕ) → Breaks cfg image S turn b → ⊥
  quiet b h = unbroken h.found b (subst (λ z. BreaksWith cfg h.found S turn z b) (same h.found) h.broken)

  came : MayComeIn cfg image S turn → (found : Option (Insn × ℕ)) → IsAt image S.cpu.rip found
      → IsAllowed cfg found S turn
  came (here, at, allowed) found there =
      subst (λ f. IsAllowed cfg f S turn) (same_found image S.cpu.rip found here there at) allowed

  like_after : (found : Option (Insn × ℕ)) (T : State) → IsLike T (after S (attempt cfg found S turn))
      → IsLike T (after S t)
  like_after found T like = subst (λ z. IsLike T (after S z)) (same found) like

  -- it stops, or leaves what the attempt does
  pub leads : MayComeIn cfg image S turn → (T : State) → Steps cfg image S turn T
      → (T.stopped ≡ true) ⊎ IsLike T (after S t)
  leads comes T (Refused found there refused like) = absurd (refused (came comes found there))
  leads comes T (Halted how like) = inl like.stopped
  leads comes T (Done found there allowed runs free like) = inr (like_after found T like)

  -- where no access has a byte in a guard it doesn't stop
  pub runs_on : stops cfg t.accesses ≡ false → MayComeIn cfg image S turn → (T : State) → Steps cfg image S turn T
      → IsLike T (after S t)
  runs_on free comes T (Refused found there refused like) = absurd (refused (came comes found there))
  runs_on free comes T (Halted (inl h) like) =
      absurd (true≢false (sym h.stops ∙ ap (λ z. stops cfg z.accesses) (same h.found) ∙ free))
  runs_on free comes T (Halted (inr h) like) = absurd (quiet h.0 h.1)
  runs_on free comes T (Done found there allowed runs unbroken like) = like_after found T like

-- ---- events

-- the error code that the turn brings
abbrev pub code_of : Turn → ℕ
code_of (Fault a code) = code
code_of (Trap v code) = code
code_of _ = 0

no_vector : (v : ℕ) → ◌≡◌ {A = Option ℕ} None (Some v) → ⊥
no_vector v e = absurd cc

pub event_is : (cfg : Description) (S : State) (turn : Turn) (v : ℕ) → vector_of turn ≡ Some v
    → (found : Option (Insn × ℕ)) → attempt cfg found S turn ≡ event cfg S v (code_of turn)
event_is cfg S (Irq n) v e found = ap (λ k. event cfg S k 0) (some_is n v e)
event_is cfg S Nmi v e found = ap (λ k. event cfg S k 0) (some_is 2 v e)
event_is cfg S Debug v e found = ap (λ k. event cfg S k 0) (some_is 1 v e)
event_is cfg S Check v e found = ap (λ k. event cfg S k 0) (some_is 18 v e)
event_is cfg S (Fault a code) v e found = ap (λ k. event cfg S k code) (some_is 14 v e)
event_is cfg S (Trap n code) v e found = ap (λ k. event cfg S k code) (some_is n v e)
event_is cfg S Go v e found = absurd (no_vector v e)
event_is cfg S Syscall v e found = absurd (no_vector v e)
event_is cfg S (UserTurn u) v e found = absurd (no_vector v e)
event_is cfg S (Body b) v e found = absurd (no_vector v e)
event_is cfg S (Leave l) v e found = absurd (no_vector v e)

pub event_is_no_go : (turn : Turn) (v : ℕ) → vector_of turn ≡ Some v → turn ≡ Go → ⊥
event_is_no_go turn v e go = no_vector v (sym (ap vector_of go) ∙ e)

pub syscall_is_no_go : Syscall ≡ Go → ⊥
syscall_is_no_go e = absurd cc
