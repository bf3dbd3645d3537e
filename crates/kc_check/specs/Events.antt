-- C14 to C16 at a node, whose events are asked in one pass. This project's own.
use Rattle.std.specs.Prelude.{◌≡◌, ℕ, Bool, true, cond, Option, Some, None, Result, Ok, Err}
use Rattle.kc_absevent.specs.declared.delivery.Interruption.{Interruption}
use Rattle.kc_image.specs.Image.{Contents}
use Rattle.kc_regions.specs.Description.{Description}
use Rattle.kc_rules.specs.Rules.{◌>>=◌}
use Rattle.kc_state.specs.AbsDelivery.{delivery}
use Rattle.kc_state.specs.declared.key.Key.{Key}
use Rattle.kc_state.specs.declared.state.AbsState.{AbsState}
use Rattle.kc_state.specs.declared.summary.Summary.{Summary}
use Rattle.kc_cert.specs.Conditions.{is_event_counted, is_event_covered, is_kept, is_return_covered}
use Rattle.kc_cert.specs.FirstRefusal.{at_event, demand, each}
use Rattle.kc_cert.specs.Placed.{Placed, events_of}
use Rattle.kc_cert.specs.declared.certificate.Certificate.{Certificate}
use Rattle.kc_cert.specs.declared.certificate.Context.{Context}
use Rattle.kc_cert.specs.declared.certificate.Node.{Node}
use Rattle.kc_cert.specs.declared.refusal.Refusal.{Refusal}

-- C14 of all events, then C15 of all, then C16 of all
abbrev pub events_refusal : Contents → Description → Certificate → Context → Node → Placed → Result (Unit {0}) Refusal
events_refusal image d cert c n p = do
  ok ← each (λ v. demand (is_event_covered d cert p v) (at_event n 14 v)) (events_of d p)
  ok ← each (λ v. demand (is_return_covered image d cert p v) (at_event n 15 v)) (events_of d p)
  each (λ v. demand (is_event_counted image d cert c.summary.clobber p v) (at_event n 16 v)) (events_of d p)

-- what the event of vector v enters that interrupts here
abbrev pub entered_at : Interruption → ℕ → Option (Key × AbsState)
entered_at i v = delivery i.cfg.now i.key.now i.site.now i.state.now i.insn.now v

-- the first event at which a condition failed so far, after it is asked at v
abbrev pub first_failed : Option ℕ → Bool → ℕ → Option ℕ
first_failed (Some first) holds v = Some first
first_failed None holds v = cond holds None (Some v)

-- the refusal of a condition that failed at this event
abbrev pub failed_at : Node → ℕ → Option ℕ → Result (Unit {0}) Refusal
failed_at n k (Some v) = Err (at_event n k v)
failed_at n k None = Ok tt

-- the refusal of C15 or C16, where they failed at these events
abbrev pub failed_refusal : Node → Option ℕ → Option ℕ → Result (Unit {0}) Refusal
failed_refusal n kept counted = do
  ok ← failed_at n 15 kept
  failed_at n 16 counted

-- after a return with this summary nothing new is known
abbrev pub IsKept : Description → Placed → Summary → Type 0
IsKept d p summary = is_kept d p (Some summary) ≡ true
