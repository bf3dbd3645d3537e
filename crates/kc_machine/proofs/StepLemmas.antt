-- From the end of a turn that may come to the answers of a step. There is one instruction at RIP, so what is said of
-- some is said of the one that was fetched.
use Rattle.std.proofs.Common.{◌≡◌, ℕ, true, Option, Result, Ok, Err, OnErr, sym, ◌∙◌, subst}
use Rattle.std.proofs.lemmas.Bool.{false≢true}
use Rattle.kc_plain.specs.declared.memory.NoMemory.{NoMemory}
use Rattle.kc_insn.specs.declared.insn.Insn.{Insn}
use Rattle.kc_image.specs.Image.{Contents}
use Rattle.kc_regions.specs.Description.{Description}
use Rattle.kc_exec.specs.declared.state.State.{State}
use Rattle.kc_exec.specs.Execution.{stops}
use Rattle.kc_events.specs.declared.turn.Turn.{Turn}
use Rattle.kc_events.specs.Fetched.{IsAt}
use Rattle.kc_events.specs.Allowed.{IsAllowed}
use Rattle.kc_events.specs.Attempt.{attempt}
use Rattle.kc_events.specs.Breaks.{BreaksWith}
use Rattle.kc_events.specs.Run.{Breaks, BreaksFirst, Stops, IsLike}
use Rattle.kc_machine.specs.declared.end.StepEnd.{StepEnd}
use Rattle.kc_machine.specs.declared.end.StepEnd.TheVariants.{NotAllowed, Done, Stopped, Broke}
use Rattle.kc_machine.specs.Ends.{Ends}
use Rattle.kc_machine.specs.Step.{Taken}

module _ (cfg : Description) (image : Contents) (S : State) (turn : Turn) (found : Option (Insn × ℕ))
    (fetched : IsAt image S.cpu.rip found)
    (only : (f : Option (Insn × ℕ)) → IsAt image S.cpu.rip f → f ≡ found) (allowed : IsAllowed cfg found S turn)
    (T : State) where
  abbrev Ending : Result StepEnd NoMemory → Type 0
  Ending r = Ends cfg S (attempt cfg found S turn) (λ b. BreaksWith cfg found S turn (attempt cfg found S turn) b) T r

  -- the break of some instruction there is that of the one that was found
  one-break : (b : ℕ) → Breaks cfg image S turn b → BreaksWith cfg found S turn (attempt cfg found S turn) b
  one-break b x = subst (λ (f : Option (Insn × ℕ)). BreaksWith cfg f S turn (attempt cfg f S turn) b)
      (only x.found x.fetched) x.broken

  one-stop : Stops cfg image S turn → stops cfg (attempt cfg found S turn).accesses ≡ true
  one-stop x = subst (λ (f : Option (Insn × ℕ)). stops cfg (attempt cfg f S turn).accesses ≡ true)
      (only x.found x.fetched) x.stops

  pub taken : (r : Result StepEnd NoMemory) → Ending r → r ≡ Ok Done → Taken cfg image S turn T
  taken r ends e =
      let h : Ending (Ok Done) = subst Ending e ends in record {
        found = found;
        fetched = fetched;
        allowed = allowed;
        runs_on = λ x. false≢true (sym h.0.0 ∙ one-stop x);
        unbroken = λ b x. h.0.1 b (one-break b x);
        left = h.1;
      }

  pub stopped : (r : Result StepEnd NoMemory) → Ending r → r ≡ Ok Stopped → Stops cfg image S turn × (T.stopped ≡ true)
  stopped r ends e =
      let h : Ending (Ok Stopped) = subst Ending e ends in
      (record { found = found; fetched = fetched; allowed = allowed; stops = h.0.0; quiet = h.0.1 }, h.1)

  pub broke : (r : Result StepEnd NoMemory) (b : ℕ) → Ending r → r ≡ Ok (Broke b) → BreaksFirst cfg image S turn b
      × (T.stopped ≡ true)
  broke r b ends e =
      let h : Ending (Ok (Broke b)) = subst Ending e ends in (
        (
          record { found = found; fetched = fetched; allowed = allowed; broken = h.0.0 },
          λ k lt x. h.0.1 k lt (one-break k x),
        ),
        h.1,
      )

  pub never-refused : (r : Result StepEnd NoMemory) → Ending r → r ≡ Ok NotAllowed → ⊥
  never-refused r ends e = let h : Ending (Ok NotAllowed) = subst Ending e ends in h.0

  pub out-of-memory : (r : Result StepEnd NoMemory) → Ending r → OnErr r (IsLike T S)
  out-of-memory (Ok end) ends = tt
  out-of-memory (Err e) ends = ends
