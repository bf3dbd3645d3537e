-- Events and returns are covered, by the laws on arrivals and on what holds after an event: an event that may come has a
-- gate, whose vector is below 256, so it is in the set that has just those that may come.
use Rattle.std.proofs.Common.{◌≡◌, ℕ, ◌<◌, Bool, true, List, All, Option, Some, None, refl, sym, ◌∙◌, subst}
use Rattle.std.specs.Prelude.{IfOk, Result, Ok, Err}
use Rattle.kc_insn.specs.declared.insn.Insn.{Insn}
use Rattle.kc_regions.specs.Description.{Description}
use Rattle.kc_regions.specs.Lookup.{gate_of}
use Rattle.kc_regions.specs.Ranges.{IsGateInRange}
use Rattle.kc_regions.specs.Valid.{IsValid}
use Rattle.kc_regions.specs.declared.entry.Gate.{Gate}
use Rattle.kc_state.specs.AbsEvents.{arrivals_at, arrives, comes, comes_from_user, is_gate, user_comes}
use Rattle.kc_state.specs.AbsDelivery.{user_entry}
use Rattle.kc_state.specs.AbsReturn.{returned}
use Rattle.kc_state.specs.State.{IsState}
use Rattle.kc_state.specs.User.{IsUserState}
use Rattle.kc_state.specs.declared.condition.Condition.{Condition}
use Rattle.kc_state.specs.declared.key.Key.{Key}
use Rattle.kc_state.specs.declared.scratch.Scratch.{Scratch}
use Rattle.kc_state.specs.declared.site.Site.{Site}
use Rattle.kc_state.specs.declared.state.AbsState.{AbsState}
use Rattle.kc_state.specs.declared.summary.Summary.{Summary}
use Rattle.kc_state.specs.declared.user.UserState.{UserState}
use Rattle.kc_describes.specs.Describes.{Describes}
use Rattle.kc_arrivals.proofs.GateLemmas.{found_gate}
use Rattle.kc_arrivals.proofs.KernelLemmas.{event_is_among}
use Rattle.kc_arrivals.proofs.UserLemmas.{user_event_is_among}
use Rattle.kc_after.proofs.AfterLemmas.{described_after}
use Rattle.kc_delivers.proofs.FromUserLemmas.{user_delivery_is_covered}
use Rattle.kc_delivers.proofs.SyscallLemmas.{syscall_is_covered}
use Rattle.kc_absevent.specs.Covers.{CoversEvents, CoversUserEvents, CoversEntry, CoversReturn}
use Rattle.kc_absevent.specs.Ends.{Delivers}
use Rattle.kc_absevent.specs.Sets.{IsSetOf}

-- a vector that has a gate is below 256
few : (test : Gate → Bool) (gates : List Gate) (v : ℕ) (o : Option Gate) → gate_of gates v ≡ o
    → All IsGateInRange gates → is_gate test o ≡ true → v < 256
few test gates v (Some g) e all passes =
    let f = found_gate gates v g e all in
    subst (λ n. n < 256) f.0 f.1.vector.0
few test gates v None e all passes = absurd cc

pub events_covered : (cfg : Description) (key : Key) (site : Site) (s : AbsState) (insn : Insn) (len : ℕ)
    (vectors : List ℕ) → IsValid cfg → IsState s → IsSetOf vectors (comes cfg key site s insn len)
    → CoversEvents cfg key site s insn len vectors
events_covered cfg key site s insn len vectors valid state set image S found turn v spelled permitted D fetched allowed
    is =
    let come = event_is_among cfg image key site insn len s S found turn v (record {
      valid = valid;
      state = state;
      spelled = spelled;
      permitted = permitted;
      described = D;
    }) fetched allowed is in
    set v (few (arrives (arrivals_at cfg key site s insn len)) cfg.gates v (gate_of cfg.gates v) refl
    valid.ranges.gates come) ∙ come

pub user_events_covered : (cfg : Description) (u : UserState) (vectors : List ℕ) → IsValid cfg
    → IsSetOf vectors (user_comes cfg u) → CoversUserEvents cfg u vectors
user_events_covered cfg u vectors valid set S found turn v D allowed is =
    let come = user_event_is_among cfg u S found turn v valid D allowed is in
    set v (few (comes_from_user u) cfg.gates v (gate_of cfg.gates v) refl valid.ranges.gates come) ∙ come

entry_covered : (cfg : Description) (u : UserState) (entry : Option ℕ) (key : Key) (out : AbsState) → IsValid cfg
    → IsUserState u → user_entry cfg u entry ≡ Some (key, out) → CoversEntry cfg u entry key out
entry_covered cfg u (Some v) key out valid state is = λ image S turn D delivers comes.
    user_delivery_is_covered cfg image u S turn v key out valid state D delivers comes is
entry_covered cfg u None key out valid state is = λ image S D comes.
    syscall_is_covered cfg image u S key out valid state D comes is

pub entries_covered : (cfg : Description) (u : UserState) (entry : Option ℕ) (result : Result Key Condition)
    (old new : Scratch) → IsValid cfg → IsUserState u → Delivers result old new (user_entry cfg u entry)
    → IfOk result (λ key. CoversEntry cfg u entry key new.out)
entries_covered cfg u entry (Ok key) old new valid state delivers =
    entry_covered cfg u entry key new.out valid state delivers.0
entries_covered cfg u entry (Err e) old new valid state delivers = tt

pub return_covered : (cfg : Description) (key : Key) (site : Site) (s : AbsState) (summary : Summary) (back : AbsState)
    → IsValid cfg → IsState s → back ≡ returned cfg key s summary → CoversReturn cfg key site s summary back
return_covered cfg key site s summary back valid state is found a S T next exact D comes =
    subst (λ o. Describes cfg key site found o T) (sym is) (described_after cfg key site found s summary a S T (record {
      valid = valid;
      state = state;
      next = next;
      exact = exact;
      described = D;
    }) comes)
