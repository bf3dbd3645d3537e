-- A delivery. The chain has the new activation while the writes are judged, with a base of 0 where the machine stops;
-- which bytes are live doesn't go by it. Where nothing stops or breaks, what stands is the delivery's.
use Rattle.std.proofs.Common.{◌≡◌, ℕ, Bool, true, cond, List, [], ◌∷◌, ◌++◌, Option, Some, None, Ok, option_map, arith, refl, ap, sym, ◌∙◌, subst}
use Rattle.kc_regions.specs.declared.entry.Gate.{Gate}
use Rattle.kc_regions.specs.Description.{Description}
use Rattle.kc_regions.specs.Lookup.{gate_of}
use Rattle.kc_mem.specs.Memory.{Bytes}
use Rattle.kc_exec.specs.declared.access.Access.{Access}
use Rattle.kc_exec.specs.declared.state.Activation.{Activation}
use Rattle.kc_exec.specs.declared.state.State.{State}
use Rattle.kc_exec.specs.Execution.{stops}
use Rattle.kc_exec.specs.Live.{IsLive}
use Rattle.kc_events.specs.declared.delivery.DeliverEnd.{DeliverEnd}
use Rattle.kc_events.specs.declared.delivery.DeliverEnd.TheVariants.{Delivered as End, Stopped as Cut}
use Rattle.kc_events.specs.Delivery.{Delivered, delivered, delivery, end_of_delivery}
use Rattle.kc_events.specs.Turns.{made_by_event}
use Rattle.kc_events.specs.Attempt.{Attempt, entered}
use Rattle.kc_machine.specs.declared.end.StepEnd.{StepEnd}
use Rattle.kc_machine.specs.declared.end.StepEnd.TheVariants.{NotAllowed, Done, Stopped, Broke}
use Rattle.kc_machine.specs.Chain.{with_base, base_after}
use Rattle.kc_machine.specs.Ends.{Ends}
use Rattle.kc_machine.specs.JudgeSteps.{IsTrialOf, IsJudged, BreaksByAccess}
use Rattle.kc_machine.proofs.ChainLemmas.{base-append}
use Rattle.kc_machine.proofs.JudgeLemmas.{live-any_base}

-- the judgement ends a turn that executes no instruction
pub ends-judged : (cfg : Description) (S : State) (t : Attempt) (end : StepEnd) (T : State)
    → IsJudged cfg S t (Some end) → T.stopped ≡ true
    → Ends cfg S t (BreaksByAccess cfg S t) T (Ok end)
ends-judged cfg S t NotAllowed T j h = absurd j
ends-judged cfg S t Done T j h = absurd j
ends-judged cfg S t Stopped T j h = (j, h)
ends-judged cfg S t (Broke b) T j h = (j, h)

-- the delivery through the gate that the vector has
pub of-gate : (cfg : Description) (S : State) (g : Gate) (code : ℕ) (m : Bytes) → m ≡ S.mem.bytes
    → gate_of cfg.gates g.vector ≡ Some g
    → delivery cfg m S.cpu S.latch g.vector code ≡ Some (delivered cfg S.mem.bytes S.cpu S.latch g code)
of-gate cfg S g code m same found =
    ap (λ (o : Option Gate). option_map (λ h. delivered cfg m S.cpu S.latch h code) o) found
    ∙ ap (λ (b : Bytes). Some (delivered cfg b S.cpu S.latch g code)) same

-- the chain while the writes are judged
pub chain-is : (S : State) (g : Gate) (base : ℕ) (pushed now : List Activation) → pushed ≡ S.chain
    ++ made_by_event S.cpu g.vector 0 ∷ []
    → now ≡ with_base base pushed → now ≡ S.chain ++ made_by_event S.cpu g.vector base ∷ []
chain-is S g base pushed now is set =
    set ∙ ap (λ (ch : List Activation). with_base base ch) is ∙ base-append S.chain (made_by_event S.cpu g.vector 0)
    base

pub entering : (cfg : Description) (S : State) (g : Gate) (d : Delivered) (base : ℕ) (live : List Activation)
    (items : List Access)
    → live ≡ S.chain ++ made_by_event S.cpu g.vector base ∷ [] → items ≡ d.accesses
    → IsTrialOf cfg S (entered S g.vector d) S.cpu live items [] []
entering cfg S g d base live items chain listed = record {
  cpu = refl;
  accesses = sym listed;
  bytes = refl;
  placed = λ k e lt. absurd (omega (arith, lt));
  more = λ x h.
      subst (λ (ch : List Activation). IsLive cfg ch x) (sym chain)
      (live-any_base cfg S.chain (made_by_event S.cpu g.vector 0) d.base base x h);
  no_more = λ x h.
      live-any_base cfg S.chain (made_by_event S.cpu g.vector 0) base d.base x
      (subst (λ (ch : List Activation). IsLive cfg ch x) chain h);
}

-- nothing stops or breaks the delivery
pub done-entering : (cfg : Description) (S T : State) (g : Gate) (d : Delivered) (end : DeliverEnd) (m : Bytes)
    → end ≡ end_of_delivery cfg d → T.cpu ≡ cond (stops cfg d.accesses) S.cpu d.cpu
    → T.latch ≡ cond (stops cfg d.accesses) S.latch d.latch
    → T.mem.bytes ≡ cond (stops cfg d.accesses) m d.mem → T.stopped ≡ S.stopped
    → T.chain ≡ S.chain ++ made_by_event S.cpu g.vector (base_after end) ∷ []
    → IsJudged cfg S (entered S g.vector d) None
    → Ends cfg S (entered S g.vector d) (BreaksByAccess cfg S (entered S g.vector d)) T (Ok Done)
done-entering cfg S T g d end m end_is cpu_is latch_is mem_is stopped_is chain_is j = (
  j,
  record {
    cpu = cpu_is ∙ ap (λ (s : Bool). cond s S.cpu d.cpu) j.0;
    latch = latch_is ∙ ap (λ (s : Bool). cond s S.latch d.latch) j.0;
    mem = mem_is ∙ ap (λ (s : Bool). cond s m d.mem) j.0;
    stopped = stopped_is;
    chain =
        chain_is ∙ ap (λ (e : DeliverEnd). S.chain ++ made_by_event S.cpu g.vector (base_after e) ∷ []) end_is
        ∙ ap (λ (s : Bool). S.chain ++ made_by_event S.cpu g.vector (base_after (cond s Cut (End d.base))) ∷ []) j.0;
  },
)
