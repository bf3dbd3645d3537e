-- The law of a handler's step. The turn is the step of the handler that runs, whose contract says what may come; a step
-- that is done touched no guard, so the state describes what it leaves, first without the edit and then with it.
use Rattle.std.proofs.Common.{◌≡◌, ℕ, true, false, Option, Some, IsSomeAnd, option_and_then, inl, inr, ◌⊎◌, sym, ap, ◌∙◌, subst}
use Rattle.std.proofs.lemmas.Bool.{cases_Bool}
use Rattle.kc_insn.specs.declared.insn.Insn.{Insn}
use Rattle.kc_image.specs.Image.{Contents}
use Rattle.kc_regions.specs.Description.{Description}
use Rattle.kc_regions.specs.Region.{stack_at}
use Rattle.kc_regions.specs.Valid.{IsValid}
use Rattle.kc_regions.specs.declared.entry.Handler.{Handler}
use Rattle.kc_regions.specs.declared.region.Region.{Region}
use Rattle.kc_cpu.specs.declared.cpu.Mode.{Mode}
use Rattle.kc_exec.specs.Execution.{stops}
use Rattle.kc_exec.specs.declared.state.State.{State}
use Rattle.kc_events.specs.Allowed.{InHandler, OfStack, stack_over, MayBody, IsAllowed, is_edit}
use Rattle.kc_events.specs.Attempt.{Attempt, idle, inside, body_step, frame_of}
use Rattle.kc_events.specs.Breaks.{BreaksWith}
use Rattle.kc_events.specs.Delivery.{with_pushed}
use Rattle.kc_events.specs.Run.{after, Breaks, Stops, Steps}
use Rattle.kc_events.specs.Run.Steps.{Refused, Halted, Done}
use Rattle.kc_events.specs.declared.turn.BodySet.{BodySet}
use Rattle.kc_events.specs.declared.turn.Turn.TheVariants.{Body}
use Rattle.kc_state.specs.State.{IsState}
use Rattle.kc_state.specs.declared.key.Key.{Key}
use Rattle.kc_state.specs.declared.state.AbsState.{AbsState}
use Rattle.kc_describes.specs.Describes.{Describes}
use Rattle.kc_calls.specs.Laws.{body_of}
use Rattle.kc_calls.proofs.InsideLemmas.{IsRunning, running_of, like_described}
use Rattle.kc_body.specs.Body.{IsBodySet, IsExactInside, IsBodyCovered, BodyIsCovered}
use Rattle.kc_body.specs.Edit.{edited_state}
use Rattle.kc_body.proofs.EditLemmas.{edited_described}
use Rattle.kc_body.proofs.QuietLemmas.{quiet_turn, no_words}
use Rattle.kc_body.proofs.StackLemmas.{pointer_is}
use Rattle.kc_body.proofs.TurnLemmas as step
use Rattle.kc_body.proofs.TurnLemmas.{stepped, stepped_described, same_chain}

-- ---- what may come

module _ (cfg : Description) (key : Key) (at : ℕ) (insn : Insn) (len : ℕ) (s : AbsState) (S : State) (b : BodySet)
    (r : IsRunning cfg key at insn len s S) where
  over : stack_over cfg.regions r.call.rsp ≡ Some r.running.stack.region
  over = ap (option_and_then (λ i. stack_at cfg.regions i)) r.running.stack.holds ∙ r.running.stack.numbered

  may_of : (here : Option (Insn × ℕ)) → IsAllowed cfg here S (Body b)
      → MayBody cfg S r.call r.handler r.running.stack.region b
  may_of here allowed =
      let in_mode = subst (λ m. InHandler cfg m
      (λ call h. OfStack cfg call.rsp (λ stack. MayBody cfg S call h stack b))) r.mode allowed.1 in
      let of_handler = subst (λ (o : Option Handler). IsSomeAnd o
      (λ h. OfStack cfg r.call.rsp (λ stack. MayBody cfg S r.call h stack b))) r.contract in_mode in
      subst (λ (o : Option Region). IsSomeAnd o (λ stack. MayBody cfg S r.call r.handler stack b)) over of_handler

-- ---- the turn

module _ (cfg : Description) (valid : IsValid cfg) (key : Key) (at : ℕ) (insn : Insn) (len : ℕ) (s : AbsState)
    (is : IsState s) (S : State) (D : Describes cfg key (body_of at) (Some (insn, len)) s S)
    (exact : IsExactInside cfg key s) (b : BodySet) (typed : IsBodySet b)
    (r : IsRunning cfg key at insn len s S) (here : Option (Insn × ℕ)) (allowed : IsAllowed cfg here S (Body b))
    (image : Contents) where
  abbrev may : MayBody cfg S r.call r.handler r.running.stack.region b
  may = may_of cfg key at insn len s S b r here allowed

  abbrev turn : Mode → Attempt
  turn now = inside now (idle S) (λ call. body_step S b (frame_of cfg call))

  -- what the step leaves, where it has no edit
  unedited : is_edit b.edit ≡ false → edited_state cfg (stepped S b) r.call b.edit ≡ stepped S b
  unedited plain =
      let words = no_words (frame_of cfg r.call) b.edit plain in
      let chain = same_chain b.edit S.chain plain in
      λ i. record (stepped S b) {
        mem = record (stepped S b).mem { bytes = with_pushed (stepped S b).mem.bytes (words i) };
        chain = chain i;
      }

  judged_quiet : (found : Option (Insn × ℕ)) (n : ℕ) → BreaksWith cfg found S (Body b) (turn S.cpu.mode) n → ⊥
  judged_quiet found n h =
      quiet_turn cfg valid key s S D.chain r.call r.handler r.running b typed may (frame_of cfg r.call) found n
      (subst (λ m. BreaksWith cfg found S (Body b) (turn m) n) r.mode h)

  quiet : (n : ℕ) → Breaks cfg image S (Body b) n → ⊥
  quiet n h = judged_quiet h.found n h.broken

  -- an edit leaves a machine that the state describes
  abbrev pub EditIsKept : Type 0
  EditIsKept = is_edit b.edit ≡ true → Describes cfg key (body_of at) (Some (insn, len)) s (stepped S b)
      → Describes cfg key (body_of at) (Some (insn, len)) s (edited_state cfg (stepped S b) r.call b.edit)

  -- where the machine goes on, the state describes what the turn leaves
  left_described : EditIsKept → stops cfg (turn S.cpu.mode).accesses ≡ false
      → Describes cfg key (body_of at) (Some (insn, len)) s (after S (turn S.cpu.mode))
  left_described edits runs =
      let own = subst (λ m. stops cfg (turn m).accesses ≡ false) r.mode runs in
      let D' = stepped_described cfg valid key at insn len s is S D exact b typed r may own in
      let all : Describes cfg key (body_of at) (Some (insn, len)) s (edited_state cfg (stepped S b) r.call b.edit) =
      elim (cases_Bool (is_edit b.edit)) [
        | inl edit ↦ edits edit D'
        | inr plain ↦ subst (Describes cfg key (body_of at) (Some (insn, len)) s) (sym (unedited plain)) D'
      ] in
      subst (λ m. Describes cfg key (body_of at) (Some (insn, len)) s (after S (turn m))) (sym r.mode) all

  runs_free : (found : Option (Insn × ℕ)) → IsAllowed cfg found S (Body b)
      → (stops cfg (turn S.cpu.mode).accesses ≡ true → Stops cfg image S (Body b)) → ¬ Stops cfg image S (Body b)
      → stops cfg (turn S.cpu.mode).accesses ≡ false
  runs_free found may' halts free = elim (cases_Bool (stops cfg (turn S.cpu.mode).accesses)) [
    | inl e ↦ absurd (free (halts e))
    | inr runs ↦ runs
  ]

  goes : EditIsKept → (T : State) → Steps cfg image S (Body b) T
      → (T.stopped ≡ true) ⊎ Describes cfg key (body_of at) (Some (insn, len)) s T
  goes edits T (Refused found fetched refused like) = absurd (refused (allowed.0, allowed.1))
  goes edits T (Halted how like) = inl like.stopped
  goes edits T (Done found fetched may' free whole like) =
      let runs = runs_free found may' (λ e. record {
        found = found;
        fetched = fetched;
        allowed = may';
        stops = e;
        quiet = λ n. judged_quiet found n;
      }) free in
      inr (like_described cfg key (body_of at) (Some (insn, len)) s T (after S (turn S.cpu.mode)) like
      (left_described edits runs))

  pub step_covered : EditIsKept → IsBodyCovered cfg image key at insn len s S b
  step_covered edits = record { quiet = quiet; goes = goes edits }

pub body_covered : BodyIsCovered
body_covered cfg image key at insn len s S b here valid is typed D exact allowed =
    let r = running_of cfg key at insn len s S D in
    let may = may_of cfg key at insn len s S b r here allowed in
    let file = step.file cfg valid key at insn len s is S D exact b typed r may in
    let call = step.call_typed cfg valid key at insn len s is S D exact b typed r may in
    let pointer = pointer_is cfg valid key S.chain D.chain D.typed.chain s is r.call call.rsp file.rsp exact S.cpu
    r.handler r.running in
    step_covered cfg valid key at insn len s is S D exact b typed r here allowed image (λ edits D'.
    edited_described cfg key at (Some (insn, len)) s (stepped S b) r.call b.edit valid is D' (record {
      handler = r.handler;
      stack = r.running.stack.region;
      location = pointer.location;
      mode = r.mode;
      contract = r.contract;
      over = over cfg key at insn len s S b r;
      user = (may.framed edits).user;
      frame = (may.framed edits).frame;
      edits = may.edits;
      words = typed.edit;
      placed = pointer.named;
    }))
