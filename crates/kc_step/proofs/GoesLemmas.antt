-- Where kernel code goes on after an instruction that isn't a return: the machine stops, or the state with the change
-- describes it at the address where it goes on. A step that is done touched no guard, so it is the row of the
-- instruction; slots and bytes are those after its write.
use Rattle.std.proofs.Common.{◌≡◌, ℕ, ◌⊎◌, inl, inr, true, false, List, Option, Some, refl, sym, ap, ◌∙◌, subst}
use Rattle.std.specs.List.{list_all}
use Rattle.std.specs.Prelude.{if◌then◌else◌, ◌++◌}
use Rattle.std.proofs.lemmas.Bool.{and_parts, cases_Bool}
use Rattle.kc_insn.specs.declared.insn.Insn.{Insn}
use Rattle.kc_image.specs.Image.{Contents}
use Rattle.kc_regions.specs.Description.{Description}
use Rattle.kc_regions.specs.declared.touch.Touch.TheVariants.{Write as ForWrite}
use Rattle.kc_cpu.specs.declared.cpu.Mode.TheVariants.{Code}
use Rattle.kc_exec.specs.Effect.{row}
use Rattle.kc_exec.specs.Execution.{stops, with_write}
use Rattle.kc_exec.specs.declared.executed.ExecEnd.{ExecEnd}
use Rattle.kc_exec.specs.declared.executed.ExecEnd.TheVariants.{Next}
use Rattle.kc_exec.specs.declared.executed.Executed.{Executed}
use Rattle.kc_exec.specs.declared.state.Activation.{Activation}
use Rattle.kc_exec.specs.declared.state.State.{State}
use Rattle.kc_events.specs.declared.turn.Turn.TheVariants.{Go}
use Rattle.kc_events.specs.Attempt.{Attempt, attempt, is_return}
use Rattle.kc_events.specs.Fetched.{IsAt}
use Rattle.kc_events.specs.Run.{IsLike, after, Stops, Steps}
use Rattle.kc_events.specs.Run.Steps.{Refused, Halted, Done}
use Rattle.kc_events.specs.Turns.{without_newest, mode_below}
use Rattle.kc_state.specs.AbsEffect.{AbsStore, AbsChange, abs_row, applied}
use Rattle.kc_state.specs.Conditions.{reads_of, write_of, accesses_of, may_at, permits_more}
use Rattle.kc_state.specs.Operand.{AbsMoment}
use Rattle.kc_state.specs.declared.key.Key.{Key}
use Rattle.kc_state.specs.declared.state.AbsState.{AbsState}
use Rattle.kc_describes.specs.Chain.{env_of}
use Rattle.kc_describes.specs.Describes.{Describes}
use Rattle.kc_describes.specs.Fits.{IsKernelCpu}
use Rattle.kc_describes.specs.Row.{RowStands}
use Rattle.kc_describes.specs.Widths.{IsCpu}
use Rattle.kc_describes.proofs.FrameLemmas.{after_row}
use Rattle.kc_moves.specs.Moves.{StoreAgrees}
use Rattle.kc_calls.specs.Laws.{code_at}
use Rattle.kc_calls.proofs.InsideLemmas.{like_described}
use Rattle.kc_effects.specs.Effects.{IsNoReturn}
use Rattle.kc_step.specs.Step.{IsAtInsn}
use Rattle.kc_step.proofs.PassLemmas.{PassesAll}
use Rattle.kc_step.proofs.AccessLemmas.{before}
use Rattle.kc_step.proofs.BreakLemmas as step
use Rattle.kc_step.proofs.BreakLemmas.{row_end, found_one, is_row, unbroken, quiet}
use Rattle.kc_step.proofs.BytesLemmas.{bytes_after}
use Rattle.kc_step.proofs.SlotLemmas.{slots_after, bare_after}
use Rattle.kc_step.proofs.StoreLemmas.{last_agrees, may_all}

-- what a row leaves, where kernel code goes on at this address
pub record RunsOnAt (cfg : Description) (chain : List Activation) (out : AbsState) (made : Option AbsStore)
    (done : Executed) (t : ℕ) : Type 0
  where
    pub row : RowStands cfg (env_of cfg chain) out done.cpu done.latch
    pub typed : IsCpu done.cpu
    pub kernel : IsKernelCpu cfg done.cpu
    pub mode : done.cpu.mode ≡ Code
    pub rip : done.cpu.rip ≡ t
    pub store : StoreAgrees cfg chain made done.write

-- the state after an instruction, by its end
abbrev pub left_by : State → Executed → ExecEnd → State
left_by S done end = record S {
  cpu = if is_return end then record done.cpu { mode = mode_below S.chain done.cpu.mode } else done.cpu;
  latch = done.latch;
  mem = record S.mem { bytes = with_write done.write S.mem.bytes };
  chain = if is_return end then without_newest S.chain else S.chain;
}

-- at a code site it doesn't matter which instruction is found
whatever_found : (cfg : Description) (key : Key) (t : ℕ) (found other : Option (Insn × ℕ)) (s : AbsState) (S : State)
    → Describes cfg key (code_at t) found s S → Describes cfg key (code_at t) other s S
whatever_found cfg key t found other s S D = record {
  typed = D.typed;
  running = D.running;
  chain = D.chain;
  floors = D.floors;
  file = D.file;
  spaces = D.spaces;
  slots = D.slots;
  bare = D.bare;
  kernel = D.kernel;
  point = D.point;
}

may_store : (m : AbsMoment) (insn : Insn) (st : Option AbsStore)
    → list_all (λ a. may_at m a.at a.size a.touch) (reads_of m insn ++ write_of st) ≡ true → (x : AbsStore)
    → st ≡ Some x → may_at m x.at x.size ForWrite ≡ true
may_store m insn st h x e =
    may_all m (reads_of m insn) x
    (subst (λ o. list_all (λ a. may_at m a.at a.size a.touch) (reads_of m insn ++ write_of o) ≡ true) e h)

module _ (cfg : Description) (image : Contents) (key : Key) (at : ℕ) (insn : Insn) (len : ℕ) (s : AbsState)
    (S : State) (H : IsAtInsn cfg image key at insn len s S) (keeps : IsNoReturn insn)
    (pass : PassesAll (before cfg image key at insn len s S H) s insn) where
  abbrev here : AbsMoment
  here = before cfg image key at insn len s S H

  abbrev change : AbsChange
  change = abs_row here insn

  abbrev done : Executed
  done = row (step.m cfg image key at insn len s S H keeps pass) insn

  abbrev t : Attempt
  t = step.t cfg image key at insn len s S H keeps pass

  abbrev out : AbsState
  out = applied cfg key s change

  -- after a row that leads to an address
  described : (to : ℕ) → RunsOnAt cfg S.chain out change.store done to
      → Describes cfg key (code_at to) (Some (insn, len)) out (left_by S done Next)
  described to R =
      let p = and_parts (list_all (λ a. may_at here a.at a.size a.touch) (accesses_of here insn change.store))
      (permits_more here insn) pass.permitted in
      let D = H.described in
      after_row cfg key at to (Some (insn, len)) s out S done.cpu done.latch (with_write done.write S.mem.bytes) D R.typed
      (bytes_after done.write S.mem.bytes D.typed.mem) R.row refl
      (slots_after cfg H.valid key S.chain D.chain D.typed.chain here refl refl s.slots H.state.slots.1 S.mem.bytes
      D.slots D.bare change.store done.write (may_store here insn change.store p.0) R.store
      (last_agrees cfg image key at insn len s S H keeps pass))
      (bare_after cfg H.valid key S.chain D.chain D.typed.chain here refl refl s.slots H.state.slots.1 S.mem.bytes
      D.slots D.bare change.store) R.kernel R.mode R.rip

  left_is : stops cfg t.accesses ≡ false → after S t ≡ left_by S done Next
  left_is runs =
      ap (λ (d : Executed). left_by S d d.end) (is_row cfg image key at insn len s S H keeps pass runs)
      ∙ ap (left_by S done) (row_end (step.m cfg image key at insn len s S H keeps pass) insn keeps)

  -- a step that doesn't halt touches no guard
  runs_free : ((¬ Stops cfg image S Go)) → stops cfg t.accesses ≡ false
  runs_free free = elim (cases_Bool (stops cfg t.accesses)) [
    | inl halts ↦ absurd (free (record {
      found = Some (insn, len);
      fetched = subst (λ a. IsAt image a (Some (insn, len))) (sym H.described.point.1) H.spelled;
      allowed = (H.described.running, H.described.point.0);
      stops = halts;
      quiet = unbroken cfg image key at insn len s S H keeps pass;
    }))
    | inr runs ↦ runs
  ]

  -- what is left, where the machine doesn't stop
  pub goes : (T : State) → Steps cfg image S Go T
      → (T.stopped ≡ true) ⊎ ((stops cfg t.accesses ≡ false) × IsLike T (left_by S done Next))
  goes T (Refused found fetched refused like) = absurd (refused (H.described.running, H.described.point.0))
  goes T (Halted how like) = inl like.stopped
  goes T (Done found fetched allowed free whole like) =
      let runs = runs_free free in
      let own = subst (λ f. IsLike T (after S (attempt cfg f S Go)))
      (found_one cfg image key at insn len s S H keeps pass found fetched) like in
      inr (runs, subst (IsLike T) (left_is runs) own)

  -- and where the row leads to an address, the state with the change describes it there
  pub leads : (to : ℕ) → RunsOnAt cfg S.chain out change.store done to → (T : State) → IsLike T (left_by S done Next)
      → (found : Option (Insn × ℕ)) → Describes cfg key (code_at to) found out T
  leads to R T like found =
      like_described cfg key (code_at to) found out T (left_by S done Next) like
      (whatever_found cfg key to (Some (insn, len)) found out (left_by S done Next) (described to R))
