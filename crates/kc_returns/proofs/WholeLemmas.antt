-- A whole return. What an IRETQ and a SYSRETQ leave has the facts of `IsReturnTurn`; from these alone nothing breaks,
-- and a step that doesn't stop gives the context back. One instruction is found, so each break speaks of this one.
use Rattle.std.proofs.Common.{◌≡◌, ℕ, ◌+◌, ◌^◌, ◌<◌, ◌⊎◌, inl, inr, true, length, All, Option, Some, IsSomeAnd, refl, sym, ap, ◌∙◌, subst, arith}
use Rattle.std.specs.Option.{option_map_or}
use Rattle.std.proofs.lemmas.Bool.{and_parts}
use Rattle.kc_bits.specs.Bits.{word}
use Rattle.kc_insn.specs.declared.insn.Insn.{Insn}
use Rattle.kc_insn.specs.declared.insn.Insn.TheVariants.{Iretq, Sysretq}
use Rattle.kc_image.specs.Image.{Contents}
use Rattle.kc_regions.specs.Description.{Description}
use Rattle.kc_cpu.specs.declared.cpu.Mode.{Mode}
use Rattle.kc_exec.specs.Breaks.{effect}
use Rattle.kc_exec.specs.Effect.{row}
use Rattle.kc_exec.specs.Execution.{moment}
use Rattle.kc_exec.specs.Operand.{plus}
use Rattle.kc_exec.specs.declared.executed.ExecEnd.{ExecEnd}
use Rattle.kc_exec.specs.declared.executed.ExecEnd.TheVariants.{Returned, Forbidden}
use Rattle.kc_exec.specs.declared.state.Activation.{Activation}
use Rattle.kc_exec.specs.declared.state.State.{State}
use Rattle.kc_events.specs.declared.turn.Turn.TheVariants.{Go}
use Rattle.kc_events.specs.Attempt.{Attempt, executed, attempt}
use Rattle.kc_events.specs.Breaks.{Restores, IsUndecodable, BreaksWith}
use Rattle.kc_events.specs.Fetched.{IsAt}
use Rattle.kc_events.specs.Run.{IsLike, after, Breaks, Steps}
use Rattle.kc_events.specs.Run.Steps.{Refused, Halted, Done}
use Rattle.kc_events.specs.Turns.{newest, without_newest, mode_below}
use Rattle.kc_state.specs.AbsEffect.{moment_of}
use Rattle.kc_state.specs.Conditions.{frame_restores, rest_restores}
use Rattle.kc_state.specs.Operand.{AbsMoment}
use Rattle.kc_state.specs.declared.key.Key.{Key}
use Rattle.kc_state.specs.declared.state.AbsState.{AbsState}
use Rattle.kc_describes.specs.Chain.{newest_of}
use Rattle.kc_describes.specs.Spaces.{LatchesStand}
use Rattle.kc_describes.specs.Widths.{IsWord}
use Rattle.kc_describes.proofs.QuietLemmas.{IsQuiet, quiet_gs, quiet_touches, quiet_writes}
use Rattle.kc_returns.specs.Returns.{due_of, latches_at_return}
use Rattle.kc_returns.specs.Whole.{PassesReturn, IsReturnAt, HoldsFrame, FrameIsDue}
use Rattle.kc_returns.specs.Whole.{IsBack, IsReturnCovered, ReturnIsCovered}
use Rattle.kc_returns.proofs.LoadLemmas.{latches_follow}
use Rattle.kc_returns.proofs.FetchLemmas.{one_found, decodable}
use Rattle.kc_returns.proofs.WordLemmas.{frame_due}
use Rattle.kc_returns.proofs.ContextLemmas.{newest_some, loads_user, given_back}
use Rattle.kc_returns.proofs.ContextLemmas.{iret_restores, iret_typed, sysret_restores}
use Rattle.kc_returns.proofs.AccessLemmas.{sysret_quiet, iret_quiet}

-- ---- what a return leaves

abbrev pub tried : Description → Insn → ℕ → State → Attempt
tried cfg insn len S = executed S len (effect (moment cfg S.cpu S.latch S.mem.bytes len) insn)

pub record IsReturnTurn (cfg : Description) (insn : Insn) (len : ℕ) (S : State) : Type 0 where
  pub end : (effect (moment cfg S.cpu S.latch S.mem.bytes len) insn).end ≡ Returned
  pub quiet : All (IsQuiet cfg S.cpu.cr3 S.cpu.gs S.chain) (tried cfg insn len S).accesses
  pub regs : (length (tried cfg insn len S).cpu.regs ≡ 16) × All IsWord (tried cfg insn len S).cpu.regs
  pub into : (tried cfg insn len S).cpu.mode ≡ (newest_of S.chain).saved.mode
  pub back : Restores (tried cfg insn len S).cpu (newest_of S.chain)
  pub memory : (tried cfg insn len S).mem ≡ S.mem.bytes
  pub left : (tried cfg insn len S).left ≡ without_newest S.chain
  pub syscall : insn ≡ Sysretq → (newest_of S.chain).syscall ≡ true

-- the address after the instruction, what is known before it, and the mode that it goes back to
abbrev next : State → ℕ → ℕ
next S len = plus S.cpu.rip len

next_fits : (S : State) (len : ℕ) → next S len < 2 ^ 64
next_fits S len = omega arith

abbrev before : Description → Key → AbsState → State → ℕ → AbsMoment
before cfg key s S len = moment_of cfg key s (next S len)

abbrev into : State → Mode
into S = mode_below S.chain S.cpu.mode

module _ (cfg : Description) (image : Contents) (key : Key) (at : ℕ) (insn : Insn) (len : ℕ) (s : AbsState)
    (S : State) (H : IsReturnAt cfg image key at insn len s S) where
  at_fits : at < 2 ^ 64
  at_fits = subst IsWord H.described.point.1 H.described.typed.cpu.rip

  -- the conditions, with the address after the instruction as the machine has it
  passes : PassesReturn (before cfg key s S len) insn
  passes =
      subst (λ a. PassesReturn (moment_of cfg key s (word (a + len))) insn) (sym H.described.point.1) H.passes

  mode_back : into S ≡ (newest_of S.chain).saved.mode
  mode_back =
      ap (λ (o : Option Activation). option_map_or (λ b. b.saved.mode) o S.cpu.mode)
      (newest_some S.chain H.described.chain.one_user)

-- ---- IRETQ

module _ (cfg : Description) (image : Contents) (key : Key) (at len : ℕ) (s : AbsState) (S : State)
    (H : IsReturnAt cfg image key at Iretq len s S) where
  iret_passes : PassesReturn (before cfg key s S len) Iretq
  iret_passes = passes cfg image key at Iretq len s S H

  iret_parts : (frame_restores (before cfg key s S len) ≡ true) × (rest_restores (before cfg key s S len) ≡ true)
  iret_parts =
      and_parts (frame_restores (before cfg key s S len)) (rest_restores (before cfg key s S len)) iret_passes.restores

  frame : HoldsFrame (moment cfg S.cpu S.latch S.mem.bytes len) (due_of S.chain)
  frame =
      frame_due cfg H.valid key at (Some (Iretq, len)) s H.state S H.described (next S len) (next_fits S len)
      iret_parts.0

  iret_back : Restores (tried cfg Iretq len S).cpu (newest_of S.chain)
  unfolding effect row
  iret_back =
      iret_restores cfg H.valid key at (Some (Iretq, len)) s H.state S H.described (next S len) (next_fits S len)
      iret_passes.exact iret_parts.1 (into S) frame

  iret_turn : IsReturnTurn cfg Iretq len S
  unfolding effect row
  iret_turn = record {
    end = refl;
    quiet =
        iret_quiet cfg H.valid key at (Some (Iretq, len)) s H.state S H.described (next S len) (next_fits S len)
        iret_passes.exact len (at_fits cfg image key at Iretq len s S H) H.text iret_back.0.cs iret_back.0.ss
        iret_passes.permitted;
    regs =
        iret_typed cfg H.valid key at (Some (Iretq, len)) s H.state S H.described (next S len) (next_fits S len)
        iret_passes.exact iret_parts.1 (into S);
    into = mode_back cfg image key at Iretq len s S H;
    back = iret_back;
    memory = refl;
    left = refl;
    syscall = λ e. absurd cc;
  }

-- ---- SYSRETQ

module _ (cfg : Description) (image : Contents) (key : Key) (at len : ℕ) (s : AbsState) (S : State)
    (H : IsReturnAt cfg image key at Sysretq len s S) where
  sysret_passes : PassesReturn (before cfg key s S len) Sysretq
  sysret_passes = passes cfg image key at Sysretq len s S H

  sysret_parts : (loads_user (before cfg key s S len) ≡ true) × (rest_restores (before cfg key s S len) ≡ true)
  sysret_parts =
      and_parts (loads_user (before cfg key s S len)) (rest_restores (before cfg key s S len)) sysret_passes.restores

  sysret_turn : IsReturnTurn cfg Sysretq len S
  unfolding effect row
  sysret_turn = record {
    end = refl;
    quiet =
        sysret_quiet cfg H.valid key at (Some (Sysretq, len)) s H.state S H.described (next S len) (next_fits S len)
        sysret_passes.exact len (at_fits cfg image key at Sysretq len s S H) H.text;
    regs = H.described.typed.cpu.regs;
    into = mode_back cfg image key at Sysretq len s S H;
    back =
        sysret_restores cfg H.valid key at (Some (Sysretq, len)) s H.state S H.described (next S len)
        (next_fits S len) sysret_passes.exact sysret_parts.1 (into S) sysret_passes.allowed sysret_parts.0;
    memory = refl;
    left = refl;
    syscall = λ e. H.described.chain.fits.kind ∙ sysret_passes.allowed;
  }

-- ---- both

module _ (cfg : Description) (image : Contents) (key : Key) (at : ℕ) (insn : Insn) (len : ℕ) (s : AbsState)
    (S : State) (H : IsReturnAt cfg image key at insn len s S) where
  turn : IsReturnTurn cfg insn len S
  turn = elim H.is_return [
    | inl e ↦
        subst (λ i. IsReturnTurn cfg i len S) (sym e)
        (iret_turn cfg image key at len s S (subst (λ i. IsReturnAt cfg image key at i len s S) e H))
    | inr e ↦
        subst (λ i. IsReturnTurn cfg i len S) (sym e)
        (sysret_turn cfg image key at len s S (subst (λ i. IsReturnAt cfg image key at i len s S) e H))
  ]

  abbrev t : Attempt
  t = tried cfg insn len S

  found_one : (found : Option (Insn × ℕ)) → IsAt image S.cpu.rip found → found ≡ Some (insn, len)
  found_one found there =
      one_found image at found insn len H.spelled (subst (λ a. IsAt image a found) H.described.point.1 there)

  newest_is : newest S.chain ≡ Some (newest_of S.chain)
  newest_is = newest_some S.chain H.described.chain.one_user

  of_newest : (P : Activation → Type 0) → P (newest_of S.chain) → IsSomeAnd (newest S.chain) P
  of_newest P holds = subst (λ (o : Option Activation). IsSomeAnd o P) (sym newest_is) holds

  not_forbidden : (b : ℕ) (end : ExecEnd) → end ≡ Returned → end ≡ Forbidden b → ⊥
  not_forbidden b end is other = absurd cc

  unbroken : (b : ℕ) → BreaksWith cfg (Some (insn, len)) S Go t b → ⊥
  unbroken b (inl first) =
      decodable cfg H.valid s.map at len (at_fits cfg image key at insn len s S H) H.text insn
      (subst (λ a. IsUndecodable cfg a (Some (insn, len))) H.described.point.1 first.2)
  unbroken b (inr (inl second)) = quiet_gs cfg S t turn.quiet second.1
  unbroken b (inr (inr (inl third))) = quiet_touches cfg S t turn.quiet third.1
  unbroken b (inr (inr (inr (inl fourth)))) = quiet_writes cfg S t turn.quiet refl fourth.1
  unbroken b (inr (inr (inr (inr (runs, inl fifth))))) = fifth.1.1 (of_newest (Restores t.cpu) turn.back)
  unbroken b (inr (inr (inr (inr (runs, inr (inl sixth)))))) =
      not_forbidden b (effect (moment cfg S.cpu S.latch S.mem.bytes len) insn).end turn.end sixth
  unbroken b (inr (inr (inr (inr (runs, inr (inr eighth)))))) =
      eighth.1.1 (of_newest (λ a. a.syscall ≡ true) (turn.syscall eighth.1.0))

  quiet : (b : ℕ) → Breaks cfg image S Go b → ⊥
  quiet b h =
      unbroken b (subst (λ f. BreaksWith cfg f S Go (attempt cfg f S Go) b) (found_one h.found h.fetched) h.broken)

  latches_left : (T : State) → T.latch ≡ t.latch → LatchesStand (latches_at_return insn s.latches) T.latch
  latches_left T same =
      subst (LatchesStand (latches_at_return insn s.latches)) (sym same)
      (latches_follow (moment cfg S.cpu S.latch S.mem.bytes len) insn s.latches H.is_return
      H.described.spaces.latches)

  back_in : (T : State) → IsLike T (after S t) → IsBack cfg insn s S T
  back_in T like = record {
    gives =
        given_back cfg H.valid key at (Some (insn, len)) s H.state S H.described (next S len) (next_fits S len) T
        t.cpu turn.regs turn.into turn.back like.cpu (like.mem ∙ turn.memory)
        (like.stopped ∙ H.described.running) (like.chain ∙ turn.left);
    latches = latches_left T like.latch;
  }

  goes : (T : State) → Steps cfg image S Go T → (T.stopped ≡ true) ⊎ IsBack cfg insn s S T
  goes T (Refused here fetched refused like) =
      absurd (refused (H.described.running, H.described.point.0))
  goes T (Halted how like) = inl like.stopped
  goes T (Done here fetched allowed runs free like) =
      inr (back_in T (subst (λ f. IsLike T (after S (attempt cfg f S Go))) (found_one here fetched) like))

  covered : IsReturnCovered cfg image insn s S
  covered = record { quiet = quiet; goes = goes }

-- ---- the laws

pub return_covered : ReturnIsCovered
return_covered cfg image key at insn len s S H = covered cfg image key at insn len s S H

pub frame_is_due : FrameIsDue
frame_is_due cfg image key at len s S H = frame cfg image key at len s S H
