-- A delivery from a constant base: it breaks nothing and never stops, and the entry state describes the machine after
-- it. What it needs of the interrupted context are the base, and that no byte of the frame is live.
use Rattle.std.proofs.Common.{◌≡◌, ℕ, ◌+◌, ◌-◌, ◌*◌, ◌%◌, ◌^◌, ◌<◌, ◌≤◌, ◌==◌, if◌then◌else◌, inl, inr, Bool, true, false, List, [], ◌∷◌, ◌++◌, length, map, All, Option, Some, IfSome, refl, sym, ap, ◌∙◌, subst, arith}
use Rattle.kc_insn.specs.declared.insn.Insn.{Insn}
use Rattle.kc_image.specs.Image.{Contents}
use Rattle.kc_bits.specs.Bits.{word}
use Rattle.kc_regions.specs.Description.{Description}
use Rattle.kc_regions.specs.Lookup.{gate_of}
use Rattle.kc_regions.specs.Ranges.{IsGateInRange}
use Rattle.kc_regions.specs.Valid.{IsValid}
use Rattle.kc_regions.specs.declared.entry.Gate.{Gate}
use Rattle.kc_cpu.specs.declared.cpu.Mode.{Mode}
use Rattle.kc_cpu.specs.declared.cpu.Mode.TheVariants.{User, Code, Inside}
use Rattle.kc_exec.specs.Live.{IsLive}
use Rattle.kc_exec.specs.Operand.{plus}
use Rattle.kc_exec.specs.declared.state.Activation.{Activation}
use Rattle.kc_exec.specs.declared.state.State.{State}
use Rattle.kc_events.specs.Attempt.{Attempt, attempt, entered, through_gate}
use Rattle.kc_events.specs.Delivery.{Delivered, delivery_accesses, base_of, stack_taken, without_ist, frame_words, pushed, push_access, with_pushed, entered_cpu, entered_latch}
use Rattle.kc_events.specs.Run.{after}
use Rattle.kc_events.specs.declared.turn.Turn.{Turn}
use Rattle.kc_value.specs.AbsValue.{AbsValue}
use Rattle.kc_value.specs.Value.{Represents}
use Rattle.kc_state.specs.AbsDelivery as known
use Rattle.kc_state.specs.Operand.{number_value}
use Rattle.kc_state.specs.Places.{below_address}
use Rattle.kc_state.specs.declared.interrupted.Interrupted.{Interrupted}
use Rattle.kc_state.specs.declared.key.Key.{Key}
use Rattle.kc_state.specs.declared.state.AbsState.{AbsState}
use Rattle.kc_describes.specs.Describes.{Describes}
use Rattle.kc_describes.specs.Places.{FloorsStand}
use Rattle.kc_describes.proofs.QuietLemmas.{IsQuiet}
use Rattle.kc_describes.proofs.ValueLemmas.{number_stands}
use Rattle.kc_calls.proofs.InsideLemmas.{like_described}
use Rattle.kc_calls.specs.Laws.{code_at}
use Rattle.kc_arrivals.specs.Arrivals.{vector_of}
use Rattle.kc_delivers.specs.Delivered.{Enters, MayComeIn}
use Rattle.kc_delivers.proofs.EntryLemmas.{IsFrameAt, frame_length, size_cases, pushed_length, described}
use Rattle.kc_delivers.proofs.InterruptedLemmas.{IsInterrupted, made, entry_env}
use Rattle.kc_delivers.proofs.PermittedLemmas.{IsFree, IsInOneStack, in_one_stack, may_write, base_fits, frame_at, free_push, free_reads, none_stops, all_quiet}
use Rattle.kc_delivers.proofs.TurnLemmas.{quiet, runs_on, code_of, event_is, event_is_no_go}

-- the word of the TSS that is taken is one of its eight
taken_few : (ist : ℕ) (mode : Mode) → ist ≤ 7 → IfSome (stack_taken ist mode) (λ n. n < 8)
taken_few ist mode few = by (ist == 0)
  where
    none : (m : Mode) → IfSome (without_ist m) (λ n. n < 8)
    none User = omega arith
    none Code = tt
    none (Inside call) = tt

    by : (b : Bool) → IfSome (if b then without_ist mode else Some ist) (λ n. n < 8)
    by true = none mode
    by false = omega (arith, few)

module _ (cfg : Description) (valid : IsValid cfg) (i : Interrupted) (slots : List AbsValue) (S : State) (user_gs : ℕ)
    (I : IsInterrupted cfg i slots S user_gs) (g : Gate) (gate : IsGateInRange g) (code base : ℕ)
    (aligned : base % 16 ≡ 0) (based : base_of cfg S.mem.bytes S.cpu g ≡ base)
    (taken : known.stack_taken g.ist i.kernel ≡ stack_taken g.ist S.cpu.mode)
    (touch : known.may_touch cfg i.map g.vector (known.stack_taken g.ist i.kernel) ≡ true)
    (push : known.may_push cfg i.map i.floors base (known.frame_size g.vector) ≡ true)
    (unlive : (x : ℕ) → base ≤ x + known.frame_size g.vector → x < base
    → IsLive cfg (S.chain ++ made S.cpu false g.vector base ∷ []) x → ⊥)
    (stand : FloorsStand cfg i.floors base (S.chain ++ made S.cpu false g.vector base ∷ [])) where
  abbrev size : ℕ
  size = known.frame_size g.vector

  abbrev words : List ℕ
  words = frame_words S.cpu g.vector code

  abbrev frame : List (ℕ × ℕ)
  frame = pushed base words

  abbrev pub chain : List Activation
  chain = S.chain ++ made S.cpu false g.vector base ∷ []

  abbrev key : Key
  key = known.entered_key i g.vector (Some base)

  abbrev rsp_after : ℕ
  rsp_after = plus base (2 ^ 64 - 8 * length frame)

  abbrev new : AbsValue
  new = number_value cfg (below_address base size)

  abbrev out : AbsState
  out = known.entered i slots g new i.floors

  count : 8 * length words ≡ size
  count = frame_length S.cpu g.vector code

  enough : 40 ≤ size
  enough = elim (size_cases g.vector) [ inl e ↦ omega (arith, e) | inr e ↦ omega (arith, e) ]

  In : IsInOneStack cfg base size
  In = in_one_stack cfg i.map i.floors base size push

  fits : base < 2 ^ 64
  fits = base_fits cfg valid base size aligned enough In

  F : IsFrameAt cfg (length words) base
  F = frame_at cfg valid base size aligned enough In (length words) count

  -- ---- the attempt

  abbrev by_base : ℕ → Delivered
  by_base b =
      let all = pushed b words in
      record {
        cpu = entered_cpu cfg S.cpu g (plus b (2 ^ 64 - 8 * length all));
        latch = entered_latch S.latch g.vector;
        mem = with_pushed S.mem.bytes all;
        base = b;
        accesses = delivery_accesses cfg S.cpu g all;
      }

  abbrev t : Attempt
  t = entered S g.vector (by_base base)

  through : through_gate cfg (Some g) S code ≡ t
  through = ap (λ b. entered S g.vector (by_base b)) based

  -- ---- accesses

  free : All (IsFree cfg S.cpu.cr3 S.cpu.gs chain) t.accesses
  free =
      let room = In.low in
      free_reads cfg valid i.map S.cpu.cr3 S.cpu.gs chain I.map I.known key g.vector (stack_taken g.ist S.cpu.mode)
      (map push_access frame) (taken_few g.ist S.cpu.mode gate.ist)
      (subst (λ o. known.may_touch cfg i.map g.vector o ≡ true) taken touch)
      (free_push cfg valid i.map S.cpu.cr3 S.cpu.gs chain I.map I.known key base size words fits count
      (omega (arith, room)) (may_write cfg i.map i.floors base size push) unlive)

  -- ---- the new RSP

  rsp_is : below_address base size ≡ rsp_after
  rsp_is =
      let whole : 8 * length frame ≡ size = ap (λ k. 8 * k) (pushed_length base words) ∙ count in
      ap (λ k. word (base + (2 ^ 64 - k))) (sym whole)

  rsp_stands : Represents new (entry_env cfg S.cpu user_gs base) rsp_after
  rsp_stands =
      subst (λ n. Represents (number_value cfg n) (entry_env cfg S.cpu user_gs base) rsp_after) (sym rsp_is)
      (number_stands cfg valid (entry_env cfg S.cpu user_gs base) refl rsp_after (omega arith))

  there : (found : Option (Insn × ℕ)) → Describes cfg key (code_at g.entry) found out (after S t)
  there found =
      described cfg valid i slots S user_gs I g code (Some base) base F refl gate.entry new rsp_after (omega arith)
      rsp_stands i.floors stand found (after S t) refl

  -- ---- the turn

  module _ (image : Contents) (turn : Turn) (v : ℕ) (delivers : vector_of turn ≡ Some v) (is : code_of turn ≡ code)
      (found_gate : gate_of cfg.gates v ≡ Some g) where
    same : (found : Option (Insn × ℕ)) → attempt cfg found S turn ≡ t
    same found =
        event_is cfg S turn v delivers found
        ∙ ap (λ o. through_gate cfg o S (code_of turn)) found_gate
        ∙ ap (through_gate cfg (Some g) S) is ∙ through

    all : All (IsQuiet cfg S.cpu.cr3 S.cpu.gs chain) t.accesses
    all = all_quiet cfg S.cpu.cr3 S.cpu.gs chain t.accesses free

    pub enters_from : MayComeIn cfg image S turn → Enters cfg image key g.entry out S turn
    enters_from comes = record {
      quiet = quiet cfg image S turn t same (event_is_no_go turn v delivers) refl all;
      goes = λ found T step.
          like_described cfg key (code_at g.entry) found out T (after S t)
          (runs_on cfg image S turn t same (event_is_no_go turn v delivers) refl all
          (none_stops cfg S.cpu.cr3 S.cpu.gs chain t.accesses free) comes T step)
          (there found);
    }
