-- What is after an instruction that changes registers, makes one store at most and goes on anywhere; and the rows of
-- pushes. Where RSP after a push is an offset, it lies in the stack of the key, since no guard stops the push.
use Rattle.std.proofs.Common.{◌≡◌, ℕ, ◌^◌, ◌<◌, ◌&&◌, Bool, true, false, List, [], ◌∷◌, All, Option, Some, None}
use Rattle.std.proofs.Common.{set, slice_index, pos, neg_ℤ, refl, sym, ◌∙◌, subst, arith}
use Rattle.std.specs.Prelude.{IfSome, length}
use Rattle.std.proofs.lemmas.Bool.{and_parts}
use Rattle.std.proofs.lemmas.List.Elements.{All-from_recursion}
use Rattle.std.proofs.lemmas.Nat.{pow_below}
use Rattle.kc_words.specs.declared.width.Width.TheVariants.{Quad}
use Rattle.kc_insn.specs.declared.insn.Insn.TheVariants.{Push, Pushfq, Call}
use Rattle.kc_insn.specs.declared.insn.Source.{Source}
use Rattle.kc_insn.specs.declared.insn.Source.TheVariants as source
use Rattle.kc_regions.specs.Description.{Description}
use Rattle.kc_regions.specs.Layout.{InBytes}
use Rattle.kc_regions.specs.Lookup.{handler_of}
use Rattle.kc_regions.specs.Permission.{in_guard}
use Rattle.kc_regions.specs.Region.{stacks_of}
use Rattle.kc_regions.specs.declared.touch.Touch.TheVariants.{Read, Write}
use Rattle.kc_regions.proofs.LayoutLemmas.{laid}
use Rattle.kc_cpu.specs.declared.cpu.Mode.{Mode}
use Rattle.kc_exec.specs.Change.{goes, pushed_rsp, with_pushed_rsp, push_of}
use Rattle.kc_exec.specs.Effect.{row, called_mode, kept_registers}
use Rattle.kc_exec.specs.Execution.{access_of}
use Rattle.kc_exec.specs.Moment.{Moment}
use Rattle.kc_exec.specs.Operand as machine
use Rattle.kc_exec.specs.declared.access.Access.{Access}
use Rattle.kc_exec.specs.declared.access.Write.{Write as Written}
use Rattle.kc_exec.specs.declared.state.Activation.{Activation}
use Rattle.kc_value.specs.AbsValue.{AbsValue}
use Rattle.kc_value.specs.Value.{IsValidValue}
use Rattle.kc_value.specs.declared.env.ValueEnv.{ValueEnv}
use Rattle.kc_state.specs.AbsEffect as known
use Rattle.kc_state.specs.AbsEffect.{AbsStore, abs_row, call_or_jump, on_stack, only_stack, pushed}
use Rattle.kc_state.specs.Conditions.{may_at}
use Rattle.kc_state.specs.Location.{location_of}
use Rattle.kc_state.specs.Operand.{AbsMoment, number_value, linear, operand}
use Rattle.kc_state.specs.Shift.{shifted}
use Rattle.kc_state.specs.declared.key.Key.{Key}
use Rattle.kc_state.specs.declared.location.Location.{Location}
use Rattle.kc_state.specs.declared.location.Location.TheVariants.{Number, Relative}
use Rattle.kc_state.specs.declared.state.AbsState.{AbsState}
use Rattle.kc_state.specs.declared.succ.Succ.{Succ}
use Rattle.kc_state.specs.declared.succ.Succ.TheVariants.{Falls}
use Rattle.kc_describes.specs.Chain.{env_of}
use Rattle.kc_describes.specs.Row.{value_at}
use Rattle.kc_describes.specs.Widths.{IsWord, IsMode}
use Rattle.kc_describes.proofs.InsnLemmas as spelled
use Rattle.kc_describes.proofs.InsnLemmas.{has_operands}
use Rattle.kc_describes.proofs.OperandLemmas.{AreRegisters, IsFor, IsSeen, IsOperand, word_at}
use Rattle.kc_describes.proofs.OperandLemmas.{set_register, location_is, number_is, operand_is}
use Rattle.kc_describes.proofs.ShiftLemmas.{push_move, shift_stands, push_stands}
use Rattle.kc_describes.proofs.ValidLemmas.{shifted_valid}
use Rattle.kc_system.specs.Forbidden.{PassesConditions, AreUnguarded}
use Rattle.kc_system.specs.System.{known_moment, IsKernelMoment}
use Rattle.kc_system.proofs.RowLemmas.{registers, register_is}
use Rattle.kc_moves.specs.Moves.{IsKnownMemory, StoreAgrees}
use Rattle.kc_stack.specs.Rows.{FitsSource, GoesOnAt, RowGoesOn, IsRowCovered, CoversRow}

-- ---- RSP after a push

-- RSP after the push points where it would without its set of places
stacked : (key : Key) (v : AbsValue) (o : Option Location) → location_of key (on_stack key v o) ≡ location_of key v
stacked key v (Some (Number a)) = refl
stacked key v (Some (Relative k)) = refl
stacked key v None = refl

own_place : (o : Option ℕ) → IfSome o (λ s. s < 17) → only_stack o < 2 ^ 17
own_place (Some s) few = pow_below s 17 few
own_place None few = omega arith

stack_valid : (key : Key) (v : AbsValue) (o : Option Location) → only_stack key.stack < 2 ^ 17 → IsValidValue v
    → IsValidValue (on_stack key v o)
stack_valid key v (Some (Number a)) few ok = ok
stack_valid key v (Some (Relative k)) few ok =
    record { sym_fits = ok.sym_fits; bits_fit = ok.bits_fit; stacks_fit = few }
stack_valid key v None few ok = ok

few_stacks : (o : Option ℕ) (count : ℕ) → count < 17 → IfSome o (λ s. s < count) → IfSome o (λ s. s < 17)
few_stacks (Some s) count few below = omega (arith, few, below)
few_stacks None count few below = tt

pub disp_of : (x : Source) → FitsSource x → spelled.HasDisp x
disp_of (source.Reg r) h = tt
disp_of (source.Mem a) h = h
disp_of (source.Imm z) h = tt

-- ---- rows

module _ (key : Key) (chain : List Activation) (s : AbsState) (m : Moment) (K : IsKernelMoment key chain s m)
    (M : IsKnownMemory key chain s m) where
  abbrev cfg : Description
  cfg = m.cfg

  abbrev env : ValueEnv
  env = env_of cfg chain

  abbrev before : AbsMoment
  before = known_moment key s m

  pub seen : IsSeen cfg key chain before.cpu s.slots m.cpu m.mem m.next
  seen = record {
    regs = registers key chain s m K;
    gs = K.row.spaces.gs.active;
    gs_fits = K.typed.gs;
    next_fits = K.next;
    count = K.state.slots.1;
    slots_valid = K.state.slots.0;
    words = M.slots;
    bytes = M.bytes;
  }

  -- what is after an instruction that changes registers and the mode, makes this store and goes on there
  pub after : (succ : Succ) (target : ℕ) (mode : Mode) (values : List AbsValue) (regs : List ℕ)
      (store : Option AbsStore) (reads : List Access) (write : Option Written) → AreRegisters env values regs
      → IsWord target → IsMode mode → GoesOnAt m succ (record m.cpu { regs = regs; mode = mode; rip = target })
      → StoreAgrees cfg chain store write
      → RowGoesOn key chain s m (known.goes before succ (record before.cpu { regs = values }) store)
      (goes m target (record m.cpu { regs = regs; mode = mode }) reads write)
  after succ target running values regs store reads write are fits typed point agrees = record {
    row = record {
      file = record { each = are.stand; rflags = K.row.file.rflags };
      spaces = record {
        gs = record { active = K.row.spaces.gs.active; inactive = K.row.spaces.gs.inactive };
        map = K.row.spaces.map;
        latches = record {
          nmi_blocked = K.row.spaces.latches.nmi_blocked;
          shadow = refl;
          mcip = K.row.spaces.latches.mcip;
        };
      };
    };
    typed = record {
      regs = (are.size, are.words);
      rip = fits;
      flags = K.typed.flags;
      cs = K.typed.cs;
      ss = K.typed.ss;
      gs = K.typed.gs;
      kgs = K.typed.kgs;
      cr3 = K.typed.cr3;
      mode = typed;
    };
    kernel = record { cs = K.kernel.cs; ss = K.kernel.ss; flags = K.kernel.flags };
    point = point;
    floors = refl;
    store = agrees;
    end = refl;
  }

  -- ---- RSP after a push

  abbrev moved : AbsValue
  moved = shifted cfg key (value_at s.regs 4) (neg_ℤ (pos 8))

  moved_is : IsFor env moved (pushed_rsp m)
  moved_is =
      let rsp = register_is key chain s m K 4 in
      record {
        valid = shifted_valid cfg K.context.valid key (value_at s.regs 4) (neg_ℤ (pos 8)) rsp.valid;
        fits = omega arith;
        stands = shift_stands cfg K.context.valid key chain K.context.fits (value_at s.regs 4)
            (slice_index m.cpu.regs 4) (neg_ℤ (pos 8)) rsp.valid rsp.fits rsp.stands
            (push_move cfg K.context.valid key chain K.context.fits);
      }

  -- the push may be made, and no guard stops it
  record MayPush : Type 0 where
    permitted : may_at before (location_of key (pushed before)) 8 Write ≡ true
    unguarded : (x : ℕ) → x < 2 ^ 64 → InBytes x (pushed_rsp m) 8 → in_guard cfg.regions x ≡ false

  pushed_is : MayPush → IsFor env (pushed before) (pushed_rsp m)
  pushed_is may_push =
      let rsp = register_is key chain s m K 4 in
      let few = few_stacks key.stack (length (stacks_of cfg.regions))
      (omega (arith, (laid cfg K.context.valid).stack_count)) K.context.fits.fits.rules.stack in
      record {
        valid = stack_valid key moved (location_of key moved) (own_place key.stack few) moved_is.valid;
        fits = omega arith;
        stands = push_stands cfg K.context.valid key chain K.context.fits (value_at s.regs 4) (slice_index m.cpu.regs 4)
            s.map rsp.valid rsp.fits rsp.stands
            (λ l e. subst (λ o. may_at before o 8 Write ≡ true) (stacked key moved (location_of key moved) ∙ e)
            may_push.permitted)
            may_push.unguarded;
      }

  -- the push of a value
  push_store : (v : AbsValue) (n : ℕ) → IsFor env v n → StoreAgrees cfg chain (known.push_of before v) (push_of m n)
  push_store v n is = record {
    size = refl;
    gs = refl;
    at = λ l e. (location_is cfg K.context.valid key chain K.context.fits K.context.typed before.cpu s.slots m.cpu
        m.latch m.mem m.next seen moved (pushed_rsp m) l moved_is
        (sym (stacked key moved (location_of key moved)) ∙ e)).1;
    valid = is.valid;
    fits = is.fits;
    value = λ whole. is.stands;
  }

  push_after : (succ : Succ) (target : ℕ) (mode : Mode) (v : AbsValue) (n : ℕ) (reads : List Access) → MayPush
      → IsFor env v n → IsWord target → IsMode mode
      → GoesOnAt m succ (record (with_pushed_rsp m) { mode = mode; rip = target })
      → RowGoesOn key chain s m (known.goes before succ (known.with_pushed_rsp before) (known.push_of before v))
      (goes m target (record (with_pushed_rsp m) { mode = mode }) reads (push_of m n))
  push_after succ target running v n reads may_push is fits typed point =
      let top = pushed_is may_push in
      after succ target running (set s.regs 4 (pushed before)) (set m.cpu.regs 4 (pushed_rsp m))
      (known.push_of before v) reads (push_of m n)
      (set_register cfg K.context.valid key chain K.context.fits K.context.typed s.regs m.cpu.regs 4 (pushed_rsp m)
      (pushed before) seen.regs top.valid top.fits top.stands) fits typed point (push_store v n is)

  -- ---- which pushes may be made

  abbrev AreOpen : List Access → Type 0
  AreOpen accesses =
      All (λ a. (x : ℕ) → x < 2 ^ 64 → InBytes x a.at a.size → in_guard cfg.regions x ≡ false) accesses

  abbrev push_access : ℕ → Access
  push_access n = access_of (record { at = pushed_rsp m; width = Quad; value = n; gs = false })

  abbrev is_pushed : Bool
  is_pushed = may_at before (location_of key (pushed before)) 8 Write

  -- a push that is the only access
  alone : (n : ℕ) → ((is_pushed && true) && true) ≡ true → AreOpen (push_access n ∷ []) → MayPush
  alone n permitted outside =
      let p = and_parts (is_pushed && true) true permitted in
      record { permitted = (and_parts is_pushed true p.0).0; unguarded = outside 0 (push_access n) (omega arith) }

  -- and the one after a read
  second : (n : ℕ) (b : Bool) (read : Access) → ((b && (is_pushed && true)) && true) ≡ true
      → AreOpen (read ∷ push_access n ∷ []) → MayPush
  second n b read permitted outside =
      let p = and_parts (b && (is_pushed && true)) true permitted in
      let q = and_parts b (is_pushed && true) p.0 in
      record { permitted = (and_parts is_pushed true q.1).0; unguarded = outside 1 (push_access n) (omega arith) }

  push_allowed : (src : Source) → PassesConditions key s m (Push src) → AreUnguarded m (row m (Push src)) → MayPush
  unfolding abs_row row
  push_allowed (source.Reg r) pass unguarded = alone (machine.operand m Quad (source.Reg r)) pass.permitted unguarded
  push_allowed (source.Imm z) pass unguarded = alone (machine.operand m Quad (source.Imm z)) pass.permitted unguarded
  push_allowed (source.Mem a) pass unguarded =
      second (machine.operand m Quad (source.Mem a)) (may_at before (location_of key (linear before a)) 8 Read)
      (record { at = machine.linear m a; size = 8; touch = Read; gs = a.gs }) pass.permitted unguarded

  pushfq_allowed : PassesConditions key s m Pushfq → AreUnguarded m (row m Pushfq) → MayPush
  unfolding abs_row row
  pushfq_allowed pass unguarded = alone m.cpu.flags pass.permitted unguarded

  call_allowed : (target : ℕ) → PassesConditions key s m (Call target) → AreUnguarded m (row m (Call target)) → MayPush
  unfolding abs_row row
  call_allowed target pass unguarded = alone m.next pass.permitted unguarded

  -- ---- the rows

  push_row : (src : Source) → IsOperand src → MayPush → IsRowCovered key chain s m (Push src)
  unfolding abs_row row
  push_row src is may_push =
      push_after Falls m.next m.cpu.mode (operand before Quad src) (machine.operand m Quad src)
      (machine.reads_of m Quad src) may_push
      (operand_is cfg K.context.valid key chain K.context.fits K.context.typed before.cpu s.slots m.cpu m.latch m.mem
      m.next seen Quad src is) K.next K.typed.mode (K.mode, refl)

  pushfq_row : MayPush → IsRowCovered key chain s m Pushfq
  unfolding abs_row row
  pushfq_row may_push =
      push_after Falls m.next m.cpu.mode s.flags m.cpu.flags [] may_push
      (record { valid = K.state.flags; fits = K.typed.flags; stands = K.row.file.rflags }) K.next K.typed.mode
      (K.mode, refl)

  -- the mode after a call has a call of words
  call_mode : (o : Option ℕ) → IsMode (called_mode m o)
  call_mode None = K.typed.mode
  call_mode (Some h) = record {
    rsp = omega arith;
    back = K.next;
    flags = K.typed.flags;
    kept = (
      refl,
      All-from_recursion IsWord (kept_registers m.cpu)
          (word 3, (word 5, (word 12, (word 13, (word 14, (word 15, tt)))))),
    );
  }
    where
      word : (i : ℕ) → slice_index m.cpu.regs i < 2 ^ 64
      word i = word_at m.cpu.regs i K.typed.regs.1

  -- a call leads to the target, or into the handler that begins there
  call_leads : (target : ℕ) (o : Option ℕ)
      → GoesOnAt m (call_or_jump target o) (record (with_pushed_rsp m) { mode = called_mode m o; rip = target })
  call_leads target None = (K.mode, refl)
  call_leads target (Some h) = record { mode = refl; regs = refl; flags = refl }

  call_row : (target : ℕ) → IsWord target → MayPush → IsRowCovered key chain s m (Call target)
  unfolding abs_row row
  call_row target fits may_push =
      let o = handler_of cfg.handlers target in
      push_after (call_or_jump target o) target (called_mode m o) (number_value cfg m.next) m.next [] may_push
      (number_is cfg K.context.valid key chain K.context.fits K.context.typed before.cpu s.slots m.cpu m.latch m.mem
      m.next seen m.next K.next) fits (call_mode o) (call_leads target o)

-- ---- the laws

pub push : (src : Source) → CoversRow (Push src)
push src key chain s m K M spelling pass unguarded =
    push_row key chain s m K M src (has_operands (Push src) spelling.encodable (disp_of src spelling.fits))
    (push_allowed key chain s m K M src pass unguarded)

pub pushfq : CoversRow Pushfq
pushfq key chain s m K M spelling pass unguarded =
    pushfq_row key chain s m K M (pushfq_allowed key chain s m K M pass unguarded)

pub call : (target : ℕ) → CoversRow (Call target)
call target key chain s m K M spelling pass unguarded =
    call_row key chain s m K M target spelling.fits (call_allowed key chain s m K M target pass unguarded)
