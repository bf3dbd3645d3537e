-- The rows of POP and RET: the word at RSP is loaded, RSP moves up by 8, and then the word is written. An address that
-- uses RSP takes it after the move, and POP RSP leaves the word.
use Rattle.std.proofs.Common.{◌≡◌, ℕ, inl, true, is_some, List, [], ◌∷◌, Option, Some, None}
use Rattle.std.proofs.Common.{set, slice_index, pos, refl, subst, arith}
use Rattle.std.proofs.lemmas.Bool.{false≢true, and_parts}
use Rattle.std.proofs.lemmas.Int.{ints}
use Rattle.kc_words.specs.declared.width.Width.TheVariants.{Quad}
use Rattle.kc_bits.specs.Bits.{bits_single}
use Rattle.kc_insn.specs.Fields.{source_of}
use Rattle.kc_insn.specs.declared.insn.Insn.TheVariants.{Pop, Ret}
use Rattle.kc_insn.specs.declared.insn.Mem.{Mem}
use Rattle.kc_insn.specs.declared.insn.Place.{Place}
use Rattle.kc_insn.specs.declared.insn.Place.TheVariants as place
use Rattle.kc_regions.specs.Description.{Description}
use Rattle.kc_mem.specs.Memory.{read}
use Rattle.kc_exec.specs.Change.{goes, stack_address, stack_word, stack_read, with_popped_rsp}
use Rattle.kc_exec.specs.Effect.{row}
use Rattle.kc_exec.specs.Moment.{Moment}
use Rattle.kc_exec.specs.Operand as machine
use Rattle.kc_exec.specs.declared.state.Activation.{Activation}
use Rattle.kc_value.specs.AbsValue.{AbsValue}
use Rattle.kc_value.specs.declared.env.ValueEnv.{ValueEnv}
use Rattle.kc_state.specs.AbsEffect as known
use Rattle.kc_state.specs.AbsEffect.{abs_row, jump_or_fall}
use Rattle.kc_state.specs.Operand.{AbsMoment, linear}
use Rattle.kc_state.specs.Shift.{shifted}
use Rattle.kc_state.specs.declared.key.Key.{Key}
use Rattle.kc_state.specs.declared.state.AbsState.{AbsState}
use Rattle.kc_state.specs.declared.succ.Succ.TheVariants.{Falls}
use Rattle.kc_describes.specs.Chain.{env_of}
use Rattle.kc_describes.specs.Row.{value_at}
use Rattle.kc_describes.proofs.InsnLemmas.{has_operands}
use Rattle.kc_describes.proofs.OperandLemmas.{AreRegisters, IsFor, IsSeen, IsAddress, IsOperand}
use Rattle.kc_describes.proofs.OperandLemmas.{set_register, linear_is, location_is, load_is}
use Rattle.kc_describes.proofs.ShiftLemmas.{IsMove, shift_stands}
use Rattle.kc_describes.proofs.ValidLemmas.{shifted_valid}
use Rattle.kc_describes.proofs.ValueLemmas.{single_is}
use Rattle.kc_system.specs.Forbidden.{PassesConditions}
use Rattle.kc_system.specs.System.{known_moment, IsKernelMoment}
use Rattle.kc_system.proofs.RowLemmas.{register_is}
use Rattle.kc_moves.specs.Moves.{IsKnownMemory, StoreAgrees}
use Rattle.kc_stack.specs.Rows.{RowGoesOn, IsRowCovered, CoversRow}
use Rattle.kc_stack.proofs.PushLemmas.{disp_of, seen, after}

pop_move : IsMove (pos 8)
pop_move = inl (omega (arith, ints))

module _ (key : Key) (chain : List Activation) (s : AbsState) (m : Moment) (K : IsKernelMoment key chain s m)
    (M : IsKnownMemory key chain s m) where
  abbrev cfg : Description
  cfg = m.cfg

  abbrev env : ValueEnv
  env = env_of cfg chain

  abbrev before : AbsMoment
  before = known_moment key s m

  -- ---- the word at RSP, and RSP after it

  abbrev v : AbsValue
  v = known.stack_word before

  abbrev n : ℕ
  n = stack_word m 0

  word_is : IsFor env v n
  word_is =
      let rsp = register_is key chain s m K 4 in
      let there : slice_index m.cpu.regs 4 ≡ stack_address m 0 = omega (arith, rsp.fits) in
      subst (λ a. IsFor env v (read m.mem a 8)) there
      (load_is cfg K.context.valid key chain K.context.fits K.context.typed before.cpu s.slots m.cpu m.latch m.mem
      m.next (seen key chain s m K M) Quad (value_at s.regs 4) (slice_index m.cpu.regs 4) rsp)

  abbrev up : AbsValue
  up = shifted cfg key (value_at s.regs 4) (pos 8)

  abbrev above : ℕ
  above = machine.plus (slice_index m.cpu.regs 4) 8

  popped : AreRegisters env (set s.regs 4 up) (set m.cpu.regs 4 above)
  popped =
      let rsp = register_is key chain s m K 4 in
      set_register cfg K.context.valid key chain K.context.fits K.context.typed s.regs m.cpu.regs 4 above up
      (seen key chain s m K M).regs (shifted_valid cfg K.context.valid key (value_at s.regs 4) (pos 8) rsp.valid)
      (omega arith)
      (shift_stands cfg K.context.valid key chain K.context.fits (value_at s.regs 4) (slice_index m.cpu.regs 4) (pos 8)
      rsp.valid rsp.fits rsp.stands pop_move)

  -- what an address after the move sees
  seen_after : IsSeen cfg key chain (known.with_popped_rsp before) s.slots (with_popped_rsp m) m.mem m.next
  seen_after =
      let here = seen key chain s m K M in
      record {
        regs = popped;
        gs = here.gs;
        gs_fits = here.gs_fits;
        next_fits = here.next_fits;
        count = here.count;
        slots_valid = here.slots_valid;
        words = here.words;
        bytes = here.bytes;
      }

  abbrev known_after : AbsMoment
  known_after = record before { cpu = known.with_popped_rsp before }

  abbrev moment_after : Moment
  moment_after = record m { cpu = with_popped_rsp m }

  pop_store : (a : Mem) → IsAddress a
      → StoreAgrees cfg chain (known.store_of known_after Quad (place.Mem a) v)
      (machine.write_of moment_after Quad (place.Mem a) n)
  pop_store a address = record {
    size = refl;
    gs = refl;
    at = λ l e. (location_is cfg K.context.valid key chain K.context.fits K.context.typed
        (known.with_popped_rsp before) s.slots (with_popped_rsp m) m.latch m.mem m.next seen_after
        (linear known_after a) (machine.linear moment_after a) l
        (linear_is cfg K.context.valid key chain K.context.fits K.context.typed (known.with_popped_rsp before) s.slots
        (with_popped_rsp m) m.latch m.mem m.next seen_after a address) e).1;
    valid = word_is.valid;
    fits = word_is.fits;
    value = λ whole. word_is.stands;
  }

  -- ---- the rows

  pub pop_row : (dest : Place) → IsOperand (source_of dest) → IsRowCovered key chain s m (Pop dest)
  unfolding abs_row row
  pop_row (place.Reg d) is =
      after key chain s m K M Falls m.next m.cpu.mode (set (set s.regs 4 up) d.0 v) (set (set m.cpu.regs 4 above) d.0 n)
      None (stack_read m 0 ∷ []) None
      (set_register cfg K.context.valid key chain K.context.fits K.context.typed (set s.regs 4 up)
      (set m.cpu.regs 4 above) d.0 n v popped word_is.valid word_is.fits word_is.stands) K.next K.typed.mode
      (K.mode, refl) tt
  pop_row (place.Mem a) is =
      after key chain s m K M Falls m.next m.cpu.mode (set s.regs 4 up) (set m.cpu.regs 4 above)
      (known.store_of known_after Quad (place.Mem a) v) (stack_read m 0 ∷ [])
      (machine.write_of moment_after Quad (place.Mem a) n) popped K.next K.typed.mode (K.mode, refl) (pop_store a is)

  -- where the word at RSP is one number, that is where RET leads
  ret_by : (o : Option ℕ) → bits_single v.bits ≡ o → is_some o ≡ true
      → RowGoesOn key chain s m (known.goes before (jump_or_fall o) (known.with_popped_rsp before) None)
      (goes m n (with_popped_rsp m) (stack_read m 0 ∷ []) None)
  ret_by None e some = absurd (false≢true some)
  ret_by (Some t) e some =
      after key chain s m K M (jump_or_fall (Some t)) n m.cpu.mode (set s.regs 4 up) (set m.cpu.regs 4 above) None
      (stack_read m 0 ∷ []) None popped word_is.fits K.typed.mode
      (K.mode, single_is v env n t word_is.valid word_is.fits word_is.stands e) tt

  pub ret_row : PassesConditions key s m Ret → IsRowCovered key chain s m Ret
  unfolding abs_row row
  ret_row pass = ret_by (bits_single v.bits) refl (and_parts _ (is_some (bits_single v.bits)) pass.permitted).1

-- ---- the laws

pub pop : (dest : Place) → CoversRow (Pop dest)
pop dest key chain s m K M spelling pass unguarded =
    pop_row key chain s m K M dest (has_operands (Pop dest) spelling.encodable (disp_of (source_of dest) spelling.fits))

pub ret : CoversRow Ret
ret key chain s m K M spelling pass unguarded = ret_row key chain s m K M pass
