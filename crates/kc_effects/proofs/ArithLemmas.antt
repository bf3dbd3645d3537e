-- The rows of arithmetic, of TEST and of bit tests in the form of any row. Operands are known on both sides by one law
-- of operands, so kc_arith's rows hold. A result in memory goes to the address of its operand, and it is in range:
-- operations keep known bits apart, and a moved value stays one.
use Rattle.std.proofs.Common.{◌≡◌, ℕ, ◌%◌, ◌<◌, ◌++◌, Bool, true, false, ◌&&◌, if◌then◌else◌, neg_ℤ, List, Option, Some, None, IfSome, refl, arith}
use Rattle.std.proofs.lemmas.Bool.{false≢true, and_parts, ltb-true}
use Rattle.std.proofs.lemmas.Nat.{mod_below}
use Rattle.kc_words.specs.Flags.{bits_of}
use Rattle.kc_words.specs.declared.width.Width.{Width}
use Rattle.kc_words.specs.declared.width.Width.TheVariants.{Byte, Long, Quad}
use Rattle.kc_bits.specs.KnownBits.{KnownBits}
use Rattle.kc_bits.specs.Bits.{IsValid as AreBitsValid, bits_cut, bits_single}
use Rattle.kc_insn.specs.Encodable.{is_register, is_memory, is_place, is_wide, is_immediate, is_pair, is_test}
use Rattle.kc_insn.specs.Fields.{source_of}
use Rattle.kc_insn.specs.declared.insn.AluOp.{AluOp}
use Rattle.kc_insn.specs.declared.insn.AluOp.TheVariants as operation
use Rattle.kc_insn.specs.declared.insn.BitOp.{BitOp}
use Rattle.kc_insn.specs.declared.insn.BitOp.TheVariants as bits
use Rattle.kc_insn.specs.declared.insn.Insn.TheVariants.{Alu, Test, Bit}
use Rattle.kc_insn.specs.declared.insn.Place.{Place}
use Rattle.kc_insn.specs.declared.insn.Place.TheVariants as place
use Rattle.kc_insn.specs.declared.insn.Reg.{Reg}
use Rattle.kc_insn.specs.declared.insn.Source.{Source}
use Rattle.kc_insn.specs.declared.insn.Source.TheVariants as source
use Rattle.kc_regions.specs.Description.{Description}
use Rattle.kc_exec.specs.Change.{operated}
use Rattle.kc_exec.specs.Effect.{alu_flags, alu_result, bit_flags, bit_result, row}
use Rattle.kc_exec.specs.Moment.{Moment}
use Rattle.kc_exec.specs.Operand as machine
use Rattle.kc_exec.specs.declared.access.Access.{Access}
use Rattle.kc_exec.specs.declared.access.Write.{Write}
use Rattle.kc_exec.specs.declared.executed.Executed.{Executed}
use Rattle.kc_exec.specs.declared.state.Activation.{Activation}
use Rattle.kc_value.specs.AbsValue.{AbsValue}
use Rattle.kc_value.specs.Value.{IsValidValue}
use Rattle.kc_value.specs.declared.env.ValueEnv.{ValueEnv}
use Rattle.kc_state.specs.AbsEffect as known
use Rattle.kc_state.specs.AbsEffect.{AbsChange, abs_row, is_based, is_quad, is_same_reg, cancels, signed}
use Rattle.kc_state.specs.Flags.{alu_bits, alu_flags as known_alu_flags, bit_flags as known_bit_flags}
use Rattle.kc_state.specs.Operand.{AbsMoment, number_value, linear, operand}
use Rattle.kc_state.specs.declared.key.Key.{Key}
use Rattle.kc_state.specs.declared.state.AbsState.{AbsState}
use Rattle.kc_describes.specs.Chain.{env_of}
use Rattle.kc_describes.specs.Widths.{IsWord}
use Rattle.kc_describes.proofs.InsnLemmas.{has_operands}
use Rattle.kc_describes.proofs.OperandLemmas.{IsFor, IsOperand, linear_is, location_is, operand_is}
use Rattle.kc_describes.proofs.ShiftLemmas.{shift_stands}
use Rattle.kc_describes.proofs.ValidLemmas.{bits_valid, shifted_valid}
use Rattle.kc_arith.specs.Covers.{StandsAt}
use Rattle.kc_arith.specs.Rows.{IsWritable, OperandStands, IsMovable}
use Rattle.kc_arith.proofs.BitLemmas.{set_covers, reset_covers}
use Rattle.kc_arith.proofs.ResultLemmas.{outcome_covers}
use Rattle.kc_arith.proofs.RowLemmas as covered
use Rattle.kc_arith.proofs.WidthLemmas.{operand_covers, value_stands}
use Rattle.kc_system.specs.System.{known_moment, IsKernelMoment}
use Rattle.kc_moves.specs.Moves.{IsKnownMemory}
use Rattle.kc_moves.proofs.WidthLemmas.{operand_fits}
use Rattle.kc_stack.specs.Rows.{IsRowCovered, CoversRow}
use Rattle.kc_stack.proofs.PushLemmas.{disp_of, seen}
use Rattle.kc_effects.proofs.ArithGoesLemmas.{IsPlaced, agrees, finds, goes_on}

-- ---- the destination of an instruction that has a spelling is one of the 16 registers, or memory

few : (r : Reg) → is_register r ≡ true → r.0 < 16
few r h = ltb-true r.0 16 h

place_writable : (p : Place) → is_place p ≡ true → IsWritable p
place_writable (place.Reg r) h = few r h
place_writable (place.Mem a) h = tt

pair_writable : (w : Width) (p : Place) (s : Source) → is_pair w p s ≡ true → IsWritable p
pair_writable w (place.Mem a) s h = tt
pair_writable w (place.Reg d) (source.Reg r) h = few d (and_parts (is_register d) (is_register r) h).0
pair_writable w (place.Reg d) (source.Mem a) h = few d (and_parts (is_register d) (is_memory a) h).0
pair_writable w (place.Reg d) (source.Imm z) h = few d (and_parts (is_register d) (is_immediate w z) h).0

test_writable : (w : Width) (p : Place) (s : Source) → is_test w p s ≡ true → IsWritable p
test_writable w (place.Mem a) s h = tt
test_writable w (place.Reg d) (source.Reg r) h =
    let wide = and_parts (is_wide w) (is_register d && is_register r) h in
    few d (and_parts (is_register d) (is_register r) wide.1).0
test_writable w (place.Reg d) (source.Mem a) h = absurd (false≢true h)
test_writable w (place.Reg d) (source.Imm z) h = few d (and_parts (is_register d) (is_immediate w z) h).0

-- ---- rows

module _ (key : Key) (chain : List Activation) (s : AbsState) (m : Moment) (K : IsKernelMoment key chain s m)
    (M : IsKnownMemory key chain s m) where
  abbrev cfg : Description
  cfg = m.cfg

  abbrev env : ValueEnv
  env = env_of cfg chain

  abbrev before : AbsMoment
  before = known_moment key s m

  -- ---- operands

  -- what is known of an operand stands for it
  operand_for : (w : Width) (x : Source) → IsOperand x → IsFor env (operand before w x) (machine.operand m w x)
  operand_for w x is =
      operand_is cfg K.context.valid key chain K.context.fits K.context.typed before.cpu s.slots m.cpu m.latch m.mem
      m.next (seen key chain s m K M) w x is

  operand_stands : (w : Width) (x : Source) → IsOperand x → OperandStands env before m w x
  operand_stands w x is =
      value_stands env w (operand before w x) (machine.operand m w x) (operand_fits m w x M.bytes)
      (operand_for w x is).stands

  -- what is known of an operand can be moved
  movable : (w : Width) (x : Source) → IsOperand x
      → IsMovable env before w (operand before w x) (machine.operand m w x)
  movable w x is = λ based quad c move.
      let r = operand_for w x is in
      shift_stands cfg K.context.valid key chain K.context.fits (operand before w x) (machine.operand m w x) c r.valid
      r.fits r.stands move

  -- ---- results are in range

  -- a base that an operation may move
  moved_base_valid : (op : AluOp) (v : AbsValue) (n : ℕ) (b : KnownBits) → IsValidValue v → AreBitsValid b
      → IsValidValue (known.moved_base before op v n b)
  moved_base_valid operation.Add v n b ok fits = shifted_valid cfg K.context.valid key v (signed n) ok
  moved_base_valid operation.Or v n b ok fits = bits_valid cfg K.context.valid b fits
  moved_base_valid operation.And v n b ok fits = bits_valid cfg K.context.valid b fits
  moved_base_valid operation.Sub v n b ok fits = shifted_valid cfg K.context.valid key v (neg_ℤ (signed n)) ok
  moved_base_valid operation.Xor v n b ok fits = bits_valid cfg K.context.valid b fits
  moved_base_valid operation.Cmp v n b ok fits = bits_valid cfg K.context.valid b fits

  -- by the test whether the base moves
  moved_or_valid : (test : Bool) (op : AluOp) (v : AbsValue) (o : Option ℕ) (b : KnownBits) → IsValidValue v
      → AreBitsValid b → IsValidValue (known.moved_or before test op v o b)
  moved_or_valid true op v (Some n) b ok fits = moved_base_valid op v n b ok fits
  moved_or_valid true op v None b ok fits = bits_valid cfg K.context.valid b fits
  moved_or_valid false op v o b ok fits = bits_valid cfg K.context.valid b fits

  -- a result of an operation
  result_valid : (op : AluOp) (w : Width) (v u : AbsValue) (x y : ℕ) → IsValidValue v → StandsAt env w v x
      → StandsAt env w u y → IfSome (known.alu_result before op w v u) IsValidValue
  result_valid op w v u x y ok sv su = by_op op
    where
      value_valid : (o : AluOp) → IsValidValue (known.alu_value before o w v u)
      value_valid o =
          moved_or_valid (is_quad w && is_based v.sym) o v (bits_single u.bits)
          (alu_bits o (bits_of w) (bits_cut (bits_of w) v.bits) (bits_cut (bits_of w) u.bits)) ok
          (outcome_covers (bits_cut (bits_of w) v.bits) (bits_cut (bits_of w) u.bits) x y
          (operand_covers w v.bits x sv.bits) (operand_covers w u.bits y su.bits) o w).valid

      by_op : (o : AluOp) → IfSome (known.alu_result before o w v u) IsValidValue
      by_op operation.Add = value_valid operation.Add
      by_op operation.Or = value_valid operation.Or
      by_op operation.And = value_valid operation.And
      by_op operation.Sub = value_valid operation.Sub
      by_op operation.Xor = value_valid operation.Xor
      by_op operation.Cmp = tt

  -- an operand with a bit set or reset
  bit_valid : (op : BitOp) (w : Width) (v : AbsValue) (x i : ℕ) → i < bits_of w → StandsAt env w v x
      → IfSome (known.bit_result before op i (bits_cut (bits_of w) v.bits)) IsValidValue
  bit_valid bits.«Test» w v x i h sv = tt
  bit_valid bits.Set w v x i h sv =
      bits_valid cfg K.context.valid _ (set_covers w v.bits x i h sv.bits).covers.valid
  bit_valid bits.Reset w v x i h sv =
      bits_valid cfg K.context.valid _ (reset_covers w v.bits x i sv.bits).covers.valid

  -- ---- what is after an operation

  -- the next instruction follows
  operated_next : (w : Width) (dest : Place) (reads : List Access) (f : ℕ) (r : Option ℕ)
      → IsWord (operated m w dest reads f r).cpu.rip
  operated_next w dest reads f (Some n) = K.next
  operated_next w dest reads f None = K.next

  -- a result in memory goes to the address of the destination
  operated_placed : (w : Width) (dest : Place) (reads : List Access) (b : KnownBits) (f : ℕ) (v : Option AbsValue)
      (r : Option ℕ) → IsOperand (source_of dest) → IfSome v IsValidValue
      → IsPlaced key chain s m K (known.operated before w dest b v).store (operated m w dest reads f r).write
  operated_placed w dest reads b f None r is ok = tt
  operated_placed w (place.Reg d) reads b f (Some v) r is ok = tt
  operated_placed w (place.Mem a) reads b f (Some v) None is ok = tt
  operated_placed w (place.Mem a) reads b f (Some v) (Some n) is ok = record {
    at = λ l e. (location_is cfg K.context.valid key chain K.context.fits K.context.typed before.cpu s.slots m.cpu
        m.latch m.mem m.next (seen key chain s m K M) (linear before a) (machine.linear m a) l
        (linear_is cfg K.context.valid key chain K.context.fits K.context.typed before.cpu s.slots m.cpu m.latch m.mem
        m.next (seen key chain s m K M) a is) e).1;
    valid = ok;
  }

  -- an operation of a register with itself has no store
  same_placed : (w : Width) (dest : Place) (src : Source) (b : KnownBits) (v : Option AbsValue) (o : Option Write)
      → is_same_reg dest src ≡ true → IsPlaced key chain s m K (known.operated before w dest b v).store o
  same_placed w (place.Mem a) src b v o e = absurd (false≢true e)
  same_placed w (place.Reg d) src b (Some v) o e = tt
  same_placed w (place.Reg d) src b None o e = tt

  -- ---- the rows

  module _ (op : AluOp) (w : Width) (dest : Place) (src : Source) (into : IsOperand (source_of dest))
      (from : IsOperand src) where
    abbrev v : AbsValue
    v = operand before w (source_of dest)

    abbrev u : AbsValue
    u = operand before w src

    abbrev x : ℕ
    x = machine.destination m w dest

    abbrev y : ℕ
    y = machine.operand m w src

    abbrev reads : List Access
    reads = machine.reads_of m w (source_of dest) ++ machine.reads_of m w src

    abbrev known_bits : AbsValue → AbsValue → KnownBits
    known_bits a b =
        known_alu_flags op (bits_of w) (bits_cut (bits_of w) a.bits) (bits_cut (bits_of w) b.bits)
        before.cpu.flags.bits

    abbrev known_zero : AbsValue
    known_zero = number_value cfg 0

    abbrev after : AluOp → Executed
    after o = operated m w dest reads (alu_flags o w x y m.cpu.flags) (alu_result o w x y)

    -- by the test whether it is of a register with itself, and cancels it
    by_same : (t : Bool) → (cancels op && is_same_reg dest src) ≡ t
        → IsPlaced key chain s m K (if◌then◌else◌ {A = AbsChange} t
        (known.alu_change before op w dest known_zero known_zero) (known.alu_change before op w dest v u)).store
        (after op).write
    by_same true e =
        same_placed w dest src (known_bits known_zero known_zero)
        (known.alu_result before op w known_zero known_zero) (after op).write
        (and_parts (cancels op) (is_same_reg dest src) e).1
    by_same false e =
        operated_placed w dest reads (known_bits v u) (alu_flags op w x y m.cpu.flags)
        (known.alu_result before op w v u) (alu_result op w x y) into
        (result_valid op w v u x y (operand_for w (source_of dest) into).valid
        (operand_stands w (source_of dest) into) (operand_stands w src from))

    alu_row : IsWritable dest → IsRowCovered key chain s m (Alu op w dest src)
    unfolding abs_row row
    alu_row ok =
        let c = covered.alu_row env before m (finds key chain s m K) op w dest src ok
        (operand_stands w (source_of dest) into) (operand_stands w src from) (operand_for w src from).valid.bits_fit
        (movable w (source_of dest) into) in
        goes_on key chain s m K (abs_row before (Alu op w dest src)) (row m (Alu op w dest src)) c
        (operated_next w dest reads (alu_flags op w x y m.cpu.flags) (alu_result op w x y))
        (agrees key chain s m K (abs_row before (Alu op w dest src)).store (row m (Alu op w dest src)).write c.store
        (by_same (cancels op && is_same_reg dest src) refl))

  test_row : (w : Width) (dest : Place) (src : Source) → IsOperand (source_of dest) → IsOperand src → IsWritable dest
      → IsRowCovered key chain s m (Test w dest src)
  unfolding abs_row row
  test_row w dest src into from ok =
      goes_on key chain s m K (abs_row before (Test w dest src)) (row m (Test w dest src))
      (covered.test_row env before m (finds key chain s m K) w dest src ok (operand_stands w (source_of dest) into)
      (operand_stands w src from)) K.next tt

  some_bits : (w : Width) → 0 < bits_of w
  some_bits Byte = omega arith
  some_bits Long = omega arith
  some_bits Quad = omega arith

  bit_row : (op : BitOp) (w : Width) (dest : Place) (number : ℕ) → IsOperand (source_of dest) → IsWritable dest
      → IsRowCovered key chain s m (Bit op w dest number)
  unfolding abs_row row
  bit_row op w dest number into ok =
      let x = machine.destination m w dest in
      let i = number % bits_of w in
      let b = bits_cut (bits_of w) (operand before w (source_of dest)).bits in
      let reads = machine.reads_of m w (source_of dest) in
      let sd = operand_stands w (source_of dest) into in
      let c = covered.bit_row env before m (finds key chain s m K) op w dest number ok sd in
      goes_on key chain s m K (abs_row before (Bit op w dest number)) (row m (Bit op w dest number)) c
      (operated_next w dest reads (bit_flags i x m.cpu.flags) (bit_result op i x))
      (agrees key chain s m K (abs_row before (Bit op w dest number)).store (row m (Bit op w dest number)).write c.store
      (operated_placed w dest reads (known_bit_flags i b before.cpu.flags.bits) (bit_flags i x m.cpu.flags)
      (known.bit_result before op i b) (bit_result op i x) into
      (bit_valid op w (operand before w (source_of dest)) x i (mod_below number (bits_of w) (some_bits w)) sd)))

-- ---- the laws

pub alu : (op : AluOp) (w : Width) (dest : Place) (src : Source) → CoversRow (Alu op w dest src)
alu op w dest src key chain s m K M spelling pass unguarded =
    let are = has_operands (Alu op w dest src) spelling.encodable
    (disp_of (source_of dest) spelling.fits.0, disp_of src spelling.fits.1) in
    alu_row key chain s m K M op w dest src are.0 are.1
    (pair_writable w dest src (and_parts (is_wide w) (is_pair w dest src) spelling.encodable).1)

pub test : (w : Width) (dest : Place) (src : Source) → CoversRow (Test w dest src)
test w dest src key chain s m K M spelling pass unguarded =
    let are = has_operands (Test w dest src) spelling.encodable
    (disp_of (source_of dest) spelling.fits.0, disp_of src spelling.fits.1) in
    test_row key chain s m K M w dest src are.0 are.1 (test_writable w dest src spelling.encodable)

pub bit : (op : BitOp) (w : Width) (dest : Place) (number : ℕ) → CoversRow (Bit op w dest number)
bit op w dest number key chain s m K M spelling pass unguarded =
    let is = has_operands (Bit op w dest number) spelling.encodable (disp_of (source_of dest) spelling.fits.0) in
    bit_row key chain s m K M op w dest number is
    (place_writable dest (and_parts (is_wide w) (is_place dest) spelling.encodable).1)
