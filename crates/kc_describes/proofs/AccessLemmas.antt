-- The data accesses of an instruction, on both sides in one order: the reads of its operands or of the stack, and then
-- its write. Each abstract access has the size, the right and the prefix of the machine's, and where its place is known
-- it is the machine's address. By cases on the instruction; descriptors that an IRETQ reads have no abstract access.
use Rattle.std.proofs.Common.{◌≡◌, ◌≢◌, ℕ, ◌+◌, ◌*◌, ◌%◌, ◌^◌, ◌<◌, ◌&&◌, ◌==◌, inl, List, [], ◌∷◌, ◌++◌, All, Option, Some, None, ℤ, pos, neg_ℤ, slice_index, bit_and, refl, sym, ap, ◌∙◌, subst, arith}
use Rattle.std.specs.Prelude.{FitsSigned}
use Rattle.std.specs.Int.{w64, cast_unsigned, cast_signed, int_wrapping_add}
use Rattle.std.proofs.lemmas.Int.{ints, of_z-to_z, wrapping_add_is, SFits-int_wrap}
use Rattle.std.proofs.lemmas.Bool.{cond_both}
use Rattle.kc_words.specs.Flags.{bits_of}
use Rattle.kc_words.specs.declared.width.Width.{Width}
use Rattle.kc_words.specs.declared.width.Width.TheVariants.{Quad}
use Rattle.kc_bits.specs.Bits.{bits_cut, word}
use Rattle.kc_bits.specs.KnownBits.{KnownBits}
use Rattle.kc_insn.specs.declared.insn.AluOp.{AluOp}
use Rattle.kc_insn.specs.declared.insn.AluOp.TheVariants as alu
use Rattle.kc_insn.specs.declared.insn.BitOp.{BitOp}
use Rattle.kc_insn.specs.declared.insn.BitOp.TheVariants as bits
use Rattle.kc_insn.specs.declared.insn.Insn.{Insn}
use Rattle.kc_insn.specs.declared.insn.Insn.TheVariants.{Nop, Endbr64, Lfence, Ud2, Cld, Clac, Stac, Cli, Sti, Swapgs, Sysretq, Iretq, Rdmsr, Wrmsr, Pushfq, Popfq, Ret, ReadCr3, WriteCr3, ReadGs, WriteGs, Mov, Lea, Xchg, Push, Pop, Alu, Test, Bit, Jcc, Jmp, Call}
use Rattle.kc_insn.specs.declared.insn.Place.{Place}
use Rattle.kc_insn.specs.declared.insn.Place.TheVariants as place
use Rattle.kc_insn.specs.declared.insn.Source.{Source}
use Rattle.kc_insn.specs.declared.insn.Source.TheVariants as source
use Rattle.kc_insn.specs.Fields.{source_of}
use Rattle.kc_regions.specs.Description.{Description}
use Rattle.kc_regions.specs.Valid.{IsValid}
use Rattle.kc_regions.specs.declared.touch.Touch.TheVariants.{Fetch}
use Rattle.kc_rules.proofs.AnswerLemmas.{some_is}
use Rattle.kc_cpu.specs.declared.cpu.Cpu.{Cpu}
use Rattle.kc_cpu.specs.declared.cpu.Latch.{Latch}
use Rattle.kc_mem.specs.Memory.{Bytes}
use Rattle.kc_exec.specs.declared.access.Access.{Access}
use Rattle.kc_exec.specs.declared.executed.Executed.{Executed}
use Rattle.kc_exec.specs.declared.state.Activation.{Activation}
use Rattle.kc_exec.specs.Change as machine
use Rattle.kc_exec.specs.Effect as effect
use Rattle.kc_exec.specs.Effect.{row}
use Rattle.kc_exec.specs.Execution.{write_access, data_accesses}
use Rattle.kc_exec.specs.Moment.{Moment}
use Rattle.kc_exec.specs.Operand as operands
use Rattle.kc_value.specs.AbsValue.{AbsValue}
use Rattle.kc_value.specs.declared.env.ValueEnv.{ValueEnv}
use Rattle.kc_state.specs.AbsEffect.{AbsChange, abs_row, store_of, operated, alu_change, alu_result, bit_result, cancels, is_same_reg, on_stack, push_of, stack_word, with_popped_rsp}
use Rattle.kc_state.specs.Flags.{alu_flags, bit_flags}
use Rattle.kc_state.specs.Calls.{moved_up}
use Rattle.kc_state.specs.Conditions.{AbsAccess, read_of, moved_location, stack_read, write_of, accesses_of}
use Rattle.kc_state.specs.Location.{location_of}
use Rattle.kc_state.specs.Operand.{AbsMoment, linear, number_value, destination, operand}
use Rattle.kc_state.specs.Shift.{shifted}
use Rattle.kc_state.specs.declared.cpu.AbsCpu.{AbsCpu}
use Rattle.kc_state.specs.declared.key.Key.{Key}
use Rattle.kc_state.specs.declared.location.Location.{Location}
use Rattle.kc_state.specs.declared.location.Location.TheVariants.{Number, Relative}
use Rattle.kc_describes.specs.Chain.{newest_of, env_of}
use Rattle.kc_describes.specs.Fits.{ChainFits}
use Rattle.kc_describes.specs.Row.{value_at}
use Rattle.kc_describes.specs.Widths.{IsActivation}
use Rattle.kc_describes.proofs.LocationLemmas.{IsAt}
use Rattle.kc_describes.proofs.OperandLemmas.{IsFor, IsSeen, IsAddress, IsOperand, size_is, register_is, linear_is, location_is, set_register}
use Rattle.kc_describes.proofs.ShiftLemmas.{IsMove, shift_stands, push_move}
use Rattle.kc_describes.proofs.ValidLemmas.{shifted_valid}

-- ---- one access

pub record AccessAgrees (cfg : Description) (key : Key) (base : ℕ) (l : AbsAccess) (a : Access) : Type 0 where
  pub size : a.size ≡ l.size
  pub touch : a.touch ≡ l.touch
  pub no_fetch : l.touch ≢ Fetch
  pub gs : a.gs ≡ l.gs
  pub at : (p : Location) → l.at ≡ Some p → IsAt cfg key base a.at p

-- the lists have one length, and their accesses agree
abbrev pub Agree : Description → Key → ℕ → List AbsAccess → List Access → Type 0
Agree cfg key base [] [] = Unit {0}
Agree cfg key base (l ∷ ls) (a ∷ ds) = AccessAgrees cfg key base l a × Agree cfg key base ls ds
Agree cfg key base [] (a ∷ ds) = ⊥
Agree cfg key base (l ∷ ls) [] = ⊥

agree_both : (cfg : Description) (key : Key) (base : ℕ) (ls more : List AbsAccess) (ds others : List Access)
    → Agree cfg key base ls ds → Agree cfg key base more others → Agree cfg key base (ls ++ more) (ds ++ others)
agree_both cfg key base [] more [] others h g = g
agree_both cfg key base [] more (a ∷ ds) others h g = absurd h
agree_both cfg key base (l ∷ ls) more [] others h g = absurd h
agree_both cfg key base (l ∷ ls) more (a ∷ ds) others h g = (h.0, agree_both cfg key base ls more ds others h.1 g)

-- ---- the operands of an instruction

abbrev pub HasOperands : Insn → Type 0
HasOperands (Mov w dest src) = IsOperand (source_of dest) × IsOperand src
HasOperands (Lea w dest src) = IsAddress src
HasOperands (Xchg w dest src) = IsOperand (source_of dest)
HasOperands (Push src) = IsOperand src
HasOperands (Pop dest) = IsOperand (source_of dest)
HasOperands (Alu op w dest src) = IsOperand (source_of dest) × IsOperand src
HasOperands (Test w dest src) = IsOperand (source_of dest) × IsOperand src
HasOperands (Bit op w dest number) = IsOperand (source_of dest)
HasOperands insn = Unit {0}

-- ---- words on the stack

moved_fits : (k : ℤ) (n : ℕ) → FitsSigned w64 k → n < 2 ^ 63 → FitsSigned w64 (int_wrapping_add w64 k (pos n))
moved_fits k n fits small =
    let also : FitsSigned w64 (pos n) = omega (arith, ints, small) in
    subst (FitsSigned w64) (sym (wrapping_add_is w64 k (pos n) fits also)) (SFits-int_wrap w64 _)

moved_cast : (base n : ℕ) (k : ℤ)
    → word (base + cast_unsigned w64 (int_wrapping_add w64 k (pos n))) ≡ word (word (base + cast_unsigned w64 k) + n)
moved_cast base n k =
    let same : cast_unsigned w64 (cast_signed w64 (word (cast_unsigned w64 k + n))) ≡ word (cast_unsigned w64 k + n) =
    of_z-to_z w64 (word (cast_unsigned w64 k + n)) (omega arith) in
    ap (λ z. word (base + z)) same ∙ omega arith

-- a location that is moved up is the address moved up
pub moved_at : (cfg : Description) (key : Key) (base n a : ℕ) (l : Location) → n < 2 ^ 63 → IsAt cfg key base a l
    → IsAt cfg key base (word (a + n)) (moved_up l n)
moved_at cfg key base n a (Number b) small at = (omega arith, ap (λ z. word (z + n)) at.1)
moved_at cfg key base n a (Relative k) small at =
    ((moved_fits k n at.0.0 small, at.0.1), moved_cast base n k ∙ ap (λ z. word (z + n)) at.1)

module _ (cfg : Description) (valid : IsValid cfg) (key : Key) (chain : List Activation) (F : ChainFits cfg key chain)
    (typed : All IsActivation chain) (state : AbsCpu) (slots : List AbsValue) (cpu : Cpu) (latch : Latch) (mem : Bytes)
    (next : ℕ) (S : IsSeen cfg key chain state slots cpu mem next) where
  abbrev base : ℕ
  base = (newest_of chain).base

  abbrev env : ValueEnv
  env = env_of cfg chain

  abbrev m : AbsMoment
  m = record { d = cfg; key = key; cpu = state; slots = slots; next = next }

  abbrev c : Moment
  c = record { cfg = cfg; cpu = cpu; latch = latch; mem = mem; next = next }

  abbrev rsp_value : AbsValue
  rsp_value = value_at state.regs 4

  abbrev rsp_word : ℕ
  rsp_word = slice_index cpu.regs 4

  pub rsp_is : IsFor env rsp_value rsp_word
  rsp_is = register_is cfg valid key chain F typed state slots cpu latch mem next S 4

  located_at : (v : AbsValue) (n : ℕ) (p : Location) → IsFor env v n → location_of key v ≡ Some p
      → IsAt cfg key base n p
  located_at v n p r e = location_is cfg valid key chain F typed state slots cpu latch mem next S v n p r e

  -- ---- operands

  read_agrees : (w : Width) (src : Source) → IsOperand src
      → Agree cfg key base (read_of m w src) (operands.reads_of c w src)
  read_agrees w (source.Reg r) is = tt
  read_agrees w (source.Imm z) is = tt
  read_agrees w (source.Mem a) is =
      let r = linear_is cfg valid key chain F typed state slots cpu latch mem next S a is in (
        record {
          size = sym (size_is w);
          touch = refl;
          no_fetch = λ e. absurd cc;
          gs = refl;
          at = λ p e. located_at (linear m a) (operands.linear c a) p r e;
        },
        tt,
      )

  write_agrees : (w : Width) (dest : Place) (v : AbsValue) (n : ℕ) → IsOperand (source_of dest)
      → Agree cfg key base (write_of (store_of m w dest v)) (write_access (operands.write_of c w dest n))
  write_agrees w (place.Reg r) v n is = tt
  write_agrees w (place.Mem a) v n is =
      let r = linear_is cfg valid key chain F typed state slots cpu latch mem next S a is in (
        record {
          size = sym (size_is w);
          touch = refl;
          no_fetch = λ e. absurd cc;
          gs = refl;
          at = λ p e. located_at (linear m a) (operands.linear c a) p r e;
        },
        tt,
      )

  -- a result that both sides drop, or both write
  abbrev AreBoth : Option AbsValue → Option ℕ → Type 0
  AreBoth None None = Unit {0}
  AreBoth (Some v) (Some n) = Unit {0}
  AreBoth None (Some n) = ⊥
  AreBoth (Some v) None = ⊥

  operated_agrees : (w : Width) (dest : Place) (flags : KnownBits) (v : Option AbsValue) (ls : List AbsAccess)
      (reads : List Access) (f : ℕ) (n : Option ℕ) → IsOperand (source_of dest) → Agree cfg key base ls reads
      → AreBoth v n
      → Agree cfg key base (ls ++ write_of (operated m w dest flags v).store)
      (data_accesses (machine.operated c w dest reads f n))
  operated_agrees w dest flags None ls reads f None is h both = agree_both cfg key base ls [] reads [] h tt
  operated_agrees w dest flags (Some v) ls reads f (Some n) is h both =
      agree_both cfg key base ls (write_of (store_of m w dest v)) reads
      (write_access (operands.write_of c w dest n)) h (write_agrees w dest v n is)
  operated_agrees w dest flags None ls reads f (Some n) is h both = absurd both
  operated_agrees w dest flags (Some v) ls reads f None is h both = absurd both

  -- ---- arithmetic

  alu_both : (op : AluOp) (w : Width) (x y : AbsValue) (i j : ℕ)
      → AreBoth (alu_result m op w x y) (effect.alu_result op w i j)
  alu_both alu.Add w x y i j = tt
  alu_both alu.Or w x y i j = tt
  alu_both alu.And w x y i j = tt
  alu_both alu.Sub w x y i j = tt
  alu_both alu.Xor w x y i j = tt
  alu_both alu.Cmp w x y i j = tt

  bit_both : (op : BitOp) (number : ℕ) (x : KnownBits) (i : ℕ)
      → AreBoth (bit_result m op number x) (effect.bit_result op number i)
  bit_both bits.«Test» number x i = tt
  bit_both bits.Set number x i = tt
  bit_both bits.Reset number x i = tt

  -- ---- the stack

  stack_at_by : (i : ℕ) (o : Option Location) (p : Location) → i < 8 → location_of key rsp_value ≡ o
      → moved_location o (8 * i) ≡ Some p → IsAt cfg key base (machine.stack_address c i) p
  stack_at_by i (Some l) p few e moved =
      let at = located_at rsp_value rsp_word l rsp_is e in
      subst (IsAt cfg key base (machine.stack_address c i)) (some_is (moved_up l (8 * i)) p moved)
      (moved_at cfg key base (8 * i) rsp_word l (omega (arith, few)) at)
  stack_at_by i None p few e moved = absurd cc

  stack_agrees : (i : ℕ) → i < 8 → AccessAgrees cfg key base (stack_read m i) (machine.stack_read c i)
  stack_agrees i few = record {
    size = refl;
    touch = refl;
    no_fetch = λ e. absurd cc;
    gs = refl;
    at = λ p e. stack_at_by i (location_of key rsp_value) p few refl e;
  }

  stacked : (key : Key) (v : AbsValue) (o : Option Location) → location_of key (on_stack key v o) ≡ location_of key v
  stacked key v (Some (Number a)) = refl
  stacked key v (Some (Relative k)) = refl
  stacked key v None = refl

  pushed_is : IsFor env (shifted cfg key rsp_value (neg_ℤ (pos 8))) (machine.pushed_rsp c)
  pushed_is = record {
    valid = shifted_valid cfg valid key rsp_value (neg_ℤ (pos 8)) rsp_is.valid;
    fits = omega arith;
    stands =
        shift_stands cfg valid key chain F rsp_value rsp_word (neg_ℤ (pos 8)) rsp_is.valid rsp_is.fits rsp_is.stands
        (push_move cfg valid key chain F);
  }

  push_agrees : (v : AbsValue) (n : ℕ)
      → Agree cfg key base (write_of (push_of m v)) (write_access (machine.push_of c n))
  push_agrees v n =
      let u = shifted cfg key rsp_value (neg_ℤ (pos 8)) in (
        record {
          size = refl;
          touch = refl;
          no_fetch = λ e. absurd cc;
          gs = refl;
          at = λ p e. located_at u (machine.pushed_rsp c) p pushed_is (sym (stacked key u (location_of key u)) ∙ e);
        },
        tt,
      )

  -- ---- instructions by what they do

  -- the reads of both operands
  abbrev abs_pair : Width → Place → Source → List AbsAccess
  abs_pair w dest src = read_of m w (source_of dest) ++ read_of m w src

  abbrev pair : Width → Place → Source → List Access
  pair w dest src = operands.reads_of c w (source_of dest) ++ operands.reads_of c w src

  pair_agrees : (w : Width) (dest : Place) (src : Source) → IsOperand (source_of dest) → IsOperand src
      → Agree cfg key base (abs_pair w dest src) (pair w dest src)
  pair_agrees w dest src into from =
      agree_both cfg key base (read_of m w (source_of dest)) (read_of m w src)
      (operands.reads_of c w (source_of dest)) (operands.reads_of c w src)
      (read_agrees w (source_of dest) into) (read_agrees w src from)

  pub move_agrees : (w : Width) (dest : Place) (src : Source) (v : AbsValue) (n : ℕ) → IsOperand (source_of dest)
      → IsOperand src
      → Agree cfg key base (read_of m w src ++ write_of (store_of m w dest v))
      (operands.reads_of c w src ++ write_access (operands.write_of c w dest n))
  move_agrees w dest src v n into from =
      agree_both cfg key base (read_of m w src) (write_of (store_of m w dest v)) (operands.reads_of c w src)
      (write_access (operands.write_of c w dest n)) (read_agrees w src from) (write_agrees w dest v n into)

  pub push_all : (src : Source) (v : AbsValue) (n : ℕ) → IsOperand src
      → Agree cfg key base (read_of m Quad src ++ write_of (push_of m v))
      (operands.reads_of c Quad src ++ write_access (machine.push_of c n))
  push_all src v n is =
      agree_both cfg key base (read_of m Quad src) (write_of (push_of m v)) (operands.reads_of c Quad src)
      (write_access (machine.push_of c n)) (read_agrees Quad src is) (push_agrees v n)

  alu_by : (op : AluOp) (w : Width) (dest : Place) (src : Source) (x y : AbsValue) (f i j : ℕ)
      → IsOperand (source_of dest) → IsOperand src
      → Agree cfg key base (abs_pair w dest src ++ write_of (alu_change m op w dest x y).store)
      (data_accesses (machine.operated c w dest (pair w dest src) f (effect.alu_result op w i j)))
  alu_by op w dest src x y f i j into from =
      operated_agrees w dest
      (alu_flags op (bits_of w) (bits_cut (bits_of w) x.bits) (bits_cut (bits_of w) y.bits) m.cpu.flags.bits)
      (alu_result m op w x y) (abs_pair w dest src) (pair w dest src) f (effect.alu_result op w i j) into
      (pair_agrees w dest src into from) (alu_both op w x y i j)

  pub alu_agrees : (op : AluOp) (w : Width) (dest : Place) (src : Source) (f i j : ℕ) → IsOperand (source_of dest)
      → IsOperand src
      → Agree cfg key base (abs_pair w dest src ++ write_of (abs_row m (Alu op w dest src)).store)
      (data_accesses (machine.operated c w dest (pair w dest src) f (effect.alu_result op w i j)))
  unfolding abs_row
  alu_agrees op w dest src f i j into from =
      let zero = number_value cfg 0 in
      let ls = abs_pair w dest src in
      let done = machine.operated c w dest (pair w dest src) f (effect.alu_result op w i j) in
      cond_both (cancels op && is_same_reg dest src) (alu_change m op w dest zero zero)
      (alu_change m op w dest (destination m w dest) (operand m w src))
      (λ (ch : AbsChange). Agree cfg key base (ls ++ write_of ch.store) (data_accesses done))
      (λ h. alu_by op w dest src zero zero f i j into from)
      (λ h. alu_by op w dest src (destination m w dest) (operand m w src) f i j into from)

  pub test_agrees : (w : Width) (dest : Place) (src : Source) (b : KnownBits) (f : ℕ) → IsOperand (source_of dest)
      → IsOperand src
      → Agree cfg key base (abs_pair w dest src ++ write_of (operated m w dest b None).store)
      (data_accesses (machine.operated c w dest (pair w dest src) f None))
  test_agrees w dest src b f into from =
      operated_agrees w dest b None (abs_pair w dest src) (pair w dest src) f None into
      (pair_agrees w dest src into from) tt

  pub bit_agrees : (op : BitOp) (w : Width) (dest : Place) (b x : KnownBits) (i f j : ℕ) → IsOperand (source_of dest)
      → Agree cfg key base (read_of m w (source_of dest) ++ write_of (operated m w dest b (bit_result m op i x)).store)
      (data_accesses (machine.operated c w dest (operands.reads_of c w (source_of dest)) f
      (effect.bit_result op i j)))
  bit_agrees op w dest b x i f j into =
      operated_agrees w dest b (bit_result m op i x) (read_of m w (source_of dest))
      (operands.reads_of c w (source_of dest)) f (effect.bit_result op i j) into
      (read_agrees w (source_of dest) into) (bit_both op i x j)

  -- a write to a model-specific register touches no memory
  pub msr_agrees : (number v : ℕ) → Agree cfg key base [] (data_accesses (effect.with_msr c number v))
  msr_agrees number v =
      let P = λ (done : Executed). Agree cfg key base [] (data_accesses done) in
      cond_both (number == effect.gs_base) _ _ P (λ h. tt)
      (λ h. cond_both (number == effect.kernel_gs_base) _ _ P (λ g. tt)
      (λ g. cond_both (number == effect.mcg_status) _ _ P (λ k. tt) (λ k. tt)))

-- ---- the table

module _ (cfg : Description) (valid : IsValid cfg) (key : Key) (chain : List Activation) (F : ChainFits cfg key chain)
    (typed : All IsActivation chain) (state : AbsCpu) (slots : List AbsValue) (cpu : Cpu) (latch : Latch) (mem : Bytes)
    (next : ℕ) (S : IsSeen cfg key chain state slots cpu mem next) where
  abbrev at : ℕ
  at = (newest_of chain).base

  abbrev here : AbsMoment
  here = record { d = cfg; key = key; cpu = state; slots = slots; next = next }

  abbrev there : Moment
  there = record { cfg = cfg; cpu = cpu; latch = latch; mem = mem; next = next }

  -- what is seen after the word at RSP was popped
  popped_seen : IsSeen cfg key chain (with_popped_rsp here) slots (machine.with_popped_rsp there) mem next
  popped_seen =
      let r = rsp_is cfg valid key chain F typed state slots cpu latch mem next S in
      let eight : IsMove (pos 8) = inl (omega (arith, ints)) in
      record {
        regs = set_register cfg valid key chain F typed state.regs cpu.regs 4 (word (slice_index cpu.regs 4 + 8))
            (shifted cfg key (value_at state.regs 4) (pos 8)) S.regs
            (shifted_valid cfg valid key (value_at state.regs 4) (pos 8) r.valid) (omega arith)
            (shift_stands cfg valid key chain F (value_at state.regs 4) (slice_index cpu.regs 4) (pos 8) r.valid r.fits
            r.stands eight);
        gs = S.gs;
        gs_fits = S.gs_fits;
        next_fits = S.next_fits;
        count = S.count;
        slots_valid = S.slots_valid;
        words = S.words;
        bytes = S.bytes;
      }

  pop_agrees : (dest : Place) (v : AbsValue) (n : ℕ) → IsOperand (source_of dest)
      → Agree cfg key at
      (stack_read here 0 ∷ write_of (store_of (record here { cpu = with_popped_rsp here }) Quad dest v))
      (machine.stack_read there 0
      ∷ write_access (operands.write_of (record there { cpu = machine.with_popped_rsp there }) Quad dest n))
  pop_agrees dest v n is = (
    stack_agrees cfg valid key chain F typed state slots cpu latch mem next S 0 (omega arith),
    write_agrees cfg valid key chain F typed (with_popped_rsp here) slots (machine.with_popped_rsp there) latch mem next
        popped_seen Quad dest v n is,
  )

  abbrev Agrees : Insn → Type 0
  Agrees insn =
      Agree cfg key at (accesses_of here insn (abs_row here insn).store) (data_accesses (row there insn))

  -- the data accesses of each instruction but IRETQ agree
  pub accesses_agree : (insn : Insn) → HasOperands insn → (insn ≡ Iretq → ⊥) → Agrees insn
  unfolding abs_row row
  accesses_agree Nop is other = tt
  accesses_agree Endbr64 is other = tt
  accesses_agree Lfence is other = tt
  accesses_agree Ud2 is other = tt
  accesses_agree (Mov w dest src) is other =
      move_agrees cfg valid key chain F typed state slots cpu latch mem next S w dest src (operand here w src)
      (operands.operand there w src) is.0 is.1
  accesses_agree (Lea w dest src) is other = tt
  accesses_agree (Xchg w dest src) is other =
      move_agrees cfg valid key chain F typed state slots cpu latch mem next S w dest (source_of dest)
      (operand here w (source.Reg src)) (operands.operand there w (source.Reg src)) is is
  accesses_agree (Push src) is other =
      push_all cfg valid key chain F typed state slots cpu latch mem next S src (operand here Quad src)
      (operands.operand there Quad src) is
  accesses_agree (Pop dest) is other = pop_agrees dest (stack_word here) (machine.stack_word there 0) is
  accesses_agree Pushfq is other =
      push_agrees cfg valid key chain F typed state slots cpu latch mem next S state.flags cpu.flags
  accesses_agree Popfq is other =
      (stack_agrees cfg valid key chain F typed state slots cpu latch mem next S 0 (omega arith), tt)
  accesses_agree (Alu op w dest src) is other =
      alu_agrees cfg valid key chain F typed state slots cpu latch mem next S op w dest src
      (effect.alu_flags op w (operands.destination there w dest) (operands.operand there w src) cpu.flags)
      (operands.destination there w dest) (operands.operand there w src) is.0 is.1
  accesses_agree (Test w dest src) is other =
      test_agrees cfg valid key chain F typed state slots cpu latch mem next S w dest src
      (alu_flags alu.And (bits_of w) (bits_cut (bits_of w) (destination here w dest).bits)
      (bits_cut (bits_of w) (operand here w src).bits) state.flags.bits)
      (effect.logic_flags_after w (bit_and (operands.destination there w dest) (operands.operand there w src))
      cpu.flags) is.0 is.1
  accesses_agree (Bit op w dest number) is other =
      bit_agrees cfg valid key chain F typed state slots cpu latch mem next S op w dest
      (bit_flags (number % bits_of w) (bits_cut (bits_of w) (destination here w dest).bits) state.flags.bits)
      (bits_cut (bits_of w) (destination here w dest).bits) (number % bits_of w)
      (effect.bit_flags (number % bits_of w) (operands.destination there w dest) cpu.flags)
      (operands.destination there w dest) is
  accesses_agree (Jcc code target) is other = tt
  accesses_agree (Jmp target) is other = tt
  accesses_agree (Call target) is other =
      push_agrees cfg valid key chain F typed state slots cpu latch mem next S (number_value cfg next) next
  accesses_agree Ret is other =
      (stack_agrees cfg valid key chain F typed state slots cpu latch mem next S 0 (omega arith), tt)
  accesses_agree Cli is other = tt
  accesses_agree Cld is other = tt
  accesses_agree Clac is other = tt
  accesses_agree Stac is other = tt
  accesses_agree Sti is other = tt
  accesses_agree Swapgs is other = tt
  accesses_agree (ReadGs r) is other = tt
  accesses_agree (WriteGs r) is other = tt
  accesses_agree Rdmsr is other = tt
  accesses_agree Wrmsr is other =
      msr_agrees cfg valid key chain F typed state slots cpu latch mem next S (effect.msr_number cpu)
      (effect.edx_eax cpu)
  accesses_agree (ReadCr3 r) is other = tt
  accesses_agree (WriteCr3 r) is other = tt
  accesses_agree Sysretq is other = tt
  accesses_agree Iretq is other = absurd (other refl)

  -- an IRETQ reads five words that agree, and then descriptors
  abbrev iret_words : List Access
  iret_words =
      machine.stack_read there 0 ∷ machine.stack_read there 1 ∷ machine.stack_read there 2
      ∷ machine.stack_read there 3
      ∷ machine.stack_read there 4 ∷ []

  pub iret_agrees : Agree cfg key at (accesses_of here Iretq (abs_row here Iretq).store) iret_words
  unfolding abs_row
  iret_agrees = (
    word_agrees 0 (omega arith),
    (
      word_agrees 1 (omega arith),
      (
        word_agrees 2 (omega arith),
        (word_agrees 3 (omega arith), (word_agrees 4 (omega arith), tt)),
      ),
    ),
  )
    where
      word_agrees : (i : ℕ) → i < 8 → AccessAgrees cfg key at (stack_read here i) (machine.stack_read there i)
      word_agrees i few = stack_agrees cfg valid key chain F typed state slots cpu latch mem next S i few
