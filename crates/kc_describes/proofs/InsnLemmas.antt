-- The operands of an instruction that has a spelling: each address has one of the four scales, and a displacement of a
-- signed number of 32 bits, as its type says. By cases on the instruction.
use Rattle.std.proofs.Common.{◌≡◌, ℕ, ◌&&◌, ◌||◌, ◌==◌, nat_lt, not, inl, true, Option, Some, None, ℤ, arith}
use Rattle.std.specs.Prelude.{FitsSigned}
use Rattle.std.specs.Int.{w32}
use Rattle.std.proofs.lemmas.Bool.{and_parts}
use Rattle.std.proofs.lemmas.Int.{ints}
use Rattle.kc_words.specs.declared.width.Width.{Width}
use Rattle.kc_insn.specs.declared.insn.Base.{Base}
use Rattle.kc_insn.specs.declared.insn.Base.TheVariants as base
use Rattle.kc_insn.specs.declared.insn.Insn.{Insn}
use Rattle.kc_insn.specs.declared.insn.Insn.TheVariants.{Mov, Lea, Xchg, Push, Pop, Alu, Test, Bit}
use Rattle.kc_insn.specs.declared.insn.Mem.{Mem}
use Rattle.kc_insn.specs.declared.insn.Place.{Place}
use Rattle.kc_insn.specs.declared.insn.Place.TheVariants as place
use Rattle.kc_insn.specs.declared.insn.Reg.{Reg}
use Rattle.kc_insn.specs.declared.insn.Source.{Source}
use Rattle.kc_insn.specs.declared.insn.Source.TheVariants as source
use Rattle.kc_insn.specs.Encodable.{is_register, is_index, is_address, is_memory, is_place, is_wide, is_immediate, is_move, is_pair, is_test, is_pushed, is_encodable}
use Rattle.kc_insn.specs.Fields.{source_of}
use Rattle.kc_state.specs.Scaled.{IsScaled}
use Rattle.kc_describes.proofs.AccessLemmas.{HasOperands}
use Rattle.kc_describes.proofs.OperandLemmas.{IsAddress, IsOperand}
use Rattle.kc_describes.proofs.ShiftLemmas.{IsMove}

-- ---- displacements

abbrev pub HasDisp : Source → Type 0
HasDisp (source.Reg r) = Unit {0}
HasDisp (source.Mem a) = FitsSigned w32 a.disp
HasDisp (source.Imm z) = Unit {0}

-- each displacement is a signed number of 32 bits
abbrev pub HasDisps : Insn → Type 0
HasDisps (Mov w dest src) = HasDisp (source_of dest) × HasDisp src
HasDisps (Lea w dest src) = FitsSigned w32 src.disp
HasDisps (Xchg w dest src) = HasDisp (source_of dest)
HasDisps (Push src) = HasDisp src
HasDisps (Pop dest) = HasDisp (source_of dest)
HasDisps (Alu op w dest src) = HasDisp (source_of dest) × HasDisp src
HasDisps (Test w dest src) = HasDisp (source_of dest) × HasDisp src
HasDisps (Bit op w dest number) = HasDisp (source_of dest)
HasDisps insn = Unit {0}

-- ---- addresses

scaled_by : (index : Option (Reg × ℕ)) → is_index index ≡ true → IsScaled index
scaled_by None h = tt
scaled_by (Some i) h =
    let p = and_parts (nat_lt i.0.0 16)
    (not (i.0.0 == 4) && (i.1 == 1 || (i.1 == 2 || (i.1 == 4 || i.1 == 8)))) h in
    (and_parts (not (i.0.0 == 4)) (i.1 == 1 || (i.1 == 2 || (i.1 == 4 || i.1 == 8))) p.1).1

scaled_of : (b : Base) (index : Option (Reg × ℕ)) → is_address b index ≡ true → IsScaled index
scaled_of base.Absent index h = scaled_by index h
scaled_of base.Rip None h = tt
scaled_of base.Rip (Some i) h = absurd cc
scaled_of (base.Reg r) index h = scaled_by index (and_parts (is_register r) (is_index index) h).1

move_of : (z : ℤ) → FitsSigned w32 z → IsMove z
move_of z h = inl (omega (arith, ints, h))

address_of_mem : (a : Mem) → is_memory a ≡ true → FitsSigned w32 a.disp → IsAddress a
address_of_mem a h disp = record { disp = move_of a.disp disp; index = scaled_of a.base a.index h }

place_operand : (p : Place) → is_place p ≡ true → HasDisp (source_of p) → IsOperand (source_of p)
place_operand (place.Reg r) h disp = tt
place_operand (place.Mem a) h disp = address_of_mem a h disp

-- ---- operands of an instruction

move_operands : (w : Width) (p : Place) (s : Source) → is_move w p s ≡ true → HasDisp (source_of p) → HasDisp s
    → IsOperand (source_of p) × IsOperand s
move_operands w (place.Reg d) (source.Reg r) h into from = (tt, tt)
move_operands w (place.Reg d) (source.Mem a) h into from =
    (tt, address_of_mem a (and_parts (is_register d) (is_memory a) h).1 from)
move_operands w (place.Reg d) (source.Imm z) h into from = (tt, tt)
move_operands w (place.Mem a) (source.Reg r) h into from =
    (address_of_mem a (and_parts (is_memory a) (is_register r) h).0 into, tt)
move_operands w (place.Mem a) (source.Mem b) h into from = absurd cc
move_operands w (place.Mem a) (source.Imm z) h into from =
    (address_of_mem a (and_parts (is_memory a) (is_immediate w z) h).0 into, tt)

pair_operands : (w : Width) (p : Place) (s : Source) → is_pair w p s ≡ true → HasDisp (source_of p) → HasDisp s
    → IsOperand (source_of p) × IsOperand s
pair_operands w (place.Reg d) (source.Reg r) h into from = (tt, tt)
pair_operands w (place.Reg d) (source.Mem a) h into from =
    (tt, address_of_mem a (and_parts (is_register d) (is_memory a) h).1 from)
pair_operands w (place.Mem a) (source.Reg r) h into from =
    (address_of_mem a (and_parts (is_memory a) (is_register r) h).0 into, tt)
pair_operands w (place.Mem a) (source.Mem b) h into from = absurd cc
pair_operands w p (source.Imm z) h into from =
    (place_operand p (and_parts (is_place p) (is_immediate w z) h).0 into, tt)

test_operands : (w : Width) (p : Place) (s : Source) → is_test w p s ≡ true → HasDisp (source_of p) → HasDisp s
    → IsOperand (source_of p) × IsOperand s
test_operands w p (source.Reg r) h into from =
    let wide = and_parts (is_wide w) (is_place p && is_register r) h in
    (place_operand p (and_parts (is_place p) (is_register r) wide.1).0 into, tt)
test_operands w p (source.Mem a) h into from = absurd cc
test_operands w p (source.Imm z) h into from =
    (place_operand p (and_parts (is_place p) (is_immediate w z) h).0 into, tt)

push_operand : (s : Source) → is_pushed s ≡ true → HasDisp s → IsOperand s
push_operand (source.Reg r) h disp = tt
push_operand (source.Mem a) h disp = address_of_mem a h disp
push_operand (source.Imm z) h disp = tt

-- an instruction that has a spelling has such operands
pub has_operands : (insn : Insn) → is_encodable insn ≡ true → HasDisps insn → HasOperands insn
has_operands (Mov w p s) h disps =
    move_operands w p s (and_parts (is_wide w) (is_move w p s) h).1 disps.0 disps.1
has_operands (Lea w r m) h disps =
    let wide = and_parts (is_wide w) (is_register r && (not m.gs && is_memory m)) h in
    let register = and_parts (is_register r) (not m.gs && is_memory m) wide.1 in
    address_of_mem m (and_parts (not m.gs) (is_memory m) register.1).1 disps
has_operands (Xchg w p r) h disps =
    let wide = and_parts (is_wide w) (is_place p && is_register r) h in
    place_operand p (and_parts (is_place p) (is_register r) wide.1).0 disps
has_operands (Push s) h disps = push_operand s h disps
has_operands (Pop p) h disps = place_operand p h disps
has_operands (Alu op w p s) h disps =
    pair_operands w p s (and_parts (is_wide w) (is_pair w p s) h).1 disps.0 disps.1
has_operands (Test w p s) h disps = test_operands w p s h disps.0 disps.1
has_operands (Bit op w p n) h disps = place_operand p (and_parts (is_wide w) (is_place p) h).1 disps
has_operands insn h disps = tt
