-- Whatever a form of the grammar spells fits its types: displacements, immediates and bit numbers are read from so many
-- bytes. First by operand, then by form: FormFits says it of all tails of a form, a lemma for each kind of form.
use Rattle.std.proofs.Common.{◌≡◌, ℕ, suc, ◌+◌, ◌-◌, ◌^◌, ◌<◌, ◌≤◌, Bool, true, false, cond, eqb, ltb, List, [], ◌∷◌, Option, Some, ℤ, pos, negsuc, refl, sym, subst, arith}
use Rattle.std.specs.Prelude.{FitsSigned}
use Rattle.std.specs.Int.{w8, w32, w64, cast_signed, cast_unsigned}
use Rattle.std.proofs.lemmas.Bool.{ltb-true, ltb-false}
use Rattle.std.proofs.lemmas.Int.{ints}
use Rattle.kc_words.specs.declared.width.Width.{Width}
use Rattle.kc_words.specs.declared.width.Width.TheVariants.{Byte, Long, Quad}
use Rattle.kc_reading.specs.Reading.{IsNumber}
use Rattle.kc_insn.specs.declared.insn.Insn.{Insn}
use Rattle.kc_insn.specs.declared.insn.Mem.{Mem}
use Rattle.kc_insn.specs.declared.insn.Reg.{Reg}
use Rattle.kc_insn.specs.declared.insn.Place.{Place}
use Rattle.kc_insn.specs.declared.insn.Place.TheVariants as place
use Rattle.kc_insn.specs.declared.insn.Source.{Source}
use Rattle.kc_insn.specs.declared.insn.Source.TheVariants as source
use Rattle.kc_insn.specs.declared.rex.Rex.{Rex}
use Rattle.kc_insn.specs.Fields.{w_bit, b_bit, r_bit, extended, width_of, signed, IsSigned, disp_bytes, Size, ib, id, IsImmediate, IsMemory, no_sib, sib, IsRm, in_register, in_memory, IsOperand, source_of}
use Rattle.kc_insn.specs.Table.{Form, bit_of, plain, plain_w, last_byte, opcode_register, register_imm, rm_reg, reg_rm, address, rm_imm, rm_byte_imm, rm_bit, rm_quad, rm_register, rm_register_w, rm_unused, imm_quad, rax_imm, al_imm, relative}
use Rattle.kc_insn.specs.Spells.{Draft, whole, jump, IsTail}
use Rattle.kc_describes.specs.Widths.{IsWord}
use Rattle.kc_stack.specs.Rows.{FitsSource, FitsTypes}

-- ---- numbers

number_in_1 : (bs : List ℕ) (v : ℕ) → IsNumber 1 bs v → v < 2 ^ 8
number_in_1 [] v h = absurd cc
number_in_1 (a ∷ []) v h = omega (arith, h.1.0, h.2)
number_in_1 (a ∷ b ∷ bs) v h = absurd (omega (arith, h.0))

number_in_4 : (bs : List ℕ) (v : ℕ) → IsNumber 4 bs v → v < 2 ^ 32
number_in_4 [] v h = absurd cc
number_in_4 (a ∷ []) v h = absurd cc
number_in_4 (a ∷ b ∷ []) v h = absurd cc
number_in_4 (a ∷ b ∷ c ∷ []) v h = absurd cc
number_in_4 (a ∷ b ∷ c ∷ d ∷ []) v h = omega (arith, h.1.0, h.1.1.0, h.1.1.1.0, h.1.1.1.1.0, h.2)
number_in_4 (a ∷ b ∷ c ∷ d ∷ e ∷ bs) v h = absurd (omega (arith, h.0))

-- two's complement of a number below top, half of which fits 32 signed bits
half_fits : (half top v : ℕ) → half ≤ 2 ^ 31 → top ≤ half + half
    → FitsSigned w32 (cond (ltb v half) (pos v) (negsuc (top - suc v)))
half_fits half top v small twice = go (ltb v half) refl
  where
    go : (b : Bool) → ltb v half ≡ b → FitsSigned w32 (cond b (pos v) (negsuc (top - suc v)))
    go true e = let k = ltb-true v half e in omega (arith, ints, k, small)
    go false e = let k = ltb-false v half e in omega (arith, ints, k, small, twice)

signed_in_0 : (v : ℕ) → FitsSigned w32 (signed 0 v)
signed_in_0 v = half_fits 1 1 v (omega arith) (omega arith)

signed_in_1 : (v : ℕ) → FitsSigned w32 (signed 1 v)
signed_in_1 v = half_fits (2 ^ 7) (2 ^ 8) v (omega arith) (omega arith)

signed_in_4 : (v : ℕ) → FitsSigned w32 (signed 4 v)
signed_in_4 v = half_fits (2 ^ 31) (2 ^ 32) v (omega arith) (omega arith)

signed_in_8 : (v : ℕ) → FitsSigned w64 (cast_signed w64 v)
signed_in_8 v = go (ltb v (2 ^ 63)) refl
  where
    go : (b : Bool) → ltb v (2 ^ 63) ≡ b → FitsSigned w64 (cond b (pos v) (negsuc (2 ^ 64 - suc v)))
    go true e = let k = ltb-true v (2 ^ 63) e in omega (arith, ints, k)
    go false e = let k = ltb-false v (2 ^ 63) e in omega (arith, ints, k)

wider : (z : ℤ) → FitsSigned w32 z → FitsSigned w64 z
wider z h = omega (arith, ints, h)

natural_fits : (v : ℕ) → v < 2 ^ 32 → FitsSigned w64 (pos v)
natural_fits v h = omega (arith, ints, h)

-- a byte that is sign-extended to 32 bits
extended_fits : (v : ℕ) → v < 2 ^ 8 → FitsSigned w64 (pos (cast_unsigned w32 (cast_signed w8 v)))
extended_fits v h = go (ltb v 128) refl
  where
    go : (b : Bool) → ltb v 128 ≡ b
        → FitsSigned w64 (pos (cast_unsigned w32 (cond b (pos v) (negsuc (256 - suc v)))))
    go true e = natural_fits v (omega arith)
    go false e = natural_fits (4294967296 - suc (256 - suc v)) (omega arith)

-- ---- operands

disp_fits : (mode field : ℕ) (bs : List ℕ) (z : ℤ) → IsSigned (disp_bytes mode field) bs z → FitsSigned w32 z
disp_fits mode field bs z h = go (eqb mode 0) (eqb field 5) (eqb mode 1) h
  where
    go : (a b c : Bool) → IsSigned (cond a (cond b 4 0) (cond c 1 4)) bs z → FitsSigned w32 z
    go true true c k = subst (FitsSigned w32) (sym k.2) (signed_in_4 k.0)
    go true false c k = subst (FitsSigned w32) (sym k.2) (signed_in_0 k.0)
    go false b true k = subst (FitsSigned w32) (sym k.2) (signed_in_1 k.0)
    go false b false k = subst (FitsSigned w32) (sym k.2) (signed_in_4 k.0)

memory_fits : (gs : Bool) (rex : Option Rex) (mode rm : ℕ) (bs : List ℕ) (a : Mem) → IsMemory gs rex mode rm bs a
    → FitsSigned w32 a.disp
memory_fits gs rex mode rm bs a (no_sib disp other x num is) =
    subst (λ (m : Mem). FitsSigned w32 m.disp) (sym is) (disp_fits mode rm bs disp num)
memory_fits gs rex mode rm bs a (sib scale index field rest disp four hs hi hf bytes num is) =
    subst (λ (m : Mem). FitsSigned w32 m.disp) (sym is) (disp_fits mode field rest disp num)

rm_fits : (gs : Bool) (rex : Option Rex) (mode rm : ℕ) (bs : List ℕ) (p : Place) → IsRm gs rex mode rm bs p
    → FitsSource (source_of p)
rm_fits gs rex mode rm bs p (in_register three g x none is) =
    subst (λ (q : Place). FitsSource (source_of q)) (sym is) tt
rm_fits gs rex mode rm bs p (in_memory a below m is) =
    subst (λ (q : Place). FitsSource (source_of q)) (sym is) (memory_fits gs rex mode rm bs a m)

operand_fits : (gs : Bool) (rex : Option Rex) (n : ℕ) (bs : List ℕ) (p : Place) → IsOperand gs rex n bs p
    → FitsSource (source_of p)
operand_fits gs rex n bs p o = rm_fits gs rex o.mode o.rm o.rest p o.operand_is

immediate_fits : (w : Width) (size : Size) (bs : List ℕ) (z : ℤ) → IsImmediate w size bs z → FitsSigned w64 z
immediate_fits Byte ib bs z h =
    subst (FitsSigned w64) (sym h.2) (natural_fits h.0 (omega (arith, number_in_1 bs h.0 h.1)))
immediate_fits Byte id bs z h = subst (FitsSigned w64) (sym h.2) (natural_fits h.0 (number_in_4 bs h.0 h.1))
immediate_fits Long ib bs z h = subst (FitsSigned w64) (sym h.2) (extended_fits h.0 (number_in_1 bs h.0 h.1))
immediate_fits Long id bs z h = subst (FitsSigned w64) (sym h.2) (natural_fits h.0 (number_in_4 bs h.0 h.1))
immediate_fits Quad ib bs z h = subst (FitsSigned w64) (sym h.2) (wider (signed 1 h.0) (signed_in_1 h.0))
immediate_fits Quad id bs z h = subst (FitsSigned w64) (sym h.2) (wider (signed 4 h.0) (signed_in_4 h.0))

-- ---- forms

-- a jump fits, to whatever word it leads
abbrev pub Fits : Draft → Type 0
Fits (whole i) = FitsTypes i
Fits (jump make z) = (t : ℕ) → IsWord t → FitsTypes (make t)

abbrev pub FormFits : Form → Type 0
FormFits form =
    (gs : Bool) (rex : Option Rex) (tail : List ℕ) (d : Draft) → IsTail form gs rex tail d → Fits d

pub made : (d : Draft) (i : Insn) → d ≡ whole i → FitsTypes i → Fits d
made d i e h = subst Fits (sym e) h

pub plain_fits : (i : Insn) → FitsTypes i → FormFits (plain i)
plain_fits i ok gs rex tail d h = made d i h.1 ok

pub plain_w_fits : (i : Insn) → FitsTypes i → FormFits (plain_w i)
plain_w_fits i ok gs rex tail d h = made d i h.1 ok

pub last_fits : (select : ℕ → Option Insn) → ((b : ℕ) (i : Insn) → select b ≡ Some i → FitsTypes i)
    → FormFits (last_byte select)
last_fits select ok gs rex tail d h = made d h.insn h.draft_is (ok h.byte h.insn h.selected)

pub opcode_fits : (make : Reg → Insn) → ((r : Reg) → FitsTypes (make r)) → (k : ℕ) → FormFits (opcode_register make k)
opcode_fits make ok k gs rex tail d h = made d _ h.1 (ok (extended (b_bit rex) k))

pub register_imm_fits : (k : ℕ) → FormFits (register_imm k)
register_imm_fits k gs rex tail d h = made d _ h.2 (tt, go (w_bit rex) h.1)
  where
    go : (b : Bool) → IsNumber (cond b 8 4) tail h.0 → FitsSigned w64 (cond b (cast_signed w64 h.0) (pos h.0))
    go true n = signed_in_8 h.0
    go false n = natural_fits h.0 (number_in_4 tail h.0 n)

pub rm_reg_fits : (make : Width → Place → Reg → Insn)
    → ((w : Width) (p : Place) (r : Reg) → FitsSource (source_of p) → FitsTypes (make w p r)) → FormFits (rm_reg make)
rm_reg_fits make ok gs rex tail d h =
    made d _ h.3 (ok (width_of rex) h.1 (extended (r_bit rex) h.0) (operand_fits gs rex h.0 tail h.1 h.2))

pub reg_rm_fits : (make : Width → Reg → Place → Insn)
    → ((w : Width) (p : Place) (r : Reg) → FitsSource (source_of p) → FitsTypes (make w r p)) → FormFits (reg_rm make)
reg_rm_fits make ok gs rex tail d h =
    made d _ h.3 (ok (width_of rex) h.1 (extended (r_bit rex) h.0) (operand_fits gs rex h.0 tail h.1 h.2))

pub address_fits : FormFits address
address_fits gs rex tail d h = made d _ h.3 (operand_fits gs rex h.0 tail (place.Mem h.1) h.2)

pub rm_imm_fits : (select : ℕ → Option (Width → Place → Source → Insn)) (size : Size)
    → ((n : ℕ) (make : Width → Place → Source → Insn) (w : Width) (p : Place) (z : ℤ) → select n ≡ Some make
    → FitsSource (source_of p) → FitsSigned w64 z → FitsTypes (make w p (source.Imm z))) → FormFits (rm_imm select size)
rm_imm_fits select size ok gs rex tail d h =
    made d _ h.draft_is (ok h.reg h.make (width_of rex) h.rm h.value h.selected
    (operand_fits gs rex h.reg h.rm_bytes h.rm h.operand)
    (immediate_fits (width_of rex) size h.imm_bytes h.value h.immediate_is))

pub rm_byte_imm_fits : FormFits rm_byte_imm
rm_byte_imm_fits gs rex tail d h = made d _ h.draft_is
    (operand_fits gs rex 0 h.rm_bytes h.rm h.operand, immediate_fits Byte ib h.imm_bytes h.value h.immediate_is)

pub rm_bit_fits : FormFits (rm_bit bit_of)
rm_bit_fits gs rex tail d h = made d _ h.draft_is
    (operand_fits gs rex h.reg h.rm_bytes h.rm h.operand, number_in_1 h.bit_bytes h.bit h.bit_is)

pub rm_quad_fits : (n : ℕ) (make : Place → Insn) → ((p : Place) → FitsSource (source_of p) → FitsTypes (make p))
    → FormFits (rm_quad n make)
rm_quad_fits n make ok gs rex tail d h = made d _ h.2 (ok h.0 (operand_fits gs rex n tail h.0 h.1))

pub rm_register_fits : (select : ℕ → Option (Reg → Insn))
    → ((n : ℕ) (make : Reg → Insn) (r : Reg) → select n ≡ Some make → FitsTypes (make r))
    → FormFits (rm_register select)
rm_register_fits select ok gs rex tail d h = made d _ h.draft_is (ok h.reg h.make h.rm h.selected)

pub rm_register_w_fits : (select : ℕ → Option (Reg → Insn))
    → ((n : ℕ) (make : Reg → Insn) (r : Reg) → select n ≡ Some make → FitsTypes (make r))
    → FormFits (rm_register_w select)
rm_register_w_fits select ok gs rex tail d h = made d _ h.draft_is (ok h.reg h.make h.rm h.selected)

pub rm_unused_fits : FormFits rm_unused
rm_unused_fits gs rex tail d h = made d _ h.2 tt

pub imm_quad_fits : (size : Size) → FormFits (imm_quad size)
imm_quad_fits size gs rex tail d h = made d _ h.2 (immediate_fits Quad size tail h.0 h.1)

pub rax_imm_fits : FormFits rax_imm
rax_imm_fits gs rex tail d h = made d _ h.2 (tt, immediate_fits (width_of rex) id tail h.0 h.1)

pub al_imm_fits : FormFits al_imm
al_imm_fits gs rex tail d h = made d _ h.2 (tt, immediate_fits Byte ib tail h.0 h.1)

pub relative_fits : (make : ℕ → Insn) (size : Size) → ((t : ℕ) → IsWord t → FitsTypes (make t))
    → FormFits (relative make size)
relative_fits make size ok gs rex tail d h = subst Fits (sym h.2) ok
