-- What the grammar spells is encodable.
-- First by operand: fields in their ranges give registers below 16, indexes that aren't RSP, and immediates in range.
-- Then by form: FormOk says that whatever a tail of the form spells is encodable, a lemma for each kind of form. RowsOk
-- says it of each row of a table in the table's order, and lookup-ok, by induction on the rows, carries it to the form
-- that an opcode looks up. omega is left ranges of numbers.
use Rattle.std.proofs.Common.{◌≡◌, ℕ, zero, suc, ◌+◌, ◌-◌, ◌^◌, ◌<◌, Bool, true, false, cond, not, ◌&&◌, ◌||◌, eqb, ltb, leb, List, [], ◌∷◌, length, Option, Some, None, inl, inr, ℤ, pos, negsuc, refl, sym, ap, subst, ◌∙◌, arith}
use Rattle.std.specs.Prelude.{int_le, int_lt}
use Rattle.std.specs.Int.{w8, w32, w64, cast_signed, cast_unsigned}
use Rattle.std.proofs.lemmas.Bool.{ltb-true, ltb-false, lt-ltb, leb-true, le-leb, and_from, and_parts}
use Rattle.kc_rules.proofs.TestLemmas.{chosen}
use Rattle.kc_words.specs.declared.width.Width.{Width}
use Rattle.kc_words.specs.declared.width.Width.TheVariants.{Byte, Long, Quad}
use Rattle.kc_reading.specs.Reading.{IsNumber}
use Rattle.kc_insn.specs.declared.insn.Insn.{Insn}
use Rattle.kc_insn.specs.declared.insn.Insn.TheVariants as insn
use Rattle.kc_insn.specs.declared.insn.AluOp.{AluOp}
use Rattle.kc_insn.specs.declared.insn.AluOp.TheVariants as alu
use Rattle.kc_insn.specs.declared.insn.Mem.{Mem}
use Rattle.kc_insn.specs.declared.insn.Reg.{Reg}
use Rattle.kc_insn.specs.declared.insn.Base.TheVariants as base
use Rattle.kc_insn.specs.declared.insn.Place.{Place}
use Rattle.kc_insn.specs.declared.insn.Place.TheVariants as place
use Rattle.kc_insn.specs.declared.insn.Source.{Source}
use Rattle.kc_insn.specs.declared.insn.Source.TheVariants as source
use Rattle.kc_insn.specs.declared.rex.Rex.{Rex}
use Rattle.kc_insn.specs.Fields.{worth, w_bit, r_bit, x_bit, b_bit, extended, width_of, Size, ib, id, IsImmediate, base_of, index_of, IsMemory, no_sib, sib, IsRm, in_register, in_memory, IsOperand, source_of}
use Rattle.kc_insn.specs.Table.{Form, Row, row, rows, lookup, only, alu_of, alu_imm, bit_of, one_byte, two_byte, two_byte_f3, plain, plain_w, last_byte, opcode_register, register_imm, rm_reg, reg_rm, address, rm_imm, rm_byte_imm, rm_bit, rm_quad, rm_register, rm_register_w, rm_unused, imm_quad, rax_imm, al_imm, relative}
use Rattle.kc_insn.specs.Spells.{permits, permits_rex, Draft, whole, jump, IsTail, Spelled, in_one_byte, in_two_bytes, after_f3, short_nop, long_nop, resolve, Spells}
use Rattle.kc_insn.specs.Encodable.{is_register, is_index, is_address, is_memory, is_place, is_wide, is_signed_long, is_immediate, is_encodable}

-- ---- operands

register-ok : (bit : Bool) (n : ℕ) → n < 8 → is_register (extended bit n) ≡ true
register-ok true n h = lt-ltb (8 + n) 16 (omega arith)
register-ok false n h = lt-ltb (0 + n) 16 (omega arith)

wide-ok : (rex : Option Rex) → is_wide (width_of rex) ≡ true
wide-ok rex = go (w_bit rex)
  where
    go : (b : Bool) → is_wide (cond b Quad Long) ≡ true
    go true = refl
    go false = refl

scale-ok : (k : ℕ) → k < 4 → (eqb (2 ^ k) 1 || (eqb (2 ^ k) 2 || (eqb (2 ^ k) 4 || eqb (2 ^ k) 8))) ≡ true
scale-ok zero h = refl
scale-ok (suc zero) h = refl
scale-ok (suc (suc zero)) h = refl
scale-ok (suc (suc (suc zero))) h = refl
scale-ok (suc (suc (suc (suc k)))) h = absurd (omega arith)

index-ok : (rex : Option Rex) (scale index : ℕ) → scale < 4 → index < 8 → is_index (index_of rex scale index) ≡ true
index-ok rex scale index hs hi = go (eqb (worth (x_bit rex) 8 + index) 4) refl
  where
    go : (b : Bool) → eqb (worth (x_bit rex) 8 + index) 4 ≡ b
        → is_index (cond b None (Some (extended (x_bit rex) index, 2 ^ scale))) ≡ true
    go true e = refl
    go false e = and_from (ltb (worth (x_bit rex) 8 + index) 16) _ (register-ok (x_bit rex) index hi)
        (and_from (not (eqb (worth (x_bit rex) 8 + index) 4)) _ (ap not e) (scale-ok scale hs))

base-ok : (rex : Option Rex) (mode field : ℕ) (index : Option (Reg × ℕ)) → field < 8 → is_index index ≡ true
    → is_address (base_of base.Absent rex mode field) index ≡ true
base-ok rex mode field index hf i = go (eqb mode 0 && eqb field 5)
  where
    go : (b : Bool) → is_address (cond b base.Absent (base.Reg (extended (b_bit rex) field))) index ≡ true
    go true = i
    go false = and_from _ (is_index index) (register-ok (b_bit rex) field hf) i

rip-ok : (rex : Option Rex) (mode rm : ℕ) → rm < 8 → is_address (base_of base.Rip rex mode rm) None ≡ true
rip-ok rex mode rm h = go (eqb mode 0 && eqb rm 5)
  where
    go : (b : Bool) → is_address (cond b base.Rip (base.Reg (extended (b_bit rex) rm))) None ≡ true
    go true = refl
    go false = and_from _ true (register-ok (b_bit rex) rm h) refl

memory-ok : (gs : Bool) (rex : Option Rex) (mode rm : ℕ) (bs : List ℕ) (mem : Mem) → rm < 8
    → IsMemory gs rex mode rm bs mem → is_memory mem ≡ true
memory-ok gs rex mode rm bs mem h (no_sib disp other x num is) = ap is_memory is ∙ rip-ok rex mode rm h
memory-ok gs rex mode rm bs mem h (sib scale index field rest disp four hs hi hf bytes num is) =
    ap is_memory is ∙ base-ok rex mode field (index_of rex scale index) hf (index-ok rex scale index hs hi)

memory-gs : (gs : Bool) (rex : Option Rex) (mode rm : ℕ) (bs : List ℕ) (mem : Mem) → IsMemory gs rex mode rm bs mem
    → mem.gs ≡ gs
memory-gs gs rex mode rm bs mem (no_sib disp other x num is) = ap (λ (m : Mem). m.gs) is
memory-gs gs rex mode rm bs mem (sib scale index field rest disp four hs hi hf bytes num is) = ap (λ (m : Mem). m.gs) is

rm-ok : (gs : Bool) (rex : Option Rex) (mode rm : ℕ) (bs : List ℕ) (p : Place) → rm < 8 → IsRm gs rex mode rm bs p
    → is_place p ≡ true
rm-ok gs rex mode rm bs p h (in_register three g x none is) = ap is_place is ∙ register-ok (b_bit rex) rm h
rm-ok gs rex mode rm bs p h (in_memory mem below m is) = ap is_place is ∙ memory-ok gs rex mode rm bs mem h m

operand-ok : (gs : Bool) (rex : Option Rex) (n : ℕ) (bs : List ℕ) (p : Place) → IsOperand gs rex n bs p
    → is_place p ≡ true
operand-ok gs rex n bs p o = rm-ok gs rex o.mode o.rm o.rest p o.rm_range o.operand_is

operand-gs : (gs : Bool) (rex : Option Rex) (n : ℕ) (bs : List ℕ) (mem : Mem) → IsOperand gs rex n bs (place.Mem mem)
    → mem.gs ≡ gs
operand-gs gs rex n bs mem o = go o.operand_is
  where
    go : IsRm gs rex o.mode o.rm o.rest (place.Mem mem) → mem.gs ≡ gs
    go (in_register three g x none is) = absurd cc
    go (in_memory m below k is) = let same : mem ≡ m = cc in ap (λ (v : Mem). v.gs) same
        ∙ memory-gs gs rex o.mode o.rm o.rest m k

-- ---- immediates

number1 : (bs : List ℕ) (v : ℕ) → IsNumber 1 bs v → v < 256
number1 [] v h = absurd cc
number1 (a ∷ []) v h = omega (arith, h.1.0, h.2)
number1 (a ∷ b ∷ bs) v h = absurd (omega (arith, h.0))

number4 : (bs : List ℕ) (v : ℕ) → IsNumber 4 bs v → v < 4294967296
number4 [] v h = absurd cc
number4 (a ∷ []) v h = absurd cc
number4 (a ∷ b ∷ []) v h = absurd cc
number4 (a ∷ b ∷ c ∷ []) v h = absurd cc
number4 (a ∷ b ∷ c ∷ d ∷ []) v h = omega (arith, h.1.0, h.1.1.0, h.1.1.1.0, h.1.1.1.1.0, h.2)
number4 (a ∷ b ∷ c ∷ d ∷ e ∷ bs) v h = absurd (omega (arith, h.0))

signed1-ok : (v : ℕ) → v < 256 → is_signed_long (cast_signed w8 v) ≡ true
signed1-ok v h = go (ltb v 128) refl
  where
    go : (b : Bool) → ltb v 128 ≡ b → is_signed_long (cond b (pos v) (negsuc (256 - suc v))) ≡ true
    go true e = lt-ltb v 2147483648 (omega arith)
    go false e = and_from _ true (le-leb (256 - suc v) 2147483647 (omega arith)) refl

signed4-ok : (v : ℕ) → v < 4294967296 → is_signed_long (cast_signed w32 v) ≡ true
signed4-ok v h = go (ltb v 2147483648) refl
  where
    go : (b : Bool) → ltb v 2147483648 ≡ b → is_signed_long (cond b (pos v) (negsuc (4294967296 - suc v))) ≡ true
    go true e = lt-ltb v 2147483648 (ltb-true v 2147483648 e)
    go false e = let k = ltb-false v 2147483648 e in
        and_from _ true (le-leb (4294967296 - suc v) 2147483647 (omega (arith, k))) refl

long1-ok : (v : ℕ) → v < 256 → is_immediate Long (pos (cast_unsigned w32 (cast_signed w8 v))) ≡ true
long1-ok v h = go (ltb v 128) refl
  where
    at : (n : ℕ) → n < 4294967296 → is_immediate Long (pos n) ≡ true
    at n k = and_from (leb 0 n) (ltb n 4294967296) (le-leb 0 n (omega arith)) (lt-ltb n 4294967296 k)

    go : (b : Bool) → ltb v 128 ≡ b
        → is_immediate Long (pos (cast_unsigned w32 (cond b (pos v) (negsuc (256 - suc v))))) ≡ true
    go true e = at v (omega arith)
    go false e = at (4294967296 - suc (256 - suc v)) (omega arith)

natural-ok : (n top : ℕ) → n < top → (int_le (pos 0) (pos n) && int_lt (pos n) (pos top)) ≡ true
natural-ok n top h = and_from (leb 0 n) (ltb n top) (le-leb 0 n (omega arith)) (lt-ltb n top h)

quad-ok : (size : Size) (bs : List ℕ) (z : ℤ) → IsImmediate Quad size bs z → is_signed_long z ≡ true
quad-ok ib bs z h = ap is_signed_long h.2 ∙ signed1-ok h.0 (number1 bs h.0 h.1)
quad-ok id bs z h = ap is_signed_long h.2 ∙ signed4-ok h.0 (number4 bs h.0 h.1)

long-ok : (size : Size) (bs : List ℕ) (z : ℤ) → IsImmediate Long size bs z → is_immediate Long z ≡ true
long-ok ib bs z h = ap (is_immediate Long) h.2 ∙ long1-ok h.0 (number1 bs h.0 h.1)
long-ok id bs z h = ap (is_immediate Long) h.2 ∙ natural-ok h.0 4294967296 (number4 bs h.0 h.1)

byte-ok : (bs : List ℕ) (z : ℤ) → IsImmediate Byte ib bs z → is_immediate Byte z ≡ true
byte-ok bs z h = ap (is_immediate Byte) h.2 ∙ natural-ok h.0 256 (number1 bs h.0 h.1)

imm-ok : (rex : Option Rex) (size : Size) (bs : List ℕ) (z : ℤ) → IsImmediate (width_of rex) size bs z
    → is_immediate (width_of rex) z ≡ true
imm-ok rex size bs z h = go (w_bit rex) h
  where
    go : (b : Bool) → IsImmediate (cond b Quad Long) size bs z → is_immediate (cond b Quad Long) z ≡ true
    go true k = quad-ok size bs z k
    go false k = long-ok size bs z k

-- ---- forms

abbrev Encodes : Draft → Type 0
Encodes (whole i) = is_encodable i ≡ true
Encodes (jump make z) = (t : ℕ) → is_encodable (make t) ≡ true

abbrev FormOk : Form → Type 0
FormOk form = (gs : Bool) (rex : Option Rex) (tail : List ℕ) (d : Draft) → permits form gs rex ≡ true
    → IsTail form gs rex tail d → Encodes d

made-ok : (d : Draft) (i : Insn) → d ≡ whole i → is_encodable i ≡ true → Encodes d
made-ok d i e h = subst Encodes (sym e) h

plain-ok : (i : Insn) → is_encodable i ≡ true → FormOk (plain i)
plain-ok i ok gs rex tail d fits h = made-ok d i h.1 ok

plain_w-ok : (i : Insn) → is_encodable i ≡ true → FormOk (plain_w i)
plain_w-ok i ok gs rex tail d fits h = made-ok d i h.1 ok

last-ok : (select : ℕ → Option Insn) → ((b : ℕ) (i : Insn) → select b ≡ Some i → is_encodable i ≡ true)
    → FormOk (last_byte select)
last-ok select ok gs rex tail d fits h = made-ok d h.insn h.draft_is (ok h.byte h.insn h.selected)

opcode-ok : (make : Reg → Insn) → ((r : Reg) → is_register r ≡ true → is_encodable (make r) ≡ true) → (k : ℕ) → k < 8
    → FormOk (opcode_register make k)
opcode-ok make ok k below gs rex tail d fits h =
    made-ok d _ h.1 (ok (extended (b_bit rex) k) (register-ok (b_bit rex) k below))

register_imm-ok : (k : ℕ) → k < 8 → FormOk (register_imm k)
register_imm-ok k below gs rex tail d fits h =
    made-ok d _ h.2 (go (w_bit rex) h.1)
  where
    r : is_register (extended (b_bit rex) k) ≡ true
    r = register-ok (b_bit rex) k below

    go : (b : Bool) → IsNumber (cond b 8 4) tail h.0
        → is_encodable (insn.Mov (cond b Quad Long) (place.Reg (extended (b_bit rex) k))
        (source.Imm (cond b (cast_signed w64 h.0) (pos h.0)))) ≡ true
    go true n = r
    go false n = and_from _ _ r (natural-ok h.0 4294967296 (number4 tail h.0 n))

rm_reg-ok : (make : Width → Place → Reg → Insn)
    → ((w : Width) (p : Place) (r : Reg) → is_wide w ≡ true → is_place p ≡ true → is_register r ≡ true
    → is_encodable (make w p r) ≡ true) → FormOk (rm_reg make)
rm_reg-ok make ok gs rex tail d fits h =
    made-ok d _ h.3 (ok (width_of rex) h.1 (extended (r_bit rex) h.0) (wide-ok rex)
    (operand-ok gs rex h.0 tail h.1 h.2) (register-ok (r_bit rex) h.0 h.2.reg_range))

reg_rm-ok : (make : Width → Reg → Place → Insn)
    → ((w : Width) (p : Place) (r : Reg) → is_wide w ≡ true → is_place p ≡ true → is_register r ≡ true
    → is_encodable (make w r p) ≡ true) → FormOk (reg_rm make)
reg_rm-ok make ok gs rex tail d fits h =
    made-ok d _ h.3 (ok (width_of rex) h.1 (extended (r_bit rex) h.0) (wide-ok rex)
    (operand-ok gs rex h.0 tail h.1 h.2) (register-ok (r_bit rex) h.0 h.2.reg_range))

no-gs : (gs : Bool) (rest : Bool) → ((not gs || false) && rest) ≡ true → gs ≡ false
no-gs false rest h = refl
no-gs true rest h = absurd cc

address-ok : FormOk address
address-ok gs rex tail d fits h =
    let off : h.1.gs ≡ false = operand-gs gs rex h.0 tail h.1 h.2 ∙ no-gs gs (permits_rex address rex) fits in
    made-ok d _ h.3 (and_from _ _ (wide-ok rex) (and_from _ _ (register-ok (r_bit rex) h.0 h.2.reg_range)
    (and_from _ _ (ap not off) (operand-ok gs rex h.0 tail (place.Mem h.1) h.2))))

rm_imm-ok : (select : ℕ → Option (Width → Place → Source → Insn)) (size : Size)
    → ((n : ℕ) (make : Width → Place → Source → Insn) (w : Width) (p : Place) (z : ℤ) → select n ≡ Some make
    → is_wide w ≡ true → is_place p ≡ true → is_immediate w z ≡ true → is_encodable (make w p (source.Imm z)) ≡ true)
    → FormOk (rm_imm select size)
rm_imm-ok select size ok gs rex tail d fits h =
    made-ok d _ h.draft_is (ok h.reg h.make (width_of rex) h.rm h.value h.selected (wide-ok rex)
    (operand-ok gs rex h.reg h.rm_bytes h.rm h.operand) (imm-ok rex size h.imm_bytes h.value h.immediate_is))

rm_byte_imm-ok : FormOk rm_byte_imm
rm_byte_imm-ok gs rex tail d fits h = made-ok d _ h.draft_is
    (and_from _ _ (operand-ok gs rex 0 h.rm_bytes h.rm h.operand) (byte-ok h.imm_bytes h.value h.immediate_is))

rm_bit-ok : FormOk (rm_bit bit_of)
rm_bit-ok gs rex tail d fits h =
    made-ok d _ h.draft_is (and_from _ _ (wide-ok rex) (operand-ok gs rex h.reg h.rm_bytes h.rm h.operand))

rm_quad-ok : (n : ℕ) (make : Place → Insn) → ((p : Place) → is_place p ≡ true → is_encodable (make p) ≡ true)
    → FormOk (rm_quad n make)
rm_quad-ok n make ok gs rex tail d fits h = made-ok d _ h.2 (ok h.0 (operand-ok gs rex n tail h.0 h.1))

rm_register-ok : (select : ℕ → Option (Reg → Insn))
    → ((n : ℕ) (make : Reg → Insn) (r : Reg) → select n ≡ Some make → is_register r ≡ true
    → is_encodable (make r) ≡ true) → FormOk (rm_register select)
rm_register-ok select ok gs rex tail d fits h = made-ok d _ h.draft_is
    (ok h.reg h.make h.rm h.selected (operand-ok gs rex h.reg tail (place.Reg h.rm) h.operand))

rm_register_w-ok : (select : ℕ → Option (Reg → Insn))
    → ((n : ℕ) (make : Reg → Insn) (r : Reg) → select n ≡ Some make → is_register r ≡ true
    → is_encodable (make r) ≡ true) → FormOk (rm_register_w select)
rm_register_w-ok select ok gs rex tail d fits h = made-ok d _ h.draft_is
    (ok h.reg h.make h.rm h.selected (operand-ok gs rex h.reg tail (place.Reg h.rm) h.operand))

rm_unused-ok : FormOk rm_unused
rm_unused-ok gs rex tail d fits h = made-ok d _ h.2 refl

imm_quad-ok : (size : Size) → FormOk (imm_quad size)
imm_quad-ok size gs rex tail d fits h = made-ok d _ h.2 (quad-ok size tail h.0 h.1)

rax_imm-ok : FormOk rax_imm
rax_imm-ok gs rex tail d fits h = made-ok d _ h.2 (imm-ok rex id tail h.0 h.1)

al_imm-ok : FormOk al_imm
al_imm-ok gs rex tail d fits h = made-ok d _ h.2 (byte-ok tail h.0 h.1)

relative-ok : (make : ℕ → Insn) (size : Size) → ((t : ℕ) → is_encodable (make t) ≡ true) → FormOk (relative make size)
relative-ok make size ok gs rex tail d fits h = subst Encodes (sym h.2) ok

-- ---- instructions of the rows

mov-rm : (w : Width) (p : Place) (r : Reg) → is_wide w ≡ true → is_place p ≡ true → is_register r ≡ true
    → is_encodable (insn.Mov w p (source.Reg r)) ≡ true
mov-rm w (place.Reg d) r a b c = and_from _ _ a (and_from _ _ b c)
mov-rm w (place.Mem m) r a b c = and_from _ _ a (and_from _ _ b c)

mov-reg : (w : Width) (p : Place) (r : Reg) → is_wide w ≡ true → is_place p ≡ true → is_register r ≡ true
    → is_encodable (insn.Mov w (place.Reg r) (source_of p)) ≡ true
mov-reg w (place.Reg d) r a b c = and_from _ _ a (and_from _ _ c b)
mov-reg w (place.Mem m) r a b c = and_from _ _ a (and_from _ _ c b)

alu-rm : (op : AluOp) (w : Width) (p : Place) (r : Reg) → is_wide w ≡ true → is_place p ≡ true → is_register r ≡ true
    → is_encodable (insn.Alu op w p (source.Reg r)) ≡ true
alu-rm op w (place.Reg d) r a b c = and_from _ _ a (and_from _ _ b c)
alu-rm op w (place.Mem m) r a b c = and_from _ _ a (and_from _ _ b c)

alu-reg : (op : AluOp) (w : Width) (p : Place) (r : Reg) → is_wide w ≡ true → is_place p ≡ true → is_register r ≡ true
    → is_encodable (insn.Alu op w (place.Reg r) (source_of p)) ≡ true
alu-reg op w (place.Reg d) r a b c = and_from _ _ a (and_from _ _ c b)
alu-reg op w (place.Mem m) r a b c = and_from _ _ a (and_from _ _ c b)

push-rm : (p : Place) → is_place p ≡ true → is_encodable (insn.Push (source_of p)) ≡ true
push-rm (place.Reg r) h = h
push-rm (place.Mem m) h = h

only-is : {A : Type 0} (n k : ℕ) (x y : A) → only n x k ≡ Some y → x ≡ y
only-is n k x y h =
    elim (chosen (eqb k n) (Some x) None (Some y) h) [
      | inl e ↦ let same : Some x ≡ Some y = e.1 in cc
      | inr e ↦
          let clash : None ≡ Some y = e.1 in absurd cc
    ]

mov-imm : (w : Width) (p : Place) (z : ℤ) → is_wide w ≡ true → is_place p ≡ true → is_immediate w z ≡ true
    → is_encodable (insn.Mov w p (source.Imm z)) ≡ true
mov-imm Byte p z a b c = absurd cc
mov-imm Long (place.Reg d) z a b c = and_from _ _ b c
mov-imm Quad (place.Reg d) z a b c = b
mov-imm Long (place.Mem m) z a b c = and_from _ _ b c
mov-imm Quad (place.Mem m) z a b c = and_from _ _ b c

alu-imm : (op : AluOp) (w : Width) (p : Place) (z : ℤ) → is_wide w ≡ true → is_place p ≡ true → is_immediate w z ≡ true
    → is_encodable (insn.Alu op w p (source.Imm z)) ≡ true
alu-imm op w (place.Reg d) z a b c = and_from _ _ a (and_from _ _ b c)
alu-imm op w (place.Mem m) z a b c = and_from _ _ a (and_from _ _ b c)

group-mov : (n : ℕ) (make : Width → Place → Source → Insn) (w : Width) (p : Place) (z : ℤ)
    → only 0 insn.Mov n ≡ Some make → is_wide w ≡ true → is_place p ≡ true → is_immediate w z ≡ true
    → is_encodable (make w p (source.Imm z)) ≡ true
group-mov n make w p z e a b c =
    subst (λ (f : Width → Place → Source → Insn). is_encodable (f w p (source.Imm z)) ≡ true)
    (only-is 0 n insn.Mov make e) (mov-imm w p z a b c)

group-test : (n : ℕ) (make : Width → Place → Source → Insn) (w : Width) (p : Place) (z : ℤ)
    → only 0 insn.«Test» n ≡ Some make → is_wide w ≡ true → is_place p ≡ true → is_immediate w z ≡ true
    → is_encodable (make w p (source.Imm z)) ≡ true
group-test n make w p z e a b c =
    subst (λ (f : Width → Place → Source → Insn). is_encodable (f w p (source.Imm z)) ≡ true)
    (only-is 0 n insn.«Test» make e) (and_from _ _ b c)

group-alu : (n : ℕ) (make : Width → Place → Source → Insn) (w : Width) (p : Place) (z : ℤ) → alu_imm n ≡ Some make
    → is_wide w ≡ true → is_place p ≡ true → is_immediate w z ≡ true → is_encodable (make w p (source.Imm z)) ≡ true
group-alu n make w p z e a b c = go (alu_of n) e
  where
    go : (o : Option AluOp) → (elim o [ None ↦ None | Some op ↦ Some (insn.Alu op) ]) ≡ Some make
        → is_encodable (make w p (source.Imm z)) ≡ true
    go None k = absurd cc
    go (Some op) k =
        let same : insn.Alu op ≡ make = cc in
        subst (λ (f : Width → Place → Source → Insn). is_encodable (f w p (source.Imm z)) ≡ true) same
        (alu-imm op w p z a b c)

-- ---- the tables

-- a row's proof, and those of the rows after it
infixr 10 ◌also◌
abbrev pub ◌also◌ : {A B : Type 0} → A → B → A × B
first also others = (first, others)

abbrev RowsOk : List Row → Type 0
RowsOk [] = Unit {0}
RowsOk (row key form ∷ rest) = FormOk form × RowsOk rest
RowsOk (rows first count form ∷ rest) = ((k : ℕ) → k < count → FormOk (form k)) × RowsOk rest

lookup-ok : (rs : List Row) (op : ℕ) (form : Form) → RowsOk rs → lookup op rs ≡ Some form → FormOk form
lookup-ok [] op form all e = absurd cc
lookup-ok (row key f ∷ rest) op form all e =
    elim (chosen (eqb op key) (Some f) (lookup op rest) (Some form) e) [
      | inl h ↦ let same : f ≡ form = cc in subst (λ (x : Form). FormOk x) same all.0
      | inr h ↦ lookup-ok rest op form all.1 h.1
    ]
lookup-ok (rows first count f ∷ rest) op form all e =
    elim (chosen (leb first op && ltb op (first + count)) (Some (f (op - first))) (lookup op rest) (Some form) e) [
      | inl h ↦
          let same : f (op - first) ≡ form = cc in
          let low = leb-true first op (and_parts (leb first op) (ltb op (first + count)) h.0).0 in
          let high = ltb-true op (first + count) (and_parts (leb first op) (ltb op (first + count)) h.0).1 in
          subst (λ (x : Form). FormOk x) same (all.0 (op - first) (omega arith))
      | inr h ↦ lookup-ok rest op form all.1 h.1
    ]

-- what the last byte after 0F 01 selects
abbrev system-insn : ℕ → Option Insn
system-insn b =
    cond (eqb b 0xF8) (Some insn.Swapgs) (cond (eqb b 0xCA) (Some insn.Clac) (cond (eqb b 0xCB) (Some insn.Stac) None))

system-ok : (b : ℕ) (i : Insn) → system-insn b ≡ Some i → is_encodable i ≡ true
system-ok b i h = go (eqb b 0xF8) (eqb b 0xCA) (eqb b 0xCB) h
  where
    go : (x y z : Bool) → cond x (Some insn.Swapgs) (cond y (Some insn.Clac) (cond z (Some insn.Stac) None)) ≡ Some i
        → is_encodable i ≡ true
    go true y z k = let same : insn.Swapgs ≡ i = cc in ap is_encodable (sym same)
    go false true z k = let same : insn.Clac ≡ i = cc in ap is_encodable (sym same)
    go false false true k = let same : insn.Stac ≡ i = cc in ap is_encodable (sym same)
    go false false false k = absurd cc

one-insn : (key : ℕ) (x : Insn) → is_encodable x ≡ true → (b : ℕ) (i : Insn) → only key x b ≡ Some i
    → is_encodable i ≡ true
one-insn key x ok b i h = ap is_encodable (sym (only-is key b x i h)) ∙ ok

one-register : (key : ℕ) (x : Reg → Insn) → ((r : Reg) → is_register r ≡ true → is_encodable (x r) ≡ true)
    → (n : ℕ) (make : Reg → Insn) (r : Reg) → only key x n ≡ Some make → is_register r ≡ true
    → is_encodable (make r) ≡ true
one-register key x ok n make r h g =
    subst (λ (f : Reg → Insn). is_encodable (f r) ≡ true) (only-is key n x make h) (ok r g)

gs-register : (n : ℕ) (make : Reg → Insn) (r : Reg)
    → cond (eqb n 1) (Some insn.ReadGs) (cond (eqb n 3) (Some insn.WriteGs) None) ≡ Some make → is_register r ≡ true
    → is_encodable (make r) ≡ true
gs-register n make r h g = go (eqb n 1) (eqb n 3) h
  where
    go : (x y : Bool) → cond x (Some insn.ReadGs) (cond y (Some insn.WriteGs) None) ≡ Some make
        → is_encodable (make r) ≡ true
    go true y k = let same : insn.ReadGs ≡ make = cc in subst (λ (f : Reg → Insn). is_encodable (f r) ≡ true) same g
    go false true k = let same : insn.WriteGs ≡ make = cc in
        subst (λ (f : Reg → Insn). is_encodable (f r) ≡ true) same g
    go false false k = absurd cc

jcc-ok : (size : Size) (c : ℕ) → c < 16 → FormOk (relative (insn.Jcc c) size)
jcc-ok size c h = relative-ok (insn.Jcc c) size (λ t. lt-ltb c 16 h)

one-ok : RowsOk one_byte
unfolding one_byte
one-ok =
    rm_reg-ok (λ w rm reg. insn.Mov w rm (source.Reg reg)) mov-rm also
    reg_rm-ok (λ w reg rm. insn.Mov w (place.Reg reg) (source_of rm)) mov-reg also
    rm_imm-ok (only 0 insn.Mov) id group-mov also
    register_imm-ok also
    address-ok also
    rm_reg-ok insn.Xchg (λ w p r a b c. and_from _ _ a (and_from _ _ b c)) also
    opcode-ok (λ r. insn.Push (source.Reg r)) (λ r h. h) also
    imm_quad-ok ib also
    imm_quad-ok id also
    rm_quad-ok 6 (λ rm. insn.Push (source_of rm)) push-rm also
    opcode-ok (λ r. insn.Pop (place.Reg r)) (λ r h. h) also
    rm_quad-ok 0 insn.Pop (λ p h. h) also
    plain-ok insn.Pushfq refl also
    plain-ok insn.Popfq refl also
    rm_reg-ok (λ w rm reg. insn.Alu alu.Add w rm (source.Reg reg)) (alu-rm alu.Add) also
    rm_reg-ok (λ w rm reg. insn.Alu alu.Or w rm (source.Reg reg)) (alu-rm alu.Or) also
    rm_reg-ok (λ w rm reg. insn.Alu alu.And w rm (source.Reg reg)) (alu-rm alu.And) also
    rm_reg-ok (λ w rm reg. insn.Alu alu.Sub w rm (source.Reg reg)) (alu-rm alu.Sub) also
    rm_reg-ok (λ w rm reg. insn.Alu alu.Xor w rm (source.Reg reg)) (alu-rm alu.Xor) also
    rm_reg-ok (λ w rm reg. insn.Alu alu.Cmp w rm (source.Reg reg)) (alu-rm alu.Cmp) also
    reg_rm-ok (λ w reg rm. insn.Alu alu.Add w (place.Reg reg) (source_of rm)) (alu-reg alu.Add) also
    reg_rm-ok (λ w reg rm. insn.Alu alu.Or w (place.Reg reg) (source_of rm)) (alu-reg alu.Or) also
    reg_rm-ok (λ w reg rm. insn.Alu alu.And w (place.Reg reg) (source_of rm)) (alu-reg alu.And) also
    reg_rm-ok (λ w reg rm. insn.Alu alu.Sub w (place.Reg reg) (source_of rm)) (alu-reg alu.Sub) also
    reg_rm-ok (λ w reg rm. insn.Alu alu.Xor w (place.Reg reg) (source_of rm)) (alu-reg alu.Xor) also
    reg_rm-ok (λ w reg rm. insn.Alu alu.Cmp w (place.Reg reg) (source_of rm)) (alu-reg alu.Cmp) also
    rm_imm-ok alu_imm ib group-alu also
    rm_imm-ok alu_imm id group-alu also
    rm_reg-ok (λ w rm reg. insn.«Test» w rm (source.Reg reg)) (λ w p r a b c. and_from _ _ a (and_from _ _ b c)) also
    rm_imm-ok (only 0 insn.«Test») id group-test also
    rax_imm-ok also
    rm_byte_imm-ok also
    al_imm-ok also
    jcc-ok ib also
    relative-ok insn.Jmp ib (λ t. refl) also
    relative-ok insn.Jmp id (λ t. refl) also
    relative-ok insn.Call id (λ t. refl) also
    plain-ok insn.Ret refl also
    plain_w-ok insn.Iretq refl also
    plain-ok insn.Cli refl also
    plain-ok insn.Sti refl also
    plain-ok insn.Cld refl also
    plain-ok insn.Nop refl also
    tt

two-ok : RowsOk two_byte
unfolding two_byte
two-ok =
    rm_bit-ok also
    jcc-ok id also
    last-ok system-insn system-ok also
    plain_w-ok insn.Sysretq refl also
    plain-ok insn.Rdmsr refl also
    plain-ok insn.Wrmsr refl also
    rm_register-ok (only 3 insn.ReadCr3) (one-register 3 insn.ReadCr3 (λ r h. h)) also
    rm_register-ok (only 3 insn.WriteCr3) (one-register 3 insn.WriteCr3 (λ r h. h)) also
    last-ok (only 0xE8 insn.Lfence) (one-insn 0xE8 insn.Lfence refl) also
    plain-ok insn.Ud2 refl also
    rm_unused-ok also
    tt

f3-ok : RowsOk two_byte_f3
unfolding two_byte_f3
f3-ok =
    rm_register_w-ok (λ n. cond (eqb n 1) (Some insn.ReadGs) (cond (eqb n 3) (Some insn.WriteGs) None)) gs-register also
    last-ok (only 0xFA insn.Endbr64) (one-insn 0xFA insn.Endbr64 refl) also
    tt

-- ---- whole instructions

draft-ok : (bytes : List ℕ) (d : Draft) → Spelled bytes d → Encodes d
draft-ok bytes d (in_one_byte gs rex rex_bytes op form tail eq is look fits t) =
    lookup-ok one_byte op form one-ok look gs rex tail d fits t
draft-ok bytes d (in_two_bytes gs rex rex_bytes op form tail eq is look fits t) =
    lookup-ok two_byte op form two-ok look gs rex tail d fits t
draft-ok bytes d (after_f3 rex rex_bytes op form tail eq is look fits t) =
    lookup-ok two_byte_f3 op form f3-ok look false rex tail d fits t
draft-ok bytes d (short_nop eq is) = made-ok d insn.Nop is refl
draft-ok bytes d (long_nop n cs rex rex_bytes tail some eq is fits t) = rm_unused-ok false rex tail d fits t

resolve-ok : (next : ℕ) (d : Draft) → Encodes d → is_encodable (resolve next d) ≡ true
resolve-ok next (whole i) h = h
resolve-ok next (jump make z) h = h _

pub spelled-encodable : (bytes : List ℕ) (at : ℕ) (i : Insn) → Spells bytes at i → is_encodable i ≡ true
spelled-encodable bytes at i h = ap is_encodable h.1.2
    ∙ resolve-ok (at + length bytes) h.1.0 (draft-ok bytes h.1.0 h.1.1)

pub spelled-true : (r : Bool) (i : Insn) → r ≡ is_encodable i → (bytes : List ℕ) (at : ℕ) → Spells bytes at i → r ≡ true
spelled-true r i e bytes at h = e ∙ spelled-encodable bytes at i h
