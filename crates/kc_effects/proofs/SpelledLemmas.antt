-- What an image spells fits its types, and is encodable. RowsFit says of each row of a table that its form fits, in the
-- table's order, and lookup_fits carries it to the form that an opcode looks up; a target wraps at 2^64.
use Rattle.std.proofs.Common.{◌≡◌, ℕ, ◌+◌, ◌-◌, Bool, true, false, cond, ◌&&◌, eqb, ltb, leb, List, [], ◌∷◌, length, Option, Some, None, inl, inr, ℤ, sym, subst, arith}
use Rattle.std.specs.Prelude.{FitsSigned}
use Rattle.std.specs.Int.{w64}
use Rattle.kc_rules.proofs.TestLemmas.{chosen}
use Rattle.kc_words.specs.declared.width.Width.{Width}
use Rattle.kc_insn.specs.declared.insn.Insn.{Insn}
use Rattle.kc_insn.specs.declared.insn.Insn.TheVariants as insn
use Rattle.kc_insn.specs.declared.insn.AluOp.{AluOp}
use Rattle.kc_insn.specs.declared.insn.AluOp.TheVariants as alu
use Rattle.kc_insn.specs.declared.insn.Reg.{Reg}
use Rattle.kc_insn.specs.declared.insn.Place.{Place}
use Rattle.kc_insn.specs.declared.insn.Place.TheVariants as place
use Rattle.kc_insn.specs.declared.insn.Source.{Source}
use Rattle.kc_insn.specs.declared.insn.Source.TheVariants as source
use Rattle.kc_insn.specs.Fields.{ib, id, target, source_of}
use Rattle.kc_insn.specs.Table.{Form, Row, row, rows, lookup, only, alu_of, alu_imm, one_byte, two_byte, two_byte_f3, rm_reg, reg_rm}
use Rattle.kc_insn.specs.Spells.{Draft, whole, jump, Spelled, in_one_byte, in_two_bytes, after_f3, short_nop, long_nop, resolve, Spells}
use Rattle.kc_insn.proofs.Encoded.{spelled-encodable}
use Rattle.kc_stack.specs.Rows.{FitsSource, FitsTypes}
use Rattle.kc_effects.specs.Effects.{FoundIsSpelled}
use Rattle.kc_effects.proofs.FormLemmas.{Fits, FormFits, made, plain_fits, plain_w_fits, last_fits, opcode_fits, register_imm_fits, rm_reg_fits, reg_rm_fits, address_fits, rm_imm_fits, rm_byte_imm_fits, rm_bit_fits, rm_quad_fits, rm_register_fits, rm_register_w_fits, rm_unused_fits, imm_quad_fits, rax_imm_fits, al_imm_fits, relative_fits}

-- ---- instructions of the rows

only_is : {A : Type 0} (n k : ℕ) (x y : A) → only n x k ≡ Some y → x ≡ y
only_is n k x y h =
    elim (chosen (eqb k n) (Some x) None (Some y) h) [
      | inl e ↦ let same : Some x ≡ Some y = e.1 in cc
      | inr e ↦
          let clash : None ≡ Some y = e.1 in absurd cc
    ]

-- a group of one instruction with an immediate
group_fits : (x : Width → Place → Source → Insn)
    → ((w : Width) (p : Place) (z : ℤ) → FitsSource (source_of p) → FitsSigned w64 z
    → FitsTypes (x w p (source.Imm z)))
    → (n : ℕ) (make : Width → Place → Source → Insn) (w : Width) (p : Place) (z : ℤ) → only 0 x n ≡ Some make
    → FitsSource (source_of p) → FitsSigned w64 z → FitsTypes (make w p (source.Imm z))
group_fits x ok n make w p z e a b =
    subst (λ (f : Width → Place → Source → Insn). FitsTypes (f w p (source.Imm z))) (only_is 0 n x make e) (ok w p z a b)

alu_group_fits : (n : ℕ) (make : Width → Place → Source → Insn) (w : Width) (p : Place) (z : ℤ)
    → alu_imm n ≡ Some make → FitsSource (source_of p) → FitsSigned w64 z → FitsTypes (make w p (source.Imm z))
alu_group_fits n make w p z e a b = go (alu_of n) e
  where
    go : (o : Option AluOp) → (elim o [ None ↦ None | Some op ↦ Some (insn.Alu op) ]) ≡ Some make
        → FitsTypes (make w p (source.Imm z))
    go None k = absurd cc
    go (Some op) k =
        let same : insn.Alu op ≡ make = cc in
        subst (λ (f : Width → Place → Source → Insn). FitsTypes (f w p (source.Imm z))) same (a, b)

-- ---- the tables

-- a row's proof, and those of the rows after it
infixr 10 ◌also◌
abbrev pub ◌also◌ : {A B : Type 0} → A → B → A × B
first also others = (first, others)

abbrev RowsFit : List Row → Type 0
RowsFit [] = Unit {0}
RowsFit (row key form ∷ rest) = FormFits form × RowsFit rest
RowsFit (rows first count form ∷ rest) = ((k : ℕ) → FormFits (form k)) × RowsFit rest

lookup_fits : (rs : List Row) (op : ℕ) (form : Form) → RowsFit rs → lookup op rs ≡ Some form → FormFits form
lookup_fits [] op form all e = absurd cc
lookup_fits (row key f ∷ rest) op form all e =
    elim (chosen (eqb op key) (Some f) (lookup op rest) (Some form) e) [
      | inl h ↦ let same : f ≡ form = cc in subst (λ (x : Form). FormFits x) same all.0
      | inr h ↦ lookup_fits rest op form all.1 h.1
    ]
lookup_fits (rows first count f ∷ rest) op form all e =
    elim (chosen (leb first op && ltb op (first + count)) (Some (f (op - first))) (lookup op rest) (Some form) e) [
      | inl h ↦ let same : f (op - first) ≡ form = cc in subst (λ (x : Form). FormFits x) same (all.0 (op - first))
      | inr h ↦ lookup_fits rest op form all.1 h.1
    ]

-- what the last byte after 0F 01 selects
abbrev system_insn : ℕ → Option Insn
system_insn b =
    cond (eqb b 0xF8) (Some insn.Swapgs) (cond (eqb b 0xCA) (Some insn.Clac) (cond (eqb b 0xCB) (Some insn.Stac) None))

system_fits : (b : ℕ) (i : Insn) → system_insn b ≡ Some i → FitsTypes i
system_fits b i h = go (eqb b 0xF8) (eqb b 0xCA) (eqb b 0xCB) h
  where
    go : (x y z : Bool) → cond x (Some insn.Swapgs) (cond y (Some insn.Clac) (cond z (Some insn.Stac) None)) ≡ Some i
        → FitsTypes i
    go true y z k = let same : insn.Swapgs ≡ i = cc in subst FitsTypes same tt
    go false true z k = let same : insn.Clac ≡ i = cc in subst FitsTypes same tt
    go false false true k = let same : insn.Stac ≡ i = cc in subst FitsTypes same tt
    go false false false k = absurd cc

one_insn : (key : ℕ) (x : Insn) → FitsTypes x → (b : ℕ) (i : Insn) → only key x b ≡ Some i → FitsTypes i
one_insn key x ok b i h = subst FitsTypes (only_is key b x i h) ok

one_register : (key : ℕ) (x : Reg → Insn) → ((r : Reg) → FitsTypes (x r)) → (n : ℕ) (make : Reg → Insn) (r : Reg)
    → only key x n ≡ Some make → FitsTypes (make r)
one_register key x ok n make r h = subst (λ (f : Reg → Insn). FitsTypes (f r)) (only_is key n x make h) (ok r)

gs_register : (n : ℕ) (make : Reg → Insn) (r : Reg)
    → cond (eqb n 1) (Some insn.ReadGs) (cond (eqb n 3) (Some insn.WriteGs) None) ≡ Some make → FitsTypes (make r)
gs_register n make r h = go (eqb n 1) (eqb n 3) h
  where
    go : (x y : Bool) → cond x (Some insn.ReadGs) (cond y (Some insn.WriteGs) None) ≡ Some make → FitsTypes (make r)
    go true y k = let same : insn.ReadGs ≡ make = cc in subst (λ (f : Reg → Insn). FitsTypes (f r)) same tt
    go false true k = let same : insn.WriteGs ≡ make = cc in subst (λ (f : Reg → Insn). FitsTypes (f r)) same tt
    go false false k = absurd cc

alu_rm_fits : (op : AluOp) → FormFits (rm_reg (λ w rm reg. insn.Alu op w rm (source.Reg reg)))
alu_rm_fits op = rm_reg_fits (λ w rm reg. insn.Alu op w rm (source.Reg reg)) (λ w p r h. (h, tt))

alu_reg_fits : (op : AluOp) → FormFits (reg_rm (λ w reg rm. insn.Alu op w (place.Reg reg) (source_of rm)))
alu_reg_fits op = reg_rm_fits (λ w reg rm. insn.Alu op w (place.Reg reg) (source_of rm)) (λ w p r h. (tt, h))

one_byte_fits : RowsFit one_byte
unfolding one_byte
one_byte_fits =
    rm_reg_fits (λ w rm reg. insn.Mov w rm (source.Reg reg)) (λ w p r h. (h, tt)) also
    reg_rm_fits (λ w reg rm. insn.Mov w (place.Reg reg) (source_of rm)) (λ w p r h. (tt, h)) also
    rm_imm_fits (only 0 insn.Mov) id (group_fits insn.Mov (λ w p z a b. (a, b))) also
    register_imm_fits also
    address_fits also
    rm_reg_fits insn.Xchg (λ w p r h. h) also
    opcode_fits (λ r. insn.Push (source.Reg r)) (λ r. tt) also
    imm_quad_fits ib also
    imm_quad_fits id also
    rm_quad_fits 6 (λ rm. insn.Push (source_of rm)) (λ p h. h) also
    opcode_fits (λ r. insn.Pop (place.Reg r)) (λ r. tt) also
    rm_quad_fits 0 insn.Pop (λ p h. h) also
    plain_fits insn.Pushfq tt also
    plain_fits insn.Popfq tt also
    alu_rm_fits alu.Add also
    alu_rm_fits alu.Or also
    alu_rm_fits alu.And also
    alu_rm_fits alu.Sub also
    alu_rm_fits alu.Xor also
    alu_rm_fits alu.Cmp also
    alu_reg_fits alu.Add also
    alu_reg_fits alu.Or also
    alu_reg_fits alu.And also
    alu_reg_fits alu.Sub also
    alu_reg_fits alu.Xor also
    alu_reg_fits alu.Cmp also
    rm_imm_fits alu_imm ib alu_group_fits also
    rm_imm_fits alu_imm id alu_group_fits also
    rm_reg_fits (λ w rm reg. insn.«Test» w rm (source.Reg reg)) (λ w p r h. (h, tt)) also
    rm_imm_fits (only 0 insn.«Test») id (group_fits insn.«Test» (λ w p z a b. (a, b))) also
    rax_imm_fits also
    rm_byte_imm_fits also
    al_imm_fits also
    (λ c. relative_fits (insn.Jcc c) ib (λ t h. h)) also
    relative_fits insn.Jmp ib (λ t h. h) also
    relative_fits insn.Jmp id (λ t h. h) also
    relative_fits insn.Call id (λ t h. h) also
    plain_fits insn.Ret tt also
    plain_w_fits insn.Iretq tt also
    plain_fits insn.Cli tt also
    plain_fits insn.Sti tt also
    plain_fits insn.Cld tt also
    plain_fits insn.Nop tt also
    tt

two_byte_fits : RowsFit two_byte
unfolding two_byte
two_byte_fits =
    rm_bit_fits also
    (λ c. relative_fits (insn.Jcc c) id (λ t h. h)) also
    last_fits system_insn system_fits also
    plain_w_fits insn.Sysretq tt also
    plain_fits insn.Rdmsr tt also
    plain_fits insn.Wrmsr tt also
    rm_register_fits (only 3 insn.ReadCr3) (one_register 3 insn.ReadCr3 (λ r. tt)) also
    rm_register_fits (only 3 insn.WriteCr3) (one_register 3 insn.WriteCr3 (λ r. tt)) also
    last_fits (only 0xE8 insn.Lfence) (one_insn 0xE8 insn.Lfence tt) also
    plain_fits insn.Ud2 tt also
    rm_unused_fits also
    tt

two_byte_f3_fits : RowsFit two_byte_f3
unfolding two_byte_f3
two_byte_f3_fits =
    rm_register_w_fits (λ n. cond (eqb n 1) (Some insn.ReadGs) (cond (eqb n 3) (Some insn.WriteGs) None)) gs_register also
    last_fits (only 0xFA insn.Endbr64) (one_insn 0xFA insn.Endbr64 tt) also
    tt

-- ---- whole instructions

draft_fits : (bytes : List ℕ) (d : Draft) → Spelled bytes d → Fits d
draft_fits bytes d (in_one_byte gs rex rex_bytes op form tail eq is look fits t) =
    lookup_fits one_byte op form one_byte_fits look gs rex tail d t
draft_fits bytes d (in_two_bytes gs rex rex_bytes op form tail eq is look fits t) =
    lookup_fits two_byte op form two_byte_fits look gs rex tail d t
draft_fits bytes d (after_f3 rex rex_bytes op form tail eq is look fits t) =
    lookup_fits two_byte_f3 op form two_byte_f3_fits look false rex tail d t
draft_fits bytes d (short_nop eq is) = made d insn.Nop is tt
draft_fits bytes d (long_nop n cs rex rex_bytes tail some eq is fits t) = rm_unused_fits false rex tail d t

resolved_fits : (next : ℕ) (d : Draft) → Fits d → FitsTypes (resolve next d)
resolved_fits next (whole i) h = h
resolved_fits next (jump make z) h = h (target next z) (omega arith)

spelled_fits : (bytes : List ℕ) (at : ℕ) (i : Insn) → Spells bytes at i → FitsTypes i
spelled_fits bytes at i h =
    subst FitsTypes (sym h.1.2) (resolved_fits (at + length bytes) h.1.0 (draft_fits bytes h.1.0 h.1.1))

pub found_is_spelled : FoundIsSpelled
found_is_spelled image at i len found = record {
  encodable = spelled-encodable found.0 at i found.3;
  fits = spelled_fits found.0 at i found.3;
}
