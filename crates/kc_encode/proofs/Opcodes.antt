-- The opcode lines of the chosen bytes are spellings of the grammar's forms.
-- A lemma for each line (`/r`, `/n`, `+r`, a register alone, a jump): under the row that its opcode looks up, the bytes
-- are the constructor of Spelled with the operand of Operands and the number of Numbers. The parts of the bytes are
-- regrouped by append_assoc, their number bounded part by part; omega adds up.
use Rattle.std.proofs.Common.{◌≡◌, ℕ, suc, ◌+◌, ◌^◌, ◌<◌, ◌≤◌, Bool, true, false, cond, ◌&&◌, ltb, leb, List, [], ◌∷◌, ◌++◌, length, Option, Some, None, ℤ, pos, refl, sym, ap, subst, ◌∙◌, append_assoc, arith, lit<}
use Rattle.std.specs.Prelude.{FitsSigned}
use Rattle.std.specs.Int.{w32, w64, cast_signed}
use Rattle.std.proofs.lemmas.Bool.{ltb-true, ltb-false, leb-true, leb-false, lt-ltb, and_parts}
use Rattle.std.proofs.lemmas.List.{length-append}
use Rattle.kc_words.specs.declared.width.Width.{Width}
use Rattle.kc_words.specs.declared.width.Width.TheVariants.{Byte, Long, Quad}
use Rattle.kc_reading.specs.Reading.{IsNumber}
use Rattle.kc_insn.specs.declared.insn.Mem.{Mem}
use Rattle.kc_insn.specs.declared.insn.Reg.{Reg}
use Rattle.kc_insn.specs.declared.insn.Place.{Place}
use Rattle.kc_insn.specs.declared.insn.Place.TheVariants as place
use Rattle.kc_insn.specs.declared.insn.Source.{Source}
use Rattle.kc_insn.specs.declared.insn.Source.TheVariants as source
use Rattle.kc_insn.specs.declared.insn.BitOp.{BitOp}
use Rattle.kc_insn.specs.declared.insn.Insn.{Insn}
use Rattle.kc_insn.specs.declared.insn.Insn.TheVariants as insn
use Rattle.kc_insn.specs.declared.rex.Rex.{Rex}
use Rattle.kc_insn.specs.Fields.{w_bit, r_bit, b_bit, extended, width_of, Size, id, IsImmediate, target}
use Rattle.kc_insn.specs.Table.{Form, lookup, bit_of, one_byte, two_byte, two_byte_f3, rm_reg, reg_rm, address, rm_imm, rm_byte_imm, rm_bit, rm_quad, rm_register, rm_register_w, register_imm, relative}
use Rattle.kc_insn.specs.Table as table
use Rattle.kc_insn.specs.Spells.{whole, jump, permits, IsLowByte, IsTail, gs_bytes, in_one_byte, in_two_bytes, after_f3, resolve, Spells}
use Rattle.kc_insn.specs.Encodable.{is_register, is_place, is_wide, is_immediate}
use Rattle.kc_encode.specs.Canonical.{one_byte as byte_bytes, four_bytes, eight_bytes, low, high, rex, rex_bytes, is_quad, operand, gs, x_of, b_of, opcode_register, with_register, with_digit, on_register, needs_rex, distance}
use Rattle.kc_encode.proofs.Numbers.{imm-byte, number-quad, number-long, signed4, target-of-distance}
use Rattle.kc_encode.proofs.Operands.{rex-is, rex-bits, rex-length, width-is, permits-used, low-below, register-whole, HasDisp, operand-is, operand-length, four-length, eight-length}

-- ---- lists

regroup : (a b c d : List ℕ) (op : ℕ) → (((a ++ b) ++ op ∷ []) ++ c) ++ d ≡ a ++ (b ++ op ∷ (c ++ d))
regroup a b c d op = simp append_assoc

regroup2 : (a b c d : List ℕ) (o p : ℕ) → (((a ++ b) ++ o ∷ p ∷ []) ++ c) ++ d ≡ a ++ (b ++ o ∷ p ∷ (c ++ d))
regroup2 a b c d o p = simp append_assoc

gs-length : (g : Bool) → length (gs_bytes g) ≤ 1
gs-length true = omega arith
gs-length false = omega arith

-- ---- /r

-- bytes of prefixes, an opcode and an operand
register-length : (g : Bool) (o : Option Rex) (op n : ℕ) (rm : Place)
    → length ((gs_bytes g ++ rex_bytes o) ++ op ∷ operand n rm) ≤ 15
register-length g o op n rm =
    omega (
      arith,
      length-append (gs_bytes g ++ rex_bytes o) (op ∷ operand n rm),
      length-append (gs_bytes g) (rex_bytes o),
      gs-length g,
      rex-length o,
      operand-length n rm,
    )

-- the register that the reg field and REX.R give
reg-is : (w r x b : Bool) (reg : Reg) → high reg ≡ r → is_register reg ≡ true
    → extended (r_bit (rex w r x b)) (low reg) ≡ reg
reg-is w r x b reg e ok = ap (λ (t : Bool). extended t (low reg)) ((rex-bits w r x b).1 ∙ sym e) ∙ register-whole reg ok

pub with-rm-reg : (make : Width → Place → Reg → Insn) (op : ℕ) (w : Width) (reg : Reg) (rm : Place) (at : ℕ)
    → lookup op one_byte ≡ Some (rm_reg make)
    → is_wide w ≡ true → is_register reg ≡ true → is_place rm ≡ true → HasDisp rm
    → Spells (with_register w op reg rm) at (make w rm reg)
unfolding with_register
with-rm-reg make op w reg rm at look wide ok okp f =
    let q = is_quad w in
    let bits = rex-bits (is_quad w) (high reg) (x_of rm) (b_of rm) in
    let o : Option Rex = rex (is_quad w) (high reg) (x_of rm) (b_of rm) in
    let made : whole (make w rm reg) ≡ whole (make (width_of o) rm (extended (r_bit o) (low reg))) =
    sym (ap (λ (v : Width). whole (make v rm (extended (r_bit o) (low reg))))
    (width-is w (high reg) (x_of rm) (b_of rm) wide)
    ∙ ap (λ (r : Reg). whole (make w rm r)) (reg-is (is_quad w) (high reg) (x_of rm) (b_of rm) reg refl ok)) in (
      register-length (gs rm) o op (low reg) rm,
      (
        whole (make w rm reg),
        in_one_byte (gs rm) o (rex_bytes o) op (rm_reg make) (operand (low reg) rm)
            (append_assoc (gs_bytes (gs rm)) (rex_bytes o) (op ∷ operand (low reg) rm)) (rex-is o) look
            (permits-used (rm_reg make) (gs rm) (is_quad w) (high reg) (x_of rm) (b_of rm) refl (λ e. refl) (λ e. refl)
            (λ e. refl) (λ e. refl) (λ e. refl))
            (low reg, rm, operand-is o (low reg) rm (low-below reg) okp f bits.2 bits.3, made),
        refl,
      ),
    )

pub with-reg-rm : (make : Width → Reg → Place → Insn) (op : ℕ) (w : Width) (reg : Reg) (rm : Place) (at : ℕ)
    → lookup op one_byte ≡ Some (reg_rm make)
    → is_wide w ≡ true → is_register reg ≡ true → is_place rm ≡ true → HasDisp rm
    → Spells (with_register w op reg rm) at (make w reg rm)
unfolding with_register
with-reg-rm make op w reg rm at look wide ok okp f =
    let bits = rex-bits (is_quad w) (high reg) (x_of rm) (b_of rm) in
    let o : Option Rex = rex (is_quad w) (high reg) (x_of rm) (b_of rm) in
    let made : whole (make w reg rm) ≡ whole (make (width_of o) (extended (r_bit o) (low reg)) rm) =
    sym (ap (λ (v : Width). whole (make v (extended (r_bit o) (low reg)) rm))
    (width-is w (high reg) (x_of rm) (b_of rm) wide)
    ∙ ap (λ (r : Reg). whole (make w r rm)) (reg-is (is_quad w) (high reg) (x_of rm) (b_of rm) reg refl ok)) in (
      register-length (gs rm) o op (low reg) rm,
      (
        whole (make w reg rm),
        in_one_byte (gs rm) o (rex_bytes o) op (reg_rm make) (operand (low reg) rm)
            (append_assoc (gs_bytes (gs rm)) (rex_bytes o) (op ∷ operand (low reg) rm)) (rex-is o) look
            (permits-used (reg_rm make) (gs rm) (is_quad w) (high reg) (x_of rm) (b_of rm) refl (λ e. refl) (λ e. refl)
            (λ e. refl) (λ e. refl) (λ e. refl))
            (low reg, rm, operand-is o (low reg) rm (low-below reg) okp f bits.2 bits.3, made),
        refl,
      ),
    )

pub with-address : (w : Width) (reg : Reg) (m : Mem) (at : ℕ) → is_wide w ≡ true → is_register reg ≡ true
    → m.gs ≡ false → is_place (place.Mem m) ≡ true → HasDisp (place.Mem m)
    → Spells (with_register w 0x8D reg (place.Mem m)) at (insn.Lea w reg m)
unfolding with_register one_byte
with-address w reg m at wide ok none okp f =
    let rm : Place = place.Mem m in
    let bits = rex-bits (is_quad w) (high reg) (x_of (place.Mem m)) (b_of (place.Mem m)) in
    let o : Option Rex = rex (is_quad w) (high reg) (x_of (place.Mem m)) (b_of (place.Mem m)) in
    let made : whole (insn.Lea w reg m) ≡ whole (insn.Lea (width_of o) (extended (r_bit o) (low reg)) m) =
    sym (ap (λ (v : Width). whole (insn.Lea v (extended (r_bit o) (low reg)) m))
    (width-is w (high reg) (x_of (place.Mem m)) (b_of (place.Mem m)) wide)
    ∙ ap (λ (r : Reg). whole (insn.Lea w r m)) (reg-is (is_quad w) (high reg) (x_of (place.Mem m)) (b_of (place.Mem m))
    reg refl ok)) in (
      register-length m.gs o 0x8D (low reg) (place.Mem m),
      (
        whole (insn.Lea w reg m),
        in_one_byte m.gs o (rex_bytes o) 0x8D address (operand (low reg) (place.Mem m))
            (append_assoc (gs_bytes m.gs) (rex_bytes o) (0x8D ∷ operand (low reg) (place.Mem m))) (rex-is o) refl
            (permits-used address m.gs (is_quad w) (high reg) (x_of (place.Mem m)) (b_of (place.Mem m)) refl
            (λ e. absurd cc) (λ e. refl) (λ e. refl) (λ e. refl) (λ e. refl))
            (low reg, m, operand-is o (low reg) (place.Mem m) (low-below reg) okp f bits.2 bits.3, made),
        refl,
      ),
    )

-- ---- /n

digit-length : (g : Bool) (o : Option Rex) (op n : ℕ) (rm : Place) (imm : List ℕ) → length imm ≤ 4
    → length ((((gs_bytes g ++ rex_bytes o) ++ op ∷ []) ++ operand n rm) ++ imm) ≤ 15
digit-length g o op n rm imm h =
    omega (
      arith,
      length-append (((gs_bytes g ++ rex_bytes o) ++ op ∷ []) ++ operand n rm) imm,
      length-append ((gs_bytes g ++ rex_bytes o) ++ op ∷ []) (operand n rm),
      length-append (gs_bytes g ++ rex_bytes o) (op ∷ []),
      length-append (gs_bytes g) (rex_bytes o),
      gs-length g,
      rex-length o,
      operand-length n rm,
    )

pub with-immediate : (select : ℕ → Option (Width → Place → Source → Insn)) (size : Size)
    (make : Width → Place → Source → Insn) (op n : ℕ) (w : Width) (rm : Place) (imm : List ℕ) (z : ℤ) (at : ℕ)
    → lookup op one_byte ≡ Some (rm_imm select size) → select n ≡ Some make → n < 8 → length imm ≤ 4
    → IsImmediate w size imm z
    → is_wide w ≡ true → is_place rm ≡ true → HasDisp rm
    → Spells (with_digit w (op ∷ []) n rm ++ imm) at (make w rm (source.Imm z))
unfolding with_digit
with-immediate select size make op n w rm imm z at look sel below len isimm wide okp f =
    let bits = rex-bits (is_quad w) false (x_of rm) (b_of rm) in
    let o : Option Rex = rex (is_quad w) false (x_of rm) (b_of rm) in
    let width : width_of o ≡ w = width-is w false (x_of rm) (b_of rm) wide in (
      digit-length (gs rm) o op n rm imm len,
      (
        whole (make w rm (source.Imm z)),
        in_one_byte (gs rm) o (rex_bytes o) op (rm_imm select size) (operand n rm ++ imm)
            (regroup (gs_bytes (gs rm)) (rex_bytes o) (operand n rm) imm op) (rex-is o) look
            (permits-used (rm_imm select size) (gs rm) (is_quad w) false (x_of rm) (b_of rm) refl (λ e. refl)
            (λ e. refl) (λ e. absurd cc) (λ e. refl) (λ e. refl)) (record {
              reg = n;
              make = make;
              rm = rm;
              rm_bytes = operand n rm;
              imm_bytes = imm;
              value = z;
              tail_is = refl;
              selected = sel;
              operand = operand-is o n rm below okp f bits.2 bits.3;
              immediate_is = subst (λ (v : Width). IsImmediate v size imm z) (sym width) isimm;
              draft_is = sym (ap (λ (v : Width). whole (make v rm (source.Imm z))) width);
            }),
        refl,
      ),
    )

pub with-quad : (make : Place → Insn) (op n : ℕ) (rm : Place) (at : ℕ) → lookup op one_byte ≡ Some (rm_quad n make)
    → n < 8 → is_place rm ≡ true → HasDisp rm
    → Spells (with_digit Long (op ∷ []) n rm) at (make rm)
unfolding with_digit
with-quad make op n rm at look below okp f =
    let bits = rex-bits false false (x_of rm) (b_of rm) in
    let o : Option Rex = rex false false (x_of rm) (b_of rm) in
    let len = digit-length (gs rm) o op n rm [] (omega arith) in (
      omega (arith, len, length-append (((gs_bytes (gs rm) ++ rex_bytes o) ++ op ∷ []) ++ operand n rm) []),
      (
        whole (make rm),
        in_one_byte (gs rm) o (rex_bytes o) op (rm_quad n make) (operand n rm) (simp append_assoc) (rex-is o) look
            (permits-used (rm_quad n make) (gs rm) false false (x_of rm) (b_of rm) refl (λ e. refl) (λ e. absurd cc)
            (λ e. absurd cc) (λ e. refl) (λ e. refl))
            (rm, operand-is o n rm below okp f bits.2 bits.3, refl),
        refl,
      ),
    )

pub with-bit : (op : BitOp) (n : ℕ) (w : Width) (rm : Place) (v : ℕ) (at : ℕ) → bit_of n ≡ Some op → n < 8 → v < 256
    → is_wide w ≡ true → is_place rm ≡ true → HasDisp rm
    → Spells (with_digit w (0x0F ∷ 0xBA ∷ []) n rm ++ v ∷ []) at (insn.Bit op w rm v)
unfolding with_digit two_byte
with-bit op n w rm v at sel below small wide okp f =
    let bits = rex-bits (is_quad w) false (x_of rm) (b_of rm) in
    let o : Option Rex = rex (is_quad w) false (x_of rm) (b_of rm) in
    let width : width_of o ≡ w = width-is w false (x_of rm) (b_of rm) wide in
    let head = (gs_bytes (gs rm) ++ rex_bytes o) ++ 0x0F ∷ 0xBA ∷ [] in (
      omega (
        arith,
        length-append (((gs_bytes (gs rm) ++ rex_bytes o) ++ 0x0F ∷ 0xBA ∷ []) ++ operand n rm) (v ∷ []),
        length-append ((gs_bytes (gs rm) ++ rex_bytes o) ++ 0x0F ∷ 0xBA ∷ []) (operand n rm),
        length-append (gs_bytes (gs rm) ++ rex_bytes o) (0x0F ∷ 0xBA ∷ []),
        length-append (gs_bytes (gs rm)) (rex_bytes o),
        gs-length (gs rm),
        rex-length o,
        operand-length n rm,
      ),
      (
        whole (insn.Bit op w rm v),
        in_two_bytes (gs rm) o (rex_bytes o) 0xBA (rm_bit bit_of) (operand n rm ++ v ∷ [])
            (regroup2 (gs_bytes (gs rm)) (rex_bytes o) (operand n rm) (v ∷ []) 0x0F 0xBA) (rex-is o) refl
            (permits-used (rm_bit bit_of) (gs rm) (is_quad w) false (x_of rm) (b_of rm) refl (λ e. refl) (λ e. refl)
            (λ e. absurd cc) (λ e. refl) (λ e. refl)) (record {
              reg = n;
              op = op;
              rm = rm;
              rm_bytes = operand n rm;
              bit_bytes = v ∷ [];
              bit = v;
              tail_is = refl;
              selected = sel;
              operand = operand-is o n rm below okp f bits.2 bits.3;
              bit_is = (refl, (small, tt), omega arith);
              draft_is = sym (ap (λ (u : Width). whole (insn.Bit op u rm v)) width);
            }),
        refl,
      ),
    )

-- ---- TEST of a byte

-- without REX only the low bytes of RAX, RCX, RDX and RBX
low-byte-is : (rm : Place) → is_place rm ≡ true → needs_rex rm ≡ false
    → IsLowByte (rex false false (x_of rm) (b_of rm)) rm
unfolding rex
low-byte-is (place.Mem m) okp h = go (rex false false (x_of (place.Mem m)) (b_of (place.Mem m)))
  where
    go : (o : Option Rex) → IsLowByte o (place.Mem m)
    go None = tt
    go (Some r) = tt
low-byte-is (place.Reg r) okp h = go (leb 8 r.0) refl (leb 4 r.0) refl (ltb r.0 8) refl h
  where
    go : (t : Bool) → leb 8 r.0 ≡ t → (u : Bool) → leb 4 r.0 ≡ u → (v : Bool) → ltb r.0 8 ≡ v → (u && v) ≡ false
        → IsLowByte (rex false false false t) (place.Reg r)
    go true e u eu v ev k = tt
    go false e false eu v ev k = leb-false 4 r.0 eu
    go false e true eu true ev k = absurd cc
    go false e true eu false ev k =
        absurd (let a = leb-false 8 r.0 e in let b = ltb-false r.0 8 ev in omega (arith, a, b))

pub with-byte : (rm : Place) (z : ℤ) (at : ℕ) → needs_rex rm ≡ false → is_immediate Byte z ≡ true → is_place rm ≡ true
    → HasDisp rm
    → Spells (with_digit Byte (0xF6 ∷ []) 0 rm ++ byte_bytes z) at (insn.«Test» Byte rm (source.Imm z))
unfolding with_digit one_byte
with-byte rm z at plain ok okp f =
    let bits = rex-bits false false (x_of rm) (b_of rm) in
    let o : Option Rex = rex false false (x_of rm) (b_of rm) in (
      digit-length (gs rm) o 0xF6 0 rm (byte_bytes z) (omega arith),
      (
        whole (insn.«Test» Byte rm (source.Imm z)),
        in_one_byte (gs rm) o (rex_bytes o) 0xF6 rm_byte_imm (operand 0 rm ++ byte_bytes z)
            (regroup (gs_bytes (gs rm)) (rex_bytes o) (operand 0 rm) (byte_bytes z) 0xF6) (rex-is o) refl
            (permits-used rm_byte_imm (gs rm) false false (x_of rm) (b_of rm) refl (λ e. refl) (λ e. absurd cc)
            (λ e. absurd cc) (λ e. refl) (λ e. refl))
            (record {
              rm = rm;
              rm_bytes = operand 0 rm;
              imm_bytes = byte_bytes z;
              value = z;
              tail_is = refl;
              operand = operand-is o 0 rm (lit< tt) okp f bits.2 bits.3;
              low_byte = low-byte-is rm okp plain;
              immediate_is = imm-byte z ok;
              draft_is = refl;
            }),
        refl,
      ),
    )

-- the byte 40
abbrev no_bit : Rex
no_bit = record { w = false; r = false; x = false; b = false }

pub with-rex-byte : (r : Reg) (z : ℤ) (at : ℕ) → needs_rex (place.Reg r) ≡ true → is_immediate Byte z ≡ true
    → Spells (0x40 ∷ 0xF6 ∷ operand 0 (place.Reg r) ++ byte_bytes z) at (insn.«Test» Byte (place.Reg r) (source.Imm z))
unfolding one_byte
with-rex-byte r z at h ok =
    let below : r.0 < 8 = ltb-true r.0 8 (and_parts (leb 4 r.0) (ltb r.0 8) h).1 in
    let small : is_register r ≡ true = lt-ltb r.0 16 (omega (arith, below)) in
    let clear : false ≡ high r = sym (not-leb 8 r.0 below) in (
      omega (
        arith,
        length-append (0x40 ∷ 0xF6 ∷ operand 0 (place.Reg r)) (byte_bytes z),
        operand-length 0 (place.Reg r),
      ),
      (
        whole (insn.«Test» Byte (place.Reg r) (source.Imm z)),
        in_one_byte false (Some no_bit) (0x40 ∷ []) 0xF6 rm_byte_imm (operand 0 (place.Reg r) ++ byte_bytes z) refl
            refl refl refl
            (record {
              rm = place.Reg r;
              rm_bytes = operand 0 (place.Reg r);
              imm_bytes = byte_bytes z;
              value = z;
              tail_is = refl;
              operand = operand-is (Some no_bit) 0 (place.Reg r) (lit< tt) small tt refl clear;
              low_byte = tt;
              immediate_is = imm-byte z ok;
              draft_is = refl;
            }),
        refl,
      ),
    )
  where
    not-leb : (a b : ℕ) → b < a → leb a b ≡ false
    not-leb a b k = go (leb a b) refl
      where
        go : (t : Bool) → leb a b ≡ t → t ≡ false
        go true e = absurd (let l = leb-true a b e in omega (arith, l, k))
        go false e = refl

-- ---- +r

plus-length : (o : Option Rex) (op : ℕ) (imm : List ℕ) → length imm ≤ 8 → length ((rex_bytes o ++ op ∷ []) ++ imm) ≤ 15
plus-length o op imm h =
    omega (arith, length-append (rex_bytes o ++ op ∷ []) imm, length-append (rex_bytes o) (op ∷ []), rex-length o)

base-reg : (w b : Bool) (r : Reg) → high r ≡ b → is_register r ≡ true
    → extended (b_bit (rex w false false b)) (low r) ≡ r
base-reg w b r e ok = ap (λ (t : Bool). extended t (low r)) ((rex-bits w false false b).3 ∙ sym e) ∙ register-whole r ok

pub with-opcode-register : (make : Reg → Insn) (op : ℕ) (r : Reg) (at : ℕ)
    → lookup (op + low r) one_byte ≡ Some (table.opcode_register make (low r)) → is_register r ≡ true
    → Spells (opcode_register false op r) at (make r)
unfolding opcode_register
with-opcode-register make op r at look ok =
    let o : Option Rex = rex false false false (high r) in (
      omega (arith, length-append (rex_bytes o) ((op + low r) ∷ []), rex-length o),
      (
        whole (make r),
        in_one_byte false o (rex_bytes o) (op + low r) (table.opcode_register make (low r)) [] refl (rex-is o) look
            (permits-used (table.opcode_register make (low r)) false false false false (high r) refl (λ e. absurd cc)
            (λ e. absurd cc) (λ e. absurd cc) (λ e. absurd cc) (λ e. refl))
            (refl, sym (ap (λ (t : Reg). whole (make t)) (base-reg false (high r) r refl ok))),
        refl,
      ),
    )

-- the tail of a row of MOV to a register, by the bit W
imm-tail : (w : Bool) (r : Reg) (tail : List ℕ) (z : ℤ) (v : ℕ) → is_register r ≡ true → IsNumber (cond w 8 4) tail v
    → z ≡ cond w (cast_signed w64 v) (pos v)
    → IsTail (register_imm (low r)) false (rex w false false (high r)) tail
    (whole (insn.Mov (cond w Quad Long) (place.Reg r) (source.Imm z)))
imm-tail w r tail z v ok num is =
    let bits = rex-bits w false false (high r) in
    let o : Option Rex = rex w false false (high r) in (
      v,
      subst (λ (t : Bool). IsNumber (cond t 8 4) tail v) (sym bits.0) num,
      ap (λ (k : ℤ). whole (insn.Mov (cond w Quad Long) (place.Reg r) (source.Imm k))) is
          ∙ ap (λ (t : Bool). whole (insn.Mov (cond t Quad Long) (place.Reg r)
          (source.Imm (cond t (cast_signed w64 v) (pos v))))) (sym bits.0)
          ∙ ap (λ (t : Reg). whole (insn.Mov (cond (w_bit o) Quad Long) (place.Reg t)
          (source.Imm (cond (w_bit o) (cast_signed w64 v) (pos v))))) (sym (base-reg w (high r) r refl ok)),
    )

pub with-long-immediate : (r : Reg) (z : ℤ) (at : ℕ) → lookup (0xB8 + low r) one_byte ≡ Some (register_imm (low r))
    → is_register r ≡ true → is_immediate Long z ≡ true
    → Spells (opcode_register false 0xB8 r ++ four_bytes z) at (insn.Mov Long (place.Reg r) (source.Imm z))
unfolding opcode_register
with-long-immediate r z at look ok okz =
    let o : Option Rex = rex false false false (high r) in
    let n = number-long z okz in (
      plus-length o (0xB8 + low r) (four_bytes z) (omega (arith, four-length z)),
      (
        whole (insn.Mov Long (place.Reg r) (source.Imm z)),
        in_one_byte false o (rex_bytes o) (0xB8 + low r) (register_imm (low r)) (four_bytes z)
            (append_assoc (rex_bytes o) ((0xB8 + low r) ∷ []) (four_bytes z)) (rex-is o) look
            (permits-used (register_imm (low r)) false false false false (high r) refl (λ e. absurd cc) (λ e. refl)
            (λ e. absurd cc) (λ e. absurd cc) (λ e. refl))
            (imm-tail false r (four_bytes z) z n.0 ok n.1 n.2),
        refl,
      ),
    )

pub with-quad-immediate : (r : Reg) (z : ℤ) (at : ℕ) → lookup (0xB8 + low r) one_byte ≡ Some (register_imm (low r))
    → is_register r ≡ true → FitsSigned w64 z
    → Spells (opcode_register true 0xB8 r ++ eight_bytes z) at (insn.Mov Quad (place.Reg r) (source.Imm z))
unfolding opcode_register
with-quad-immediate r z at look ok f =
    let o : Option Rex = rex true false false (high r) in
    let n = number-quad z f in (
      plus-length o (0xB8 + low r) (eight_bytes z) (omega (arith, eight-length z)),
      (
        whole (insn.Mov Quad (place.Reg r) (source.Imm z)),
        in_one_byte false o (rex_bytes o) (0xB8 + low r) (register_imm (low r)) (eight_bytes z)
            (append_assoc (rex_bytes o) ((0xB8 + low r) ∷ []) (eight_bytes z)) (rex-is o) look
            (permits-used (register_imm (low r)) false true false false (high r) refl (λ e. absurd cc) (λ e. refl)
            (λ e. absurd cc) (λ e. absurd cc) (λ e. refl))
            (imm-tail true r (eight_bytes z) z n.0 ok n.1 n.2),
        refl,
      ),
    )

-- ---- /n with a register alone

pub with-on-register : (select : ℕ → Option (Reg → Insn)) (make : Reg → Insn) (op n : ℕ) (r : Reg) (at : ℕ)
    → lookup op two_byte ≡ Some (rm_register select) → select n ≡ Some make → n < 8 → is_register r ≡ true
    → Spells (on_register false (0x0F ∷ op ∷ []) n r) at (make r)
unfolding on_register
with-on-register select make op n r at look sel below ok =
    let bits = rex-bits false false false (high r) in
    let o : Option Rex = rex false false false (high r) in (
      omega (
        arith,
        length-append (rex_bytes o ++ 0x0F ∷ op ∷ []) (operand n (place.Reg r)),
        length-append (rex_bytes o) (0x0F ∷ op ∷ []),
        rex-length o,
        operand-length n (place.Reg r),
      ),
      (
        whole (make r),
        in_two_bytes false o (rex_bytes o) op (rm_register select) (operand n (place.Reg r))
            (append_assoc (rex_bytes o) (0x0F ∷ op ∷ []) (operand n (place.Reg r))) (rex-is o) look
            (permits-used (rm_register select) false false false false (high r) refl (λ e. absurd cc) (λ e. absurd cc)
            (λ e. absurd cc) (λ e. absurd cc) (λ e. refl))
            (record {
              reg = n;
              make = make;
              rm = r;
              selected = sel;
              operand = operand-is o n (place.Reg r) below ok tt bits.2 bits.3;
              draft_is = refl;
            }),
        refl,
      ),
    )

permits-w : (select : ℕ → Option (Reg → Insn)) (b : Bool)
    → permits (rm_register_w select) false (rex true false false b) ≡ true
unfolding rex
permits-w select true = refl
permits-w select false = refl

pub with-gs-base : (select : ℕ → Option (Reg → Insn)) (make : Reg → Insn) (n : ℕ) (r : Reg) (at : ℕ)
    → lookup 0xAE two_byte_f3 ≡ Some (rm_register_w select) → select n ≡ Some make → n < 8 → is_register r ≡ true
    → Spells (0xF3 ∷ on_register true (0x0F ∷ 0xAE ∷ []) n r) at (make r)
unfolding on_register
with-gs-base select make n r at look sel below ok =
    let bits = rex-bits true false false (high r) in
    let o : Option Rex = rex true false false (high r) in (
      omega (
        arith,
        length-append (rex_bytes o ++ 0x0F ∷ 0xAE ∷ []) (operand n (place.Reg r)),
        length-append (rex_bytes o) (0x0F ∷ 0xAE ∷ []),
        rex-length o,
        operand-length n (place.Reg r),
      ),
      (
        whole (make r),
        after_f3 o (rex_bytes o) 0xAE (rm_register_w select) (operand n (place.Reg r))
            (ap (λ (l : List ℕ). 0xF3 ∷ l) (append_assoc (rex_bytes o) (0x0F ∷ 0xAE ∷ []) (operand n (place.Reg r))))
            (rex-is o) look
            (permits-w select (high r))
            (record {
              reg = n;
              make = make;
              rm = r;
              selected = sel;
              operand = operand-is o n (place.Reg r) below ok tt bits.2 bits.3;
              draft_is = refl;
            }),
        refl,
      ),
    )

-- ---- jumps

jump-is : (make : ℕ → Insn) (at n : ℕ) (t : ℕ) (bytes : List ℕ) → t < 2 ^ 64 → length bytes ≡ n
    → make t ≡ resolve (at + length bytes) (jump make (distance (at + n) t))
jump-is make at n t bytes h len =
    sym (ap (λ (k : ℕ). make (target (at + k) (distance (at + n) t))) len ∙ ap make (target-of-distance (at + n) t h))

pub with-jump : (make : ℕ → Insn) (op : ℕ) (t at : ℕ) → lookup op one_byte ≡ Some (relative make id) → t < 2 ^ 64
    → FitsSigned w32 (distance (at + 5) t)
    → Spells (op ∷ four_bytes (distance (at + 5) t)) at (make t)
with-jump make op t at look h f =
    let z : ℤ = distance (at + 5) t in
    let len : length (op ∷ four_bytes (distance (at + 5) t)) ≡ 5 = ap suc (four-length (distance (at + 5) t)) in (
      omega (arith, len),
      (
        jump make (distance (at + 5) t),
        in_one_byte false None [] op (relative make id) (four_bytes (distance (at + 5) t)) refl refl look refl
            (distance (at + 5) t, signed4 (distance (at + 5) t) f, refl),
        jump-is make at 5 t (op ∷ four_bytes (distance (at + 5) t)) h len,
      ),
    )

pub with-branch : (c t at : ℕ) → lookup (0x80 + c) two_byte ≡ Some (relative (insn.Jcc c) id) → t < 2 ^ 64
    → FitsSigned w32 (distance (at + 6) t)
    → Spells (0x0F ∷ (0x80 + c) ∷ four_bytes (distance (at + 6) t)) at (insn.Jcc c t)
with-branch c t at look h f =
    let len : length (0x0F ∷ (0x80 + c) ∷ four_bytes (distance (at + 6) t)) ≡ 6 =
    ap suc (ap suc (four-length (distance (at + 6) t))) in (
      omega (arith, len),
      (
        jump (insn.Jcc c) (distance (at + 6) t),
        in_two_bytes false None [] (0x80 + c) (relative (insn.Jcc c) id) (four_bytes (distance (at + 6) t)) refl refl
            look refl
            (distance (at + 6) t, signed4 (distance (at + 6) t) f, refl),
        jump-is (insn.Jcc c) at 6 t (0x0F ∷ (0x80 + c) ∷ four_bytes (distance (at + 6) t)) h len,
      ),
    )
