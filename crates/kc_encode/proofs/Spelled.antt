-- The chosen bytes of an instruction spell it.
-- By cases on the instruction, as canonical_bytes goes: each case is one lemma of Opcodes at the row of the table that
-- has its opcode, which is found by computation. What is_encodable says of the operands gives each lemma's premises.
use Rattle.std.proofs.Common.{◌≡◌, ℕ, zero, suc, ◌+◌, ◌*◌, ◌^◌, ◌<◌, Bool, true, false, cond, not, ◌&&◌, ◌==◌, [], ◌∷◌, ◌++◌, Option, Some, None, ℤ, refl, arith, lit<}
use Rattle.std.specs.Prelude.{FitsSigned}
use Rattle.std.specs.Int.{w32, w64}
use Rattle.std.proofs.lemmas.Bool.{ltb-true, and_parts}
use Rattle.kc_words.specs.declared.width.Width.{Width}
use Rattle.kc_words.specs.declared.width.Width.TheVariants.{Byte, Long, Quad}
use Rattle.kc_insn.specs.declared.insn.Reg.{Reg}
use Rattle.kc_insn.specs.declared.insn.Place.{Place}
use Rattle.kc_insn.specs.declared.insn.Place.TheVariants as place
use Rattle.kc_insn.specs.declared.insn.Source.{Source}
use Rattle.kc_insn.specs.declared.insn.Source.TheVariants as source
use Rattle.kc_insn.specs.declared.insn.AluOp.{AluOp}
use Rattle.kc_insn.specs.declared.insn.AluOp.TheVariants as alu
use Rattle.kc_insn.specs.declared.insn.BitOp.{BitOp}
use Rattle.kc_insn.specs.declared.insn.BitOp.TheVariants as bits
use Rattle.kc_insn.specs.declared.insn.Insn.{Insn}
use Rattle.kc_insn.specs.declared.insn.Insn.TheVariants as insn
use Rattle.kc_insn.specs.declared.rex.Rex.{Rex}
use Rattle.kc_insn.specs.Fields.{ib, id, source_of}
use Rattle.kc_insn.specs.Table.{Form, lookup, only, alu_imm, bit_of, alu_rm_reg, alu_reg_rm, one_byte, two_byte, two_byte_f3, plain, plain_w, last_byte, register_imm, rm_imm, relative}
use Rattle.kc_insn.specs.Table as table
use Rattle.kc_insn.specs.Spells.{whole, in_one_byte, in_two_bytes, after_f3, Spells}
use Rattle.kc_insn.specs.Encodable.{is_register, is_place, is_memory, is_wide, is_immediate, is_signed_long, is_move, is_pair, is_test, is_pushed, is_encodable}
use Rattle.kc_encode.specs.Canonical as Canonical
use Rattle.kc_encode.specs.Canonical.{is_signed_byte, one_byte as byte_bytes, four_bytes, low, mov, mov_immediate, push, pop, alu_digit, signed_at, arithmetic, needs_rex, test, test_immediate, bit_digit, distance, reaches, canonical_bytes}
use Rattle.kc_encode.proofs.Numbers.{long-fits, imm4, imm1, signed1, signed4}
use Rattle.kc_encode.proofs.Operands.{HasDisp, low-below, four-length}
use Rattle.kc_encode.proofs.Opcodes.{with-rm-reg, with-reg-rm, with-address, with-immediate, with-quad, with-bit, with-byte, with-rex-byte, with-opcode-register, with-long-immediate, with-quad-immediate, with-on-register, with-gs-base, with-jump, with-branch}

-- ---- what the types of the fields say

abbrev pub HasNumbers : Source → Type 0
HasNumbers (source.Reg r) = Unit {0}
HasNumbers (source.Mem m) = FitsSigned w32 m.disp
HasNumbers (source.Imm z) = FitsSigned w64 z

abbrev pub IsTyped : Insn → Type 0
IsTyped (insn.Mov w p s) = HasDisp p × HasNumbers s
IsTyped (insn.Lea w r m) = FitsSigned w32 m.disp
IsTyped (insn.Xchg w p r) = HasDisp p
IsTyped (insn.Push s) = HasNumbers s
IsTyped (insn.Pop p) = HasDisp p
IsTyped (insn.Alu op w p s) = HasDisp p × HasNumbers s
IsTyped (insn.«Test» w p s) = HasDisp p × HasNumbers s
IsTyped (insn.Bit op w p n) = HasDisp p × (n < 256)
IsTyped (insn.Jcc c target) = target < 2 ^ 64
IsTyped (insn.Jmp target) = target < 2 ^ 64
IsTyped (insn.Call target) = target < 2 ^ 64
IsTyped i = Unit {0}

-- ---- opcodes with a register or a condition in them

at-B8 : (k : ℕ) → k < 8 → lookup (0xB8 + k) one_byte ≡ Some (register_imm k)
unfolding one_byte
at-B8 zero h = refl
at-B8 (suc zero) h = refl
at-B8 (suc (suc zero)) h = refl
at-B8 (suc (suc (suc zero))) h = refl
at-B8 (suc (suc (suc (suc zero)))) h = refl
at-B8 (suc (suc (suc (suc (suc zero))))) h = refl
at-B8 (suc (suc (suc (suc (suc (suc zero)))))) h = refl
at-B8 (suc (suc (suc (suc (suc (suc (suc zero))))))) h = refl
at-B8 (suc (suc (suc (suc (suc (suc (suc (suc k)))))))) h = absurd (omega arith)

abbrev push_register : Reg → Insn
push_register r = insn.Push (source.Reg r)

abbrev pop_register : Reg → Insn
pop_register r = insn.Pop (place.Reg r)

at-50 : (k : ℕ) → k < 8 → lookup (0x50 + k) one_byte ≡ Some (table.opcode_register push_register k)
unfolding one_byte
at-50 zero h = refl
at-50 (suc zero) h = refl
at-50 (suc (suc zero)) h = refl
at-50 (suc (suc (suc zero))) h = refl
at-50 (suc (suc (suc (suc zero)))) h = refl
at-50 (suc (suc (suc (suc (suc zero))))) h = refl
at-50 (suc (suc (suc (suc (suc (suc zero)))))) h = refl
at-50 (suc (suc (suc (suc (suc (suc (suc zero))))))) h = refl
at-50 (suc (suc (suc (suc (suc (suc (suc (suc k)))))))) h = absurd (omega arith)

at-58 : (k : ℕ) → k < 8 → lookup (0x58 + k) one_byte ≡ Some (table.opcode_register pop_register k)
unfolding one_byte
at-58 zero h = refl
at-58 (suc zero) h = refl
at-58 (suc (suc zero)) h = refl
at-58 (suc (suc (suc zero))) h = refl
at-58 (suc (suc (suc (suc zero)))) h = refl
at-58 (suc (suc (suc (suc (suc zero))))) h = refl
at-58 (suc (suc (suc (suc (suc (suc zero)))))) h = refl
at-58 (suc (suc (suc (suc (suc (suc (suc zero))))))) h = refl
at-58 (suc (suc (suc (suc (suc (suc (suc (suc k)))))))) h = absurd (omega arith)

at-80 : (c : ℕ) → c < 16 → lookup (0x80 + c) two_byte ≡ Some (relative (insn.Jcc c) id)
unfolding two_byte
at-80 zero h = refl
at-80 (suc zero) h = refl
at-80 (suc (suc zero)) h = refl
at-80 (suc (suc (suc zero))) h = refl
at-80 (suc (suc (suc (suc zero)))) h = refl
at-80 (suc (suc (suc (suc (suc zero))))) h = refl
at-80 (suc (suc (suc (suc (suc (suc zero)))))) h = refl
at-80 (suc (suc (suc (suc (suc (suc (suc zero))))))) h = refl
at-80 (suc (suc (suc (suc (suc (suc (suc (suc zero)))))))) h = refl
at-80 (suc (suc (suc (suc (suc (suc (suc (suc (suc zero))))))))) h = refl
at-80 (suc (suc (suc (suc (suc (suc (suc (suc (suc (suc zero)))))))))) h = refl
at-80 (suc (suc (suc (suc (suc (suc (suc (suc (suc (suc (suc zero))))))))))) h = refl
at-80 (suc (suc (suc (suc (suc (suc (suc (suc (suc (suc (suc (suc zero)))))))))))) h = refl
at-80 (suc (suc (suc (suc (suc (suc (suc (suc (suc (suc (suc (suc (suc zero))))))))))))) h = refl
at-80 (suc (suc (suc (suc (suc (suc (suc (suc (suc (suc (suc (suc (suc (suc zero)))))))))))))) h = refl
at-80 (suc (suc (suc (suc (suc (suc (suc (suc (suc (suc (suc (suc (suc (suc (suc zero))))))))))))))) h = refl
at-80 (suc (suc (suc (suc (suc (suc (suc (suc (suc (suc (suc (suc (suc (suc (suc (suc c)))))))))))))))) h =
    absurd (omega arith)

-- ---- the other opcodes

wide-not-byte : (w : Width) → is_wide w ≡ true → w ≡ Byte → ⊥
wide-not-byte Byte h e = absurd cc
wide-not-byte Long h e = absurd cc
wide-not-byte Quad h e = absurd cc

abbrev mov_rm : Width → Place → Reg → Insn
mov_rm w rm reg = insn.Mov w rm (source.Reg reg)

abbrev mov_reg : Width → Reg → Place → Insn
mov_reg w reg rm = insn.Mov w (place.Reg reg) (source_of rm)

abbrev test_rm : Width → Place → Reg → Insn
test_rm w rm reg = insn.«Test» w rm (source.Reg reg)

at-mov : (lookup 0x89 one_byte ≡ Some (table.rm_reg mov_rm)) × (lookup 0x8B one_byte ≡ Some (table.reg_rm mov_reg))
    × (lookup 0xC7 one_byte ≡ Some (rm_imm (only 0 insn.Mov) id))
unfolding one_byte
at-mov = (refl, refl, refl)

at-others : (lookup 0x87 one_byte ≡ Some (table.rm_reg insn.Xchg))
    × (lookup 0x85 one_byte ≡ Some (table.rm_reg test_rm))
    × (lookup 0xF7 one_byte ≡ Some (rm_imm (only 0 insn.«Test») id))
    × (lookup 0xFF one_byte ≡ Some (table.rm_quad 6 (λ rm. insn.Push (source_of rm))))
    × (lookup 0x8F one_byte ≡ Some (table.rm_quad 0 insn.Pop))
    × (lookup 0x83 one_byte ≡ Some (rm_imm alu_imm ib)) × (lookup 0x81 one_byte ≡ Some (rm_imm alu_imm id))
unfolding one_byte
at-others = (refl, refl, refl, refl, refl, refl, refl)

at-alu : (op : AluOp) → (lookup (8 * alu_digit op + 1) one_byte ≡ Some (alu_rm_reg op))
    × (lookup (8 * alu_digit op + 3) one_byte ≡ Some (alu_reg_rm op)) × (alu_imm (alu_digit op) ≡ Some (insn.Alu op))
    × (alu_digit op < 8)
unfolding one_byte
at-alu alu.Add = (refl, refl, refl, lit< tt)
at-alu alu.Or = (refl, refl, refl, lit< tt)
at-alu alu.And = (refl, refl, refl, lit< tt)
at-alu alu.Sub = (refl, refl, refl, lit< tt)
at-alu alu.Xor = (refl, refl, refl, lit< tt)
at-alu alu.Cmp = (refl, refl, refl, lit< tt)

at-bit : (op : BitOp) → (bit_of (bit_digit op) ≡ Some op) × (bit_digit op < 8)
at-bit bits.«Test» = (refl, lit< tt)
at-bit bits.Set = (refl, lit< tt)
at-bit bits.Reset = (refl, lit< tt)

at-jumps : (lookup 0xE9 one_byte ≡ Some (relative insn.Jmp id)) × (lookup 0xE8 one_byte ≡ Some (relative insn.Call id))
unfolding one_byte
at-jumps = (refl, refl)

abbrev gs_select : ℕ → Option (Reg → Insn)
gs_select n = cond (n == 1) (Some insn.ReadGs) (cond (n == 3) (Some insn.WriteGs) None)

at-registers : (lookup 0x20 two_byte ≡ Some (table.rm_register (only 3 insn.ReadCr3)))
    × (lookup 0x22 two_byte ≡ Some (table.rm_register (only 3 insn.WriteCr3)))
    × (lookup 0xAE two_byte_f3 ≡ Some (table.rm_register_w gs_select))
unfolding two_byte two_byte_f3
at-registers = (refl, refl, refl)

-- ---- MOV

mov-immediate-spelled : (w : Width) (d : Reg) (z : ℤ) (at : ℕ) → is_wide w ≡ true
    → is_move w (place.Reg d) (source.Imm z) ≡ true → FitsSigned w64 z
    → Spells (mov_immediate w d z) at (insn.Mov w (place.Reg d) (source.Imm z))
mov-immediate-spelled Byte d z at wide ok f = absurd cc
mov-immediate-spelled Long d z at wide ok f =
    with-long-immediate d z at (at-B8 (low d) (low-below d)) (and_parts (is_register d) (is_immediate Long z) ok).0
    (and_parts (is_register d) (is_immediate Long z) ok).1
mov-immediate-spelled Quad d z at wide ok f = go (is_signed_long z) refl
  where
    go : (t : Bool) → is_signed_long z ≡ t
        → Spells (cond t (Canonical.with_digit Quad (0xC7 ∷ []) 0 (place.Reg d) ++ four_bytes z)
        (Canonical.opcode_register true 0xB8 d ++ Canonical.eight_bytes z)) at
        (insn.Mov Quad (place.Reg d) (source.Imm z))
    go true e = with-immediate (only 0 insn.Mov) id insn.Mov 0xC7 0 Quad (place.Reg d) (four_bytes z) z at at-mov.2
        refl (lit< tt) (omega (arith, four-length z)) (imm4 Quad z (λ h. absurd cc) e) refl ok tt
    go false e = with-quad-immediate d z at (at-B8 (low d) (low-below d)) ok f

mov-spelled : (w : Width) (p : Place) (s : Source) (at : ℕ) → is_wide w ≡ true → is_move w p s ≡ true → HasDisp p
    → HasNumbers s → Spells (mov w p s) at (insn.Mov w p s)
mov-spelled w (place.Reg d) (source.Reg s) at wide ok hp hs =
    with-rm-reg mov_rm 0x89 w s (place.Reg d) at at-mov.0 wide (and_parts (is_register d) (is_register s) ok).1
    (and_parts (is_register d) (is_register s) ok).0 tt
mov-spelled w (place.Mem m) (source.Reg s) at wide ok hp hs =
    with-rm-reg mov_rm 0x89 w s (place.Mem m) at at-mov.0 wide (and_parts (is_memory m) (is_register s) ok).1
    (and_parts (is_memory m) (is_register s) ok).0 hp
mov-spelled w (place.Reg d) (source.Mem m) at wide ok hp hs =
    with-reg-rm mov_reg 0x8B w d (place.Mem m) at at-mov.1 wide (and_parts (is_register d) (is_memory m) ok).0
    (and_parts (is_register d) (is_memory m) ok).1 hs
mov-spelled w (place.Mem n) (source.Mem m) at wide ok hp hs = absurd cc
mov-spelled w (place.Reg d) (source.Imm z) at wide ok hp hs = mov-immediate-spelled w d z at wide ok hs
mov-spelled w (place.Mem m) (source.Imm z) at wide ok hp hs =
    with-immediate (only 0 insn.Mov) id insn.Mov 0xC7 0 w (place.Mem m) (four_bytes z) z at at-mov.2 refl (lit< tt)
    (omega (arith, four-length z))
    (imm4 w z (wide-not-byte w wide) (and_parts (is_memory m) (is_immediate w z) ok).1) wide
    (and_parts (is_memory m) (is_immediate w z) ok).0 hp

-- ---- PUSH and POP

push-byte : (z : ℤ) (at : ℕ) → is_signed_byte z ≡ true → Spells (0x6A ∷ byte_bytes z) at (insn.Push (source.Imm z))
unfolding one_byte
push-byte z at h = (
  omega arith,
  (
    whole (insn.Push (source.Imm z)),
    in_one_byte false None [] 0x6A (table.imm_quad ib) (byte_bytes z) refl refl refl refl (z, signed1 z h, refl),
    refl,
  ),
)

push-long : (z : ℤ) (at : ℕ) → is_signed_long z ≡ true → Spells (0x68 ∷ four_bytes z) at (insn.Push (source.Imm z))
unfolding one_byte
push-long z at h = (
  omega (arith, four-length z),
  (
    whole (insn.Push (source.Imm z)),
    in_one_byte false None [] 0x68 (table.imm_quad id) (four_bytes z) refl refl refl refl
        (z, signed4 z (long-fits z h), refl),
    refl,
  ),
)

push-spelled : (s : Source) (at : ℕ) → is_pushed s ≡ true → HasNumbers s → Spells (push s) at (insn.Push s)
push-spelled (source.Reg r) at ok hs = with-opcode-register push_register 0x50 r at (at-50 (low r) (low-below r)) ok
push-spelled (source.Mem m) at ok hs =
    with-quad (λ rm. insn.Push (source_of rm)) 0xFF 6 (place.Mem m) at at-others.3 (lit< tt) ok hs
push-spelled (source.Imm z) at ok hs = go (is_signed_byte z) refl
  where
    go : (t : Bool) → is_signed_byte z ≡ t
        → Spells (cond t (0x6A ∷ byte_bytes z) (0x68 ∷ four_bytes z)) at (insn.Push (source.Imm z))
    go true e = push-byte z at e
    go false e = push-long z at ok

pop-spelled : (p : Place) (at : ℕ) → is_place p ≡ true → HasDisp p → Spells (pop p) at (insn.Pop p)
pop-spelled (place.Reg r) at ok hp = with-opcode-register pop_register 0x58 r at (at-58 (low r) (low-below r)) ok
pop-spelled (place.Mem m) at ok hp = with-quad insn.Pop 0x8F 0 (place.Mem m) at at-others.4 (lit< tt) ok hp

-- ---- arithmetic

alu-immediate : (op : AluOp) (w : Width) (p : Place) (z : ℤ) (at : ℕ) → is_wide w ≡ true → is_place p ≡ true
    → is_immediate w z ≡ true → HasDisp p
    → Spells (arithmetic op w p (source.Imm z)) at (insn.Alu op w p (source.Imm z))
alu-immediate op w p z at wide okp okz hp = go (is_signed_byte (signed_at w z)) refl
  where
    go : (t : Bool) → is_signed_byte (signed_at w z) ≡ t
        → Spells (cond t (Canonical.with_digit w (0x83 ∷ []) (alu_digit op) p ++ byte_bytes (signed_at w z))
        (Canonical.with_digit w (0x81 ∷ []) (alu_digit op) p ++ four_bytes z)) at (insn.Alu op w p (source.Imm z))
    go true e = with-immediate alu_imm ib (insn.Alu op) 0x83 (alu_digit op) w p (byte_bytes (signed_at w z)) z at
        at-others.5 (at-alu op).2 (at-alu op).3 (omega arith) (imm1 w z (wide-not-byte w wide) okz e) wide okp hp
    go false e = with-immediate alu_imm id (insn.Alu op) 0x81 (alu_digit op) w p (four_bytes z) z at at-others.6
        (at-alu op).2 (at-alu op).3 (omega (arith, four-length z)) (imm4 w z (wide-not-byte w wide) okz) wide okp hp

alu-spelled : (op : AluOp) (w : Width) (p : Place) (s : Source) (at : ℕ) → is_wide w ≡ true → is_pair w p s ≡ true
    → HasDisp p → HasNumbers s → Spells (arithmetic op w p s) at (insn.Alu op w p s)
alu-spelled op w (place.Reg d) (source.Reg s) at wide ok hp hs =
    with-rm-reg (λ v rm reg. insn.Alu op v rm (source.Reg reg)) (8 * alu_digit op + 1) w s (place.Reg d) at
    (at-alu op).0 wide (and_parts (is_register d) (is_register s) ok).1
    (and_parts (is_register d) (is_register s) ok).0 tt
alu-spelled op w (place.Mem m) (source.Reg s) at wide ok hp hs =
    with-rm-reg (λ v rm reg. insn.Alu op v rm (source.Reg reg)) (8 * alu_digit op + 1) w s (place.Mem m) at
    (at-alu op).0 wide (and_parts (is_memory m) (is_register s) ok).1
    (and_parts (is_memory m) (is_register s) ok).0 hp
alu-spelled op w (place.Reg d) (source.Mem m) at wide ok hp hs =
    with-reg-rm (λ v reg rm. insn.Alu op v (place.Reg reg) (source_of rm)) (8 * alu_digit op + 3) w d (place.Mem m) at
    (at-alu op).1 wide (and_parts (is_register d) (is_memory m) ok).0
    (and_parts (is_register d) (is_memory m) ok).1 hs
alu-spelled op w (place.Mem n) (source.Mem m) at wide ok hp hs = absurd cc
alu-spelled op w (place.Reg d) (source.Imm z) at wide ok hp hs =
    alu-immediate op w (place.Reg d) z at wide (and_parts (is_register d) (is_immediate w z) ok).0
    (and_parts (is_register d) (is_immediate w z) ok).1 hp
alu-spelled op w (place.Mem m) (source.Imm z) at wide ok hp hs =
    alu-immediate op w (place.Mem m) z at wide (and_parts (is_memory m) (is_immediate w z) ok).0
    (and_parts (is_memory m) (is_immediate w z) ok).1 hp

-- ---- TEST

test-byte : (p : Place) (z : ℤ) (at : ℕ) → is_place p ≡ true → is_immediate Byte z ≡ true → HasDisp p
    → Spells (test_immediate Byte p z) at (insn.«Test» Byte p (source.Imm z))
test-byte (place.Mem m) z at okp okz hp = with-byte (place.Mem m) z at refl okz okp hp
test-byte (place.Reg r) z at okp okz hp = go (needs_rex (place.Reg r)) refl
  where
    go : (t : Bool) → needs_rex (place.Reg r) ≡ t
        → Spells (cond t (0x40 ∷ 0xF6 ∷ Canonical.operand 0 (place.Reg r) ++ byte_bytes z)
        (Canonical.with_digit Byte (0xF6 ∷ []) 0 (place.Reg r) ++ byte_bytes z)) at
        (insn.«Test» Byte (place.Reg r) (source.Imm z))
    go true e = with-rex-byte r z at e okz
    go false e = with-byte (place.Reg r) z at e okz okp hp

test-immediate-spelled : (w : Width) (p : Place) (z : ℤ) (at : ℕ) → is_place p ≡ true → is_immediate w z ≡ true
    → HasDisp p → Spells (test_immediate w p z) at (insn.«Test» w p (source.Imm z))
test-immediate-spelled Byte p z at okp okz hp = test-byte p z at okp okz hp
test-immediate-spelled Long p z at okp okz hp =
    with-immediate (only 0 insn.«Test») id insn.«Test» 0xF7 0 Long p (four_bytes z) z at at-others.2 refl (lit< tt)
    (omega (arith, four-length z)) (imm4 Long z (λ h. absurd cc) okz) refl okp hp
test-immediate-spelled Quad p z at okp okz hp =
    with-immediate (only 0 insn.«Test») id insn.«Test» 0xF7 0 Quad p (four_bytes z) z at at-others.2 refl (lit< tt)
    (omega (arith, four-length z)) (imm4 Quad z (λ h. absurd cc) okz) refl okp hp

test-spelled : (w : Width) (p : Place) (s : Source) (at : ℕ) → is_test w p s ≡ true → HasDisp p
    → Spells (test w p s) at (insn.«Test» w p s)
test-spelled w p (source.Reg s) at ok hp =
    let rest = (and_parts (is_wide w) (is_place p && is_register s) ok).1 in
    with-rm-reg test_rm 0x85 w s p at at-others.1 (and_parts (is_wide w) (is_place p && is_register s) ok).0
    (and_parts (is_place p) (is_register s) rest).1 (and_parts (is_place p) (is_register s) rest).0 hp
test-spelled w p (source.Mem m) at ok hp = absurd cc
test-spelled w p (source.Imm z) at ok hp =
    test-immediate-spelled w p z at (and_parts (is_place p) (is_immediate w z) ok).0
    (and_parts (is_place p) (is_immediate w z) ok).1 hp

-- ---- fixed bytes

fixed-one : (op : ℕ) (i : Insn) (at : ℕ) → lookup op one_byte ≡ Some (plain i) → Spells (op ∷ []) at i
fixed-one op i at look =
    (omega arith, (whole i, in_one_byte false None [] op (plain i) [] refl refl look refl (refl, refl), refl))

fixed-two : (op : ℕ) (i : Insn) (at : ℕ) → lookup op two_byte ≡ Some (plain i) → Spells (0x0F ∷ op ∷ []) at i
fixed-two op i at look =
    (omega arith, (whole i, in_two_bytes false None [] op (plain i) [] refl refl look refl (refl, refl), refl))

fixed-three : (select : ℕ → Option Insn) (op b : ℕ) (i : Insn) (at : ℕ) → lookup op two_byte ≡ Some (last_byte select)
    → b < 256 → select b ≡ Some i → Spells (0x0F ∷ op ∷ b ∷ []) at i
fixed-three select op b i at look small sel = (
  omega arith,
  (
    whole i,
    in_two_bytes false None [] op (last_byte select) (b ∷ []) refl refl look refl
        (record { byte = b; insn = i; tail_is = refl; byte_range = small; selected = sel; draft_is = refl }),
    refl,
  ),
)

-- REX.W alone
abbrev only_w : Rex
only_w = record { w = true; r = false; x = false; b = false }

abbrev system_select : ℕ → Option Insn
system_select b = cond (b == 0xF8) (Some insn.Swapgs)
    (cond (b == 0xCA) (Some insn.Clac) (cond (b == 0xCB) (Some insn.Stac) None))

at-system : lookup 0x01 two_byte ≡ Some (last_byte system_select)
unfolding two_byte
at-system = refl

endbr64-spelled : (at : ℕ) → Spells (0xF3 ∷ 0x0F ∷ 0x1E ∷ 0xFA ∷ []) at insn.Endbr64
unfolding two_byte_f3
endbr64-spelled at = (
  omega arith,
  (
    whole insn.Endbr64,
    after_f3 None [] 0x1E (last_byte (only 0xFA insn.Endbr64)) (0xFA ∷ []) refl refl
        refl refl (record {
          byte = 0xFA;
          insn = insn.Endbr64;
          tail_is = refl;
          byte_range = lit< tt;
          selected =
              refl;
          draft_is = refl;
        }),
    refl,
  ),
)

sysretq-spelled : (at : ℕ) → Spells (0x48 ∷ 0x0F ∷ 0x07 ∷ []) at insn.Sysretq
unfolding two_byte
sysretq-spelled at = (
  omega arith,
  (
    whole insn.Sysretq,
    in_two_bytes false (Some only_w) (0x48 ∷ []) 0x07 (plain_w insn.Sysretq) [] refl
        refl refl refl (refl, refl),
    refl,
  ),
)

iretq-spelled : (at : ℕ) → Spells (0x48 ∷ 0xCF ∷ []) at insn.Iretq
unfolding one_byte
iretq-spelled at = (
  omega arith,
  (
    whole insn.Iretq,
    in_one_byte false (Some only_w) (0x48 ∷ []) 0xCF (plain_w insn.Iretq) [] refl refl refl refl (refl, refl),
    refl,
  ),
)

-- ---- all instructions

gs-off : (b : Bool) → not b ≡ true → b ≡ false
gs-off true h = absurd cc
gs-off false h = refl

pub canonical-spelled : (i : Insn) (at : ℕ) → is_encodable i ≡ true → reaches i at ≡ true → IsTyped i
    → Spells (canonical_bytes i at) at i
unfolding canonical_bytes one_byte two_byte
canonical-spelled insn.Nop at ok near f = fixed-one 0x90 insn.Nop at refl
canonical-spelled insn.Endbr64 at ok near f = endbr64-spelled at
canonical-spelled insn.Lfence at ok near f =
    fixed-three (only 0xE8 insn.Lfence) 0xAE 0xE8 insn.Lfence at refl (lit< tt) refl
canonical-spelled insn.Ud2 at ok near f = fixed-two 0x0B insn.Ud2 at refl
canonical-spelled insn.Cld at ok near f = fixed-one 0xFC insn.Cld at refl
canonical-spelled insn.Clac at ok near f = fixed-three system_select 0x01 0xCA insn.Clac at at-system (lit< tt) refl
canonical-spelled insn.Stac at ok near f = fixed-three system_select 0x01 0xCB insn.Stac at at-system (lit< tt) refl
canonical-spelled insn.Cli at ok near f = fixed-one 0xFA insn.Cli at refl
canonical-spelled insn.Sti at ok near f = fixed-one 0xFB insn.Sti at refl
canonical-spelled insn.Swapgs at ok near f = fixed-three system_select 0x01 0xF8 insn.Swapgs at at-system (lit< tt) refl
canonical-spelled insn.Sysretq at ok near f = sysretq-spelled at
canonical-spelled insn.Iretq at ok near f = iretq-spelled at
canonical-spelled insn.Rdmsr at ok near f = fixed-two 0x32 insn.Rdmsr at refl
canonical-spelled insn.Wrmsr at ok near f = fixed-two 0x30 insn.Wrmsr at refl
canonical-spelled insn.Pushfq at ok near f = fixed-one 0x9C insn.Pushfq at refl
canonical-spelled insn.Popfq at ok near f = fixed-one 0x9D insn.Popfq at refl
canonical-spelled insn.Ret at ok near f = fixed-one 0xC3 insn.Ret at refl
canonical-spelled (insn.ReadCr3 r) at ok near f =
    with-on-register (only 3 insn.ReadCr3) insn.ReadCr3 0x20 3 r at at-registers.0 refl (lit< tt) ok
canonical-spelled (insn.WriteCr3 r) at ok near f =
    with-on-register (only 3 insn.WriteCr3) insn.WriteCr3 0x22 3 r at at-registers.1 refl (lit< tt) ok
canonical-spelled (insn.ReadGs r) at ok near f =
    with-gs-base gs_select insn.ReadGs 1 r at at-registers.2 refl (lit< tt) ok
canonical-spelled (insn.WriteGs r) at ok near f =
    with-gs-base gs_select insn.WriteGs 3 r at at-registers.2 refl (lit< tt) ok
canonical-spelled (insn.Mov w p s) at ok near f =
    mov-spelled w p s at (and_parts (is_wide w) (is_move w p s) ok).0 (and_parts (is_wide w) (is_move w p s) ok).1 f.0
    f.1
canonical-spelled (insn.Lea w r m) at ok near f =
    let one = (and_parts (is_wide w) (is_register r && (not m.gs && is_memory m)) ok).1 in
    let two = (and_parts (is_register r) (not m.gs && is_memory m) one).1 in
    with-address w r m at (and_parts (is_wide w) (is_register r && (not m.gs && is_memory m)) ok).0
    (and_parts (is_register r) (not m.gs && is_memory m) one).0
    (gs-off m.gs (and_parts (not m.gs) (is_memory m) two).0) (and_parts (not m.gs) (is_memory m) two).1 f
canonical-spelled (insn.Xchg w p r) at ok near f =
    let one = (and_parts (is_wide w) (is_place p && is_register r) ok).1 in
    with-rm-reg insn.Xchg 0x87 w r p at at-others.0 (and_parts (is_wide w) (is_place p && is_register r) ok).0
    (and_parts (is_place p) (is_register r) one).1 (and_parts (is_place p) (is_register r) one).0 f
canonical-spelled (insn.Push s) at ok near f = push-spelled s at ok f
canonical-spelled (insn.Pop p) at ok near f = pop-spelled p at ok f
canonical-spelled (insn.Alu op w p s) at ok near f =
    alu-spelled op w p s at (and_parts (is_wide w) (is_pair w p s) ok).0 (and_parts (is_wide w) (is_pair w p s) ok).1
    f.0 f.1
canonical-spelled (insn.«Test» w p s) at ok near f = test-spelled w p s at ok f.0
canonical-spelled (insn.Bit op w p n) at ok near f =
    with-bit op (bit_digit op) w p n at (at-bit op).0 (at-bit op).1 f.1 (and_parts (is_wide w) (is_place p) ok).0
    (and_parts (is_wide w) (is_place p) ok).1 f.0
canonical-spelled (insn.Jcc c target) at ok near f =
    with-branch c target at (at-80 c (ltb-true c 16 ok)) f (long-fits (distance (at + 6) target) near)
canonical-spelled (insn.Jmp target) at ok near f =
    with-jump insn.Jmp 0xE9 target at at-jumps.0 f (long-fits (distance (at + 5) target) near)
canonical-spelled (insn.Call target) at ok near f =
    with-jump insn.Call 0xE8 target at at-jumps.1 f (long-fits (distance (at + 5) target) near)
