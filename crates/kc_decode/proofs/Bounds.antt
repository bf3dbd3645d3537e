-- An instruction without padding has at most fifteen bytes, and what begins a long NOP after its padding asks for at
-- most nine. Both go by the fields: a displacement has at most four bytes, an operand six, a tail ten; omega adds up.
use Rattle.std.proofs.Common.{◌≡◌, ℕ, ◌+◌, ◌≤◌, Bool, true, false, cond, eqb, List, [], ◌∷◌, length, Option, Some, None, ap, arith}
use Rattle.std.proofs.lemmas.List.{length-append}
use Rattle.kc_insn.specs.declared.insn.Place.{Place}
use Rattle.kc_insn.specs.declared.rex.Rex.{Rex}
use Rattle.kc_insn.specs.Fields.{w_bit, IsRex, disp_bytes, no_sib, sib, IsRm, in_register, in_memory, IsOperand, Size, ib, id, size_bytes}
use Rattle.kc_insn.specs.Table.{Form, plain, plain_w, last_byte, opcode_register, register_imm, rm_reg, reg_rm, address, rm_imm, rm_byte_imm, rm_bit, rm_quad, rm_register, rm_register_w, rm_unused, imm_quad, rax_imm, al_imm, relative}
use Rattle.kc_insn.specs.Spells.{Draft, IsTail}
use Rattle.kc_decode.specs.Reading.{mode_field, rm_field, is_rex, rex_of, least_sib, least_operand, least_nop_tail, least_escape, least_nop}
use Rattle.kc_decode.proofs.Drafts.{Opened, one, two}
use Rattle.kc_decode.proofs.AfterF3.{F3Spelled, f3}

disp-small : (mode field : ℕ) → disp_bytes mode field ≤ 4
disp-small mode field = go (eqb mode 0) (eqb mode 1) (eqb field 5)
  where
    go : (a b c : Bool) → cond a (cond c 4 0) (cond b 1 4) ≤ 4
    go true b true = omega arith
    go true b false = omega arith
    go false true c = omega arith
    go false false c = omega arith

-- ---- the least number of bytes of a long NOP

sib-least : (mode : ℕ) (bs : List ℕ) → least_sib mode bs ≤ 4
sib-least mode [] = disp-small mode 0
sib-least mode (s ∷ bs) = disp-small mode (rm_field s)

operand-least : (x : Bool) (bs : List ℕ) → least_operand x bs ≤ 6
operand-least true [] = omega arith
operand-least false [] = omega arith
operand-least x (m ∷ bs) = go (eqb (mode_field m) 3) (eqb (rm_field m) 4)
  where
    a : least_sib (mode_field m) bs ≤ 4
    a = sib-least (mode_field m) bs

    d : disp_bytes (mode_field m) (rm_field m) ≤ 4
    d = disp-small (mode_field m) (rm_field m)

    go : (t u : Bool) → cond t 1 (cond u (2 + least_sib (mode_field m) bs)
        (1 + disp_bytes (mode_field m) (rm_field m))) ≤ 6
    go true u = omega arith
    go false true = omega (arith, a)
    go false false = omega (arith, d)

nop_tail-least : (x : Bool) (bs : List ℕ) → least_nop_tail x bs ≤ 7
nop_tail-least x [] = let k = operand-least x [] in omega (arith, k)
nop_tail-least x (op ∷ bs) = let k = operand-least x bs in omega (arith, k)

escape-least : (x : Bool) (bs : List ℕ) → least_escape x bs ≤ 8
escape-least x [] = let k = nop_tail-least x [] in omega (arith, k)
escape-least x (e ∷ bs) = let k = nop_tail-least x bs in omega (arith, k)

pub nop-least : (bs : List ℕ) → least_nop bs ≤ 9
nop-least [] = omega arith
nop-least (b ∷ bs) = go (is_rex b)
  where
    e : least_escape (rex_of b).x bs ≤ 8
    e = escape-least (rex_of b).x bs

    n : least_nop_tail false bs ≤ 7
    n = nop_tail-least false bs

    go : (t : Bool) → cond t (1 + least_escape (rex_of b).x bs) (1 + least_nop_tail false bs) ≤ 9
    go true = omega (arith, e)
    go false = omega (arith, n)

-- ---- whole spellings

size-small : (size : Size) → size_bytes size ≤ 4
size-small ib = omega arith
size-small id = omega arith

imm-small : (size : Size) (n : ℕ) → n ≡ size_bytes size → n ≤ 4
imm-small size n e = let k = size-small size in omega (arith, k, e)

module _ (gs : Bool) (rex : Option Rex) where
  rm-small : (mode rm : ℕ) (rest : List ℕ) (p : Place) → IsRm gs rex mode rm rest p → length rest ≤ 5
  rm-small mode rm rest p (in_register three g x none is) = omega (arith, ap (λ (l : List ℕ). length l) none)
  rm-small mode rm rest p (in_memory mem below (no_sib disp other x num m) is) = let k = disp-small mode rm in
      omega (arith, num.1.0, k)
  rm-small mode rm rest p (in_memory mem below (sib scale index field more disp four hs hi hf bytes num m) is) =
      let k = disp-small mode field in omega (arith, ap (λ (l : List ℕ). length l) bytes, num.1.0, k)

  operand-small : (n : ℕ) (bs : List ℕ) (p : Place) → IsOperand gs rex n bs p → length bs ≤ 6
  operand-small n bs p o = let k = rm-small o.mode o.rm o.rest p o.operand_is in
      omega (arith, ap (λ (l : List ℕ). length l) o.modrm, k)

  number-small : (t : Bool) (n : ℕ) → n ≡ cond t 8 4 → n ≤ 8
  number-small true n e = omega arith
  number-small false n e = omega arith

  pub tail-small : (form : Form) (tail : List ℕ) (d : Draft) → IsTail form gs rex tail d → length tail ≤ 10
  tail-small (plain i) tail d h = omega (arith, ap (λ (l : List ℕ). length l) h.0)
  tail-small (plain_w i) tail d h = omega (arith, ap (λ (l : List ℕ). length l) h.0)
  tail-small (last_byte select) tail d h = omega (arith, ap (λ (l : List ℕ). length l) h.tail_is)
  tail-small (opcode_register make r) tail d h = omega (arith, ap (λ (l : List ℕ). length l) h.0)
  tail-small (register_imm r) tail d h = let k = number-small (w_bit rex) (length tail) h.1.0 in omega (arith, k)
  tail-small (rm_reg make) tail d h = let k = operand-small h.0 tail h.1 h.2 in omega (arith, k)
  tail-small (reg_rm make) tail d h = let k = operand-small h.0 tail h.1 h.2 in omega (arith, k)
  tail-small address tail d h = let k = operand-small h.0 tail _ h.2 in omega (arith, k)
  tail-small (rm_imm select size) tail d h =
      let k = operand-small h.reg h.rm_bytes h.rm h.operand in
      let i = imm-small size (length h.imm_bytes) h.immediate_is.1.0 in
      omega (arith, k, i, ap (λ (l : List ℕ). length l) h.tail_is, length-append h.rm_bytes h.imm_bytes)
  tail-small rm_byte_imm tail d h =
      let k = operand-small 0 h.rm_bytes h.rm h.operand in
      omega (
        arith,
        k,
        h.immediate_is.1.0,
        ap (λ (l : List ℕ). length l) h.tail_is,
        length-append h.rm_bytes h.imm_bytes,
      )
  tail-small (rm_bit select) tail d h =
      let k = operand-small h.reg h.rm_bytes h.rm h.operand in
      omega (arith, k, h.bit_is.0, ap (λ (l : List ℕ). length l) h.tail_is, length-append h.rm_bytes h.bit_bytes)
  tail-small (rm_quad n make) tail d h = let k = operand-small n tail h.0 h.1 in omega (arith, k)
  tail-small (rm_register select) tail d h = let k = operand-small h.reg tail _ h.operand in omega (arith, k)
  tail-small (rm_register_w select) tail d h = let k = operand-small h.reg tail _ h.operand in omega (arith, k)
  tail-small rm_unused tail d h = let k = operand-small 0 tail h.0 h.1 in omega (arith, k)
  tail-small (imm_quad size) tail d h = let k = imm-small size (length tail) h.1.1.0 in omega (arith, k)
  tail-small rax_imm tail d h = omega (arith, h.1.1.0)
  tail-small al_imm tail d h = omega (arith, h.1.1.0)
  tail-small (relative make size) tail d h = let k = imm-small size (length tail) h.1.1.0 in omega (arith, k)

  rex-small : (bytes : List ℕ) → IsRex bytes rex → length bytes ≤ 1
  rex-small bytes h = go rex h
    where
      go : (r : Option Rex) → IsRex bytes r → length bytes ≤ 1
      go None e = omega (arith, ap (λ (l : List ℕ). length l) e)
      go (Some r) e = omega (arith, ap (λ (l : List ℕ). length l) e)

pub opened-small : (gs : Bool) (bs : List ℕ) (d : Draft) → Opened gs bs d → length bs ≤ 13
opened-small gs bs d (one rex rex_bytes op form tail eq is look fits t) =
    let k = tail-small gs rex form tail d t in let r = rex-small gs rex rex_bytes is in
    omega (arith, k, r, ap (λ (l : List ℕ). length l) eq, length-append rex_bytes (op ∷ tail))
opened-small gs bs d (two rex rex_bytes op form tail eq is look fits t) =
    let k = tail-small gs rex form tail d t in let r = rex-small gs rex rex_bytes is in
    omega (arith, k, r, ap (λ (l : List ℕ). length l) eq, length-append rex_bytes (0x0F ∷ op ∷ tail))

pub f3-small : (bs : List ℕ) (d : Draft) → F3Spelled bs d → length bs ≤ 13
f3-small bs d (f3 rex rex_bytes op form tail eq is look fits t) =
    let k = tail-small false rex form tail d t in let r = rex-small false rex rex_bytes is in
    omega (arith, k, r, ap (λ (l : List ℕ). length l) eq, length-append rex_bytes (0x0F ∷ op ∷ tail))
