-- What stands after an opcode is read exactly as the grammar has it, form by form.
-- A lemma for each kind of form: its reader is put together of an operand, an immediate or a last byte by exact-then
-- and
-- exact-byte, and exact-words turns what these spell into IsTail's words. A form that selects its instruction by the
-- reg
-- field reads the ModRM byte itself, so that an unknown field is refused before the rest is asked for (ByByte goes
-- between the byte and its fields). Each form has some spelling, as exact-byte wants: is_live.
use Rattle.std.proofs.Common.{◌≡◌, ℕ, ◌+◌, ◌*◌, ◌<◌, Bool, true, false, cond, not, ◌&&◌, ◌||◌, eqb, ltb, List, [], ◌∷◌, ◌++◌, replicate, Option, Some, None, Result, Ok, Err, ℤ, pos, refl, sym, ap, subst, ◌∙◌, arith, lit<}
use Rattle.std.specs.Prelude.{is_some, option_map}
use Rattle.std.specs.Int.{w64, cast_signed}
use Rattle.std.proofs.lemmas.Bool.{eqb-true, eqb-false, eq-eqb, ltb-true, lt-ltb, and_parts}
use Rattle.std.proofs.lemmas.List.{append-nil}
use Rattle.kc_words.specs.declared.width.Width.{Width}
use Rattle.kc_words.specs.declared.width.Width.TheVariants.{Byte, Quad}
use Rattle.kc_rules.specs.Rules.{◌>>=◌}
use Rattle.kc_rules.proofs.TestLemmas.{some-is, is-some}
use Rattle.kc_reading.specs.Reading.{Exact, Then, ByteThen, IsNumber, number_at}
use Rattle.kc_reading.proofs.Readers.{exact-none, exact-pure, exact-words, exact-then, exact-byte, exact-map, exact-cases, exact-number}
use Rattle.kc_insn.specs.declared.insn.Insn.{Insn}
use Rattle.kc_insn.specs.declared.insn.Insn.TheVariants as insn
use Rattle.kc_insn.specs.declared.insn.BitOp.{BitOp}
use Rattle.kc_insn.specs.declared.insn.Mem.{Mem}
use Rattle.kc_insn.specs.declared.insn.Reg.{Reg}
use Rattle.kc_insn.specs.declared.insn.Base.TheVariants as base
use Rattle.kc_insn.specs.declared.insn.Place.{Place}
use Rattle.kc_insn.specs.declared.insn.Place.TheVariants as place
use Rattle.kc_insn.specs.declared.insn.Source.{Source}
use Rattle.kc_insn.specs.declared.insn.Source.TheVariants as source
use Rattle.kc_insn.specs.declared.rex.Rex.{Rex}
use Rattle.kc_insn.specs.Fields.{w_bit, r_bit, x_bit, b_bit, register, extended, width_of, signed, IsSigned, Size, ib, id, size_bytes, immediate, IsImmediate, base_of, index_of, IsMemory, sib, IsRm, in_register, in_memory, IsOperand}
use Rattle.kc_insn.specs.Table.{Form, plain, plain_w, last_byte, opcode_register, register_imm, rm_reg, reg_rm, address, rm_imm, rm_byte_imm, rm_bit, rm_quad, rm_register, rm_register_w, rm_unused, imm_quad, rax_imm, al_imm, relative}
use Rattle.kc_insn.specs.Spells.{has_rm, has_reg, has_register, has_access, has_width, needs_w, permits, permits_rex, Draft, whole, jump, IsLowByte, HasRegister, IsTail}
use Rattle.kc_decode.specs.declared.fault.DraftFault.{DraftFault}
use Rattle.kc_decode.specs.declared.fault.DraftFault.TheVariants.{Short, Unknown}
use Rattle.kc_decode.specs.Reading.{is_short, mode_field, reg_field, rm_field, disp_at, memory_at, rm_at, takes_modrm, operand_at, imm_at, made, rm_imm_at, rm_bit_at, register_at, tail_at}
use Rattle.kc_decode.proofs.Operands.{exact-disp, exact-imm, exact-memory, exact-rm, exact-operand, Taken, SomeOperand, fields-of, fields-back, zero_number, IsNumber-zeros}

-- ---- which forms begin something

-- some value of its field selects an instruction
abbrev pub is_live : Form → Bool
is_live (last_byte select) = is_some (select 0xF8) || (is_some (select 0xE8) || is_some (select 0xFA))
is_live (rm_imm select size) = is_some (select 0)
is_live (rm_bit select) = is_some (select 4)
is_live (rm_quad n make) = ltb n 8
is_live (rm_register select) = is_some (select 3)
is_live (rm_register_w select) = is_some (select 1)
is_live form = true

-- a memory operand that stands under all prefixes: a SIB byte 0
module _ (gs : Bool) (rex : Option Rex) where
  abbrev pub zero_mem : Mem
  zero_mem = record {
    gs = gs;
    base = base_of base.Absent rex 0 0;
    index = index_of rex 0 0;
    disp =
        signed 0 (zero_number 0);
  }

  zero-memory : IsMemory gs rex 0 4 (0 ∷ []) zero_mem
  zero-memory =
      sib 0 0 0 [] (signed 0 (zero_number 0)) refl (lit< tt) (lit< tt) (lit< tt) refl
      (zero_number 0, IsNumber-zeros 0, refl) refl

  zero-rm : IsRm gs rex 0 4 (0 ∷ []) (place.Mem zero_mem)
  zero-rm = in_memory zero_mem (lit< tt) zero-memory refl

  abbrev memory_operand : (form : Form) (n : ℕ) → n < 8 → takes_modrm form rex 0 n 4 ≡ true → SomeOperand gs rex form
  memory_operand form n lt takes = (0, n, 4, 0 ∷ [], place.Mem zero_mem, lit< tt, lt, lit< tt, takes, zero-rm)

  -- one that is spelled, with an immediate after it
  pub zero-operand : (n : ℕ) → n < 8 → IsOperand gs rex n ((8 * n + 4) ∷ 0 ∷ []) (place.Mem zero_mem)
  zero-operand n lt = record {
    mode = 0;
    rm = 4;
    rest = 0 ∷ [];
    mode_range = lit< tt;
    reg_range = lt;
    rm_range =
        lit< tt;
    modrm = ap (λ (k : ℕ). k ∷ 0 ∷ []) (omega arith);
    operand_is = zero-rm;
  }

  -- ---- what is made of what was read

  -- an operand alone
  module _ (form : Form) (some : SomeOperand gs rex form) where
    pub with-operand : (make : ℕ × Place → Draft)
        → Exact is_short (λ bs. operand_at form gs rex bs >>= λ o. Ok (make o.0, o.1))
        (λ bs d. (x : ℕ × Place) × Taken gs rex form bs x × (d ≡ make x))
    with-operand make = exact-map is_short (operand_at form gs rex) (Taken gs rex form) make
        (exact-operand gs rex form some)

    -- an operand, and after it what always goes on
    pub operand-then : {A : Type 0} (read : List ℕ → Result (A × List ℕ) DraftFault) (S : List ℕ → A → Type 0)
        → Exact is_short read S → (back : List ℕ) (y : A) → S back y
        → (f : ℕ × Place → A → List ℕ → Result (Draft × List ℕ) DraftFault)
        (T : ℕ × Place → A → List ℕ → Draft → Type 0)
        → ((x : ℕ × Place) → (front : List ℕ) → Taken gs rex form front x → (a : A) → Exact is_short (f x a) (T x a))
        → ((x : ℕ × Place) → (front : List ℕ) → Taken gs rex form front x → (a : A) → (d : Draft) × T x a [] d)
        → Exact is_short (λ bs. operand_at form gs rex bs >>= λ o. read o.1 >>= λ z. f o.0 z.0 z.1)
        (Then (Taken gs rex form) (λ x. Then S (T x)))
    operand-then {A} read S ex back y spelt f T ex2 live =
        exact-then is_short (operand_at form gs rex) (λ x bs. read bs >>= λ z. f x z.0 z.1) (Taken gs rex form)
        (λ x. Then S (T x))
        (exact-operand gs rex form some)
        (λ front x taken. exact-then is_short read (f x) S (T x) ex (λ front2 a s. ex2 x front taken a)
        (λ bs e fits h s.
        let c = ex.completes bs e fits h s in
        let l = live x front taken c.1 in
        (c.0, c.1, [], l.0, c.2, c.3, l.1)))
        (λ bs e fits h s.
        let c = (exact-operand gs rex form some).completes bs e fits h s in
        let l = live c.1 (bs ++ c.0) c.3 y in
        (c.0, c.1, back, l.0, c.2, c.3, (y, back, [], spelt, l.1, sym (append-nil back))))

-- where an instruction is selected
exact-made : {A : Type 0} (o : Option A) (f : A → Insn)
    → Exact is_short (made (option_map f o)) (λ bs d. (x : A) × (o ≡ Some x) × (bs ≡ []) × (d ≡ whole (f x)))
exact-made (Some x) f =
    exact-words is_short (made (Some (f x))) (λ bs d. (bs ≡ []) × (d ≡ whole (f x)))
    (λ bs d. (y : _) × (Some x ≡ Some y) × (bs ≡ []) × (d ≡ whole (f y)))
    (exact-pure is_short (whole (f x))) (λ bs d h. (x, refl, h.0, h.1))
    (λ bs d h. (h.2, h.3 ∙ ap (λ y. whole (f y)) (let e : h.0 ≡ x = cc in e)))
exact-made None f =
    exact-words is_short (made None) (λ bs d. ⊥) (λ bs d. (y : _) × (None ≡ Some y) × (bs ≡ []) × (d ≡ whole (f y)))
    (exact-none is_short Unknown refl)
    (λ bs d h. absurd h) (λ bs d h. absurd cc)

-- ---- forms without a ModRM byte

exact-plain : (gs : Bool) (rex : Option Rex) (i : Insn)
    → Exact is_short (tail_at (plain i) gs rex) (IsTail (plain i) gs rex)
unfolding tail_at
exact-plain gs rex i = exact-pure is_short (whole i)

exact-plain_w : (gs : Bool) (rex : Option Rex) (i : Insn)
    → Exact is_short (tail_at (plain_w i) gs rex) (IsTail (plain_w i) gs rex)
unfolding tail_at
exact-plain_w gs rex i = exact-pure is_short (whole i)

-- some last byte that is selected
some-last : (select : ℕ → Option Insn) → is_live (last_byte select) ≡ true → (b : ℕ) × (i : Insn) × (b < 256)
    × (select b ≡ Some i)
some-last select live = go (select 0xF8) (select 0xE8) (select 0xFA) refl refl refl live
  where
    go : (x y z : Option Insn) → select 0xF8 ≡ x → select 0xE8 ≡ y → select 0xFA ≡ z
        → (is_some x || (is_some y || is_some z)) ≡ true → (b : ℕ) × (i : Insn) × (b < 256) × (select b ≡ Some i)
    go (Some i) y z ex ey ez h = (0xF8, i, lit< tt, ex)
    go None (Some i) z ex ey ez h = (0xE8, i, lit< tt, ey)
    go None None (Some i) ex ey ez h = (0xFA, i, lit< tt, ez)
    go None None None ex ey ez h = absurd cc

exact-made-plain : (o : Option Insn)
    → Exact is_short (made o) (λ bs d. (i : Insn) × (o ≡ Some i) × (bs ≡ []) × (d ≡ whole i))
exact-made-plain (Some x) =
    exact-words is_short (made (Some x)) (λ bs d. (bs ≡ []) × (d ≡ whole x))
    (λ bs d. (y : Insn) × (Some x ≡ Some y) × (bs ≡ []) × (d ≡ whole y))
    (exact-pure is_short (whole x)) (λ bs d h. (x, refl, h.0, h.1))
    (λ bs d h. (h.2, h.3 ∙ ap whole (let e : h.0 ≡ x = cc in e)))
exact-made-plain None =
    exact-words is_short (made None) (λ bs d. ⊥) (λ bs d. (y : Insn) × (None ≡ Some y) × (bs ≡ []) × (d ≡ whole y))
    (exact-none is_short Unknown refl)
    (λ bs d h. absurd h) (λ bs d h. absurd cc)

exact-last_byte : (gs : Bool) (rex : Option Rex) (select : ℕ → Option Insn) → is_live (last_byte select) ≡ true
    → Exact is_short (tail_at (last_byte select) gs rex) (IsTail (last_byte select) gs rex)
unfolding tail_at
exact-last_byte gs rex select live =
    let T : ℕ → List ℕ → Draft → Type 0 = λ b bs d. (i : Insn) × (select b ≡ Some i) × (bs ≡ []) × (d ≡ whole i) in
    let some = some-last select live in
    exact-words is_short (tail_at (last_byte select) gs rex) (ByteThen T) (IsTail (last_byte select) gs rex)
    (exact-byte is_short Short refl (λ b bs. made (select b) bs) T (λ b fits. exact-made-plain (select b))
    (some.0, [], whole some.1, some.2, (some.1, some.3, refl, refl)))
    (λ bs d h. record {
      byte = h.0;
      insn = h.3.0;
      tail_is = h.4 ∙ ap (λ (t : List ℕ). h.0 ∷ t) h.3.2;
      byte_range = h.2;
      selected =
          h.3.1;
      draft_is = h.3.3;
    })
    (λ bs d h. (h.byte, [], h.byte_range, (h.insn, h.selected, refl, h.draft_is), h.tail_is))

exact-opcode_register : (gs : Bool) (rex : Option Rex) (make : Reg → Insn) (r : ℕ)
    → Exact is_short (tail_at (opcode_register make r) gs rex) (IsTail (opcode_register make r) gs rex)
unfolding tail_at
exact-opcode_register gs rex make r = exact-pure is_short (whole (make (extended (b_bit rex) r)))

exact-register_imm : (gs : Bool) (rex : Option Rex) (r : ℕ)
    → Exact is_short (tail_at (register_imm r) gs rex) (IsTail (register_imm r) gs rex)
unfolding tail_at
exact-register_imm gs rex r =
    exact-map is_short (number_at Short (cond (w_bit rex) 8 4)) (IsNumber (cond (w_bit rex) 8 4))
    (λ (v : ℕ). whole (insn.Mov (width_of rex) (place.Reg (extended (b_bit rex) r))
    (source.Imm (cond (w_bit rex) (cast_signed w64 v) (pos v)))))
    (exact-number is_short Short refl (cond (w_bit rex) 8 4))

exact-imm_quad : (gs : Bool) (rex : Option Rex) (size : Size)
    → Exact is_short (tail_at (imm_quad size) gs rex) (IsTail (imm_quad size) gs rex)
unfolding tail_at
exact-imm_quad gs rex size =
    exact-map is_short (imm_at Quad size) (IsImmediate Quad size) (λ (z : ℤ). whole (insn.Push (source.Imm z)))
    (exact-imm Quad size)

exact-rax_imm : (gs : Bool) (rex : Option Rex) → Exact is_short (tail_at rax_imm gs rex) (IsTail rax_imm gs rex)
unfolding tail_at
exact-rax_imm gs rex =
    exact-map is_short (imm_at (width_of rex) id) (IsImmediate (width_of rex) id)
    (λ (z : ℤ). whole (insn.«Test» (width_of rex) (place.Reg (register 0)) (source.Imm z)))
    (exact-imm (width_of rex) id)

exact-al_imm : (gs : Bool) (rex : Option Rex) → Exact is_short (tail_at al_imm gs rex) (IsTail al_imm gs rex)
unfolding tail_at
exact-al_imm gs rex =
    exact-map is_short (imm_at Byte ib) (IsImmediate Byte ib)
    (λ (z : ℤ). whole (insn.«Test» Byte (place.Reg (register 0)) (source.Imm z))) (exact-imm Byte ib)

exact-relative : (gs : Bool) (rex : Option Rex) (make : ℕ → Insn) (size : Size)
    → Exact is_short (tail_at (relative make size) gs rex) (IsTail (relative make size) gs rex)
unfolding tail_at
exact-relative gs rex make size =
    exact-map is_short (disp_at (size_bytes size)) (IsSigned (size_bytes size)) (jump make)
    (exact-disp (size_bytes size))

-- ---- forms with a ModRM byte

exact-rm_reg : (gs : Bool) (rex : Option Rex) (make : Width → Place → Reg → Insn)
    → Exact is_short (tail_at (rm_reg make) gs rex) (IsTail (rm_reg make) gs rex)
unfolding tail_at
exact-rm_reg gs rex make =
    let g : ℕ × Place → Draft = λ o. whole (make (width_of rex) o.1 (extended (r_bit rex) o.0)) in
    exact-words is_short (tail_at (rm_reg make) gs rex)
    (λ bs d. (x : ℕ × Place) × Taken gs rex (rm_reg make) bs x × (d ≡ g x)) (IsTail (rm_reg make) gs rex)
    (with-operand gs rex (rm_reg make) (memory_operand gs rex (rm_reg make) 0 (lit< tt) refl) g)
    (λ bs d h. (h.0.0, h.0.1, h.1.0, h.2)) (λ bs d h. ((h.0, h.1), (h.2, refl), h.3))

exact-reg_rm : (gs : Bool) (rex : Option Rex) (make : Width → Reg → Place → Insn)
    → Exact is_short (tail_at (reg_rm make) gs rex) (IsTail (reg_rm make) gs rex)
unfolding tail_at
exact-reg_rm gs rex make =
    let g : ℕ × Place → Draft = λ o. whole (make (width_of rex) (extended (r_bit rex) o.0) o.1) in
    exact-words is_short (tail_at (reg_rm make) gs rex)
    (λ bs d. (x : ℕ × Place) × Taken gs rex (reg_rm make) bs x × (d ≡ g x)) (IsTail (reg_rm make) gs rex)
    (with-operand gs rex (reg_rm make) (memory_operand gs rex (reg_rm make) 0 (lit< tt) refl) g)
    (λ bs d h. (h.0.0, h.0.1, h.1.0, h.2)) (λ bs d h. ((h.0, h.1), (h.2, refl), h.3))

exact-rm_quad : (gs : Bool) (rex : Option Rex) (n : ℕ) (make : Place → Insn) → is_live (rm_quad n make) ≡ true
    → Exact is_short (tail_at (rm_quad n make) gs rex) (IsTail (rm_quad n make) gs rex)
unfolding tail_at
exact-rm_quad gs rex n make live =
    let g : ℕ × Place → Draft = λ o. whole (make o.1) in
    exact-words is_short (tail_at (rm_quad n make) gs rex)
    (λ bs d. (x : ℕ × Place) × Taken gs rex (rm_quad n make) bs x × (d ≡ g x)) (IsTail (rm_quad n make) gs rex)
    (with-operand gs rex (rm_quad n make) (memory_operand gs rex (rm_quad n make) n (ltb-true n 8 live)
    (eq-eqb n n refl)) g)
    (λ bs d h. (h.0.1, subst (λ (k : ℕ). IsOperand gs rex k bs h.0.1) (eqb-true h.0.0 n h.1.1) h.1.0, h.2))
    (λ bs d h. ((n, h.0), (h.1, eq-eqb n n refl), h.2))

pub exact-rm_unused : (gs : Bool) (rex : Option Rex)
    → Exact is_short (tail_at rm_unused gs rex) (IsTail rm_unused gs rex)
unfolding tail_at
exact-rm_unused gs rex =
    let g : ℕ × Place → Draft = λ o. whole insn.Nop in
    exact-words is_short (tail_at rm_unused gs rex) (λ bs d. (x : ℕ × Place) × Taken gs rex rm_unused bs x × (d ≡ g x))
    (IsTail rm_unused gs rex)
    (with-operand gs rex rm_unused (memory_operand gs rex rm_unused 0 (lit< tt) refl) g)
    (λ bs d h. (h.0.1, subst (λ (k : ℕ). IsOperand gs rex k bs h.0.1) (eqb-true h.0.0 0 h.1.1) h.1.0, h.2))
    (λ bs d h. ((0, h.0), (h.1, refl), h.2))

not-three : (m : ℕ) → m < 3 → not (eqb m 3) ≡ true
not-three m below = go (eqb m 3) refl
  where
    go : (b : Bool) → eqb m 3 ≡ b → not b ≡ true
    go true e = let three : m ≡ 3 = eqb-true m 3 e in absurd (omega arith)
    go false e = refl

-- an address: the operand lies in memory
module _ (gs : Bool) (rex : Option Rex) where
  in-memory : (n : ℕ) (bs : List ℕ) (mem : Mem) (o : IsOperand gs rex n bs (place.Mem mem)) → not (eqb o.mode 3) ≡ true
  in-memory n bs mem o = go o.operand_is
    where
      go : IsRm gs rex o.mode o.rm o.rest (place.Mem mem) → not (eqb o.mode 3) ≡ true
      go (in_register three g x none is) = absurd cc
      go (in_memory m below h is) = not-three o.mode below

  in-a-register : (n : ℕ) (bs : List ℕ) (r : Reg) (o : IsOperand gs rex n bs (place.Reg r)) → eqb o.mode 3 ≡ true
  in-a-register n bs r o = go o.operand_is
    where
      go : IsRm gs rex o.mode o.rm o.rest (place.Reg r) → eqb o.mode 3 ≡ true
      go (in_register three g x none is) = eq-eqb o.mode 3 three
      go (in_memory m below h is) = absurd cc

-- a ModRM byte and what belongs to its operand, by the byte and not by its fields
record ByByte (gs : Bool) (rex : Option Rex) (n : ℕ) (bs : List ℕ) (p : Place) : Type 0 where
  byte : ℕ
  back : List ℕ
  range : byte < 256
  reg_is : reg_field byte ≡ n
  operand_is : IsRm gs rex (mode_field byte) (rm_field byte) back p
  bytes_are : bs ≡ byte ∷ back

below-three : (k : ℕ) → k < 4 → eqb k 3 ≡ false → k < 3
below-three k range e = let other : k ≡ 3 → ⊥ = eqb-false k 3 e in omega (arith, range)

isnt-three : (k : ℕ) → k < 3 → eqb k 3 ≡ false
isnt-three k below = go (eqb k 3) refl
  where
    go : (b : Bool) → eqb k 3 ≡ b → b ≡ false
    go true e = let three : k ≡ 3 = eqb-true k 3 e in absurd (omega arith)
    go false e = refl

module _ (gs : Bool) (rex : Option Rex) where
  operand-from : (m : ℕ) → m < 256 → (back : List ℕ) (p : Place) → IsRm gs rex (mode_field m) (rm_field m) back p
      → IsOperand gs rex (reg_field m) (m ∷ back) p
  operand-from m fits back p h =
      let f = fields-of m fits in record {
        mode = mode_field m;
        rm = rm_field m;
        rest = back;
        mode_range = f.1;
        reg_range = f.2;
        rm_range = f.3;
        modrm = ap (λ (k : ℕ). k ∷ back) f.0;
        operand_is = h;
      }

  by-byte : (n : ℕ) (bs : List ℕ) (p : Place) → IsOperand gs rex n bs p → ByByte gs rex n bs p
  by-byte n bs p o =
      let m : ℕ = 64 * o.mode + 8 * n + o.rm in
      let f = fields-back o.mode n o.rm o.mode_range o.reg_range o.rm_range in
      let rm1 : IsRm gs rex (mode_field m) o.rm o.rest p =
      subst (λ (k : ℕ). IsRm gs rex k o.rm o.rest p) (sym f.0) o.operand_is in
      let rm2 : IsRm gs rex (mode_field m) (rm_field m) o.rest p =
      subst (λ (k : ℕ). IsRm gs rex (mode_field m) k o.rest p) (sym f.2) rm1 in
      record { byte = m; back = o.rest; range = f.3; reg_is = f.1; operand_is = rm2; bytes_are = o.modrm }

  memory-of : (mode rm : ℕ) (back : List ℕ) (mem : Mem) → IsRm gs rex mode rm back (place.Mem mem)
      → (eqb mode 3 ≡ false) × IsMemory gs rex mode rm back mem
  memory-of mode rm back mem (in_register three g x none is) = absurd cc
  memory-of mode rm back mem (in_memory m below k is) =
      let same : mem ≡ m = cc in
      (isnt-three mode below, subst (λ (t : Mem). IsMemory gs rex mode rm back t) (sym same) k)

  register-of : (mode rm : ℕ) (back : List ℕ) (r : Reg) → IsRm gs rex mode rm back (place.Reg r)
      → (eqb mode 3 ≡ true) × (back ≡ []) × (r ≡ extended (b_bit rex) rm)
  register-of mode rm back r (in_register three g x none is) = (eq-eqb mode 3 three, none, cc)
  register-of mode rm back r (in_memory m below k is) = absurd cc

  abbrev lea : ℕ → Mem → Draft
  lea m mem = whole (insn.Lea (width_of rex) (extended (r_bit rex) (reg_field m)) mem)

  abbrev LeaTail : ℕ → List ℕ → Draft → Type 0
  LeaTail m bs d = (eqb (mode_field m) 3 ≡ false)
      × ((mem : Mem) × IsMemory gs rex (mode_field m) (rm_field m) bs mem × (d ≡ lea m mem))

  lea_after : ℕ → List ℕ → Result (Draft × List ℕ) DraftFault
  lea_after m bs =
      cond (eqb (mode_field m) 3) (Err Unknown)
      (memory_at gs rex (mode_field m) (rm_field m) bs >>= λ x. Ok (lea m x.0, x.1))

  exact-lea_after : (m : ℕ) → Exact is_short (lea_after m) (LeaTail m)
  unfolding lea_after
  exact-lea_after m =
      let S : List ℕ → Mem → Type 0 = IsMemory gs rex (mode_field m) (rm_field m) in
      let read : List ℕ → Result (Draft × List ℕ) DraftFault =
      λ bs. memory_at gs rex (mode_field m) (rm_field m) bs >>= λ x. Ok (lea m x.0, x.1) in
      exact-cases is_short (eqb (mode_field m) 3) (λ bs. Err Unknown) read (LeaTail m)
      (λ e. exact-words is_short (λ bs. Err Unknown) (λ bs d. ⊥) (LeaTail m) (exact-none is_short Unknown refl)
      (λ bs d h. absurd h) (λ bs d h. let clash : true ≡ false = sym e ∙ h.0 in cc))
      (λ e. exact-words is_short read (λ bs d. (mem : Mem) × S bs mem × (d ≡ lea m mem)) (LeaTail m)
      (exact-map is_short (memory_at gs rex (mode_field m) (rm_field m)) S (lea m)
      (exact-memory gs rex (mode_field m) (rm_field m)))
      (λ bs d h. (e, h)) (λ bs d h. h.1))

  exact-address : Exact is_short (tail_at address gs rex) (IsTail address gs rex)
  unfolding tail_at lea_after
  exact-address =
      exact-words is_short (tail_at address gs rex) (ByteThen LeaTail) (IsTail address gs rex)
      (exact-byte is_short Short refl lea_after LeaTail (λ m fits. exact-lea_after m)
      (4, 0 ∷ [], lea 4 (zero_mem gs rex), lit< tt, (refl, (zero_mem gs rex, zero-memory gs rex, refl))))
      (λ bs d h.
      let mem = h.3.1.0 in
      let below = below-three (mode_field h.0) (fields-of h.0 h.2).1 h.3.0 in
      let o : IsOperand gs rex (reg_field h.0) (h.0 ∷ h.1) (place.Mem mem) =
      operand-from h.0 h.2 h.1 (place.Mem mem) (in_memory mem below h.3.1.1 refl) in (
        reg_field h.0,
        mem,
        subst (λ (t : List ℕ). IsOperand gs rex (reg_field h.0) t (place.Mem mem)) (sym h.4) o,
        h.3.1.2,
      ))
      (λ bs d h.
      let o = by-byte h.0 bs (place.Mem h.1) h.2 in
      let m = memory-of (mode_field o.byte) (rm_field o.byte) o.back h.1 o.operand_is in
      let made : d ≡ lea o.byte h.1 =
      h.3 ∙ ap (λ (k : ℕ). whole (insn.Lea (width_of rex) (extended (r_bit rex) k) h.1)) (sym o.reg_is) in
      (o.byte, o.back, o.range, (m.0, (h.1, m.1, made)), o.bytes_are))

-- ---- forms with an immediate after the operand

module _ (gs : Bool) (rex : Option Rex) where
  -- an immediate after the operand of the ModRM byte m
  module _ (size : Size) where
    abbrev zero_imm : ℤ
    zero_imm = immediate (width_of rex) size (zero_number (size_bytes size))

    zero-imm : IsImmediate (width_of rex) size (replicate (size_bytes size) 0) zero_imm
    zero-imm = (zero_number (size_bytes size), IsNumber-zeros (size_bytes size), refl)

    abbrev ImmAfter : (Width → Place → Source → Insn) → Place → List ℕ → Draft → Type 0
    ImmAfter make p bs d = (z : ℤ) × IsImmediate (width_of rex) size bs z
        × (d ≡ whole (make (width_of rex) p (source.Imm z)))

    abbrev RmImm : (Width → Place → Source → Insn) → ℕ → List ℕ → Draft → Type 0
    RmImm make m = Then (IsRm gs rex (mode_field m) (rm_field m)) (ImmAfter make)

    abbrev ImmTail : Option (Width → Place → Source → Insn) → ℕ → List ℕ → Draft → Type 0
    ImmTail o m bs d = (make : Width → Place → Source → Insn) × (o ≡ Some make) × RmImm make m bs d

    exact-rm_imm_at : (o : Option (Width → Place → Source → Insn)) (m : ℕ) → m < 256
        → Exact is_short (rm_imm_at o size gs rex m) (ImmTail o m)
    exact-rm_imm_at None m fits =
        exact-words is_short (rm_imm_at None size gs rex m) (λ bs d. ⊥) (ImmTail None m)
        (exact-none is_short Unknown refl)
        (λ bs d h. absurd h) (λ bs d h. absurd cc)
    exact-rm_imm_at (Some make) m fits =
        let ex = exact-rm gs rex (mode_field m) (rm_field m) (fields-of m fits).1 in
        exact-words is_short (rm_imm_at (Some make) size gs rex m) (RmImm make m) (ImmTail (Some make) m)
        (exact-then is_short (rm_at gs rex (mode_field m) (rm_field m))
        (λ p bs. imm_at (width_of rex) size bs >>= λ z. Ok (whole (make (width_of rex) p (source.Imm z.0)), z.1))
        (IsRm gs rex (mode_field m) (rm_field m)) (ImmAfter make) ex
        (λ front p s. exact-map is_short (imm_at (width_of rex) size) (IsImmediate (width_of rex) size)
        (λ (z : ℤ). whole (make (width_of rex) p (source.Imm z))) (exact-imm (width_of rex) size))
        (λ bs e fits h s.
        let c = ex.completes bs e fits h s in (
          c.0,
          c.1,
          replicate (size_bytes size) 0,
          whole (make (width_of rex) c.1 (source.Imm zero_imm)),
          c.2,
          c.3,
          (zero_imm, zero-imm, refl),
        )))
        (λ bs d h. (make, refl, h))
        (λ bs d h.
        let same : h.0 ≡ make = cc in
        subst (λ (f : Width → Place → Source → Insn). RmImm f m bs d) same h.2)

  exact-rm_imm : (select : ℕ → Option (Width → Place → Source → Insn)) (size : Size)
      → is_live (rm_imm select size) ≡ true
      → Exact is_short (tail_at (rm_imm select size) gs rex) (IsTail (rm_imm select size) gs rex)
  unfolding tail_at
  exact-rm_imm select size live =
      let T : ℕ → List ℕ → Draft → Type 0 = λ m. ImmTail size (select (reg_field m)) m in
      let some = some-is (select 0) live in
      let zero : ImmAfter size some.0 (place.Mem (zero_mem gs rex)) (replicate (size_bytes size) 0)
      (whole (some.0 (width_of rex) (place.Mem (zero_mem gs rex)) (source.Imm (zero_imm size)))) =
      (zero_imm size, zero-imm size, refl) in
      exact-words is_short (tail_at (rm_imm select size) gs rex) (ByteThen T) (IsTail (rm_imm select size) gs rex)
      (exact-byte is_short Short refl (λ m bs. rm_imm_at (select (reg_field m)) size gs rex m bs) T
      (λ m fits. exact-rm_imm_at size (select (reg_field m)) m fits) (
        4,
        (0 ∷ []) ++ replicate (size_bytes size) 0,
        _,
        lit< tt,
        (
          some.0,
          some.1,
          (
            place.Mem (zero_mem gs rex),
            0 ∷ [],
            replicate (size_bytes size) 0,
            zero-rm gs rex,
            zero,
            refl,
          ),
        ),
      ))
      (λ bs d h.
      let t = h.3.2 in record {
        reg = reg_field h.0;
        make = h.3.0;
        rm = t.0;
        rm_bytes = h.0 ∷ t.1;
        imm_bytes = t.2;
        value = t.4.0;
        tail_is = h.4 ∙ ap (λ (l : List ℕ). h.0 ∷ l) t.5;
        selected = h.3.1;
        operand = operand-from gs rex h.0 h.2 t.1 t.0 t.3;
        immediate_is = t.4.1;
        draft_is = t.4.2;
      })
      (λ bs d h.
      let o = by-byte gs rex h.reg h.rm_bytes h.rm h.operand in
      let sel : select (reg_field o.byte) ≡ Some h.make = ap select o.reg_is ∙ h.selected in (
        o.byte,
        o.back ++ h.imm_bytes,
        o.range,
        (h.make, sel, (h.rm, o.back, h.imm_bytes, o.operand_is, (h.value, h.immediate_is, h.draft_is), refl)),
        h.tail_is ∙ ap (λ (l : List ℕ). l ++ h.imm_bytes) o.bytes_are,
      ))

  -- the number of a bit after the operand of the ModRM byte m
  abbrev BitAfter : BitOp → Place → List ℕ → Draft → Type 0
  BitAfter op p bs d = (v : ℕ) × IsNumber 1 bs v × (d ≡ whole (insn.Bit op (width_of rex) p v))

  abbrev RmBit : BitOp → ℕ → List ℕ → Draft → Type 0
  RmBit op m = Then (IsRm gs rex (mode_field m) (rm_field m)) (BitAfter op)

  abbrev BitTail : Option BitOp → ℕ → List ℕ → Draft → Type 0
  BitTail o m bs d = (op : BitOp) × (o ≡ Some op) × RmBit op m bs d

  exact-rm_bit_at : (o : Option BitOp) (m : ℕ) → m < 256 → Exact is_short (rm_bit_at o gs rex m) (BitTail o m)
  exact-rm_bit_at None m fits =
      exact-words is_short (rm_bit_at None gs rex m) (λ bs d. ⊥) (BitTail None m) (exact-none is_short Unknown refl)
      (λ bs d h. absurd h) (λ bs d h. absurd cc)
  exact-rm_bit_at (Some op) m fits =
      let ex = exact-rm gs rex (mode_field m) (rm_field m) (fields-of m fits).1 in
      exact-words is_short (rm_bit_at (Some op) gs rex m) (RmBit op m) (BitTail (Some op) m)
      (exact-then is_short (rm_at gs rex (mode_field m) (rm_field m))
      (λ p bs. number_at Short 1 bs >>= λ v. Ok (whole (insn.Bit op (width_of rex) p v.0), v.1))
      (IsRm gs rex (mode_field m) (rm_field m)) (BitAfter op) ex
      (λ front p s. exact-map is_short (number_at Short 1) (IsNumber 1)
      (λ (v : ℕ). whole (insn.Bit op (width_of rex) p v))
      (exact-number is_short Short refl 1))
      (λ bs e fits h s.
      let c = ex.completes bs e fits h s in (
        c.0,
        c.1,
        replicate 1 0,
        whole (insn.Bit op (width_of rex) c.1 (zero_number 1)),
        c.2,
        c.3,
        (zero_number 1, IsNumber-zeros 1, refl),
      )))
      (λ bs d h. (op, refl, h))
      (λ bs d h.
      let same : h.0 ≡ op = cc in
      subst (λ (f : BitOp). RmBit f m bs d) same h.2)

  exact-rm_bit : (select : ℕ → Option BitOp) → is_live (rm_bit select) ≡ true
      → Exact is_short (tail_at (rm_bit select) gs rex) (IsTail (rm_bit select) gs rex)
  unfolding tail_at
  exact-rm_bit select live =
      let T : ℕ → List ℕ → Draft → Type 0 = λ m. BitTail (select (reg_field m)) m in
      let some = some-is (select 4) live in
      let zero : BitAfter some.0 (place.Mem (zero_mem gs rex)) (replicate 1 0)
      (whole (insn.Bit some.0 (width_of rex) (place.Mem (zero_mem gs rex)) (zero_number 1))) =
      (zero_number 1, IsNumber-zeros 1, refl) in
      exact-words is_short (tail_at (rm_bit select) gs rex) (ByteThen T) (IsTail (rm_bit select) gs rex)
      (exact-byte is_short Short refl (λ m bs. rm_bit_at (select (reg_field m)) gs rex m bs) T
      (λ m fits. exact-rm_bit_at (select (reg_field m)) m fits) (
        36,
        (0 ∷ []) ++ replicate 1 0,
        _,
        lit< tt,
        (some.0, some.1, (place.Mem (zero_mem gs rex), 0 ∷ [], replicate 1 0, zero-rm gs rex, zero, refl)),
      ))
      (λ bs d h.
      let t = h.3.2 in record {
        reg = reg_field h.0;
        op = h.3.0;
        rm = t.0;
        rm_bytes = h.0 ∷ t.1;
        bit_bytes = t.2;
        bit = t.4.0;
        tail_is = h.4 ∙ ap (λ (l : List ℕ). h.0 ∷ l) t.5;
        selected = h.3.1;
        operand = operand-from gs rex h.0 h.2 t.1 t.0 t.3;
        bit_is = t.4.1;
        draft_is = t.4.2;
      })
      (λ bs d h.
      let o = by-byte gs rex h.reg h.rm_bytes h.rm h.operand in
      let sel : select (reg_field o.byte) ≡ Some h.op = ap select o.reg_is ∙ h.selected in (
        o.byte,
        o.back ++ h.bit_bytes,
        o.range,
        (h.op, sel, (h.rm, o.back, h.bit_bytes, o.operand_is, (h.bit, h.bit_is, h.draft_is), refl)),
        h.tail_is ∙ ap (λ (l : List ℕ). l ++ h.bit_bytes) o.bytes_are,
      ))

-- without REX the low byte is that of registers 0 to 3
module _ (gs : Bool) where
  low_test : Option Rex → ℕ → ℕ → Bool
  low_test rex mode rm = not (eqb mode 3) || is_some rex || ltb rm 4

  low-byte-to : (rex : Option Rex) (n : ℕ) (bs : List ℕ) (p : Place) (o : IsOperand gs rex n bs p)
      → low_test rex o.mode o.rm ≡ true → IsLowByte rex p
  unfolding low_test
  low-byte-to None n bs (place.Mem m) o h = tt
  low-byte-to (Some r) n bs p o h = tt
  low-byte-to None n bs (place.Reg r) o h = go o.operand_is
    where
      go : IsRm gs None o.mode o.rm o.rest (place.Reg r) → r.0 < 4
      go (in_register three g x none is) =
          let at_three : (not (eqb o.mode 3) || is_some {T = Rex} None || ltb o.rm 4) ≡ ltb o.rm 4 =
          ap (λ (b : Bool). not b || is_some {T = Rex} None || ltb o.rm 4) (eq-eqb o.mode 3 three) in
          let below : o.rm < 4 = ltb-true o.rm 4 (sym at_three ∙ h) in
          let r-is : r ≡ extended false o.rm = cc in
          subst (λ (k : Reg). k.0 < 4) (sym r-is) (omega arith)
      go (in_memory m below h is) = absurd cc

  low-byte-back : (rex : Option Rex) (n : ℕ) (bs : List ℕ) (p : Place) (o : IsOperand gs rex n bs p) → IsLowByte rex p
      → low_test rex o.mode o.rm ≡ true
  unfolding low_test
  low-byte-back (Some r) n bs p o h = or-true (not (eqb o.mode 3)) (ltb o.rm 4)
    where
      or-true : (a b : Bool) → (a || true || b) ≡ true
      or-true true b = refl
      or-true false b = refl
  low-byte-back None n bs (place.Mem m) o h =
      ap (λ (b : Bool). b || is_some {T = Rex} None || ltb o.rm 4) (in-memory gs None n bs m o)
  low-byte-back None n bs (place.Reg r) o h = go o.operand_is
    where
      or-right-true : (a : Bool) → (a || false || true) ≡ true
      or-right-true true = refl
      or-right-true false = refl

      go : IsRm gs None o.mode o.rm o.rest (place.Reg r)
          → (not (eqb o.mode 3) || is_some {T = Rex} None || ltb o.rm 4) ≡ true
      go (in_register three g x none is) =
          let r-is : r ≡ extended false o.rm = cc in
          let below : o.rm < 4 = let small : (extended false o.rm).0 < 4 = subst (λ (k : Reg). k.0 < 4) r-is h in
          omega arith in
          ap (λ (b : Bool). not (eqb o.mode 3) || is_some {T = Rex} None || b) (lt-ltb o.rm 4 below)
          ∙ or-right-true (not (eqb o.mode 3))
      go (in_memory m below h is) = absurd cc

exact-rm_byte_imm : (gs : Bool) (rex : Option Rex)
    → Exact is_short (tail_at rm_byte_imm gs rex) (IsTail rm_byte_imm gs rex)
unfolding tail_at low_test
exact-rm_byte_imm gs rex =
    let S : List ℕ → ℤ → Type 0 = IsImmediate Byte ib in
    let f : ℕ × Place → ℤ → List ℕ → Result (Draft × List ℕ) DraftFault =
    λ x z bs. Ok (whole (insn.«Test» Byte x.1 (source.Imm z)), bs) in
    let T : ℕ × Place → ℤ → List ℕ → Draft → Type 0 = λ x z bs d. (bs ≡ [])
    × (d ≡ whole (insn.«Test» Byte x.1 (source.Imm z))) in
    exact-words is_short (tail_at rm_byte_imm gs rex) (Then (Taken gs rex rm_byte_imm) (λ x. Then S (T x)))
    (IsTail rm_byte_imm gs rex)
    (operand-then gs rex rm_byte_imm (memory_operand gs rex rm_byte_imm 0 (lit< tt) refl)
    (imm_at Byte ib) S (exact-imm Byte ib) (replicate 1 0) (immediate Byte ib (zero_number 1))
    (zero_number 1, IsNumber-zeros 1, refl)
    f T (λ x front taken z. exact-pure is_short (whole (insn.«Test» Byte x.1 (source.Imm z))))
    (λ x front taken z. (whole (insn.«Test» Byte x.1 (source.Imm z)), (refl, refl))))
    (λ bs d h.
    let b = h.4 in
    let o = h.3.0 in
    let same : h.2 ≡ b.1 = b.5 ∙ ap (λ (t : List ℕ). b.1 ++ t) b.4.0 ∙ append-nil b.1 in
    let zero-reg : h.0.0 ≡ 0 = eqb-true h.0.0 0 (and_parts (eqb h.0.0 0) (low_test gs rex o.mode o.rm) h.3.1).0 in
    let low : IsLowByte rex h.0.1 =
    low-byte-to gs rex h.0.0 h.1 h.0.1 o (and_parts (eqb h.0.0 0) (low_test gs rex o.mode o.rm) h.3.1).1 in
    record {
      rm = h.0.1;
      rm_bytes = h.1;
      imm_bytes = h.2;
      value = b.0;
      tail_is = h.5;
      operand =
          subst (λ (k : ℕ). IsOperand gs rex k h.1 h.0.1) zero-reg o;
      low_byte = low;
      immediate_is = subst (λ (t : List ℕ). S t b.0) (sym same) b.3;
      draft_is = b.4.1;
    })
    (λ bs d h.
    let taken : Taken gs rex rm_byte_imm h.rm_bytes (0, h.rm) =
    (h.operand, low-byte-back gs rex 0 h.rm_bytes h.rm h.operand h.low_byte) in (
      (0, h.rm),
      h.rm_bytes,
      h.imm_bytes,
      taken,
      (
        h.value,
        h.imm_bytes,
        [],
        h.immediate_is,
        (refl, h.draft_is),
        sym (append-nil h.imm_bytes),
      ),
      h.tail_is,
    ))

-- ---- forms with a register alone

or-case : (x b : Bool) → (not x || b) ≡ true → b ≡ false → x ≡ false
or-case true b e n = let clash : true ≡ false = sym e ∙ n in absurd cc
or-case false b e n = refl

module _ (form : Form) where
  no-gs : (gs : Bool) (rex : Option Rex) → permits form gs rex ≡ true → (has_access form ≡ false) → gs ≡ false
  no-gs gs rex h none =
      or-case gs (has_access form) (and_parts (not gs || has_access form) (permits_rex form rex) h).0 none

  no-x : (gs : Bool) (rex : Option Rex) → permits form gs rex ≡ true → (has_rm form ≡ false) → x_bit rex ≡ false
  no-x gs None h none = refl
  no-x gs (Some rex) h none =
      let a : Bool = cond rex.w (has_width form || needs_w form) (not (needs_w form)) in
      let b : Bool = not rex.r || has_reg form in
      let c : Bool = not rex.x || has_rm form in
      let d : Bool = not rex.b || has_register form in
      let e : Bool = rex.w || rex.r || rex.x || rex.b || has_register form in
      let all : ((((a && b) && c) && d) && e) ≡ true =
      (and_parts (not gs || has_access form) (permits_rex form (Some rex)) h).1 in
      or-case rex.x (has_rm form) (and_parts (a && b) c
      (and_parts ((a && b) && c) d (and_parts (((a && b) && c) && d) e all).0).0).1 none

module _ (gs : Bool) (rex : Option Rex) (select : ℕ → Option (Reg → Insn)) (no_gs : gs ≡ false)
    (no_x : x_bit rex ≡ false) where
  abbrev RegisterTail : ℕ → List ℕ → Draft → Type 0
  RegisterTail m bs d = (eqb (mode_field m) 3 ≡ true) × ((make : Reg → Insn) × (select (reg_field m) ≡ Some make)
      × (bs ≡ []) × (d ≡ whole (make (extended (b_bit rex) (rm_field m)))))

  register_after : ℕ → List ℕ → Result (Draft × List ℕ) DraftFault
  register_after m bs =
      cond (eqb (mode_field m) 3)
      (made (option_map (λ (make : Reg → Insn). make (extended (b_bit rex) (rm_field m))) (select (reg_field m))) bs)
      (Err Unknown)

  exact-register_after : (m : ℕ) → Exact is_short (register_after m) (RegisterTail m)
  unfolding register_after
  exact-register_after m =
      let r : Reg = extended (b_bit rex) (rm_field m) in
      let S : List ℕ → Draft → Type 0 = λ bs d. (make : Reg → Insn) × (select (reg_field m) ≡ Some make) × (bs ≡ [])
      × (d ≡ whole (make r)) in
      let read : List ℕ → Result (Draft × List ℕ) DraftFault =
      made (option_map (λ (make : Reg → Insn). make r) (select (reg_field m))) in
      exact-cases is_short (eqb (mode_field m) 3) read (λ bs. Err Unknown) (RegisterTail m)
      (λ e. exact-words is_short read S (RegisterTail m)
      (exact-made (select (reg_field m)) (λ (make : Reg → Insn). make r))
      (λ bs d h. (e, h)) (λ bs d h. h.1))
      (λ e. exact-words is_short (λ bs. Err Unknown) (λ bs d. ⊥) (RegisterTail m) (exact-none is_short Unknown refl)
      (λ bs d h. absurd h) (λ bs d h. let clash : true ≡ false = sym h.0 ∙ e in cc))

  -- where some ModRM byte selects an instruction
  exact-register : (m : ℕ) → m < 256 → eqb (mode_field m) 3 ≡ true → is_some (select (reg_field m)) ≡ true
      → Exact is_short (register_at select rex) (HasRegister select gs rex)
  unfolding register_after
  exact-register m fits three live =
      let some = some-is (select (reg_field m)) live in
      exact-words is_short (register_at select rex) (ByteThen RegisterTail) (HasRegister select gs rex)
      (exact-byte is_short Short refl register_after RegisterTail (λ k fits. exact-register_after k)
      (m, [], whole (some.0 (extended (b_bit rex) (rm_field m))), fits, (three, (some.0, some.1, refl, refl))))
      (λ bs d h.
      let t = h.3.1 in
      let r : Reg = extended (b_bit rex) (rm_field h.0) in
      let o : IsOperand gs rex (reg_field h.0) (h.0 ∷ h.1) (place.Reg r) =
      operand-from gs rex h.0 h.2 h.1 (place.Reg r)
      (in_register (eqb-true (mode_field h.0) 3 h.3.0) no_gs no_x t.2 refl) in
      record {
        reg = reg_field h.0;
        make = t.0;
        rm = r;
        selected = t.1;
        operand = subst (λ (l : List ℕ). IsOperand gs rex (reg_field h.0) l (place.Reg r)) (sym h.4) o;
        draft_is =
            t.3;
      })
      (λ bs d h.
      let o = by-byte gs rex h.reg bs (place.Reg h.rm) h.operand in
      let r = register-of gs rex (mode_field o.byte) (rm_field o.byte) o.back h.rm o.operand_is in
      let sel : select (reg_field o.byte) ≡ Some h.make = ap select o.reg_is ∙ h.selected in
      let made_is : d ≡ whole (h.make (extended (b_bit rex) (rm_field o.byte))) = h.draft_is
      ∙ ap (λ (k : Reg). whole (h.make k)) r.2 in
      (o.byte, o.back, o.range, (r.0, (h.make, sel, r.1, made_is)), o.bytes_are))

exact-rm_register : (gs : Bool) (rex : Option Rex) (select : ℕ → Option (Reg → Insn))
    → is_live (rm_register select) ≡ true → permits (rm_register select) gs rex ≡ true
    → Exact is_short (tail_at (rm_register select) gs rex) (IsTail (rm_register select) gs rex)
unfolding tail_at
exact-rm_register gs rex select live fits =
    exact-register gs rex select (no-gs (rm_register select) gs rex fits refl)
    (no-x (rm_register select) gs rex fits refl)
    216 (lit< tt) refl live

exact-rm_register_w : (gs : Bool) (rex : Option Rex) (select : ℕ → Option (Reg → Insn))
    → is_live (rm_register_w select) ≡ true → permits (rm_register_w select) gs rex ≡ true
    → Exact is_short (tail_at (rm_register_w select) gs rex) (IsTail (rm_register_w select) gs rex)
unfolding tail_at
exact-rm_register_w gs rex select live fits =
    exact-register gs rex select (no-gs (rm_register_w select) gs rex fits refl)
    (no-x (rm_register_w select) gs rex fits refl)
    200 (lit< tt) refl live

-- ---- every form

pub exact-tail : (form : Form) (gs : Bool) (rex : Option Rex) → is_live form ≡ true → permits form gs rex ≡ true
    → Exact is_short (tail_at form gs rex) (IsTail form gs rex)
exact-tail (plain i) gs rex live fits = exact-plain gs rex i
exact-tail (plain_w i) gs rex live fits = exact-plain_w gs rex i
exact-tail (last_byte select) gs rex live fits = exact-last_byte gs rex select live
exact-tail (opcode_register make r) gs rex live fits = exact-opcode_register gs rex make r
exact-tail (register_imm r) gs rex live fits = exact-register_imm gs rex r
exact-tail (rm_reg make) gs rex live fits = exact-rm_reg gs rex make
exact-tail (reg_rm make) gs rex live fits = exact-reg_rm gs rex make
exact-tail address gs rex live fits = exact-address gs rex
exact-tail (rm_imm select size) gs rex live fits = exact-rm_imm gs rex select size live
exact-tail rm_byte_imm gs rex live fits = exact-rm_byte_imm gs rex
exact-tail (rm_bit select) gs rex live fits = exact-rm_bit gs rex select live
exact-tail (rm_quad n make) gs rex live fits = exact-rm_quad gs rex n make live
exact-tail (rm_register select) gs rex live fits = exact-rm_register gs rex select live fits
exact-tail (rm_register_w select) gs rex live fits = exact-rm_register_w gs rex select live fits
exact-tail rm_unused gs rex live fits = exact-rm_unused gs rex
exact-tail (imm_quad size) gs rex live fits = exact-imm_quad gs rex size
exact-tail rax_imm gs rex live fits = exact-rax_imm gs rex
exact-tail al_imm gs rex live fits = exact-al_imm gs rex
exact-tail (relative make size) gs rex live fits = exact-relative gs rex make size
