-- REX and the opcode are read exactly as the grammar has them.
-- From the row outwards: the tail of a row (exact-tail), the row that an opcode looks up, 0F before it, REX before
-- that.
-- Each step is exact-byte or exact-cases, then exact-words into the grammar's words. MOV and BT show that each
-- beginning
-- goes on to a spelling.
use Rattle.std.proofs.Common.{◌≡◌, ℕ, ◌+◌, ◌*◌, ◌<◌, ◌≤◌, Bool, true, false, cond, not, ◌&&◌, ◌||◌, eqb, ltb, leb, List, [], ◌∷◌, ◌++◌, replicate, Option, Some, None, Err, ◌⊎◌, inl, inr, refl, sym, ap, subst, ◌∙◌, arith, lit<}
use Rattle.std.proofs.lemmas.Bool.{eqb-true, eqb-false, ltb-true, leb-true, and_parts}
use Rattle.kc_rules.specs.Rules.{◌>>=◌}
use Rattle.kc_reading.specs.Reading.{Exact, ByteThen, byte_at}
use Rattle.kc_reading.proofs.Readers.{exact-none, exact-words, exact-byte, exact-cases}
use Rattle.kc_insn.specs.declared.insn.Insn.TheVariants as insn
use Rattle.kc_insn.specs.declared.insn.BitOp.TheVariants as bit_op
use Rattle.kc_insn.specs.declared.insn.Place.TheVariants as place
use Rattle.kc_insn.specs.declared.insn.Source.TheVariants as source
use Rattle.kc_insn.specs.declared.rex.Rex.{Rex}
use Rattle.kc_insn.specs.Fields.{IsRex, r_bit, extended, width_of}
use Rattle.kc_insn.specs.Table.{Form, rm_bit, lookup, one_byte, two_byte, bit_of}
use Rattle.kc_insn.specs.Spells.{has_rm, has_reg, has_register, has_width, needs_w, permits, permits_rex, Draft, whole, IsTail}
use Rattle.kc_decode.specs.declared.fault.DraftFault.TheVariants.{Short, Unknown}
use Rattle.kc_decode.specs.Reading.{is_short, tail_at, row_at, opcode_at, is_rex, rex_of, plain_at}
use Rattle.kc_decode.proofs.Operands.{zero_number, IsNumber-zeros}
use Rattle.kc_decode.proofs.Tails.{is_live, exact-tail, zero_mem, zero-operand}
use Rattle.kc_decode.proofs.Rows.{Apart, one-apart, two-apart, one-live, two-live, two-no_reg, escape-no_row, mov-row, bit-row, mov_form, mov-permits, bit-permits, rex-bytes, rex_byte, rex-back}

-- ---- a row of a table

abbrev pub RowTail : Option Form → Bool → Option Rex → List ℕ → Draft → Type 0
RowTail o gs rex bs d = (form : Form) × (o ≡ Some form) × (permits form gs rex ≡ true) × IsTail form gs rex bs d

pub exact-row : (o : Option Form) (gs : Bool) (rex : Option Rex)
    → ((form : Form) → o ≡ Some form → is_live form ≡ true) → Exact is_short (row_at o gs rex) (RowTail o gs rex)
exact-row None gs rex live =
    exact-words is_short (row_at None gs rex) (λ bs d. ⊥) (RowTail None gs rex) (exact-none is_short Unknown refl)
    (λ bs d h. absurd h) (λ bs d h. let e : None ≡ Some h.0 = h.1 in absurd cc)
exact-row (Some form) gs rex live =
    exact-cases is_short (permits form gs rex) (tail_at form gs rex) (λ bs. Err Unknown) (RowTail (Some form) gs rex)
    (λ fits. exact-words is_short (tail_at form gs rex) (IsTail form gs rex) (RowTail (Some form) gs rex)
    (exact-tail form gs rex (live form refl) fits)
    (λ bs d h. (form, refl, fits, h)) (λ bs d h. let same : h.0 ≡ form = cc in
    subst (λ (f : Form). IsTail f gs rex bs d) same h.3))
    (λ none. exact-words is_short (λ bs. Err Unknown) (λ bs d. ⊥) (RowTail (Some form) gs rex)
    (exact-none is_short Unknown refl)
    (λ bs d h. absurd h) (λ bs d h. let same : h.0 ≡ form = cc in
    let clash : true ≡ false = sym h.2 ∙ ap (λ (f : Form). permits f gs rex) same ∙ none in absurd cc))

-- ---- after an opcode byte

abbrev pub OpTail : Bool → Option Rex → ℕ → List ℕ → Draft → Type 0
OpTail gs rex op bs d = ((op ≡ 0x0F) × ByteThen (λ b back y. RowTail (lookup b two_byte) gs rex back y) bs d)
    ⊎ RowTail (lookup op one_byte) gs rex bs d

pub mov-tail : (gs : Bool) (rex : Option Rex) → (d : Draft)
    × RowTail (lookup 0x89 one_byte) gs rex ((8 * 0 + 4) ∷ 0 ∷ []) d
mov-tail gs rex =
    let d : Draft = whole (insn.Mov (width_of rex) (place.Mem (zero_mem gs rex))
    (source.Reg (extended (r_bit rex) 0))) in (
      d,
      (
        mov_form,
        mov-row,
        mov-permits gs rex,
        (
          0,
          place.Mem (zero_mem gs rex),
          zero-operand gs rex 0 (lit< tt),
          refl,
        ),
      ),
    )

pub bit-tail : (gs : Bool) (rex : Option Rex) → r_bit rex ≡ false → (d : Draft)
    × RowTail (lookup 0xBA two_byte) gs rex (((8 * 4 + 4) ∷ 0 ∷ []) ++ replicate 1 0) d
bit-tail gs rex r =
    let d : Draft = whole (insn.Bit bit_op.Test (width_of rex) (place.Mem (zero_mem gs rex)) (zero_number 1)) in (
      d,
      (
        rm_bit bit_of,
        bit-row,
        bit-permits gs rex r,
        record {
          reg = 4;
          op = bit_op.Test;
          rm = place.Mem (zero_mem gs rex);
          rm_bytes = (8 * 4 + 4) ∷ 0 ∷ [];
          bit_bytes =
              replicate 1 0;
          bit = zero_number 1;
          tail_is = refl;
          selected = refl;
          operand = zero-operand gs rex 4 (lit< tt);
          bit_is = IsNumber-zeros 1;
          draft_is =
              refl;
        },
      ),
    )

-- a form after 0F doesn't extend reg
pub two-r : (op : ℕ) (form : Form) (gs : Bool) (rex : Option Rex) → lookup op two_byte ≡ Some form
    → permits form gs rex ≡ true → r_bit rex ≡ false
two-r op form gs None look fits = refl
two-r op form gs (Some rex) look fits =
    let a : Bool = cond rex.w (has_width form || needs_w form) (not (needs_w form)) in
    let b : Bool = not rex.r || has_reg form in
    let c : Bool = not rex.x || has_rm form in
    let e : Bool = not rex.b || has_register form in
    let f : Bool = rex.w || rex.r || rex.x || rex.b || has_register form in
    let all : ((((a && b) && c) && e) && f) ≡ true = (and_parts _ (permits_rex form (Some rex)) fits).1 in
    let part : b ≡ true =
    (and_parts a b (and_parts (a && b) c (and_parts ((a && b) && c) e
    (and_parts (((a && b) && c) && e) f all).0).0).0).1 in
    no-r rex.r (has_reg form) part (two-no_reg op form look)
  where
    no-r : (r h : Bool) → (not r || h) ≡ true → not h ≡ true → r ≡ false
    no-r false h p q = refl
    no-r true h p q = let clash : false ≡ true = sym (ap not p) ∙ q in absurd cc

pub exact-escape : (gs : Bool) (rex : Option Rex) → r_bit rex ≡ false
    → Exact is_short (λ bs. byte_at Short bs >>= λ b. row_at (lookup b.0 two_byte) gs rex b.1)
    (ByteThen (λ b back y. RowTail (lookup b two_byte) gs rex back y))
exact-escape gs rex r =
    let t = bit-tail gs rex r in
    exact-byte is_short Short refl (λ b bs. row_at (lookup b two_byte) gs rex bs)
    (λ b back y. RowTail (lookup b two_byte) gs rex back y)
    (λ b fits. exact-row (lookup b two_byte) gs rex (two-live b))
    (0xBA, ((8 * 4 + 4) ∷ 0 ∷ []) ++ replicate 1 0, t.0, lit< tt, t.1)

pub exact-opcode : (gs : Bool) (rex : Option Rex) (op : ℕ) → Exact is_short (opcode_at gs rex op) (OpTail gs rex op)
unfolding opcode_at
exact-opcode gs rex op =
    exact-cases is_short (eqb op 0x0F)
    (λ bs. cond (r_bit rex) (Err Unknown) (byte_at Short bs >>= λ b. row_at (lookup b.0 two_byte) gs rex b.1))
    (row_at (lookup op one_byte) gs rex) (OpTail gs rex op)
    (λ e. let is : op ≡ 0x0F = eqb-true op 0x0F e in
    exact-cases is_short (r_bit rex) (λ bs. Err Unknown)
    (λ bs. byte_at Short bs >>= λ b. row_at (lookup b.0 two_byte) gs rex b.1) (OpTail gs rex op)
    (λ r. exact-words is_short (λ bs. Err Unknown) (λ bs d. ⊥) (OpTail gs rex op) (exact-none is_short Unknown refl)
    (λ bs d h. absurd h)
    (λ bs d h. elim h [
      | inl a ↦ let none : r_bit rex ≡ false = two-r a.1.0 a.1.3.0 gs rex a.1.3.1 a.1.3.2 in
          let clash : true ≡ false = sym r ∙ none in cc
      | inr b ↦ let none : None ≡ Some b.0 = sym escape-no_row ∙ ap (λ (k : ℕ). lookup k one_byte) (sym is) ∙ b.1 in cc
    ]))
    (λ r. exact-words is_short (λ bs. byte_at Short bs >>= λ b. row_at (lookup b.0 two_byte) gs rex b.1)
    (ByteThen (λ b back y. RowTail (lookup b two_byte) gs rex back y)) (OpTail gs rex op)
    (exact-escape gs rex r) (λ bs d h. inl (is, h))
    (λ bs d h. elim h [
      | inl a ↦ a.1
      | inr b ↦ let none : None ≡ Some b.0 = sym escape-no_row ∙ ap (λ (k : ℕ). lookup k one_byte) (sym is) ∙ b.1 in
          absurd cc
    ])))
    (λ e. exact-words is_short (row_at (lookup op one_byte) gs rex) (RowTail (lookup op one_byte) gs rex)
    (OpTail gs rex op)
    (exact-row (lookup op one_byte) gs rex (one-live op)) (λ bs d h. inr h)
    (λ bs d h. elim h [ inl a ↦ absurd (eqb-false op 0x0F e a.0) | inr b ↦ b ]))

-- ---- REX and an opcode

-- an instruction without its prefix 65
pub data Opened (gs : Bool) (bytes : List ℕ) (d : Draft) : Type 0 where
  one : (rex : Option Rex) (rex_bytes : List ℕ) (op : ℕ) (form : Form) (tail : List ℕ) → bytes ≡ rex_bytes ++ op ∷ tail
      → IsRex rex_bytes rex → lookup op one_byte ≡ Some form → permits form gs rex ≡ true → IsTail form gs rex tail d
      → Opened gs bytes d
  two : (rex : Option Rex) (rex_bytes : List ℕ) (op : ℕ) (form : Form) (tail : List ℕ)
      → bytes ≡ rex_bytes ++ 0x0F ∷ op ∷ tail
      → IsRex rex_bytes rex → lookup op two_byte ≡ Some form → permits form gs rex ≡ true → IsTail form gs rex tail d
      → Opened gs bytes d

pub opened-op : (gs : Bool) (rex : Option Rex) (rex_bytes : List ℕ) → IsRex rex_bytes rex
    → (op : ℕ) (bs : List ℕ) (d : Draft) → OpTail gs rex op bs d → Opened gs (rex_bytes ++ op ∷ bs) d
opened-op gs rex rex_bytes is op bs d (inl h) =
    two rex rex_bytes h.1.0 h.1.3.0 h.1.1 (ap (λ (t : List ℕ). rex_bytes ++ t)
    (ap (λ (k : ℕ). k ∷ bs) h.0 ∙ ap (λ (t : List ℕ). 0x0F ∷ t) h.1.4)) is h.1.3.1 h.1.3.2 h.1.3.3
opened-op gs rex rex_bytes is op bs d (inr h) = one rex rex_bytes op h.0 bs refl is h.1 h.2 h.3

pub apart-no_rex : (op : ℕ) → Apart op → is_rex op ≡ false
apart-no_rex op a = go (is_rex op) refl
  where
    go : (t : Bool) → is_rex op ≡ t → t ≡ false
    go false e = refl
    go true e =
        let low : 64 ≤ op = leb-true 64 op (and_parts (leb 64 op) (ltb op 80) e).0 in
        let high : op < 80 = ltb-true op 80 (and_parts (leb 64 op) (ltb op 80) e).1 in
        absurd (elim a.0 [ inl l ↦ omega arith | inr r ↦ omega arith ])

-- what stands after the first byte b
abbrev pub RexTail : Bool → ℕ → List ℕ → Draft → Type 0
RexTail gs b = ByteThen (λ op back y. OpTail gs (Some (rex_of b)) op back y)

pub exact-rex_tail : (gs : Bool) (b : ℕ)
    → Exact is_short (λ bs. byte_at Short bs >>= λ op. opcode_at gs (Some (rex_of b)) op.0 op.1) (RexTail gs b)
exact-rex_tail gs b =
    let t = mov-tail gs (Some (rex_of b)) in
    exact-byte is_short Short refl (λ op bs. opcode_at gs (Some (rex_of b)) op bs)
    (λ op back y. OpTail gs (Some (rex_of b)) op back y)
    (λ op fits. exact-opcode gs (Some (rex_of b)) op) (0x89, (8 * 0 + 4) ∷ 0 ∷ [], t.0, lit< tt, inr t.1)

pub rex-to : (gs : Bool) (b : ℕ) → is_rex b ≡ true → (bs : List ℕ) (d : Draft) → RexTail gs b bs d
    → Opened gs (b ∷ bs) d
rex-to gs b r bs d h =
    subst (λ (t : List ℕ). Opened gs (b ∷ t) d) (sym h.4)
    (opened-op gs (Some (rex_of b)) (b ∷ []) (rex-bytes b r) h.0 h.1 d h.3)

-- the first byte and the rest of an opening
pub heads : (b c : ℕ) (bs cs : List ℕ) → b ∷ bs ≡ c ∷ cs → (b ≡ c) × (bs ≡ cs)
heads b c bs cs e = (cc, cc)

pub rex-is : (b : ℕ) (rex : Rex) → b ≡ rex_byte rex → (is_rex b ≡ true) × (rex_of b ≡ rex) × (b < 80)
rex-is b rex e =
    let k = rex-back rex.w rex.r rex.x rex.b in
    (ap is_rex e ∙ k.0, ap rex_of e ∙ k.1, subst (λ (n : ℕ). n < 80) (sym e) k.2)

pub rex-back-tail : (gs : Bool) (b : ℕ) → is_rex b ≡ true → (bs : List ℕ) (d : Draft) → Opened gs (b ∷ bs) d
    → RexTail gs b bs d
rex-back-tail gs b r bs d (one None rex_bytes op form tail eq is look fits t) =
    let e = heads b op bs tail (eq ∙ ap (λ (x : List ℕ). x ++ op ∷ tail) is) in
    let clash : true ≡ false = sym r ∙ ap is_rex e.0 ∙ apart-no_rex op (one-apart op form look) in absurd cc
rex-back-tail gs b r bs d (one (Some rex) rex_bytes op form tail eq is look fits t) =
    let e = heads b (rex_byte rex) bs (op ∷ tail) (eq ∙ ap (λ (x : List ℕ). x ++ op ∷ tail) is) in
    let k = rex-is b rex e.0 in
    let fits2 : permits form gs (Some (rex_of b)) ≡ true = ap (λ (x : Rex). permits form gs (Some x)) k.1 ∙ fits in (
      op,
      tail,
      (one-apart op form look).1,
      inr (
        form,
        look,
        fits2,
        subst (λ (x : Rex). IsTail form gs (Some x) tail d) (sym k.1) t,
      ),
      e.1,
    )
rex-back-tail gs b r bs d (two None rex_bytes op form tail eq is look fits t) =
    let e = heads b 0x0F bs (op ∷ tail) (eq ∙ ap (λ (x : List ℕ). x ++ 0x0F ∷ op ∷ tail) is) in
    let clash : true ≡ false = sym r ∙ ap is_rex e.0 in absurd cc
rex-back-tail gs b r bs d (two (Some rex) rex_bytes op form tail eq is look fits t) =
    let e = heads b (rex_byte rex) bs (0x0F ∷ op ∷ tail) (eq ∙ ap (λ (x : List ℕ). x ++ 0x0F ∷ op ∷ tail) is) in
    let k = rex-is b rex e.0 in
    let fits2 : permits form gs (Some (rex_of b)) ≡ true = ap (λ (x : Rex). permits form gs (Some x)) k.1 ∙ fits in
    let row : RowTail (lookup op two_byte) gs (Some (rex_of b)) tail d =
    (form, look, fits2, subst (λ (x : Rex). IsTail form gs (Some x) tail d) (sym k.1) t) in
    (0x0F, op ∷ tail, lit< tt, inl (refl, (op, tail, (two-apart op form look).1, row, refl)), e.1)

pub plain-back-tail : (gs : Bool) (b : ℕ) → is_rex b ≡ false → (bs : List ℕ) (d : Draft) → Opened gs (b ∷ bs) d
    → OpTail gs None b bs d
plain-back-tail gs b r bs d (one None rex_bytes op form tail eq is look fits t) =
    let e = heads b op bs tail (eq ∙ ap (λ (x : List ℕ). x ++ op ∷ tail) is) in
    inr (
      form,
      ap (λ (k : ℕ). lookup k one_byte) e.0 ∙ look,
      fits,
      subst (λ (x : List ℕ). IsTail form gs None x d) (sym e.1) t,
    )
plain-back-tail gs b r bs d (one (Some rex) rex_bytes op form tail eq is look fits t) =
    let e = heads b (rex_byte rex) bs (op ∷ tail) (eq ∙ ap (λ (x : List ℕ). x ++ op ∷ tail) is) in
    let clash : true ≡ false = sym (rex-is b rex e.0).0 ∙ r in absurd cc
plain-back-tail gs b r bs d (two None rex_bytes op form tail eq is look fits t) =
    let e = heads b 0x0F bs (op ∷ tail) (eq ∙ ap (λ (x : List ℕ). x ++ 0x0F ∷ op ∷ tail) is) in
    inl (e.0, (op, tail, (two-apart op form look).1, (form, look, fits, t), e.1))
plain-back-tail gs b r bs d (two (Some rex) rex_bytes op form tail eq is look fits t) =
    let e = heads b (rex_byte rex) bs (0x0F ∷ op ∷ tail) (eq ∙ ap (λ (x : List ℕ). x ++ 0x0F ∷ op ∷ tail) is) in
    let clash : true ≡ false = sym (rex-is b rex e.0).0 ∙ r in absurd cc

pub exact-plain : (gs : Bool) (b : ℕ) → Exact is_short (plain_at gs b) (λ bs d. Opened gs (b ∷ bs) d)
unfolding plain_at
exact-plain gs b =
    exact-cases is_short (is_rex b) (λ bs. byte_at Short bs >>= λ op. opcode_at gs (Some (rex_of b)) op.0 op.1)
    (opcode_at gs None b) (λ bs d. Opened gs (b ∷ bs) d)
    (λ r. exact-words is_short (λ bs. byte_at Short bs >>= λ op. opcode_at gs (Some (rex_of b)) op.0 op.1)
    (RexTail gs b) (λ bs d. Opened gs (b ∷ bs) d)
    (exact-rex_tail gs b) (rex-to gs b r) (rex-back-tail gs b r))
    (λ r. exact-words is_short (opcode_at gs None b) (OpTail gs None b) (λ bs d. Opened gs (b ∷ bs) d)
    (exact-opcode gs None b) (λ bs d h. opened-op gs None [] refl b bs d h) (plain-back-tail gs b r))
