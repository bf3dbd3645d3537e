-- The rows of the tables: each form of a row begins something, and which prefixes the forms of a table permit. A walk
-- over the rows in their order, carried to the form that an opcode looks up by induction on the rows.
use Rattle.std.proofs.Common.{◌≡◌, ℕ, zero, suc, ◌+◌, ◌-◌, ◌*◌, ◌/◌, ◌%◌, ◌<◌, ◌≤◌, Bool, true, false, not, ◌&&◌, ◌||◌, eqb, ltb, leb, List, [], ◌∷◌, Option, Some, None, ◌⊎◌, inl, inr, refl, sym, ap, subst, ◌∙◌, arith, lit<, mul-zero, mul-one}
use Rattle.std.proofs.lemmas.Bool.{eqb-true, ltb-true, leb-true, and_parts, or_cases}
use Rattle.kc_insn.specs.declared.insn.Insn.TheVariants as insn
use Rattle.kc_insn.specs.declared.insn.Source.TheVariants as source
use Rattle.kc_insn.specs.declared.rex.Rex.{Rex}
use Rattle.kc_insn.specs.Fields.{worth, IsRex, r_bit}
use Rattle.kc_insn.specs.Table.{Form, rm_reg, rm_bit, Row, row, rows, lookup, one_byte, two_byte, two_byte_f3, bit_of}
use Rattle.kc_insn.specs.Spells.{has_rm, has_reg, has_register, has_width, needs_w, permits, permits_rex}
use Rattle.kc_decode.specs.Reading.{is_rex, rex_of}
use Rattle.kc_rules.proofs.TestLemmas.{chosen}
use Rattle.kc_insn.proofs.Encoded.{◌also◌}
use Rattle.kc_decode.proofs.Tails.{is_live}

-- ---- the rows of a table

-- a test holds of each form of the rows
abbrev pub RowsAll : (Form → Bool) → List Row → Type 0
RowsAll p [] = Unit {0}
RowsAll p (row key form ∷ rest) = (p form ≡ true) × RowsAll p rest
RowsAll p (rows first count form ∷ rest) = ((k : ℕ) → p (form k) ≡ true) × RowsAll p rest

pub lookup-all : (p : Form → Bool) (rs : List Row) (op : ℕ) (form : Form) → RowsAll p rs → lookup op rs ≡ Some form
    → p form ≡ true
lookup-all p [] op form all e = absurd cc
lookup-all p (row key f ∷ rest) op form all e =
    elim (chosen (eqb op key) (Some f) (lookup op rest) (Some form) e) [
      | inl h ↦ let same : f ≡ form = cc in sym (ap p same) ∙ all.0
      | inr h ↦ lookup-all p rest op form all.1 h.1
    ]
lookup-all p (rows first count f ∷ rest) op form all e =
    elim (chosen (leb first op && ltb op (first + count)) (Some (f (op - first))) (lookup op rest) (Some form) e) [
      | inl h ↦ let same : f (op - first) ≡ form = cc in sym (ap p same) ∙ all.0 (op - first)
      | inr h ↦ lookup-all p rest op form all.1 h.1
    ]

-- no opcode of the rows is a REX byte, and each is a byte
abbrev pub keys_apart : List Row → Bool
keys_apart [] = true
keys_apart (row key form ∷ rest) = (ltb key 64 || leb 80 key) && (ltb key 256 && keys_apart rest)
keys_apart (rows first count form ∷ rest) =
    (leb (first + count) 64 || leb 80 first) && (leb (first + count) 256 && keys_apart rest)

abbrev pub Apart : ℕ → Type 0
Apart op = ((op < 64) ⊎ (80 ≤ op)) × (op < 256)

pub row-apart : (key : ℕ) (rest : Bool) → ((ltb key 64 || leb 80 key) && (ltb key 256 && rest)) ≡ true → Apart key
row-apart key rest h =
    let a = (and_parts (ltb key 64 || leb 80 key) (ltb key 256 && rest) h).0 in
    let b = (and_parts (ltb key 256) rest (and_parts (ltb key 64 || leb 80 key) (ltb key 256 && rest) h).1).0 in (
      elim (or_cases (ltb key 64) (leb 80 key) a) [ inl l ↦ inl (ltb-true key 64 l) | inr r ↦ inr (leb-true 80 key r) ],
      ltb-true key 256 b,
    )

pub rows-apart : (first count op : ℕ) (rest : Bool)
    → ((leb (first + count) 64 || leb 80 first) && (leb (first + count) 256 && rest)) ≡ true → first ≤ op
    → op < first + count → Apart op
rows-apart first count op rest h ge lt =
    let a = (and_parts (leb (first + count) 64 || leb 80 first) (leb (first + count) 256 && rest) h).0 in
    let b = (and_parts (leb (first + count) 256) rest
    (and_parts (leb (first + count) 64 || leb 80 first) (leb (first + count) 256 && rest) h).1).0 in
    let top : first + count ≤ 256 = leb-true (first + count) 256 b in (
      elim (or_cases (leb (first + count) 64) (leb 80 first) a) [
        | inl l ↦ let below : first + count ≤ 64 = leb-true (first + count) 64 l in inl (omega arith)
        | inr r ↦ let above : 80 ≤ first = leb-true 80 first r in inr (omega arith)
      ],
      omega arith,
    )

pub lookup-apart : (rs : List Row) (op : ℕ) (form : Form) → keys_apart rs ≡ true → lookup op rs ≡ Some form → Apart op
lookup-apart [] op form all e = absurd cc
lookup-apart (row key f ∷ rest) op form all e =
    elim (chosen (eqb op key) (Some f) (lookup op rest) (Some form) e) [
      | inl h ↦ subst Apart (sym (eqb-true op key h.0)) (row-apart key (keys_apart rest) all)
      | inr h ↦ lookup-apart rest op form (and_parts (ltb key 256) (keys_apart rest)
          (and_parts (ltb key 64 || leb 80 key) (ltb key 256 && keys_apart rest) all).1).1 h.1
    ]
lookup-apart (rows first count f ∷ rest) op form all e =
    elim (chosen (leb first op && ltb op (first + count)) (Some (f (op - first))) (lookup op rest) (Some form) e) [
      | inl h ↦ rows-apart first count op (keys_apart rest) all
          (leb-true first op (and_parts (leb first op) (ltb op (first + count)) h.0).0)
          (ltb-true op (first + count) (and_parts (leb first op) (ltb op (first + count)) h.0).1)
      | inr h ↦ lookup-apart rest op form (and_parts (leb (first + count) 256) (keys_apart rest)
          (and_parts (leb (first + count) 64 || leb 80 first) (leb (first + count) 256 && keys_apart rest) all).1).1 h.1
    ]

pub one-apart : (op : ℕ) (form : Form) → lookup op one_byte ≡ Some form → Apart op
unfolding one_byte
one-apart op form e = lookup-apart one_byte op form refl e

pub two-apart : (op : ℕ) (form : Form) → lookup op two_byte ≡ Some form → Apart op
unfolding two_byte
two-apart op form e = lookup-apart two_byte op form refl e

pub f3-apart : (op : ℕ) (form : Form) → lookup op two_byte_f3 ≡ Some form → Apart op
unfolding two_byte_f3
f3-apart op form e = lookup-apart two_byte_f3 op form refl e

pub one-live : (op : ℕ) (form : Form) → lookup op one_byte ≡ Some form → is_live form ≡ true
unfolding one_byte
one-live op form e = lookup-all is_live one_byte op form
    (refl also refl also refl also (λ k. refl) also refl also refl also (λ k. refl) also refl also refl also
    refl also (λ k. refl) also refl also refl also refl also refl also refl also refl also refl also refl also
    refl also refl also refl also refl also refl also refl also refl also refl also refl also refl also refl also
    refl also refl also refl also (λ k. refl) also refl also refl also refl also refl also refl also refl also
    refl also refl also refl also tt) e

pub two-live : (op : ℕ) (form : Form) → lookup op two_byte ≡ Some form → is_live form ≡ true
unfolding two_byte
two-live op form e = lookup-all is_live two_byte op form
    (refl also (λ k. refl) also refl also refl also refl also refl also refl also refl also refl also refl also
    refl also tt) e

pub f3-live : (op : ℕ) (form : Form) → lookup op two_byte_f3 ≡ Some form → is_live form ≡ true
unfolding two_byte_f3
f3-live op form e = lookup-all is_live two_byte_f3 op form
    (refl also refl also tt) e

-- after 0F no form has a register in field reg
pub two-no_reg : (op : ℕ) (form : Form) → lookup op two_byte ≡ Some form → not (has_reg form) ≡ true
unfolding two_byte
two-no_reg op form e = lookup-all (λ f. not (has_reg f)) two_byte op form
    (refl also (λ k. refl) also refl also refl also refl also refl also refl also refl also refl also refl also
    refl also tt) e

-- after F3 REX.W alone, with REX.B or not, may stand
abbrev pub f3_form : Form → Bool
f3_form f = not (has_reg f) && (not (has_rm f) && (needs_w f || (not (has_width f) && not (has_register f))))

pub f3-forms : (op : ℕ) (form : Form) → lookup op two_byte_f3 ≡ Some form → f3_form form ≡ true
unfolding two_byte_f3
f3-forms op form e = lookup-all f3_form two_byte_f3 op form
    (refl also refl also tt) e

pub escape-no_row : lookup 0x0F one_byte ≡ None
unfolding one_byte
escape-no_row = refl

pub gs-no_row : lookup 0x65 one_byte ≡ None
unfolding one_byte
gs-no_row = refl

pub f3-no_row : lookup 0xF3 one_byte ≡ None
unfolding one_byte
f3-no_row = refl

pub pad-no_row : lookup 0x66 one_byte ≡ None
unfolding one_byte
pad-no_row = refl

pub cs-no_row : lookup 0x2E one_byte ≡ None
unfolding one_byte
cs-no_row = refl

pub mov-row : lookup 0x89 one_byte ≡ Some (rm_reg (λ w rm reg. insn.Mov w rm (source.Reg reg)))
unfolding one_byte
mov-row = refl

pub bit-row : lookup 0xBA two_byte ≡ Some (rm_bit bit_of)
unfolding two_byte
bit-row = refl

-- ---- prefixes that always stand

abbrev pub mov_form : Form
mov_form = rm_reg (λ w rm reg. insn.Mov w rm (source.Reg reg))

pub mov-rex : (w r x b : Bool) → permits_rex mov_form (Some (record { w = w; r = r; x = x; b = b })) ≡ true
mov-rex true true true true = refl
mov-rex true true true false = refl
mov-rex true true false true = refl
mov-rex true true false false = refl
mov-rex true false true true = refl
mov-rex true false true false = refl
mov-rex true false false true = refl
mov-rex true false false false = refl
mov-rex false true true true = refl
mov-rex false true true false = refl
mov-rex false true false true = refl
mov-rex false true false false = refl
mov-rex false false true true = refl
mov-rex false false true false = refl
mov-rex false false false true = refl
mov-rex false false false false = refl

pub mov-permits : (gs : Bool) (rex : Option Rex) → permits mov_form gs rex ≡ true
mov-permits true None = refl
mov-permits false None = refl
mov-permits true (Some rex) = mov-rex rex.w rex.r rex.x rex.b
mov-permits false (Some rex) = mov-rex rex.w rex.r rex.x rex.b

pub bit-rex : (w x b : Bool) → permits_rex (rm_bit bit_of) (Some (record { w = w; r = false; x = x; b = b })) ≡ true
bit-rex true true true = refl
bit-rex true true false = refl
bit-rex true false true = refl
bit-rex true false false = refl
bit-rex false true true = refl
bit-rex false true false = refl
bit-rex false false true = refl
bit-rex false false false = refl

pub bit-permits : (gs : Bool) (rex : Option Rex) → r_bit rex ≡ false → permits (rm_bit bit_of) gs rex ≡ true
bit-permits true None e = refl
bit-permits false None e = refl
bit-permits true (Some rex) e =
    ap (λ (r : Bool). permits_rex (rm_bit bit_of) (Some (record { w = rex.w; r = r; x = rex.x; b = rex.b }))) e
    ∙ bit-rex rex.w rex.x rex.b
bit-permits false (Some rex) e =
    ap (λ (r : Bool). permits_rex (rm_bit bit_of) (Some (record { w = rex.w; r = r; x = rex.x; b = rex.b }))) e
    ∙ bit-rex rex.w rex.x rex.b

-- ---- the REX byte

pub worth-bit : (n k : ℕ) → n < 2 → worth (eqb n 1) k ≡ k * n
worth-bit zero k h = rw mul-zero refl
worth-bit (suc zero) k h = rw mul-one refl
worth-bit (suc (suc n)) k h = absurd (omega arith)

pub rex-bytes : (b : ℕ) → is_rex b ≡ true → IsRex (b ∷ []) (Some (rex_of b))
rex-bytes b h =
    let low : 64 ≤ b = leb-true 64 b (and_parts (leb 64 b) (ltb b 80) h).0 in
    let high : b < 80 = ltb-true b 80 (and_parts (leb 64 b) (ltb b 80) h).1 in
    let w = worth-bit (b / 8 % 2) 8 (omega arith) in
    let r = worth-bit (b / 4 % 2) 4 (omega arith) in
    let x = worth-bit (b / 2 % 2) 2 (omega arith) in
    let z = worth-bit (b % 2) 1 (omega arith) in
    let whole_byte : b ≡ 64 + worth (eqb (b / 8 % 2) 1) 8 + worth (eqb (b / 4 % 2) 1) 4 + worth (eqb (b / 2 % 2) 1)
    2 + worth (eqb (b % 2) 1) 1 = omega (arith, w, r, x, z) in
    ap (λ (k : ℕ). k ∷ []) whole_byte

abbrev pub rex_byte : Rex → ℕ
rex_byte rex = 64 + worth rex.w 8 + worth rex.r 4 + worth rex.x 2 + worth rex.b 1

pub rex-back : (w r x b : Bool) → let rex : Rex = record { w = w; r = r; x = x; b = b } in
    (is_rex (rex_byte rex) ≡ true) × (rex_of (rex_byte rex) ≡ rex) × (rex_byte rex < 80)
rex-back true true true true = (refl, refl, lit< tt)
rex-back true true true false = (refl, refl, lit< tt)
rex-back true true false true = (refl, refl, lit< tt)
rex-back true true false false = (refl, refl, lit< tt)
rex-back true false true true = (refl, refl, lit< tt)
rex-back true false true false = (refl, refl, lit< tt)
rex-back true false false true = (refl, refl, lit< tt)
rex-back true false false false = (refl, refl, lit< tt)
rex-back false true true true = (refl, refl, lit< tt)
rex-back false true true false = (refl, refl, lit< tt)
rex-back false true false true = (refl, refl, lit< tt)
rex-back false true false false = (refl, refl, lit< tt)
rex-back false false true true = (refl, refl, lit< tt)
rex-back false false true false = (refl, refl, lit< tt)
rex-back false false false true = (refl, refl, lit< tt)
rex-back false false false false = (refl, refl, lit< tt)
