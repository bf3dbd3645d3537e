-- REX and the operand rm of the chosen bytes are those of the grammar.
-- A register is its low three bits and the REX bit above them. A memory operand goes by cases as the definition does:
-- no base, RIP, or a base with or without a SIB byte; its displacement by size. Where no bit of REX is in use there is
-- no REX byte, so all its bits read as 0.
use Rattle.std.proofs.Common.{◌≡◌, ℕ, ◌+◌, ◌*◌, ◌%◌, ◌^◌, ◌<◌, ◌≤◌, Bool, true, false, cond, not, ◌&&◌, ◌||◌, eqb, ltb, leb, List, [], ◌∷◌, length, Option, Some, None, ◌⊎◌, inl, inr, ℤ, pos, refl, sym, ap, subst, ◌∙◌, arith, lit<}
use Rattle.std.specs.Prelude.{FitsSigned}
use Rattle.std.specs.Int.{w32}
use Rattle.std.specs.Ordering.{int_eq}
use Rattle.std.proofs.lemmas.Bool.{ltb-true, leb-true, leb-false, eqb-true, eqb-false, and_from, and_parts, or_cases}
use Rattle.std.proofs.lemmas.Bool.Decides.{Decides-int_eq}
use Rattle.kc_words.specs.declared.width.Width.{Width}
use Rattle.kc_words.specs.declared.width.Width.TheVariants.{Byte, Long, Quad}
use Rattle.kc_insn.specs.declared.insn.Reg.{Reg}
use Rattle.kc_insn.specs.declared.insn.Base.{Base}
use Rattle.kc_insn.specs.declared.insn.Base.TheVariants as base
use Rattle.kc_insn.specs.declared.insn.Place.{Place}
use Rattle.kc_insn.specs.declared.insn.Place.TheVariants as place
use Rattle.kc_insn.specs.declared.rex.Rex.{Rex}
use Rattle.kc_insn.specs.Fields.{worth, IsRex, w_bit, r_bit, x_bit, b_bit, extended, width_of, IsSigned, base_of, index_of, IsMemory, no_sib, IsRm, in_register, in_memory, IsOperand}
use Rattle.kc_insn.specs.Fields as fields
use Rattle.kc_insn.specs.Table.{Form}
use Rattle.kc_insn.specs.Spells.{has_rm, has_reg, has_register, has_access, has_width, needs_w, permits, permits_rex}
use Rattle.kc_insn.specs.Encodable.{is_register, is_index, is_address, is_place, is_wide}
use Rattle.kc_encode.specs.Canonical.{is_signed_byte, one_byte, four_bytes, eight_bytes, low, high, rex, rex_bytes, is_quad, mode, disp_bytes, modrm, scale_field, sib, needs_sib, memory, operand, gs, index_high, base_high, x_of, b_of}
use Rattle.kc_encode.proofs.Numbers.{signed1, signed4}

-- ---- REX

pub rex-is : (o : Option Rex) → IsRex (rex_bytes o) o
unfolding rex_bytes
rex-is None = refl
rex-is (Some r) = refl

pub rex-bits : (w r x b : Bool) → (w_bit (rex w r x b) ≡ w) × (r_bit (rex w r x b) ≡ r) × (x_bit (rex w r x b) ≡ x)
    × (b_bit (rex w r x b) ≡ b)
unfolding rex
rex-bits true r x b = (refl, refl, refl, refl)
rex-bits false true x b = (refl, refl, refl, refl)
rex-bits false false true b = (refl, refl, refl, refl)
rex-bits false false false true = (refl, refl, refl, refl)
rex-bits false false false false = (refl, refl, refl, refl)

pub width-is : (w : Width) (r x b : Bool) → is_wide w ≡ true → width_of (rex (is_quad w) r x b) ≡ w
width-is Byte r x b h = absurd cc
width-is Long r x b h = ap (λ (t : Bool). cond t Quad Long) (rex-bits false r x b).0
width-is Quad r x b h = ap (λ (t : Bool). cond t Quad Long) (rex-bits true r x b).0

implied : (a b : Bool) → (a ≡ true → b ≡ true) → (not a || b) ≡ true
implied true b h = h refl
implied false b h = refl

some-bit : (w r x b c : Bool) → (w || (r || (x || b))) ≡ true → (w || r || x || b || c) ≡ true
some-bit true true true true c h = refl
some-bit true true true false c h = refl
some-bit true true false true c h = refl
some-bit true true false false c h = refl
some-bit true false true true c h = refl
some-bit true false true false c h = refl
some-bit true false false true c h = refl
some-bit true false false false c h = refl
some-bit false true true true c h = refl
some-bit false true true false c h = refl
some-bit false true false true c h = refl
some-bit false true false false c h = refl
some-bit false false true true c h = refl
some-bit false false true false c h = refl
some-bit false false false true c h = refl
some-bit false false false false c h = absurd cc

-- what a form permits of the prefixes that are in use
pub permits-used : (form : Form) (g w r x b : Bool) → needs_w form ≡ false → (g ≡ true → has_access form ≡ true)
    → (w ≡ true → has_width form ≡ true)
    → (r ≡ true → has_reg form ≡ true) → (x ≡ true → has_rm form ≡ true) → (b ≡ true → has_register form ≡ true)
    → permits form g (rex w r x b) ≡ true
unfolding rex
permits-used form g w r x b n hg hw hr hx hb =
    and_from _ _ (implied g (has_access form) hg) (go (w || (r || (x || b))) refl)
  where
    width : (t : Bool) → (t ≡ true → has_width form ≡ true)
        → cond t (has_width form || needs_w form) (not (needs_w form)) ≡ true
    width true h = ap (λ (k : Bool). k || needs_w form) (h refl)
    width false h = ap not n

    go : (t : Bool) → (w || (r || (x || b))) ≡ t
        → permits_rex form (cond t (Some (record { w = w; r = r; x = x; b = b })) None) ≡ true
    go true e = and_from _ _ (and_from _ _ (and_from _ _ (and_from _ _ (width w hw) (implied r (has_reg form) hr))
        (implied x (has_rm form) hx)) (implied b (has_register form) hb)) (some-bit w r x b (has_register form) e)
    go false e = ap not n

-- ---- registers

pub low-below : (r : Reg) → low r < 8
low-below r = omega arith

pub number-whole : (r : Reg) → is_register r ≡ true → worth (high r) 8 + low r ≡ r.0
number-whole r h = go (leb 8 r.0) refl
  where
    below : r.0 < 16
    below = ltb-true r.0 16 h

    go : (t : Bool) → leb 8 r.0 ≡ t → worth t 8 + r.0 % 8 ≡ r.0
    go true e = let k = leb-true 8 r.0 e in omega (arith, below, k)
    go false e = let k = leb-false 8 r.0 e in omega (arith, below, k)

pub register-whole : (r : Reg) → is_register r ≡ true → extended (high r) (low r) ≡ r
register-whole r h = λ i. record { 0 = number-whole r h i }

-- ---- memory operands

abbrev no_disp : Reg → ℤ → Bool
no_disp r disp = int_eq disp (pos 0) && not (eqb (low r) 5)

zero-is : (z : ℤ) → int_eq z (pos 0) ≡ true → z ≡ pos 0
zero-is z h = (Decides-int_eq z (pos 0)).0 h

-- the three modes
abbrev ModeIs : Reg → ℤ → ℕ → Type 0
ModeIs r disp m = ((m ≡ 0) × (disp ≡ pos 0) × (eqb (low r) 5 ≡ false))
    ⊎ (((m ≡ 1) × (is_signed_byte disp ≡ true)) ⊎ (m ≡ 2))

mode-is : (r : Reg) (disp : ℤ) → ModeIs r disp (mode r disp)
unfolding mode
mode-is r disp = go (int_eq disp (pos 0)) (eqb (low r) 5) (is_signed_byte disp) refl refl refl
  where
    go : (x y z : Bool) → int_eq disp (pos 0) ≡ x → eqb (low r) 5 ≡ y → is_signed_byte disp ≡ z
        → ModeIs r disp (cond (x && not y) 0 (cond z 1 2))
    go true false z ex ey ez = inl (refl, zero-is disp ex, ey)
    go true true true ex ey ez = inr (inl (refl, ez))
    go true true false ex ey ez = inr (inr refl)
    go false y true ex ey ez = inr (inl (refl, ez))
    go false y false ex ey ez = inr (inr refl)

mode-below : (r : Reg) (disp : ℤ) (m : ℕ) → ModeIs r disp m → m < 3
mode-below r disp m (inl h) = omega (arith, h.0)
mode-below r disp m (inr (inl h)) = omega (arith, h.0)
mode-below r disp m (inr (inr h)) = omega (arith, h)

base-is : (special : Base) (o : Option Rex) (r : Reg) (disp : ℤ) (m : ℕ) → ModeIs r disp m → b_bit o ≡ high r
    → is_register r ≡ true → base_of special o m (low r) ≡ base.Reg r
base-is special o r disp m h e ok =
    go h ∙ ap base.Reg (ap (λ (t : Bool). extended t (low r)) e ∙ register-whole r ok)
  where
    plain : (t : Bool) → t ≡ false
        → cond t special (base.Reg (extended (b_bit o) (low r))) ≡ base.Reg (extended (b_bit o) (low r))
    plain true k = absurd cc
    plain false k = refl

    none : (a b : Bool) → b ≡ false → (a && b) ≡ false
    none true b k = k
    none false b k = refl

    go : ModeIs r disp m → base_of special o m (low r) ≡ base.Reg (extended (b_bit o) (low r))
    go (inl k) = plain (eqb m 0 && eqb (low r) 5) (none (eqb m 0) (eqb (low r) 5) k.2)
    go (inr (inl k)) = subst (λ (n : ℕ). base_of special o n (low r) ≡ base.Reg (extended (b_bit o) (low r))) (sym k.0)
        refl
    go (inr (inr k)) = subst (λ (n : ℕ). base_of special o n (low r) ≡ base.Reg (extended (b_bit o) (low r))) (sym k)
        refl

disp-is : (r : Reg) (disp : ℤ) (m : ℕ) → ModeIs r disp m → FitsSigned w32 disp
    → IsSigned (fields.disp_bytes m (low r)) (disp_bytes m disp) disp
unfolding disp_bytes
disp-is r disp m (inl h) f =
    subst (λ (n : ℕ). IsSigned (fields.disp_bytes n (low r)) (disp_bytes n disp) disp) (sym h.0)
    (none (eqb (low r) 5) h.2)
  where
    none : (t : Bool) → t ≡ false → IsSigned (cond t 4 0) [] disp
    none true k = absurd cc
    none false k = (0, (refl, tt, refl), h.1)
disp-is r disp m (inr (inl h)) f =
    subst (λ (n : ℕ). IsSigned (fields.disp_bytes n (low r)) (disp_bytes n disp) disp) (sym h.0) (signed1 disp h.1)
disp-is r disp m (inr (inr h)) f =
    subst (λ (n : ℕ). IsSigned (fields.disp_bytes n (low r)) (disp_bytes n disp) disp) (sym h) (signed4 disp f)

-- ---- SIB

scale-is : (s : ℕ) → (eqb s 1 || (eqb s 2 || (eqb s 4 || eqb s 8))) ≡ true → (2 ^ scale_field s ≡ s)
    × (scale_field s < 4)
scale-is s h = elim (or_cases (eqb s 1) _ h) [
  | inl a ↦ at 1 (eqb-true s 1 a) (refl, lit< tt)
  | inr r ↦ elim (or_cases (eqb s 2) _ r) [
    | inl a ↦ at 2 (eqb-true s 2 a) (refl, lit< tt)
    | inr q ↦ elim (or_cases (eqb s 4) _ q) [
      | inl a ↦ at 4 (eqb-true s 4 a) (refl, lit< tt)
      | inr a ↦ at 8 (eqb-true s 8 a) (refl, lit< tt)
    ]
  ]
]
  where
    at : (n : ℕ) → s ≡ n → (2 ^ scale_field n ≡ n) × (scale_field n < 4) → (2 ^ scale_field s ≡ s) × (scale_field s < 4)
    at n e k = subst (λ (t : ℕ). (2 ^ scale_field t ≡ t) × (scale_field t < 4)) (sym e) k

-- the scale and index fields
abbrev scale_of : Option (Reg × ℕ) → ℕ
scale_of None = 0
scale_of (Some i) = scale_field i.1

abbrev field_of : Option (Reg × ℕ) → ℕ
field_of None = 4
field_of (Some i) = low i.0

sib-is : (index : Option (Reg × ℕ)) (field : ℕ) → sib index field ≡ 64 * scale_of index + 8 * field_of index + field
unfolding sib
sib-is None field = refl
sib-is (Some i) field = refl

abbrev indexed : Reg → ℕ → Option (Reg × ℕ)
indexed r scale = Some (r, scale)

index-is : (o : Option Rex) (index : Option (Reg × ℕ)) → is_index index ≡ true → x_bit o ≡ index_high index
    → (index_of o (scale_of index) (field_of index) ≡ index) × (scale_of index < 4) × (field_of index < 8)
index-is o None h e =
    (ap (λ (t : Bool). cond (eqb (worth t 8 + 4) 4) None (Some (extended t 4, 1))) e, lit< tt, lit< tt)
index-is o (Some (r, s)) h e =
    let ok : is_register r ≡ true = (and_parts (ltb r.0 16) _ h).0 in
    let rest = (and_parts (ltb r.0 16) _ h).1 in
    let other : not (eqb r.0 4) ≡ true = (and_parts (not (eqb r.0 4)) _ rest).0 in
    let sc = scale-is s (and_parts (not (eqb r.0 4)) _ rest).1 in (
      ap (λ (t : Bool). cond {A = Option (Reg × ℕ)} (eqb (worth t 8 + low r) 4) None
          (Some (extended t (low r), 2 ^ scale_field s))) e
          ∙ ap (λ (n : ℕ). cond {A = Option (Reg × ℕ)} (eqb n 4) None
          (Some (extended (high r) (low r), 2 ^ scale_field s))) (number-whole r ok)
          ∙ plain (eqb r.0 4) other
          ∙ ap (λ (p : Reg). indexed p (2 ^ scale_field s)) (register-whole r ok)
          ∙ ap (λ (n : ℕ). indexed r n) sc.0,
      sc.1,
      low-below r,
    )
  where
    plain : (t : Bool) → not t ≡ true
        → cond {A = Option (Reg × ℕ)} t None (Some (extended (high r) (low r), 2 ^ scale_field s)) ≡ Some
        (extended (high r) (low r), 2 ^ scale_field s)
    plain true k = absurd cc
    plain false k = refl

-- ---- the operand

abbrev MemoryIs : Bool → Option Rex → ℕ → Base → Option (Reg × ℕ) → ℤ → List ℕ → Type 0
MemoryIs g o reg b index disp bytes =
    IsOperand g o reg bytes (place.Mem (record { gs = g; base = b; index = index; disp = disp }))

rip-is : (g : Bool) (o : Option Rex) (reg : ℕ) (disp : ℤ) → reg < 8 → FitsSigned w32 disp → x_bit o ≡ false
    → MemoryIs g o reg base.Rip None disp (modrm 0 reg 5 ∷ four_bytes disp)
rip-is g o reg disp below f x = record {
  mode = 0;
  rm = 5;
  rest = four_bytes disp;
  mode_range = lit< tt;
  reg_range = below;
  rm_range = lit< tt;
  modrm = refl;
  operand_is = in_memory _ (lit< tt) (no_sib disp (λ e. absurd (omega (arith, e))) x (signed4 disp f) refl) refl;
}

absent-is : (g : Bool) (o : Option Rex) (reg : ℕ) (index : Option (Reg × ℕ)) (disp : ℤ) → reg < 8
    → is_index index ≡ true → FitsSigned w32 disp → x_bit o ≡ index_high index
    → MemoryIs g o reg base.Absent index disp (modrm 0 reg 4 ∷ sib index 5 ∷ four_bytes disp)
absent-is g o reg index disp below ok f x =
    let ix = index-is o index ok x in
    record {
      mode = 0;
      rm = 4;
      rest = sib index 5 ∷ four_bytes disp;
      mode_range = lit< tt;
      reg_range = below;
      rm_range = lit< tt;
      modrm = refl;
      operand_is = in_memory _ (lit< tt)
          (fields.sib (scale_of index) (field_of index) 5 (four_bytes disp) disp refl ix.1 ix.2 (lit< tt)
          (ap (λ (n : ℕ). n ∷ four_bytes disp) (sib-is index 5)) (signed4 disp f)
          (λ i. record { gs = g; base = base.Absent; index = sym ix.0 i; disp = disp })) refl;
    }

based-is : (g : Bool) (o : Option Rex) (reg : ℕ) (r : Reg) (index : Option (Reg × ℕ)) (disp : ℤ) → reg < 8
    → is_register r ≡ true → is_index index ≡ true → FitsSigned w32 disp
    → x_bit o ≡ index_high index → b_bit o ≡ high r
    → MemoryIs g o reg (base.Reg r) index disp (modrm (mode r disp) reg 4 ∷ sib index (low r) ∷ disp_bytes
    (mode r disp) disp)
based-is g o reg r index disp below ok iok f x b =
    let ix = index-is o index iok x in
    let m = mode-is r disp in
    let small : mode r disp < 3 = mode-below r disp (mode r disp) m in
    record {
      mode = mode r disp;
      rm = 4;
      rest = sib index (low r) ∷ disp_bytes (mode r disp) disp;
      mode_range = omega (arith, small);
      reg_range = below;
      rm_range = lit< tt;
      modrm = refl;
      operand_is = in_memory _ small
          (fields.sib (scale_of index) (field_of index) (low r) (disp_bytes (mode r disp) disp) disp refl ix.1 ix.2
          (low-below r)
          (ap (λ (n : ℕ). n ∷ disp_bytes (mode r disp) disp) (sib-is index (low r))) (disp-is r disp (mode r disp) m f)
          (λ i. record {
            gs = g;
            base = sym (base-is base.Absent o r disp (mode r disp) m b ok) i;
            index =
                sym ix.0 i;
            disp = disp;
          })) refl;
    }

plain-is : (g : Bool) (o : Option Rex) (reg : ℕ) (r : Reg) (disp : ℤ) → reg < 8 → is_register r ≡ true
    → eqb (low r) 4 ≡ false → FitsSigned w32 disp
    → x_bit o ≡ false → b_bit o ≡ high r
    → MemoryIs g o reg (base.Reg r) None disp (modrm (mode r disp) reg (low r) ∷ disp_bytes (mode r disp) disp)
plain-is g o reg r disp below ok other f x b =
    let m = mode-is r disp in
    let small : mode r disp < 3 = mode-below r disp (mode r disp) m in
    record {
      mode = mode r disp;
      rm = low r;
      rest = disp_bytes (mode r disp) disp;
      mode_range = omega (arith, small);
      reg_range = below;
      rm_range = low-below r;
      modrm = refl;
      operand_is = in_memory _ small
          (no_sib disp (eqb-false (low r) 4 other) x (disp-is r disp (mode r disp) m f)
          (λ i. record {
            gs = g;
            base = sym (base-is base.Rip o r disp (mode r disp) m b ok) i;
            index = None;
            disp =
                disp;
          })) refl;
    }

memory-is : (g : Bool) (o : Option Rex) (reg : ℕ) (bs : Base) (index : Option (Reg × ℕ)) (disp : ℤ) → reg < 8
    → is_address bs index ≡ true → FitsSigned w32 disp
    → x_bit o ≡ index_high index → b_bit o ≡ base_high bs → MemoryIs g o reg bs index disp (memory reg bs index disp)
unfolding memory needs_sib
memory-is g o reg base.Rip None disp below ok f x b = rip-is g o reg disp below f x
memory-is g o reg base.Rip (Some i) disp below ok f x b = absurd cc
memory-is g o reg base.Absent index disp below ok f x b = absent-is g o reg index disp below ok f x
memory-is g o reg (base.Reg r) (Some i) disp below ok f x b =
    based-is g o reg r (Some i) disp below (and_parts (is_register r) (is_index (Some i)) ok).0
    (and_parts (is_register r) (is_index (Some i)) ok).1 f x b
memory-is g o reg (base.Reg r) None disp below ok f x b = go (eqb (low r) 4) refl
  where
    here : is_register r ≡ true
    here = (and_parts (is_register r) true ok).0

    go : (t : Bool) → eqb (low r) 4 ≡ t
        → MemoryIs g o reg (base.Reg r) None disp (cond t
        (modrm (mode r disp) reg 4 ∷ sib None (low r) ∷ disp_bytes (mode r disp) disp)
        (modrm (mode r disp) reg (low r) ∷ disp_bytes (mode r disp) disp))
    go true e = based-is g o reg r None disp below here refl f x b
    go false e = plain-is g o reg r disp below here e f x b

-- what the type of a displacement says
abbrev pub HasDisp : Place → Type 0
HasDisp (place.Reg r) = Unit {0}
HasDisp (place.Mem m) = FitsSigned w32 m.disp

pub operand-is : (o : Option Rex) (reg : ℕ) (p : Place) → reg < 8 → is_place p ≡ true → HasDisp p → x_bit o ≡ x_of p
    → b_bit o ≡ b_of p → IsOperand (gs p) o reg (operand reg p) p
unfolding operand
operand-is o reg (place.Reg r) below ok f x b = record {
  mode = 3;
  rm = low r;
  rest = [];
  mode_range = lit< tt;
  reg_range = below;
  rm_range = low-below r;
  modrm = refl;
  operand_is = in_register refl refl x refl (ap place.Reg
      (sym (ap (λ (t : Bool). extended t (low r)) b ∙ register-whole r ok)));
}
operand-is o reg (place.Mem m) below ok f x b = memory-is m.gs o reg m.base m.index m.disp below ok f x b

-- ---- lengths

disp-length : (m : ℕ) (disp : ℤ) → length (disp_bytes m disp) ≤ 4
unfolding disp_bytes four_bytes
disp-length m disp = go (eqb m 0) (eqb m 1)
  where
    go : (a b : Bool) → length (cond a [] (cond b (one_byte disp) (four_bytes disp))) ≤ 4
    go true b = omega arith
    go false true = omega arith
    go false false = omega arith

pub four-length : (z : ℤ) → length (four_bytes z) ≡ 4
unfolding four_bytes
four-length z = refl

pub eight-length : (z : ℤ) → length (eight_bytes z) ≡ 8
unfolding eight_bytes
eight-length z = refl

memory-length : (reg : ℕ) (b : Base) (index : Option (Reg × ℕ)) (disp : ℤ) → length (memory reg b index disp) ≤ 6
unfolding memory
memory-length reg base.Rip index disp = omega (arith, four-length disp)
memory-length reg base.Absent index disp = omega (arith, four-length disp)
memory-length reg (base.Reg r) index disp = go (needs_sib r index)
  where
    go : (t : Bool) → length (cond t (modrm (mode r disp) reg 4 ∷ sib index (low r) ∷ disp_bytes (mode r disp) disp)
        (modrm (mode r disp) reg (low r) ∷ disp_bytes (mode r disp) disp)) ≤ 6
    go true = omega (arith, disp-length (mode r disp) disp)
    go false = omega (arith, disp-length (mode r disp) disp)

pub operand-length : (reg : ℕ) (p : Place) → length (operand reg p) ≤ 6
unfolding operand
operand-length reg (place.Reg r) = omega arith
operand-length reg (place.Mem m) = memory-length reg m.base m.index m.disp

pub rex-length : (o : Option Rex) → length (rex_bytes o) ≤ 1
unfolding rex_bytes
rex-length None = omega arith
rex-length (Some r) = omega arith
