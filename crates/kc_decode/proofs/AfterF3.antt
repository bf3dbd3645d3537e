-- What stands after F3 is read exactly as the grammar has it.
-- As in Drafts: a byte that is 0F or REX, then 0F, then the opcode of a row, put together by exact-byte and
-- exact-cases. ENDBR64 and RDGSBASE show that each beginning goes on to a spelling.
use Rattle.std.proofs.Common.{◌≡◌, ℕ, ◌<◌, Bool, true, false, cond, not, ◌&&◌, ◌||◌, eqb, List, [], ◌∷◌, ◌++◌, Option, Some, None, Result, Err, refl, sym, ap, subst, ◌∙◌, arith, lit<}
use Rattle.std.proofs.lemmas.Bool.{eqb-true, eqb-false, and_parts}
use Rattle.kc_rules.specs.Rules.{◌>>=◌}
use Rattle.kc_reading.specs.Reading.{Exact, ByteThen, byte_at}
use Rattle.kc_reading.proofs.Readers.{exact-none, exact-words, exact-byte, exact-cases}
use Rattle.kc_insn.specs.declared.insn.Insn.{Insn}
use Rattle.kc_insn.specs.declared.insn.Insn.TheVariants as insn
use Rattle.kc_insn.specs.declared.insn.Place.TheVariants as place
use Rattle.kc_insn.specs.declared.insn.Reg.{Reg}
use Rattle.kc_insn.specs.declared.rex.Rex.{Rex}
use Rattle.kc_insn.specs.Fields.{IsRex, extended, IsOperand, in_register}
use Rattle.kc_insn.specs.Table.{Form, last_byte, rm_register_w, only, lookup, two_byte_f3}
use Rattle.kc_insn.specs.Spells.{has_rm, has_reg, has_register, has_width, needs_w, permits, Draft, whole, IsTail}
use Rattle.kc_decode.specs.declared.fault.DraftFault.{DraftFault}
use Rattle.kc_decode.specs.declared.fault.DraftFault.TheVariants.{Short, Unknown}
use Rattle.kc_decode.specs.Reading.{is_short, row_at, is_rex, rex_of, f3_row_at, f3_escape_at, f3_at}
use Rattle.kc_decode.proofs.Rows.{f3-apart, f3-live, f3-forms, rex-bytes, rex_byte}
use Rattle.kc_decode.proofs.Drafts.{RowTail, exact-row, heads, rex-is}

-- ---- a byte that is wanted

pub exact-wanted : {A : Type 0} (key : ℕ) → key < 256
    → (read : List ℕ → Result (A × List ℕ) DraftFault) (S : List ℕ → A → Type 0) → Exact is_short read S
    → (back : List ℕ) × (y : A) × S back y
    → Exact is_short (λ bs. byte_at Short bs >>= λ b. cond (eqb b.0 key) (read b.1) (Err Unknown))
    (ByteThen (λ b rest x. (b ≡ key) × S rest x))
exact-wanted {A} key below read S ex some =
    let T : ℕ → List ℕ → A → Type 0 = λ b rest x. (b ≡ key) × S rest x in
    exact-byte is_short Short refl (λ b bs. cond (eqb b key) (read bs) (Err Unknown)) T
    (λ b fits. exact-cases is_short (eqb b key) read (λ bs. Err Unknown) (T b)
    (λ e. exact-words is_short read S (T b) ex (λ bs x h. (eqb-true b key e, h)) (λ bs x h. h.1))
    (λ e. exact-words is_short (λ bs. Err Unknown) (λ bs x. ⊥) (T b) (exact-none is_short Unknown refl)
    (λ bs x h. absurd h) (λ bs x h. absurd (eqb-false b key e h.0))))
    (key, some.0, some.1, below, (refl, some.2))

-- ---- after F3

abbrev F3Row : Option Rex → List ℕ → Draft → Type 0
F3Row rex = ByteThen (λ op back y. RowTail (lookup op two_byte_f3) false rex back y)

pub data F3Spelled (bytes : List ℕ) (d : Draft) : Type 0 where
  f3 : (rex : Option Rex) (rex_bytes : List ℕ) (op : ℕ) (form : Form) (tail : List ℕ)
      → bytes ≡ rex_bytes ++ 0x0F ∷ op ∷ tail
      → IsRex rex_bytes rex → lookup op two_byte_f3 ≡ Some form → permits form false rex ≡ true
      → IsTail form false rex tail d → F3Spelled bytes d

exact-f3_row : (rex : Option Rex) → (op : ℕ) × (back : List ℕ) × (d : Draft) × (op < 256)
    × RowTail (lookup op two_byte_f3) false rex back d → Exact is_short (f3_row_at rex) (F3Row rex)
unfolding f3_row_at
exact-f3_row rex some =
    exact-byte is_short Short refl (λ op bs. row_at (lookup op two_byte_f3) false rex bs)
    (λ op back y. RowTail (lookup op two_byte_f3) false rex back y)
    (λ op fits. exact-row (lookup op two_byte_f3) false rex (f3-live op)) some

endbr-row : (op : ℕ) × (back : List ℕ) × (d : Draft) × (op < 256) × RowTail (lookup op two_byte_f3) false None back d
unfolding two_byte_f3
endbr-row = (
  0x1E,
  0xFA ∷ [],
  whole insn.Endbr64,
  lit< tt,
  (
    last_byte (only 0xFA insn.Endbr64),
    refl,
    refl,
    record {
      byte = 0xFA;
      insn = insn.Endbr64;
      tail_is = refl;
      byte_range = lit< tt;
      selected = refl;
      draft_is = refl;
    },
  ),
)

gs-select : ℕ → Option (Reg → Insn)
gs-select n = cond (eqb n 1) (Some insn.ReadGs) (cond (eqb n 3) (Some insn.WriteGs) None)

gs-row : lookup 0xAE two_byte_f3 ≡ Some (rm_register_w gs-select)
unfolding two_byte_f3 gs-select
gs-row = refl

gs-permits : (b : Bool)
    → permits (rm_register_w gs-select) false (Some (record { w = true; r = false; x = false; b = b })) ≡ true
gs-permits true = refl
gs-permits false = refl

gs-base_row : (b : Bool) → let rex : Rex = record { w = true; r = false; x = false; b = b } in
    (op : ℕ) × (back : List ℕ) × (d : Draft) × (op < 256) × RowTail (lookup op two_byte_f3) false (Some rex) back d
unfolding gs-select
gs-base_row b =
    let rex : Rex = record { w = true; r = false; x = false; b = b } in
    let r : Reg = extended b 0 in
    let o : IsOperand false (Some rex) 1 (200 ∷ []) (place.Reg r) =
    record {
      mode = 3;
      rm = 0;
      rest = [];
      mode_range = lit< tt;
      reg_range = lit< tt;
      rm_range = lit< tt;
      modrm =
          refl;
      operand_is = in_register refl refl refl refl refl;
    } in (
      0xAE,
      200 ∷ [],
      whole (insn.ReadGs r),
      lit< tt,
      (
        rm_register_w gs-select,
        gs-row,
        gs-permits b,
        record { reg = 1; make = insn.ReadGs; rm = r; selected = refl; operand = o; draft_is = refl },
      ),
    )

some-gs : (rex : Rex) → (rex.w && (not rex.r && not rex.x)) ≡ true → (op : ℕ) × (back : List ℕ) × (d : Draft)
    × (op < 256) × RowTail (lookup op two_byte_f3) false (Some rex) back d
some-gs rex h = go rex.w rex.r rex.x h
  where
    go : (w r x : Bool) → (w && (not r && not x)) ≡ true → (op : ℕ) × (back : List ℕ) × (d : Draft) × (op < 256)
        × RowTail (lookup op two_byte_f3) false (Some (record { w = w; r = r; x = x; b = rex.b })) back d
    go true false false h = gs-base_row rex.b
    go false r x h = absurd cc
    go true true x h = absurd cc
    go true false true h = absurd cc

-- REX after F3 has W, and neither R nor X
or-false : (y h : Bool) → (not y || h) ≡ true → not h ≡ true → y ≡ false
or-false false h p q = refl
or-false true h p q = let clash : false ≡ true = sym (ap not p) ∙ q in absurd cc

f3-w : (w n hw g b r x : Bool) → cond w (hw || n) (not n) ≡ true → (n || (not hw && not g)) ≡ true
    → (not b || g) ≡ true → (w || r || x || b || g) ≡ true → r ≡ false → x ≡ false → w ≡ true
f3-w true n hw g b r x p1 p2 p3 p4 p5 p6 = refl
f3-w false true hw g b r x p1 p2 p3 p4 p5 p6 = absurd cc
f3-w false false hw true b r x p1 p2 p3 p4 p5 p6 = let clash : not true ≡ true =
    (and_parts (not hw) (not true) p2).1 in absurd cc
f3-w false false hw false true r x p1 p2 p3 p4 p5 p6 = absurd cc
f3-w false false hw false false true x p1 p2 p3 p4 p5 p6 = absurd cc
f3-w false false hw false false false true p1 p2 p3 p4 p5 p6 = absurd cc
f3-w false false hw false false false false p1 p2 p3 p4 p5 p6 = absurd cc

f3-rex : (op : ℕ) (form : Form) (rex : Rex) → lookup op two_byte_f3 ≡ Some form → permits form false (Some rex) ≡ true
    → (rex.w && (not rex.r && not rex.x)) ≡ true
f3-rex op form rex look fits =
    let k = f3-forms op form look in
    let a : Bool = cond rex.w (has_width form || needs_w form) (not (needs_w form)) in
    let b : Bool = not rex.r || has_reg form in
    let c : Bool = not rex.x || has_rm form in
    let e : Bool = not rex.b || has_register form in
    let f : Bool = rex.w || rex.r || rex.x || rex.b || has_register form in
    let rest : Bool = needs_w form || (not (has_width form) && not (has_register form)) in
    let all : ((((a && b) && c) && e) && f) ≡ true = fits in
    let p3 = (and_parts (((a && b) && c) && e) f all).0 in
    let p2 = (and_parts ((a && b) && c) e p3).0 in
    let p1 = (and_parts (a && b) c p2).0 in
    let r0 : rex.r ≡ false =
    or-false rex.r (has_reg form) (and_parts a b p1).1
    (and_parts (not (has_reg form)) (not (has_rm form) && rest) k).0 in
    let k1 = (and_parts (not (has_reg form)) (not (has_rm form) && rest) k).1 in
    let x0 : rex.x ≡ false =
    or-false rex.x (has_rm form) (and_parts (a && b) c p2).1 (and_parts (not (has_rm form)) rest k1).0 in
    let w1 : rex.w ≡ true =
    f3-w rex.w (needs_w form) (has_width form) (has_register form) rex.b rex.r rex.x (and_parts a b p1).0
    (and_parts (not (has_rm form)) rest k1).1 (and_parts ((a && b) && c) e p3).1
    (and_parts (((a && b) && c) && e) f all).1 r0 x0 in
    ap (λ (t : Bool). t && (not rex.r && not rex.x)) w1 ∙ ap (λ (t : Bool). not t && not rex.x) r0 ∙ ap not x0

F3Escape : Rex → List ℕ → Draft → Type 0
F3Escape rex = ByteThen (λ e back y. (e ≡ 0x0F) × F3Row (Some rex) back y)

exact-f3_escape : (rex : Rex) → (rex.w && (not rex.r && not rex.x)) ≡ true
    → Exact is_short (f3_escape_at rex) (F3Escape rex)
unfolding f3_escape_at F3Escape
exact-f3_escape rex h =
    let s = some-gs rex h in
    exact-wanted 0x0F (lit< tt) (f3_row_at (Some rex)) (F3Row (Some rex)) (exact-f3_row (Some rex) s)
    (s.0 ∷ s.1, s.2, (s.0, s.1, s.3, s.4, refl))

f3-to : (b : ℕ) → is_rex b ≡ true → (bs : List ℕ) (d : Draft) → F3Escape (rex_of b) bs d → F3Spelled (b ∷ bs) d
unfolding F3Escape
f3-to b r bs d h =
    let k = h.3.1 in
    let eq : bs ≡ 0x0F ∷ k.0 ∷ k.1 = h.4 ∙ ap (λ (t : ℕ). t ∷ h.1) h.3.0 ∙ ap (λ (t : List ℕ). 0x0F ∷ t) k.4 in
    f3 (Some (rex_of b)) (b ∷ []) k.0 k.3.0 k.1 (ap (λ (t : List ℕ). b ∷ t) eq) (rex-bytes b r) k.3.1 k.3.2 k.3.3

f3-back : (b : ℕ) → is_rex b ≡ true → (bs : List ℕ) (d : Draft) → F3Spelled (b ∷ bs) d → F3Escape (rex_of b) bs d
    × (((rex_of b).w && (not (rex_of b).r && not (rex_of b).x)) ≡ true)
unfolding F3Escape
f3-back b r bs d (f3 None rex_bytes op form tail eq is look fits t) =
    let e = heads b 0x0F bs (op ∷ tail) (eq ∙ ap (λ (x : List ℕ). x ++ 0x0F ∷ op ∷ tail) is) in
    let clash : true ≡ false = sym r ∙ ap is_rex e.0 in absurd cc
f3-back b r bs d (f3 (Some rex) rex_bytes op form tail eq is look fits t) =
    let e = heads b (rex_byte rex) bs (0x0F ∷ op ∷ tail) (eq ∙ ap (λ (x : List ℕ). x ++ 0x0F ∷ op ∷ tail) is) in
    let k = rex-is b rex e.0 in
    let fits2 : permits form false (Some (rex_of b)) ≡ true = ap (λ (x : Rex). permits form false (Some x)) k.1
    ∙ fits in
    let row : RowTail (lookup op two_byte_f3) false (Some (rex_of b)) tail d =
    (form, look, fits2, subst (λ (x : Rex). IsTail form false (Some x) tail d) (sym k.1) t) in (
      (0x0F, op ∷ tail, lit< tt, (refl, (op, tail, (f3-apart op form look).1, row, refl)), e.1),
      f3-rex op form (rex_of b) look fits2,
    )

f3-plain_back : (b : ℕ) → is_rex b ≡ false → (bs : List ℕ) (d : Draft) → F3Spelled (b ∷ bs) d → (b ≡ 0x0F)
    × F3Row None bs d
f3-plain_back b r bs d (f3 None rex_bytes op form tail eq is look fits t) =
    let e = heads b 0x0F bs (op ∷ tail) (eq ∙ ap (λ (x : List ℕ). x ++ 0x0F ∷ op ∷ tail) is) in
    (e.0, (op, tail, (f3-apart op form look).1, (form, look, fits, t), e.1))
f3-plain_back b r bs d (f3 (Some rex) rex_bytes op form tail eq is look fits t) =
    let e = heads b (rex_byte rex) bs (0x0F ∷ op ∷ tail) (eq ∙ ap (λ (x : List ℕ). x ++ 0x0F ∷ op ∷ tail) is) in
    let clash : true ≡ false = sym (rex-is b rex e.0).0 ∙ r in absurd cc

exact-f3_byte : (b : ℕ)
    → Exact is_short (λ bs. cond (is_rex b) (cond ((rex_of b).w && (not (rex_of b).r && not (rex_of b).x))
    (f3_escape_at (rex_of b) bs) (Err Unknown)) (cond (eqb b 0x0F) (f3_row_at None bs) (Err Unknown)))
    (λ bs d. F3Spelled (b ∷ bs) d)
exact-f3_byte b =
    let S : List ℕ → Draft → Type 0 = λ bs d. F3Spelled (b ∷ bs) d in
    let test : Bool = (rex_of b).w && (not (rex_of b).r && not (rex_of b).x) in
    exact-cases is_short (is_rex b) (λ bs. cond test (f3_escape_at (rex_of b) bs) (Err Unknown))
    (λ bs. cond (eqb b 0x0F) (f3_row_at None bs) (Err Unknown)) S
    (λ r. exact-cases is_short test (f3_escape_at (rex_of b)) (λ bs. Err Unknown) S
    (λ w. exact-words is_short (f3_escape_at (rex_of b)) (F3Escape (rex_of b)) S (exact-f3_escape (rex_of b) w)
    (f3-to b r) (λ bs d h. (f3-back b r bs d h).0))
    (λ w. exact-words is_short (λ bs. Err Unknown) (λ bs d. ⊥) S (exact-none is_short Unknown refl) (λ bs d h. absurd h)
    (λ bs d h. let clash : true ≡ false = sym (f3-back b r bs d h).1 ∙ w in cc)))
    (λ r. exact-cases is_short (eqb b 0x0F) (f3_row_at None) (λ bs. Err Unknown) S
    (λ e. exact-words is_short (f3_row_at None) (F3Row None) S (exact-f3_row None endbr-row)
    (λ bs d h. f3 None [] h.0 h.3.0 h.1 (ap (λ (k : ℕ). k ∷ bs) (eqb-true b 0x0F e)
    ∙ ap (λ (t : List ℕ). 0x0F ∷ t) h.4) refl h.3.1 h.3.2 h.3.3) (λ bs d h. (f3-plain_back b r bs d h).1))
    (λ e. exact-words is_short (λ bs. Err Unknown) (λ bs d. ⊥) S (exact-none is_short Unknown refl) (λ bs d h. absurd h)
    (λ bs d h. eqb-false b 0x0F e (f3-plain_back b r bs d h).0)))

-- the first byte is a byte
f3-first : (b : ℕ) (bs : List ℕ) (d : Draft) → F3Spelled (b ∷ bs) d → b < 256
f3-first b bs d (f3 None rex_bytes op form tail eq is look fits t) =
    let e = heads b 0x0F bs (op ∷ tail) (eq ∙ ap (λ (x : List ℕ). x ++ 0x0F ∷ op ∷ tail) is) in omega (arith, e.0)
f3-first b bs d (f3 (Some rex) rex_bytes op form tail eq is look fits t) =
    let e = heads b (rex_byte rex) bs (0x0F ∷ op ∷ tail) (eq ∙ ap (λ (x : List ℕ). x ++ 0x0F ∷ op ∷ tail) is) in
    let k = (rex-is b rex e.0).2 in omega (arith, k)

f3-empty : (d : Draft) → F3Spelled [] d → ⊥
f3-empty d (f3 None rex_bytes op form tail eq is look fits t) = let e : [] ≡ 0x0F ∷ op ∷ tail = eq
    ∙ ap (λ (x : List ℕ). x ++ 0x0F ∷ op ∷ tail) is in cc
f3-empty d (f3 (Some rex) rex_bytes op form tail eq is look fits t) = let e : [] ≡ rex_byte rex ∷ 0x0F ∷ op ∷ tail = eq
    ∙ ap (λ (x : List ℕ). x ++ 0x0F ∷ op ∷ tail) is in cc

f3-split : (bs : List ℕ) (d : Draft) → F3Spelled bs d → ByteThen (λ b back y. F3Spelled (b ∷ back) y) bs d
f3-split [] d h = absurd (f3-empty d h)
f3-split (b ∷ bs) d h = (b, bs, f3-first b bs d h, h, refl)

pub exact-f3 : Exact is_short f3_at F3Spelled
unfolding f3_at
exact-f3 =
    let s = endbr-row in
    exact-words is_short f3_at (ByteThen (λ b back y. F3Spelled (b ∷ back) y)) F3Spelled
    (exact-byte is_short Short refl (λ b bs. cond (is_rex b)
    (cond ((rex_of b).w && (not (rex_of b).r && not (rex_of b).x)) (f3_escape_at (rex_of b) bs) (Err Unknown))
    (cond (eqb b 0x0F) (f3_row_at None bs) (Err Unknown)))
    (λ b back y. F3Spelled (b ∷ back) y) (λ b fits. exact-f3_byte b)
    (0x0F, s.0 ∷ s.1, s.2, lit< tt, f3 None [] s.0 s.4.0 s.1 refl refl s.4.1 s.4.2 s.4.3))
    (λ bs d h. subst (λ (t : List ℕ). F3Spelled t d) (sym h.4) h.3) f3-split
