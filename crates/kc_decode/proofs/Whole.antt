-- A whole instruction is read exactly as the grammar has it, whatever the number of its bytes: by the first byte, which
-- is
-- 65, F3, 66, 2E or another, and parts the grammar's five ways to begin (First).
use Rattle.std.proofs.Common.{◌≡◌, ℕ, zero, suc, ◌+◌, ◌*◌, ◌<◌, ◌≤◌, Bool, true, false, cond, eqb, ltb, leb, List, [], ◌∷◌, ◌++◌, replicate, Option, Some, None, inl, inr, refl, sym, ap, subst, ◌∙◌, arith, lit<}
use Rattle.std.proofs.lemmas.Bool.{eqb-true, eqb-false, leb-true, and_parts}
use Rattle.kc_reading.specs.Reading.{Exact, ByteThen}
use Rattle.kc_reading.proofs.Readers.{exact-words, exact-byte, exact-cases}
use Rattle.kc_insn.specs.declared.rex.Rex.{Rex}
use Rattle.kc_insn.specs.Fields.{worth, IsRex}
use Rattle.kc_insn.specs.Table.{Form, lookup, one_byte, two_byte}
use Rattle.kc_insn.specs.Spells.{permits, Draft, IsTail, cs_bytes, Spelled, in_one_byte, in_two_bytes, after_f3, short_nop, long_nop}
use Rattle.kc_decode.specs.declared.fault.DraftFault.TheVariants.{Short}
use Rattle.kc_decode.specs.Reading.{is_short, plain_at, f3_at, after_2e_at, after_66_at, after_65_at, draft_at}
use Rattle.kc_decode.proofs.Rows.{one-apart, gs-no_row, f3-no_row, pad-no_row, cs-no_row, rex_byte}
use Rattle.kc_decode.proofs.Drafts.{Opened, one, two, heads, rex-is, exact-plain, mov-tail}
use Rattle.kc_decode.proofs.AfterF3.{F3Spelled, f3, exact-f3}
use Rattle.kc_decode.proofs.Nops.{NopSpelled, nop, After66, exact-after_2e, exact-after_66}

-- ---- the first byte

pub data First (b : ℕ) (bs : List ℕ) (d : Draft) : Type 0 where
  gs_first : b ≡ 0x65 → Opened true bs d → First b bs d
  f3_first : b ≡ 0xF3 → F3Spelled bs d → First b bs d
  pad_first : b ≡ 0x66 → After66 bs d → First b bs d
  cs_first : b ≡ 0x2E → NopSpelled bs d → First b bs d
  plain_first : (b ≡ 0x65 → ⊥) → (b ≡ 0xF3 → ⊥) → (b ≡ 0x66 → ⊥) → (b ≡ 0x2E → ⊥) → Opened false (b ∷ bs) d
      → First b bs d

opened-gs : (bs : List ℕ) (d : Draft) → Opened true bs d → Spelled (0x65 ∷ bs) d
opened-gs bs d (one rex rex_bytes op form tail eq is look fits t) =
    in_one_byte true rex rex_bytes op form tail (ap (λ (x : List ℕ). 0x65 ∷ x) eq) is look fits t
opened-gs bs d (two rex rex_bytes op form tail eq is look fits t) =
    in_two_bytes true rex rex_bytes op form tail (ap (λ (x : List ℕ). 0x65 ∷ x) eq) is look fits t

opened-plain : (bs : List ℕ) (d : Draft) → Opened false bs d → Spelled bs d
opened-plain bs d (one rex rex_bytes op form tail eq is look fits t) =
    in_one_byte false rex rex_bytes op form tail eq is look fits t
opened-plain bs d (two rex rex_bytes op form tail eq is look fits t) =
    in_two_bytes false rex rex_bytes op form tail eq is look fits t

f3-spelled : (bs : List ℕ) (d : Draft) → F3Spelled bs d → Spelled (0xF3 ∷ bs) d
f3-spelled bs d (f3 rex rex_bytes op form tail eq is look fits t) =
    after_f3 rex rex_bytes op form tail (ap (λ (x : List ℕ). 0xF3 ∷ x) eq) is look fits t

nop-spelled : (n : ℕ) (cs : Bool) (rest : List ℕ) (d : Draft) → 0 < n + worth cs 1 → NopSpelled rest d
    → Spelled (replicate n 0x66 ++ (cs_bytes cs ++ rest)) d
nop-spelled n cs rest d some (nop rex rex_bytes tail eq is fits t) =
    long_nop n cs rex rex_bytes tail some (ap (λ (x : List ℕ). replicate n 0x66 ++ (cs_bytes cs ++ x)) eq) is fits t

pub first-to : (b : ℕ) (bs : List ℕ) (d : Draft) → First b bs d → Spelled (b ∷ bs) d
first-to b bs d (gs_first e h) = subst (λ (k : ℕ). Spelled (k ∷ bs) d) (sym e) (opened-gs bs d h)
first-to b bs d (f3_first e h) = subst (λ (k : ℕ). Spelled (k ∷ bs) d) (sym e) (f3-spelled bs d h)
first-to b bs d (pad_first e (inl h)) = short_nop (ap (λ (k : ℕ). k ∷ bs) e ∙ ap (λ (t : List ℕ). 0x66 ∷ t) h.0) h.1
first-to b bs d (pad_first e (inr h)) =
    let made : Spelled (0x66 ∷ (replicate h.0 0x66 ++ (cs_bytes h.1 ++ h.2))) d =
    nop-spelled (suc h.0) h.1 h.2 d (omega arith) h.4 in
    subst (λ (t : List ℕ). Spelled t d) (sym (ap (λ (k : ℕ). k ∷ bs) e ∙ ap (λ (t : List ℕ). 0x66 ∷ t) h.3)) made
first-to b bs d (cs_first e h) = subst (λ (k : ℕ). Spelled (k ∷ bs) d) (sym e) (nop-spelled 0 true bs d (lit< tt) h)
first-to b bs d (plain_first n1 n2 n3 n4 h) = opened-plain (b ∷ bs) d h

no-row : (key op : ℕ) (form : Form) → lookup key one_byte ≡ None → lookup op one_byte ≡ Some form → op ≡ key → ⊥
no-row key op form none look e = let clash : None ≡ Some form = sym none ∙ ap (λ (k : ℕ). lookup k one_byte) (sym e)
    ∙ look in cc

-- REX is from 40 to 4F
rex-range : (b : ℕ) (rex : Rex) → b ≡ rex_byte rex → (64 ≤ b) × (b < 80)
rex-range b rex e = let k = rex-is b rex e in (leb-true 64 b (and_parts (leb 64 b) (ltb b 80) k.0).0, k.2)

first-one : (b : ℕ) (bs : List ℕ) (d : Draft) (rex : Option Rex) (rex_bytes : List ℕ) (op : ℕ) (form : Form)
    (tail : List ℕ) → b ∷ bs ≡ rex_bytes ++ op ∷ tail
    → IsRex rex_bytes rex → lookup op one_byte ≡ Some form → permits form false rex ≡ true
    → IsTail form false rex tail d → First b bs d
first-one b bs d None rex_bytes op form tail eq is look fits t =
    let e = heads b op bs tail (eq ∙ ap (λ (x : List ℕ). x ++ op ∷ tail) is) in
    plain_first (λ k. no-row 0x65 op form gs-no_row look (sym e.0 ∙ k))
    (λ k. no-row 0xF3 op form f3-no_row look (sym e.0 ∙ k))
    (λ k. no-row 0x66 op form pad-no_row look (sym e.0 ∙ k)) (λ k. no-row 0x2E op form cs-no_row look (sym e.0 ∙ k))
    (one None rex_bytes op form tail eq is look fits t)
first-one b bs d (Some rex) rex_bytes op form tail eq is look fits t =
    let e = heads b (rex_byte rex) bs (op ∷ tail) (eq ∙ ap (λ (x : List ℕ). x ++ op ∷ tail) is) in
    let k = rex-range b rex e.0 in
    plain_first (λ m. omega (arith, k.0, k.1)) (λ m. omega (arith, k.0, k.1)) (λ m. omega (arith, k.0, k.1))
    (λ m. omega (arith, k.0, k.1)) (one (Some rex) rex_bytes op form tail eq is look fits t)

first-two : (b : ℕ) (bs : List ℕ) (d : Draft) (rex : Option Rex) (rex_bytes : List ℕ) (op : ℕ) (form : Form)
    (tail : List ℕ) → b ∷ bs ≡ rex_bytes ++ 0x0F ∷ op ∷ tail
    → IsRex rex_bytes rex → lookup op two_byte ≡ Some form → permits form false rex ≡ true
    → IsTail form false rex tail d → First b bs d
first-two b bs d None rex_bytes op form tail eq is look fits t =
    let e = heads b 0x0F bs (op ∷ tail) (eq ∙ ap (λ (x : List ℕ). x ++ 0x0F ∷ op ∷ tail) is) in
    let k = e.0 in
    plain_first (λ m. omega arith) (λ m. omega arith) (λ m. omega arith) (λ m. omega arith)
    (two None rex_bytes op form tail eq is look fits t)
first-two b bs d (Some rex) rex_bytes op form tail eq is look fits t =
    let e = heads b (rex_byte rex) bs (0x0F ∷ op ∷ tail) (eq ∙ ap (λ (x : List ℕ). x ++ 0x0F ∷ op ∷ tail) is) in
    let k = rex-range b rex e.0 in
    plain_first (λ m. omega (arith, k.0, k.1)) (λ m. omega (arith, k.0, k.1)) (λ m. omega (arith, k.0, k.1))
    (λ m. omega (arith, k.0, k.1)) (two (Some rex) rex_bytes op form tail eq is look fits t)

first-nop : (b : ℕ) (bs : List ℕ) (d : Draft) (n : ℕ) (cs : Bool) (rest : List ℕ) → 0 < n + worth cs 1
    → b ∷ bs ≡ replicate n 0x66 ++ (cs_bytes cs ++ rest) → NopSpelled rest d → First b bs d
first-nop b bs d zero false rest some eq h = absurd (omega arith)
first-nop b bs d zero true rest some eq h =
    let e = heads b 0x2E bs rest eq in cs_first e.0 (subst (λ (t : List ℕ). NopSpelled t d) (sym e.1) h)
first-nop b bs d (suc n) cs rest some eq h =
    let e = heads b 0x66 bs (replicate n 0x66 ++ (cs_bytes cs ++ rest)) eq in pad_first e.0 (inr (n, cs, rest, e.1, h))

pub first-of : (b : ℕ) (bs : List ℕ) (d : Draft) → Spelled (b ∷ bs) d → First b bs d
first-of b bs d (in_one_byte true rex rex_bytes op form tail eq is look fits t) =
    let e = heads b 0x65 bs (rex_bytes ++ op ∷ tail) eq in
    gs_first e.0 (one rex rex_bytes op form tail e.1 is look fits t)
first-of b bs d (in_one_byte false rex rex_bytes op form tail eq is look fits t) =
    first-one b bs d rex rex_bytes op form tail eq is look fits t
first-of b bs d (in_two_bytes true rex rex_bytes op form tail eq is look fits t) =
    let e = heads b 0x65 bs (rex_bytes ++ 0x0F ∷ op ∷ tail) eq in
    gs_first e.0 (two rex rex_bytes op form tail e.1 is look fits t)
first-of b bs d (in_two_bytes false rex rex_bytes op form tail eq is look fits t) =
    first-two b bs d rex rex_bytes op form tail eq is look fits t
first-of b bs d (after_f3 rex rex_bytes op form tail eq is look fits t) =
    let e = heads b 0xF3 bs (rex_bytes ++ 0x0F ∷ op ∷ tail) eq in
    f3_first e.0 (f3 rex rex_bytes op form tail e.1 is look fits t)
first-of b bs d (short_nop eq is) = let e = heads b 0x66 bs (0x90 ∷ []) eq in pad_first e.0 (inl (e.1, is))
first-of b bs d (long_nop n cs rex rex_bytes tail some eq is fits t) =
    first-nop b bs d n cs (rex_bytes ++ 0x0F ∷ 0x1F ∷ tail) some eq (nop rex rex_bytes tail refl is fits t)

-- ---- each branch

opened-first : (gs : Bool) (b : ℕ) (bs : List ℕ) (d : Draft) → Opened gs (b ∷ bs) d → b < 256
opened-first gs b bs d (one None rex_bytes op form tail eq is look fits t) =
    let e = heads b op bs tail (eq ∙ ap (λ (x : List ℕ). x ++ op ∷ tail) is) in
    subst (λ (k : ℕ). k < 256) (sym e.0) (one-apart op form look).1
opened-first gs b bs d (one (Some rex) rex_bytes op form tail eq is look fits t) =
    let e = heads b (rex_byte rex) bs (op ∷ tail) (eq ∙ ap (λ (x : List ℕ). x ++ op ∷ tail) is) in
    let k = (rex-range b rex e.0).1 in omega (arith, k)
opened-first gs b bs d (two None rex_bytes op form tail eq is look fits t) =
    let e = heads b 0x0F bs (op ∷ tail) (eq ∙ ap (λ (x : List ℕ). x ++ 0x0F ∷ op ∷ tail) is) in omega (arith, e.0)
opened-first gs b bs d (two (Some rex) rex_bytes op form tail eq is look fits t) =
    let e = heads b (rex_byte rex) bs (0x0F ∷ op ∷ tail) (eq ∙ ap (λ (x : List ℕ). x ++ 0x0F ∷ op ∷ tail) is) in
    let k = (rex-range b rex e.0).1 in omega (arith, k)

opened-empty : (gs : Bool) (d : Draft) → Opened gs [] d → ⊥
opened-empty gs d (one None rex_bytes op form tail eq is look fits t) = let e : [] ≡ op ∷ tail = eq
    ∙ ap (λ (x : List ℕ). x ++ op ∷ tail) is in cc
opened-empty gs d (one (Some rex) rex_bytes op form tail eq is look fits t) = let e : [] ≡ rex_byte rex ∷ op ∷ tail =
    eq ∙ ap (λ (x : List ℕ). x ++ op ∷ tail) is in cc
opened-empty gs d (two None rex_bytes op form tail eq is look fits t) = let e : [] ≡ 0x0F ∷ op ∷ tail = eq
    ∙ ap (λ (x : List ℕ). x ++ 0x0F ∷ op ∷ tail) is in cc
opened-empty gs d (two (Some rex) rex_bytes op form tail eq is look fits t) =
    let e : [] ≡ rex_byte rex ∷ 0x0F ∷ op ∷ tail = eq ∙ ap (λ (x : List ℕ). x ++ 0x0F ∷ op ∷ tail) is in cc

opened-split : (gs : Bool) (bs : List ℕ) (d : Draft) → Opened gs bs d
    → ByteThen (λ b back y. Opened gs (b ∷ back) y) bs d
opened-split gs [] d h = absurd (opened-empty gs d h)
opened-split gs (b ∷ bs) d h = (b, bs, opened-first gs b bs d h, h, refl)

mov-opened : (gs : Bool) → (bs : List ℕ) × (d : Draft) × Opened gs (0x89 ∷ bs) d
mov-opened gs = let t = mov-tail gs None in
    ((8 * 0 + 4) ∷ 0 ∷ [], t.0, one None [] 0x89 t.1.0 ((8 * 0 + 4) ∷ 0 ∷ []) refl refl t.1.1 t.1.2 t.1.3)

exact-after_65 : Exact is_short after_65_at (Opened true)
unfolding after_65_at
exact-after_65 =
    let m = mov-opened true in
    exact-words is_short after_65_at (ByteThen (λ b back y. Opened true (b ∷ back) y)) (Opened true)
    (exact-byte is_short Short refl (λ b bs. plain_at true b bs) (λ b back y. Opened true (b ∷ back) y)
    (λ b fits. exact-plain true b) (0x89, m.0, m.1, lit< tt, m.2))
    (λ bs d h. subst (λ (t : List ℕ). Opened true t d) (sym h.4) h.3) (opened-split true)

-- what one branch has of an instruction that begins with b
only-gs : (b : ℕ) (bs : List ℕ) (d : Draft) → b ≡ 0x65 → First b bs d → Opened true bs d
only-gs b bs d e (gs_first k h) = h
only-gs b bs d e (f3_first k h) = absurd (omega arith)
only-gs b bs d e (pad_first k h) = absurd (omega arith)
only-gs b bs d e (cs_first k h) = absurd (omega arith)
only-gs b bs d e (plain_first n1 n2 n3 n4 h) = absurd (n1 e)

only-f3 : (b : ℕ) (bs : List ℕ) (d : Draft) → b ≡ 0xF3 → First b bs d → F3Spelled bs d
only-f3 b bs d e (gs_first k h) = absurd (omega arith)
only-f3 b bs d e (f3_first k h) = h
only-f3 b bs d e (pad_first k h) = absurd (omega arith)
only-f3 b bs d e (cs_first k h) = absurd (omega arith)
only-f3 b bs d e (plain_first n1 n2 n3 n4 h) = absurd (n2 e)

only-pad : (b : ℕ) (bs : List ℕ) (d : Draft) → b ≡ 0x66 → First b bs d → After66 bs d
only-pad b bs d e (gs_first k h) = absurd (omega arith)
only-pad b bs d e (f3_first k h) = absurd (omega arith)
only-pad b bs d e (pad_first k h) = h
only-pad b bs d e (cs_first k h) = absurd (omega arith)
only-pad b bs d e (plain_first n1 n2 n3 n4 h) = absurd (n3 e)

only-cs : (b : ℕ) (bs : List ℕ) (d : Draft) → b ≡ 0x2E → First b bs d → NopSpelled bs d
only-cs b bs d e (gs_first k h) = absurd (omega arith)
only-cs b bs d e (f3_first k h) = absurd (omega arith)
only-cs b bs d e (pad_first k h) = absurd (omega arith)
only-cs b bs d e (cs_first k h) = h
only-cs b bs d e (plain_first n1 n2 n3 n4 h) = absurd (n4 e)

only-plain : (b : ℕ) (bs : List ℕ) (d : Draft) → (b ≡ 0x65 → ⊥) → (b ≡ 0xF3 → ⊥) → (b ≡ 0x66 → ⊥) → (b ≡ 0x2E → ⊥)
    → First b bs d → Opened false (b ∷ bs) d
only-plain b bs d m1 m2 m3 m4 (gs_first k h) = absurd (m1 k)
only-plain b bs d m1 m2 m3 m4 (f3_first k h) = absurd (m2 k)
only-plain b bs d m1 m2 m3 m4 (pad_first k h) = absurd (m3 k)
only-plain b bs d m1 m2 m3 m4 (cs_first k h) = absurd (m4 k)
only-plain b bs d m1 m2 m3 m4 (plain_first n1 n2 n3 n4 h) = h

exact-first : (b : ℕ)
    → Exact is_short (λ bs. cond (eqb b 0x65) (after_65_at bs)
    (cond (eqb b 0xF3) (f3_at bs) (cond (eqb b 0x66) (after_66_at bs)
    (cond (eqb b 0x2E) (after_2e_at bs) (plain_at false b bs))))) (First b)
exact-first b =
    exact-cases is_short (eqb b 0x65) after_65_at
    (λ bs. cond (eqb b 0xF3) (f3_at bs) (cond (eqb b 0x66) (after_66_at bs)
    (cond (eqb b 0x2E) (after_2e_at bs) (plain_at false b bs)))) (First b)
    (λ e. let is = eqb-true b 0x65 e in
    exact-words is_short after_65_at (Opened true) (First b) exact-after_65 (λ bs d h. gs_first is h)
    (λ bs d h. only-gs b bs d is h))
    (λ e1. exact-cases is_short (eqb b 0xF3) f3_at
    (λ bs. cond (eqb b 0x66) (after_66_at bs) (cond (eqb b 0x2E) (after_2e_at bs) (plain_at false b bs))) (First b)
    (λ e. let is = eqb-true b 0xF3 e in
    exact-words is_short f3_at F3Spelled (First b) exact-f3 (λ bs d h. f3_first is h) (λ bs d h. only-f3 b bs d is h))
    (λ e2. exact-cases is_short (eqb b 0x66) after_66_at
    (λ bs. cond (eqb b 0x2E) (after_2e_at bs) (plain_at false b bs)) (First b)
    (λ e. let is = eqb-true b 0x66 e in
    exact-words is_short after_66_at After66 (First b) exact-after_66 (λ bs d h. pad_first is h)
    (λ bs d h. only-pad b bs d is h))
    (λ e3. exact-cases is_short (eqb b 0x2E) after_2e_at (plain_at false b) (First b)
    (λ e. let is = eqb-true b 0x2E e in
    exact-words is_short after_2e_at NopSpelled (First b) exact-after_2e (λ bs d h. cs_first is h)
    (λ bs d h. only-cs b bs d is h))
    (λ e4. let m1 = eqb-false b 0x65 e1 in let m2 = eqb-false b 0xF3 e2 in let m3 = eqb-false b 0x66 e3 in
    let m4 = eqb-false b 0x2E e4 in
    exact-words is_short (plain_at false b) (λ bs d. Opened false (b ∷ bs) d) (First b) (exact-plain false b)
    (λ bs d h. plain_first m1 m2 m3 m4 h) (λ bs d h. only-plain b bs d m1 m2 m3 m4 h)))))

-- ---- all of it

first-below : (b : ℕ) (bs : List ℕ) (d : Draft) → First b bs d → b < 256
first-below b bs d (gs_first k h) = omega arith
first-below b bs d (f3_first k h) = omega arith
first-below b bs d (pad_first k h) = omega arith
first-below b bs d (cs_first k h) = omega arith
first-below b bs d (plain_first n1 n2 n3 n4 h) = opened-first false b bs d h

pub spelled-empty : (d : Draft) → Spelled [] d → ⊥
spelled-empty d (in_one_byte true rex rex_bytes op form tail eq is look fits t) = cc
spelled-empty d (in_one_byte false rex rex_bytes op form tail eq is look fits t) =
    opened-empty false d (one rex rex_bytes op form tail eq is look fits t)
spelled-empty d (in_two_bytes true rex rex_bytes op form tail eq is look fits t) = cc
spelled-empty d (in_two_bytes false rex rex_bytes op form tail eq is look fits t) =
    opened-empty false d (two rex rex_bytes op form tail eq is look fits t)
spelled-empty d (after_f3 rex rex_bytes op form tail eq is look fits t) = cc
spelled-empty d (short_nop eq is) = cc
spelled-empty d (long_nop (suc n) cs rex rex_bytes tail some eq is fits t) = cc
spelled-empty d (long_nop zero true rex rex_bytes tail some eq is fits t) = cc
spelled-empty d (long_nop zero false rex rex_bytes tail some eq is fits t) = omega arith

spelled-split : (bs : List ℕ) (d : Draft) → Spelled bs d → ByteThen First bs d
spelled-split [] d h = absurd (spelled-empty d h)
spelled-split (b ∷ bs) d h = let f = first-of b bs d h in (b, bs, first-below b bs d f, f, refl)

pub exact-draft : Exact is_short draft_at Spelled
unfolding draft_at
exact-draft =
    let m = mov-opened false in
    exact-words is_short draft_at (ByteThen First) Spelled
    (exact-byte is_short Short refl (λ b bs. cond (eqb b 0x65) (after_65_at bs)
    (cond (eqb b 0xF3) (f3_at bs) (cond (eqb b 0x66) (after_66_at bs)
    (cond (eqb b 0x2E) (after_2e_at bs) (plain_at false b bs)))))
    First (λ b fits. exact-first b) (
      0x89,
      m.0,
      m.1,
      lit< tt,
      plain_first (λ e. omega arith) (λ e. omega arith) (λ e. omega arith) (λ e. omega arith) m.2,
    ))
    (λ bs d h. subst (λ (t : List ℕ). Spelled t d) (sym h.4) (first-to h.0 h.1 d h.3)) spelled-split
