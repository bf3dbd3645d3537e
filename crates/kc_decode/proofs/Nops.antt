-- Padding prefixes and the long NOP after them are read exactly as the grammar has them.
-- The NOP itself as in Drafts, by its bytes. Any number of 66 by induction on the bytes, since no byte but 66, 2E, REX
-- and 0F goes on; then the first 66, after which 90 is the short NOP.
use Rattle.std.proofs.Common.{◌≡◌, ℕ, zero, suc, ◌+◌, ◌*◌, ◌<◌, ◌≤◌, Bool, true, false, cond, ◌||◌, eqb, ltb, leb, List, [], ◌∷◌, ◌++◌, length, replicate, Option, Some, None, Ok, Err, ◌⊎◌, inl, inr, refl, sym, ap, subst, ◌∙◌, arith, lit<}
use Rattle.std.proofs.lemmas.Bool.{eqb-true, eqb-false, leb-true, and_parts}
use Rattle.kc_reading.specs.Reading.{AreBytes, Exact, ByteThen}
use Rattle.kc_rules.proofs.AnswerLemmas.{ok_is}
use Rattle.kc_reading.proofs.Readers.{exact-none, exact-words, exact-byte, exact-cases}
use Rattle.kc_insn.specs.declared.insn.Insn.TheVariants as insn
use Rattle.kc_insn.specs.declared.insn.Place.TheVariants as place
use Rattle.kc_insn.specs.declared.rex.Rex.{Rex}
use Rattle.kc_insn.specs.Fields.{IsRex}
use Rattle.kc_insn.specs.Table.{rm_unused}
use Rattle.kc_insn.specs.Spells.{permits, permits_rex, Draft, whole, IsTail, cs_bytes}
use Rattle.kc_decode.specs.declared.fault.DraftFault.{DraftFault}
use Rattle.kc_decode.specs.declared.fault.DraftFault.TheVariants.{Short, Unknown}
use Rattle.kc_decode.specs.Reading.{is_short, tail_at, is_rex, rex_of, nop_tail_at, nop_escape_at, nop_at, after_2e_at, padded_at, after_66_at}
use Rattle.kc_decode.proofs.Tails.{exact-rm_unused, zero_mem, zero-operand}
use Rattle.kc_rules.proofs.TestLemmas.{chosen}
use Rattle.kc_decode.proofs.Rows.{rex-bytes, rex_byte}
use Rattle.kc_decode.proofs.Drafts.{heads, rex-is}
use Rattle.kc_decode.proofs.AfterF3.{exact-wanted}

-- ---- a long NOP after its padding

pub data NopSpelled (bytes : List ℕ) (d : Draft) : Type 0 where
  nop : (rex : Option Rex) (rex_bytes tail : List ℕ) → bytes ≡ rex_bytes ++ 0x0F ∷ 0x1F ∷ tail
      → IsRex rex_bytes rex → permits rm_unused false rex ≡ true → IsTail rm_unused false rex tail d
      → NopSpelled bytes d

abbrev pub NopTail : Option Rex → List ℕ → Draft → Type 0
NopTail rex = ByteThen (λ op back d. (op ≡ 0x1F) × IsTail rm_unused false rex back d)

pub zero-nop : (rex : Option Rex) → (back : List ℕ) × (d : Draft) × IsTail rm_unused false rex back d
zero-nop rex = (
  (8 * 0 + 4) ∷ 0 ∷ [],
  whole insn.Nop,
  (place.Mem (zero_mem false rex), zero-operand false rex 0 (lit< tt), refl),
)

pub exact-nop_tail : (rex : Option Rex) → Exact is_short (nop_tail_at rex) (NopTail rex)
unfolding nop_tail_at
exact-nop_tail rex =
    exact-wanted 0x1F (lit< tt) (tail_at rm_unused false rex) (IsTail rm_unused false rex) (exact-rm_unused false rex)
    (zero-nop rex)

abbrev pub NopEscape : Rex → List ℕ → Draft → Type 0
NopEscape rex = ByteThen (λ e back d. (e ≡ 0x0F) × NopTail (Some rex) back d)

pub some-nop : (rex : Option Rex) → (back : List ℕ) × (d : Draft) × NopTail rex back d
some-nop rex = let z = zero-nop rex in (0x1F ∷ z.0, z.1, (0x1F, z.0, lit< tt, (refl, z.2), refl))

pub exact-nop_escape : (rex : Rex) → Exact is_short (nop_escape_at rex) (NopEscape rex)
unfolding nop_escape_at
exact-nop_escape rex =
    exact-wanted 0x0F (lit< tt) (nop_tail_at (Some rex)) (NopTail (Some rex)) (exact-nop_tail (Some rex))
    (some-nop (Some rex))

pub nop-permits : (w r x b : Bool) → (w || r) ≡ false
    → permits_rex rm_unused (Some (record { w = w; r = r; x = x; b = b })) ≡ true
nop-permits true r x b h = absurd cc
nop-permits false true x b h = absurd cc
nop-permits false false true true h = refl
nop-permits false false true false h = refl
nop-permits false false false true h = refl
nop-permits false false false false h = refl

pub nop-no_wr : (w r x b : Bool) → permits_rex rm_unused (Some (record { w = w; r = r; x = x; b = b })) ≡ true
    → (w || r) ≡ false
nop-no_wr true r x b h = absurd cc
nop-no_wr false true x b h = absurd cc
nop-no_wr false false x b h = refl

pub nop-to : (b : ℕ) → is_rex b ≡ true → ((rex_of b).w || (rex_of b).r) ≡ false → (bs : List ℕ) (d : Draft)
    → NopEscape (rex_of b) bs d → NopSpelled (b ∷ bs) d
nop-to b r wr bs d h =
    let k = h.3.1 in
    let eq : bs ≡ 0x0F ∷ 0x1F ∷ k.1 = h.4 ∙ ap (λ (t : ℕ). t ∷ h.1) h.3.0
    ∙ ap (λ (t : List ℕ). 0x0F ∷ t) (k.4 ∙ ap (λ (t : ℕ). t ∷ k.1) k.3.0) in
    nop (Some (rex_of b)) (b ∷ []) k.1 (ap (λ (t : List ℕ). b ∷ t) eq) (rex-bytes b r)
    (nop-permits (rex_of b).w (rex_of b).r (rex_of b).x (rex_of b).b wr) k.3.1

pub nop-back : (b : ℕ) → is_rex b ≡ true → (bs : List ℕ) (d : Draft) → NopSpelled (b ∷ bs) d
    → NopEscape (rex_of b) bs d × (((rex_of b).w || (rex_of b).r) ≡ false)
nop-back b r bs d (nop None rex_bytes tail eq is fits t) =
    let e = heads b 0x0F bs (0x1F ∷ tail) (eq ∙ ap (λ (x : List ℕ). x ++ 0x0F ∷ 0x1F ∷ tail) is) in
    let clash : true ≡ false = sym r ∙ ap is_rex e.0 in absurd cc
nop-back b r bs d (nop (Some rex) rex_bytes tail eq is fits t) =
    let e = heads b (rex_byte rex) bs (0x0F ∷ 0x1F ∷ tail) (eq ∙ ap (λ (x : List ℕ). x ++ 0x0F ∷ 0x1F ∷ tail) is) in
    let k = rex-is b rex e.0 in
    let t2 : IsTail rm_unused false (Some (rex_of b)) tail d =
    subst (λ (x : Rex). IsTail rm_unused false (Some x) tail d) (sym k.1) t in (
      (0x0F, 0x1F ∷ tail, lit< tt, (refl, (0x1F, tail, lit< tt, (refl, t2), refl)), e.1),
      ap (λ (x : Rex). x.w || x.r) k.1 ∙ nop-no_wr rex.w rex.r rex.x rex.b fits,
    )

pub nop-plain_back : (b : ℕ) → is_rex b ≡ false → (bs : List ℕ) (d : Draft) → NopSpelled (b ∷ bs) d → (b ≡ 0x0F)
    × NopTail None bs d
nop-plain_back b r bs d (nop None rex_bytes tail eq is fits t) =
    let e = heads b 0x0F bs (0x1F ∷ tail) (eq ∙ ap (λ (x : List ℕ). x ++ 0x0F ∷ 0x1F ∷ tail) is) in
    (e.0, (0x1F, tail, lit< tt, (refl, t), e.1))
nop-plain_back b r bs d (nop (Some rex) rex_bytes tail eq is fits t) =
    let e = heads b (rex_byte rex) bs (0x0F ∷ 0x1F ∷ tail) (eq ∙ ap (λ (x : List ℕ). x ++ 0x0F ∷ 0x1F ∷ tail) is) in
    let clash : true ≡ false = sym (rex-is b rex e.0).0 ∙ r in absurd cc

pub exact-nop : (b : ℕ) → Exact is_short (nop_at b) (λ bs d. NopSpelled (b ∷ bs) d)
unfolding nop_at
exact-nop b =
    let S : List ℕ → Draft → Type 0 = λ bs d. NopSpelled (b ∷ bs) d in
    let wr : Bool = (rex_of b).w || (rex_of b).r in
    exact-cases is_short (is_rex b) (λ bs. cond wr (Err Unknown) (nop_escape_at (rex_of b) bs))
    (λ bs. cond (eqb b 0x0F) (nop_tail_at None bs) (Err Unknown)) S
    (λ r. exact-cases is_short wr (λ bs. Err Unknown) (nop_escape_at (rex_of b)) S
    (λ w. exact-words is_short (λ bs. Err Unknown) (λ bs d. ⊥) S (exact-none is_short Unknown refl) (λ bs d h. absurd h)
    (λ bs d h. let clash : true ≡ false = sym w ∙ (nop-back b r bs d h).1 in cc))
    (λ w. exact-words is_short (nop_escape_at (rex_of b)) (NopEscape (rex_of b)) S (exact-nop_escape (rex_of b))
    (nop-to b r w) (λ bs d h. (nop-back b r bs d h).0)))
    (λ r. exact-cases is_short (eqb b 0x0F) (nop_tail_at None) (λ bs. Err Unknown) S
    (λ e. exact-words is_short (nop_tail_at None) (NopTail None) S (exact-nop_tail None)
    (λ bs d h. nop None [] h.1 (ap (λ (k : ℕ). k ∷ bs) (eqb-true b 0x0F e)
    ∙ ap (λ (t : List ℕ). 0x0F ∷ t) (h.4 ∙ ap (λ (t : ℕ). t ∷ h.1) h.3.0)) refl refl h.3.1)
    (λ bs d h. (nop-plain_back b r bs d h).1))
    (λ e. exact-words is_short (λ bs. Err Unknown) (λ bs d. ⊥) S (exact-none is_short Unknown refl) (λ bs d h. absurd h)
    (λ bs d h. eqb-false b 0x0F e (nop-plain_back b r bs d h).0)))

-- the first byte is 0F or REX
pub nop-first : (b : ℕ) (bs : List ℕ) (d : Draft) → NopSpelled (b ∷ bs) d → (b ≡ 0x0F) ⊎ ((64 ≤ b) × (b < 80))
nop-first b bs d (nop None rex_bytes tail eq is fits t) =
    inl (heads b 0x0F bs (0x1F ∷ tail) (eq ∙ ap (λ (x : List ℕ). x ++ 0x0F ∷ 0x1F ∷ tail) is)).0
nop-first b bs d (nop (Some rex) rex_bytes tail eq is fits t) =
    let e = heads b (rex_byte rex) bs (0x0F ∷ 0x1F ∷ tail) (eq ∙ ap (λ (x : List ℕ). x ++ 0x0F ∷ 0x1F ∷ tail) is) in
    let k = rex-is b rex e.0 in
    inr (leb-true 64 b (and_parts (leb 64 b) (ltb b 80) k.0).0, k.2)

pub nop-empty : (d : Draft) → NopSpelled [] d → ⊥
nop-empty d (nop None rex_bytes tail eq is fits t) = let e : [] ≡ 0x0F ∷ 0x1F ∷ tail = eq
    ∙ ap (λ (x : List ℕ). x ++ 0x0F ∷ 0x1F ∷ tail) is in cc
nop-empty d (nop (Some rex) rex_bytes tail eq is fits t) = let e : [] ≡ rex_byte rex ∷ 0x0F ∷ 0x1F ∷ tail = eq
    ∙ ap (λ (x : List ℕ). x ++ 0x0F ∷ 0x1F ∷ tail) is in cc

pub nop-split : (bs : List ℕ) (d : Draft) → NopSpelled bs d → ByteThen (λ b back y. NopSpelled (b ∷ back) y) bs d
nop-split [] d h = absurd (nop-empty d h)
nop-split (b ∷ bs) d h =
    (b, bs, elim (nop-first b bs d h) [ inl e ↦ omega arith | inr k ↦ omega (arith, k.1) ], h, refl)

pub zero-nop_spelled : (bs : List ℕ) × (d : Draft) × NopSpelled (0x0F ∷ bs) d
zero-nop_spelled = let z = zero-nop None in (0x1F ∷ z.0, z.1, nop None [] z.0 refl refl refl z.2)

pub exact-after_2e : Exact is_short after_2e_at NopSpelled
unfolding after_2e_at
exact-after_2e =
    let z = zero-nop_spelled in
    exact-words is_short after_2e_at (ByteThen (λ b back y. NopSpelled (b ∷ back) y)) NopSpelled
    (exact-byte is_short Short refl (λ b bs. nop_at b bs) (λ b back y. NopSpelled (b ∷ back) y) (λ b fits. exact-nop b)
    (0x0F, z.0, z.1, lit< tt, z.2))
    (λ bs d h. subst (λ (t : List ℕ). NopSpelled t d) (sym h.4) h.3) nop-split

-- ---- any number of 66, then at most one 2E

abbrev pub Padded : List ℕ → Draft → Type 0
Padded bs d = (n : ℕ) × (cs : Bool) × (rest : List ℕ) × (bs ≡ replicate n 0x66 ++ (cs_bytes cs ++ rest))
    × NopSpelled rest d

-- one more byte 66
pub more-66 : (b : ℕ) → b ≡ 0x66 → (bs : List ℕ) (d : Draft) → Padded bs d → Padded (b ∷ bs) d
more-66 b is bs d h = (suc h.0, h.1, h.2, ap (λ (k : ℕ). k ∷ bs) is ∙ ap (λ (t : List ℕ). 0x66 ∷ t) h.3, h.4)

pub nop-tests : (b : ℕ) (bs : List ℕ) (d : Draft) → NopSpelled (b ∷ bs) d → (eqb b 0x66 ≡ false) × (eqb b 0x2E ≡ false)
nop-tests b bs d h = (
  go 0x66 (λ e. elim (nop-first b bs d h) [ inl k ↦ omega arith | inr k ↦ omega (arith, k.0, k.1) ]),
  go 0x2E (λ e. elim (nop-first b bs d h) [ inl k ↦ omega arith | inr k ↦ omega (arith, k.0, k.1) ]),
)
  where
    at : (key : ℕ) → (b ≡ key → ⊥) → (t : Bool) → eqb b key ≡ t → t ≡ false
    at key other false e = refl
    at key other true e = absurd (other (eqb-true b key e))

    go : (key : ℕ) → (b ≡ key → ⊥) → eqb b key ≡ false
    go key other = at key other (eqb b key) refl

pub padded-takes : (bs rest : List ℕ) (d : Draft) → AreBytes bs → padded_at bs ≡ Ok (d, rest) → (front : List ℕ)
    × Padded front d × (bs ≡ front ++ rest)
unfolding padded_at
padded-takes [] rest d fits h = absurd cc
padded-takes (b ∷ bs) rest d fits h =
    elim (chosen (eqb b 0x66) (padded_at bs) (cond (eqb b 0x2E) (after_2e_at bs) (nop_at b bs)) (Ok (d, rest)) h) [
      | inl k ↦
          let t = padded-takes bs rest d fits.1 k.1 in
          (b ∷ t.0, more-66 b (eqb-true b 0x66 k.0) t.0 d t.1, ap (λ (l : List ℕ). b ∷ l) t.2)
      | inr k ↦
          elim (chosen (eqb b 0x2E) (after_2e_at bs) (nop_at b bs) (Ok (d, rest)) k.1) [
            | inl m ↦
                let t = exact-after_2e.takes bs rest d fits.1 m.1 in (
                  b ∷ t.0,
                  (0, true, t.0, ap (λ (k : ℕ). k ∷ t.0) (eqb-true b 0x2E m.0), t.1),
                  ap (λ (l : List ℕ). b ∷ l) t.2,
                )
            | inr m ↦
                let t = (exact-nop b).takes bs rest d fits.1 m.1 in
                (b ∷ t.0, (0, false, b ∷ t.0, refl, t.1), ap (λ (l : List ℕ). b ∷ l) t.2)
          ]
    ]

pub padded-again : (n : ℕ) (cs : Bool) (rest more : List ℕ) (d : Draft) → NopSpelled rest d
    → padded_at ((replicate n 0x66 ++ (cs_bytes cs ++ rest)) ++ more) ≡ Ok (d, more)
unfolding padded_at
padded-again (suc n) cs rest more d h = padded-again n cs rest more d h
padded-again zero true rest more d h = exact-after_2e.again rest more d h
padded-again zero false [] more d h = absurd (nop-empty d h)
padded-again zero false (b ∷ rest) more d h =
    let t = nop-tests b rest d h in
    rw (t.0, t.1) ((exact-nop b).again rest more d h)

pub padded-refuses : (bs more : List ℕ) (e : DraftFault) → AreBytes bs → padded_at bs ≡ Err e → is_short e ≡ false
    → padded_at (bs ++ more) ≡ Err e
unfolding padded_at
padded-refuses [] more e fits h s = let same : Short ≡ e = cc in let clash : true ≡ false = ap is_short same ∙ s in
    absurd cc
padded-refuses (b ∷ bs) more e fits h s =
    elim (chosen (eqb b 0x66) (padded_at bs) (cond (eqb b 0x2E) (after_2e_at bs) (nop_at b bs)) (Err e) h) [
      | inl k ↦ let is = k.0 in rw is (padded-refuses bs more e fits.1 k.1 s)
      | inr k ↦
          elim (chosen (eqb b 0x2E) (after_2e_at bs) (nop_at b bs) (Err e) k.1) [
            | inl m ↦ let is = k.0 in let is2 = m.0 in rw (is, is2) (exact-after_2e.refuses bs more e fits.1 m.1 s)
            | inr m ↦ let is = k.0 in let is2 = m.0 in rw (is, is2) ((exact-nop b).refuses bs more e fits.1 m.1 s)
          ]
    ]

pub padded-completes : (bs : List ℕ) (e : DraftFault) → AreBytes bs → padded_at bs ≡ Err e → is_short e ≡ true
    → (more : List ℕ) × (d : Draft) × (0 < length more) × Padded (bs ++ more) d
unfolding padded_at
padded-completes [] e fits h s = let z = zero-nop_spelled in
    (0x0F ∷ z.0, z.1, omega arith, (0, false, 0x0F ∷ z.0, refl, z.2))
padded-completes (b ∷ bs) e fits h s =
    elim (chosen (eqb b 0x66) (padded_at bs) (cond (eqb b 0x2E) (after_2e_at bs) (nop_at b bs)) (Err e) h) [
      | inl k ↦ let c = padded-completes bs e fits.1 k.1 s in
          (c.0, c.1, c.2, more-66 b (eqb-true b 0x66 k.0) (bs ++ c.0) c.1 c.3)
      | inr k ↦
          elim (chosen (eqb b 0x2E) (after_2e_at bs) (nop_at b bs) (Err e) k.1) [
            | inl m ↦ let c = exact-after_2e.completes bs e fits.1 m.1 s in
                (c.0, c.1, c.2, (0, true, bs ++ c.0, ap (λ (k : ℕ). k ∷ (bs ++ c.0)) (eqb-true b 0x2E m.0), c.3))
            | inr m ↦ let c = (exact-nop b).completes bs e fits.1 m.1 s in
                (c.0, c.1, c.2, (0, false, b ∷ (bs ++ c.0), refl, c.3))
          ]
    ]

pub exact-padded : Exact is_short padded_at Padded
exact-padded = record {
  takes = padded-takes;
  again = λ front rest d h. ap (λ (t : List ℕ). padded_at (t ++ rest)) h.3 ∙ padded-again h.0 h.1 h.2 rest d h.4;
  refuses = padded-refuses;
  completes = padded-completes;
}

-- ---- after the first 66

abbrev pub After66 : List ℕ → Draft → Type 0
After66 bs d = ((bs ≡ 0x90 ∷ []) × (d ≡ whole insn.Nop)) ⊎ Padded bs d

-- padding doesn't begin with 90
pub padded-not_90 : (n : ℕ) (cs : Bool) (rest : List ℕ) (d : Draft) (b : ℕ) (bs : List ℕ) → NopSpelled rest d
    → b ∷ bs ≡ replicate n 0x66 ++ (cs_bytes cs ++ rest) → eqb b 0x90 ≡ false
padded-not_90 (suc n) cs rest d b bs h e =
    ap (λ (k : ℕ). eqb k 0x90) (heads b 0x66 bs (replicate n 0x66 ++ (cs_bytes cs ++ rest)) e).0
padded-not_90 zero true rest d b bs h e = ap (λ (k : ℕ). eqb k 0x90) (heads b 0x2E bs rest e).0
padded-not_90 zero false [] d b bs h e = absurd (nop-empty d h)
padded-not_90 zero false (c ∷ rest) d b bs h e =
    let same : b ≡ c = (heads b c bs rest e).0 in
    at (eqb b 0x90) refl (elim (nop-first c rest d h) [ inl k ↦ inl (same ∙ k) | inr k ↦ inr (omega (arith, k.1)) ])
  where
    at : (t : Bool) → eqb b 0x90 ≡ t → (b ≡ 0x0F) ⊎ (b < 80) → t ≡ false
    at false e k = refl
    at true e k = let is : b ≡ 0x90 = eqb-true b 0x90 e in absurd (elim k [ inl m ↦ omega arith | inr m ↦ omega arith ])

pub after_66-takes : (bs rest : List ℕ) (d : Draft) → AreBytes bs → after_66_at bs ≡ Ok (d, rest) → (front : List ℕ)
    × After66 front d × (bs ≡ front ++ rest)
unfolding after_66_at
after_66-takes [] rest d fits h = absurd cc
after_66-takes (b ∷ bs) rest d fits h =
    elim (chosen (eqb b 0x90) (Ok (whole insn.Nop, bs)) (padded_at (b ∷ bs)) (Ok (d, rest)) h) [
      | inl k ↦
          let pair : (whole insn.Nop, bs) ≡ (d, rest) = ok_is {E = DraftFault} (whole insn.Nop, bs) (d, rest) k.1 in (
            0x90 ∷ [],
            inl (refl, sym (ap (λ (p : Draft × List ℕ). p.0) pair)),
            ap (λ (x : ℕ). x ∷ bs) (eqb-true b 0x90 k.0)
                ∙ ap (λ (t : List ℕ). 0x90 ∷ t) (ap (λ (p : Draft × List ℕ). p.1) pair),
          )
      | inr k ↦ let t = exact-padded.takes (b ∷ bs) rest d fits k.1 in (t.0, inr t.1, t.2)
    ]

pub after_66-padded : (front rest : List ℕ) (d : Draft) → Padded front d → after_66_at (front ++ rest) ≡ Ok (d, rest)
unfolding after_66_at
after_66-padded [] rest d h = absurd (go h.0 h.1 h.2 h.3 h.4)
  where
    go : (n : ℕ) (cs : Bool) (l : List ℕ) → [] ≡ replicate n 0x66 ++ (cs_bytes cs ++ l) → NopSpelled l d → ⊥
    go (suc n) cs l e s = cc
    go zero true l e s = cc
    go zero false l e s = nop-empty d (subst (λ (t : List ℕ). NopSpelled t d) (sym e) s)
after_66-padded (b ∷ bs) rest d h =
    let test = padded-not_90 h.0 h.1 h.2 d b bs h.4 h.3 in
    rw test (exact-padded.again (b ∷ bs) rest d h)

pub after_66-again : (front rest : List ℕ) (d : Draft) → After66 front d → after_66_at (front ++ rest) ≡ Ok (d, rest)
unfolding after_66_at
after_66-again front rest d (inl h) = rw (h.0, h.1) refl
after_66-again front rest d (inr h) = after_66-padded front rest d h

pub after_66-refuses : (bs more : List ℕ) (e : DraftFault) → AreBytes bs → after_66_at bs ≡ Err e → is_short e ≡ false
    → after_66_at (bs ++ more) ≡ Err e
unfolding after_66_at
after_66-refuses [] more e fits h s = let same : Short ≡ e = cc in let clash : true ≡ false = ap is_short same ∙ s in
    absurd cc
after_66-refuses (b ∷ bs) more e fits h s =
    elim (chosen (eqb b 0x90) (Ok (whole insn.Nop, bs)) (padded_at (b ∷ bs)) (Err e) h) [
      | inl k ↦ absurd (let clash = k.1 in cc)
      | inr k ↦ let test = k.0 in rw test (exact-padded.refuses (b ∷ bs) more e fits k.1 s)
    ]

pub after_66-completes : (bs : List ℕ) (e : DraftFault) → AreBytes bs → after_66_at bs ≡ Err e → is_short e ≡ true
    → (more : List ℕ) × (d : Draft) × (0 < length more) × After66 (bs ++ more) d
unfolding after_66_at
after_66-completes [] e fits h s = (0x90 ∷ [], whole insn.Nop, omega arith, inl (refl, refl))
after_66-completes (b ∷ bs) e fits h s =
    elim (chosen (eqb b 0x90) (Ok (whole insn.Nop, bs)) (padded_at (b ∷ bs)) (Err e) h) [
      | inl k ↦ absurd (let clash = k.1 in cc)
      | inr k ↦ let c = exact-padded.completes (b ∷ bs) e fits k.1 s in (c.0, c.1, c.2, inr c.3)
    ]

pub exact-after_66 : Exact is_short after_66_at After66
exact-after_66 = record {
  takes = after_66-takes;
  again = after_66-again;
  refuses = after_66-refuses;
  completes =
      after_66-completes;
}
