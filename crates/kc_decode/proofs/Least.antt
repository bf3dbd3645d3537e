-- The least number of bytes of a padded NOP that begins so: no spelling that the bytes begin is shorter (`lower`), and
-- some spelling that they begin is exactly so long (`reached`). From the operand outwards, a byte at a time: a record
-- Least is carried over a wanted byte, REX, 2E and any number of 66. A missing byte is filled up with a SIB byte 0 or a
-- register, whichever REX.X asks for. omega adds up.
use Rattle.std.proofs.Common.{◌≡◌, ℕ, zero, suc, ◌+◌, ◌*◌, ◌<◌, ◌≤◌, Bool, true, false, cond, eqb, List, [], ◌∷◌, ◌++◌, length, replicate, Option, Some, None, ◌⊎◌, inl, inr, refl, sym, ap, subst, ◌∙◌, arith, lit<}
use Rattle.std.proofs.lemmas.Bool.{eq-eqb, ne_eqb}
use Rattle.std.proofs.lemmas.List.{length-replicate, length-append}
use Rattle.kc_reading.specs.Reading.{ByteThen}
use Rattle.kc_insn.specs.declared.insn.Insn.TheVariants as insn
use Rattle.kc_insn.specs.declared.insn.Base.TheVariants as base
use Rattle.kc_insn.specs.declared.insn.Place.{Place}
use Rattle.kc_insn.specs.declared.insn.Place.TheVariants as place
use Rattle.kc_insn.specs.declared.rex.Rex.{Rex}
use Rattle.kc_insn.specs.Fields.{x_bit, signed, disp_bytes, base_of, index_of, no_sib, sib, IsRm, in_register, in_memory, IsOperand}
use Rattle.kc_insn.specs.Table.{rm_unused}
use Rattle.kc_insn.specs.Spells.{Draft, whole, IsTail, cs_bytes}
use Rattle.kc_decode.specs.Reading.{mode_field, rm_field, is_rex, rex_of, least_sib, least_operand, least_nop_tail, least_escape, least_nop, least_padded, least_66}
use Rattle.kc_decode.proofs.Operands.{zero_number, IsNumber-zeros, fields-back}
use Rattle.kc_decode.proofs.Drafts.{heads}
use Rattle.kc_decode.proofs.Nops.{NopSpelled, NopTail, NopEscape, Padded, After66, nop-to, nop-back, nop-plain_back, nop-tests, nop, more-66, padded-not_90}

-- m gives the least length of what begins so and is spelled
pub record Least {A : Type 0} (S : List ℕ → A → Type 0) (m : List ℕ → ℕ) : Type 0 where
  pub lower : (bs more : List ℕ) (x : A) → S (bs ++ more) x → m bs ≤ length (bs ++ more)
  pub reached : (bs more : List ℕ) (x : A) → S (bs ++ more) x → (end : List ℕ) × (y : A) × S (bs ++ end) y
      × (length (bs ++ end) ≡ m bs)

-- ---- the operand

disp-zero : (mode field : ℕ) → disp_bytes mode 0 ≤ disp_bytes mode field
disp-zero mode field = go (eqb mode 0) (eqb mode 1) (eqb field 5)
  where
    go : (a b c : Bool) → cond a (cond false 4 0) (cond b 1 4) ≤ cond a (cond c 4 0) (cond b 1 4)
    go true b true = omega arith
    go true b false = omega arith
    go false true c = omega arith
    go false false c = omega arith

module _ (gs : Bool) (rex : Option Rex) where
  abbrev Rest : ℕ → ℕ → List ℕ → Type 0
  Rest mode rm rest = (p : Place) × IsRm gs rex mode rm rest p

  -- what stands after a ModRM byte is this long
  rest-length : (mode rm : ℕ) (rest : List ℕ) (p : Place) → IsRm gs rex mode rm rest p
      → ((mode ≡ 3) × (length rest ≡ 0) × (x_bit rex ≡ false))
      ⊎ (((rm ≡ 4 → ⊥) × (mode < 3) × (length rest ≡ disp_bytes mode rm) × (x_bit rex ≡ false))
      ⊎ ((rm ≡ 4) × (mode < 3)
      × ((s : ℕ) × (more : List ℕ) × (rest ≡ s ∷ more) × (length more ≡ disp_bytes mode (rm_field s)))))
  rest-length mode rm rest p (in_register three g x none is) = inl (three, ap (λ (l : List ℕ). length l) none, x)
  rest-length mode rm rest p (in_memory mem below (no_sib disp other x num m) is) = inr (inl (other, below, num.1.0, x))
  rest-length mode rm rest p (in_memory mem below (sib scale index field more disp four hs hi hf bytes num m) is) =
      let f = fields-back scale index field hs hi hf in
      inr (inr (
        four,
        below,
        (
          64 * scale + 8 * index + field,
          more,
          bytes,
          num.1.0
              ∙ ap (λ (k : ℕ). disp_bytes mode k) (sym f.2),
        ),
      ))

  -- a SIB byte 0 and a displacement 0
  zero-sib : (mode : ℕ) → mode < 3
      → IsRm gs rex mode 4 (0 ∷ replicate (disp_bytes mode 0) 0)
      (place.Mem (record {
        gs = gs;
        base = base_of base.Absent rex mode 0;
        index = index_of rex 0 0;
        disp =
            signed (disp_bytes mode 0) (zero_number (disp_bytes mode 0));
      }))
  zero-sib mode below =
      let n : ℕ = disp_bytes mode 0 in
      in_memory (record {
        gs = gs;
        base = base_of base.Absent rex mode 0;
        index = index_of rex 0 0;
        disp =
            signed n (zero_number n);
      }) below
      (sib 0 0 0 (replicate n 0) (signed n (zero_number n)) refl (lit< tt) (lit< tt) (lit< tt) refl
      (zero_number n, IsNumber-zeros n, refl) refl) refl

  abbrev pub Operand0 : List ℕ → Place → Type 0
  Operand0 bs p = IsOperand gs rex 0 bs p

  operand-lower : (bs more : List ℕ) (p : Place) → Operand0 (bs ++ more) p
      → least_operand (x_bit rex) bs ≤ length (bs ++ more)
  operand-lower [] more p o =
      elim (rest-length o.mode o.rm o.rest p o.operand_is) [
        | inl h ↦ let none = h.2 in rw none (omega (arith, ap (λ (l : List ℕ). length l) o.modrm))
        | inr k ↦ elim k [
          | inl h ↦ let none = h.3 in rw none (omega (arith, ap (λ (l : List ℕ). length l) o.modrm))
          | inr h ↦ small (x_bit rex) (length more) (omega
              (arith, ap (λ (l : List ℕ). length l) o.modrm, ap (λ (l : List ℕ). length l) h.2.2))
        ]
      ]
    where
      small : (x : Bool) (n : ℕ) → 2 ≤ n → cond x 2 1 ≤ n
      small true n h = h
      small false n h = omega arith
  operand-lower (m ∷ bs) more p o =
      let f = fields-back o.mode 0 o.rm o.mode_range o.reg_range o.rm_range in
      let e = heads m (64 * o.mode + 8 * 0 + o.rm) (bs ++ more) o.rest o.modrm in
      let mode-is : mode_field m ≡ o.mode = ap mode_field e.0 ∙ f.0 in
      let rm-is : rm_field m ≡ o.rm = ap rm_field e.0 ∙ f.2 in
      subst (λ (k : ℕ). cond (eqb k 3) 1 (cond (eqb (rm_field m) 4) (2 + least_sib k bs)
      (1 + disp_bytes k (rm_field m))) ≤ suc (length (bs ++ more))) (sym mode-is)
      (subst (λ (k : ℕ). cond (eqb o.mode 3) 1 (cond (eqb k 4) (2 + least_sib o.mode bs)
      (1 + disp_bytes o.mode k)) ≤ suc (length (bs ++ more))) (sym rm-is)
      (elim (rest-length o.mode o.rm o.rest p o.operand_is) [
        | inl h ↦ let t = eq-eqb o.mode 3 h.0 in rw t (omega arith)
        | inr k ↦ elim k [
          | inl h ↦
              let t = ne_eqb o.mode 3 (λ q. omega (arith, h.1)) in let u = ne_eqb o.rm 4 h.0 in
              rw (t, u) (omega (arith, ap (λ (l : List ℕ). length l) e.1, h.2))
          | inr h ↦
              let t = ne_eqb o.mode 3 (λ q. omega (arith, h.1)) in let u = eq-eqb o.rm 4 h.0 in
              rw (t, u) (sib-lower o.mode bs more h.2.0 h.2.1 (e.1 ∙ h.2.2) h.2.3)
        ]
      ]))
    where
      sib-lower : (mode : ℕ) (bs more : List ℕ) (s : ℕ) (rest : List ℕ) → bs ++ more ≡ s ∷ rest
          → length rest ≡ disp_bytes mode (rm_field s) → 2 + least_sib mode bs ≤ suc (length (bs ++ more))
      sib-lower mode [] more s rest q n = let small = disp-zero mode (rm_field s) in
          omega (arith, ap (λ (l : List ℕ). length l) q)
      sib-lower mode (c ∷ bs) more s rest q n =
          let k = heads c s (bs ++ more) rest q in
          let same : disp_bytes mode (rm_field c) ≡ disp_bytes mode (rm_field s) =
          ap (λ (v : ℕ). disp_bytes mode (rm_field v)) k.0 in
          omega (arith, ap (λ (l : List ℕ). length l) k.1)

  operand-reached : (bs more : List ℕ) (p : Place) → Operand0 (bs ++ more) p → (end : List ℕ) × (q : Place)
      × Operand0 (bs ++ end) q × (length (bs ++ end) ≡ least_operand (x_bit rex) bs)
  operand-reached [] more p o = start (x_bit rex) refl
    where
      start : (x : Bool) → x_bit rex ≡ x → (end : List ℕ) × (q : Place) × Operand0 end q × (length end ≡ cond x 2 1)
      start true ex = (
        4 ∷ 0 ∷ [],
        _,
        record {
          mode = 0;
          rm = 4;
          rest = 0 ∷ [];
          mode_range = lit< tt;
          reg_range =
              lit< tt;
          rm_range = lit< tt;
          modrm = refl;
          operand_is = zero-sib 0 (lit< tt);
        },
        refl,
      )
      start false ex = (
        0 ∷ [],
        _,
        record {
          mode = 0;
          rm = 0;
          rest = [];
          mode_range = lit< tt;
          reg_range = lit< tt;
          rm_range = lit< tt;
          modrm = refl;
          operand_is = in_memory (record {
            gs = gs;
            base = base_of base.Rip rex 0 0;
            index = None;
            disp =
                signed 0 (zero_number 0);
          }) (lit< tt) (no_sib (signed 0 (zero_number 0)) (λ e. omega arith) ex
              (zero_number 0, IsNumber-zeros 0, refl) refl) refl;
        },
        refl,
      )
  operand-reached (m ∷ bs) more p o =
      let f = fields-back o.mode 0 o.rm o.mode_range o.reg_range o.rm_range in
      let e = heads m (64 * o.mode + 8 * 0 + o.rm) (bs ++ more) o.rest o.modrm in
      let mode-is : mode_field m ≡ o.mode = ap mode_field e.0 ∙ f.0 in
      let rm-is : rm_field m ≡ o.rm = ap rm_field e.0 ∙ f.2 in
      let Goal : ℕ → Type 0 = λ n. (end : List ℕ) × (q : Place) × Operand0 ((m ∷ bs) ++ end) q
      × (suc (length (bs ++ end)) ≡ n) in
      subst (λ (k : ℕ). Goal (cond (eqb k 3) 1 (cond (eqb (rm_field m) 4) (2 + least_sib k bs)
      (1 + disp_bytes k (rm_field m))))) (sym mode-is)
      (subst (λ (k : ℕ). Goal (cond (eqb o.mode 3) 1
      (cond (eqb k 4) (2 + least_sib o.mode bs) (1 + disp_bytes o.mode k)))) (sym rm-is)
      (elim (rest-length o.mode o.rm o.rest p o.operand_is) [
        | inl h ↦ let t = eq-eqb o.mode 3 h.0 in
            rw t (more, p, o, omega (arith, ap (λ (l : List ℕ). length l) e.1, h.1))
        | inr k ↦ elim k [
          | inl h ↦
              let t = ne_eqb o.mode 3 (λ q. omega (arith, h.1)) in let u = ne_eqb o.rm 4 h.0 in
              rw (t, u) (more, p, o, omega (arith, ap (λ (l : List ℕ). length l) e.1, h.2))
          | inr h ↦
              let t = ne_eqb o.mode 3 (λ q. omega (arith, h.1)) in let u = eq-eqb o.rm 4 h.0 in
              rw (t, u) (sib-reached bs h.2.0 h.2.1 (e.1 ∙ h.2.2) h.2.3 h.0 h.1 o)
        ]
      ]))
    where
      sib-reached : (l : List ℕ) (s : ℕ) (rest : List ℕ) → l ++ more ≡ s ∷ rest
          → length rest ≡ disp_bytes o.mode (rm_field s) → o.rm ≡ 4 → o.mode < 3 → Operand0 (m ∷ (l ++ more)) p
          → (end : List ℕ) × (q : Place) × Operand0 (m ∷ (l ++ end)) q
          × (suc (length (l ++ end)) ≡ 2 + least_sib o.mode l)
      sib-reached [] s rest q n four below whole_operand = (
        0 ∷ replicate (disp_bytes o.mode 0) 0,
        _,
        record {
          mode = o.mode;
          rm = 4;
          rest = 0 ∷ replicate (disp_bytes o.mode 0) 0;
          mode_range = o.mode_range;
          reg_range = lit< tt;
          rm_range = lit< tt;
          modrm = ap (λ (k : ℕ). k ∷ 0 ∷ replicate (disp_bytes o.mode 0) 0)
              ((heads m (64 * o.mode + 8 * 0 + o.rm) (bs ++ more) o.rest o.modrm).0
              ∙ ap (λ (k : ℕ). 64 * o.mode + 8 * 0 + k) four);
          operand_is = zero-sib o.mode below;
        },
        omega (arith, length-replicate {A = ℕ} (disp_bytes o.mode 0) 0),
      )
      sib-reached (c ∷ l) s rest q n four below whole_operand =
          let k = heads c s (l ++ more) rest q in
          let same : disp_bytes o.mode (rm_field c) ≡ disp_bytes o.mode (rm_field s) =
          ap (λ (v : ℕ). disp_bytes o.mode (rm_field v)) k.0 in
          (more, p, whole_operand, omega (arith, ap (λ (v : List ℕ). length v) k.1))

-- ---- the layers around it

-- an operand that isn't used
least-unused : (rex : Option Rex) → Least (IsTail rm_unused false rex) (least_operand (x_bit rex))
least-unused rex = record {
  lower = λ bs more d h. operand-lower false rex bs more h.0 h.1;
  reached = λ bs more d h. let r = operand-reached false rex bs more h.0 h.1 in
      (r.0, whole insn.Nop, (r.1, r.2, refl), r.3);
}

-- a wanted byte in front
abbrev after : (List ℕ → ℕ) → List ℕ → ℕ
after m [] = 1 + m []
after m (b ∷ bs) = 1 + m bs

least-wanted : {A : Type 0} (key : ℕ) → key < 256 → (S : List ℕ → A → Type 0) (m : List ℕ → ℕ) → Least S m
    → Least (ByteThen (λ b rest x. (b ≡ key) × S rest x)) (after m)
least-wanted {A} key below S m least = record { lower = low; reached = reach }
  where
    low : (bs more : List ℕ) (x : A) → ByteThen (λ b rest x. (b ≡ key) × S rest x) (bs ++ more) x
        → after m bs ≤ length (bs ++ more)
    low [] more x h = let k = least.lower [] h.1 x h.3.1 in omega (arith, k, ap (λ (l : List ℕ). length l) h.4)
    low (b ∷ bs) more x h =
        let e = heads b h.0 (bs ++ more) h.1 h.4 in
        let k = least.lower bs more x (subst (λ (l : List ℕ). S l x) (sym e.1) h.3.1) in omega (arith, k)

    reach : (bs more : List ℕ) (x : A) → ByteThen (λ b rest x. (b ≡ key) × S rest x) (bs ++ more) x → (end : List ℕ)
        × (y : A) × ByteThen (λ b rest x. (b ≡ key) × S rest x) (bs ++ end) y × (length (bs ++ end) ≡ after m bs)
    reach [] more x h =
        let r = least.reached [] h.1 x h.3.1 in
        (key ∷ r.0, r.1, (key, r.0, below, (refl, r.2), refl), omega (arith, r.3))
    reach (b ∷ bs) more x h =
        let e = heads b h.0 (bs ++ more) h.1 h.4 in
        let r = least.reached bs more x (subst (λ (l : List ℕ). S l x) (sym e.1) h.3.1) in
        (r.0, r.1, (h.0, bs ++ r.0, h.2, (h.3.0, r.2), ap (λ (k : ℕ). k ∷ (bs ++ r.0)) e.0), omega (arith, r.3))

same-tail : (x : Bool) (bs : List ℕ) → after (least_operand x) bs ≡ least_nop_tail x bs
same-tail x [] = refl
same-tail x (b ∷ bs) = refl

same-escape : (x : Bool) (bs : List ℕ) → after (after (least_operand x)) bs ≡ least_escape x bs
same-escape x [] = refl
same-escape x (b ∷ bs) = ap (λ (k : ℕ). 1 + k) (same-tail x bs)

least-tail : (rex : Option Rex) → Least (NopTail rex) (after (least_operand (x_bit rex)))
least-tail rex = least-wanted 0x1F (lit< tt) (IsTail rm_unused false rex) (least_operand (x_bit rex)) (least-unused rex)

least-escape : (rex : Rex) → Least (NopEscape rex) (after (after (least_operand rex.x)))
least-escape rex = least-wanted 0x0F (lit< tt) (NopTail (Some rex)) (after (least_operand rex.x))
    (least-tail (Some rex))

-- ---- the long NOP

zero-nop-here : NopSpelled (0x0F ∷ 0x1F ∷ 0 ∷ []) (whole insn.Nop)
zero-nop-here =
    nop None [] (0 ∷ []) refl refl refl (_, zero-one, refl)
  where
    zero-one : IsOperand false None 0 (0 ∷ []) (place.Mem
        (record { gs = false; base = base_of base.Rip None 0 0; index = None; disp = signed 0 (zero_number 0) }))
    zero-one = record {
      mode = 0;
      rm = 0;
      rest = [];
      mode_range = lit< tt;
      reg_range = lit< tt;
      rm_range = lit< tt;
      modrm = refl;
      operand_is = in_memory (record {
        gs = false;
        base = base_of base.Rip None 0 0;
        index = None;
        disp =
            signed 0 (zero_number 0);
      }) (lit< tt) (no_sib (signed 0 (zero_number 0)) (λ e. omega arith) refl
          (zero_number 0, IsNumber-zeros 0, refl) refl) refl;
    }

operand-some : (rex : Option Rex) (bs : List ℕ) (d : Draft) → IsTail rm_unused false rex bs d → 1 ≤ length bs
operand-some rex bs d h = omega (arith, ap (λ (l : List ℕ). length l) h.1.modrm)

nop-some : (bs : List ℕ) (d : Draft) → NopSpelled bs d → 3 ≤ length bs
nop-some bs d (nop None rex_bytes tail eq is fits t) =
    let k = operand-some None tail d t in
    omega (arith, k, ap (λ (l : List ℕ). length l) (eq ∙ ap (λ (x : List ℕ). x ++ 0x0F ∷ 0x1F ∷ tail) is))
nop-some bs d (nop (Some rex) rex_bytes tail eq is fits t) =
    let k = operand-some (Some rex) tail d t in
    omega (arith, k, ap (λ (l : List ℕ). length l) (eq ∙ ap (λ (x : List ℕ). x ++ 0x0F ∷ 0x1F ∷ tail) is))

nop-lower : (bs more : List ℕ) (d : Draft) → NopSpelled (bs ++ more) d → least_nop bs ≤ length (bs ++ more)
nop-lower [] more d h = nop-some more d h
nop-lower (b ∷ bs) more d h = go (is_rex b) refl
  where
    go : (t : Bool) → is_rex b ≡ t
        → cond (is_rex b) (1 + least_escape (rex_of b).x bs) (1 + least_nop_tail false bs) ≤ suc (length (bs ++ more))
    go true r =
        let k = (least-escape (rex_of b)).lower bs more d (nop-back b r (bs ++ more) d h).0 in
        let e = same-escape (rex_of b).x bs in rw r (omega (arith, k, e))
    go false r =
        let k = (least-tail None).lower bs more d (nop-plain_back b r (bs ++ more) d h).1 in
        let e = same-tail false bs in rw r (omega (arith, k, e))

nop-reached : (bs more : List ℕ) (d : Draft) → NopSpelled (bs ++ more) d → (end : List ℕ) × (c : Draft)
    × NopSpelled (bs ++ end) c × (length (bs ++ end) ≡ least_nop bs)
nop-reached [] more d h = (0x0F ∷ 0x1F ∷ 0 ∷ [], whole insn.Nop, zero-nop-here, refl)
nop-reached (b ∷ bs) more d h = go (is_rex b) refl
  where
    go : (t : Bool) → is_rex b ≡ t → (end : List ℕ) × (c : Draft) × NopSpelled (b ∷ (bs ++ end)) c
        × (suc (length (bs ++ end)) ≡ cond (is_rex b) (1 + least_escape (rex_of b).x bs) (1 + least_nop_tail false bs))
    go true r =
        let k = nop-back b r (bs ++ more) d h in
        let z = (least-escape (rex_of b)).reached bs more d k.0 in
        let e = same-escape (rex_of b).x bs in
        rw r (z.0, z.1, nop-to b r k.1 (bs ++ z.0) z.1 z.2, omega (arith, z.3, e))
    go false r =
        let k = nop-plain_back b r (bs ++ more) d h in
        let z = (least-tail None).reached bs more d k.1 in
        let e = same-tail false bs in
        let t = z.2 in
        rw r (
          z.0,
          z.1,
          nop None [] t.1 (ap (λ (n : ℕ). n ∷ (bs ++ z.0)) k.0
              ∙ ap (λ (l : List ℕ). 0x0F ∷ l) (t.4 ∙ ap (λ (n : ℕ). n ∷ t.1) t.3.0)) refl refl t.3.1,
          omega (arith, z.3, e),
        )

pub least-nop : Least NopSpelled least_nop
least-nop = record { lower = nop-lower; reached = nop-reached }

-- ---- padding

-- the first byte of padding and what is after it
padded-case : (b : ℕ) (bs : List ℕ) (d : Draft) → Padded (b ∷ bs) d
    → ((b ≡ 0x66) × Padded bs d)
    ⊎ (((b ≡ 0x2E) × NopSpelled bs d) ⊎ ((eqb b 0x66 ≡ false) × (eqb b 0x2E ≡ false) × NopSpelled (b ∷ bs) d))
padded-case b bs d h = go h.0 h.1 h.2 h.3 h.4
  where
    go : (n : ℕ) (cs : Bool) (rest : List ℕ) → b ∷ bs ≡ replicate n 0x66 ++ (cs_bytes cs ++ rest) → NopSpelled rest d
        → ((b ≡ 0x66) × Padded bs d)
        ⊎ (((b ≡ 0x2E) × NopSpelled bs d) ⊎ ((eqb b 0x66 ≡ false) × (eqb b 0x2E ≡ false) × NopSpelled (b ∷ bs) d))
    go (suc n) cs rest e s = let k = heads b 0x66 bs (replicate n 0x66 ++ (cs_bytes cs ++ rest)) e in
        inl (k.0, (n, cs, rest, k.1, s))
    go zero true rest e s = let k = heads b 0x2E bs rest e in
        inr (inl (k.0, subst (λ (l : List ℕ). NopSpelled l d) (sym k.1) s))
    go zero false rest e s =
        let whole_nop : NopSpelled (b ∷ bs) d = subst (λ (l : List ℕ). NopSpelled l d) (sym e) s in
        let t = nop-tests b bs d whole_nop in inr (inr (t.0, t.1, whole_nop))

padded-some : (bs : List ℕ) (d : Draft) → Padded bs d → 3 ≤ length bs
padded-some bs d h =
    let k = nop-some h.2 d h.4 in
    omega (
      arith,
      k,
      ap (λ (l : List ℕ). length l) h.3,
      length-append (replicate h.0 0x66) (cs_bytes h.1 ++ h.2),
      length-append (cs_bytes h.1) h.2,
    )

padded-lower : (bs more : List ℕ) (d : Draft) → Padded (bs ++ more) d → least_padded bs ≤ length (bs ++ more)
unfolding least_padded
padded-lower [] more d h = padded-some more d h
padded-lower (b ∷ bs) more d h =
    elim (padded-case b (bs ++ more) d h) [
      | inl k ↦ let t = eq-eqb b 0x66 k.0 in let r = padded-lower bs more d k.1 in rw t (omega (arith, r))
      | inr m ↦ elim m [
        | inl k ↦ let t = ap (λ (n : ℕ). eqb n 0x66) k.0 in let u = eq-eqb b 0x2E k.0 in
            let r = nop-lower bs more d k.1 in rw (t, u) (omega (arith, r))
        | inr k ↦ let t = k.0 in let u = k.1 in rw (t, u) (nop-lower (b ∷ bs) more d k.2)
      ]
    ]

padded-reached : (bs more : List ℕ) (d : Draft) → Padded (bs ++ more) d → (end : List ℕ) × (c : Draft)
    × Padded (bs ++ end) c × (length (bs ++ end) ≡ least_padded bs)
unfolding least_padded
padded-reached [] more d h =
    (0x0F ∷ 0x1F ∷ 0 ∷ [], whole insn.Nop, (0, false, 0x0F ∷ 0x1F ∷ 0 ∷ [], refl, zero-nop-here), refl)
padded-reached (b ∷ bs) more d h =
    elim (padded-case b (bs ++ more) d h) [
      | inl k ↦
          let t = eq-eqb b 0x66 k.0 in let r = padded-reached bs more d k.1 in
          rw t (r.0, r.1, more-66 b k.0 (bs ++ r.0) r.1 r.2, omega (arith, r.3))
      | inr m ↦ elim m [
        | inl k ↦
            let t = ap (λ (n : ℕ). eqb n 0x66) k.0 in let u = eq-eqb b 0x2E k.0 in let r = nop-reached bs more d k.1 in
            rw (t, u) (r.0, r.1, (0, true, bs ++ r.0, ap (λ (n : ℕ). n ∷ (bs ++ r.0)) k.0, r.2), omega (arith, r.3))
        | inr k ↦
            let t = k.0 in let u = k.1 in let r = nop-reached (b ∷ bs) more d k.2 in
            rw (t, u) (r.0, r.1, (0, false, b ∷ (bs ++ r.0), refl, r.2), r.3)
      ]
    ]

pub least-after_66 : Least After66 least_66
least-after_66 = record { lower = low; reached = reach }
  where
    low : (bs more : List ℕ) (d : Draft) → After66 (bs ++ more) d → least_66 bs ≤ length (bs ++ more)
    low [] more d (inl h) = omega (arith, ap (λ (l : List ℕ). length l) h.0)
    low [] more d (inr h) = let k = padded-some more d h in omega (arith, k)
    low (b ∷ bs) more d (inl h) = let t = eq-eqb b 0x90 (heads b 0x90 (bs ++ more) [] h.0).0 in rw t (omega arith)
    low (b ∷ bs) more d (inr h) = let t = padded-not_90 h.0 h.1 h.2 d b (bs ++ more) h.4 h.3 in
        rw t (padded-lower (b ∷ bs) more d h)

    reach : (bs more : List ℕ) (d : Draft) → After66 (bs ++ more) d → (end : List ℕ) × (c : Draft)
        × After66 (bs ++ end) c × (length (bs ++ end) ≡ least_66 bs)
    reach [] more d h = (0x90 ∷ [], whole insn.Nop, inl (refl, refl), refl)
    reach (b ∷ bs) more d (inl h) = let t = eq-eqb b 0x90 (heads b 0x90 (bs ++ more) [] h.0).0 in
        rw t (more, d, inl h, omega (arith, ap (λ (l : List ℕ). length l) h.0))
    reach (b ∷ bs) more d (inr h) =
        let t = padded-not_90 h.0 h.1 h.2 d b (bs ++ more) h.4 h.3 in
        let r = padded-reached (b ∷ bs) more d h in rw t (r.0, r.1, inr r.2, r.3)
