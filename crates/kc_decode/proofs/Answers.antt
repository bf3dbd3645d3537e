-- What the decoder answers, by the grammar.
-- By exact-draft, a draft is read exactly; each clause of decode goes by cases on what it read. Ok: the bytes that were
-- taken are spelled so, and are at most fifteen or the answer is TooLong. Short: some bytes complete a spelling, within
-- fifteen exactly where `fits` holds (Least says how long it is at least, Bounds that only padding makes it longer).
-- Unknown: no spelling begins so. omega is left lengths.
use Rattle.std.proofs.Common.{◌≡◌, ℕ, suc, ◌+◌, ◌-◌, ◌%◌, ◌^◌, ◌<◌, ◌≤◌, Bool, true, false, cond, eqb, ltb, leb, nat_lt, None, lit<, List, [], ◌∷◌, ◌++◌, length, get_or, take, drop, Result, Ok, Err, inl, inr, refl, sym, ap, subst, ◌∙◌, arith}
use Rattle.std.proofs.lemmas.List.{append-nil, length-append, take_at, take-append-drop, length-take, length-drop}
use Rattle.std.proofs.lemmas.Bool.{ltb-false, le-ltb, eq-eqb, le-leb, leb-true, ne_eqb}
use Rattle.std.specs.Prelude.{IfOk, ◌↔◌}
use Rattle.std.specs.Int.{w64, cast_unsigned}
use Rattle.kc_insn.specs.declared.insn.Insn.{Insn}
use Rattle.kc_reading.proofs.Readers.{exact-unique, exact-short}
use Rattle.kc_decode.specs.declared.fault.DraftFault.{DraftFault}
use Rattle.kc_decode.specs.declared.fault.DraftFault.TheVariants.{Short, Unknown}
use Rattle.kc_decode.specs.declared.fault.DecodeFault.TheVariants as fault
use Rattle.kc_decode.specs.Begins.{BeginsUnbounded, IsProperPrefix, HasSpelledPrefix}
use Rattle.kc_insn.specs.declared.insn.Insn.TheVariants as insn
use Rattle.kc_insn.specs.Table.{plain, one_byte}
use Rattle.kc_decode.proofs.Least.{least-after_66, least-nop}
use Rattle.kc_decode.proofs.Bounds.{nop-least, opened-small, f3-small}
use Rattle.kc_reading.specs.Reading.{AreBytes}
use Rattle.kc_insn.specs.Spells.{Draft, whole, jump, Spelled, in_one_byte, resolve, Spells}
use Rattle.kc_decode.specs.declared.fault.DecodeFault.{DecodeFault}
use Rattle.kc_rules.specs.Rules.{GivesExactly}
use Rattle.kc_decode.specs.Reading.{is_short, draft_at, least_66, least_nop, fits, bounded, decode_at}
use Rattle.kc_decode.proofs.Whole.{exact-draft, First, gs_first, f3_first, pad_first, cs_first, plain_first, first-of, first-to}

pub are-bytes : (bs : List ℕ) → ((i : ℕ) → get_or bs i 0 < 256) → AreBytes bs
are-bytes [] h = tt
are-bytes (b ∷ bs) h = (h 0, are-bytes bs (λ i. h (suc i)))

pub rest-shorter : (bs : List ℕ) (d : Draft) (rest : List ℕ) → ((i : ℕ) → get_or bs i 0 < 256)
    → draft_at bs ≡ Ok (d, rest) → length rest ≤ length bs
rest-shorter bs d rest fits h =
    let t = exact-draft.takes bs rest d (are-bytes bs fits) h in
    omega (arith, ap (λ (l : List ℕ). length l) t.2, length-append t.0 rest)

-- ---- addresses are modulo 2^64

target-mod : (n : ℕ) (u : ℕ) → (n % 2 ^ 64 + u) % 2 ^ 64 ≡ (n + u) % 2 ^ 64
target-mod n u = omega arith

resolve-mod : (n : ℕ) (d : Draft) → resolve (n % 2 ^ 64) d ≡ resolve n d
resolve-mod n (whole i) = refl
resolve-mod n (jump make z) = ap make (target-mod n (cast_unsigned w64 z))

guard : {A : Type 0} (b : Bool) (e : DecodeFault) (x y : A) → cond b (Err e) (Ok x) ≡ Ok y → (b ≡ false) × (x ≡ y)
guard true e x y h = absurd cc
guard false e x y h = (refl, cc)

abbrev short_answer : Bool → Result (Insn × ℕ) DecodeFault
short_answer b = cond b (Err fault.Short) (Err fault.TooLong)

short-not_ok : (b : Bool) (x : Insn × ℕ) → short_answer b ≡ Ok x → ⊥
short-not_ok true x k = cc
short-not_ok false x k = cc

short-not_unknown : (b : Bool) → short_answer b ≡ Err fault.Unknown → ⊥
short-not_unknown true k = cc
short-not_unknown false k = cc

abbrev fails : DraftFault → Result (Draft × List ℕ) DraftFault
fails e = Err e

abbrev answers : DecodeFault → Result (Insn × ℕ) DecodeFault
answers e = Err e

fails-is : (e f : DraftFault) → fails e ≡ fails f → e ≡ f
fails-is e f h = cc

-- no instruction is spelled by no byte
spelled-some : (bs : List ℕ) (d : Draft) → Spelled bs d → 0 < length bs
unfolding draft_at
spelled-some [] d h = let read : draft_at [] ≡ Ok (d, []) = exact-draft.again [] [] d h in absurd cc
spelled-some (b ∷ bs) d h = omega arith

-- ---- what is answered

module _ (bs : List ℕ) (at : ℕ) (fit : AreBytes bs) where
  front-found : (d : Draft) (rest : List ℕ) (insn : Insn) (n : ℕ) → draft_at bs ≡ Ok (d, rest)
      → bounded bs at (Ok (d, rest)) ≡ Ok (insn, n) → (n ≤ length bs) × Spells (take n bs) at insn
  front-found d rest insn n h e =
      let t = exact-draft.takes bs rest d fit h in
      let len : length bs ≡ length t.0 + length rest =
      omega (arith, ap (λ (l : List ℕ). length l) t.2, length-append t.0 rest) in
      let g = guard (nat_lt 15 (length bs - length rest)) fault.TooLong
      (resolve ((at + (length bs - length rest)) % 2 ^ 64) d, length bs - length rest) (insn, n) e in
      let small : length bs - length rest ≤ 15 = ltb-false 15 (length bs - length rest) g.0 in
      let n-is : length bs - length rest ≡ n = ap (λ (p : Insn × ℕ). p.1) g.1 in
      let len-is : length t.0 ≡ n = omega (arith, n-is, len) in
      let front-is : take n bs ≡ t.0 = ap (take n) t.2 ∙ take_at t.0 rest n len-is in
      let insn-is : insn ≡ resolve (at + length t.0) d =
      sym (ap (λ (p : Insn × ℕ). p.0) g.1) ∙ resolve-mod (at + (length bs - length rest)) d
      ∙ ap (λ (k : ℕ). resolve (at + k) d) (n-is ∙ sym len-is) in (
        omega (arith, len, len-is),
        subst (λ (l : List ℕ). Spells l at insn) (sym front-is)
            (omega (arith, small, n-is, len-is), (d, t.1, insn-is)),
      )

  decoded-found : (insn : Insn) (n : ℕ) → decode_at bs at ≡ Ok (insn, n) → (n ≤ length bs) × Spells (take n bs) at insn
  unfolding decode_at
  decoded-found insn n h = go (draft_at bs) refl h
    where
      go : (r : Result (Draft × List ℕ) DraftFault) → draft_at bs ≡ r → bounded bs at r ≡ Ok (insn, n)
          → (n ≤ length bs) × Spells (take n bs) at insn
      go (Ok d) e k = front-found d.0 d.1 insn n e k
      go (Err Short) e k = absurd (short-not_ok (fits bs) (insn, n) k)
      go (Err Unknown) e k = absurd cc

  -- a front that is spelled is what the draft is
  front-draft : (n : ℕ) (d : Draft) → Spelled (take n bs) d → draft_at bs ≡ Ok (d, drop n bs)
  front-draft n d h = ap draft_at (sym (take-append-drop n bs)) ∙ exact-draft.again (take n bs) (drop n bs) d h

  decoded-only : (n : ℕ) (insn : Insn) → n ≤ length bs → Spells (take n bs) at insn → decode_at bs at ≡ Ok (insn, n)
  unfolding decode_at
  decoded-only n insn le h =
      let d = h.1.0 in
      let one = front-draft n d h.1.1 in
      let len : length (take n bs) ≡ n = omega (arith, length-take n bs) in
      let rest : length bs - length (drop n bs) ≡ n = omega (arith, length-drop n bs) in
      let small : ltb 15 (length bs - length (drop n bs)) ≡ false =
      le-ltb 15 (length bs - length (drop n bs)) (omega (arith, rest, h.0, len)) in
      let insn-is : resolve ((at + (length bs - length (drop n bs))) % 2 ^ 64) d ≡ insn =
      resolve-mod (at + (length bs - length (drop n bs))) d ∙ ap (λ (k : ℕ). resolve (at + k) d) (rest ∙ sym len)
      ∙ sym h.1.2 in
      let two : bounded bs at (Ok (d, drop n bs)) ≡ Ok
      (resolve ((at + (length bs - length (drop n bs))) % 2 ^ 64) d, length bs - length (drop n bs)) =
      ap (λ (b : Bool). cond b (Err fault.TooLong) (Ok
      (resolve ((at + (length bs - length (drop n bs))) % 2 ^ 64) d, length bs - length (drop n bs)))) small in
      ap (bounded bs at) one ∙ two ∙ ap (λ (i : Insn). Ok (i, length bs - length (drop n bs))) insn-is
      ∙ ap (λ (k : ℕ). Ok (insn, k)) rest

  -- ---- Unknown

  begins-ok : (d : Draft) (rest : List ℕ) → draft_at bs ≡ Ok (d, rest) → BeginsUnbounded bs at
  begins-ok d rest h =
      let t = exact-draft.takes bs rest d fit h in
      let front-is : take (length t.0) bs ≡ t.0 = ap (take (length t.0)) t.2 ∙ take_at t.0 rest (length t.0) refl in
      inl (
        length t.0,
        resolve (at + length (take (length t.0) bs)) d,
        omega (arith, ap (λ (l : List ℕ). length l) t.2, length-append t.0 rest),
        (d, subst (λ (l : List ℕ). Spelled l d) (sym front-is) t.1, refl),
      )

  begins-short : draft_at bs ≡ Err Short → BeginsUnbounded bs at
  begins-short h =
      let c = exact-draft.completes bs Short fit h refl in
      inr (c.0, resolve (at + length (bs ++ c.0)) c.1, c.2, (c.1, c.3, refl))

  begins-not : (e : DraftFault) → draft_at bs ≡ Err e → is_short e ≡ false → BeginsUnbounded bs at → ⊥
  begins-not e h s (inl b) = let one = front-draft b.0 b.3.0 b.3.1 in
      let clash : fails e ≡ Ok (b.3.0, drop b.0 bs) = sym h ∙ one in cc
  begins-not e h s (inr b) =
      let k = exact-short is_short draft_at Spelled exact-draft bs b.0 b.3.0 fit b.2 b.3.1 in
      let same : e ≡ k.0 = fails-is e k.0 (sym h ∙ k.1) in
      let clash : false ≡ true = sym s ∙ ap is_short same ∙ k.2 in cc

  decoded-unknown : decode_at bs at ≡ Err fault.Unknown → BeginsUnbounded bs at → ⊥
  unfolding decode_at
  decoded-unknown h = go (draft_at bs) refl h
    where
      go : (r : Result (Draft × List ℕ) DraftFault) → draft_at bs ≡ r → bounded bs at r ≡ Err fault.Unknown
          → BeginsUnbounded bs at → ⊥
      go (Ok d) e k b = ok-case (nat_lt 15 (length bs - length d.1))
          (resolve ((at + (length bs - length d.1)) % 2 ^ 64) d.0, length bs - length d.1) k
        where
          ok-case : (t : Bool) (x : Insn × ℕ) → cond t (Err fault.TooLong) (Ok x) ≡ Err fault.Unknown → ⊥
          ok-case true x k = cc
          ok-case false x k = cc
      go (Err Short) e k b = short-not_unknown (fits bs) k
      go (Err Unknown) e k b = begins-not Unknown e refl b

  decoded-not_begun : (BeginsUnbounded bs at → ⊥) → decode_at bs at ≡ Err fault.Unknown
  unfolding decode_at
  decoded-not_begun none = go (draft_at bs) refl
    where
      go : (r : Result (Draft × List ℕ) DraftFault) → draft_at bs ≡ r → bounded bs at (draft_at bs) ≡ Err fault.Unknown
      go (Ok d) e = absurd (none (begins-ok d.0 d.1 e))
      go (Err Short) e = absurd (none (begins-short e))
      go (Err Unknown) e = ap (bounded bs at) e

  -- ---- the clauses

  pub is-found : (r : Result (Insn × ℕ) DecodeFault) → GivesExactly (λ x. (x.0, x.1)) r (decode_at bs at)
      → IfOk r (λ x. (x.1 ≤ length bs) × Spells (take x.1 bs) at x.0)
  is-found (Ok x) given = decoded-found x.0 x.1 given
  is-found (Err e) given = tt

  pub is-length : (r : Result (Insn × ℕ) DecodeFault) → GivesExactly (λ x. (x.0, x.1)) r (decode_at bs at)
      → IfOk r (λ x. (0 < x.1) × (x.1 ≤ 15))
  is-length (Ok x) given =
      let found = decoded-found x.0 x.1 given in
      let some = spelled-some (take x.1 bs) found.1.1.0 found.1.1.1 in
      let len = length-take x.1 bs in
      omega (arith, found.0, found.1.0, some, len)
  is-length (Err e) given = tt

  same-answer : (r : Result (Insn × ℕ) DecodeFault) → GivesExactly (λ x. (x.0, x.1)) r (decode_at bs at)
      → decode_at bs at ≡ r
  same-answer (Ok x) given = given
  same-answer (Err e) given = given

  pub is-only : (r : Result (Insn × ℕ) DecodeFault) → GivesExactly (λ x. (x.0, x.1)) r (decode_at bs at)
      → (n : ℕ) (insn : Insn) → n ≤ length bs → Spells (take n bs) at insn → r ≡ Ok (insn, n)
  is-only r given n insn le h = sym (same-answer r given) ∙ decoded-only n insn le h

  pub is-unknown : (r : Result (Insn × ℕ) DecodeFault) → GivesExactly (λ x. (x.0, x.1)) r (decode_at bs at)
      → (r ≡ Err fault.Unknown) ↔ ¬ (BeginsUnbounded bs at)
  is-unknown r given =
      (λ e. decoded-unknown (same-answer r given ∙ e), λ none. sym (same-answer r given) ∙ decoded-not_begun none)

-- ---- the bound of fifteen bytes

nop-alone : Spelled (0x90 ∷ []) (whole insn.Nop)
unfolding one_byte
nop-alone = in_one_byte false None [] 0x90 (plain insn.Nop) [] refl refl refl refl (refl, refl)

-- where an instruction that begins so ends in time, the test holds
fits-true : (bs more : List ℕ) (d : Draft) → Spelled (bs ++ more) d → length (bs ++ more) ≤ 15 → fits bs ≡ true
unfolding fits
fits-true [] more d h small = refl
fits-true (b ∷ bs) more d h small = go (first-of b (bs ++ more) d h)
  where
    go : First b (bs ++ more) d → cond (eqb b 0x66) (leb (1 + least_66 bs) 15) true ≡ true
    go (gs_first e k) = let t = ap (λ (n : ℕ). eqb n 0x66) e in rw t refl
    go (f3_first e k) = let t = ap (λ (n : ℕ). eqb n 0x66) e in rw t refl
    go (pad_first e k) = let t = eq-eqb b 0x66 e in let l = least-after_66.lower bs more d k in
        rw t (le-leb (1 + least_66 bs) 15 (omega (arith, l)))
    go (cs_first e k) = let t = ap (λ (n : ℕ). eqb n 0x66) e in rw t refl
    go (plain_first n1 n2 n3 n4 k) = let t = ne_eqb b 0x66 n3 in rw t refl

-- and where it holds of bytes that aren't whole, some instruction ends in time
fits-some : (bs : List ℕ) → AreBytes bs → draft_at bs ≡ Err Short → fits bs ≡ true → (more : List ℕ) × (d : Draft)
    × (0 < length more) × Spelled (bs ++ more) d × (length (bs ++ more) ≤ 15)
unfolding fits
fits-some [] fit h ok = (0x90 ∷ [], whole insn.Nop, lit< tt, nop-alone, omega arith)
fits-some (b ∷ bs) fit h ok =
    let c = exact-draft.completes (b ∷ bs) Short fit h refl in go c.0 c.1 c.2 c.3 (first-of b (bs ++ c.0) c.1 c.3)
  where
    -- the bytes themselves are no instruction
    longer : (end : List ℕ) (d : Draft) → Spelled (b ∷ (bs ++ end)) d → 0 < length end
    longer (e ∷ end) d s = omega arith
    longer [] d s =
        let whole_one : Spelled (b ∷ bs) d = subst (λ (l : List ℕ). Spelled (b ∷ l) d) (append-nil bs) s in
        let read : draft_at (b ∷ bs) ≡ Ok (d, []) = ap (λ (l : List ℕ). draft_at (b ∷ l)) (sym (append-nil bs))
        ∙ exact-draft.again (b ∷ bs) [] d whole_one in
        absurd (let clash : fails Short ≡ Ok (d, []) = sym h ∙ read in cc)

    go : (more : List ℕ) (d : Draft) → 0 < length more → Spelled (b ∷ (bs ++ more)) d → First b (bs ++ more) d
        → (end : List ℕ) × (c : Draft) × (0 < length end) × Spelled (b ∷ (bs ++ end)) c
        × (suc (length (bs ++ end)) ≤ 15)
    go more d some s (gs_first e k) = let l = opened-small true (bs ++ more) d k in (more, d, some, s, omega (arith, l))
    go more d some s (f3_first e k) = let l = f3-small (bs ++ more) d k in (more, d, some, s, omega (arith, l))
    go more d some s (plain_first n1 n2 n3 n4 k) = let l = opened-small false (b ∷ (bs ++ more)) d k in
        (more, d, some, s, omega (arith, l))
    go more d some s (pad_first e k) =
        let r = least-after_66.reached bs more d k in
        let t = eq-eqb b 0x66 e in
        let small : 1 + least_66 bs ≤ 15 =
        leb-true (1 + least_66 bs) 15 (sym (ap (λ (v : Bool). cond v (leb (1 + least_66 bs) 15) true) t) ∙ ok) in
        let made : Spelled (b ∷ (bs ++ r.0)) r.1 = first-to b (bs ++ r.0) r.1 (pad_first e r.2) in
        (r.0, r.1, longer r.0 r.1 made, made, omega (arith, small, r.3))
    go more d some s (cs_first e k) =
        let r = least-nop.reached bs more d k in
        let small : least_nop bs ≤ 9 = nop-least bs in
        let made : Spelled (b ∷ (bs ++ r.0)) r.1 = first-to b (bs ++ r.0) r.1 (cs_first e r.2) in
        (r.0, r.1, longer r.0 r.1 made, made, omega (arith, small, r.3))

short-is : (e : DraftFault) → is_short e ≡ true → e ≡ Short
short-is Short h = refl
short-is Unknown h = absurd cc

module _ (bs : List ℕ) (at : ℕ) (fit : AreBytes bs) where
  -- ---- Short

  decoded-prefix : IsProperPrefix bs at → decode_at bs at ≡ Err fault.Short
  unfolding decode_at
  decoded-prefix p =
      let k = exact-short is_short draft_at Spelled exact-draft bs p.0 p.3.1.0 fit p.2 p.3.1.1 in
      let short : draft_at bs ≡ Err Short = k.1 ∙ ap fails (short-is k.0 k.2) in
      let ok : fits bs ≡ true = fits-true bs p.0 p.3.1.0 p.3.1.1 p.3.0 in
      ap (bounded bs at) short ∙ ap short_answer ok

  decoded-short : decode_at bs at ≡ Err fault.Short → IsProperPrefix bs at
  unfolding decode_at
  decoded-short h = go (draft_at bs) refl h
    where
      test : (t : Bool) → short_answer t ≡ Err fault.Short → t ≡ true
      test true k = refl
      test false k = absurd cc

      ok-case : (t : Bool) (x : Insn × ℕ) → cond t (Err fault.TooLong) (Ok x) ≡ Err fault.Short → ⊥
      ok-case true x k = cc
      ok-case false x k = cc

      go : (r : Result (Draft × List ℕ) DraftFault) → draft_at bs ≡ r → bounded bs at r ≡ Err fault.Short
          → IsProperPrefix bs at
      go (Ok d) e k = absurd (ok-case (nat_lt 15 (length bs - length d.1))
          (resolve ((at + (length bs - length d.1)) % 2 ^ 64) d.0, length bs - length d.1) k)
      go (Err Short) e k =
          let c = fits-some bs fit e (test (fits bs) k) in
          (c.0, resolve (at + length (bs ++ c.0)) c.1, c.2, (c.4, (c.1, c.3, refl)))
      go (Err Unknown) e k = absurd cc

  pub is-short : (r : Result (Insn × ℕ) DecodeFault) → GivesExactly (λ x. (x.0, x.1)) r (decode_at bs at)
      → (r ≡ Err fault.Short) ↔ IsProperPrefix bs at
  is-short r given = (
    λ e. decoded-short (same-answer bs at fit r given ∙ e),
    λ p. sym (same-answer bs at fit r given)
        ∙ decoded-prefix p,
  )

  -- ---- fault.TooLong

  unknown-of : (e : DraftFault) → draft_at bs ≡ Err e → is_short e ≡ false → decode_at bs at ≡ Err fault.Unknown
  unfolding decode_at
  unknown-of Short h s = absurd cc
  unknown-of Unknown h s = ap (bounded bs at) h

  abbrev IsTooLong : Type 0
  IsTooLong = (¬ (IsProperPrefix bs at)) × (¬ (HasSpelledPrefix bs at)) × BeginsUnbounded bs at

  decoded-too_long : decode_at bs at ≡ Err fault.TooLong → IsTooLong
  decoded-too_long h = (
    λ p. let clash : answers fault.TooLong ≡ answers fault.Short = sym h ∙ decoded-prefix p in cc,
    λ f. let clash : answers fault.TooLong ≡ Ok (f.1, f.0) = sym h ∙ decoded-only bs at fit f.0 f.1 f.2 f.3 in cc,
    begins,
  )
    where
      begins : BeginsUnbounded bs at
      begins = go (draft_at bs) refl
        where
          go : (r : Result (Draft × List ℕ) DraftFault) → draft_at bs ≡ r → BeginsUnbounded bs at
          go (Ok d) e = begins-ok bs at fit d.0 d.1 e
          go (Err Short) e = begins-short bs at fit e
          go (Err Unknown) e =
              absurd (let clash : answers fault.TooLong ≡ answers fault.Unknown = sym h ∙ unknown-of Unknown e refl in
              cc)

  pub is-too_long : (r : Result (Insn × ℕ) DecodeFault) → GivesExactly (λ x. (x.0, x.1)) r (decode_at bs at)
      → (r ≡ Err fault.TooLong) ↔ ((¬ (IsProperPrefix bs at)) × (¬ (HasSpelledPrefix bs at)) × BeginsUnbounded bs at)
  is-too_long r given = (λ e. decoded-too_long (same-answer bs at fit r given ∙ e), λ h. go r given h)
    where
      go : (r : Result (Insn × ℕ) DecodeFault) → GivesExactly (λ x. (x.0, x.1)) r (decode_at bs at) → IsTooLong
          → r ≡ Err fault.TooLong
      go (Ok x) g h = let f = decoded-found bs at fit x.0 x.1 g in absurd (h.1 (x.1, x.0, f.0, f.1))
      go (Err fault.Short) g h = absurd (h.0 (decoded-short g))
      go (Err fault.Unknown) g h = absurd (decoded-unknown bs at fit g h.2)
      go (Err fault.TooLong) g h = refl

-- ---- one reading

pub unique : (a b x y : List ℕ) (at : ℕ) (i j : Insn) → Spells a at i → Spells b at j → a ++ x ≡ b ++ y → (a ≡ b)
    × (i ≡ j)
unique a b x y at i j one two same =
    let u = exact-unique is_short draft_at Spelled exact-draft a b x y one.1.0 two.1.0 one.1.1 two.1.1 same in (
      u.0,
      one.1.2 ∙ ap (λ (d : Draft). resolve (at + length a) d) u.1
          ∙ ap (λ (l : List ℕ). resolve (at + length l) two.1.0) u.0 ∙ sym two.1.2,
    )
