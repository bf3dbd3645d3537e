-- Numbers are read exactly: a byte by cases on the bytes; the others, which take so many bytes at once, by one lemma
-- for all lengths from std's laws of little-endian numbers. omega is left lengths and ranges.
use Rattle.std.proofs.Common.{◌≡◌, ℕ, ◌+◌, ◌-◌, ◌*◌, ◌^◌, ◌≤◌, ◌<◌, Bool, true, false, List, [], ◌∷◌, ◌++◌, length, take, drop, get_or, Result, Ok, Err, refl, sym, ap, ◌∙◌, arith}
use Rattle.std.specs.Prelude.{nat_lt, if◌then◌else◌, min}
use Rattle.std.specs.Int.{w16, w32, w64, from_le_bytes}
use Rattle.std.proofs.lemmas.Bool.Decides.{nat_tests}
use Rattle.std.proofs.lemmas.Grind.{common_steps}
use Rattle.std.proofs.lemmas.List.{length-append, take-append-drop}
use Rattle.std.proofs.lemmas.List.Elements.{All-head, All-take}
use Rattle.std.proofs.lemmas.Nat.{le_bytes_2, le_bytes_4, le_bytes_8, from_le_bytes-to_le_bytes_2, from_le_bytes-to_le_bytes_4, from_le_bytes-to_le_bytes_8}
use Rattle.std.proofs.Math.Seq.{take-append_seam, drop-append_seam}
use Rattle.kc_rules.proofs.AnswerLemmas.{done}
use Rattle.kc_certfields.specs.declared.fault.CertFault.{CertFault}
use Rattle.kc_certfields.specs.Rest.{Rest}
use Rattle.kc_certfields.specs.Reads.{Reading, past, short}
use Rattle.kc_certfields.specs.Numbers.{bytes_at, u8_at, u16_at, u32_at, u64_at}
use Rattle.kc_certfields.specs.Spelling.{u8_bytes, u16_bytes, u32_bytes, u64_bytes}
use Rattle.kc_certexact.specs.Exact.{AreBytes, Taken, Given, Exact}
use Rattle.kc_certexact.proofs.ExactLemmas.{ended}

-- ---- a byte

pub exact-u8 : Exact u8_at u8_bytes (λ n. n < 256)
unfolding u8_at
exact-u8 = record {
  takes = λ i j x are h. taken i.bytes i.at j x are h;
  gives = λ i x more fits e. given i.bytes i.at x more e;
}
  where
    taken : (bs : List ℕ) (at : ℕ) (j : Rest) (x : ℕ) → AreBytes bs
        → u8_at (record { at = at; bytes = bs }) ≡ Ok (x, j)
        → Taken u8_bytes (λ n. n < 256) (record { at = at; bytes = bs }) j x
    taken [] at j x are h = absurd cc
    taken (b ∷ bs) at j x are h =
        let i : Rest = record { at = at; bytes = b ∷ bs } in
        let k : Rest = record { at = min (at + 1) (2 ^ 64 - 1); bytes = bs } in
        ended u8_bytes (λ n. n < 256) i k j b x h (All-head (λ (n : ℕ). n < 256) b bs are) refl

    given : (bs : List ℕ) (at x : ℕ) (more : List ℕ) → bs ≡ x ∷ more
        → Given u8_at (record { at = at; bytes = bs }) x more
    given [] at x more e = absurd cc
    given (b ∷ bs) at x more e =
        let same : b ≡ x = cc in
        let rest : bs ≡ more = cc in
        let k : Rest = record { at = min (at + 1) (2 ^ 64 - 1); bytes = bs } in
        record { after = k; is = ap (λ (n : ℕ). done (n, k)) same; left = rest }

-- ---- so many bytes at once

abbrev fixed : {A : Type 0} → ℕ → (List ℕ → A) → Bool → Rest → Result (A × Rest) CertFault
fixed n of true i = Err (short i)
fixed n of false i = Ok (of (take n i.bytes), past n i)

by-test : {A : Type 0} (n : ℕ) (of : List ℕ → A) (b : Bool) (i : Rest)
    → if◌then◌else◌ {A = Result (A × Rest) CertFault} b (Err (short i)) (Ok (of (take n i.bytes), past n i))
    ≡ fixed n of b i
by-test n of true i = refl
by-test n of false i = refl

-- what so many bytes stand for, and back
record Stands {A : Type 0} (n : ℕ) (of : List ℕ → A) (spell : A → List ℕ) (Fits : A → Type 0) : Type 0 where
  long : (x : A) → Fits x → length (spell x) ≡ n
  fits : (bs : List ℕ) → length bs ≡ n → AreBytes bs → Fits (of bs)
  back : (bs : List ℕ) → length bs ≡ n → AreBytes bs → spell (of bs) ≡ bs
  forth : (x : A) → Fits x → of (spell x) ≡ x

fixed-takes : {A : Type 0} (n : ℕ) (of : List ℕ → A) (spell : A → List ℕ) (Fits : A → Type 0)
    → Stands n of spell Fits → (i j : Rest) (x : A) → AreBytes i.bytes → (b : Bool) → nat_lt (length i.bytes) n ≡ b
    → fixed n of b i ≡ Ok (x, j) → Taken spell Fits i j x
fixed-takes n of spell Fits stands i j x are true t h = absurd cc
fixed-takes n of spell Fits stands i j x are false t h =
    let enough : n ≤ length i.bytes = grind (arith, nat_tests, t) in
    let long : length (take n i.bytes) ≡ n = grind (arith, common_steps, enough) in
    let bytes = All-take (λ (b : ℕ). b < 256) n i.bytes are in
    ended spell Fits i (past n i) j (of (take n i.bytes)) x h (stands.fits (take n i.bytes) long bytes)
    (sym (take-append-drop n i.bytes)
    ∙ ap (λ (l : List ℕ). l ++ drop n i.bytes) (sym (stands.back (take n i.bytes) long bytes)))

fixed-gives : {A : Type 0} (n : ℕ) (of : List ℕ → A) (spell : A → List ℕ) (Fits : A → Type 0)
    → Stands n of spell Fits → (i : Rest) (x : A) (more : List ℕ) → Fits x → i.bytes ≡ spell x ++ more
    → (b : Bool) → nat_lt (length i.bytes) n ≡ b → Given (λ k. fixed n of (nat_lt (length k.bytes) n) k) i x more
fixed-gives {A} n of spell Fits stands i x more fits e b t =
    let long = stands.long x fits in
    let enough : n ≤ length i.bytes =
    omega (arith, long, ap length e, length-append (spell x) more) in
    let test : nat_lt (length i.bytes) n ≡ false = grind (arith, nat_tests, enough) in
    let front : take n i.bytes ≡ spell x =
    ap (λ (m : ℕ). take m i.bytes) (sym long) ∙ ap (take (length (spell x))) e ∙ take-append_seam (spell x) more in
    let back : drop n i.bytes ≡ more =
    ap (λ (m : ℕ). drop m i.bytes) (sym long) ∙ ap (drop (length (spell x))) e ∙ drop-append_seam (spell x) more in
    record {
      after = past n i;
      is = ap (λ (c : Bool). fixed n of c i) test
          ∙ ap (λ (y : A). done (y, past n i)) (ap of front ∙ stands.forth x fits);
      left = back;
    }

exact-fixed : {A : Type 0} (n : ℕ) (of : List ℕ → A) (spell : A → List ℕ) (Fits : A → Type 0)
    → Stands n of spell Fits → Exact (λ i. fixed n of (nat_lt (length i.bytes) n) i) spell Fits
exact-fixed n of spell Fits stands = record {
  takes = λ i j x are h. fixed-takes n of spell Fits stands i j x are (nat_lt (length i.bytes) n) refl h;
  gives = λ i x more fits e. fixed-gives n of spell Fits stands i x more fits e (nat_lt (length i.bytes) n) refl;
}

-- the same reading, said otherwise
pub exact-same : {A : Type 0} (read other : Reading A) (spell : A → List ℕ) (Fits : A → Type 0)
    → Exact read spell Fits → ((i : Rest) → other i ≡ read i) → Exact other spell Fits
exact-same read other spell Fits exact same = record {
  takes = λ i j x are h. exact.takes i j x are (sym (same i) ∙ h);
  gives = λ i x more fits e.
      let g = exact.gives i x more fits e in
      record { after = g.after; is = same i ∙ g.is; left = g.left };
}

small : (bs : List ℕ) → AreBytes bs → (k : ℕ) → get_or bs k 0 < 256
small bs are k = go bs are k
  where
    go : (l : List ℕ) → AreBytes l → (m : ℕ) → get_or l m 0 < 256
    go l fits m = grind (arith, common_steps, fits)

-- ---- numbers

abbrev Is : ℕ → ℕ → Type 0
Is bits n = n < 2 ^ bits

fits-2 : (a b : ℕ) → a < 256 → b < 256 → a + b * 256 < 2 ^ 16
fits-2 a b x y = omega arith

fits-4 : (a b c d : ℕ) → a < 256 → b < 256 → c < 256 → d < 256
    → a + b * 256 + c * 65536 + d * 16777216 < 2 ^ 32
fits-4 a b c d x y z w = omega arith

fits-8 : (a b c d e f g h : ℕ) → a < 256 → b < 256 → c < 256 → d < 256 → e < 256 → f < 256 → g < 256 → h < 256
    → a + b * 256 + c * 65536 + d * 16777216 + e * 4294967296 + f * 1099511627776 + g * 281474976710656
    + h * 72057594037927936 < 2 ^ 64
fits-8 a b c d e f g h x y z w p q r s = omega arith

stands-u16 : Stands 2 (from_le_bytes w16) u16_bytes (Is 16)
stands-u16 = record {
  long = λ x fits. refl;
  fits = λ bs long are. fits-2 _ _ (small bs are 0) (small bs are 1);
  back = λ bs long are. le_bytes_2 bs (from_le_bytes w16 bs) long (small bs are) refl;
  forth = λ x fits. from_le_bytes-to_le_bytes_2 x fits;
}

stands-u32 : Stands 4 (from_le_bytes w32) u32_bytes (Is 32)
stands-u32 = record {
  long = λ x fits. refl;
  fits = λ bs long are. fits-4 _ _ _ _ (small bs are 0) (small bs are 1) (small bs are 2) (small bs are 3);
  back = λ bs long are. le_bytes_4 bs (from_le_bytes w32 bs) long (small bs are) refl;
  forth = λ x fits. from_le_bytes-to_le_bytes_4 x fits;
}

stands-u64 : Stands 8 (from_le_bytes w64) u64_bytes (Is 64)
stands-u64 = record {
  long = λ x fits. refl;
  fits = λ bs long are.
      fits-8 _ _ _ _ _ _ _ _ (small bs are 0) (small bs are 1) (small bs are 2) (small bs are 3) (small bs are 4)
      (small bs are 5) (small bs are 6) (small bs are 7);
  back = λ bs long are. le_bytes_8 bs (from_le_bytes w64 bs) long (small bs are) refl;
  forth = λ x fits. from_le_bytes-to_le_bytes_8 x fits;
}

pub exact-u16 : Exact u16_at u16_bytes (λ n. n < 2 ^ 16)
unfolding u16_at
exact-u16 =
    exact-same (λ i. fixed 2 (from_le_bytes w16) (nat_lt (length i.bytes) 2) i) u16_at u16_bytes (λ n. n < 2 ^ 16)
    (exact-fixed 2 (from_le_bytes w16) u16_bytes (Is 16) stands-u16)
    (λ i. by-test 2 (from_le_bytes w16) (nat_lt (length i.bytes) 2) i)

pub exact-u32 : Exact u32_at u32_bytes (λ n. n < 2 ^ 32)
unfolding u32_at
exact-u32 =
    exact-same (λ i. fixed 4 (from_le_bytes w32) (nat_lt (length i.bytes) 4) i) u32_at u32_bytes (λ n. n < 2 ^ 32)
    (exact-fixed 4 (from_le_bytes w32) u32_bytes (Is 32) stands-u32)
    (λ i. by-test 4 (from_le_bytes w32) (nat_lt (length i.bytes) 4) i)

pub exact-u64 : Exact u64_at u64_bytes (λ n. n < 2 ^ 64)
unfolding u64_at
exact-u64 =
    exact-same (λ i. fixed 8 (from_le_bytes w64) (nat_lt (length i.bytes) 8) i) u64_at u64_bytes (λ n. n < 2 ^ 64)
    (exact-fixed 8 (from_le_bytes w64) u64_bytes (Is 64) stands-u64)
    (λ i. by-test 8 (from_le_bytes w64) (nat_lt (length i.bytes) 8) i)

-- ---- bytes

-- so many bytes
pub record AreMany (n : ℕ) (bs : List ℕ) : Type 0 where
  pub long : length bs ≡ n
  pub bytes : AreBytes bs

stands-bytes : (n : ℕ) → Stands n (λ bs. bs) (λ bs. bs) (AreMany n)
stands-bytes n = record {
  long = λ x fits. fits.long;
  fits = λ bs long are. record { long = long; bytes = are };
  back = λ bs long are. refl;
  forth = λ x fits. refl;
}

pub exact-bytes : (n : ℕ) → Exact (bytes_at n) (λ bs. bs) (AreMany n)
unfolding bytes_at
exact-bytes n =
    exact-same (λ i. fixed n (λ bs. bs) (nat_lt (length i.bytes) n) i) (bytes_at n) (λ bs. bs) (AreMany n)
    (exact-fixed n (λ bs. bs) (λ bs. bs) (AreMany n) (stands-bytes n))
    (λ i. by-test n (λ bs. bs) (nat_lt (length i.bytes) n) i)
