-- Values are read exactly: a symbol by the cases of its tag, and then the masks and places in their ranges.
use Rattle.std.proofs.Common.{◌≡◌, ℕ, ◌^◌, ◌<◌, inl, inr, true, List, ◌∷◌, ◌++◌, ℤ, Result, Ok, Err, bit_and, refl, sym, ap, ◌∙◌, arith}
use Rattle.std.specs.Prelude.{nat_lt, if◌then◌else◌, ◌==◌, FitsSigned}
use Rattle.std.specs.Int.{w64, cast_signed, cast_unsigned}
use Rattle.std.proofs.lemmas.Bool.Decides.{nat_tests}
use Rattle.std.proofs.lemmas.Int.{ints, to_z-of_z, of_z-to_z}
use Rattle.kc_rules.proofs.AnswerLemmas.{done}
use Rattle.kc_value.specs.Symbol.{IsSym}
use Rattle.kc_value.specs.Value.{IsValidValue}
use Rattle.kc_value.specs.declared.symbol.Sym.{Sym}
use Rattle.kc_value.specs.declared.symbol.Sym.TheVariants.{Plain, Base, Entry, UserGs}
use Rattle.kc_certfields.specs.declared.fault.CertFault.{CertFault}
use Rattle.kc_certfields.specs.declared.fault.CertKind.TheVariants.{Range}
use Rattle.kc_certfields.specs.Fault.{fault}
use Rattle.kc_certfields.specs.Rest.{Rest}
use Rattle.kc_certfields.specs.Values.{offset_at, word_at, symbol_after, symbol_at, value_at}
use Rattle.kc_certfields.specs.Spelling.{u32_bytes, u64_bytes, symbol_bytes, value_bytes}
use Rattle.kc_certexact.specs.Exact.{AreBytes, Given, Exact}
use Rattle.kc_certexact.proofs.ExactLemmas.{step, fitted, joined, split, ended, is-number, chosen}
use Rattle.kc_certexact.proofs.NumbersExact.{exact-u8, exact-u32, exact-u64}

signed-fits : (n : ℕ) → n < 2 ^ 64 → FitsSigned w64 (cast_signed w64 n)
signed-fits n below = omega (arith, ints)

unsigned-fits : (k : ℤ) → FitsSigned w64 k → cast_unsigned w64 k < 2 ^ 64
unsigned-fits k fits = omega (arith, ints)

-- ---- symbols

abbrev Symbol : Type 0
Symbol = Result (Sym × Rest) CertFault

-- what a tag asks for
record Asked (i j : Rest) (x : Sym) (tag : ℕ) (k : Rest) : Type 0 where
  fits : IsSym x
  spelled : tag ∷ k.bytes ≡ symbol_bytes x ++ j.bytes

asked : (i k j : Rest) (y x : Sym) (tag : ℕ) (m : Rest) → done {A = Sym × Rest} {E = CertFault} (y, m) ≡ done (x, j)
    → IsSym y → tag ∷ k.bytes ≡ symbol_bytes y ++ m.bytes → Asked i j x tag k
asked i k j y x tag m h fits spelled =
    let before : Rest = record { at = 0; bytes = tag ∷ k.bytes } in
    let t = ended symbol_bytes IsSym before m j y x h fits spelled in
    record { fits = t.fits; spelled = t.spelled }

after-tag : (i k j : Rest) (x : Sym) (at tag : ℕ) → AreBytes k.bytes → symbol_after at tag k ≡ Ok (x, j)
    → Asked i j x tag k
unfolding offset_at word_at
after-tag i k j x at tag are h =
    elim (chosen {A = Symbol} (tag == 0) (Ok (Plain, k))
    (if tag == 1 then offset_at k else if tag == 2 then word_at k else if tag == 3 then Ok (UserGs, k) else Err
    (fault Range at)) (Ok (x, j)) h) [
      | inl a ↦ asked i k j Plain x tag k a.1 tt (ap (λ (n : ℕ). n ∷ k.bytes) (is-number tag 0 a.0))
      | inr a ↦
          elim (chosen {A = Symbol} (tag == 1) (offset_at k)
          (if tag == 2 then word_at k else if tag == 3 then Ok (UserGs, k) else Err (fault Range at)) (Ok (x, j)) a.1) [
            | inl b ↦
                let n = step k _ (x, j) exact-u64 are b.1 in
                asked i k j (Base (cast_signed w64 n.value)) x tag n.rest n.more (signed-fits n.value n.fits)
                (ap (λ (m : ℕ). m ∷ k.bytes) (is-number tag 1 b.0) ∙ ap (λ (l : List ℕ). 1 ∷ l) (n.spelled
                ∙ ap (λ (m : ℕ). u64_bytes m ++ n.rest.bytes) (sym (of_z-to_z w64 n.value n.fits))))
            | inr b ↦
                elim (chosen {A = Symbol} (tag == 2) (word_at k)
                (if tag == 3 then Ok (UserGs, k) else Err (fault Range at)) (Ok (x, j)) b.1) [
                  | inl c ↦
                      let w = step k _ (x, j) exact-u8 are c.1 in
                      let fits = fitted (nat_lt w.value 20) k.at _ (x, j) w.more in
                      let below : w.value < 20 = (let t = fits.0 in grind (arith, nat_tests, t)) in
                      asked i k j (Entry w.value) x tag w.rest fits.1 below
                      (ap (λ (m : ℕ). m ∷ k.bytes) (is-number tag 2 c.0) ∙ ap (λ (l : List ℕ). 2 ∷ l) w.spelled)
                  | inr c ↦
                      elim (chosen {A = Symbol} (tag == 3) (Ok (UserGs, k)) (Err (fault Range at)) (Ok (x, j)) c.1) [
                        | inl d ↦ asked i k j UserGs x tag k d.1 tt (ap (λ (n : ℕ). n ∷ k.bytes) (is-number tag 3 d.0))
                        | inr d ↦ absurd (let e = d.1 in cc)
                      ]
                ]
          ]
    ]

symbol-gives : (i : Rest) (x : Sym) (more : List ℕ) → IsSym x → i.bytes ≡ symbol_bytes x ++ more
    → Given symbol_at i x more
unfolding symbol_at offset_at word_at
symbol-gives i Plain more fits e =
    let t = exact-u8.gives i 0 more (omega arith) e in
    record { after = t.after; is = rw t.is refl; left = t.left }
symbol-gives i (Base k) more fits e =
    let t = exact-u8.gives i 1 (u64_bytes (cast_unsigned w64 k) ++ more) (omega arith) e in
    let n = exact-u64.gives t.after (cast_unsigned w64 k) more (unsigned-fits k fits) t.left in
    record {
      after = n.after;
      is = rw (t.is, n.is) (ap (λ z. done (Base z, n.after)) (to_z-of_z w64 k fits));
      left = n.left;
    }
symbol-gives i (Entry w) more fits e =
    let t = exact-u8.gives i 2 (w ∷ more) (omega arith) e in
    let n = exact-u8.gives t.after w more (omega (arith, fits)) t.left in
    let below : nat_lt w 20 ≡ true = grind (arith, nat_tests, fits) in
    record { after = n.after; is = rw (t.is, n.is, below) refl; left = n.left }
symbol-gives i UserGs more fits e =
    let t = exact-u8.gives i 3 more (omega arith) e in
    record { after = t.after; is = rw t.is refl; left = t.left }

pub exact-symbol : Exact symbol_at symbol_bytes IsSym
unfolding symbol_at
exact-symbol = record {
  takes = λ i j x are h.
      let t = step i (λ tag. symbol_after i.at tag.0 tag.1) (x, j) exact-u8 are h in
      let a = after-tag i t.rest j x i.at t.value t.bytes t.more in
      record { fits = a.fits; spelled = t.spelled ∙ a.spelled };
  gives = symbol-gives;
}

-- ---- values

pub exact-value : Exact value_at value_bytes IsValidValue
unfolding value_at
exact-value = record {
  takes = λ i j x are h.
      let s = step i _ (x, j) exact-symbol are h in
      let z = step s.rest _ (x, j) exact-u64 s.bytes s.more in
      let o = step z.rest _ (x, j) exact-u64 z.bytes z.more in
      let apart = fitted (bit_and z.value o.value == 0) i.at _ (x, j) o.more in
      let k = step o.rest _ (x, j) exact-u32 o.bytes apart.1 in
      let below = fitted (nat_lt k.value (2 ^ 17)) o.rest.at _ (x, j) k.more in
      ended value_bytes IsValidValue i k.rest j
      (record { sym = s.value; bits = record { zeros = z.value; ones = o.value }; stacks = k.value }) x below.1
      (record {
        sym_fits = s.fits;
        bits_fit = record {
          zeros_fit = z.fits;
          ones_fit = o.fits;
          apart = is-number (bit_and z.value o.value) 0
              apart.0;
        };
        stacks_fit = (let t = below.0 in grind (arith, nat_tests, t));
      })
      (joined i.bytes (symbol_bytes s.value) (u64_bytes z.value ++ (u64_bytes o.value ++ u32_bytes k.value))
      s.rest.bytes
      k.rest.bytes s.spelled
      (joined s.rest.bytes (u64_bytes z.value) (u64_bytes o.value ++ u32_bytes k.value) z.rest.bytes k.rest.bytes
      z.spelled
      (joined z.rest.bytes (u64_bytes o.value) (u32_bytes k.value) o.rest.bytes k.rest.bytes o.spelled k.spelled)));
  gives = λ i x more fits e.
      let after-zeros = u64_bytes x.bits.ones ++ u32_bytes x.stacks in
      let after-symbol = u64_bytes x.bits.zeros ++ after-zeros in
      let s = exact-symbol.gives i x.sym (after-symbol ++ more) fits.sym_fits
      (split i.bytes (symbol_bytes x.sym) after-symbol more e) in
      let z = exact-u64.gives s.after x.bits.zeros (after-zeros ++ more) fits.bits_fit.zeros_fit
      (split s.after.bytes (u64_bytes x.bits.zeros) after-zeros more s.left) in
      let o = exact-u64.gives z.after x.bits.ones (u32_bytes x.stacks ++ more) fits.bits_fit.ones_fit
      (split z.after.bytes (u64_bytes x.bits.ones) (u32_bytes x.stacks) more z.left) in
      let small : x.stacks < 2 ^ 17 = fits.stacks_fit in
      let k = exact-u32.gives o.after x.stacks more (omega (arith, small)) o.left in
      let apart : (bit_and x.bits.zeros x.bits.ones == 0) ≡ true =
      (let t = fits.bits_fit.apart in grind (arith, nat_tests, t)) in
      let below : nat_lt x.stacks (2 ^ 17) ≡ true = grind (arith, nat_tests, small) in
      record { after = k.after; is = rw (s.is, z.is, o.is, apart, k.is, below) refl; left = k.left };
}
