-- Each field's reading is stable: numbers by the lengths of what is left, the others from their parts in their order.
use Rattle.std.proofs.Common.{◌≡◌, ℕ, zero, suc, ◌+◌, ◌-◌, ◌^◌, ◌/◌, ◌%◌, ◌≤◌, ◌<◌, Bool, true, false, cond, not, List, [], ◌∷◌, ◌++◌, length, take, drop, set, replicate, Option, Some, None, Result, Ok, Err, refl, sym, ap, ◌∙◌, bit_and, arith}
use Rattle.std.proofs.lemmas.List.{length-append, take-append-le, drop-append-le}
use Rattle.std.proofs.lemmas.Bool.Decides.{nat_tests}
use Rattle.std.specs.Prelude.{nat_lt, if◌then◌else◌, ◌==◌, ◌&&◌, ◌||◌, min}
use Rattle.std.specs.Int.{w16, w32, w64, from_le_bytes, cast_signed}
use Rattle.kc_rules.specs.Rules.{◌>>=◌, refuse}
use Rattle.kc_rules.proofs.AnswerLemmas.{ok_is}
use Rattle.kc_certfields.specs.declared.fault.CertFault.{CertFault}
use Rattle.kc_certfields.specs.Rest.{Rest}
use Rattle.kc_certfields.specs.Reads.{Reading, times, past, short, in_range, one_of}
use Rattle.kc_certfields.specs.Numbers.{bytes_at, u8_at, u16_at, u32_at, u64_at}
use Rattle.kc_certfields.specs.Spaces.{tri_of, map_of, gs_of, tri_at, map_at, gs_at, latches_at}
use Rattle.kc_value.specs.declared.symbol.Sym.{Sym}
use Rattle.kc_value.specs.declared.symbol.Sym.TheVariants.{Plain, Base, Entry, UserGs}
use Rattle.kc_certfields.specs.Fault.{fault}
use Rattle.kc_certfields.specs.declared.fault.CertKind.TheVariants.{Range}
use Rattle.kc_certfields.specs.Values.{offset_at, word_at, symbol_after, symbol_at}
use Rattle.kc_certfields.specs.Stable.{is_short, followed, Stable}
use Rattle.kc_certfields.proofs.StableLemmas.{stable-then, stable-test, stable-pure, stable-fault, stable-if, stable-map, stable-times}

-- ---- numbers

pub stable-u8 : Stable u8_at
unfolding u8_at
stable-u8 = record {
  goes_on = λ i j x more h. goes i.bytes i.at j x more h;
  stays = λ i e more h s. stay i.bytes i.at e more h s;
}
  where
    goes : (bs : List ℕ) (at : ℕ) (j : Rest) (x : ℕ) (more : List ℕ)
        → u8_at (record { at = at; bytes = bs }) ≡ Ok (x, j)
        → u8_at (record { at = at; bytes = bs ++ more }) ≡ Ok (x, followed j more)
    goes [] at j x more h = absurd cc
    goes (b ∷ bs) at j x more h =
        let pair : (b, record { at = min (at + 1) (2 ^ 64 - 1); bytes = bs }) ≡ (x, j) =
        ok_is {E = CertFault} (b, record { at = min (at + 1) (2 ^ 64 - 1); bytes = bs }) (x, j) h in
        let f : ℕ × Rest → Result (ℕ × Rest) CertFault = λ p. Ok (p.0, followed p.1 more) in ap f pair

    stay : (bs : List ℕ) (at : ℕ) (e : CertFault) (more : List ℕ)
        → u8_at (record { at = at; bytes = bs }) ≡ Err e → is_short e ≡ false
        → u8_at (record { at = at; bytes = bs ++ more }) ≡ Err e
    stay [] at e more h s =
        absurd (let same : short (record { at = at; bytes = [] }) ≡ e = cc in
        let clash : true ≡ false = ap is_short same ∙ s in cc)
    stay (b ∷ bs) at e more h s = absurd cc

-- so many bytes, where they are there, and what they stand for
abbrev fixed : {A : Type 0} → ℕ → (List ℕ → A) → Bool → Rest → Result (A × Rest) CertFault
fixed n g true i = Err (short i)
fixed n g false i = Ok (g (take n i.bytes), past n i)

fixed-goes : {A : Type 0} (n : ℕ) (g : List ℕ → A) (i j : Rest) (x : A) (more : List ℕ) (b : Bool)
    → nat_lt (length i.bytes) n ≡ b → fixed n g b i ≡ Ok (x, j)
    → fixed n g (nat_lt (length (i.bytes ++ more)) n) (followed i more) ≡ Ok (x, followed j more)
fixed-goes n g i j x more true t h = absurd cc
fixed-goes {A} n g i j x more false t h =
    let enough : n ≤ length i.bytes = grind (arith, nat_tests, t) in
    let still : nat_lt (length (i.bytes ++ more)) n ≡ false =
    rw (length-append i.bytes more) (grind (arith, nat_tests, enough)) in
    let pair : (g (take n i.bytes), past n i) ≡ (x, j) =
    ok_is {E = CertFault} (g (take n i.bytes), past n i) (x, j) h in
    let f : A × Rest → Result (A × Rest) CertFault = λ p. Ok (p.0, followed p.1 more) in
    rw (still, take-append-le n i.bytes more enough, drop-append-le n i.bytes more enough) (ap f pair)

fixed-stays : {A : Type 0} (n : ℕ) (g : List ℕ → A) (i : Rest) (e : CertFault) (more : List ℕ) (b : Bool)
    → nat_lt (length i.bytes) n ≡ b → fixed n g b i ≡ Err e → is_short e ≡ false
    → fixed n g (nat_lt (length (i.bytes ++ more)) n) (followed i more) ≡ Err e
fixed-stays n g i e more true t h s =
    absurd (let same : short i ≡ e = cc in let clash : true ≡ false = ap is_short same ∙ s in cc)
fixed-stays n g i e more false t h s = absurd cc

stable-fixed : {A : Type 0} (n : ℕ) (g : List ℕ → A) → Stable (λ i. fixed n g (nat_lt (length i.bytes) n) i)
stable-fixed n g = record {
  goes_on = λ i j x more h. fixed-goes n g i j x more (nat_lt (length i.bytes) n) refl h;
  stays = λ i e more h s. fixed-stays n g i e more (nat_lt (length i.bytes) n) refl h s;
}

-- the same reading by a test
by-test : {A : Type 0} (n : ℕ) (g : List ℕ → A) (b : Bool) (i : Rest)
    → if◌then◌else◌ {A = Result (A × Rest) CertFault} b (Err (short i)) (Ok (g (take n i.bytes), past n i))
    ≡ fixed n g b i
by-test n g true i = refl
by-test n g false i = refl

stable-same : {A : Type 0} (read other : Reading A) → Stable read → ((i : Rest) → other i ≡ read i) → Stable other
stable-same read other first same = record {
  goes_on = λ i j x more h. same (followed i more) ∙ first.goes_on i j x more (sym (same i) ∙ h);
  stays = λ i e more h s. same (followed i more) ∙ first.stays i e more (sym (same i) ∙ h) s;
}

pub stable-bytes : (n : ℕ) → Stable (bytes_at n)
unfolding bytes_at
stable-bytes n =
    stable-same (λ i. fixed n (λ bs. bs) (nat_lt (length i.bytes) n) i) (bytes_at n) (stable-fixed n (λ bs. bs))
    (λ i. by-test n (λ bs. bs) (nat_lt (length i.bytes) n) i)

pub stable-u16 : Stable u16_at
unfolding u16_at
stable-u16 =
    stable-same (λ i. fixed 2 (from_le_bytes w16) (nat_lt (length i.bytes) 2) i) u16_at
    (stable-fixed 2 (from_le_bytes w16)) (λ i. by-test 2 (from_le_bytes w16) (nat_lt (length i.bytes) 2) i)

pub stable-u32 : Stable u32_at
unfolding u32_at
stable-u32 =
    stable-same (λ i. fixed 4 (from_le_bytes w32) (nat_lt (length i.bytes) 4) i) u32_at
    (stable-fixed 4 (from_le_bytes w32)) (λ i. by-test 4 (from_le_bytes w32) (nat_lt (length i.bytes) 4) i)

pub stable-u64 : Stable u64_at
unfolding u64_at
stable-u64 =
    stable-same (λ i. fixed 8 (from_le_bytes w64) (nat_lt (length i.bytes) 8) i) u64_at
    (stable-fixed 8 (from_le_bytes w64)) (λ i. by-test 8 (from_le_bytes w64) (nat_lt (length i.bytes) 8) i)

-- a number, and a value made of it where it is in range
checked : {N A : Type 0} (read : Reading N) (of : N → Option A) → Stable read
    → Stable (λ i. read i >>= λ n. one_of (of n.0) i.at >>= λ x. Ok (x, n.1))
checked read of first =
    stable-then read (λ at n j. one_of (of n) at >>= λ x. Ok (x, j)) first
    (λ at n. stable-test (one_of (of n) at) (λ x j. Ok (x, j)) (λ x. stable-pure x))

-- ---- spaces

pub stable-tri : Stable tri_at
unfolding tri_at
stable-tri = checked u8_at tri_of stable-u8

pub stable-map_at : Stable map_at
unfolding map_at
stable-map_at = checked u8_at map_of stable-u8

pub stable-gs : Stable gs_at
unfolding gs_at
stable-gs = checked u8_at gs_of stable-u8

pub stable-latches : Stable latches_at
unfolding latches_at
stable-latches =
    stable-then tri_at
    (λ at nmi i. tri_at i >>= λ shadow. tri_at shadow.1 >>= λ mcip.
    Ok (record { nmi_blocked = nmi; shadow = shadow.0; mcip = mcip.0 }, mcip.1)) stable-tri
    (λ at nmi. stable-then tri_at
    (λ at2 shadow i. tri_at i >>= λ mcip. Ok (record { nmi_blocked = nmi; shadow = shadow; mcip = mcip.0 }, mcip.1))
    stable-tri (λ at2 shadow. stable-map tri_at (λ mcip. record { nmi_blocked = nmi; shadow = shadow; mcip = mcip })
    stable-tri))

-- ---- values

stable-offset : Stable offset_at
unfolding offset_at
stable-offset = stable-map u64_at (λ (k : ℕ). Base (cast_signed w64 k)) stable-u64

-- a number in range
pub in-range : {N A : Type 0} (read : Reading N) (fits : N → Bool) (g : N → A) → Stable read
    → Stable (λ i. read i >>= λ n. in_range (fits n.0) i.at >>= λ x. Ok (g n.0, n.1))
in-range read fits g first =
    stable-then read (λ at n j. in_range (fits n) at >>= λ x. Ok (g n, j)) first
    (λ at n. stable-test (in_range (fits n) at) (λ x j. Ok (g n, j)) (λ x. stable-pure (g n)))

stable-word : Stable word_at
unfolding word_at
stable-word = in-range u8_at (λ (w : ℕ). nat_lt w 20) (λ (w : ℕ). Entry w) stable-u8

pub stable-symbol : Stable symbol_at
unfolding symbol_at
stable-symbol =
    stable-then u8_at symbol_after stable-u8
    (λ at tag. stable-if (tag == 0) (λ i. Ok (Plain, i)) (λ i. if tag == 1 then offset_at i else
    if tag == 2 then word_at i else if tag == 3 then Ok (UserGs, i) else Err (fault Range at)) (stable-pure Plain)
    (stable-if (tag == 1) offset_at (λ i. if tag == 2 then word_at i else
    if tag == 3 then Ok (UserGs, i) else Err (fault Range at)) stable-offset
    (stable-if (tag == 2) word_at (λ i. if tag == 3 then Ok (UserGs, i) else Err (fault Range at)) stable-word
    (stable-if (tag == 3) (λ i. Ok (UserGs, i)) (λ i. Err (fault Range at)) (stable-pure UserGs)
    (stable-fault (fault Range at))))))
