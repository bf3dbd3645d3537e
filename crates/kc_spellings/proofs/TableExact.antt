-- What stands before the nodes is read exactly: from the fields, in their order; a context with its place after the last.
use Rattle.std.proofs.Common.{◌≡◌, ℕ, ◌^◌, ◌≤◌, ◌<◌, true, false, not, List, [], ◌∷◌, ◌++◌, Ok, refl, ◌∙◌, arith}
use Rattle.std.specs.Prelude.{nat_lt, ◌==◌, ◌||◌}
use Rattle.std.proofs.lemmas.Bool.Decides.{nat_tests}
use Rattle.std.proofs.lemmas.List.Elements.{All-head, All-tail, All-from_recursion}
use Rattle.kc_rules.specs.Rules.{◌>>=◌, refuse}
use Rattle.kc_state.specs.Summary.{IsSummary}
use Rattle.kc_cert.specs.declared.certificate.Context.{Context}
use Rattle.kc_certfields.specs.declared.fault.CertKind.TheVariants.{BadMagic, Version, Order, TooMany}
use Rattle.kc_certfields.specs.Fault.{fault}
use Rattle.kc_certfields.specs.Rest.{Rest}
use Rattle.kc_certfields.specs.Spelling.{u8_bytes, u32_bytes, key_bytes, summary_bytes, user_bytes}
use Rattle.kc_certform.specs.CertBytes.{magic, context_bytes}
use Rattle.kc_certexact.specs.Exact.{AreBytes, Taken, Given, Exact}
use Rattle.kc_certexact.proofs.ExactLemmas.{step, passed, joined, split, ended, is-number, not-false, false-not}
use Rattle.kc_certexact.proofs.NumbersExact.{AreMany, exact-u8, exact-u32, exact-bytes}
use Rattle.kc_certexact.proofs.SpacesExact.{Any}
use Rattle.kc_certexact.proofs.StatesExact.{IsUser, exact-user}
use Rattle.kc_certexact.proofs.KeysExact.{IsKeyOf, exact-key, exact-summary}
use Rattle.kc_certexact.proofs.TimesExact.{Adds, Always, adds-item, push}
use Rattle.kc_certfmt.specs.Reading.{last_of, magic_at, version_at, stacks_at, count_at, head_at, key_rises, context_at, next_context}
use Rattle.kc_certfmt.specs.declared.head.Head.{Head}

-- ---- the magic

is-same : (n : ℕ) → (n == n) ≡ true
is-same n = grind (arith, nat_tests)

abbrev nothing : List ℕ → Unit {0} → List ℕ
nothing ms x = ms

magic-takes : (ms : List ℕ) (i j : Rest) (x : Unit {0}) → AreBytes i.bytes → magic_at ms i ≡ Ok (x, j)
    → Taken (nothing ms) Any i j x
unfolding magic_at
magic-takes [] i j x are h = ended (nothing []) Any i i j tt x h tt refl
magic-takes (m ∷ ms) i j x are h =
    let b = step i (λ b. refuse (not (b.0 == m)) (fault BadMagic i.at) >>= λ y. magic_at ms b.1) (x, j) exact-u8 are h in
    let same = passed (not (b.value == m)) (fault BadMagic i.at) (λ y. magic_at ms b.rest) (x, j) b.more in
    let later = magic-takes ms b.rest j x b.bytes same.1 in
    let is : b.value ≡ m = is-number b.value m (not-false (b.value == m) same.0) in
    record { fits = tt; spelled = b.spelled ∙ (λ t. is t ∷ later.spelled t) }

magic-gives : (ms : List ℕ) (i : Rest) (x : Unit {0}) (more : List ℕ) → AreBytes ms → i.bytes ≡ ms ++ more
    → Given (magic_at ms) i x more
unfolding magic_at
magic-gives [] i x more are e = record { after = i; is = refl; left = e }
magic-gives (m ∷ ms) i x more are e =
    let b = exact-u8.gives i m (ms ++ more) (All-head (λ (n : ℕ). n < 256) m ms are) e in
    let later = magic-gives ms b.after x more (All-tail (λ (n : ℕ). n < 256) m ms are) b.left in
    let same = is-same m in
    record { after = later.after; is = rw (b.is, same) later.is; left = later.left }

are-magic : AreBytes magic
are-magic = All-from_recursion (λ (n : ℕ). n < 256) magic
    (omega arith, (omega arith, (omega arith, (omega arith, (omega arith, (omega arith, (omega arith, (omega arith, tt))))))))

exact-magic : Exact (magic_at magic) (nothing magic) Any
exact-magic = record {
  takes = magic-takes magic;
  gives = λ i x more fits e. magic-gives magic i x more are-magic e;
}

-- ---- numbers with a rule

-- version 1 or 2
abbrev pub IsVersion : ℕ → Type 0
IsVersion n = (n == 1 || n == 2) ≡ true

version-small : (n : ℕ) → IsVersion n → n < 2 ^ 32
version-small n t = grind (arith, nat_tests, t)

exact-version : Exact version_at u32_bytes IsVersion
unfolding version_at
exact-version = record {
  takes = λ i j x are h.
      let n = step i _ (x, j) exact-u32 are h in
      let one = passed (not (n.value == 1 || n.value == 2)) (fault Version i.at) _ (x, j) n.more in
      ended u32_bytes IsVersion i n.rest j n.value x one.1 (not-false (n.value == 1 || n.value == 2) one.0) n.spelled;
  gives = λ i x more fits e.
      let n = exact-u32.gives i x more (version-small x fits) e in
      let one = false-not (x == 1 || x == 2) fits in
      record { after = n.after; is = rw (n.is, one) refl; left = n.left };
}

exact-stacks : Exact stacks_at u8_bytes (λ n. n ≤ 16)
unfolding stacks_at
exact-stacks = record {
  takes = λ i j x are h.
      let n = step i _ (x, j) exact-u8 are h in
      let few = passed (nat_lt 16 n.value) (fault TooMany i.at) _ (x, j) n.more in
      ended u8_bytes (λ (m : ℕ). m ≤ 16) i n.rest j n.value x few.1 (let t = few.0 in grind (arith, nat_tests, t)) n.spelled;
  gives = λ i x more fits e.
      let n = exact-u8.gives i x more (omega (arith, fits)) e in
      let few : nat_lt 16 x ≡ false = grind (arith, nat_tests, fits) in
      record { after = n.after; is = rw (n.is, few) refl; left = n.left };
}

pub exact-count : (limit : ℕ) → limit < 2 ^ 32 → Exact (count_at limit) u32_bytes (λ n. n ≤ limit)
unfolding count_at
exact-count limit small = record {
  takes = λ i j x are h.
      let n = step i _ (x, j) exact-u32 are h in
      let few = passed (nat_lt limit n.value) (fault TooMany i.at) _ (x, j) n.more in
      ended u32_bytes (λ (m : ℕ). m ≤ limit) i n.rest j n.value x few.1 (let t = few.0 in grind (arith, nat_tests, t))
      n.spelled;
  gives = λ i x more fits e.
      let n = exact-u32.gives i x more (omega (arith, fits, small)) e in
      let few : nat_lt limit x ≡ false = grind (arith, nat_tests, fits) in
      record { after = n.after; is = rw (n.is, few) refl; left = n.left };
}

-- ---- what stands before the contexts

pub record IsHead (h : Head) : Type 0 where
  pub version : IsVersion h.version
  pub image : AreMany 32 h.digests.image
  pub config : AreMany 32 h.digests.config
  pub stacks : h.stacks ≤ 16
  pub user : IsUser h.user

abbrev pub start_bytes : Head → List ℕ
start_bytes h =
    magic ++ (u32_bytes h.version ++ (h.digests.image ++ (h.digests.config ++ (u8_bytes h.stacks ++ user_bytes h.user))))

pub exact-head : Exact head_at start_bytes IsHead
unfolding head_at
exact-head = record {
  takes = λ i j x are h.
      let m = step i _ (x, j) exact-magic are h in
      let v = step m.rest _ (x, j) exact-version m.bytes m.more in
      let g = step v.rest _ (x, j) (exact-bytes 32) v.bytes v.more in
      let c = step g.rest _ (x, j) (exact-bytes 32) g.bytes g.more in
      let s = step c.rest _ (x, j) exact-stacks c.bytes c.more in
      let u = step s.rest _ (x, j) exact-user s.bytes s.more in
      let head : Head = record {
        version = v.value;
        digests = record { image = g.value; config = c.value };
        stacks = s.value;
        user = u.value;
      } in
      let e4 = u8_bytes s.value ++ user_bytes u.value in
      let e3 = c.value ++ e4 in
      let e2 = g.value ++ e3 in
      let e1 = u32_bytes v.value ++ e2 in
      ended start_bytes IsHead i u.rest j head x u.more
      (record { version = v.fits; image = g.fits; config = c.fits; stacks = s.fits; user = u.fits })
      (joined i.bytes magic e1 m.rest.bytes u.rest.bytes m.spelled
      (joined m.rest.bytes (u32_bytes v.value) e2 v.rest.bytes u.rest.bytes v.spelled
      (joined v.rest.bytes g.value e3 g.rest.bytes u.rest.bytes g.spelled
      (joined g.rest.bytes c.value e4 c.rest.bytes u.rest.bytes c.spelled
      (joined c.rest.bytes (u8_bytes s.value) (user_bytes u.value) s.rest.bytes u.rest.bytes s.spelled u.spelled)))));
  gives = λ i x more fits e.
      let e4 = u8_bytes x.stacks ++ user_bytes x.user in
      let e3 = x.digests.config ++ e4 in
      let e2 = x.digests.image ++ e3 in
      let e1 = u32_bytes x.version ++ e2 in
      let m = exact-magic.gives i tt (e1 ++ more) tt (split i.bytes magic e1 more e) in
      let v = exact-version.gives m.after x.version (e2 ++ more) fits.version
      (split m.after.bytes (u32_bytes x.version) e2 more m.left) in
      let g = (exact-bytes 32).gives v.after x.digests.image (e3 ++ more) fits.image
      (split v.after.bytes x.digests.image e3 more v.left) in
      let c = (exact-bytes 32).gives g.after x.digests.config (e4 ++ more) fits.config
      (split g.after.bytes x.digests.config e4 more g.left) in
      let s = exact-stacks.gives c.after x.stacks (user_bytes x.user ++ more) fits.stacks
      (split c.after.bytes (u8_bytes x.stacks) (user_bytes x.user) more c.left) in
      let u = exact-user.gives s.after x.user more fits.user s.left in
      record { after = u.after; is = rw (m.is, v.is, g.is, c.is, s.is, u.is) refl; left = u.left };
}

-- ---- contexts

-- a context after these
pub record IsNext (stacks : ℕ) (before : List Context) (c : Context) : Type 0 where
  pub key : IsKeyOf stacks c.key
  pub summary : IsSummary c.summary
  pub rises : key_rises (last_of before) c.key ≡ true

exact-context : (stacks : ℕ) (before : List Context) → stacks ≤ 16
    → Exact (context_at stacks before) context_bytes (IsNext stacks before)
unfolding context_at
exact-context stacks before most = record {
  takes = λ i j x are h.
      let k = step i _ (x, j) (exact-key stacks most) are h in
      let rises = passed (not (key_rises (last_of before) k.value)) (fault Order i.at) _ (x, j) k.more in
      let s = step k.rest _ (x, j) exact-summary k.bytes rises.1 in
      ended context_bytes (IsNext stacks before) i s.rest j (record { key = k.value; summary = s.value }) x s.more
      (record { key = k.fits; summary = s.fits; rises = not-false (key_rises (last_of before) k.value) rises.0 })
      (joined i.bytes (key_bytes k.value) (summary_bytes s.value) k.rest.bytes s.rest.bytes k.spelled s.spelled);
  gives = λ i x more fits e.
      let k = (exact-key stacks most).gives i x.key (summary_bytes x.summary ++ more) fits.key
      (split i.bytes (key_bytes x.key) (summary_bytes x.summary) more e) in
      let rises = false-not (key_rises (last_of before) x.key) fits.rises in
      let s = exact-summary.gives k.after x.summary more fits.summary k.left in
      record { after = s.after; is = rw (k.is, rises, s.is) refl; left = s.left };
}

pub adds-context : (stacks : ℕ) → stacks ≤ 16
    → Adds (next_context stacks) push (λ before. context_bytes) (IsNext stacks) Always
adds-context stacks most =
    adds-item (context_at stacks) push (λ before. context_bytes) (IsNext stacks)
    (λ before. exact-context stacks before most)
