-- What is known of latches, GS bases and CR3 is read exactly: a byte that is a number of a value, by one lemma for all.
use Rattle.std.proofs.Common.{◌≡◌, ℕ, ◌+◌, ◌*◌, ◌/◌, ◌%◌, ◌<◌, inl, inr, Bool, true, false, List, ◌∷◌, Option, Some, None, Result, Ok, refl, sym, ap, ◌∙◌, arith}
use Rattle.std.specs.Prelude.{nat_lt, if◌then◌else◌, ◌==◌}
use Rattle.std.proofs.lemmas.Bool.Decides.{nat_tests}
use Rattle.kc_rules.specs.Rules.{◌>>=◌}
use Rattle.kc_rules.proofs.AnswerLemmas.{some_is}
use Rattle.kc_space.specs.Latches.{tri_number}
use Rattle.kc_space.specs.Spaces.{who_number, gs_number, map_number}
use Rattle.kc_space.specs.declared.gs.GsPair.{GsPair}
use Rattle.kc_space.specs.declared.map.MapState.{MapState}
use Rattle.kc_space.specs.declared.map.MapState.TheVariants as map
use Rattle.kc_space.specs.declared.tri.Tri.{Tri}
use Rattle.kc_space.specs.declared.tri.Tri.TheVariants as tri
use Rattle.kc_space.specs.declared.who.Who.{Who}
use Rattle.kc_space.specs.declared.who.Who.TheVariants as who
use Rattle.kc_certfields.specs.declared.fault.CertFault.{CertFault}
use Rattle.kc_certfields.specs.Rest.{Rest}
use Rattle.kc_certfields.specs.Reads.{one_of}
use Rattle.kc_certfields.specs.Numbers.{u8_at}
use Rattle.kc_certfields.specs.Spaces.{tri_of, map_of, who_of, gs_of, tri_at, map_at, gs_at, latches_at}
use Rattle.kc_certfields.specs.Spelling.{u8_bytes, latches_bytes}
use Rattle.kc_certexact.specs.Exact.{Exact}
use Rattle.kc_certexact.proofs.ExactLemmas.{step, found, ended, is-number, chosen}
use Rattle.kc_certexact.proofs.NumbersExact.{exact-u8}

-- any value fits
abbrev pub Any : {A : Type 0} → A → Type 0
Any x = Unit {0}

-- a byte, and the value that it is the number of
exact-one : {A : Type 0} (of : ℕ → Option A) (number : A → ℕ) → ((n : ℕ) (x : A) → of n ≡ Some x → number x ≡ n)
    → ((x : A) → of (number x) ≡ Some x) → ((x : A) → number x < 256)
    → Exact (λ i. u8_at i >>= λ n. one_of (of n.0) i.at >>= λ x. Ok (x, n.1)) (λ x. u8_bytes (number x)) Any
exact-one {A} of number back forth small = record {
  takes = λ i j x are h.
      let n = step i (λ n. one_of (of n.0) i.at >>= λ x. Ok (x, n.1)) (x, j) exact-u8 are h in
      let o = found (of n.value) i.at (λ y. Ok (y, n.rest)) (x, j) n.more in
      ended (λ (y : A). u8_bytes (number y)) Any i n.rest j o.0 x o.2 tt
      (n.spelled ∙ ap (λ (m : ℕ). m ∷ n.rest.bytes) (sym (back n.value o.0 o.1)));
  gives = λ i x more fits e.
      let n = exact-u8.gives i (number x) more (small x) e in
      let after : Result (ℕ × Rest) CertFault → Result (A × Rest) CertFault =
      λ r. r >>= λ n. one_of (of n.0) i.at >>= λ y. Ok (y, n.1) in
      let found : Option A → Result (A × Rest) CertFault = λ o. one_of o i.at >>= λ y. Ok (y, n.after) in
      record { after = n.after; is = ap after n.is ∙ ap found (forth x); left = n.left };
}

tri-back : (n : ℕ) (t : Tri) → tri_of n ≡ Some t → tri_number t ≡ n
tri-back n t h =
    elim (chosen {A = Option Tri} (n == 0) (Some tri.No)
    (if n == 1 then Some tri.Yes else if n == 2 then Some tri.Any else None) (Some t) h) [
      | inl a ↦ ap tri_number (sym (some_is tri.No t a.1)) ∙ sym (is-number n 0 a.0)
      | inr a ↦ elim (chosen (n == 1) (Some tri.Yes) (if n == 2 then Some tri.Any else None) (Some t) a.1) [
        | inl b ↦ ap tri_number (sym (some_is tri.Yes t b.1)) ∙ sym (is-number n 1 b.0)
        | inr b ↦ elim (chosen (n == 2) (Some tri.Any) None (Some t) b.1) [
          | inl c ↦ ap tri_number (sym (some_is tri.Any t c.1)) ∙ sym (is-number n 2 c.0)
          | inr c ↦ absurd (let e = c.1 in cc)
        ]
      ]
    ]

pub tri-forth : (t : Tri) → tri_of (tri_number t) ≡ Some t
tri-forth tri.No = refl
tri-forth tri.Yes = refl
tri-forth tri.Any = refl

tri-small : (t : Tri) → tri_number t < 256
tri-small tri.No = omega arith
tri-small tri.Yes = omega arith
tri-small tri.Any = omega arith

pub exact-tri : Exact tri_at (λ t. u8_bytes (tri_number t)) Any
unfolding tri_at
exact-tri = exact-one tri_of tri_number tri-back tri-forth tri-small

map-back : (n : ℕ) (m : MapState) → map_of n ≡ Some m → map_number m ≡ n
map-back n m h =
    elim (chosen (n == 0) (Some map.Kernel) (if n == 1 then Some map.User else if n == 2 then Some map.Any else None)
    (Some m) h) [
      | inl a ↦ ap map_number (sym (some_is map.Kernel m a.1)) ∙ sym (is-number n 0 a.0)
      | inr a ↦ elim (chosen (n == 1) (Some map.User) (if n == 2 then Some map.Any else None) (Some m) a.1) [
        | inl b ↦ ap map_number (sym (some_is map.User m b.1)) ∙ sym (is-number n 1 b.0)
        | inr b ↦ elim (chosen (n == 2) (Some map.Any) None (Some m) b.1) [
          | inl c ↦ ap map_number (sym (some_is map.Any m c.1)) ∙ sym (is-number n 2 c.0)
          | inr c ↦ absurd (let e = c.1 in cc)
        ]
      ]
    ]

pub map-forth : (m : MapState) → map_of (map_number m) ≡ Some m
map-forth map.Kernel = refl
map-forth map.User = refl
map-forth map.Any = refl

map-small : (m : MapState) → map_number m < 256
map-small map.Kernel = omega arith
map-small map.User = omega arith
map-small map.Any = omega arith

pub exact-map : Exact map_at (λ m. u8_bytes (map_number m)) Any
unfolding map_at
exact-map = exact-one map_of map_number map-back map-forth map-small

-- ---- both GS bases

who-back : (n : ℕ) → n < 3 → who_number (who_of n) ≡ n
who-back n below = go (n == 0) refl (n == 1) refl
  where
    go : (a : Bool) → (n == 0) ≡ a → (b : Bool) → (n == 1) ≡ b
        → who_number (if a then who.Kernel else if b then who.User else who.Any) ≡ n
    go true t b u = sym (is-number n 0 t)
    go false t true u = sym (is-number n 1 u)
    go false t false u = grind (arith, nat_tests, t, u)

gs-back : (n : ℕ) (g : GsPair) → gs_of n ≡ Some g → gs_number g ≡ n
gs-back n g h =
    let pair : GsPair = record { active = who_of (n % 3); inactive = who_of (n / 3) } in
    elim (chosen (nat_lt n 9) (Some pair) None (Some g) h) [
      | inl a ↦
          let below : n < 9 = (let t = a.0 in grind (arith, nat_tests, t)) in
          let active = who-back (n % 3) (omega arith) in
          let inactive = who-back (n / 3) (omega (arith, below)) in
          ap gs_number (sym (some_is pair g a.1)) ∙ omega (arith, active, inactive)
      | inr a ↦ absurd (let e = a.1 in cc)
    ]

pub gs-forth : (g : GsPair) → gs_of (gs_number g) ≡ Some g
gs-forth g = go g.active g.inactive
  where
    go : (a b : Who) → gs_of (who_number a + 3 * who_number b) ≡ Some (record { active = a; inactive = b })
    go who.Kernel who.Kernel = refl
    go who.Kernel who.User = refl
    go who.Kernel who.Any = refl
    go who.User who.Kernel = refl
    go who.User who.User = refl
    go who.User who.Any = refl
    go who.Any who.Kernel = refl
    go who.Any who.User = refl
    go who.Any who.Any = refl

who-small : (w : Who) → who_number w < 3
who-small who.Kernel = omega arith
who-small who.User = omega arith
who-small who.Any = omega arith

gs-small : (g : GsPair) → gs_number g < 256
gs-small g = omega (arith, who-small g.active, who-small g.inactive)

pub exact-gs : Exact gs_at (λ g. u8_bytes (gs_number g)) Any
unfolding gs_at
exact-gs = exact-one gs_of gs_number gs-back gs-forth gs-small

-- ---- latches

pub exact-latches : Exact latches_at latches_bytes Any
unfolding latches_at
exact-latches = record {
  takes = λ i j x are h.
      let a = step i _ (x, j) exact-tri are h in
      let b = step a.rest _ (x, j) exact-tri a.bytes a.more in
      let c = step b.rest _ (x, j) exact-tri b.bytes b.more in
      ended latches_bytes Any i c.rest j (record { nmi_blocked = a.value; shadow = b.value; mcip = c.value }) x
      c.more tt
      (a.spelled ∙ ap (λ (l : List ℕ). tri_number a.value ∷ l) (b.spelled
      ∙ ap (λ (l : List ℕ). tri_number b.value ∷ l) c.spelled));
  gives = λ i x more fits e.
      let a = exact-tri.gives i x.nmi_blocked (tri_number x.shadow ∷ tri_number x.mcip ∷ more) tt e in
      let b = exact-tri.gives a.after x.shadow (tri_number x.mcip ∷ more) tt a.left in
      let c = exact-tri.gives b.after x.mcip more tt b.left in
      record { after = c.after; is = rw (a.is, b.is, c.is) refl; left = c.left };
}
