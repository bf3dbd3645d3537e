-- How exact readings are put together. `step` opens the first reading of several: what it read, and what the others
-- read after it; `passed`, `fitted`, `found` open a test. `joined` puts two spellings one after the other. `ended`
-- says it of the value that was put together.
use Rattle.std.proofs.Common.{◌≡◌, ℕ, ◌<◌, Bool, true, false, not, List, ◌++◌, length, drop, Option, Some, None, Result, Ok, ◌⊎◌, inl, inr, refl, sym, ap, ◌∙◌, subst, append_assoc, arith}
use Rattle.std.specs.Prelude.{if◌then◌else◌, ◌==◌}
use Rattle.std.proofs.Math.Seq.{drop-append_seam}
use Rattle.std.proofs.lemmas.Bool.Decides.{nat_tests}
use Rattle.std.proofs.lemmas.List.Elements.{All-drop}
use Rattle.kc_rules.specs.Rules.{◌>>=◌, refuse}
use Rattle.kc_rules.proofs.AnswerLemmas.{bind_ok, ok_is, done}
use Rattle.kc_certfields.specs.declared.fault.CertFault.{CertFault}
use Rattle.kc_certfields.specs.Rest.{Rest}
use Rattle.kc_certfields.specs.Reads.{Reading, in_range, one_of}
use Rattle.kc_certexact.specs.Exact.{AreBytes, Taken, Exact}

-- what follows bytes are bytes
pub bytes-after : (xs ys all : List ℕ) → AreBytes all → all ≡ xs ++ ys → AreBytes ys
bytes-after xs ys all are e =
    subst (λ (l : List ℕ). AreBytes l) (ap (drop (length xs)) e ∙ drop-append_seam xs ys)
    (All-drop (λ (b : ℕ). b < 256) (length xs) all are)

-- ---- what was read

pub record Step {A B : Type 0} (spell : A → List ℕ) (Fits : A → Type 0) (i : Rest) (f : A × Rest → Result B CertFault)
    (y : B) : Type 0 where
  pub value : A
  pub rest : Rest
  pub fits : Fits value
  pub spelled : i.bytes ≡ spell value ++ rest.bytes
  pub bytes : AreBytes rest.bytes
  pub more : f (value, rest) ≡ Ok y

pub step : {A B : Type 0} {read : Reading A} {spell : A → List ℕ} {Fits : A → Type 0} (i : Rest)
    (f : A × Rest → Result B CertFault) (y : B) → Exact read spell Fits → AreBytes i.bytes
    → (read i >>= f) ≡ Ok y → Step spell Fits i f y
step {A} {B} {read} {spell} {Fits} i f y exact are h =
    let b = bind_ok (read i) f y h in
    let t = exact.takes i b.0.1 b.0.0 are b.1 in
    record {
      value = b.0.0;
      rest = b.0.1;
      fits = t.fits;
      spelled = t.spelled;
      bytes = bytes-after (spell b.0.0) b.0.1.bytes i.bytes are t.spelled;
      more = b.2;
    }

-- a rule that wasn't broken
pub passed : {B : Type 0} (b : Bool) (e : CertFault) (f : Unit {0} → Result B CertFault) (y : B)
    → (refuse b e >>= f) ≡ Ok y → (b ≡ false) × (f tt ≡ Ok y)
passed true e f y h = absurd cc
passed false e f y h = (refl, h)

pub fitted : {B : Type 0} (b : Bool) (at : ℕ) (f : Unit {0} → Result B CertFault) (y : B)
    → (in_range b at >>= f) ≡ Ok y → (b ≡ true) × (f tt ≡ Ok y)
fitted true at f y h = (refl, h)
fitted false at f y h = absurd cc

pub found : {A B : Type 0} (o : Option A) (at : ℕ) (f : A → Result B CertFault) (y : B)
    → (one_of o at >>= f) ≡ Ok y → (x : A) × (o ≡ Some x) × (f x ≡ Ok y)
found (Some x) at f y h = (x, refl, h)
found None at f y h = absurd cc

-- a choice that took one of its ways
pub chosen : {A : Type 0} (b : Bool) (x y z : A) → if◌then◌else◌ {A = A} b x y ≡ z
    → ((b ≡ true) × (x ≡ z)) ⊎ ((b ≡ false) × (y ≡ z))
chosen true x y z e = inl (refl, e)
chosen false x y z e = inr (refl, e)

-- what tests say
pub is-number : (n k : ℕ) → (n == k) ≡ true → n ≡ k
is-number n k t = grind (arith, nat_tests, t)

pub not-false : (b : Bool) → not b ≡ false → b ≡ true
not-false true e = refl
not-false false e = absurd cc

pub false-not : (b : Bool) → b ≡ true → not b ≡ false
false-not true e = refl
false-not false e = absurd cc

pub not-true : (b : Bool) → not b ≡ true → b ≡ false
not-true true e = absurd cc
not-true false e = refl

pub true-not : (b : Bool) → b ≡ false → not b ≡ true
true-not true e = absurd cc
true-not false e = refl

-- two spellings one after the other
pub joined : (all xs ys middle rest : List ℕ) → all ≡ xs ++ middle → middle ≡ ys ++ rest → all ≡ (xs ++ ys) ++ rest
joined all xs ys middle rest first second =
    first ∙ ap (λ (l : List ℕ). xs ++ l) second ∙ sym (append_assoc xs ys rest)

-- the value that was put together
pub ended : {A : Type 0} (spell : A → List ℕ) (Fits : A → Type 0) (i k j : Rest) (y x : A)
    → done {A = A × Rest} {E = CertFault} (y, k) ≡ done (x, j) → Fits y → i.bytes ≡ spell y ++ k.bytes → Taken spell
    Fits i j x
ended {A} spell Fits i k j y x h fits spelled =
    let pair : (y, k) ≡ (x, j) = ok_is {E = CertFault} (y, k) (x, j) h in
    subst (λ (p : A × Rest). Taken spell Fits i p.1 p.0) pair (record { fits = fits; spelled = spelled })

-- ---- what is read

-- a reading of a part of what is spelled
pub split : (all xs ys rest : List ℕ) → all ≡ (xs ++ ys) ++ rest → all ≡ xs ++ (ys ++ rest)
split all xs ys rest e = e ∙ append_assoc xs ys rest
