-- How stable readings are put together. Each combinator makes the record Stable of the whole from those of its parts, by
-- cases on what the first part answered (bind_ok, bind_err). A test doesn't look at the bytes, so its answer is the
-- same with more of them. So many times go by induction on their number. omega is left lengths alone.
use Rattle.std.proofs.Common.{◌≡◌, ℕ, zero, suc, ◌+◌, ◌≤◌, ◌<◌, Bool, true, false, cond, List, [], ◌∷◌, ◌++◌, length, take, drop, Result, Ok, Err, ◌⊎◌, inl, inr, refl, sym, ap, ◌∙◌, arith}
use Rattle.std.proofs.lemmas.List.{length-append, take-append-le, drop-append-le}
use Rattle.std.specs.Prelude.{nat_lt, if◌then◌else◌}
use Rattle.kc_rules.specs.Rules.{◌>>=◌}
use Rattle.kc_rules.proofs.AnswerLemmas.{bind_ok, bind_err, ok_is}
use Rattle.kc_certfields.specs.declared.fault.CertFault.{CertFault}
use Rattle.kc_certfields.specs.Rest.{Rest}
use Rattle.kc_certfields.specs.Reads.{Reading, times, past, short}
use Rattle.kc_certfields.specs.Stable.{is_short, followed, Stable}

-- one reading after another, which may depend on what the first read and on where it began
pub stable-then : {A B : Type 0} (read : Reading A) (f : ℕ → A → Reading B) → Stable read
    → ((at : ℕ) (x : A) → Stable (f at x)) → Stable (λ i. read i >>= λ x. f i.at x.0 x.1)
stable-then {A} {B} read f first second = record {
  goes_on = λ i j y more h.
      let b = bind_ok (read i) (λ x. f i.at x.0 x.1) (y, j) h in
      ap (λ (r : Result (A × Rest) CertFault). r >>= λ x. f i.at x.0 x.1)
      (first.goes_on i b.0.1 b.0.0 more b.1)
      ∙ (second i.at b.0.0).goes_on b.0.1 j y more b.2;
  stays = λ i e more h s.
      elim (bind_err (read i) (λ x. f i.at x.0 x.1) e h) [
        | inl one ↦ ap (λ (r : Result (A × Rest) CertFault). r >>= λ x. f i.at x.0 x.1) (first.stays i e more one s)
        | inr b ↦
            ap (λ (r : Result (A × Rest) CertFault). r >>= λ x. f i.at x.0 x.1)
            (first.goes_on i b.0.1 b.0.0 more b.1)
            ∙ (second i.at b.0.0).stays b.0.1 e more b.2 s
      ];
}

-- a test that doesn't look at the bytes, and a reading after it
pub stable-test : {A B : Type 0} (test : Result A CertFault) (f : A → Reading B) → ((x : A) → Stable (f x))
    → Stable (λ i. test >>= λ x. f x i)
stable-test (Ok x) f each = each x
stable-test (Err e) f each = record { goes_on = λ i j y more h. absurd cc; stays = λ i d more h s. h }

-- nothing is read
pub stable-pure : {A : Type 0} (x : A) → Stable (λ i. Ok (x, i))
stable-pure {A} x = record {
  goes_on = λ i j y more h.
      let pair : (x, i) ≡ (y, j) = ok_is {E = CertFault} (x, i) (y, j) h in
      ap (λ (p : A × Rest). Ok (p.0, followed p.1 more)) pair;
  stays = λ i e more h s. absurd cc;
}

-- the same fault always
pub stable-fault : {A : Type 0} (e : CertFault) → Stable {A = A} (λ i. Err e)
stable-fault e = record { goes_on = λ i j y more h. absurd cc; stays = λ i d more h s. h }

-- a choice that doesn't look at the bytes
pub stable-if : {A : Type 0} (b : Bool) (f g : Reading A) → Stable f → Stable g
    → Stable (λ i. if b then f i else g i)
stable-if true f g first second = first
stable-if false f g first second = second

-- a reading, and a value made of what it read
pub stable-map : {A B : Type 0} (read : Reading A) (g : A → B) → Stable read
    → Stable (λ i. read i >>= λ x. Ok (g x.0, x.1))
stable-map read g first = stable-then read (λ at x j. Ok (g x, j)) first (λ at x. stable-pure (g x))

-- so many times
pub stable-times : {S : Type 0} (next : S → Reading S) → ((s : S) → Stable (next s)) → (n : ℕ) (s : S)
    → Stable (times next n s)
unfolding times
stable-times next each zero s = stable-pure s
stable-times next each (suc n) s =
    stable-then (next s) (λ at more. times next n more) (each s) (λ at more. stable-times next each n more)
