-- What holds of all that a reading may read (`Only`), whatever the bytes are: of one reading after another, of a test
-- that was passed, of a value that is made, and of so many times, by induction on their number.
use Rattle.std.proofs.Common.{◌≡◌, ℕ, zero, suc, ◌+◌, Bool, true, false, Ok, refl, subst, ap, if◌then◌else◌, arith}
use Rattle.std.specs.Prelude.{⊤}
use Rattle.kc_rules.specs.Rules.{◌>>=◌, refuse}
use Rattle.kc_rules.proofs.AnswerLemmas.{bind_ok, ok_is}
use Rattle.kc_certfields.specs.declared.fault.CertFault.{CertFault}
use Rattle.kc_certfields.specs.Rest.{Rest}
use Rattle.kc_certfields.specs.Reads.{Reading, times}

-- all that is read is such a value
abbrev pub Only : {A : Type 0} → (A → Type 0) → Reading A → Type 0
Only {A} P read = (i j : Rest) (x : A) → read i ≡ Ok (x, j) → P x

pub anything : {A : Type 0} (read : Reading A) → Only (λ x. ⊤) read
anything read i j x h = tt

pub only-then : {A B : Type 0} (P : A → Type 0) (Q : B → Type 0) (read : Reading A) (f : ℕ → A → Reading B)
    → Only P read → ((at : ℕ) (x : A) → P x → Only Q (f at x)) → Only Q (λ i. read i >>= λ x. f i.at x.0 x.1)
only-then P Q read f first second i j y h =
    let b = bind_ok (read i) (λ x. f i.at x.0 x.1) (y, j) h in
    second i.at b.0.0 (first i b.0.1 b.0.0 b.1) b.0.1 j y b.2

-- the rule isn't broken
pub only-test : {A : Type 0} (Q : A → Type 0) (broken : Bool) (e : CertFault) (f : Reading A)
    → (broken ≡ false → Only Q f) → Only Q (λ i. refuse broken e >>= λ x. f i)
only-test Q true e f each i j y h = absurd cc
only-test Q false e f each i j y h = each refl i j y h

pub only-pure : {A : Type 0} (Q : A → Type 0) (x : A) → Q x → Only Q (λ i. Ok (x, i))
only-pure {A} Q x q i j y h =
    let pair : (x, i) ≡ (y, j) = ok_is {E = CertFault} (x, i) (y, j) h in
    subst Q (ap (λ (p : A × Rest). p.0) pair) q

pub only-if : {A : Type 0} (Q : A → Type 0) (b : Bool) (f g : Reading A) → Only Q f → Only Q g
    → Only Q (λ i. if b then f i else g i)
only-if Q true f g first second = first
only-if Q false f g first second = second

-- what holds of k reads holds of n more
pub only-times : {S : Type 0} (P : ℕ → S → Type 0) (next : S → Reading S)
    → ((k : ℕ) (s : S) → P k s → Only (P (suc k)) (next s)) → (n k : ℕ) (s : S) → P k s
    → Only (P (n + k)) (times next n s)
unfolding times
only-times P next step zero k s p =
    let there : k ≡ zero + k = omega arith in
    only-pure (P (zero + k)) s (subst (λ (m : ℕ). P m s) there p)
only-times P next step (suc n) k s p =
    only-then (P (suc k)) (P (suc n + k)) (next s) (λ at more. times next n more) (step k s p)
    (λ at more q i j y h.
    let there : n + suc k ≡ suc n + k = omega arith in
    subst (λ (m : ℕ). P m y) there (only-times P next step n (suc k) more q i j y h))
