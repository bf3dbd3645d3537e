-- One pass over events asks three conditions of each: the first is refused at once, and of the other two the first
-- events that fail are kept. What is left of the events, with those kept, answers as the three conditions in a row:
-- by a step of the list for each condition (`each_filter-next`), and by cases on what is kept.
use Rattle.std.proofs.Common.{◌≡◌, ℕ, ◌+◌, ◌<◌, ◌≤◌, Bool, true, false, cond, List, length, get_or, drop, Option, Some, None, Result, Ok, Err, refl}
use Rattle.std.specs.Prelude.{filter}
use Rattle.kc_rules.specs.Rules.{◌>>=◌}
use Rattle.kc_cert.specs.FirstRefusal.{demand, each}
use Rattle.kc_check.specs.Events.{first_failed}
use Rattle.kc_check.proofs.EachLemmas.{bind-err, demand-false, demand-true, each_filter-end, each_filter-failed, each_filter-passed, each_filter-skipped}

-- a condition of the events that come, with the refusals where it fails
pub record Asked (E : Type 0) : Type 0 where
  pub holds : ℕ → Bool
  pub refusal : ℕ → E

abbrev asked : {E : Type 0} → (ℕ → Bool) → Asked E → List ℕ → Result (Unit {0}) E
asked comes k vs = each (λ v. demand (k.holds v) (k.refusal v)) (filter comes vs)

-- what it answers of these events, where it failed already at the one that is kept
abbrev after : {E : Type 0} → (ℕ → Bool) → Asked E → Option ℕ → List ℕ → Result (Unit {0}) E
after comes k (Some v) vs = Err (k.refusal v)
after comes k None vs = asked comes k vs

abbrev pub pass : {E : Type 0} → (ℕ → Bool) → Asked E → Asked E → Asked E → Option ℕ → Option ℕ → List ℕ
    → Result (Unit {0}) E
pass comes a b c kept counted vs = do
  ok ← asked comes a vs
  ok ← after comes b kept vs
  after comes c counted vs

-- ---- one condition

after-skipped : {E : Type 0} (comes : ℕ → Bool) (k : Asked E) (f : Option ℕ) (vs : List ℕ) (i : ℕ) → i < length vs
    → comes (get_or vs i 0) ≡ false → after comes k f (drop i vs) ≡ after comes k f (drop (i + 1) vs)
after-skipped comes k (Some v) vs i h e = refl
after-skipped comes k None vs i h e =
    each_filter-skipped (λ v. demand (k.holds v) (k.refusal v)) comes vs i 0 h e

after-next : {E : Type 0} (comes : ℕ → Bool) (k : Asked E) (f : Option ℕ) (vs : List ℕ) (i : ℕ) → i < length vs
    → comes (get_or vs i 0) ≡ true
    → after comes k f (drop i vs) ≡ after comes k (first_failed f (k.holds (get_or vs i 0)) (get_or vs i 0)) (drop (i + 1) vs)
after-next comes k (Some v) vs i h e = refl
after-next {E} comes k None vs i h e = go (k.holds x) refl
  where
    x : ℕ
    x = get_or vs i 0

    go : (b : Bool) → k.holds x ≡ b → asked comes k (drop i vs) ≡ after comes k (cond b None (Some x)) (drop (i + 1) vs)
    go true holds = each_filter-passed (λ v. demand (k.holds v) (k.refusal v)) comes vs i 0 h e
        (demand-true (k.holds x) (k.refusal x) holds)
    go false fails = each_filter-failed (λ v. demand (k.holds v) (k.refusal v)) comes vs i 0 (k.refusal x) h e
        (demand-false (k.holds x) (k.refusal x) fails)

-- ---- the three

-- an event that doesn't come is passed over
pub pass-skipped : {E : Type 0} (comes : ℕ → Bool) (a b c : Asked E) (kept counted : Option ℕ) (vs : List ℕ) (i : ℕ)
    → i < length vs → comes (get_or vs i 0) ≡ false
    → pass comes a b c kept counted (drop i vs) ≡ pass comes a b c kept counted (drop (i + 1) vs)
pass-skipped comes a b c kept counted vs i h e = λ j. do
  ok ← after-skipped comes a None vs i h e j
  ok ← after-skipped comes b kept vs i h e j
  after-skipped comes c counted vs i h e j

-- the first condition holds of an event that comes
pub pass-next : {E : Type 0} (comes : ℕ → Bool) (a b c : Asked E) (kept counted : Option ℕ) (vs : List ℕ) (i : ℕ)
    → i < length vs → comes (get_or vs i 0) ≡ true → a.holds (get_or vs i 0) ≡ true
    → pass comes a b c kept counted (drop i vs)
    ≡ pass comes a b c (first_failed kept (b.holds (get_or vs i 0)) (get_or vs i 0))
    (first_failed counted (c.holds (get_or vs i 0)) (get_or vs i 0)) (drop (i + 1) vs)
pass-next comes a b c kept counted vs i h e holds = λ j. do
  ok ← each_filter-passed (λ v. demand (a.holds v) (a.refusal v)) comes vs i 0 h e
      (demand-true (a.holds (get_or vs i 0)) (a.refusal (get_or vs i 0)) holds) j
  ok ← after-next comes b kept vs i h e j
  after-next comes c counted vs i h e j

-- it fails
pub pass-failed : {E : Type 0} (comes : ℕ → Bool) (a b c : Asked E) (kept counted : Option ℕ) (vs : List ℕ) (i : ℕ)
    → i < length vs → comes (get_or vs i 0) ≡ true → a.holds (get_or vs i 0) ≡ false
    → pass comes a b c kept counted (drop i vs) ≡ Err (a.refusal (get_or vs i 0))
pass-failed comes a b c kept counted vs i h e fails =
    bind-err (asked comes a (drop i vs)) (after comes b kept (drop i vs) >>= λ ok. after comes c counted (drop i vs))
    (a.refusal (get_or vs i 0))
    (each_filter-failed (λ v. demand (a.holds v) (a.refusal v)) comes vs i 0 (a.refusal (get_or vs i 0)) h e
    (demand-false (a.holds (get_or vs i 0)) (a.refusal (get_or vs i 0)) fails))

-- no event is left
abbrev pub failed : {E : Type 0} → Asked E → Option ℕ → Result (Unit {0}) E
failed k (Some v) = Err (k.refusal v)
failed k None = Ok tt

after-end : {E : Type 0} (comes : ℕ → Bool) (k : Asked E) (f : Option ℕ) (vs : List ℕ) (i : ℕ) → length vs ≤ i
    → after comes k f (drop i vs) ≡ failed k f
after-end comes k (Some v) vs i h = refl
after-end comes k None vs i h = each_filter-end (λ v. demand (k.holds v) (k.refusal v)) comes vs i h

pub pass-end : {E : Type 0} (comes : ℕ → Bool) (a b c : Asked E) (kept counted : Option ℕ) (vs : List ℕ) (i : ℕ)
    → length vs ≤ i
    → pass comes a b c kept counted (drop i vs) ≡ (failed b kept >>= λ ok. failed c counted)
pass-end comes a b c kept counted vs i h = λ j. do
  ok ← after-end comes a None vs i h j
  ok ← after-end comes b kept vs i h j
  after-end comes c counted vs i h j
