-- Bytes that lie in one region. The region that holds the first byte holds each of them, since it ends after the last,
-- and no other region holds one of them, since no two meet. So a look-up by region or by stack answers for each byte
-- what it answers for the first. The bytes don't wrap, so the last of them is the highest: if one is live, it is.
use Rattle.std.proofs.Common.{◌≡◌, ℕ, zero, suc, ◌+◌, ◌-◌, ◌^◌, ◌<◌, ◌≤◌, Bool, true, false, not, cond, ◌&&◌, ◌||◌, List, [], ◌∷◌, length, slice_index_or, slice_get, Option, Some, None, arith, refl, ap, sym, ◌∙◌, subst}
use Rattle.std.specs.List.{Any, All, find, position_or_len, take_while}
use Rattle.std.specs.Option.{IsSomeAnd}
use Rattle.std.proofs.lemmas.Bool.{false≢true}
use Rattle.std.proofs.lemmas.List.Elements.{All-contains}
use Rattle.std.proofs.lemmas.List.Folds.{find_at}
use Rattle.std.proofs.lemmas.List.Sums.{take_while-cons}
use Rattle.std.proofs.lemmas.Option.{slice_get_within, get_or_from_slice_get}
use Rattle.kc_words.specs.Span.{Holds}
use Rattle.kc_regions.specs.declared.region.Kind.TheVariants.{Text}
use Rattle.kc_regions.specs.declared.region.Region.{Region}
use Rattle.kc_regions.specs.declared.touch.Touch.{Touch}
use Rattle.kc_regions.specs.declared.cpu.CpuSetup.{CpuSetup}
use Rattle.kc_regions.specs.Description.{Description}
use Rattle.kc_regions.specs.Order.{IsHolder, number_at}
use Rattle.kc_regions.specs.Permission.{passes, in_guard, is_present, has_right, permits}
use Rattle.kc_regions.specs.Region.{holds, is_guard, region_of, stack_of}
use Rattle.kc_regions.specs.Valid.{IsValid}
use Rattle.kc_regions.proofs.OrderLemmas.{holder-of, region-held, number-held, true-holds}
use Rattle.kc_mem.specs.Memory.{next}
use Rattle.kc_exec.specs.declared.access.Access.{Access}
use Rattle.kc_exec.specs.declared.state.Activation.{Activation}
use Rattle.kc_exec.specs.Execution.{guarded}
use Rattle.kc_exec.specs.Live.{IsLive, IsLiveFor}
use Rattle.kc_exec.specs.Operand.{plus}
use Rattle.kc_events.specs.Breaks.{judged, IsOf}
use Rattle.kc_machine.specs.JudgeSteps.{AreInOne, IsPlain, IsExecutable, HasLiveByte}
use Rattle.kc_machine.proofs.ListLemmas.{any-of, of-any}

-- ---- the region of the first byte

some-and : {A : Type 0} (o : Option A) (P : A → Type 0) → IsSomeAnd o P → (x : A) × (o ≡ Some x) × P x
some-and None P h = absurd h
some-and (Some x) P h = (x, refl, h)

found-here : (b : Bool) (p : Region → Bool) (x r : Region) (rest : Option Region) → p x ≡ b
    → (rest ≡ Some r → p r ≡ true)
    → cond b (Some x) rest ≡ Some r → p r ≡ true
found-here true p x r rest is others e = let same : x ≡ r = cc (e) in subst (λ (y : Region). p y ≡ true) same is
found-here false p x r rest is others e = others e

-- what is found passes the test
found-passes : (p : Region → Bool) (xs : List Region) (r : Region) → find p xs ≡ Some r → p r ≡ true
found-passes p [] r e = absurd (let k : ◌≡◌ {A = Option Region} None (Some r) = e in cc)
found-passes p (x ∷ xs) r e = found-here (p x) p x r (find p xs) refl (found-passes p xs r) e

-- the bytes' region, by its place in the list
record Place (cfg : Description) (a n : ℕ) : Type 0 where
  index : ℕ
  region : Region
  inside : index < length cfg.regions
  at : slice_index_or cfg.regions index region ≡ region
  begins : region.span.from ≤ a
  ends : a + n ≤ region.span.to
  some : 0 < n

place-of : (cfg : Description) (a n : ℕ) → AreInOne cfg a n → Place cfg a n
place-of cfg a n one =
    let found = some-and (region_of cfg.regions a) (λ (r : Region). a + n ≤ r.span.to) one.1 in
    let r = found.0 in
    let p = λ (x : Region). holds x.span a in
    let i = position_or_len p cfg.regions in
    let got : slice_get cfg.regions i ≡ Some r = sym (find_at p cfg.regions) ∙ found.1 in
    record {
      index = i;
      region = r;
      inside = slice_get_within cfg.regions i r got;
      at = get_or_from_slice_get cfg.regions i r r got;
      begins = (true-holds r.span a (found-passes p cfg.regions r found.1)).0;
      ends = found.2;
      some = one.0;
    }

-- ---- each byte

module _ (cfg : Description) (v : IsValid cfg) (a n : ℕ) (one : AreInOne cfg a n) where
  place : Place cfg a n
  place = place-of cfg a n one

  below : place.region.span.to < 2 ^ 64
  below = subst (λ (r : Region). r.span.to < 2 ^ 64) place.at
      (v.ranges.regions place.index place.region place.inside).span.1

  -- the bytes don't wrap
  pub in-order : (k : ℕ) → k < n → plus a k ≡ a + k
  in-order k lt = omega (arith, below, place.ends, lt)

  pub in-range : a < 2 ^ 64
  in-range = omega (arith, below, place.ends, place.some)

  holder : (k : ℕ) → k < n → IsHolder cfg.regions (plus a k) place.index
  holder k lt =
      let is = in-order k lt in
      holder-of cfg.regions (plus a k) place.index place.region place.inside
      (subst (λ (r : Region). Holds r.span (plus a k)) (sym place.at) (
        omega (arith, is, place.begins),
        omega (arith, is, place.ends, lt),
      ))

  region-at : (k : ℕ) → k < n → region_of cfg.regions (plus a k) ≡ slice_get cfg.regions place.index
  region-at k lt = sym (region-held cfg.regions (plus a k) place.index v.regions (holder k lt))

  stack-at : (k : ℕ) → k < n → stack_of cfg.regions (plus a k) ≡ number_at cfg.regions place.index
  stack-at k lt = sym (number-held cfg.regions (plus a k) place.index v.regions (holder k lt))

  first : plus a 0 ≡ a
  first = in-order 0 place.some ∙ omega arith

  -- each byte's region is the first one's
  pub same-region : (k : ℕ) → k < n → region_of cfg.regions (plus a k) ≡ region_of cfg.regions a
  same-region k lt =
      region-at k lt ∙ sym (region-at 0 place.some) ∙ ap (λ (x : ℕ). region_of cfg.regions x) first

  pub same-stack : (k j : ℕ) → k < n → j < n → stack_of cfg.regions (plus a k) ≡ stack_of cfg.regions (plus a j)
  same-stack k j lt less = stack-at k lt ∙ sym (stack-at j less)

  -- ---- live bytes

  last-for : (act : Activation) (k : ℕ) → k < n → IsLiveFor cfg act (plus a k) → IsLiveFor cfg act (plus a (n - 1))
  last-for act k lt h =
      let last : n - 1 < n = omega (arith, place.some) in record {
        stack = h.stack;
        suspended = h.suspended;
        within = same-stack (n - 1) k last lt ∙ h.within;
        above = omega (arith, h.above, in-order k lt, in-order (n - 1) last, lt);
      }

  pub last-live : (chain : List Activation) → HasLiveByte cfg chain a n → IsLive cfg chain (plus a (n - 1))
  last-live chain h =
      let found = of-any (λ (b : Activation). IsLiveFor cfg b (plus a h.0)) chain h.2 in
      any-of (λ (b : Activation). IsLiveFor cfg b (plus a (n - 1))) chain found.0 found.1
      (last-for found.0 h.0 h.1 found.2)

  pub live-last : (chain : List Activation) → IsLive cfg chain (plus a (n - 1)) → HasLiveByte cfg chain a n
  live-last chain h = (n - 1, omega (arith, place.some), h)

  -- ---- executable text

  pub all-code : IsExecutable cfg a → (k : ℕ) → k < n → IsExecutable cfg (plus a k)
  all-code is k lt =
      subst (λ (o : Option Region). IsSomeAnd o (λ r. (r.kind ≡ Text) × (r.exec ≡ true))) (sym (same-region k lt)) is

-- ---- plain accesses

no-guard : (b c d : Bool) → (not b && c) && d ≡ true → b ≡ false
no-guard true c d e = absurd (false≢true e)
no-guard false c d e = refl

-- a region that is present isn't a guard
present-free : (cpu : CpuSetup) (cr3 : ℕ) (touch : Touch) (o : Option Region)
    → passes (λ r. is_present cpu cr3 r && has_right touch r) o ≡ true
    → passes (λ r. is_guard r.kind) o ≡ false
present-free cpu cr3 touch None e = refl
present-free cpu cr3 touch (Some r) e = no-guard (is_guard r.kind) _ (has_right touch r) e

step-on : (a i : ℕ) → plus (next a) i ≡ plus a (suc i)
step-on a i = omega arith

-- where no byte lies in a guard, none of them does
none-guarded : (cfg : Description) (n a : ℕ) → a < 2 ^ 64 → ((k : ℕ) → k < n → in_guard cfg.regions (plus a k) ≡ false)
    → guarded cfg.regions a n ≡ false
none-guarded cfg zero a range free = refl
none-guarded cfg (suc n) a range free =
    let same : plus a 0 ≡ a = omega (arith, range) in
    let here : in_guard cfg.regions a ≡ false =
    subst (λ (x : ℕ). in_guard cfg.regions x ≡ false) same (free 0 (omega arith)) in
    let later = none-guarded cfg n (next a) (omega arith) (λ k lt.
    subst (λ (x : ℕ). in_guard cfg.regions x ≡ false) (sym (step-on a k)) (free (suc k) (omega (arith, lt)))) in
    ap (λ (b : Bool). b || guarded cfg.regions (next a) n) here ∙ later

plain-free : (cfg : Description) (v : IsValid cfg) (cr3 : ℕ) (t : Access) → IsPlain cfg cr3 t
    → guarded cfg.regions t.at t.size ≡ false
plain-free cfg v cr3 t plain =
    none-guarded cfg t.size t.at (in-range cfg v t.at t.size plain.0) (λ k lt.
    ap (passes (λ r. is_guard r.kind)) (same-region cfg v t.at t.size plain.0 k lt)
    ∙ present-free cfg.cpu cr3 t.touch (region_of cfg.regions t.at) plain.1)

plain-permitted : (cfg : Description) (v : IsValid cfg) (cr3 : ℕ) (t : Access) → IsPlain cfg cr3 t → (x : ℕ) → IsOf t x
    → permits cfg cr3 t.touch x ≡ true
plain-permitted cfg v cr3 t plain x of =
    ap (λ (y : ℕ). permits cfg cr3 t.touch y) of.2
    ∙ ap (passes (λ r. is_present cfg.cpu cr3 r && has_right t.touch r))
    (same-region cfg v t.at t.size plain.0 of.0 of.1)
    ∙ plain.1

kept-here : (x : Access) (b : Bool) (xs ys : List Access) → b ≡ false → ys ≡ xs → cond (not b) (x ∷ ys) [] ≡ x ∷ xs
kept-here x true xs ys e rest = absurd (false≢true (sym e))
kept-here x false xs ys e rest = ap (λ (zs : List Access). x ∷ zs) rest

kept : (p : Access → Bool) (xs : List Access) → All (λ x. p x ≡ false) xs → take_while (λ x. not (p x)) xs ≡ xs
kept p [] all = refl
kept p (x ∷ xs) all =
    take_while-cons (λ y. not (p y)) x xs
    ∙ kept-here x (p x) xs (take_while (λ y. not (p y)) xs) (all 0 x (omega arith))
    (kept p xs (λ k d lt. all (suc k) d (omega (arith, lt))))

-- where all are plain, all are judged
pub plain-judged : (cfg : Description) → IsValid cfg → (cr3 : ℕ) (touched : List Access) → All (IsPlain cfg cr3) touched
    → judged cfg touched ≡ touched
plain-judged cfg v cr3 touched all =
    kept (λ a. guarded cfg.regions a.at a.size) touched (λ k d lt.
    plain-free cfg v cr3 (slice_index_or touched k d) (all k d lt))

-- and none has a byte that is absent or forbidden
pub plain-present : (cfg : Description) → IsValid cfg → (cr3 : ℕ) (touched : List Access)
    → All (IsPlain cfg cr3) touched
    → ¬ Any (λ a. (x : ℕ) × IsOf a x × (permits cfg cr3 a.touch x ≡ false)) touched
plain-present cfg v cr3 touched all any =
    let bad = λ (a : Access). (x : ℕ) × IsOf a x × (permits cfg cr3 a.touch x ≡ false) in
    let h = of-any bad touched any in
    let plain = All-contains (IsPlain cfg cr3) touched h.0 all h.1 in
    false≢true (sym h.2.2 ∙ plain-permitted cfg v cr3 h.0 plain h.2.0 h.2.1)
