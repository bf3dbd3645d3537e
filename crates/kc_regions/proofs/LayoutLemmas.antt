-- What a valid description's rules say of the layout. A stack's number is its place among the stacks, so it has one
-- index among the regions, at which the rules on each region speak. An address lies in at most one region, so its
-- region and its stack are those that hold it; a zone is a stack and the guard that ends where it begins.
use Rattle.std.proofs.Common.{◌≡◌, ◌≢◌, ℕ, zero, suc, ◌+◌, ◌-◌, ◌^◌, ◌<◌, ◌≤◌, ◌⊎◌, inl, inr, Bool, true, false, cond, List, [], ◌∷◌, length, slice_index_or, slice_get, take, filter, Some, None, IsSome, refl, sym, ◌∙◌, ap, subst, arith, Contains}
use Rattle.std.proofs.lemmas.Bool.{cases_lt}
use Rattle.std.proofs.lemmas.List.Quantifiers.{position-Some}
use Rattle.std.proofs.lemmas.Option.{slice_get-get_or}
use Rattle.kc_words.specs.Span.{Holds}
use Rattle.kc_regions.specs.declared.region.Kind.{Kind}
use Rattle.kc_regions.specs.declared.region.Kind.TheVariants.{Text, Area, Plain, Stack, Guard, User}
use Rattle.kc_regions.specs.declared.region.Region.{Region}
use Rattle.kc_regions.specs.declared.entry.Word.{Word}
use Rattle.kc_regions.specs.Region.{holds, is_area, is_stack, is_guard, region_of, stacks_of, stack_of, stack_at}
use Rattle.kc_regions.specs.Order.{number_of}
use Rattle.kc_regions.specs.Description.{Description}
use Rattle.kc_regions.specs.CrossRules.{IsOnSide, IsOnItsSide, IsStackInBounds, IsGuardBelow, IsInArea}
use Rattle.kc_regions.specs.Permission.{in_guard}
use Rattle.kc_regions.specs.Valid.{IsValid}
use Rattle.kc_regions.specs.Layout.{InBytes, InZone, IsStackAt, Laid}
use Rattle.kc_regions.proofs.OrderLemmas.{holder-of, region-held, region-none, number-held, true-holds}

stack-kind : (k : Kind) → is_stack k ≡ true → k ≡ Stack
stack-kind Stack h = refl
stack-kind Text h = absurd cc
stack-kind Area h = absurd cc
stack-kind Plain h = absurd cc
stack-kind Guard h = absurd cc
stack-kind User h = absurd cc

guard-kind : (k : Kind) → is_guard k ≡ true → k ≡ Guard
guard-kind Guard h = refl
guard-kind Stack h = absurd cc
guard-kind Text h = absurd cc
guard-kind Area h = absurd cc
guard-kind Plain h = absurd cc
guard-kind User h = absurd cc

area-kind : (k : Kind) → is_area k ≡ true → k ≡ Area
area-kind Area h = refl
area-kind Stack h = absurd cc
area-kind Text h = absurd cc
area-kind Guard h = absurd cc
area-kind Plain h = absurd cc
area-kind User h = absurd cc

-- the element number s of those that pass, seen among all: x, at this index
record Passing {X : Type 0} (q : X → Bool) (xs : List X) (s : ℕ) (x : X) : Type 0 where
  index : ℕ
  inside : index < length xs
  at : slice_index_or xs index x ≡ x
  pass : q x ≡ true
  before : length (filter q (take index xs)) ≡ s

some-is : {X : Type 0} (x y : X) → Some x ≡ Some y → x ≡ y
some-is x y e = cc

-- by the first element's answer
first-answers : {X : Type 0} (q : X → Bool) (y : X) (ys : List X) (x : X)
    → ((t : ℕ) → slice_get (filter q ys) t ≡ Some x → Passing q ys t x)
    → (b : Bool) → q y ≡ b → (s : ℕ) → slice_get (cond b (y ∷ filter q ys) (filter q ys)) s ≡ Some x
    → Passing q (y ∷ ys) s x
first-answers q y ys x deeper true e zero h =
    let same = some-is y x h in
    record { index = 0; inside = omega arith; at = same; pass = subst (λ z. q z ≡ true) same e; before = refl }
first-answers q y ys x deeper true e (suc t) h =
    let p = deeper t h in
    record {
      index = suc p.index;
      inside = omega (arith, p.inside);
      at = p.at;
      pass = p.pass;
      before = rw e (omega (arith, p.before));
    }
first-answers q y ys x deeper false e s h =
    let p = deeper s h in
    record { index = suc p.index; inside = omega (arith, p.inside); at = p.at; pass = p.pass; before = rw e p.before }

passing : {X : Type 0} (q : X → Bool) (xs : List X) (s : ℕ) (x : X) → slice_get (filter q xs) s ≡ Some x
    → Passing q xs s x
passing q [] s x h = absurd cc
passing q (y ∷ ys) s x h = first-answers q y ys x (λ t g. passing q ys t x g) (q y) refl s h

-- bytes that don't wrap rise from the first one
rising-bytes : (x a n : ℕ) → x < 2 ^ 64 → a < 2 ^ 64 → a + n < 2 ^ 64 → InBytes x a n → (a ≤ x) × (x < a + n)
rising-bytes x a n fits low whole inside = (omega (arith, inside), omega (arith, inside))

byte-of : (x a n : ℕ) → x < 2 ^ 64 → a ≤ x → x < a + n → InBytes x a n
byte-of x a n fits low high = omega arith

first-of : (list : List Region) → 1 ≤ length list → Region
first-of [] some = absurd (omega (arith, some))
first-of (r ∷ list) some = r

module _ (d : Description) (v : IsValid d) (e : Region) where
  -- a region that holds the address is its region
  region-at : (x i : ℕ) (r : Region) → i < length d.regions → slice_index_or d.regions i r ≡ r → Holds r.span x
      → region_of d.regions x ≡ Some r
  region-at x i r inside at held =
      sym (region-held d.regions x i v.regions
      (holder-of d.regions x i r inside (subst (λ z. Holds z.span x) (sym at) held)))
      ∙ slice_get-get_or d.regions i r inside ∙ ap (λ z. Some z) at

  region-in : (x : ℕ) (r : Region) → Contains d.regions r → Holds r.span x → region_of d.regions x ≡ Some r
  region-in x r (i, inside, at) held = region-at x i r inside at held

  module _ (s : ℕ) (r : Region) (is : stack_at d.regions s ≡ Some r) where
    place : Passing (λ z. is_stack z.kind) d.regions s r
    place = passing (λ z. is_stack z.kind) d.regions s r is

    bounds : IsStackInBounds (take place.index d.regions) r
    bounds = subst (λ z. is_stack z.kind ≡ true → IsStackInBounds (take place.index d.regions) z) place.at
        (v.rules.stacks place.index r place.inside) place.pass

    guard : (g : Region) × Contains d.regions g × IsGuardBelow r g
    guard = subst (λ z. is_stack z.kind ≡ true → (g : Region) × Contains d.regions g × IsGuardBelow z g) place.at
        (v.rules.guards place.index r place.inside) place.pass

    filled : (a : ℕ) × Holds r.span a
    filled = subst (λ z. (a : ℕ) × Holds z.span a) place.at (v.regions.filled place.index r place.inside)

    range-of : (r.span.to < 2 ^ 64) × (r.kind ≡ Stack → r.write ≡ true)
    range-of = subst (λ z. (z.span.to < 2 ^ 64) × (z.kind ≡ Stack → z.write ≡ true)) place.at
        ((v.ranges.regions place.index r place.inside).span.1, (v.ranges.regions place.index r place.inside).stack)

    guard-high : 2 ^ 63 ≤ r.span.from - 4096
    guard-high =
        let g = guard.0 in
        let k = guard.1 in
        let side : IsOnItsSide [] g = subst (λ z. IsOnItsSide [] z) k.2 (v.rules.sides k.0 g k.1) in
        let below = guard.2 in
        subst (λ kind. IsOnSide kind (r.span.from - 4096)) (guard-kind g.kind below.guard)
        (side (r.span.from - 4096) (below.bytes (r.span.from - 4096) (omega (arith, below.room))
        (omega (arith, below.room))))

    stack-is : IsStackAt r
    stack-is =
        let room = guard.2.room in
        let byte = filled.1 in
        record {
          kind = stack-kind r.kind place.pass;
          begins = omega (arith, guard-high, room);
          ends = omega (arith, range-of.0, bounds.ends);
          filled = omega (arith, byte.0, byte.1);
          size = omega (arith, bounds.size, byte.0, byte.1);
          aligned = (bounds.begins, bounds.ends);
          write = range-of.1 (stack-kind r.kind place.pass);
        }

    stack-byte : (x : ℕ) → Holds r.span x → stack_of d.regions x ≡ Some s
    stack-byte x held =
        sym (number-held d.regions x place.index v.regions (holder-of d.regions x place.index r place.inside
        (subst (λ z. Holds z.span x) (sym place.at) held)))
        ∙ ap (number_of (take place.index d.regions)) (slice_get-get_or d.regions place.index r place.inside
        ∙ ap (λ z. Some z) place.at)
        ∙ rw place.pass (ap (λ n. Some n) place.before)

    guard-byte : (x : ℕ) → r.span.from ≤ x + 4096 → x < r.span.from → region_of d.regions x ≡ Some guard.0
    guard-byte x low high = region-in x guard.0 guard.1 (guard.2.bytes x low high)

    zone-cases : (x : ℕ) → r.span.from ≤ x + 4096 → x < r.span.to → (stack_of d.regions x ≡ Some s)
        ⊎ (region_of d.regions x ≡ Some guard.0)
    zone-cases x low high = elim (cases_lt x r.span.from) [
      | inl below ↦ inr (guard-byte x low below)
      | inr above ↦ inl (stack-byte x (above, high))
    ]

  stack-region : (s x : ℕ) → stack_of d.regions x ≡ Some s
      → (r : Region) × (stack_at d.regions s ≡ Some r) × Holds r.span x × (region_of d.regions x ≡ Some r)
  stack-region s x is =
      let p = position-Some (λ z. holds z.span x) (stacks_of d.regions) s e is in
      let r = slice_index_or (stacks_of d.regions) s e in
      let at = slice_get-get_or (stacks_of d.regions) s e p.0 in
      let held = true-holds (slice_index_or (stacks_of d.regions) s e).span x p.1 in
      let i = place s (slice_index_or (stacks_of d.regions) s e) at in (
        slice_index_or (stacks_of d.regions) s e,
        at,
        held,
        region-at x i.index (slice_index_or (stacks_of d.regions) s e) i.inside i.at held,
      )

  guarded : (x : ℕ) (g : Region) → region_of d.regions x ≡ Some g → is_guard g.kind ≡ true → in_guard d.regions x ≡ true
  guarded x g is kind = rw is kind

  zone-byte : (s x : ℕ) → InZone d.regions s x → (stack_of d.regions x ≡ Some s) ⊎ (in_guard d.regions x ≡ true)
  zone-byte s x (r, is, low, high) = elim (zone-cases s r is x low high) [
    | inl stack ↦ inl stack
    | inr g ↦ inr (guarded x (guard s r is).0 g (guard s r is).2.guard)
  ]

  near-stack : (s b x : ℕ) → stack_of d.regions b ≡ Some s → b ≤ x + 4096 → x ≤ b → InZone d.regions s x
  near-stack s b x is low high = let r = stack-region s b is in (r.0, r.1, omega (arith, r.2.0), omega (arith, r.2.1))

  -- a stack's byte isn't a guard's
  stack-no-guard : (s x : ℕ) (g : Region) → stack_of d.regions x ≡ Some s → region_of d.regions x ≡ Some g
      → is_guard g.kind ≡ true → ⊥
  stack-no-guard s x g stack is kind =
      let r = stack-region s x stack in
      let same : r.0 ≡ g = some-is r.0 g (sym r.3 ∙ is) in
      let stacked : is_stack r.0.kind ≡ true = (place s r.0 r.1).pass in
      let both : is_stack g.kind ≡ true = subst (λ z. is_stack z.kind ≡ true) same stacked in
      kinds g.kind both kind
    where
      kinds : (k : Kind) → is_stack k ≡ true → is_guard k ≡ true → ⊥
      kinds Stack a b = absurd cc
      kinds Guard a b = absurd cc
      kinds Text a b = absurd cc
      kinds Area a b = absurd cc
      kinds Plain a b = absurd cc
      kinds User a b = absurd cc

  one-zone : (s t x : ℕ) → InZone d.regions s x → InZone d.regions t x → s ≡ t
  one-zone s t x (r, is, low, high) (q, at, lower, higher) = elim (zone-cases s r is x low high) [
    | inl stack ↦ elim (zone-cases t q at x lower higher) [
      | inl other ↦ some-is s t (sym stack ∙ other)
      | inr g ↦ absurd (stack-no-guard s x (guard t q at).0 stack g (guard t q at).2.guard)
    ]
    | inr g ↦ elim (zone-cases t q at x lower higher) [
      | inl other ↦ absurd (stack-no-guard t x (guard s r is).0 other g (guard s r is).2.guard)
      | inr h ↦
          let same : (guard s r is).0 ≡ (guard t q at).0 = some-is (guard s r is).0 (guard t q at).0 (sym g ∙ h) in
          let ends : (guard s r is).0.span.to ≡ (guard t q at).0.span.to = ap (λ z. z.span.to) same in
          let begin : r.span.from ≡ q.span.from = sym (guard s r is).2.ends ∙ ends ∙ (guard t q at).2.ends in
          let first = stack-byte s r is r.span.from (omega arith, (stack-is s r is).filled) in
          let second = stack-byte t q at q.span.from (omega arith, (stack-is t q at).filled) in
          some-is s t (sym first ∙ ap (stack_of d.regions) begin ∙ second)
    ]
  ]

  no-zone : (s x : ℕ) (r : Region) → region_of d.regions x ≡ Some r → r.kind ≢ Stack → r.kind ≢ Guard
      → InZone d.regions s x → ⊥
  no-zone s x r is no_stack no_guard (q, at, low, high) = elim (zone-cases s q at x low high) [
    | inl stack ↦
        let p = stack-region s x stack in
        no_stack (subst (λ z. z.kind ≡ Stack) (some-is p.0 r (sym p.3 ∙ is))
        (stack-kind p.0.kind (place s p.0 p.1).pass))
    | inr g ↦ no_guard (subst (λ z. z.kind ≡ Guard) (some-is (guard s q at).0 r (sym g ∙ is))
        (guard-kind (guard s q at).0.kind (guard s q at).2.guard))
  ]

  no-last : region_of d.regions (2 ^ 64 - 1) ≡ None
  no-last = sym (region-none d.regions (2 ^ 64 - 1) (λ i h. omega (
    arith,
    (h.holds e).1,
    (v.ranges.regions i e h.inside).span.1,
  )))

  no-wrap : (a n : ℕ) → a < 2 ^ 64 → 0 < n → ((x : ℕ) → x < 2 ^ 64 → InBytes x a n → IsSome (region_of d.regions x))
      → a + n < 2 ^ 64
  no-wrap a n fits some all = elim (cases_lt (a + n) (2 ^ 64)) [
    | inl less ↦ less
    | inr wraps ↦
        let last : IsSome (region_of d.regions (2 ^ 64 - 1)) =
        all (2 ^ 64 - 1) (omega arith) (byte-of (2 ^ 64 - 1) a n (omega arith) (omega arith) (omega arith)) in
        let none : IsSome {T = Region} None = subst (λ o. IsSome o) no-last last in
        absurd (cc none)
  ]

  first-byte : (s a n x : ℕ) → a < 2 ^ 64 → x < 2 ^ 64
      → ((y : ℕ) → y < 2 ^ 64 → InBytes y a n → IsSome (region_of d.regions y) × (in_guard d.regions y ≡ false))
      → InBytes x a n → InZone d.regions s x → stack_of d.regions a ≡ Some s
  first-byte s a n x low fits all inside (r, is, zlow, zhigh) =
      let whole = no-wrap a n low (omega (arith, inside)) (λ y h b. (all y h b).0) in
      let between = rising-bytes x a n fits low whole inside in
      let in_stack : r.span.from ≤ x = elim (cases_lt x r.span.from) [
        | inl below ↦ absurd (unguarded s r is x zlow below (all x fits inside).1)
        | inr above ↦ above
      ] in
      elim (cases_lt a r.span.from) [
        | inl below ↦
            let begins = (stack-is s r is).begins in
            absurd (unguarded s r is (r.span.from - 1) (omega arith) (omega arith)
            (all (r.span.from - 1) (omega arith) (byte-of (r.span.from - 1) a n (omega arith) (omega arith)
            (omega (arith, between.1)))).1)
        | inr above ↦ stack-byte s r is a (above, omega (arith, between.0, zhigh))
      ]
    where
      unguarded : (s : ℕ) (r : Region) (is : stack_at d.regions s ≡ Some r) (y : ℕ) → r.span.from ≤ y + 4096
          → y < r.span.from → in_guard d.regions y ≡ false → ⊥
      unguarded s r is y low high none =
          let some = guarded y (guard s r is).0 (guard-byte s r is y low high) (guard s r is).2.guard in
          absurd (cc)

  few-stacks : length (stacks_of d.regions) ≤ 16
  few-stacks = elim (cases_lt 16 (length (stacks_of d.regions))) [
    | inr le ↦ le
    | inl more ↦
        let at = slice_get-get_or (stacks_of d.regions) 16 e more in
        let r = slice_index_or (stacks_of d.regions) 16 e in
        absurd (omega (
          arith,
          (bounds 16 (slice_index_or (stacks_of d.regions) 16 e) at).number,
          (place 16 (slice_index_or (stacks_of d.regions) 16 e) at).before,
        ))
  ]

  area-byte : (a n k : ℕ) → IsInArea d.regions a n → k < n → (r : Region) × (region_of d.regions (a + k) ≡ Some r)
      × (r.kind ≡ Area)
  area-byte a n k (r, in_list, kind, bytes) below =
      (r, region-in (a + k) r in_list (bytes k below), area-kind r.kind kind)

  laid-with : Laid d
  laid-with = record {
    stacks = stack-is;
    stack_count = few-stacks;
    stack_bytes = λ s r x is held. stack-byte s r is x held;
    stack_region = stack-region;
    zone_byte = zone-byte;
    near = near-stack;
    one_zone = one-zone;
    no_zone = no-zone;
    no_last = no-last;
    no_wrap = no-wrap;
    first_byte = first-byte;
    tss = λ k below. area-byte d.cpu.tss 104 k v.rules.tss below;
    words = λ w k in_list below. area-byte w.at 8 k (word-area w in_list) below;
  }
    where
      word-area : (w : Word) → Contains d.words w → IsInArea d.regions w.at 8
      word-area w (i, inside, at) = subst (λ z. IsInArea d.regions z.at 8) at (v.rules.words i w inside).area

pub laid : (d : Description) → IsValid d → Laid d
laid d v = laid-with d v (first-of d.regions v.ranges.region_count.0)
