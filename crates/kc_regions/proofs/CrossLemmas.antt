-- What the tests of the rules mean. Each is arithmetic on ends of spans once the tests are read as facts; a test on
-- lists goes through std's words for some and all elements.
use Rattle.std.proofs.Common.{◌≡◌, ℕ, zero, suc, ◌+◌, ◌-◌, ◌*◌, ◌/◌, ◌<◌, ◌≤◌, ◌↔◌, ◌⊎◌, inl, inr, Bool, true, false, ◌&&◌, min, max, not, nat_lt, nat_le, nat_eq, List, slice_index_or, All, IsTrue, refl, sym, ◌∙◌, subst, arith}
use Rattle.std.specs.List.{list_any, list_all}
use Rattle.std.proofs.lemmas.Bool.Decides.{nat_tests}
use Rattle.std.proofs.lemmas.Bool.{cases_lt}
use Rattle.std.proofs.lemmas.List.Folds.{Any-from_list_any, list_any-from_Any, list_any_at, list_any_none}
use Rattle.std.proofs.lemmas.List.Sums.{AllPass-from_list_all, list_all-from_AllPass}
use Rattle.kc_words.specs.Range.{Range}
use Rattle.kc_words.specs.Span.{Holds, Meets}
use Rattle.kc_regions.specs.declared.region.Kind.{Kind}
use Rattle.kc_regions.specs.declared.region.Kind.TheVariants.{Text, Area, Plain, Stack, Guard, User}
use Rattle.kc_regions.specs.declared.region.Region.{Region}
use Rattle.kc_regions.specs.declared.entry.Word.{Word}
use Rattle.kc_regions.specs.Region.{is_area, is_guard, is_stack}
use Rattle.kc_regions.specs.Regions.{MeetsNone}
use Rattle.kc_regions.specs.CrossRules.{IsOnSide, IsOnItsSide, IsGuardBelow, HasGuard, IsInArea, WordsMeet}
use Rattle.kc_regions.specs.CrossTests.{on_side, spans_apart, guards, area_holds, words_meet, tss_apart}
use Rattle.kc_regions.specs.Lookup.{tss_word}

both : (b c : Bool) → (b && c) ≡ true → (b ≡ true) × (c ≡ true)
both true c h = (refl, h)
both false c h = absurd cc

pub both-parts : (P Q : Type 0) (b : Bool) → P → (IsTrue b ↔ Q) → (IsTrue b ↔ (P × Q))
both-parts P Q b p h = (λ e. (p, h.0 e), λ both. h.1 both.1)

leb-from : (m n : ℕ) → m ≤ n → nat_le m n ≡ true
leb-from m n le = grind (arith, nat_tests)

not-true : (b : Bool) → (b ≡ true → ⊥) → b ≡ false
not-true true h = absurd (h refl)
not-true false h = refl

-- on the side of a kind by its bytes and by its ends
side-bytes : (kind : Kind) (s : Range) (a : ℕ) → on_side kind s ≡ true → Holds s a → IsOnSide kind a
side-bytes User s a h held = grind (arith, nat_tests, h, held.0, held.1)
side-bytes Text s a h held = grind (arith, nat_tests, h, held.0, held.1)
side-bytes Area s a h held = grind (arith, nat_tests, h, held.0, held.1)
side-bytes Plain s a h held = grind (arith, nat_tests, h, held.0, held.1)
side-bytes Stack s a h held = grind (arith, nat_tests, h, held.0, held.1)
side-bytes Guard s a h held = grind (arith, nat_tests, h, held.0, held.1)

first-on : (kind : Kind) (s : Range) → s.from < s.to → IsOnSide kind s.from → IsOnSide kind (s.to - 1) → on_side kind s
    ≡ true
first-on User s some first last = grind (arith, nat_tests, some, last)
first-on Text s some first last = grind (arith, nat_tests, some, first)
first-on Area s some first last = grind (arith, nat_tests, some, first)
first-on Plain s some first last = grind (arith, nat_tests, some, first)
first-on Stack s some first last = grind (arith, nat_tests, some, first)
first-on Guard s some first last = grind (arith, nat_tests, some, first)

bytes-side : (kind : Kind) (s : Range) → ((a : ℕ) → Holds s a → IsOnSide kind a) → on_side kind s ≡ true
bytes-side kind s on = elim (cases_lt s.from s.to) [
  | inl some ↦ first-on kind s some (on s.from (omega arith, some)) (on (s.to - 1) (omega arith, omega arith))
  | inr none ↦ empty-on kind s none
]
  where
    empty-on : (kind : Kind) (s : Range) → s.to ≤ s.from → on_side kind s ≡ true
    empty-on kind s none = let e : nat_le s.to s.from ≡ true = grind (arith, nat_tests) in rw e refl

pub side-test : (earlier : List Region) (r : Region) (b : Bool) → b ≡ on_side r.kind r.span
    → (IsTrue b ↔ IsOnItsSide earlier r)
side-test earlier r b e =
    (λ h a held. side-bytes r.kind r.span a (sym e ∙ h) held, λ on. e ∙ bytes-side r.kind r.span on)

guards-below : (stack g : Region) → guards stack g ≡ true → IsGuardBelow stack g
guards-below stack g h =
    let p = both (is_guard g.kind && nat_eq g.span.to stack.span.from) (nat_le 4096 (g.span.to - g.span.from)) h in
    let q = both (is_guard g.kind) (nat_eq g.span.to stack.span.from) p.0 in
    let ends : g.span.to ≡ stack.span.from = grind (arith, nat_tests, q.1) in
    let size : 4096 ≤ g.span.to - g.span.from = grind (arith, nat_tests, p.1) in
    record {
      guard = q.0;
      ends = ends;
      room = omega arith;
      bytes = λ a low high. (omega arith, omega arith);
    }

below-guards : (stack g : Region) → IsGuardBelow stack g → guards stack g ≡ true
below-guards stack g b =
    let first : Holds g.span (stack.span.from - 4096) = b.bytes (stack.span.from - 4096) (omega (arith, b.room))
    (omega (arith, b.room)) in
    grind (arith, nat_tests, b.guard, b.ends, b.room, first.0)

pub has_guard : (regions earlier : List Region) (r : Region) → list_any (guards r) regions ≡ true
    → HasGuard regions earlier r
has_guard regions earlier r h stack =
    let found = Any-from_list_any (guards r) regions h in
    (found.1, (found.0, found.2, found.3), guards-below r found.1 found.4)

pub guard_found : (regions earlier : List Region) (r : Region) → is_stack r.kind ≡ true → HasGuard regions earlier r
    → list_any (guards r) regions ≡ true
guard_found regions earlier r stack h =
    let g = h stack in
    list_any-from_Any (guards r) regions (g.1.0, g.0, g.1.1, g.1.2, below-guards r g.0 g.2)

pub guard-test : (regions earlier : List Region) (r : Region) (b : Bool) → b ≡ list_any (guards r) regions
    → is_stack r.kind ≡ true
    → (IsTrue b ↔ HasGuard regions earlier r)
guard-test regions earlier r b e stack =
    (λ h. has_guard regions earlier r (sym e ∙ h), λ h. e ∙ guard_found regions earlier r stack h)

holds-area : (a n : ℕ) (r : Region) → 0 < n → area_holds a n r ≡ true → (is_area r.kind ≡ true)
    × ((k : ℕ) → k < n → Holds r.span (a + k))
holds-area a n r some h =
    let p = both (is_area r.kind && nat_le r.span.from a && nat_lt a r.span.to) (nat_le n (r.span.to - a)) h in
    let q = both (is_area r.kind && nat_le r.span.from a) (nat_lt a r.span.to) p.0 in
    let s = both (is_area r.kind) (nat_le r.span.from a) q.0 in
    let room : n ≤ r.span.to - a = grind (arith, nat_tests, p.1) in
    let from : r.span.from ≤ a = grind (arith, nat_tests, s.1) in
    let to : a < r.span.to = grind (arith, nat_tests, q.1) in
    (s.0, λ k below. (omega arith, omega arith))

area-holds : (a n : ℕ) (r : Region) → 0 < n → is_area r.kind ≡ true → ((k : ℕ) → k < n → Holds r.span (a + k))
    → area_holds a n r ≡ true
area-holds a n r some kind bytes =
    let first : Holds r.span (a + 0) = bytes 0 some in
    let last : Holds r.span (a + (n - 1)) = bytes (n - 1) (omega arith) in
    grind (arith, nat_tests, kind, first.0, first.1, last.1, some)

pub in_area : (regions : List Region) (a n : ℕ) → 0 < n → list_any (area_holds a n) regions ≡ true
    → IsInArea regions a n
in_area regions a n some h =
    let found = Any-from_list_any (area_holds a n) regions h in
    let held = holds-area a n found.1 some found.4 in
    (found.1, (found.0, found.2, found.3), held.0, held.1)

pub area_found : (regions : List Region) (a n : ℕ) → 0 < n → IsInArea regions a n → list_any (area_holds a n) regions
    ≡ true
area_found regions a n some h =
    list_any-from_Any (area_holds a n) regions (h.1.0, h.0, h.1.1, h.1.2, area-holds a n h.0 some h.2 h.3)

pub area-test : (regions : List Region) (a n : ℕ) (b : Bool) → 0 < n → b ≡ list_any (area_holds a n) regions
    → (IsTrue b ↔ IsInArea regions a n)
area-test regions a n b some e = (λ h. in_area regions a n some (sym e ∙ h), λ h. e ∙ area_found regions a n some h)

-- two words meet where their addresses are less than 8 apart: at the later address
pub meeting : (v w : ℕ) → words_meet v w ≡ true → WordsMeet v w
meeting v w h = elim (cases_lt v w) [
  | inl less ↦ (w, (omega arith, grind (arith, nat_tests)), (omega arith, omega arith))
  | inr more ↦ (v, (omega arith, omega arith), (omega arith, grind (arith, nat_tests)))
]

pub meets : (v w : ℕ) → WordsMeet v w → words_meet v w ≡ true
meets v w (a, p, q) = grind (arith, nat_tests, p.0, p.1, q.0, q.1)

-- no word of the list meets the one at this address
pub meets_none : (words : List Word) (at : ℕ) → list_any (λ w. words_meet w.at at) words ≡ false
    → All (λ e. ¬ WordsMeet e.at at) words
meets_none words at none k d inside met =
    let some = list_any_at (λ w. words_meet w.at at) words k d inside (meets (slice_index_or words k d).at at met) in
    absurd (cc)

pub none_meets : (words : List Word) (at : ℕ) → All (λ e. ¬ WordsMeet e.at at) words
    → list_any (λ w. words_meet w.at at) words ≡ false
none_meets words at apart =
    list_any_none (λ w. words_meet w.at at) words
    (λ k d inside. not-true _ (λ met. apart k d inside (meeting (slice_index_or words k d).at at met)))

-- Seen from the TSS, RSP0 has the bytes 4 to 11 and IST1 to IST7 have the bytes 36 to 91. A word from byte 29 on meets
-- the IST whose last byte is the first at or after its own, and one from byte 85 on meets IST7.
tss-ahead : (tss place : ℕ) → ((n : ℕ) → n < 8 → ¬ WordsMeet (tss_word tss n) (tss + place)) → (12 ≤ place)
    × ((place ≤ 28) ⊎ (92 ≤ place))
tss-ahead tss place apart = (past, sides-of)
  where
    past : 12 ≤ place
    past = elim (cases_lt place 12) [
      | inr ge ↦ ge
      | inl less ↦ elim (cases_lt place 4) [
        | inl low ↦ absurd (apart 0 (omega arith) (tss + 4, (omega arith, omega arith), (omega arith, omega arith)))
        | inr high ↦ absurd (apart 0 (omega arith) (
          tss + place,
          (omega arith, omega arith),
          (omega arith, omega arith),
        ))
      ]
    ]

    sides-of : (place ≤ 28) ⊎ (92 ≤ place)
    sides-of = elim (cases_lt 28 place) [
      | inr le ↦ inl le
      | inl more ↦ elim (cases_lt place 92) [
        | inr ge ↦ inr ge
        | inl less ↦ elim (cases_lt place 85) [
          | inl low ↦
              absurd (apart (suc ((place - 29) / 8)) (omega arith) (
                tss + 36 + 8 * ((place - 29) / 8),
                (omega arith, omega arith),
                (omega arith, omega arith),
              ))
          | inr high ↦ absurd (apart 7 (omega arith) (
            tss + place,
            (omega arith, omega arith),
            (omega arith, omega arith),
          ))
        ]
      ]
    ]

pub tss_apart-means : (tss word : ℕ) → tss_apart tss word ≡ true → (n : ℕ) → n < 8 → WordsMeet (tss_word tss n) word → ⊥
tss_apart-means tss word h zero below (a, p, q) = grind (arith, nat_tests, p.0, p.1, q.0, q.1)
tss_apart-means tss word h (suc n) below (a, p, q) = grind (arith, nat_tests, p.0, p.1, q.0, q.1)

pub tss_apart-from : (tss word : ℕ) → ((n : ℕ) → n < 8 → ¬ WordsMeet (tss_word tss n) word) → tss_apart tss word ≡ true
tss_apart-from tss word apart = elim (cases_lt word tss) [
  | inl less ↦ elim (cases_lt (tss - word) 4) [
    | inl near ↦ absurd (apart 0 (omega arith) (tss + 4, (omega arith, omega arith), (omega arith, omega arith)))
    | inr far ↦ grind (arith, nat_tests)
  ]
  | inr ge ↦
      let same : tss + (word - tss) ≡ word = omega arith in
      let ahead = tss-ahead tss (word - tss)
      (λ n below met. apart n below (subst (λ w. WordsMeet (tss_word tss n) w) same met)) in
      elim ahead.1 [ inl low ↦ grind (arith, nat_tests, ahead.0) | inr high ↦ grind (arith, nat_tests, ahead.0) ]
]

-- the tests as they stand in the code
pub none-test : (words : List Word) (at : ℕ) (b : Bool) → b ≡ list_any (λ w. words_meet w.at at) words
    → (IsTrue (not b) ↔ All (λ e. ¬ WordsMeet e.at at) words)
none-test words at true e = (λ h. absurd cc, λ apart. let f = none_meets words at apart in absurd (cc))
none-test words at false e = (λ h. meets_none words at (sym e), λ apart. refl)

pub apart-test : (s t : Range) (b : Bool) → (IsTrue b ↔ Meets s t) → not b ≡ spans_apart s t
apart-test s t true h = let met : Meets s t = h.0 refl in grind (arith, nat_tests, met.1.0, met.1.1, met.2.0, met.2.1)
apart-test s t false h = elim (cases_lt (max s.from t.from) (min s.to t.to)) [
  | inl less ↦ let impossible : false ≡ true =
      h.1 (max s.from t.from, (omega arith, omega arith), (omega arith, omega arith)) in absurd (cc)
  | inr le ↦ sym (leb-from _ _ le)
]

spans-apart : (s t : Range) → spans_apart s t ≡ true → Meets s t → ⊥
spans-apart s t h (a, p, q) = grind (arith, nat_tests, p.0, p.1, q.0, q.1)

apart-spans : (s t : Range) → (Meets s t → ⊥) → spans_apart s t ≡ true
apart-spans s t h = sym (apart-test s t false (λ e. absurd cc, λ met. absurd (h met)))

pub apart-all : (earlier : List Region) (r : Region) (b : Bool) → b ≡ list_all (λ e. spans_apart e.span r.span) earlier
    → (IsTrue b ↔ MeetsNone earlier r)
apart-all earlier r b e = (
  λ h k d inside. spans-apart _ _ (AllPass-from_list_all (λ e. spans_apart e.span r.span) earlier (sym e ∙ h) k d
      inside),
  λ none. e ∙ list_all-from_AllPass (λ e. spans_apart e.span r.span) earlier
      (λ k d inside. apart-spans _ _ (none k d inside)),
)
