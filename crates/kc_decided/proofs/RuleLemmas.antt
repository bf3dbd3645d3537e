-- Each description keeps the rules between its parts or breaks a first one. In a list the first element that breaks a rule
-- is found from the left (`first_broken`), where the rule is decided for each element by its test; the lemmas that tie the
-- tests to the rules are those of the code. The nine rules follow each other, each asked where the ones before it hold.
use Rattle.std.proofs.Common.{◌≡◌, ◌≢◌, ℕ, zero, suc, ◌<◌, ◌≤◌, ◌-◌, ◌%◌, ◌==◌, ◌&&◌, ◌||◌, Bool, true, false, not, List, [], ◌∷◌, length, take, refl, sym, ap, ◌∙◌, arith, subst, inl, inr}
use Rattle.std.specs.Prelude.{◌⊎◌, ◌↔◌, IsTrue, Option, Some, None, IsSome, All, is_some, slice_index_or, slice_index, nat_le, nat_lt, nat_eq}
use Rattle.std.specs.List.{list_all, list_any}
use Rattle.std.proofs.lemmas.Bool.{cases_lt, cases_order}
use Rattle.std.proofs.lemmas.Bool.Decides.{nat_tests}
use Rattle.std.proofs.lemmas.List.Sums.{AllPass-from_list_all, list_all-from_AllPass}
use Rattle.kc_regions.specs.declared.config.TheConstants.{SIDES, STACKS, GUARDS, CR3_VALUES, TSS, VECTORS, GATES, ENTRIES, WORDS}
use Rattle.kc_regions.specs.declared.config.CrossFault.{CrossFault}
use Rattle.kc_regions.specs.declared.regions.TheConstants.{MAX_REGIONS}
use Rattle.kc_regions.specs.declared.regions.RegionFault.{RegionFault}
use Rattle.kc_regions.specs.declared.regions.RegionFault.TheVariants.{Meet, Empty, TooMany}
use Rattle.kc_regions.specs.declared.region.Region.{Region}
use Rattle.kc_regions.specs.declared.entry.Gate.{Gate}
use Rattle.kc_regions.specs.declared.entry.Handler.{Handler}
use Rattle.kc_regions.specs.declared.entry.Word.{Word}
use Rattle.kc_regions.specs.declared.cpu.CpuSetup.{CpuSetup}
use Rattle.kc_regions.specs.Description.{Description}
use Rattle.kc_regions.specs.Each.{Each, IsFirstBreaking}
use Rattle.kc_regions.specs.Region.{is_stack, stacks_of, marked_of, stack_of}
use Rattle.kc_regions.specs.Lookup.{gate_of, tss_word}
use Rattle.kc_regions.specs.Regions.{HasByte, MeetsNone, AreRegions, IsFirstRegionFault}
use Rattle.kc_regions.specs.CrossRules.{IsOnItsSide, StackFits, IsStackInBounds, HasGuard, IsNewVector, needed_vectors, HasGate}
use Rattle.kc_regions.specs.CrossRules.{IsNewEntry, IsInArea, IsWordPlaced, WordsMeet, CrossRules, CrossRulesBelow}
use Rattle.kc_regions.specs.CrossRules.{IsFirstCrossFault, Cr3ValuesApart, TssInArea}
use Rattle.kc_regions.specs.CrossTests.{on_side, guards, area_holds, words_meet, tss_apart, spans_apart}
use Rattle.kc_regions.proofs.CrossLemmas.{side-test, guard-test, area-test, none-test, tss_apart-means, tss_apart-from, apart-all}

-- ---- what is decided

abbrev pub Decided : Type 0 → Type 0
Decided P = P ⊎ ¬ P

by_test : {P : Type 0} (b : Bool) → (IsTrue b ↔ P) → Decided P
by_test true iff = inl (iff.0 refl)
by_test false iff = inr (λ p. let no = iff.1 p in cc)

pub both : {P Q : Type 0} → Decided P → Decided Q → Decided (P × Q)
both (inl p) (inl q) = inl (p, q)
both (inl p) (inr not_q) = inr (λ pair. not_q pair.1)
both (inr not_p) other = inr (λ pair. not_p pair.0)

-- a rule on what a test lets through
pub where_true : {P : Type 0} (b : Bool) → Decided P → Decided (b ≡ true → P)
where_true true (inl p) = inl (λ _. p)
where_true true (inr not_p) = inr (λ f. not_p (f refl))
where_true false other = inl (λ no. absurd (cc))

where_stack : {P : Type 0} (b : Bool) → (b ≡ true → Decided P) → Decided (b ≡ true → P)
where_stack true p = where_true true (p refl)
where_stack false p = inl (λ no. absurd (cc))

pub less : (m n : ℕ) → Decided (m < n)
less m n = elim (cases_lt m n) [ inl b ↦ inl b | inr a ↦ inr (λ no. omega (arith, a, no)) ]

pub at_most : (m n : ℕ) → Decided (m ≤ n)
at_most m n = elim (cases_lt n m) [ inl b ↦ inr (λ no. omega (arith, b, no)) | inr a ↦ inl a ]

pub same : (m n : ℕ) → Decided (m ≡ n)
same m n = elim (cases_order m n) [
  | inl e ↦ inl e
  | inr apart ↦ elim apart [
    | inl b ↦ inr (λ no. omega (arith, b, no))
    | inr a ↦ inr (λ no. omega (arith, a, no))
  ]
]

differ : (m n : ℕ) → Decided (m ≢ n)
differ m n = elim (same m n) [ inl e ↦ inr (λ no. no e) | inr apart ↦ inl apart ]

-- no earlier item has the number
all_differ : {X : Type 0} (number : X → ℕ) (n : ℕ) (xs : List X) → Decided (All (λ x. number x ≢ n) xs)
all_differ number n xs = by_test (list_all (λ x. not (number x == n)) xs) (
  λ holds k d inside is. let apart = AllPass-from_list_all (λ x. not (number x == n)) xs holds k d inside in
      grind (arith, nat_tests, apart, is),
  λ apart. list_all-from_AllPass (λ x. not (number x == n)) xs
      (λ k d inside. let no = apart k d inside in
      elim (same (number (slice_index_or xs k d)) n) [
        | inl e ↦ absurd (no e)
        | inr far ↦ elim (cases_lt (number (slice_index_or xs k d)) n) [
          | inl b ↦ grind (arith, nat_tests, b)
          | inr a ↦ grind (arith, nat_tests, a, far)
        ]
      ]),
)

is_there : {X : Type 0} (o : Option X) → Decided (IsSome o)
is_there (Some x) = inl refl
is_there None = inr (λ no. cc)

is_absent : {X : Type 0} (o : Option X) → Decided (o ≡ None)
is_absent (Some x) = inr (λ no. cc)
is_absent None = inl refl

-- ---- the first element that breaks a rule

pub same_item : {X : Type 0} (xs : List X) (i : ℕ) (d e : X) → i < length xs → slice_index_or xs i d ≡ slice_index_or xs i e
same_item [] i d e inside = absurd (omega (arith, inside))
same_item (x ∷ xs) zero d e inside = refl
same_item (x ∷ xs) (suc i) d e inside = same_item xs i d e (omega (arith, inside))

pub some_item : {X : Type 0} (xs : List X) (i : ℕ) → i < length xs → X
some_item [] i inside = absurd (omega (arith, inside))
some_item (x ∷ xs) i inside = x

abbrev KeptBelow : {X : Type 0} → (List X → X → Type 0) → List X → ℕ → Type 0
KeptBelow {X} Keeps xs n = (j : ℕ) (d : X) → j < n → Keeps (take j xs) (slice_index_or xs j d)

broken_or_kept : {X : Type 0} (Keeps : List X → X → Type 0) →
    ((earlier : List X) (x : X) → Decided (Keeps earlier x)) → (xs : List X) (n : ℕ) → n ≤ length xs →
    ((i : ℕ) × IsFirstBreaking Keeps xs i) ⊎ KeptBelow Keeps xs n
broken_or_kept Keeps decided xs zero within = inr (λ j d no. absurd (omega (arith, no)))
broken_or_kept {X} Keeps decided xs (suc n) within =
    let d = some_item xs n (omega (arith, within)) in
    step (broken_or_kept Keeps decided xs n (omega (arith, within))) (decided (take n xs) (slice_index_or xs n d))
  where
    d : X
    d = some_item xs n (omega (arith, within))

    step : ((i : ℕ) × IsFirstBreaking Keeps xs i) ⊎ KeptBelow Keeps xs n →
        Decided (Keeps (take n xs) (slice_index_or xs n d)) →
        ((i : ℕ) × IsFirstBreaking Keeps xs i) ⊎ KeptBelow Keeps xs (suc n)
    step (inl found) here = inl found
    step (inr kept) (inr breaks) = inl (
      n,
      record {
        inside = omega (arith, within);
        breaks = λ e keeps. breaks (subst (λ (x : X). Keeps (take n xs) x) (same_item xs n e d (omega (arith, within))) keeps);
        before = kept;
      },
    )
    step (inr kept) (inl keeps) = inr (λ j e before. elim (cases_order j n) [
      | inl e' ↦ subst (λ (k : ℕ). Keeps (take k xs) (slice_index_or xs k e)) (sym e')
          (subst (λ (x : X). Keeps (take n xs) x) (same_item xs n d e (omega (arith, within))) keeps)
      | inr apart ↦ elim apart [
        | inl earlier ↦ kept j e earlier
        | inr later ↦ absurd (omega (arith, before, later))
      ]
    ])

pub first_broken : {X : Type 0} (Keeps : List X → X → Type 0) →
    ((earlier : List X) (x : X) → Decided (Keeps earlier x)) → (xs : List X) →
    ((i : ℕ) × IsFirstBreaking Keeps xs i) ⊎ Each Keeps xs
first_broken Keeps decided xs = broken_or_kept Keeps decided xs (length xs) (omega arith)

-- ---- the list of regions

has_byte : (earlier : List Region) (r : Region) → Decided (HasByte earlier r)
has_byte earlier r = elim (less r.span.from r.span.to) [
  | inl some ↦ inl (r.span.from, (omega arith, some))
  | inr none ↦ inr (λ held. none (omega (arith, held.1.0, held.1.1)))
]

meets_none : (earlier : List Region) (r : Region) → Decided (MeetsNone earlier r)
meets_none earlier r = let test = list_all (λ e. spans_apart e.span r.span) earlier in
    by_test test (apart-all earlier r test refl)

pub regions-decided : (regions : List Region) → ((f : RegionFault) × IsFirstRegionFault regions f) ⊎ AreRegions regions
regions-decided regions = elim (cases_lt MAX_REGIONS (length regions)) [
  | inl many ↦ inl (TooMany, many)
  | inr few ↦ elim (first_broken HasByte has_byte regions) [
    | inl empty ↦ inl (Empty empty.0, (few, empty.1))
    | inr filled ↦ elim (first_broken MeetsNone meets_none regions) [
      | inl meet ↦ inl (Meet meet.0, (few, filled, meet.1))
      | inr apart ↦ inr (record { few = few; filled = filled; apart = apart })
    ]
  ]
]

-- ---- the rules between the parts

on_its_side : (earlier : List Region) (r : Region) → Decided (IsOnItsSide earlier r)
on_its_side earlier r = let test = on_side r.kind r.span in by_test test (side-test earlier r test refl)

in_bounds : (earlier : List Region) (r : Region) → Decided (IsStackInBounds earlier r)
in_bounds earlier r = elim (both (same (r.span.from % 16) 0) (both (same (r.span.to % 16) 0)
    (both (at_most (r.span.to - r.span.from) 65536) (both (less (length (stacks_of earlier)) 16)
    (where_true r.marked (less (length (marked_of earlier)) 3)))))) [
      | inl all ↦ inl (record { begins = all.0; ends = all.1.0; size = all.1.1.0; number = all.1.1.1.0; marks = all.1.1.1.1 })
      | inr some ↦ inr (λ b. some (b.begins, (b.ends, (b.size, (b.number, b.marks)))))
    ]

stack_fits : (earlier : List Region) (r : Region) → Decided (StackFits earlier r)
stack_fits earlier r = where_true (is_stack r.kind) (in_bounds earlier r)

has_guard : (regions earlier : List Region) (r : Region) → Decided (HasGuard regions earlier r)
has_guard regions earlier r = by_kind (is_stack r.kind) refl
  where
    by_kind : (b : Bool) → is_stack r.kind ≡ b → Decided (HasGuard regions earlier r)
    by_kind true stack = let test = list_any (guards r) regions in
        by_test test (guard-test regions earlier r test refl stack)
    by_kind false other = inl (λ stack. let clash = sym other ∙ stack in absurd (cc))

new_vector : (earlier : List Gate) (g : Gate) → Decided (IsNewVector earlier g)
new_vector earlier g = all_differ (λ (e : Gate). e.vector) g.vector earlier

has_gate : (gates : List Gate) (earlier : List ℕ) (v : ℕ) → Decided (HasGate gates earlier v)
has_gate gates earlier v = is_there (gate_of gates v)

new_entry : (earlier : List Handler) (h : Handler) → Decided (IsNewEntry earlier h)
new_entry earlier h = all_differ (λ (e : Handler). e.entry) h.entry earlier

in_area : (regions : List Region) (a n : ℕ) → 0 < n → Decided (IsInArea regions a n)
in_area regions a n some = let test = list_any (area_holds a n) regions in
    by_test test (area-test regions a n test some refl)

tss_clear : (tss word : ℕ) → Decided ((n : ℕ) → n < 8 → ¬ WordsMeet (tss_word tss n) word)
tss_clear tss word = by_test (tss_apart tss word) (tss_apart-means tss word, tss_apart-from tss word)

word_placed : (tss : ℕ) (regions : List Region) (earlier : List Word) (w : Word) →
    Decided (IsWordPlaced tss regions earlier w)
word_placed tss regions earlier w = let test = list_any (λ e. words_meet e.at w.at) earlier in
    elim (both (in_area regions w.at 8 (omega arith)) (both (by_test (not test) (none-test earlier w.at test refl))
    (tss_clear tss w.at))) [
      | inl all ↦ inl (record { area = all.0; words = all.1.0; tss_words = all.1.1 })
      | inr some ↦ inr (λ p. some (p.area, (p.words, p.tss_words)))
    ]

cr3_apart : (d : Description) → Decided (Cr3ValuesApart d)
cr3_apart d = elim (both (differ d.cpu.kernel_cr3 d.cpu.user_cr3)
    (both (is_absent (stack_of d.regions d.cpu.kernel_cr3)) (is_absent (stack_of d.regions d.cpu.user_cr3)))) [
      | inl all ↦ inl (record { differ = all.0; kernel = all.1.0; user = all.1.1 })
      | inr some ↦ inr (λ p. some (p.differ, (p.kernel, p.user)))
    ]

-- the fault that breaks the rule of this number first, where those before it hold
abbrev fault_at : (rule index : ℕ) → CrossFault
fault_at rule index = record { rule = rule; index = index }

abbrev Crossed : Description → Type 0
Crossed d = ((f : CrossFault) × IsFirstCrossFault d f) ⊎ CrossRules d

-- what is asked after the rules below number n
abbrev Asked : Description → ℕ → Type 0
Asked d n = CrossRulesBelow n d → Crossed d

words_asked : (d : Description) → Asked d WORDS
words_asked d below = elim (first_broken (IsWordPlaced d.cpu.tss d.regions) (word_placed d.cpu.tss d.regions) d.words) [
  | inl broken ↦ inl (
    fault_at WORDS broken.0,
    record {
      rule = (omega arith, omega arith);
      earlier = below;
      sides = λ no. absurd (omega (arith, no));
      stacks = λ no. absurd (omega (arith, no));
      guards = λ no. absurd (omega (arith, no));
      cr3_values = λ no. absurd (omega (arith, no));
      tss = λ no. absurd (omega (arith, no));
      vectors = λ no. absurd (omega (arith, no));
      gates = λ no. absurd (omega (arith, no));
      entries = λ no. absurd (omega (arith, no));
      words = λ _. broken.1;
    },
  )
  | inr placed ↦ inr (record {
    sides = below.sides (omega arith);
    stacks = below.stacks (omega arith);
    guards = below.guards (omega arith);
    cr3_values = below.cr3_values (omega arith);
    tss = below.tss (omega arith);
    vectors = below.vectors (omega arith);
    gates = below.gates (omega arith);
    entries = below.entries (omega arith);
    words = placed;
  })
]

entries_asked : (d : Description) → Asked d ENTRIES
entries_asked d below = elim (first_broken IsNewEntry new_entry d.handlers) [
  | inl broken ↦ inl (
    fault_at ENTRIES broken.0,
    record {
      rule = (omega arith, omega arith);
      earlier = below;
      sides = λ no. absurd (omega (arith, no));
      stacks = λ no. absurd (omega (arith, no));
      guards = λ no. absurd (omega (arith, no));
      cr3_values = λ no. absurd (omega (arith, no));
      tss = λ no. absurd (omega (arith, no));
      vectors = λ no. absurd (omega (arith, no));
      gates = λ no. absurd (omega (arith, no));
      entries = λ _. broken.1;
      words = λ no. absurd (omega (arith, no));
    },
  )
  | inr kept ↦ words_asked d (record {
    sides = λ _. below.sides (omega arith);
    stacks = λ _. below.stacks (omega arith);
    guards = λ _. below.guards (omega arith);
    cr3_values = λ _. below.cr3_values (omega arith);
    tss = λ _. below.tss (omega arith);
    vectors = λ _. below.vectors (omega arith);
    gates = λ _. below.gates (omega arith);
    entries = λ _. kept;
  })
]

gates_asked : (d : Description) → Asked d GATES
gates_asked d below = elim (first_broken (HasGate d.gates) (has_gate d.gates) needed_vectors) [
  | inl broken ↦ inl (
    fault_at GATES (slice_index needed_vectors broken.0),
    record {
      rule = (omega arith, omega arith);
      earlier = below;
      sides = λ no. absurd (omega (arith, no));
      stacks = λ no. absurd (omega (arith, no));
      guards = λ no. absurd (omega (arith, no));
      cr3_values = λ no. absurd (omega (arith, no));
      tss = λ no. absurd (omega (arith, no));
      vectors = λ no. absurd (omega (arith, no));
      gates = λ _. (broken.0, broken.1, refl);
      entries = λ no. absurd (omega (arith, no));
      words = λ no. absurd (omega (arith, no));
    },
  )
  | inr kept ↦ entries_asked d (record {
    sides = λ _. below.sides (omega arith);
    stacks = λ _. below.stacks (omega arith);
    guards = λ _. below.guards (omega arith);
    cr3_values = λ _. below.cr3_values (omega arith);
    tss = λ _. below.tss (omega arith);
    vectors = λ _. below.vectors (omega arith);
    gates = λ _. kept;
    entries = λ no. absurd (omega (arith, no));
  })
]

vectors_asked : (d : Description) → Asked d VECTORS
vectors_asked d below = elim (first_broken IsNewVector new_vector d.gates) [
  | inl broken ↦ inl (
    fault_at VECTORS broken.0,
    record {
      rule = (omega arith, omega arith);
      earlier = below;
      sides = λ no. absurd (omega (arith, no));
      stacks = λ no. absurd (omega (arith, no));
      guards = λ no. absurd (omega (arith, no));
      cr3_values = λ no. absurd (omega (arith, no));
      tss = λ no. absurd (omega (arith, no));
      vectors = λ _. broken.1;
      gates = λ no. absurd (omega (arith, no));
      entries = λ no. absurd (omega (arith, no));
      words = λ no. absurd (omega (arith, no));
    },
  )
  | inr kept ↦ gates_asked d (record {
    sides = λ _. below.sides (omega arith);
    stacks = λ _. below.stacks (omega arith);
    guards = λ _. below.guards (omega arith);
    cr3_values = λ _. below.cr3_values (omega arith);
    tss = λ _. below.tss (omega arith);
    vectors = λ _. kept;
    gates = λ no. absurd (omega (arith, no));
    entries = λ no. absurd (omega (arith, no));
  })
]

tss_asked : (d : Description) → Asked d TSS
tss_asked d below = elim (in_area d.regions d.cpu.tss 104 (omega arith)) [
  | inr broken ↦ inl (
    fault_at TSS 0,
    record {
      rule = (omega arith, omega arith);
      earlier = below;
      sides = λ no. absurd (omega (arith, no));
      stacks = λ no. absurd (omega (arith, no));
      guards = λ no. absurd (omega (arith, no));
      cr3_values = λ no. absurd (omega (arith, no));
      tss = λ _. (refl, broken);
      vectors = λ no. absurd (omega (arith, no));
      gates = λ no. absurd (omega (arith, no));
      entries = λ no. absurd (omega (arith, no));
      words = λ no. absurd (omega (arith, no));
    },
  )
  | inl kept ↦ vectors_asked d (record {
    sides = λ _. below.sides (omega arith);
    stacks = λ _. below.stacks (omega arith);
    guards = λ _. below.guards (omega arith);
    cr3_values = λ _. below.cr3_values (omega arith);
    tss = λ _. kept;
    vectors = λ no. absurd (omega (arith, no));
    gates = λ no. absurd (omega (arith, no));
    entries = λ no. absurd (omega (arith, no));
  })
]

cr3_asked : (d : Description) → Asked d CR3_VALUES
cr3_asked d below = elim (cr3_apart d) [
  | inr broken ↦ inl (
    fault_at CR3_VALUES 0,
    record {
      rule = (omega arith, omega arith);
      earlier = below;
      sides = λ no. absurd (omega (arith, no));
      stacks = λ no. absurd (omega (arith, no));
      guards = λ no. absurd (omega (arith, no));
      cr3_values = λ _. (refl, broken);
      tss = λ no. absurd (omega (arith, no));
      vectors = λ no. absurd (omega (arith, no));
      gates = λ no. absurd (omega (arith, no));
      entries = λ no. absurd (omega (arith, no));
      words = λ no. absurd (omega (arith, no));
    },
  )
  | inl kept ↦ tss_asked d (record {
    sides = λ _. below.sides (omega arith);
    stacks = λ _. below.stacks (omega arith);
    guards = λ _. below.guards (omega arith);
    cr3_values = λ _. kept;
    tss = λ no. absurd (omega (arith, no));
    vectors = λ no. absurd (omega (arith, no));
    gates = λ no. absurd (omega (arith, no));
    entries = λ no. absurd (omega (arith, no));
  })
]

guards_asked : (d : Description) → Asked d GUARDS
guards_asked d below = elim (first_broken (HasGuard d.regions) (has_guard d.regions) d.regions) [
  | inl broken ↦ inl (
    fault_at GUARDS broken.0,
    record {
      rule = (omega arith, omega arith);
      earlier = below;
      sides = λ no. absurd (omega (arith, no));
      stacks = λ no. absurd (omega (arith, no));
      guards = λ _. broken.1;
      cr3_values = λ no. absurd (omega (arith, no));
      tss = λ no. absurd (omega (arith, no));
      vectors = λ no. absurd (omega (arith, no));
      gates = λ no. absurd (omega (arith, no));
      entries = λ no. absurd (omega (arith, no));
      words = λ no. absurd (omega (arith, no));
    },
  )
  | inr kept ↦ cr3_asked d (record {
    sides = λ _. below.sides (omega arith);
    stacks = λ _. below.stacks (omega arith);
    guards = λ _. kept;
    cr3_values = λ no. absurd (omega (arith, no));
    tss = λ no. absurd (omega (arith, no));
    vectors = λ no. absurd (omega (arith, no));
    gates = λ no. absurd (omega (arith, no));
    entries = λ no. absurd (omega (arith, no));
  })
]

stacks_asked : (d : Description) → Asked d STACKS
stacks_asked d below = elim (first_broken StackFits stack_fits d.regions) [
  | inl broken ↦ inl (
    fault_at STACKS broken.0,
    record {
      rule = (omega arith, omega arith);
      earlier = below;
      sides = λ no. absurd (omega (arith, no));
      stacks = λ _. broken.1;
      guards = λ no. absurd (omega (arith, no));
      cr3_values = λ no. absurd (omega (arith, no));
      tss = λ no. absurd (omega (arith, no));
      vectors = λ no. absurd (omega (arith, no));
      gates = λ no. absurd (omega (arith, no));
      entries = λ no. absurd (omega (arith, no));
      words = λ no. absurd (omega (arith, no));
    },
  )
  | inr kept ↦ guards_asked d (record {
    sides = λ _. below.sides (omega arith);
    stacks = λ _. kept;
    guards = λ no. absurd (omega (arith, no));
    cr3_values = λ no. absurd (omega (arith, no));
    tss = λ no. absurd (omega (arith, no));
    vectors = λ no. absurd (omega (arith, no));
    gates = λ no. absurd (omega (arith, no));
    entries = λ no. absurd (omega (arith, no));
  })
]

sides_asked : (d : Description) → Asked d SIDES
sides_asked d below = elim (first_broken IsOnItsSide on_its_side d.regions) [
  | inl broken ↦ inl (
    fault_at SIDES broken.0,
    record {
      rule = (omega arith, omega arith);
      earlier = below;
      sides = λ _. broken.1;
      stacks = λ no. absurd (omega (arith, no));
      guards = λ no. absurd (omega (arith, no));
      cr3_values = λ no. absurd (omega (arith, no));
      tss = λ no. absurd (omega (arith, no));
      vectors = λ no. absurd (omega (arith, no));
      gates = λ no. absurd (omega (arith, no));
      entries = λ no. absurd (omega (arith, no));
      words = λ no. absurd (omega (arith, no));
    },
  )
  | inr kept ↦ stacks_asked d (record {
    sides = λ _. kept;
    stacks = λ no. absurd (omega (arith, no));
    guards = λ no. absurd (omega (arith, no));
    cr3_values = λ no. absurd (omega (arith, no));
    tss = λ no. absurd (omega (arith, no));
    vectors = λ no. absurd (omega (arith, no));
    gates = λ no. absurd (omega (arith, no));
    entries = λ no. absurd (omega (arith, no));
  })
]

pub crossed : (d : Description) → Crossed d
crossed d = sides_asked d (record {
  sides = λ no. absurd (omega (arith, no));
  stacks = λ no. absurd (omega (arith, no));
  guards = λ no. absurd (omega (arith, no));
  cr3_values = λ no. absurd (omega (arith, no));
  tss = λ no. absurd (omega (arith, no));
  vectors = λ no. absurd (omega (arith, no));
  gates = λ no. absurd (omega (arith, no));
  entries = λ no. absurd (omega (arith, no));
})
