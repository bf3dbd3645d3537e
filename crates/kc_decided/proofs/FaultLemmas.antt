-- The first fault of a description is one, and a valid one has none. In a list the first element that breaks a rule is
-- one, since the elements before it keep the rule (`first_once`). Of two faults between the parts with different numbers
-- the lesser breaks a rule that the other says holds (`lesser`); with one number the element is the same (`same_index`).
-- `omega` is left to compare the numbers of rules. That a fault is there where a description isn't valid is decided rule
-- by rule (RuleLemmas), and its ranges are those that its reading asked (RangeLemmas).
use Rattle.std.proofs.Common.{◌≡◌, ℕ, ◌<◌, ◌≤◌, List, [], ◌∷◌, length, refl, sym, ap, ◌∙◌, arith, inl, inr, subst}
use Rattle.std.proofs.lemmas.Bool.{cases_order, cases_lt}
use Rattle.std.specs.Prelude.{◌⊎◌, IfOk, Result, Ok, slice_index}
use Rattle.kc_regions.specs.declared.config.TheConstants.{SIDES, STACKS, GUARDS, CR3_VALUES, TSS, VECTORS, GATES, ENTRIES, WORDS}
use Rattle.kc_regions.specs.declared.config.CrossFault.{CrossFault}
use Rattle.kc_regions.specs.declared.regions.RegionFault.{RegionFault}
use Rattle.kc_regions.specs.declared.regions.RegionFault.TheVariants.{Meet, Empty, TooMany}
use Rattle.kc_regions.specs.declared.region.Region.{Region}
use Rattle.kc_regions.specs.Description.{Description}
use Rattle.kc_regions.specs.Each.{Each, IsFirstBreaking}
use Rattle.kc_regions.specs.Regions.{HasByte, MeetsNone, AreRegions, IsFirstRegionFault}
use Rattle.kc_regions.specs.CrossRules.{IsOnItsSide, StackFits, HasGuard, IsNewVector, needed_vectors, HasGate, IsNewEntry}
use Rattle.kc_regions.specs.CrossRules.{IsWordPlaced, CrossRules, CrossRulesBelow, IsFirstCrossFault}
use Rattle.kc_regions.specs.Ranges.{AreInRange}
use Rattle.kc_regions.specs.Valid.{IsValid}
use Rattle.kc_config.specs.declared.fault.ConfigFault.{ConfigFault}
use Rattle.kc_config.specs.Reading.{region_fault, cross_fault, description, IsRuleFault}
use Rattle.kc_decided.proofs.RangeLemmas.{description-in}
use Rattle.kc_decided.proofs.RuleLemmas.{regions-decided, crossed}

-- ---- lists

-- an element of a list that has one
some_item : {X : Type 0} (xs : List X) (i : ℕ) → i < length xs → X
some_item [] i inside = absurd (omega (arith, inside))
some_item (x ∷ xs) i inside = x

-- the earlier of two elements keeps the rule
not_before : {X : Type 0} (Keeps : List X → X → Type 0) (xs : List X) (i j : ℕ) → IsFirstBreaking Keeps xs i →
    IsFirstBreaking Keeps xs j → i < j → ⊥
not_before Keeps xs i j first other before =
    let d = some_item xs i first.inside in first.breaks d (other.before i d before)

first_once : {X : Type 0} (Keeps : List X → X → Type 0) (xs : List X) (i j : ℕ) → IsFirstBreaking Keeps xs i →
    IsFirstBreaking Keeps xs j → i ≡ j
first_once Keeps xs i j first other = elim (cases_order i j) [
  | inl same ↦ same
  | inr apart ↦ elim apart [
    | inl before ↦ absurd (not_before Keeps xs i j first other before)
    | inr after ↦ absurd (not_before Keeps xs j i other first after)
  ]
]

-- where each element keeps the rule, none is the first that breaks it
none_breaks : {X : Type 0} (Keeps : List X → X → Type 0) (xs : List X) (i : ℕ) → Each Keeps xs →
    IsFirstBreaking Keeps xs i → ⊥
none_breaks Keeps xs i each first =
    let d = some_item xs i first.inside in first.breaks d (each i d first.inside)

-- ---- the list of regions

region_once : (regions : List Region) (f g : RegionFault) → IsFirstRegionFault regions f →
    IsFirstRegionFault regions g → f ≡ g
region_once regions TooMany TooMany is is' = refl
region_once regions TooMany (Empty j) is is' = absurd (omega (arith, is, is'.0))
region_once regions TooMany (Meet j) is is' = absurd (omega (arith, is, is'.0))
region_once regions (Empty i) TooMany is is' = absurd (omega (arith, is.0, is'))
region_once regions (Empty i) (Empty j) is is' = ap Empty (first_once HasByte regions i j is.1 is'.1)
region_once regions (Empty i) (Meet j) is is' = absurd (none_breaks HasByte regions i is'.1 is.1)
region_once regions (Meet i) TooMany is is' = absurd (omega (arith, is.0, is'))
region_once regions (Meet i) (Empty j) is is' = absurd (none_breaks HasByte regions j is.1 is'.1)
region_once regions (Meet i) (Meet j) is is' = ap Meet (first_once MeetsNone regions i j is.2 is'.2)

no_region_fault : (regions : List Region) (f : RegionFault) → AreRegions regions → IsFirstRegionFault regions f → ⊥
no_region_fault regions TooMany are is = omega (arith, are.few, is)
no_region_fault regions (Empty i) are is = none_breaks HasByte regions i are.filled is.1
no_region_fault regions (Meet i) are is = none_breaks MeetsNone regions i are.apart is.2

-- ---- the rules between the parts

-- what follows whichever of the nine rules it is
by_rule : (P : Type 0) (n : ℕ) → SIDES ≤ n → n ≤ WORDS → (n ≡ SIDES → P) → (n ≡ STACKS → P) → (n ≡ GUARDS → P) →
    (n ≡ CR3_VALUES → P) → (n ≡ TSS → P) → (n ≡ VECTORS → P) → (n ≡ GATES → P) → (n ≡ ENTRIES → P) →
    (n ≡ WORDS → P) → P
by_rule P n least most sides stacks guards cr3_values tss vectors gates entries words =
    elim (cases_lt n STACKS) [
      | inl b ↦ sides (omega (arith, least, b))
      | inr a ↦
          elim (cases_lt n GUARDS) [
            | inl b ↦ stacks (omega (arith, a, b))
            | inr a ↦
                elim (cases_lt n CR3_VALUES) [
                  | inl b ↦ guards (omega (arith, a, b))
                  | inr a ↦
                      elim (cases_lt n TSS) [
                        | inl b ↦ cr3_values (omega (arith, a, b))
                        | inr a ↦
                            elim (cases_lt n VECTORS) [
                              | inl b ↦ tss (omega (arith, a, b))
                              | inr a ↦
                                  elim (cases_lt n GATES) [
                                    | inl b ↦ vectors (omega (arith, a, b))
                                    | inr a ↦
                                        elim (cases_lt n ENTRIES) [
                                          | inl b ↦ gates (omega (arith, a, b))
                                          | inr a ↦
                                              elim (cases_lt n WORDS) [
                                                | inl b ↦ entries (omega (arith, a, b))
                                                | inr a ↦
                                                    words (omega (arith, a, most))
                                              ]
                                        ]
                                  ]
                            ]
                      ]
                ]
          ]
    ]

-- a rule with a lesser number holds
lesser : (d : Description) (f : CrossFault) (n : ℕ) → IsFirstCrossFault d f → CrossRulesBelow n d → f.rule < n →
    n ≤ WORDS → ⊥
lesser d f n first below before most = by_rule ⊥ f.rule first.rule.0 first.rule.1
    (λ is. none_breaks IsOnItsSide d.regions f.index (below.sides (omega (arith, is, before))) (first.sides is))
    (λ is. none_breaks StackFits d.regions f.index (below.stacks (omega (arith, is, before))) (first.stacks is))
    (λ is. none_breaks (HasGuard d.regions) d.regions f.index (below.guards (omega (arith, is, before)))
    (first.guards is))
    (λ is. (first.cr3_values is).1 (below.cr3_values (omega (arith, is, before))))
    (λ is. (first.tss is).1 (below.tss (omega (arith, is, before))))
    (λ is. none_breaks IsNewVector d.gates f.index (below.vectors (omega (arith, is, before))) (first.vectors is))
    (λ is. let gate = first.gates is in
    none_breaks (HasGate d.gates) needed_vectors gate.0 (below.gates (omega (arith, is, before))) gate.1)
    (λ is. none_breaks IsNewEntry d.handlers f.index (below.entries (omega (arith, is, before))) (first.entries is))
    (λ is. omega (arith, is, before, most))

-- with one number the element is one
same_index : (d : Description) (f g : CrossFault) → IsFirstCrossFault d f → IsFirstCrossFault d g → f.rule ≡ g.rule →
    f.index ≡ g.index
same_index d f g first other same = by_rule (f.index ≡ g.index) f.rule first.rule.0 first.rule.1
    (λ is. first_once IsOnItsSide d.regions f.index g.index (first.sides is) (other.sides (sym same ∙ is)))
    (λ is. first_once StackFits d.regions f.index g.index (first.stacks is) (other.stacks (sym same ∙ is)))
    (λ is. first_once (HasGuard d.regions) d.regions f.index g.index (first.guards is) (other.guards (sym same ∙ is)))
    (λ is. (first.cr3_values is).0 ∙ sym (other.cr3_values (sym same ∙ is)).0)
    (λ is. (first.tss is).0 ∙ sym (other.tss (sym same ∙ is)).0)
    (λ is. first_once IsNewVector d.gates f.index g.index (first.vectors is) (other.vectors (sym same ∙ is)))
    (λ is. let one = first.gates is in let two = other.gates (sym same ∙ is) in
    one.2 ∙ ap (λ i. slice_index needed_vectors i) (first_once (HasGate d.gates) needed_vectors one.0 two.0 one.1 two.1)
    ∙ sym two.2)
    (λ is. first_once IsNewEntry d.handlers f.index g.index (first.entries is) (other.entries (sym same ∙ is)))
    (λ is. first_once (IsWordPlaced d.cpu.tss d.regions) d.words f.index g.index (first.words is)
    (other.words (sym same ∙ is)))

same_fault : (f g : CrossFault) → f.rule ≡ g.rule → f.index ≡ g.index → f ≡ g
same_fault f g rules indexes = λ i. record { rule = rules i; index = indexes i }

cross_once : (d : Description) (f g : CrossFault) → IsFirstCrossFault d f → IsFirstCrossFault d g → f ≡ g
cross_once d f g first other = elim (cases_order f.rule g.rule) [
  | inl same ↦ same_fault f g same (same_index d f g first other same)
  | inr apart ↦ elim apart [
    | inl before ↦ absurd (lesser d f g.rule first other.earlier before other.rule.1)
    | inr after ↦ absurd (lesser d g f.rule other first.earlier after first.rule.1)
  ]
]

-- where all rules hold, those below any number do
all_below : (d : Description) (n : ℕ) → CrossRules d → CrossRulesBelow n d
all_below d n rules = record {
  sides = λ _. rules.sides;
  stacks = λ _. rules.stacks;
  guards = λ _. rules.guards;
  cr3_values = λ _. rules.cr3_values;
  tss = λ _. rules.tss;
  vectors = λ _. rules.vectors;
  gates = λ _. rules.gates;
  entries = λ _. rules.entries;
}

no_cross_fault : (d : Description) (f : CrossFault) → CrossRules d → IsFirstCrossFault d f → ⊥
no_cross_fault d f rules first = elim (cases_lt f.rule WORDS) [
  | inl before ↦ lesser d f WORDS first (all_below d WORDS rules) before (omega arith)
  | inr last ↦ none_breaks (IsWordPlaced d.cpu.tss d.regions) d.words f.index rules.words
      (first.words (omega (arith, last, first.rule.1)))
]

-- ---- a description

-- two faults of its rules are the same
pub rule_fault-once : (d : Description) (e f : ConfigFault) → IsRuleFault d e → IsRuleFault d f → e ≡ f
rule_fault-once d e f (inl a) (inl b) =
    a.2 ∙ ap region_fault (region_once d.regions a.0 b.0 a.1 b.1) ∙ sym b.2
rule_fault-once d e f (inl a) (inr b) = absurd (no_region_fault d.regions a.0 b.0 a.1)
rule_fault-once d e f (inr a) (inl b) = absurd (no_region_fault d.regions b.0 a.0 b.1)
rule_fault-once d e f (inr a) (inr b) =
    a.1.2 ∙ ap cross_fault (cross_once d a.1.0 b.1.0 a.1.1 b.1.1) ∙ sym b.1.2

-- a valid one has none
pub rule_fault-none : (d : Description) (e : ConfigFault) → IsValid d → IsRuleFault d e → ⊥
rule_fault-none d e valid (inl a) = no_region_fault d.regions a.0 valid.regions a.1
rule_fault-none d e valid (inr a) = no_cross_fault d a.1.0 valid.rules a.1.1

-- a description that a text gives breaks a first rule or is valid
pub rule_fault-or : (symbols : List (List ℕ × ℕ)) (text : List ℕ) (d : Description) → description symbols text ≡ Ok d →
    ((fault : ConfigFault) × IsRuleFault d fault) ⊎ IsValid d
rule_fault-or symbols text d is = by_rules (regions-decided d.regions) (crossed d)
  where
    ranges : AreInRange d
    ranges = subst (λ (r : Result Description ConfigFault). IfOk r AreInRange) is (description-in symbols text)

    by_rules : ((f : RegionFault) × IsFirstRegionFault d.regions f) ⊎ AreRegions d.regions →
        ((f : CrossFault) × IsFirstCrossFault d f) ⊎ CrossRules d →
        ((fault : ConfigFault) × IsRuleFault d fault) ⊎ IsValid d
    by_rules (inl broken) other = inl (region_fault broken.0, inl (broken.0, broken.1, refl))
    by_rules (inr regions) (inl broken) = inl (cross_fault broken.0, inr (regions, (broken.0, broken.1, refl)))
    by_rules (inr regions) (inr rules) = inr (record { ranges = ranges; regions = regions; rules = rules })
