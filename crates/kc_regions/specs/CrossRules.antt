-- The rules between the parts of a description, in their order, and the first that fails. This project's own.
use Rattle.std.specs.Prelude.{◌≡◌, ◌≢◌, ℕ, ◌+◌, ◌-◌, ◌%◌, ◌^◌, ◌<◌, ◌≤◌, true, List, [], ◌∷◌, length, All, Contains, None, IsSome, slice_index}
use Rattle.kc_words.specs.Span.{Holds}
use Rattle.kc_regions.specs.declared.config.TheConstants.{SIDES, STACKS, GUARDS, CR3_VALUES, TSS, VECTORS, GATES, ENTRIES, WORDS}
use Rattle.kc_regions.specs.declared.region.Kind.{Kind}
use Rattle.kc_regions.specs.declared.region.Kind.TheVariants.{User}
use Rattle.kc_regions.specs.declared.region.Region.{Region}
use Rattle.kc_regions.specs.declared.entry.Gate.{Gate}
use Rattle.kc_regions.specs.declared.entry.Handler.{Handler}
use Rattle.kc_regions.specs.declared.entry.Word.{Word}
use Rattle.kc_regions.specs.declared.cpu.CpuSetup.{CpuSetup}
use Rattle.kc_regions.specs.declared.config.CrossFault.{CrossFault}
use Rattle.kc_regions.specs.Each.{Each, IsFirstBreaking}
use Rattle.kc_regions.specs.Region.{is_area, is_stack, is_guard, stacks_of, stack_of, marked_of}
use Rattle.kc_regions.specs.Description.{Description}
use Rattle.kc_regions.specs.Lookup.{gate_of, tss_word}

-- user addresses are below 2^47, and kernel addresses are at 2^63 or above
abbrev pub IsOnSide : Kind → ℕ → Type 0
IsOnSide User a = a < 2 ^ 47
IsOnSide _ a = 2 ^ 63 ≤ a

-- each byte of the region lies on the side of its kind
abbrev pub IsOnItsSide : List Region → Region → Type 0
IsOnItsSide earlier r = (a : ℕ) → Holds r.span a → IsOnSide r.kind a

-- A stack begins and ends at multiples of 16 and has at most 65,536 bytes. There are at most 16 stacks, 3 of them
-- marked.
pub record IsStackInBounds (earlier : List Region) (r : Region) : Type 0 where
  pub begins : r.span.from % 16 ≡ 0
  pub ends : r.span.to % 16 ≡ 0
  pub size : r.span.to - r.span.from ≤ 65536
  pub number : length (stacks_of earlier) < 16
  pub marks : r.marked ≡ true → length (marked_of earlier) < 3

abbrev pub StackFits : List Region → Region → Type 0
StackFits earlier r = is_stack r.kind ≡ true → IsStackInBounds earlier r

-- the region g is a guard that ends where the stack begins, and holds the 4,096 bytes below it
pub record IsGuardBelow (stack g : Region) : Type 0 where
  pub guard : is_guard g.kind ≡ true
  pub ends : g.span.to ≡ stack.span.from
  pub room : 4096 ≤ stack.span.from
  pub bytes : (a : ℕ) → stack.span.from ≤ a + 4096 → a < stack.span.from → Holds g.span a

abbrev pub HasGuard : List Region → List Region → Region → Type 0
HasGuard regions earlier r = is_stack r.kind ≡ true → (g : Region) × Contains regions g × IsGuardBelow r g

-- the two CR3 values differ, and neither is the number of an address in a stack
pub record AreCr3Apart (cpu : CpuSetup) (regions : List Region) : Type 0 where
  pub differ : cpu.kernel_cr3 ≢ cpu.user_cr3
  pub kernel : stack_of regions cpu.kernel_cr3 ≡ None
  pub user : stack_of regions cpu.user_cr3 ≡ None

-- one area region holds each of the n bytes from address a on
abbrev pub IsInArea : List Region → ℕ → ℕ → Type 0
IsInArea regions a n =
    (r : Region) × Contains regions r × (is_area r.kind ≡ true) × ((k : ℕ) → k < n → Holds r.span (a + k))

-- an area holds the 104 bytes of the TSS
abbrev pub IsTssInArea : CpuSetup → List Region → Type 0
IsTssInArea cpu regions = IsInArea regions cpu.tss 104

abbrev pub IsNewVector : List Gate → Gate → Type 0
IsNewVector earlier g = All (λ e. e.vector ≢ g.vector) earlier

-- debug exception, NMI, page fault and machine check
abbrev pub needed_vectors : List ℕ
needed_vectors = 1 ∷ 2 ∷ 14 ∷ 18 ∷ []

abbrev pub HasGate : List Gate → List ℕ → ℕ → Type 0
HasGate gates earlier v = IsSome (gate_of gates v)

abbrev pub IsNewEntry : List Handler → Handler → Type 0
IsNewEntry earlier h = All (λ e. e.entry ≢ h.entry) earlier

-- address a is one of the 8 bytes of the word at address w
abbrev pub IsInWord : ℕ → ℕ → Type 0
IsInWord w a = (w ≤ a) × (a < w + 8)

-- some byte lies in both words
abbrev pub WordsMeet : ℕ → ℕ → Type 0
WordsMeet v w = (a : ℕ) × IsInWord v a × IsInWord w a

-- An area holds the word, and no byte of it lies in an earlier word, in RSP0 or in one of IST1 to IST7.
pub record IsWordPlaced (tss : ℕ) (regions : List Region) (earlier : List Word) (w : Word) : Type 0 where
  pub area : IsInArea regions w.at 8
  pub words : All (λ e. ¬ WordsMeet e.at w.at) earlier
  pub tss_words : (n : ℕ) → n < 8 → ¬ WordsMeet (tss_word tss n) w.at

-- the rules, whole
abbrev pub UserBelowKernel : Description → Type 0
UserBelowKernel d = Each IsOnItsSide d.regions

abbrev pub StacksFit : Description → Type 0
StacksFit d = Each StackFits d.regions

abbrev pub GuardBelowEachStack : Description → Type 0
GuardBelowEachStack d = Each (HasGuard d.regions) d.regions

abbrev pub Cr3ValuesApart : Description → Type 0
Cr3ValuesApart d = AreCr3Apart d.cpu d.regions

abbrev pub TssInArea : Description → Type 0
TssInArea d = IsTssInArea d.cpu d.regions

abbrev pub VectorsDiffer : Description → Type 0
VectorsDiffer d = Each IsNewVector d.gates

abbrev pub NeededGates : Description → Type 0
NeededGates d = Each (HasGate d.gates) needed_vectors

abbrev pub EntriesDiffer : Description → Type 0
EntriesDiffer d = Each IsNewEntry d.handlers

abbrev pub WordsDoNotMeet : Description → Type 0
WordsDoNotMeet d = Each (IsWordPlaced d.cpu.tss d.regions) d.words

-- all of them
pub record CrossRules (d : Description) : Type 0 where
  pub sides : UserBelowKernel d
  pub stacks : StacksFit d
  pub guards : GuardBelowEachStack d
  pub cr3_values : Cr3ValuesApart d
  pub tss : TssInArea d
  pub vectors : VectorsDiffer d
  pub gates : NeededGates d
  pub entries : EntriesDiffer d
  pub words : WordsDoNotMeet d

-- those with a number below n
pub record CrossRulesBelow (n : ℕ) (d : Description) : Type 0 where
  pub sides : SIDES < n → UserBelowKernel d
  pub stacks : STACKS < n → StacksFit d
  pub guards : GUARDS < n → GuardBelowEachStack d
  pub cr3_values : CR3_VALUES < n → Cr3ValuesApart d
  pub tss : TSS < n → TssInArea d
  pub vectors : VECTORS < n → VectorsDiffer d
  pub gates : GATES < n → NeededGates d
  pub entries : ENTRIES < n → EntriesDiffer d

-- The fault names the first rule that fails, and the first element that breaks it: a region, gate, handler or word by
-- its index, for the needed gates the missing vector, and 0 for the two rules on the processor's setup.
pub record IsFirstCrossFault (d : Description) (f : CrossFault) : Type 0 where
  pub rule : (SIDES ≤ f.rule) × (f.rule ≤ WORDS)
  pub earlier : CrossRulesBelow f.rule d
  pub sides : f.rule ≡ SIDES → IsFirstBreaking IsOnItsSide d.regions f.index
  pub stacks : f.rule ≡ STACKS → IsFirstBreaking StackFits d.regions f.index
  pub guards : f.rule ≡ GUARDS → IsFirstBreaking (HasGuard d.regions) d.regions f.index
  pub cr3_values : f.rule ≡ CR3_VALUES → (f.index ≡ 0) × ¬ Cr3ValuesApart d
  pub tss : f.rule ≡ TSS → (f.index ≡ 0) × ¬ TssInArea d
  pub vectors : f.rule ≡ VECTORS → IsFirstBreaking IsNewVector d.gates f.index
  pub gates : f.rule ≡ GATES → (i : ℕ) × IsFirstBreaking (HasGate d.gates) needed_vectors i
      × (f.index ≡ slice_index needed_vectors i)
  pub entries : f.rule ≡ ENTRIES → IsFirstBreaking IsNewEntry d.handlers f.index
  pub words : f.rule ≡ WORDS → IsFirstBreaking (IsWordPlaced d.cpu.tss d.regions) d.words f.index
