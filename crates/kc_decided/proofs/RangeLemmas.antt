-- What a description's tables say is in its range: each key that is read gives the test that its reading asked (`passed`,
-- `number_in-passes` and so on), and a table that is read gives all of them, key by key (`first`).
use Rattle.std.proofs.Common.{◌≡◌, ◌≢◌, ℕ, suc, ◌<◌, ◌≤◌, ◌^◌, ◌+◌, ◌%◌, ◌==◌, ◌&&◌, ◌||◌, Bool, true, false, not, List, [], ◌∷◌, ◌++◌, length, refl, sym, ap, ◌∙◌, arith, subst, inl, inr, length-append}
use Rattle.std.specs.Prelude.{Result, Ok, Err, IfOk, Option, Some, None, IfSome, ok_or, codes, All, is_some, nat_le, nat_lt, nat_eq, ◌⊎◌, slice_index_or, if◌then◌else◌, option_map}
use Rattle.std.specs.Option.{option_and_then}
use Rattle.std.proofs.lemmas.Nat.Bits.{bit_at-lt}
use Rattle.kc_rules.proofs.AnswerLemmas.{some_is}
use Rattle.std.specs.List.{list_all}
use Rattle.std.specs.Int.{bit_at}
use Rattle.std.proofs.lemmas.Bool.Decides.{nat_tests}
use Rattle.std.proofs.lemmas.List.Sums.{AllPass-from_list_all}
use Rattle.std.proofs.lemmas.List.Elements.{All-nil, All-push}
use Rattle.toml.specs.Data.{Members, get_member, as_table, as_str}
use Rattle.kc_words.specs.Range.{Range}
use Rattle.kc_rules.specs.Rules.{refuse, over, ◌>>=◌}
use Rattle.kc_regions.specs.declared.region.Kind.{Kind}
use Rattle.kc_regions.specs.declared.region.Kind.TheVariants.{Text, Area, Plain, Stack, Guard, User}
use Rattle.kc_regions.specs.declared.region.Region.{Region}
use Rattle.kc_regions.specs.declared.cpu.CpuSetup.{CpuSetup}
use Rattle.kc_regions.specs.declared.entry.Gate.{Gate}
use Rattle.kc_regions.specs.Description.{of_parts}
use Rattle.kc_regions.specs.Ranges.{IsUpper, IsUserSelector, IsCpuInRange, IsNameCharacter, IsRegionInRange, IsGateInRange}
use Rattle.kc_regions.specs.Ranges.{IsFrame, IsHandlerInRange, IsWordInRange, AreInRange}
use Rattle.kc_config.specs.declared.fault.ConfigFault.{ConfigFault}
use Rattle.kc_config.specs.declared.fault.ConfigFault.TheVariants.{WrongKind, NoSymbol, OutOfRange}
use Rattle.kc_config.specs.Paths.{path}
use Rattle.kc_config.specs.Keys.{Section, in_range, or_default, number, number_in, address, address_in, only_keys, text, word}
use Rattle.kc_config.specs.Keys.{of_kind, flag, boolean, array_of, form_of, every, table}
use Rattle.kc_config.specs.Addresses.{is_address, written, meant}
use Rattle.kc_config.specs.Tables.{Tables, within, multiple_of_8, tables, top, ist_stacks, is_star_kernel, is_star_user}
use Rattle.kc_config.specs.Tables.{is_user_cs32, is_fmask, some, cpu, is_name_character, name_of, kind_of, may_write, may_be_text}
use Rattle.kc_config.specs.Tables.{may_fault, may_be_marked, span, flags, region, is_vector, gate, events, after_if_of}
use Rattle.kc_config.specs.Tables.{is_handler_stack, is_frame, handler, tracked_word}
use Rattle.kc_config.specs.Reading.{document, section, add_table, each, description}

-- ---- readings in a row

-- what the first part gives leads to what the second gives
first : {A B E : Type 0} (P : A → Type 0) (Q : B → Type 0) (r : Result A E) (f : A → Result B E) → IfOk r P →
    ((x : A) → P x → IfOk (f x) Q) → IfOk (r >>= f) Q
first P Q (Ok x) f p next = next x p
first P Q (Err e) f p next = tt

-- whatever the first part gives
past : {A B E : Type 0} (Q : B → Type 0) (r : Result A E) (f : A → Result B E) → ((x : A) → IfOk (f x) Q) →
    IfOk (r >>= f) Q
past Q (Ok x) f next = next x
past Q (Err e) f next = tt

-- a demand that was met holds
demanded : {B : Type 0} (Q : B → Type 0) (holds : Bool) (fault : ConfigFault) (f : Unit {0} → Result B ConfigFault) →
    (holds ≡ true → IfOk (f tt) Q) → IfOk (refuse (not holds) fault >>= f) Q
demanded Q true fault f next = next refl
demanded Q false fault f next = tt

-- what was found
found : {A B : Type 0} (Q : B → Type 0) (o : Option A) (fault : ConfigFault) (f : A → Result B ConfigFault) →
    ((x : A) → o ≡ Some x → IfOk (f x) Q) → IfOk (ok_or o fault >>= f) Q
found Q (Some x) fault f next = next x refl
found Q None fault f next = tt

found-last : {A : Type 0} (Q : A → Type 0) (o : Option A) (fault : ConfigFault) → ((x : A) → o ≡ Some x → Q x) →
    IfOk (ok_or o fault) Q
found-last Q (Some x) fault is = is x refl
found-last Q None fault is = tt

-- a rule that was passed holds
asked : {B : Type 0} (Q : B → Type 0) (at : Section) (key : List ℕ) (holds : Bool)
    (f : Unit {0} → Result B ConfigFault) → (holds ≡ true → IfOk (f tt) Q) → IfOk (in_range at key holds >>= f) Q
asked Q at key true f next = next refl
asked Q at key false f next = tt

-- ---- keys

abbrev Passes : (ℕ → Bool) → ℕ → Type 0
Passes test n = test n ≡ true

number_in-passes : (test : ℕ → Bool) (at : Section) (key : List ℕ) → IfOk (number_in test at key) (Passes test)
unfolding number_in
number_in-passes test at key = past (Passes test) (number at key) _
    (λ n. asked (Passes test) at key (test n) _ (λ holds. holds))

address-fits : (at : Section) (key : List ℕ) → IfOk (address at key) (Passes is_address)
unfolding address
address-fits at key = past (Passes is_address) (text at key) _
    (λ t. past (Passes is_address) (of_kind at key (written t)) _
    (λ w. past (Passes is_address) (ok_or (meant at.symbols w) (NoSymbol (path at.place key))) _
    (λ a. asked (Passes is_address) at key (is_address a) _ (λ holds. holds))))

-- an address for which the test holds
record Lies (test : ℕ → Bool) (a : ℕ) : Type 0 where
  fits : is_address a ≡ true
  holds : test a ≡ true

address_in-lies : (test : ℕ → Bool) (at : Section) (key : List ℕ) → IfOk (address_in test at key) (Lies test)
unfolding address_in
address_in-lies test at key = first (Passes is_address) (Lies test) (address at key) _ (address-fits at key)
    (λ a fits. asked (Lies test) at key (test a) _ (λ holds. record { fits = fits; holds = holds }))

-- a key that may be absent
default-passes : {A : Type 0} (P : A → Type 0) (at : Section) (key : List ℕ) (absent : A)
    (read : Result A ConfigFault) → P absent → IfOk read P → IfOk (or_default at key absent read) P
default-passes P at key absent read p is = by_member (is_some (get_member key at.members))
  where
    by_member : (b : Bool) → IfOk (if b then read else Ok absent) P
    by_member true = is
    by_member false = p

some-passes : {A : Type 0} (P : A → Type 0) (read : Result A ConfigFault) → IfOk read P →
    IfOk (some read) (λ o. IfSome o P)
some-passes P (Ok x) p = p
some-passes P (Err e) p = tt

-- ---- words

word-in : (at : Section) → IfOk (tracked_word at) IsWordInRange
unfolding tracked_word
word-in at =
    first (Lies multiple_of_8) IsWordInRange (address_in multiple_of_8 at (codes "at")) _
    (address_in-lies multiple_of_8 at (codes "at"))
    (λ a lies. first (Passes is_address) IsWordInRange (address at (codes "value")) _ (address-fits at (codes "value"))
    (λ v fits. past IsWordInRange (only_keys at) _
    (λ _. record {
      at = (grind (arith, nat_tests, lies.fits), grind (arith, nat_tests, lies.holds));
      value = grind (arith, nat_tests, fits);
    })))

-- ---- handlers

frame-in : (n : ℕ) → is_frame n ≡ true → IsFrame n
frame-in n is = (grind (arith, nat_tests, is), grind (arith, nat_tests, is), grind (arith, nat_tests, is))

frames-in : (o : Option ℕ) → IfSome o (Passes is_frame) → IfSome o IsFrame
frames-in (Some n) is = frame-in n is
frames-in None is = is

handler-in : (at : Section) → IfOk (handler at) IsHandlerInRange
unfolding handler
handler-in at =
    first (Passes is_address) IsHandlerInRange (address at (codes "entry")) _ (address-fits at (codes "entry"))
    (λ entry fits. first (Passes is_handler_stack) IsHandlerInRange (number_in is_handler_stack at (codes "stack")) _
    (number_in-passes is_handler_stack at (codes "stack"))
    (λ stack holds. past IsHandlerInRange (events at) _
    (λ inside. past IsHandlerInRange (word after_if_of at (codes "after_if")) _
    (λ after_if. past IsHandlerInRange (boolean at (codes "returns")) _
    (λ returns. first (λ o. IfSome o (Passes is_frame)) IsHandlerInRange
    (or_default at (codes "frame") None (some (number_in is_frame at (codes "frame")))) _
    (default-passes (λ o. IfSome o (Passes is_frame)) at (codes "frame") None
    (some (number_in is_frame at (codes "frame"))) tt
    (some-passes (Passes is_frame) (number_in is_frame at (codes "frame"))
    (number_in-passes is_frame at (codes "frame"))))
    (λ frame framed. past IsHandlerInRange (only_keys at) _
    (λ _. record {
      entry = grind (arith, nat_tests, fits);
      stack = (grind (arith, nat_tests, holds), grind (arith, nat_tests, holds));
      frame = frames-in frame framed;
    })))))))

-- ---- gates

gate-in : (at : Section) → IfOk (gate at) IsGateInRange
unfolding gate
gate-in at =
    first (Passes is_vector) IsGateInRange (number_in is_vector at (codes "vector")) _
    (number_in-passes is_vector at (codes "vector"))
    (λ vector holds. first (Passes is_address) IsGateInRange (address at (codes "entry")) _
    (address-fits at (codes "entry"))
    (λ entry fits. first (Passes (within 0 7)) IsGateInRange
    (or_default at (codes "ist") 0 (number_in (within 0 7) at (codes "ist"))) _
    (default-passes (Passes (within 0 7)) at (codes "ist") 0 (number_in (within 0 7) at (codes "ist")) refl
    (number_in-passes (within 0 7) at (codes "ist")))
    (λ ist few. past IsGateInRange (flag at (codes "trap")) _
    (λ trap. past IsGateInRange (flag at (codes "user")) _
    (λ user. asked IsGateInRange at (codes "user") (not user || nat_le 32 vector) _
    (λ device. past IsGateInRange (only_keys at) _
    (λ _. record {
      vector = (grind (arith, nat_tests, holds), (λ is. grind (arith, nat_tests, holds, is)));
      entry = grind (arith, nat_tests, fits);
      ist = grind (arith, nat_tests, few);
      user = λ is. grind (arith, nat_tests, device, is);
    })))))))

-- ---- regions

character-in : (c : ℕ) → is_name_character c ≡ true → IsNameCharacter c
character-in c is = by_cases (within 97 122 c) (within 48 57 c) refl refl
  where
    by_cases : (letter digit : Bool) → within 97 122 c ≡ letter → within 48 57 c ≡ digit → IsNameCharacter c
    by_cases true digit a b = inl (grind (arith, nat_tests, a), grind (arith, nat_tests, a))
    by_cases false true a b = inr (inl (grind (arith, nat_tests, b), grind (arith, nat_tests, b)))
    by_cases false false a b = inr (inr (grind (arith, nat_tests, is, a, b)))

NameIn : List ℕ → Type 0
NameIn t = (1 ≤ length t) × (length t ≤ 32) × All IsNameCharacter t

name-of : (t : List ℕ) (o : Option (List ℕ)) → name_of t ≡ o → IfSome o NameIn
unfolding NameIn
name-of t o is = by_test (within 1 32 (length t)) (list_all is_name_character t) refl refl
  where
    by_test : (sized lettered : Bool) → within 1 32 (length t) ≡ sized → list_all is_name_character t ≡ lettered →
        IfSome o NameIn
    by_test true true a b =
        let one : name_of t ≡ Some t = rw a (rw b refl) in
        subst (λ (o : Option (List ℕ)). IfSome o NameIn) (sym one ∙ is) (
          grind (arith, nat_tests, a),
          grind (arith, nat_tests, a),
          λ k d inside.
              character-in (slice_index_or t k d) (AllPass-from_list_all is_name_character t b k d inside),
        )
    by_test true false a b =
        let none : name_of t ≡ None = rw a (rw b refl) in subst (λ (o : Option (List ℕ)). IfSome o NameIn) (sym none ∙ is) tt
    by_test false lettered a b =
        let none : name_of t ≡ None = rw a refl in subst (λ (o : Option (List ℕ)). IfSome o NameIn) (sym none ∙ is) tt

named : (at : Section) (key : List ℕ) → IfOk (word name_of at key) NameIn
unfolding word
named at key = past NameIn (text at key) _
    (λ t. found-last NameIn (name_of t) (OutOfRange (path at.place key))
    (λ n is. name-of t (Some n) is))

-- an address, and one no less, below 2^64
SpanIn : Range → Type 0
SpanIn s = (s.from ≤ s.to) × (s.to < 2 ^ 64)

span-in : (at : Section) → IfOk (span at) SpanIn
unfolding span SpanIn
span-in at = past SpanIn (address at (codes "at")) _
    (λ from. past SpanIn (address at (codes "size")) _
    (λ size. asked SpanIn at (codes "size") (nat_lt (from + size) (2 ^ 64)) _
    (λ fits. (omega arith, grind (arith, nat_tests, fits)))))

-- the flags go with the kind
record FlagsFit (kind : Kind) (w x f q m : Bool) : Type 0 where
  write : may_write kind w ≡ true
  exec : may_be_text kind x ≡ true
  faults : may_fault kind f ≡ true
  quiet : may_be_text kind q ≡ true
  marked : may_be_marked kind m ≡ true

flags-fit : (kind : Kind) (at : Section) →
    IfOk (flags kind at) (λ set. FlagsFit kind set.write set.exec set.may_fault set.quiet set.marked)
unfolding flags
flags-fit kind at =
    past (λ set. FlagsFit kind set.write set.exec set.may_fault set.quiet set.marked) (flag at (codes "user_map")) _
    (λ user_map. past (λ set. FlagsFit kind set.write set.exec set.may_fault set.quiet set.marked)
    (flag at (codes "write")) _
    (λ write. asked (λ set. FlagsFit kind set.write set.exec set.may_fault set.quiet set.marked) at (codes "write")
    (may_write kind write) _
    (λ a. past (λ set. FlagsFit kind set.write set.exec set.may_fault set.quiet set.marked) (flag at (codes "exec")) _
    (λ exec. asked (λ set. FlagsFit kind set.write set.exec set.may_fault set.quiet set.marked) at (codes "exec")
    (may_be_text kind exec) _
    (λ b. past (λ set. FlagsFit kind set.write set.exec set.may_fault set.quiet set.marked)
    (flag at (codes "may_fault")) _
    (λ faults. asked (λ set. FlagsFit kind set.write set.exec set.may_fault set.quiet set.marked) at
    (codes "may_fault") (may_fault kind faults) _
    (λ c. past (λ set. FlagsFit kind set.write set.exec set.may_fault set.quiet set.marked) (flag at (codes "quiet")) _
    (λ quiet. asked (λ set. FlagsFit kind set.write set.exec set.may_fault set.quiet set.marked) at (codes "quiet")
    (may_be_text kind quiet) _
    (λ d. past (λ set. FlagsFit kind set.write set.exec set.may_fault set.quiet set.marked)
    (flag at (codes "marked")) _
    (λ marked. asked (λ set. FlagsFit kind set.write set.exec set.may_fault set.quiet set.marked) at (codes "marked")
    (may_be_marked kind marked) _ (λ e. record { write = a; exec = b; faults = c; quiet = d; marked = e })))))))))))

written-fits : (kind : Kind) (write : Bool) → may_write kind write ≡ true → write ≡ true → (kind ≢ Text) × (kind ≢ Guard)
written-fits Text true fits set = absurd (cc)
written-fits Text false fits set = absurd (cc)
written-fits Guard true fits set = absurd (cc)
written-fits Guard false fits set = absurd (cc)
written-fits Area write fits set = (λ is. cc, λ is. cc)
written-fits Plain write fits set = (λ is. cc, λ is. cc)
written-fits Stack write fits set = (λ is. cc, λ is. cc)
written-fits User write fits set = (λ is. cc, λ is. cc)

text-fits : (kind : Kind) (set : Bool) → may_be_text kind set ≡ true → set ≡ true → kind ≡ Text
text-fits Text set fits is = refl
text-fits Area true fits is = absurd (cc)
text-fits Area false fits is = absurd (cc)
text-fits Plain true fits is = absurd (cc)
text-fits Plain false fits is = absurd (cc)
text-fits Stack true fits is = absurd (cc)
text-fits Stack false fits is = absurd (cc)
text-fits Guard true fits is = absurd (cc)
text-fits Guard false fits is = absurd (cc)
text-fits User true fits is = absurd (cc)
text-fits User false fits is = absurd (cc)

fault-fits : (kind : Kind) (set : Bool) → may_fault kind set ≡ true → set ≡ true → kind ≢ Guard
fault-fits Guard true fits is = absurd (cc)
fault-fits Guard false fits is = absurd (cc)
fault-fits Text set fits is = λ no. cc
fault-fits Area set fits is = λ no. cc
fault-fits Plain set fits is = λ no. cc
fault-fits Stack set fits is = λ no. cc
fault-fits User set fits is = λ no. cc

mark-fits : (kind : Kind) (set : Bool) → may_be_marked kind set ≡ true → set ≡ true → kind ≡ Stack
mark-fits Stack set fits is = refl
mark-fits Text true fits is = absurd (cc)
mark-fits Text false fits is = absurd (cc)
mark-fits Area true fits is = absurd (cc)
mark-fits Area false fits is = absurd (cc)
mark-fits Plain true fits is = absurd (cc)
mark-fits Plain false fits is = absurd (cc)
mark-fits Guard true fits is = absurd (cc)
mark-fits Guard false fits is = absurd (cc)
mark-fits User true fits is = absurd (cc)
mark-fits User false fits is = absurd (cc)

stack-fits : (kind : Kind) (write : Bool) → may_write kind write ≡ true → kind ≡ Stack → write ≡ true
stack-fits Stack write fits is = fits
stack-fits Text write fits is = absurd (cc)
stack-fits Area write fits is = absurd (cc)
stack-fits Plain write fits is = absurd (cc)
stack-fits Guard write fits is = absurd (cc)
stack-fits User write fits is = absurd (cc)

region-in : (at : Section) → IfOk (region at) IsRegionInRange
unfolding region SpanIn NameIn
region-in at =
    first NameIn IsRegionInRange (word name_of at (codes "name")) _ (named at (codes "name"))
    (λ name sized. first SpanIn IsRegionInRange (span at) _ (span-in at)
    (λ place placed. past IsRegionInRange (word kind_of at (codes "kind")) _
    (λ kind. first (λ set. FlagsFit kind set.write set.exec set.may_fault set.quiet set.marked) IsRegionInRange
    (flags kind at) _ (flags-fit kind at)
    (λ set fit. past IsRegionInRange (only_keys at) _
    (λ _. record {
      name = sized;
      span = placed;
      write = written-fits kind set.write fit.write;
      exec = text-fits kind set.exec fit.exec;
      may_fault = fault-fits kind set.may_fault fit.faults;
      quiet = text-fits kind set.quiet fit.quiet;
      marked = mark-fits kind set.marked fit.marked;
      stack = stack-fits kind set.write fit.write;
    })))))

-- ---- the processor

upper-in : (a : ℕ) → Lies (nat_le (2 ^ 63)) a → IsUpper a
upper-in a lies = (grind (arith, nat_tests, lies.holds), grind (arith, nat_tests, lies.fits))

clear-bit : (n i : ℕ) → (bit_at n i == 0) ≡ true → bit_at n i ≡ 0
clear-bit n i is = grind (arith, nat_tests, is)

fmask-in : (n : ℕ) → is_fmask n ≡ true → (n < 2 ^ 32) × (bit_at n 1 ≡ 0)
fmask-in n is = (grind (arith, nat_tests, is), grind (arith, nat_tests, is))

star_kernel-in : (n : ℕ) → is_star_kernel n ≡ true → (8 ≤ n) × (n ≤ 65520) × (n % 8 ≡ 0)
star_kernel-in n is = (grind (arith, nat_tests, is), grind (arith, nat_tests, is), grind (arith, nat_tests, is))

star_user-in : (n : ℕ) → is_star_user n ≡ true → (8 ≤ n) × (n ≤ 65499) × (bit_at n 2 ≡ 0)
star_user-in n is = (grind (arith, nat_tests, is), grind (arith, nat_tests, is), grind (arith, nat_tests, is))

selector-in : (n : ℕ) → is_user_cs32 n ≡ true → IsUserSelector n
selector-in n is = (
  grind (arith, nat_tests, is),
  grind (arith, nat_tests, is),
  grind (arith, nat_tests, is, bit_at-lt n 0),
  grind (arith, nat_tests, is, bit_at-lt n 1),
  grind (arith, nat_tests, is),
)

selectors-in : (o : Option ℕ) → IfSome o (Passes is_user_cs32) → IfSome o IsUserSelector
selectors-in (Some n) is = selector-in n is
selectors-in None is = is

pushed_length : {B : Type 0} (o : Option B) (rest : Option (List B)) (ys : List B) (n : ℕ) →
    option_and_then (λ y. option_map (λ ys. y ∷ ys) rest) o ≡ Some ys →
    ((zs : List B) → rest ≡ Some zs → length zs ≡ n) → length ys ≡ suc n
pushed_length None rest ys n e more = absurd (cc)
pushed_length (Some y) None ys n e more = absurd (cc)
pushed_length (Some y) (Some zs) ys n e more = ap length (sym (some_is _ _ e)) ∙ ap suc (more zs refl)

every_length : {X B : Type 0} (f : X → Option B) (xs : List X) (ys : List B) → every f xs ≡ Some ys →
    length ys ≡ length xs
every_length f [] ys e = ap length (sym (some_is _ _ e))
every_length f (x ∷ xs) ys e = pushed_length (f x) (every f xs) ys (length xs) e (every_length f xs)

StacksIn : List ℕ → Type 0
StacksIn xs = (length xs ≡ 7) × All (λ a. a < 2 ^ 64) xs

stacks-in : (at : Section) → IfOk (ist_stacks at) StacksIn
unfolding ist_stacks StacksIn
stacks-in at = past StacksIn (array_of form_of at (codes "ist")) _
    (λ forms. demanded StacksIn (length forms == 7) (WrongKind (path at.place (codes "ist"))) _
    (λ seven. found StacksIn (every (meant at.symbols) forms) (NoSymbol (path at.place (codes "ist"))) _
    (λ sums is. asked StacksIn at (codes "ist") (list_all is_address sums) _
    (λ fit. (
      every_length (meant at.symbols) forms sums is ∙ grind (arith, nat_tests, seven),
      λ k d inside. grind (arith, nat_tests, AllPass-from_list_all is_address sums fit k d inside),
    )))))

low-in : (a : ℕ) → Lies (λ a. nat_lt a (2 ^ 63)) a → a < 2 ^ 63
low-in a lies = grind (arith, nat_tests, lies.holds)

kernel_gs-in : (a : ℕ) → Lies (nat_le 0xffff800000000000) a → (0xffff800000000000 ≤ a) × (a < 2 ^ 64)
kernel_gs-in a lies = (grind (arith, nat_tests, lies.holds), grind (arith, nat_tests, lies.fits))

cpu-in : (at : Section) → IfOk (cpu at) IsCpuInRange
unfolding cpu StacksIn
cpu-in at =
    first (Lies (nat_le 0xffff800000000000)) IsCpuInRange
    (address_in (nat_le 0xffff800000000000) at (codes "kernel_gs")) _
    (address_in-lies (nat_le 0xffff800000000000) at (codes "kernel_gs"))
    (λ kernel_gs p1. first (Lies (λ a. nat_lt a (2 ^ 63))) IsCpuInRange
    (address_in (λ a. nat_lt a (2 ^ 63)) at (codes "kernel_cr3")) _
    (address_in-lies (λ a. nat_lt a (2 ^ 63)) at (codes "kernel_cr3"))
    (λ kernel_cr3 p2. first (Lies (λ a. nat_lt a (2 ^ 63))) IsCpuInRange
    (address_in (λ a. nat_lt a (2 ^ 63)) at (codes "user_cr3")) _
    (address_in-lies (λ a. nat_lt a (2 ^ 63)) at (codes "user_cr3"))
    (λ user_cr3 p3. first (Lies (nat_le (2 ^ 63))) IsCpuInRange (address_in (nat_le (2 ^ 63)) at (codes "idt")) _
    (address_in-lies (nat_le (2 ^ 63)) at (codes "idt"))
    (λ idt p4. first (Lies (nat_le (2 ^ 63))) IsCpuInRange (address_in (nat_le (2 ^ 63)) at (codes "gdt")) _
    (address_in-lies (nat_le (2 ^ 63)) at (codes "gdt"))
    (λ gdt p5. first (Lies (nat_le (2 ^ 63))) IsCpuInRange (address_in (nat_le (2 ^ 63)) at (codes "tss")) _
    (address_in-lies (nat_le (2 ^ 63)) at (codes "tss"))
    (λ tss p6. first (Lies (nat_le (2 ^ 63))) IsCpuInRange (address_in (nat_le (2 ^ 63)) at (codes "syscall")) _
    (address_in-lies (nat_le (2 ^ 63)) at (codes "syscall"))
    (λ syscall p7. first (Lies is_fmask) IsCpuInRange (address_in is_fmask at (codes "fmask")) _
    (address_in-lies is_fmask at (codes "fmask"))
    (λ fmask p8. first (Passes is_star_kernel) IsCpuInRange (number_in is_star_kernel at (codes "star_kernel")) _
    (number_in-passes is_star_kernel at (codes "star_kernel"))
    (λ star_kernel p9. first (Passes is_star_user) IsCpuInRange (number_in is_star_user at (codes "star_user")) _
    (number_in-passes is_star_user at (codes "star_user"))
    (λ star_user p10. first (λ o. IfSome o (Passes is_user_cs32)) IsCpuInRange
    (or_default at (codes "user_cs32") None (some (number_in is_user_cs32 at (codes "user_cs32")))) _
    (default-passes (λ o. IfSome o (Passes is_user_cs32)) at (codes "user_cs32") None
    (some (number_in is_user_cs32 at (codes "user_cs32"))) tt
    (some-passes (Passes is_user_cs32) (number_in is_user_cs32 at (codes "user_cs32"))
    (number_in-passes is_user_cs32 at (codes "user_cs32"))))
    (λ user_cs32 p11. past IsCpuInRange (boolean at (codes "user_gs_writes")) _
    (λ user_gs_writes. first (Passes is_address) IsCpuInRange (address at (codes "rsp0")) _
    (address-fits at (codes "rsp0"))
    (λ rsp0 p12. first StacksIn IsCpuInRange (ist_stacks at) _ (stacks-in at)
    (λ ist p13. past IsCpuInRange (only_keys at) _
    (λ _. record {
      kernel_gs = kernel_gs-in kernel_gs p1;
      kernel_cr3 = low-in kernel_cr3 p2;
      user_cr3 = low-in user_cr3 p3;
      idt = upper-in idt p4;
      gdt = upper-in gdt p5;
      tss = upper-in tss p6;
      syscall = upper-in syscall p7;
      fmask = fmask-in fmask p8.holds;
      star_kernel = star_kernel-in star_kernel p9;
      star_user = star_user-in star_user p10;
      user_cs32 = selectors-in user_cs32 p11;
      rsp0 = grind (arith, nat_tests, p12);
      ist = p13;
    })))))))))))))))

-- ---- the tables of a document

tables-count : (count : ℕ → Bool) (at : Section) (key : List ℕ) →
    IfOk (tables count at key) (λ found. count (length found) ≡ true)
unfolding tables
tables-count count at key = past (λ found. count (length found) ≡ true) (array_of as_table at key) _
    (λ found. asked (λ found. count (length found) ≡ true) at key (count (length found)) _ (λ holds. holds))

record TopFits (t : Tables) : Type 0 where
  regions : within 1 64 (length t.regions) ≡ true
  gates : within 1 256 (length t.gates) ≡ true
  handlers : within 0 256 (length t.handlers) ≡ true
  words : within 0 32 (length t.words) ≡ true

Counted : (ℕ → Bool) → List Members → Type 0
Counted count found = count (length found) ≡ true

top-fits : (at : Section) → IfOk (top at) TopFits
unfolding top Counted
top-fits at = past TopFits (number_in (nat_eq 1) at (codes "version")) _
    (λ version. past TopFits (table at (codes "cpu")) _
    (λ setup. first (Counted (within 1 64)) TopFits (tables (within 1 64) at (codes "region")) _
    (tables-count (within 1 64) at (codes "region"))
    (λ regions a. first (Counted (within 1 256)) TopFits (tables (within 1 256) at (codes "gate")) _
    (tables-count (within 1 256) at (codes "gate"))
    (λ gates b. first (Counted (within 0 256)) TopFits
    (or_default at (codes "handler") [] (tables (within 0 256) at (codes "handler"))) _
    (default-passes (Counted (within 0 256)) at (codes "handler") [] (tables (within 0 256) at (codes "handler")) refl
    (tables-count (within 0 256) at (codes "handler")))
    (λ handlers c. first (Counted (within 0 32)) TopFits
    (or_default at (codes "word") [] (tables (within 0 32) at (codes "word"))) _
    (default-passes (Counted (within 0 32)) at (codes "word") [] (tables (within 0 32) at (codes "word")) refl
    (tables-count (within 0 32) at (codes "word")))
    (λ words d. past TopFits (only_keys at) _
    (λ _. record { regions = a; gates = b; handlers = c; words = d })))))))

-- so many more items, each with this
record Grown {A : Type 0} (P : A → Type 0) (more : ℕ) (gathered : List A) (xs : List A) : Type 0 where
  number : length xs ≡ length gathered + more
  each : All P xs

ok-map : {A E : Type 0} (P Q : A → Type 0) (r : Result A E) → IfOk r P → ((x : A) → P x → Q x) → IfOk r Q
ok-map P Q (Ok x) p f = f x p
ok-map P Q (Err e) p f = tt

over-in : {A : Type 0} (P : A → Type 0) (read : Section → Result A ConfigFault) (place : _)
    (symbols : List (List ℕ × ℕ)) → ((at : Section) → IfOk (read at) P) → (tables : List Members) (gathered : List A) →
    All P gathered →
    IfOk (over (add_table read place symbols) gathered tables) (Grown P (length tables) gathered)
unfolding over
over-in P read place symbols reads [] gathered all = record { number = omega arith; each = all }
over-in P read place symbols reads (members ∷ more) gathered all =
    first (Grown P 1 gathered) (Grown P (length (members ∷ more)) gathered)
    (add_table read place symbols gathered members) _
    (first P (Grown P 1 gathered) (read (section symbols (place (length gathered)) members)) _
    (reads (section symbols (place (length gathered)) members))
    (λ x p. record { number = length-append gathered (x ∷ []); each = All-push P gathered x all p }))
    (λ grown g. ok-map (Grown P (length more) grown) (Grown P (length (members ∷ more)) gathered)
    (over (add_table read place symbols) grown more) (over-in P read place symbols reads more grown g.each)
    (λ xs h. record { number = let a = h.number in let b = g.number in omega (arith, a, b); each = h.each }))

each-in : {A : Type 0} (P : A → Type 0) (read : Section → Result A ConfigFault) (place : _)
    (symbols : List (List ℕ × ℕ)) → ((at : Section) → IfOk (read at) P) → (tables : List Members) →
    IfOk (each read place symbols tables) (Grown P (length tables) [])
each-in P read place symbols reads tables = over-in P read place symbols reads tables [] (All-nil P)

-- what follows of the top and the processor
parts-in : (in_region : _) (in_gate : _) (in_handler : _) (in_word : _) (symbols : List (List ℕ × ℕ)) (found : Tables)
    (setup : CpuSetup) → TopFits found → IsCpuInRange setup →
    IfOk (each region in_region symbols found.regions >>= λ regions. each gate in_gate symbols found.gates >>= λ gates.
    each handler in_handler symbols found.handlers >>= λ handlers.
    each tracked_word in_word symbols found.words >>= λ words.
    Ok (of_parts setup regions gates handlers words)) AreInRange
parts-in in_region in_gate in_handler in_word symbols found setup t c =
    first (Grown IsRegionInRange (length found.regions) []) AreInRange (each region in_region symbols found.regions) _
    (each-in IsRegionInRange region in_region symbols region-in found.regions)
    (λ regions r. first (Grown IsGateInRange (length found.gates) []) AreInRange
    (each gate in_gate symbols found.gates) _ (each-in IsGateInRange gate in_gate symbols gate-in found.gates)
    (λ gates g. first (Grown IsHandlerInRange (length found.handlers) []) AreInRange
    (each handler in_handler symbols found.handlers) _
    (each-in IsHandlerInRange handler in_handler symbols handler-in found.handlers)
    (λ handlers h. first (Grown IsWordInRange (length found.words) []) AreInRange
    (each tracked_word in_word symbols found.words) _
    (each-in IsWordInRange tracked_word in_word symbols word-in found.words)
    (λ words w. let regions_number = r.number in let gates_number = g.number in let handlers_number = h.number in
    let words_number = w.number in record {
      cpu = c;
      region_count = (
        grind (arith, nat_tests, t.regions, regions_number),
        grind (arith, nat_tests, t.regions, regions_number),
      );
      regions = r.each;
      gate_count = (grind (arith, nat_tests, t.gates, gates_number), grind (arith, nat_tests, t.gates, gates_number));
      gates = g.each;
      handler_count = grind (arith, nat_tests, t.handlers, handlers_number);
      handlers = h.each;
      word_count = grind (arith, nat_tests, t.words, words_number);
      words = w.each;
    }))))

pub description-in : (symbols : List (List ℕ × ℕ)) (text : List ℕ) → IfOk (description symbols text) AreInRange
unfolding description
description-in symbols text = past AreInRange (document text) _
    (λ members. first TopFits AreInRange (top (section symbols _ members)) _ (top-fits (section symbols _ members))
    (λ found t. first IsCpuInRange AreInRange (cpu (section symbols _ found.cpu)) _
    (cpu-in (section symbols _ found.cpu)) (λ setup c. search (parts-in, t, c))))
