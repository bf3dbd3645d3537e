-- What comes of work that begins with a file, from what a step found: the file wasn't read, or it was and this is what
-- follows of its bytes and of their form. Each lemma takes what comes of the rest to what comes of the whole.
use Rattle.std.proofs.Common.{◌≡◌, ℕ, ◌≤◌, List, length, refl, ap, sym, ◌∙◌, arith, inl, inr, subst}
use Rattle.std.specs.Prelude.{Option, Some, None, IfSome, Result, Ok, Err, IsErrAnd}
use Rattle.kc_io.specs.Files.{Held, FilesState, FilesKept, HasFailed, IsWhole, IsLonger}
use Rattle.kc_io.specs.Sink.{SinkState}
use Rattle.kc_top.specs.declared.status.Status.{Status}
use Rattle.kc_top.specs.declared.outcome.Outcome.{Outcome}
use Rattle.kc_top.specs.declared.stop.Stop.{Stop}
use Rattle.kc_top.specs.declared.stop.Stop.TheVariants.{ReadFault, TooLarge, BadImage, BadConfig, BadCert, BadTrace}
use Rattle.kc_top.specs.declared.stop.Stop.TheVariants.{NoMemory}
use Rattle.kc_top.specs.Work.{Work, Wants, form, Comes, read_fault, too_large}
use Rattle.kc_top.specs.OutputSteps.{outcome_of, IsUnread, Concludes, Ends}
use Rattle.kc_top.proofs.WorkLemmas.{WantsNone, Comes-anywhere}
use Rattle.kc_top.proofs.OutputLemmas.{Rose-before}

-- what a value gives, the other gives too
pub IfSome-map : {A : Type 0} (P Q : A → Type 0) → ((a : A) → P a → Q a) → (o : Option A) → IfSome o P → IfSome o Q
IfSome-map P Q f (Some a) p = f a p
IfSome-map P Q f None p = p

-- a file that wasn't read, after what the files kept
pub unread : (first before after : FilesState) (name : List ℕ) (limit : ℕ) (next : List ℕ → Work) (stop : Stop) →
    FilesKept first before → IsUnread before after name limit stop →
    IfSome (outcome_of stop) (Comes first.held (HasFailed first after) (Wants name limit next))
unread first before after name limit next (ReadFault named) kept is =
    inl (
      Rose-before (first.faults name) (before.faults name) (after.faults name) (kept.later name) is.0,
      ap read_fault is.1,
    )
unread first before after name limit next (TooLarge named) kept is =
    inr (inl (subst (λ told. IsLonger told name limit) kept.held is.0, ap too_large is.1))
unread first before after name limit next NoMemory kept is = tt
unread first before after name limit next (BadImage fault) kept is = absurd is
unread first before after name limit next (BadConfig fault) kept is = absurd is
unread first before after name limit next (BadCert fault) kept is = absurd is
unread first before after name limit next (BadTrace fault) kept is = absurd is

-- a file that was read, and what follows of its bytes
pub after_read : (told : Option Held) (rose : List ℕ → Type 0) (name : List ℕ) (limit : ℕ) (next : List ℕ → Work)
    (file : List ℕ) → IsWhole told name file → length file ≤ limit → (o : Outcome) → Comes told rose (next file) o →
    Comes told rose (Wants name limit next) o
after_read told rose name limit next file whole within o is =
    inr (inr (record {
      file = file;
      whole = whole;
      within = within;
      follows = is;
    }))

-- a form that was read
pub after_form : {A E : Type 0} (told : Option Held) (rose : List ℕ → Type 0) (bad : E → Outcome) (r : Result A E)
    (next : A → Work) (a : A) (o : Outcome) → r ≡ Ok a → Comes told rose (next a) o →
    Comes told rose (form bad r next) o
after_form told rose bad r next a o is follows = rw is follows

-- and one that wasn't
pub unformed : {A E : Type 0} (told : Option Held) (rose : List ℕ → Type 0) (bad : E → Outcome) (r : Result A E)
    (next : A → Work) (e : E) → r ≡ Err e → Comes told rose (form bad r next) (bad e)
unformed told rose bad r next e is = rw is refl

-- what the files kept over two calls
pub kept_on : (first middle last : FilesState) → FilesKept first middle → FilesKept middle last → FilesKept first last
kept_on first middle last kept kept' = record {
  later = λ name. let a = kept.later name in let b = kept'.later name in omega (arith, a, b);
  held = kept'.held ∙ kept.held;
  failing = kept'.failing ∙ kept.failing;
}

-- what was read is the file at the start too
pub whole_first : (first middle : FilesState) (name file : List ℕ) → FilesKept first middle →
    IsWhole middle.held name file → IsWhole first.held name file
whole_first first middle name file kept whole = subst (λ told. IsWhole told name file) kept.held whole

-- a cause that was handed on
pub ends_early : (told : Option Held) (rose : List ℕ → Type 0) (w : Work) (sink : SinkState) (stop : Stop)
    (r : Result Status Stop) → IsErrAnd r (λ e. e ≡ stop) → IfSome (outcome_of stop) (Comes told rose w) →
    Ends told rose w sink sink r
ends_early told rose w sink stop (Ok status) is comes = absurd is
ends_early told rose w sink stop (Err e) is comes =
    (subst (λ (e : Stop). IfSome (outcome_of e) (Comes told rose w)) (sym is) comes, refl)

-- a part that concludes with what comes of the work ends it
pub concludes-ends : (told : Option Held) (rose : List ℕ → Type 0) (w : Work) (ends : Outcome → Type 0)
    (before after : SinkState) (r : Result Status Stop) → ((o : Outcome) → ends o → Comes told rose w o) →
    Concludes ends before after r → Ends told rose w before after r
concludes-ends told rose w ends before after (Ok status) f told_so = (told_so.0, f told_so.0 told_so.1, told_so.2)
concludes-ends told rose w ends before after (Err stop) f early =
    (subst (λ (s : Stop). IfSome (outcome_of s) (Comes told rose w)) (sym early.0) tt, early.1)

-- what concludes with one of some outcomes concludes with one of others that hold of them
pub Concludes-map : (ends other : Outcome → Type 0) (before after : SinkState) (r : Result Status Stop) →
    ((o : Outcome) → ends o → other o) → Concludes ends before after r → Concludes other before after r
Concludes-map ends other before after (Ok status) f told_so = (told_so.0, f told_so.0 told_so.1, told_so.2)
Concludes-map ends other before after (Err stop) f early = early

-- want of memory that was handed on
pub concludes_early : (ends : Outcome → Type 0) (sink : SinkState) (stop : Stop) (r : Result Status Stop) →
    IsErrAnd r (λ e. e ≡ stop) → stop ≡ NoMemory → Concludes ends sink sink r
concludes_early ends sink stop (Ok status) is memory = absurd is
concludes_early ends sink stop (Err e) is memory = (is ∙ memory, refl)

-- work that reads no file ends the same whatever the files are
pub Ends-anywhere : (told other : Option Held) (rose more : List ℕ → Type 0) (w : Work) (before after : SinkState)
    (r : Result Status Stop) → WantsNone w → Ends told rose w before after r → Ends other more w before after r
Ends-anywhere told other rose more w before after (Ok status) none ends =
    (ends.0, Comes-anywhere told other rose more w ends.0 none ends.1, ends.2)
Ends-anywhere told other rose more w before after (Err stop) none ends = (
  IfSome-map (Comes told rose w) (Comes other more w) (λ o. Comes-anywhere told other rose more w o none)
      (outcome_of stop) ends.0,
  ends.1,
)
