-- What comes of work, by induction on it and said once for all modes: what holds of each end holds of each outcome but
-- those of reading (`each`), more faults have more outcomes (`more`), at most one outcome comes where each end has at
-- most one and no rule both is broken and holds (`one`), one comes where each end has one and each rule is broken or
-- holds (`some`), and over held files whose counts stand still no read fails (`quiet`). A file's length against its
-- limit decides which case a reading is in, and `omega` refutes the other.
use Rattle.std.proofs.Common.{◌≡◌, ℕ, ◌≤◌, ◌<◌, List, length, refl, sym, ◌∙◌, subst, arith, inl, inr, true, false}
use Rattle.std.proofs.Math.Dec.{leb}
use Rattle.std.proofs.lemmas.Bool.Decides.{leb_tells}
use Rattle.std.specs.Prelude.{◌⊎◌, Option, Some, None, Result, Ok, Err, IsSome, IsSomeAnd, ⊤}
use Rattle.kc_io.specs.Files.{Held, IsLonger}
use Rattle.kc_top.specs.declared.outcome.Outcome.{Outcome}
use Rattle.kc_top.specs.Work.{Work, Over, Wants, Ruled, Only, form, read_fault, too_large, Comes, AreHeld}

-- each end has this fact of its outcomes
abbrev pub IsEach : (Outcome → Type 0) → Work → Type 0
IsEach P (Over ends) = (o : Outcome) → ends o → P o
IsEach P (Wants name limit next) = (bytes : List ℕ) → IsEach P (next bytes)
IsEach P (Ruled broken holds next) = ((o : Outcome) → broken o → P o) × IsEach P next

pub each-form : {A E : Type 0} (P : Outcome → Type 0) (bad : E → Outcome) (r : Result A E) (next : A → Work) →
    ((e : E) → P (bad e)) → ((a : A) → IsEach P (next a)) → IsEach P (form bad r next)
each-form P bad (Ok a) next fault each = each a
each-form P bad (Err e) next fault each = λ o is. subst P (sym is) (fault e)

-- what each end has, and what reading has, each outcome has
pub Comes-each : (P : Outcome → Type 0) (told : Option Held) (rose : List ℕ → Type 0) →
    ((name : List ℕ) → rose name → P (read_fault name)) → ((name : List ℕ) → P (too_large name)) → (w : Work) →
    IsEach P w → (o : Outcome) → Comes told rose w o → P o
Comes-each P told rose unread large (Over ends) each o is = each o is
Comes-each P told rose unread large (Wants name limit next) each o (inl fault) =
    subst P (sym fault.1) (unread name fault.0)
Comes-each P told rose unread large (Wants name limit next) each o (inr (inl long)) = subst P (sym long.1) (large name)
Comes-each P told rose unread large (Wants name limit next) each o (inr (inr read)) =
    Comes-each P told rose unread large (next read.file) (each read.file) o read.follows
Comes-each P told rose unread large (Ruled broken holds next) each o (inl is) = each.0 o is
Comes-each P told rose unread large (Ruled broken holds next) each o (inr rest) =
    Comes-each P told rose unread large next each.1 o rest.1

-- counts that rose in a part of a call rose in the call
pub Comes-more : (told : Option Held) (rose more : List ℕ → Type 0) → ((n : List ℕ) → rose n → more n) → (w : Work)
    (o : Outcome) → Comes told rose w o → Comes told more w o
Comes-more told rose more f (Over ends) o is = is
Comes-more told rose more f (Wants name limit next) o (inl fault) = inl (f name fault.0, fault.1)
Comes-more told rose more f (Wants name limit next) o (inr (inl long)) = inr (inl long)
Comes-more told rose more f (Wants name limit next) o (inr (inr read)) = inr (inr (record {
  file = read.file;
  whole = read.whole;
  within = read.within;
  follows = Comes-more told rose more f (next read.file) o read.follows;
}))
Comes-more told rose more f (Ruled broken holds next) o (inl is) = inl is
Comes-more told rose more f (Ruled broken holds next) o (inr rest) =
    inr (rest.0, Comes-more told rose more f next o rest.1)

-- each end has at most one outcome, and so have rules that are broken; none is broken where all hold
abbrev pub IsSingle : Work → Type 0
IsSingle (Over ends) = (o p : Outcome) → ends o → ends p → o ≡ p
IsSingle (Wants name limit next) = (bytes : List ℕ) → IsSingle (next bytes)
IsSingle (Ruled broken holds next) =
    ((o p : Outcome) → broken o → broken p → o ≡ p) × ((o : Outcome) → broken o → holds → ⊥) × (holds → IsSingle next)

pub single-only : (o : Outcome) → IsSingle (Only o)
single-only o = λ p q is is'. is ∙ sym is'

pub single-form : {A E : Type 0} (bad : E → Outcome) (r : Result A E) (next : A → Work) →
    ((a : A) → IsSingle (next a)) → IsSingle (form bad r next)
single-form bad (Ok a) next single = single a
single-form bad (Err e) next single = single-only (bad e)

-- each end has an outcome, and each rule is broken or holds
abbrev pub IsEnding : Work → Type 0
IsEnding (Over ends) = (o : Outcome) × ends o
IsEnding (Wants name limit next) = (bytes : List ℕ) → IsEnding (next bytes)
IsEnding (Ruled broken holds next) = ((o : Outcome) × broken o) ⊎ (holds × IsEnding next)

pub ending-only : (o : Outcome) → IsEnding (Only o)
ending-only o = (o, refl)

pub ending-form : {A E : Type 0} (bad : E → Outcome) (r : Result A E) (next : A → Work) →
    ((a : A) → IsEnding (next a)) → IsEnding (form bad r next)
ending-form bad (Ok a) next ending = ending a
ending-form bad (Err e) next ending = ending-only (bad e)

-- the same, where it is said what the form is
pub ending-form-of : {A E : Type 0} (bad : E → Outcome) (r : Result A E) (next : A → Work) →
    ((a : A) → r ≡ Ok a → IsEnding (next a)) → IsEnding (form bad r next)
ending-form-of bad (Ok a) next ending = ending a refl
ending-form-of bad (Err e) next ending = ending-only (bad e)

longer : (held : Held) (name bytes : List ℕ) (limit : ℕ) → held name ≡ Some bytes → IsLonger (Some held) name limit →
    limit < length bytes
longer held name bytes limit is long =
    subst (λ (o : Option (List ℕ)). IsSomeAnd o (λ file. limit < length file)) is long

-- where the files report what they hold and no read fails, at most one outcome comes
pub Comes-one : (held : Held) (w : Work) → IsSingle w → (o p : Outcome) →
    Comes (Some held) (λ _. ⊥) w o → Comes (Some held) (λ _. ⊥) w p → o ≡ p
Comes-one held (Over ends) single o p is is' = single o p is is'
Comes-one held (Wants name limit next) single o p (inl fault) due = absurd fault.0
Comes-one held (Wants name limit next) single o p (inr (inl long)) (inl fault) = absurd fault.0
Comes-one held (Wants name limit next) single o p (inr (inl long)) (inr (inl long')) = long.1 ∙ sym long'.1
Comes-one held (Wants name limit next) single o p (inr (inl long)) (inr (inr read)) =
    let more = longer held name read.file limit read.whole long.0 in let within = read.within in absurd (omega arith)
Comes-one held (Wants name limit next) single o p (inr (inr read)) (inl fault) = absurd fault.0
Comes-one held (Wants name limit next) single o p (inr (inr read)) (inr (inl long)) =
    let more = longer held name read.file limit read.whole long.0 in let within = read.within in absurd (omega arith)
Comes-one held (Wants name limit next) single o p (inr (inr read)) (inr (inr read')) =
    let both = sym read'.whole ∙ read.whole in
    let same : read'.file ≡ read.file = cc in
    Comes-one held (next read.file) (single read.file) o p read.follows
    (subst (λ (bytes : List ℕ). Comes (Some held) (λ _. ⊥) (next bytes) p) same read'.follows)
Comes-one held (Ruled broken holds next) single o p (inl is) (inl is') = single.0 o p is is'
Comes-one held (Ruled broken holds next) single o p (inl is) (inr rest) = absurd (single.1 o is rest.0)
Comes-one held (Ruled broken holds next) single o p (inr rest) (inl is) = absurd (single.1 p is rest.0)
Comes-one held (Ruled broken holds next) single o p (inr rest) (inr rest') =
    Comes-one held next (single.2 rest.0) o p rest.1 rest'.1

-- what is held, with its fact
held_bytes : (P : List ℕ → Type 0) (o : Option (List ℕ)) → IsSomeAnd o P → (bytes : List ℕ) × (o ≡ Some bytes) × P bytes
held_bytes P (Some bytes) is = (bytes, refl, is)
held_bytes P None is = absurd is

longer_file : {o : Option (List ℕ)} {bytes : List ℕ} {limit : ℕ} → Some bytes ≡ o → limit < length bytes →
    IsSomeAnd o (λ file. limit < length file)
longer_file {limit = limit} is more = subst (λ (o : Option (List ℕ)). IsSomeAnd o (λ file. limit < length file)) is more

-- and one comes, where they hold each file that is wanted
pub Comes-some : (held : Held) (w : Work) → IsEnding w → AreHeld held w →
    (o : Outcome) × Comes (Some held) (λ _. ⊥) w o
Comes-some held (Over ends) ending holds = ending
Comes-some held (Ruled broken holds next) (inl is) held_all = (is.0, inl is.1)
Comes-some held (Ruled broken holds next) (inr rest) held_all =
    let end = Comes-some held next rest.1 (held_all rest.0) in (end.0, inr (rest.0, end.1))
Comes-some held (Wants name limit next) ending holds =
    let file = held_bytes (λ bytes. AreHeld held (next bytes)) (held name) holds in
    by_length file (Comes-some held (next file.0) (ending file.0) file.2) (leb_tells (length file.0) limit)
  where
    by_length : (file : (bytes : List ℕ) × (held name ≡ Some bytes) × AreHeld held (next bytes)) →
        ((o : Outcome) × Comes (Some held) (λ _. ⊥) (next file.0) o) →
        ((leb (length file.0) limit ≡ true) × (length file.0 ≤ limit)) ⊎
        ((leb (length file.0) limit ≡ false) × (limit < length file.0)) →
        (o : Outcome) × Comes (Some held) (λ _. ⊥) (Wants name limit next) o
    by_length file rest (inl within) = (
      rest.0,
      inr (inr (record {
        file = file.0;
        whole = file.1;
        within = within.1;
        follows = rest.1;
      })),
    )
    by_length file rest (inr more) =
        (too_large name, inr (inl (longer_file (sym file.1) more.1, λ i. too_large name)))

is_some : (P : List ℕ → Type 0) (o : Option (List ℕ)) → IsSomeAnd o P → IsSome o
is_some P (Some bytes) is = refl
is_some P None is = absurd is

-- over held files whose counts stand still, what comes is what comes where no read fails
pub Comes-quiet : (held : Held) (rose : List ℕ → Type 0) → ((n : List ℕ) → IsSome (held n) → rose n → ⊥) → (w : Work) →
    AreHeld held w → (o : Outcome) → Comes (Some held) rose w o → Comes (Some held) (λ _. ⊥) w o
Comes-quiet held rose still (Over ends) holds o is = is
Comes-quiet held rose still (Wants name limit next) holds o (inl fault) =
    absurd (still name (is_some (λ bytes. AreHeld held (next bytes)) (held name) holds) fault.0)
Comes-quiet held rose still (Wants name limit next) holds o (inr (inl long)) = inr (inl long)
Comes-quiet held rose still (Wants name limit next) holds o (inr (inr read)) =
    let rest : AreHeld held (next read.file) = subst
    (λ (o : Option (List ℕ)). IsSomeAnd o (λ bytes. AreHeld held (next bytes))) read.whole holds in
    inr (inr (record {
      file = read.file;
      whole = read.whole;
      within = read.within;
      follows = Comes-quiet held rose still (next read.file) rest o read.follows;
    }))
Comes-quiet held rose still (Ruled broken rules next) holds o (inl is) = inl is
Comes-quiet held rose still (Ruled broken rules next) holds o (inr rest) =
    inr (rest.0, Comes-quiet held rose still next (holds rest.0) o rest.1)

-- ---- what stops before its end, whatever follows

pub Wants-map : (told : Option Held) (rose : List ℕ → Type 0) (name : List ℕ) (limit : ℕ) (next other : List ℕ → Work)
    (o : Outcome) → ((bytes : List ℕ) → Comes told rose (next bytes) o → Comes told rose (other bytes) o) →
    Comes told rose (Wants name limit next) o → Comes told rose (Wants name limit other) o
Wants-map told rose name limit next other o f (inl fault) = inl fault
Wants-map told rose name limit next other o f (inr (inl long)) = inr (inl long)
Wants-map told rose name limit next other o f (inr (inr read)) = inr (inr (record {
  file = read.file;
  whole = read.whole;
  within = read.within;
  follows = f read.file read.follows;
}))

pub form-map : {A E : Type 0} (told : Option Held) (rose : List ℕ → Type 0) (bad : E → Outcome) (r : Result A E)
    (next other : A → Work) (o : Outcome) → ((a : A) → Comes told rose (next a) o → Comes told rose (other a) o) →
    Comes told rose (form bad r next) o → Comes told rose (form bad r other) o
form-map told rose bad (Ok a) next other o f comes = f a comes
form-map told rose bad (Err e) next other o f comes = comes

pub Ruled-map : (told : Option Held) (rose : List ℕ → Type 0) (broken : Outcome → Type 0) (holds : Type 0)
    (next other : Work) (o : Outcome) → (Comes told rose next o → Comes told rose other o) →
    Comes told rose (Ruled broken holds next) o → Comes told rose (Ruled broken holds other) o
Ruled-map told rose broken holds next other o f (inl is) = inl is
Ruled-map told rose broken holds next other o f (inr rest) = inr (rest.0, f rest.1)

-- ---- work for which no file is read

abbrev pub WantsNone : Work → Type 0
WantsNone (Over ends) = ⊤
WantsNone (Wants name limit next) = ⊥
WantsNone (Ruled broken holds next) = WantsNone next

pub none-form : {A E : Type 0} (bad : E → Outcome) (r : Result A E) (next : A → Work) →
    ((a : A) → WantsNone (next a)) → WantsNone (form bad r next)
none-form bad (Ok a) next none = none a
none-form bad (Err e) next none = tt

-- it has the same outcomes whatever the files are
pub Comes-anywhere : (told other : Option Held) (rose more : List ℕ → Type 0) (w : Work) (o : Outcome) → WantsNone w →
    Comes told rose w o → Comes other more w o
Comes-anywhere told other rose more (Over ends) o none is = is
Comes-anywhere told other rose more (Wants name limit next) o none is = absurd none
Comes-anywhere told other rose more (Ruled broken holds next) o none (inl is) = inl is
Comes-anywhere told other rose more (Ruled broken holds next) o none (inr rest) =
    inr (rest.0, Comes-anywhere told other rose more next o none rest.1)
