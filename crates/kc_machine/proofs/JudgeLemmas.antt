-- The judgement of a turn is that of the breaks. Each of B2, B3 and B4 is a fact that the code tests of the front of
-- the accesses; the least that holds is the end. A turn that executes no instruction has no other breaks.
use Rattle.std.proofs.Common.{◌≡◌, ℕ, ◌<◌, ◌↔◌, Bool, true, false, not, ltb, IsTrue, List, [], ◌∷◌, ◌++◌, length, Option, Some, None, Result, Ok, Err, ◌⊎◌, inl, inr, arith, refl, ap, sym, ◌∙◌, subst}
use Rattle.std.specs.List.{Contains, Any}
use Rattle.std.proofs.lemmas.Bool.{false≢true}
use Rattle.std.proofs.lemmas.List.Folds.{length-prefix_len}
use Rattle.std.proofs.lemmas.List.Elements.{Contains-push, Contains-push_cases, Contains-append_left}
use Rattle.kc_plain.specs.declared.memory.NoMemory.{NoMemory}
use Rattle.kc_insn.specs.declared.insn.Insn.{Insn}
use Rattle.kc_regions.specs.declared.touch.Touch.TheVariants.{Write as ForWrite}
use Rattle.kc_regions.specs.Description.{Description}
use Rattle.kc_regions.specs.Permission.{permits}
use Rattle.kc_cpu.specs.declared.cpu.Cpu.{Cpu}
use Rattle.kc_exec.specs.declared.access.Access.{Access}
use Rattle.kc_exec.specs.declared.state.Activation.{Activation}
use Rattle.kc_exec.specs.declared.state.State.{State}
use Rattle.kc_exec.specs.declared.executed.ExecEnd.{ExecEnd}
use Rattle.kc_exec.specs.Execution.{guarded, stops}
use Rattle.kc_exec.specs.Live.{IsLive, IsLiveFor}
use Rattle.kc_exec.specs.Operand.{plus}
use Rattle.kc_events.specs.declared.turn.Turn.{Turn}
use Rattle.kc_events.specs.declared.turn.Turn.TheVariants.{Go, Irq, Nmi, Debug, Check, Fault, Trap, Syscall, User as UserTurn, Body, Leave}
use Rattle.kc_events.specs.Attempt.{Attempt}
use Rattle.kc_events.specs.Breaks.{judged, IsOf, UsesOtherGs, TouchesForbidden, WritesLive, IsWritten, EndsWith, BreaksWith}
use Rattle.kc_machine.specs.declared.end.StepEnd.{StepEnd}
use Rattle.kc_machine.specs.declared.end.StepEnd.TheVariants.{NotAllowed, Done, Stopped, Broke}
use Rattle.kc_machine.specs.Ends.{IsLeast, Ends}
use Rattle.kc_machine.specs.JudgeSteps.{HasLiveByte, HasLiveWrite, IsTrialOf, BreaksByAccess, IsJudged}
use Rattle.kc_machine.proofs.ListLemmas.{any-of, of-any, any-front, besides-to, besides-from}

-- ---- the least of three facts

abbrev Three : Type 0 → Type 0 → Type 0 → ℕ → Type 0
Three U F W b = ((b ≡ 2) × U) ⊎ (((b ≡ 3) × F) ⊎ ((b ≡ 4) × W))

none-below-2 : (U F W : Type 0) (k : ℕ) → k < 2 → Three U F W k → ⊥
none-below-2 U F W k lt (inl h) = omega (arith, lt, h.0)
none-below-2 U F W k lt (inr (inl h)) = omega (arith, lt, h.0)
none-below-2 U F W k lt (inr (inr h)) = omega (arith, lt, h.0)

none-below-3 : (U F W : Type 0) → ¬ U → (k : ℕ) → k < 3 → Three U F W k → ⊥
none-below-3 U F W u k lt (inl h) = u h.1
none-below-3 U F W u k lt (inr (inl h)) = omega (arith, lt, h.0)
none-below-3 U F W u k lt (inr (inr h)) = omega (arith, lt, h.0)

none-below-4 : (U F W : Type 0) → ¬ U → ¬ F → (k : ℕ) → k < 4 → Three U F W k → ⊥
none-below-4 U F W u f k lt (inl h) = u h.1
none-below-4 U F W u f k lt (inr (inl h)) = f h.1
none-below-4 U F W u f k lt (inr (inr h)) = omega (arith, lt, h.0)

none-at-all : (U F W : Type 0) → ¬ U → ¬ F → ¬ W → (k : ℕ) → Three U F W k → ⊥
none-at-all U F W u f w k (inl h) = u h.1
none-at-all U F W u f w k (inr (inl h)) = f h.1
none-at-all U F W u f w k (inr (inr h)) = w h.1

pub least-2 : (cfg : Description) (S : State) (t : Attempt) → UsesOtherGs cfg S t → IsLeast (BreaksByAccess cfg S t) 2
least-2 cfg S t u = (inl (refl, u), none-below-2 (UsesOtherGs cfg S t) (TouchesForbidden cfg S t) (WritesLive cfg t))

pub least-3 : (cfg : Description) (S : State) (t : Attempt) → ¬ UsesOtherGs cfg S t → TouchesForbidden cfg S t
    → IsLeast (BreaksByAccess cfg S t) 3
least-3 cfg S t u f =
    (inr (inl (refl, f)), none-below-3 (UsesOtherGs cfg S t) (TouchesForbidden cfg S t) (WritesLive cfg t) u)

pub least-4 : (cfg : Description) (S : State) (t : Attempt) → ¬ UsesOtherGs cfg S t → ¬ TouchesForbidden cfg S t
    → WritesLive cfg t
    → IsLeast (BreaksByAccess cfg S t) 4
least-4 cfg S t u f w =
    (inr (inr (refl, w)), none-below-4 (UsesOtherGs cfg S t) (TouchesForbidden cfg S t) (WritesLive cfg t) u f)

pub no-break : (cfg : Description) (S : State) (t : Attempt) → ¬ UsesOtherGs cfg S t → ¬ TouchesForbidden cfg S t
    → ¬ WritesLive cfg t
    → (b : ℕ) → ¬ BreaksByAccess cfg S t b
no-break cfg S t u f w = none-at-all (UsesOtherGs cfg S t) (TouchesForbidden cfg S t) (WritesLive cfg t) u f w

-- ---- what the code tests of the front of the accesses

-- the machine stops where the front is shorter than the list
pub stops-where : (cfg : Description) (accesses : List Access) → stops cfg accesses ≡ ltb (length (judged cfg accesses))
    (length accesses)
stops-where cfg accesses =
    any-front (λ a. guarded cfg.regions a.at a.size) accesses
    ∙ ap (λ (n : ℕ). ltb n (length accesses))
    (sym (length-prefix_len (λ a. not (guarded cfg.regions a.at a.size)) accesses))

-- the facts of a trial are those of its attempt
abbrev pub Gs : Description → Cpu → List Access → Type 0
Gs cfg cpu front = (a : Access) × Contains front a × (a.gs ≡ true) × (cpu.gs ≡ cfg.cpu.kernel_gs → ⊥)

abbrev pub Absent : Description → Cpu → Access → Type 0
Absent cfg cpu a = (x : ℕ) × IsOf a x × (permits cfg cpu.cr3 a.touch x ≡ false)

pub gs-to : (cfg : Description) (S : State) (t : Attempt) (cpu : Cpu) (touched : List Access) → S.cpu ≡ cpu
    → t.accesses ≡ touched
    → Gs cfg cpu (judged cfg touched) → UsesOtherGs cfg S t
gs-to cfg S t cpu touched same listed h = (
  h.0,
  subst (λ (xs : List Access). Contains (judged cfg xs) h.0) (sym listed) h.1,
  h.2,
  subst (λ (c : Cpu). c.gs ≡ cfg.cpu.kernel_gs → ⊥) (sym same) h.3,
)

pub gs-from : (cfg : Description) (S : State) (t : Attempt) (cpu : Cpu) (touched : List Access) → S.cpu ≡ cpu
    → t.accesses ≡ touched
    → UsesOtherGs cfg S t → Gs cfg cpu (judged cfg touched)
gs-from cfg S t cpu touched same listed h = (
  h.0,
  subst (λ (xs : List Access). Contains (judged cfg xs) h.0) listed h.1,
  h.2,
  subst (λ (c : Cpu). c.gs ≡ cfg.cpu.kernel_gs → ⊥) same h.3,
)

pub absent-to : (cfg : Description) (S : State) (t : Attempt) (cpu : Cpu) (touched : List Access) → S.cpu ≡ cpu
    → t.accesses ≡ touched
    → Any (Absent cfg cpu) (judged cfg touched) → TouchesForbidden cfg S t
absent-to cfg S t cpu touched same listed any =
    let h = of-any (Absent cfg cpu) (judged cfg touched) any in (
      h.0,
      h.2.0,
      subst (λ (xs : List Access). Contains (judged cfg xs) h.0) (sym listed) h.1,
      h.2.1,
      subst (λ (c : Cpu). permits cfg c.cr3 h.0.touch h.2.0 ≡ false) (sym same) h.2.2,
    )

pub absent-from : (cfg : Description) (S : State) (t : Attempt) (cpu : Cpu) (touched : List Access) → S.cpu ≡ cpu
    → t.accesses ≡ touched
    → TouchesForbidden cfg S t → Any (Absent cfg cpu) (judged cfg touched)
absent-from cfg S t cpu touched same listed h =
    any-of (Absent cfg cpu) (judged cfg touched) h.0 (subst (λ (xs : List Access). Contains (judged cfg xs) h.0) listed
    h.2)
    (h.1, h.3, subst (λ (c : Cpu). permits cfg c.cr3 h.0.touch h.1 ≡ false) same h.4)

-- a live byte of an access that is a write
abbrev LiveOf : Description → List Activation → Access → Type 0
LiveOf cfg live a = (a.touch ≡ ForWrite) × HasLiveByte cfg live a.at a.size

pub live-to : (cfg : Description) (S : State) (t : Attempt) (cpu : Cpu) (live : List Activation) (touched : List Access)
    (writes words : List (ℕ × ℕ))
    → IsTrialOf cfg S t cpu live touched writes words
    → HasLiveWrite cfg live (judged cfg touched) (stops cfg touched) writes words → WritesLive cfg t
live-to cfg S t cpu live touched writes words is (inl any) =
    let h = of-any (LiveOf cfg live) (judged cfg touched) any in
    let x = plus h.0.at h.2.1.0 in (
      x,
      inl (
        h.0,
        subst (λ (xs : List Access). Contains (judged cfg xs) h.0) (sym is.accesses) h.1,
        h.2.0,
        (h.2.1.0, h.2.1.1, refl),
      ),
      is.no_more x h.2.1.2,
    )
live-to cfg S t cpu live touched writes words is (inr h) =
    let byte = besides-from (IsLive cfg live) writes words is.placed h.1 in (
      byte.0,
      inr (
        subst (λ (xs : List Access). stops cfg xs ≡ false) (sym is.accesses) h.0,
        subst (λ (xs : List ℕ). Contains xs byte.0) (sym is.bytes) byte.1,
      ),
      is.no_more byte.0 byte.2,
    )

written-live : (cfg : Description) (S : State) (t : Attempt) (cpu : Cpu) (live : List Activation)
    (touched : List Access) (writes words : List (ℕ × ℕ)) (x : ℕ)
    → IsTrialOf cfg S t cpu live touched writes words → IsWritten cfg t x → IsLive cfg live x
    → HasLiveWrite cfg live (judged cfg touched) (stops cfg touched) writes words
written-live cfg S t cpu live touched writes words x is (inl h) on =
    inl (any-of (LiveOf cfg live) (judged cfg touched) h.0
    (subst (λ (xs : List Access). Contains (judged cfg xs) h.0) is.accesses h.1)
    (h.2, (h.3.0, h.3.1, subst (λ (y : ℕ). IsLive cfg live y) h.3.2 on)))
written-live cfg S t cpu live touched writes words x is (inr h) on =
    inr (
      subst (λ (xs : List Access). stops cfg xs ≡ false) is.accesses h.0,
      besides-to (IsLive cfg live) writes words x is.placed (subst (λ (xs : List ℕ). Contains xs x) is.bytes h.1) on,
    )

pub live-from : (cfg : Description) (S : State) (t : Attempt) (cpu : Cpu) (live : List Activation)
    (touched : List Access) (writes words : List (ℕ × ℕ))
    → IsTrialOf cfg S t cpu live touched writes words → WritesLive cfg t
    → HasLiveWrite cfg live (judged cfg touched) (stops cfg touched) writes words
live-from cfg S t cpu live touched writes words is h =
    written-live cfg S t cpu live touched writes words h.0 is h.1 (is.more h.0 h.2)

-- ---- turns that execute no instruction

-- an end is an instruction's, so the turn is Go
ends-go : (cfg : Description) (found : Option (Insn × ℕ)) (S : State) (turn : Turn) (P : Insn → ExecEnd → Type 0)
    → EndsWith cfg found S turn P → turn ≡ Go
ends-go cfg None S turn P h = absurd h
ends-go cfg (Some (insn, n)) S Go P h = refl
ends-go cfg (Some (insn, n)) S (Irq v) P h = absurd h
ends-go cfg (Some (insn, n)) S Nmi P h = absurd h
ends-go cfg (Some (insn, n)) S Debug P h = absurd h
ends-go cfg (Some (insn, n)) S Check P h = absurd h
ends-go cfg (Some (insn, n)) S (Fault a code) P h = absurd h
ends-go cfg (Some (insn, n)) S (Trap v code) P h = absurd h
ends-go cfg (Some (insn, n)) S Syscall P h = absurd h
ends-go cfg (Some (insn, n)) S (UserTurn u) P h = absurd h
ends-go cfg (Some (insn, n)) S (Body b) P h = absurd h
ends-go cfg (Some (insn, n)) S (Leave l) P h = absurd h

pub with-access : (cfg : Description) (found : Option (Insn × ℕ)) (S : State) (turn : Turn) (t : Attempt) (b : ℕ)
    → BreaksByAccess cfg S t b → BreaksWith cfg found S turn t b
with-access cfg found S turn t b (inl h) = inr (inl h)
with-access cfg found S turn t b (inr (inl h)) = inr (inr (inl h))
with-access cfg found S turn t b (inr (inr h)) = inr (inr (inr (inl h)))

pub by-access : (cfg : Description) (found : Option (Insn × ℕ)) (S : State) (turn : Turn) (t : Attempt) (b : ℕ)
    → (turn ≡ Go → ⊥)
    → BreaksWith cfg found S turn t b → BreaksByAccess cfg S t b
by-access cfg found S turn t b other (inl h) = absurd (other h.1)
by-access cfg found S turn t b other (inr (inl h)) = inl h
by-access cfg found S turn t b other (inr (inr (inl h))) = inr (inl h)
by-access cfg found S turn t b other (inr (inr (inr (inl h)))) = inr (inr h)
by-access cfg found S turn t b other (inr (inr (inr (inr (free, inl h))))) =
    absurd (other (ends-go cfg found S turn _ h.1))
by-access cfg found S turn t b other (inr (inr (inr (inr (free, inr (inl h)))))) =
    absurd (other (ends-go cfg found S turn _ h))
by-access cfg found S turn t b other (inr (inr (inr (inr (free, inr (inr h)))))) =
    absurd (other (ends-go cfg found S turn _ h.1))

-- an end under one set of breaks is one under another with the same numbers
pub same-ends : (cfg : Description) (S : State) (t : Attempt) (P Q : ℕ → Type 0) (T : State)
    (r : Result StepEnd NoMemory)
    → ((b : ℕ) → P b → Q b) → ((b : ℕ) → Q b → P b) → Ends cfg S t P T r → Ends cfg S t Q T r
same-ends cfg S t P Q T (Ok NotAllowed) to from h = h
same-ends cfg S t P Q T (Ok Done) to from h = ((h.0.0, λ b q. h.0.1 b (from b q)), h.1)
same-ends cfg S t P Q T (Ok Stopped) to from h = ((h.0.0, λ b q. h.0.1 b (from b q)), h.1)
same-ends cfg S t P Q T (Ok (Broke n)) to from h = ((to n h.0.0, λ k lt q. h.0.1 k lt (from k q)), h.1)
same-ends cfg S t P Q T (Err e) to from h = h

-- the end of a turn other than Go
pub other-ends : (cfg : Description) (found : Option (Insn × ℕ)) (S : State) (turn : Turn) (t : Attempt) (T : State)
    (r : Result StepEnd NoMemory)
    → (turn ≡ Go → ⊥) → Ends cfg S t (BreaksByAccess cfg S t) T r → Ends cfg S t (BreaksWith cfg found S turn t) T r
other-ends cfg found S turn t T r other h =
    same-ends cfg S t (BreaksByAccess cfg S t) (BreaksWith cfg found S turn t) T r (with-access cfg found S turn t)
    (λ b q. by-access cfg found S turn t b other q) h

-- ---- the base of a new activation

-- which bytes are live doesn't go by bases
live-same : (cfg : Description) (a : Activation) (base x : ℕ) → IsLiveFor cfg a x
    → IsLiveFor cfg (record a { base = base }) x
live-same cfg a base x h = record { stack = h.stack; suspended = h.suspended; within = h.within; above = h.above }

any-base : (cfg : Description) (chain : List Activation) (a : Activation) (base : ℕ) (x : ℕ)
    → IsLive cfg (chain ++ a ∷ []) x → IsLive cfg (chain ++ record a { base = base } ∷ []) x
any-base cfg chain a base x h =
    let new = record a { base = base } in
    let found = of-any (λ (b : Activation). IsLiveFor cfg b x) (chain ++ a ∷ []) h in
    elim (Contains-push_cases chain a found.0 found.1) [
      | inl old ↦ any-of (λ (b : Activation). IsLiveFor cfg b x) (chain ++ new ∷ []) found.0
          (Contains-append_left chain (new ∷ []) found.0 old) found.2
      | inr is ↦
          any-of (λ (b : Activation). IsLiveFor cfg b x) (chain ++ new ∷ []) new (Contains-push chain new)
          (live-same cfg a base x (subst (λ (b : Activation). IsLiveFor cfg b x) (sym is) found.2))
    ]

-- the bytes that are live with one base of the newest activation are live with every other
pub live-any_base : (cfg : Description) (chain : List Activation) (a : Activation) (b c x : ℕ)
    → IsLive cfg (chain ++ record a { base = b } ∷ []) x → IsLive cfg (chain ++ record a { base = c } ∷ []) x
live-any_base cfg chain a b c x h = any-base cfg chain (record a { base = b }) c x h

-- ---- the judgement

-- what the code has found of a trial when it has come so far
pub record Found (cfg : Description) (S : State) (t : Attempt) (before : Cpu) (live : List Activation)
    (touched : List Access)
    (writes words : List (ℕ × ℕ)) (front : List Access) (gs absent written stopped : Bool) : Type 0 where
  pub is : IsTrialOf cfg S t before live touched writes words
  pub front_is : front ≡ judged cfg touched
  pub stopped_is : stopped ≡ ltb (length front) (length touched)
  pub gs_is : IsTrue gs ↔ Gs cfg before front
  pub absent_is : IsTrue absent ↔ Any (Absent cfg before) front
  pub written_is : IsTrue written ↔ HasLiveWrite cfg live front stopped writes words
  pub no_gs : gs ≡ false
  pub none_absent : absent ≡ false

-- no GS access uses another base, and a byte is absent or forbidden
pub judged-absent : (cfg : Description) (S : State) (t : Attempt) (before : Cpu) (live : List Activation)
    (touched : List Access) (writes words : List (ℕ × ℕ)) (front : List Access) (gs absent : Bool)
    → IsTrialOf cfg S t before live touched writes words → front ≡ judged cfg touched → (IsTrue gs ↔ Gs cfg before front)
    → (IsTrue absent ↔ Any (Absent cfg before) front) → gs ≡ false → absent ≡ true → IsJudged cfg S t (Some (Broke 3))
judged-absent cfg S t before live touched writes words front gs absent is front_is gs_is absent_is no_gs some =
    least-3 cfg S t (λ h. false≢true (sym no_gs ∙ gs_is.1 (subst (λ (xs : List Access). Gs cfg before xs) (sym front_is)
    (gs-from cfg S t before touched is.cpu is.accesses h))))
    (absent-to cfg S t before touched is.cpu is.accesses
    (subst (λ (xs : List Access). Any (Absent cfg before) xs) front_is (absent_is.0 some)))

stopped-where : (cfg : Description) (touched front : List Access) (stopped : Bool) → front ≡ judged cfg touched
    → stopped ≡ ltb (length front) (length touched)
    → stopped ≡ stops cfg touched
stopped-where cfg touched front stopped front_is stopped_is =
    stopped_is ∙ ap (λ (xs : List Access). ltb (length xs) (length touched)) front_is ∙ sym (stops-where cfg touched)

module _ (cfg : Description) (S : State) (t : Attempt) (before : Cpu) (live : List Activation) (touched : List Access)
    (writes words : List (ℕ × ℕ)) (front : List Access) (gs absent written stopped : Bool)
    (f : Found cfg S t before live touched writes words front gs absent written stopped) where
  not-gs : ¬ UsesOtherGs cfg S t
  not-gs h =
      let on = gs-from cfg S t before touched f.is.cpu f.is.accesses h in
      false≢true (sym f.no_gs ∙ f.gs_is.1 (subst (λ (xs : List Access). Gs cfg before xs) (sym f.front_is) on))

  not-absent : ¬ TouchesForbidden cfg S t
  not-absent h =
      let on = absent-from cfg S t before touched f.is.cpu f.is.accesses h in
      false≢true (sym f.none_absent ∙ f.absent_is.1 (subst (λ (xs : List Access). Any (Absent cfg before) xs)
      (sym f.front_is) on))

  stopped-is : stopped ≡ stops cfg touched
  stopped-is = stopped-where cfg touched front stopped f.front_is f.stopped_is

  stops-is : stops cfg t.accesses ≡ stopped
  stops-is = ap (λ (xs : List Access). stops cfg xs) f.is.accesses ∙ sym stopped-is

  live-is : HasLiveWrite cfg live front stopped writes words ≡ HasLiveWrite cfg live (judged cfg touched)
      (stops cfg touched) writes words
  live-is = λ i. HasLiveWrite cfg live (f.front_is i) (stopped-is i) writes words

  not-live : written ≡ false → ¬ WritesLive cfg t
  not-live none h =
      let on = live-from cfg S t before live touched writes words f.is h in
      false≢true (sym none ∙ f.written_is.1 (subst (λ (X : Type 0). X) (sym live-is) on))

  pub judged-live : written ≡ true → IsJudged cfg S t (Some (Broke 4))
  judged-live some =
      least-4 cfg S t not-gs not-absent
      (live-to cfg S t before live touched writes words f.is (subst (λ (X : Type 0). X) live-is (f.written_is.0 some)))

  pub judged-stopped : written ≡ false → stopped ≡ true → IsJudged cfg S t (Some Stopped)
  judged-stopped none cut = (stops-is ∙ cut, no-break cfg S t not-gs not-absent (not-live none))

  pub judged-free : written ≡ false → stopped ≡ false → IsJudged cfg S t None
  judged-free none free = (stops-is ∙ free, no-break cfg S t not-gs not-absent (not-live none))
