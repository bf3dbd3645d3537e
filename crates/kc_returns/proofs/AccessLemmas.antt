-- The accesses of a return break nothing: the fetch, and of an IRETQ the five words at RSP, which C7 permits at their
-- abstract places, and the descriptors of the selectors that are due, which C7 permits by their numbers.
use Rattle.std.proofs.Common.{◌≡◌, ℕ, ◌+◌, ◌-◌, ◌%◌, ◌^◌, ◌<◌, ◌&&◌, ◌||◌, not, if◌then◌else◌, nat_eq, inl, inr, Bool, true, false, List, [], ◌∷◌, ◌++◌, All, Option, Some, None, refl, sym, ap, ◌∙◌, subst, arith}
use Rattle.std.specs.List.{list_all}
use Rattle.std.proofs.lemmas.Bool.{and_parts, and_from, or_cases, not-true, eqb-true, true≢false, false≢true}
use Rattle.std.proofs.lemmas.List.Elements.{All-nil, All-cons, All-head, All-append}
use Rattle.kc_bits.specs.Bits.{word}
use Rattle.kc_insn.specs.declared.insn.Insn.{Insn}
use Rattle.kc_insn.specs.declared.insn.Insn.TheVariants.{Iretq, Sysretq}
use Rattle.kc_regions.specs.Description.{Description}
use Rattle.kc_regions.specs.Permission.{user_cs64, user_ss, is_cs32}
use Rattle.kc_regions.specs.Valid.{IsValid}
use Rattle.kc_regions.specs.declared.touch.Touch.TheVariants.{Fetch, Read}
use Rattle.kc_rules.proofs.AnswerLemmas.{some_is}
use Rattle.kc_space.specs.Spaces.{is_same_who, is_same_map}
use Rattle.kc_space.specs.declared.map.MapState.TheVariants as map
use Rattle.kc_space.specs.declared.who.Who.TheVariants as who
use Rattle.kc_cpu.specs.declared.cpu.Cpu.{Cpu}
use Rattle.kc_exec.specs.Breaks.{effect}
use Rattle.kc_exec.specs.Change.{stack_word, stack_read}
use Rattle.kc_exec.specs.Effect.{row, is_null, descriptor_read}
use Rattle.kc_exec.specs.Execution.{fetch_of, accesses_of}
use Rattle.kc_exec.specs.Moment.{Moment}
use Rattle.kc_exec.specs.declared.access.Access.{Access}
use Rattle.kc_exec.specs.declared.state.State.{State}
use Rattle.kc_state.specs.AbsEffect.{abs_row}
use Rattle.kc_state.specs.Access.{may_bytes}
use Rattle.kc_state.specs.Conditions as conditions
use Rattle.kc_state.specs.Conditions.{AbsAccess, is_exact, is_write, clear_at, may_at, is_permitted}
use Rattle.kc_state.specs.Conditions.{may_read_descriptor, may_read_cs32, may_read_descriptors}
use Rattle.kc_state.specs.Operand.{AbsMoment}
use Rattle.kc_state.specs.State.{IsState}
use Rattle.kc_state.specs.declared.key.Key.{Key}
use Rattle.kc_state.specs.declared.location.Location.TheVariants.{Number}
use Rattle.kc_state.specs.declared.state.AbsState.{AbsState}
use Rattle.kc_describes.specs.Chain.{newest_of}
use Rattle.kc_describes.specs.Describes.{Describes}
use Rattle.kc_describes.proofs.AccessLemmas.{AccessAgrees, Agree, iret_agrees}
use Rattle.kc_describes.proofs.LocationLemmas.{IsAt}
use Rattle.kc_describes.proofs.PermissionLemmas.{IsKnownCr3, known_cr3}
use Rattle.kc_describes.proofs.QuietLemmas.{IsQuiet, quiet_all}
use Rattle.kc_returns.specs.Returns.{HasSelectors, due_of}
use Rattle.kc_returns.proofs.FetchLemmas.{fetch_quiet}
use Rattle.kc_returns.proofs.LoadLemmas.{selectors_are_due}
use Rattle.kc_returns.proofs.WordLemmas.{m, c, seen}

-- ---- the descriptors that C7 permits

-- the descriptors of the selectors that are due
module _ (before : AbsMoment) (due : Cpu) (has : HasSelectors before.d before.key due)
    (h : may_read_descriptors before ≡ true) where
  abbrev May : ℕ → Type 0
  May selector = may_read_descriptor before selector ≡ true

  abbrev kernels : Bool
  kernels =
      may_read_descriptor before before.d.cpu.star_kernel
      && may_read_descriptor before (before.d.cpu.star_kernel + 8)

  abbrev users : Bool
  users =
      may_read_cs32 before before.d.cpu.user_cs32
      && (may_read_descriptor before (user_cs64 before.d.cpu) && may_read_descriptor before (user_ss before.d.cpu))

  by_cs32 : (o : Option ℕ) (cs : ℕ) → may_read_cs32 before o ≡ true → is_cs32 o cs ≡ true → May cs
  by_cs32 (Some x) cs may e = subst May (sym (eqb-true cs x e)) may
  by_cs32 None cs may e = absurd (false≢true e)

  cs_by : (kernel : Bool) → before.key.kernel ≡ kernel → (if kernel then kernels else users) ≡ true → May due.cs
  cs_by true side all =
      subst May (sym (has.kernel side).0) (and_parts (may_read_descriptor before before.d.cpu.star_kernel) _ all).0
  cs_by false side all =
      let p = and_parts (may_read_cs32 before before.d.cpu.user_cs32) _ all in
      let q = and_parts (may_read_descriptor before (user_cs64 before.d.cpu)) _ p.1 in
      let code = or_cases (nat_eq due.cs (user_cs64 before.d.cpu)) (is_cs32 before.d.cpu.user_cs32 due.cs)
      (has.user side).0 in
      elim code [
        | inl is ↦ subst May (sym (eqb-true due.cs (user_cs64 before.d.cpu) is)) q.0
        | inr is ↦ by_cs32 before.d.cpu.user_cs32 due.cs p.0 is
      ]

  ss_by : (kernel : Bool) → before.key.kernel ≡ kernel → (if kernel then kernels else users) ≡ true
      → is_null due.ss ≡ false → May due.ss
  ss_by true side all named = elim (has.kernel side).1 [
    | inl zero ↦ absurd (true≢false (sym (ap is_null zero) ∙ named))
    | inr is ↦ subst May (sym is) (and_parts (may_read_descriptor before before.d.cpu.star_kernel) _ all).1
  ]
  ss_by false side all named =
      let p = and_parts (may_read_cs32 before before.d.cpu.user_cs32) _ all in
      let q = and_parts (may_read_descriptor before (user_cs64 before.d.cpu)) _ p.1 in
      subst May (sym (has.user side).1) q.1

  pub may_read_cs : May due.cs
  may_read_cs = cs_by before.key.kernel refl h

  -- of an SS that isn't null
  pub may_read_ss : is_null due.ss ≡ false → May due.ss
  may_read_ss named = ss_by before.key.kernel refl h named

-- ---- what a return accesses

module _ (cfg : Description) (valid : IsValid cfg) (key : Key) (at : ℕ) (found : Option (Insn × ℕ)) (s : AbsState)
    (is : IsState s) (S : State) (D : Describes cfg key (record { at = at; inside = false }) found s S) (next : ℕ)
    (next_fits : next < 2 ^ 64) where
  abbrev before : AbsMoment
  before = m cfg valid key at found s is S D next next_fits

  abbrev there : Moment
  there = c cfg valid key at found s is S D next next_fits

  abbrev base : ℕ
  base = (newest_of S.chain).base

  abbrev due : Cpu
  due = due_of S.chain

  abbrev pub Quiet : Access → Type 0
  Quiet access = IsQuiet cfg S.cpu.cr3 S.cpu.gs S.chain access

  module _ (exact : is_exact before false ≡ true) where
    known : IsKnownCr3 cfg S.cpu.cr3
    known =
        let p = and_parts (not (is_same_who s.gs.active who.Any) && (not (is_same_who s.gs.inactive who.Any)
        && not (is_same_map s.map map.Any))) _ exact in
        let q = and_parts (not (is_same_who s.gs.active who.Any)) _ p.0 in
        let r = and_parts (not (is_same_who s.gs.inactive who.Any)) (not (is_same_map s.map map.Any)) q.1 in
        known_cr3 cfg s.map S.cpu.cr3 (not-true (is_same_map s.map map.Any) r.1) D.spaces.map

    reads_quiet : (ls : List AbsAccess) (ds : List Access) → Agree cfg key base ls ds
        → list_all (λ a. may_at before a.at a.size a.touch) ls ≡ true
        → list_all (λ a. not (is_write a.touch) || clear_at before s.floors a.at a.size) ls ≡ true
        → list_all (λ a. not a.gs) ls ≡ true → All Quiet ds
    reads_quiet ls ds agree permitted cleared plain =
        quiet_all cfg valid key base S.cpu.cr3 S.cpu.gs s.floors S.chain D.chain.fits.base D.floors before refl refl
        D.spaces.map known ls ds agree permitted cleared (inr plain)

    -- ---- the fetch

    module _ (len : ℕ) (at_fits : at < 2 ^ 64) (text : may_bytes cfg s.map Fetch at len ≡ true) where
      fetched : Quiet (fetch_of S.cpu len)
      fetched =
          fetch_quiet cfg valid s.map at len at_fits text key S.cpu.cr3 D.spaces.map known S.cpu.gs S.chain S.cpu
          D.point.1

      pub sysret_quiet : All Quiet (accesses_of S.cpu len (effect there Sysretq))
      unfolding effect row
      sysret_quiet = All-cons Quiet (fetch_of S.cpu len) [] fetched (All-nil Quiet)

      -- ---- the words at RSP

      abbrev words : List Access
      words =
          stack_read there 0 ∷ stack_read there 1 ∷ stack_read there 2 ∷ stack_read there 3 ∷ stack_read there 4 ∷ []

      abbrev of_iret : List AbsAccess
      of_iret = conditions.accesses_of before Iretq (abs_row before Iretq).store

      words_quiet : list_all (λ a. may_at before a.at a.size a.touch) of_iret ≡ true → All Quiet words
      unfolding abs_row
      words_quiet permitted =
          reads_quiet of_iret words
          (iret_agrees cfg valid key S.chain D.chain D.typed.chain before.cpu s.slots S.cpu S.latch S.mem.bytes next
          (seen cfg valid key at found s is S D next next_fits)) permitted refl refl

      -- ---- descriptors

      module _ (selector : ℕ) where
        abbrev address : ℕ
        address = word (cfg.cpu.gdt + (selector - selector % 8))

        abbrev descriptor : AbsAccess
        descriptor = record { at = Some (Number address); size = 8; touch = Read; gs = false }

        agrees : AccessAgrees cfg key base descriptor (descriptor_read there selector)
        agrees = record {
          size = refl;
          touch = refl;
          no_fetch = λ e. absurd cc;
          gs = refl;
          at = λ p e. subst (IsAt cfg key base address) (some_is (Number address) p e) (omega arith, refl);
        }

        descriptor_quiet : may_read_descriptor before selector ≡ true → Quiet (descriptor_read there selector)
        descriptor_quiet may =
            All-head Quiet (descriptor_read there selector) []
            (reads_quiet (descriptor ∷ []) (descriptor_read there selector ∷ []) (agrees, tt)
            (and_from (may_read_descriptor before selector) true may refl) refl refl)

        -- of a selector that may be null
        named_quiet : (null : Bool) → is_null selector ≡ null
            → (is_null selector ≡ false → may_read_descriptor before selector ≡ true)
            → All Quiet (if null then [] else descriptor_read there selector ∷ [])
        named_quiet true e may = All-nil Quiet
        named_quiet false e may =
            All-cons Quiet (descriptor_read there selector) [] (descriptor_quiet (may e)) (All-nil Quiet)

      -- the selectors that are loaded are those that are due
      module _ (cs : stack_word there 1 % 2 ^ 16 ≡ due.cs) (ss : stack_word there 4 % 2 ^ 16 ≡ due.ss) where
        abbrev of_ss : List Access
        of_ss =
            if is_null (stack_word there 4 % 2 ^ 16) then []
            else descriptor_read there (stack_word there 4 % 2 ^ 16) ∷ []

        abbrev descriptors : List Access
        descriptors = descriptor_read there (stack_word there 1 % 2 ^ 16) ∷ (of_ss ++ [])

        descriptors_quiet : may_read_descriptors before ≡ true → All Quiet descriptors
        descriptors_quiet may =
            let has = selectors_are_due cfg key S.chain D.chain in
            let code = descriptor_quiet (stack_word there 1 % 2 ^ 16)
            (subst (λ n. may_read_descriptor before n ≡ true) (sym cs) (may_read_cs before due has may)) in
            let stack = named_quiet (stack_word there 4 % 2 ^ 16) (is_null (stack_word there 4 % 2 ^ 16)) refl
            (subst (λ n. is_null n ≡ false → may_read_descriptor before n ≡ true) (sym ss)
            (may_read_ss before due has may)) in
            All-cons Quiet (descriptor_read there (stack_word there 1 % 2 ^ 16)) (of_ss ++ []) code
            (All-append Quiet of_ss [] stack (All-nil Quiet))

        -- C7 of an IRETQ
        pub iret_quiet : is_permitted before Iretq of_iret ≡ true
            → All Quiet (accesses_of S.cpu len (effect there Iretq))
        unfolding effect row
        iret_quiet permitted =
            let p = and_parts (list_all (λ a. may_at before a.at a.size a.touch) of_iret)
            (may_read_descriptors before) permitted in
            All-cons Quiet (fetch_of S.cpu len) (words ++ descriptors) fetched
            (All-append Quiet words descriptors (words_quiet p.0) (descriptors_quiet p.1))
