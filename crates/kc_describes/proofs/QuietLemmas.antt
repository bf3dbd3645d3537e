-- Accesses that break nothing: each byte is permitted or lies in a guard, no byte that is written is live, and the
-- prefix 65 adds the kernel's GS base. An access that agrees with an abstract one is such, where that one is permitted
-- and clear. A turn whose accesses are such breaks none of B2, B3 and B4, since the accesses that are judged have no
-- byte in a guard.
use Rattle.std.proofs.Common.{◌≡◌, ℕ, zero, suc, ◌+◌, ◌^◌, ◌<◌, ◌⊎◌, ◌||◌, not, inl, inr, Bool, true, false, cond, List, [], ◌∷◌, All, Contains, take, Option, Some, None, refl, sym, ap, ◌∙◌, subst, arith}
use Rattle.std.specs.List.{list_all, prefix_len}
use Rattle.std.proofs.lemmas.Bool.{cases_eq, and_parts, or_parts, or_cases, not-true, false≢true}
use Rattle.std.proofs.lemmas.List.Elements.{All-nil, All-cons, All-head, All-tail, All-contains}
use Rattle.kc_regions.specs.Description.{Description}
use Rattle.kc_regions.specs.Layout.{InBytes}
use Rattle.kc_regions.specs.Permission.{in_guard, permits}
use Rattle.kc_regions.specs.Valid.{IsValid}
use Rattle.kc_regions.specs.declared.region.Region.{Region}
use Rattle.kc_regions.specs.declared.touch.Touch.{Touch}
use Rattle.kc_regions.specs.declared.touch.Touch.TheVariants.{Write}
use Rattle.kc_mem.specs.Memory.{next}
use Rattle.kc_exec.specs.Execution.{guarded}
use Rattle.kc_exec.specs.Live.{IsLive}
use Rattle.kc_exec.specs.Operand.{plus}
use Rattle.kc_exec.specs.declared.access.Access.{Access}
use Rattle.kc_exec.specs.declared.state.Activation.{Activation}
use Rattle.kc_exec.specs.declared.state.State.{State}
use Rattle.kc_events.specs.Attempt.{Attempt}
use Rattle.kc_events.specs.Breaks.{judged, IsOf, UsesOtherGs, TouchesForbidden, WritesLive}
use Rattle.kc_frames.specs.declared.floors.Floors.{Floors}
use Rattle.kc_state.specs.Access.{may, clear}
use Rattle.kc_state.specs.Conditions.{AbsAccess, may_at, is_write, clear_at}
use Rattle.kc_state.specs.Operand.{AbsMoment}
use Rattle.kc_state.specs.declared.key.Key.{Key}
use Rattle.kc_state.specs.declared.location.Location.{Location}
use Rattle.kc_describes.specs.Fits.{IsBaseOf}
use Rattle.kc_describes.specs.Places.{address_of, FloorsStand}
use Rattle.kc_describes.specs.Spaces.{IsCr3Of}
use Rattle.kc_describes.proofs.AccessLemmas.{AccessAgrees, Agree}
use Rattle.kc_describes.proofs.LiveLemmas.{clear_not_live}
use Rattle.kc_describes.proofs.PermissionLemmas.{IsKnownCr3, may_permits}
use Rattle.kc_describes.proofs.StoreLemmas.{placed_fits, address_fits}

-- the access breaks nothing, whatever of it is judged
pub record IsQuiet (cfg : Description) (cr3 gs : ℕ) (chain : List Activation) (a : Access) : Type 0 where
  pub permitted : (x : ℕ) → IsOf a x → (in_guard cfg.regions x ≡ true) ⊎ (permits cfg cr3 a.touch x ≡ true)
  pub unlive : a.touch ≡ Write → (x : ℕ) → IsOf a x → ¬ IsLive cfg chain x
  pub own_gs : a.gs ≡ true → gs ≡ cfg.cpu.kernel_gs
  pub fits : a.at < 2 ^ 64

byte_in : (at size x i : ℕ) → at < 2 ^ 64 → i < size → x ≡ plus at i → InBytes x at size
byte_in at size x i fits few is = omega (arith, fits, few, is)

byte_word : (at x i : ℕ) → x ≡ plus at i → x < 2 ^ 64
byte_word at x i is = omega (arith, is)

-- ---- one access

module _ (cfg : Description) (valid : IsValid cfg) (key : Key) (base cr3 gs : ℕ) (floors : Floors)
    (chain : List Activation) (based : IsBaseOf cfg key.base key.syscall key.stack base)
    (stand : FloorsStand cfg floors base chain) (m : AbsMoment) (of_cfg : m.d ≡ cfg) (of_key : m.key ≡ key)
    (stands : IsCr3Of cfg m.cpu.map cr3) (known : IsKnownCr3 cfg cr3) where
  may_is : (p : Location) (n : ℕ) (touch : Touch) → may_at m (Some p) n touch ≡ true
      → may cfg key m.cpu.map p n touch ≡ true
  may_is p n touch h =
      subst (λ d. may d key m.cpu.map p n touch ≡ true) of_cfg
      (subst (λ k. may m.d k m.cpu.map p n touch ≡ true) of_key h)

  clear_is : (p : Location) (n : ℕ) → clear_at m floors (Some p) n ≡ true → clear cfg key floors p n ≡ true
  clear_is p n h =
      subst (λ d. clear d key floors p n ≡ true) of_cfg (subst (λ k. clear m.d k floors p n ≡ true) of_key h)

  quiet_at : (l : AbsAccess) (a : Access) (o : Option Location) → l.at ≡ o → AccessAgrees cfg key base l a
      → may_at m o l.size l.touch ≡ true → (is_write l.touch ≡ true → clear_at m floors o l.size ≡ true)
      → (l.gs ≡ true → gs ≡ cfg.cpu.kernel_gs) → IsQuiet cfg cr3 gs chain a
  quiet_at l a None e agrees permitted cleared own = absurd cc
  quiet_at l a (Some p) e agrees permitted cleared own =
      let at = agrees.at p e in
      let fits : a.at < 2 ^ 64 =
      subst (λ z. z < 2 ^ 64) at.1 (address_fits base p (placed_fits cfg key base p at.0)) in
      record {
        permitted = λ x of.
            let inside = byte_in (address_of base p) l.size x of.0
            (address_fits base p (placed_fits cfg key base p at.0))
            (subst (λ z. of.0 < z) agrees.size of.1) (of.2 ∙ ap (λ z. plus z of.0) (sym at.1)) in
            subst (λ t. (in_guard cfg.regions x ≡ true) ⊎ (permits cfg cr3 t x ≡ true)) (sym agrees.touch)
            (may_permits cfg key base m.cpu.map cr3 p l.size x l.touch valid at.0 agrees.no_fetch stands known
            (may_is p l.size l.touch permitted) (byte_word a.at x of.0 of.2) inside);
        unlive = λ writes x of live.
            let touch : l.touch ≡ Write = sym agrees.touch ∙ writes in
            let inside = byte_in (address_of base p) l.size x of.0
            (address_fits base p (placed_fits cfg key base p at.0))
            (subst (λ z. of.0 < z) agrees.size of.1) (of.2 ∙ ap (λ z. plus z of.0) (sym at.1)) in
            let may_write = subst (λ t. may cfg key m.cpu.map p l.size t ≡ true) touch
            (may_is p l.size l.touch permitted) in
            clear_not_live cfg valid key floors base chain based stand m.cpu.map p l.size x at.0
            (byte_word a.at x of.0 of.2) may_write (clear_is p l.size (cleared (ap is_write touch))) inside live;
        own_gs = λ prefix. own (sym agrees.gs ∙ prefix);
        fits = fits;
      }

  write_cleared : (l : AbsAccess) → (not (is_write l.touch) || clear_at m floors l.at l.size) ≡ true
      → is_write l.touch ≡ true → clear_at m floors l.at l.size ≡ true
  write_cleared l h writes = elim (or_cases (not (is_write l.touch)) (clear_at m floors l.at l.size) h) [
    | inl none ↦ absurd (false≢true (sym (not-true (is_write l.touch) none) ∙ writes))
    | inr is ↦ is
  ]

  -- accesses that agree with abstract ones, each permitted and clear, break nothing
  pub quiet_all : (ls : List AbsAccess) (ds : List Access) → Agree cfg key base ls ds
      → list_all (λ a. may_at m a.at a.size a.touch) ls ≡ true
      → list_all (λ a. not (is_write a.touch) || clear_at m floors a.at a.size) ls ≡ true
      → (gs ≡ cfg.cpu.kernel_gs) ⊎ (list_all (λ a. not a.gs) ls ≡ true) → All (IsQuiet cfg cr3 gs chain) ds
  quiet_all [] [] agree permitted cleared own = All-nil (IsQuiet cfg cr3 gs chain)
  quiet_all [] (d ∷ ds) agree permitted cleared own = absurd agree
  quiet_all (l ∷ ls) [] agree permitted cleared own = absurd agree
  quiet_all (l ∷ ls) (d ∷ ds) agree permitted cleared own =
      let p = and_parts (may_at m l.at l.size l.touch) (list_all (λ a. may_at m a.at a.size a.touch) ls) permitted in
      let q = and_parts (not (is_write l.touch) || clear_at m floors l.at l.size)
      (list_all (λ a. not (is_write a.touch) || clear_at m floors a.at a.size) ls) cleared in
      let first : l.gs ≡ true → gs ≡ cfg.cpu.kernel_gs = λ prefix. elim own [
        | inl is ↦ is
        | inr none ↦
            let r = and_parts (not l.gs) (list_all (λ a. not a.gs) ls) none in
            absurd (false≢true (sym (not-true l.gs r.0) ∙ prefix))
      ] in
      let rest : (gs ≡ cfg.cpu.kernel_gs) ⊎ (list_all (λ a. not a.gs) ls ≡ true) = elim own [
        | inl is ↦ inl is
        | inr none ↦ inr (and_parts (not l.gs) (list_all (λ a. not a.gs) ls) none).1
      ] in
      All-cons (IsQuiet cfg cr3 gs chain) d ds
      (quiet_at l d l.at refl agree.0 p.0 (write_cleared l q.0) first)
      (quiet_all ls ds agree.1 p.1 q.1 rest)

-- ---- what is judged

unguarded_byte : (regions : List Region) (a n x : ℕ) → a < 2 ^ 64 → x < 2 ^ 64 → guarded regions a n ≡ false
    → InBytes x a n → in_guard regions x ≡ false
unguarded_byte regions a zero x fits low none inside = absurd (omega (arith, inside))
unguarded_byte regions a (suc n) x fits low none inside =
    let p = or_parts (in_guard regions a) (guarded regions (next a) n) none in
    elim (cases_eq x a) [
      | inl e ↦ ap (in_guard regions) e ∙ p.0
      | inr e ↦ unguarded_byte regions (next a) n x (omega arith) low p.1 (omega (arith, fits, low, inside, e))
    ]

-- it has no byte in a guard
abbrev IsUnguarded : Description → Access → Type 0
IsUnguarded cfg a = guarded cfg.regions a.at a.size ≡ false

judged_step : (cfg : Description) (P : Access → Type 0) (a : Access) (more : List Access) (n : ℕ) (b : Bool)
    → not (guarded cfg.regions a.at a.size) ≡ b → P a → All (λ d. P d × IsUnguarded cfg d) (take n more)
    → All (λ d. P d × IsUnguarded cfg d) (take (cond b (1 + n) 0) (a ∷ more))
judged_step cfg P a more n true e first rest =
    let one : suc n ≡ 1 + n = omega arith in
    subst (λ k. All (λ d. P d × IsUnguarded cfg d) (take k (a ∷ more))) one
    (All-cons (λ d. P d × IsUnguarded cfg d) a (take n more) (first, not-true (guarded cfg.regions a.at a.size) e) rest)
judged_step cfg P a more n false e first rest = All-nil (λ d. P d × IsUnguarded cfg d)

pub judged_all : (cfg : Description) (P : Access → Type 0) (ds : List Access) → All P ds
    → All (λ d. P d × IsUnguarded cfg d) (judged cfg ds)
judged_all cfg P [] all = All-nil (λ d. P d × IsUnguarded cfg d)
judged_all cfg P (d ∷ ds) all =
    judged_step cfg P d ds (prefix_len (λ a. not (guarded cfg.regions a.at a.size)) ds)
    (not (guarded cfg.regions d.at d.size)) refl (All-head P d ds all)
    (judged_all cfg P ds (All-tail P d ds all))

none_in : {X : Type 0} (x : X) → Contains [] x → ⊥
none_in x h = omega (arith, h.1)

module _ (cfg : Description) (S : State) (t : Attempt)
    (quiet : All (IsQuiet cfg S.cpu.cr3 S.cpu.gs t.chain) t.accesses) where
  judged_quiet : (a : Access) → Contains (judged cfg t.accesses) a
      → IsQuiet cfg S.cpu.cr3 S.cpu.gs t.chain a × IsUnguarded cfg a
  judged_quiet a among =
      All-contains (λ d. IsQuiet cfg S.cpu.cr3 S.cpu.gs t.chain d × IsUnguarded cfg d) (judged cfg t.accesses) a
      (judged_all cfg (IsQuiet cfg S.cpu.cr3 S.cpu.gs t.chain) t.accesses quiet) among

  -- no B2
  pub quiet_gs : ¬ UsesOtherGs cfg S t
  quiet_gs (a, among, prefix, differs) = differs ((judged_quiet a among).0.own_gs prefix)

  -- no B3
  pub quiet_touches : ¬ TouchesForbidden cfg S t
  quiet_touches (a, x, among, of, forbidden) =
      let j = judged_quiet a among in
      elim (j.0.permitted x of) [
        | inl guard ↦
            let none = unguarded_byte cfg.regions a.at a.size x j.0.fits (byte_word a.at x of.0 of.2) j.1
            (byte_in a.at a.size x of.0 j.0.fits of.1 of.2) in
            false≢true (sym none ∙ guard)
        | inr allowed ↦ false≢true (sym forbidden ∙ allowed)
      ]

  -- no B4, where nothing is written besides
  pub quiet_writes : t.bytes ≡ [] → ¬ WritesLive cfg t
  quiet_writes none (x, written, live) = elim written [
    | inl h ↦ (judged_quiet h.0 h.1).0.unlive h.2 x h.3 live
    | inr h ↦ none_in x (subst (λ z. Contains z x) none h.1)
  ]
