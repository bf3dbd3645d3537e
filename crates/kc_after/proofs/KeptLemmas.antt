-- Each byte of the word of a slot that stays may not differ. A word of the TSS or of the configuration is outside the
-- clobber. Any other lies in the zone of one stack: a byte in the guard is kept, one in a stack outside the clobber
-- too, and in a clobbered stack the word is at or above RSP, so that its bytes are live with the new activation.
use Rattle.std.proofs.Common.{◌≡◌, ℕ, zero, suc, ◌+◌, ◌-◌, ◌/◌, ◌%◌, ◌^◌, ◌<◌, ◌≤◌, ◌&&◌, ◌==◌, nat_le, nat_lt, not, inl, inr, Bool, true, false, if◌then◌else◌, List, [], ◌∷◌, ◌++◌, All, Option, Some, None, ℤ, refl, sym, ap, ◌∙◌, subst, arith}
use Rattle.std.specs.Prelude.{FitsSigned}
use Rattle.std.specs.Int.{w64, bit_at}
use Rattle.std.proofs.lemmas.Int.{ints}
use Rattle.std.proofs.lemmas.Bool.{cases_lt, cases_eq, lt-ltb, le-ltb, leb-true, eqb-true, eqb-false, and_parts, and_cases, or_parts, not-false, false≢true}
use Rattle.std.proofs.lemmas.List.Quantifiers.{Any-push}
use Rattle.kc_bits.specs.Bits.{word}
use Rattle.kc_frames.specs.ClobberSets.{ClobberSets}
use Rattle.kc_frames.specs.Slots.{slot_count}
use Rattle.kc_regions.specs.Description.{Description}
use Rattle.kc_regions.specs.Layout.{InBytes, InZone}
use Rattle.kc_regions.specs.Lookup.{tss_word}
use Rattle.kc_regions.specs.Region.{stack_of}
use Rattle.kc_regions.specs.Valid.{IsValid}
use Rattle.kc_regions.proofs.LayoutLemmas.{laid}
use Rattle.kc_exec.specs.Live.{IsLiveFor}
use Rattle.kc_exec.specs.Register.{register, rsp}
use Rattle.kc_exec.specs.declared.state.Activation.{Activation}
use Rattle.kc_state.specs.AbsReturn.{is_clobbered, is_protected, is_offset_protected, loses_bytes, loses_word, loses}
use Rattle.kc_state.specs.Memory.{is_same_stack}
use Rattle.kc_state.specs.Places.{below_address, tracked_word, base_word, marked_word, word_of}
use Rattle.kc_state.specs.declared.key.Key.{Key}
use Rattle.kc_state.specs.declared.location.Location.{Location}
use Rattle.kc_state.specs.declared.location.Location.TheVariants.{Number, Relative}
use Rattle.kc_describes.specs.Chain.{newest_of, user_gs_of}
use Rattle.kc_describes.specs.Fits.{IsBaseOf, ChainFits}
use Rattle.kc_describes.specs.Places.{address_of}
use Rattle.kc_describes.specs.Widths.{IsActivation}
use Rattle.kc_describes.proofs.ChainLemmas.{newest_base}
use Rattle.kc_describes.proofs.HitLemmas.{word_fits, offset_word}
use Rattle.kc_describes.proofs.LocationLemmas.{in_stack, stack_high, IsAt}
use Rattle.kc_describes.proofs.OffsetLemmas.{upper_sum, whole_offset}
use Rattle.kc_describes.proofs.PermissionLemmas.{int_le-true}
use Rattle.kc_describes.proofs.SlotLemmas.{area_word, base_word_at, base_zone, marked_word_at, marked_zone}
use Rattle.kc_after.specs.Kept.{fixed_word, IsKept}

-- ---- the interrupted RSP

-- an offset is in the key's stack
abbrev pub IsOwn : Description → Key → ℕ → Location → Type 0
IsOwn cfg key n (Number b) = Unit {0}
IsOwn cfg key n (Relative k) = stack_of cfg.regions n ≡ key.stack

-- The location is the address n, and the interrupted RSP r is in the same stack, at or below it.
pub record IsTop (cfg : Description) (key : Key) (base r n : ℕ) (l : Location) : Type 0 where
  pub at : IsAt cfg key base n l
  pub below : r ≤ n
  pub same : (t : ℕ) → stack_of cfg.regions n ≡ Some t → stack_of cfg.regions r ≡ Some t
  pub own : IsOwn cfg key n l

-- ---- tests

-- what isn't lost at a word isn't at any of its bytes
loses_each : (cfg : Description) (o : Option Location) (c : ClobberSets) (w a n x : ℕ) → a < 2 ^ 64 → x < 2 ^ 64
    → loses_bytes cfg o c w a n ≡ false → InBytes x a n
    → (is_clobbered c (stack_of cfg.regions x) && not (is_protected cfg o w (stack_of cfg.regions x))) ≡ false
unfolding loses_bytes
loses_each cfg o c w a zero x fits low h inside = absurd (omega (arith, inside))
loses_each cfg o c w a (suc n) x fits low h inside =
    let p = or_parts (is_clobbered c (stack_of cfg.regions a) && not (is_protected cfg o w (stack_of cfg.regions a)))
    (loses_bytes cfg o c w (word (a + 1)) n) h in
    elim (cases_eq x a) [
      | inl e ↦
          ap (λ z. is_clobbered c (stack_of cfg.regions z) && not (is_protected cfg o w (stack_of cfg.regions z))) e
          ∙ p.0
      | inr e ↦ loses_each cfg o c w (word (a + 1)) n x (omega arith) low p.1 (omega (arith, fits, low, inside, e))
    ]

stack_from : (one : Option ℕ) (t : ℕ) → is_same_stack one (Some t) ≡ true → one ≡ Some t
stack_from (Some s) t h = ap (λ z. Some z) (eqb-true s t h)
stack_from None t h = absurd (false≢true h)

-- a word of the TSS or of the configuration has its place whatever the key
fixed : (cfg : Description) (key : Key) (i : ℕ) → i < 40 → word_of cfg key i ≡ fixed_word cfg i
fixed cfg key i h =
    ap (λ (t : Bool). if nat_lt i 8 then Some (Number (word (tss_word cfg.cpu.tss i)))
    else if t then tracked_word cfg (i - 8)
    else if nat_lt i 104 then base_word key.base key.syscall (i - 39)
    else marked_word cfg ((i - 104) / 64) ((i - 104) % 64 + 1)) (lt-ltb i 40 h)

frame_stack : (cfg : Description) (stack : Option ℕ) (base t : ℕ) → IsBaseOf cfg None false stack base
    → stack_of cfg.regions (below_address base 40) ≡ Some t → stack ≡ Some t
frame_stack cfg (Some s) base t based first = sym based.1 ∙ first
frame_stack cfg None base t based first = absurd based.0

-- ---- the bytes of a word

module _ (cfg : Description) (valid : IsValid cfg) (key : Key) (chain : List Activation) (F : ChainFits cfg key chain)
    (typed : All IsActivation chain) (c : ClobberSets) (a : Activation) (o : Option Location) (n : ℕ)
    (tops : (l : Location) → o ≡ Some l → IsTop cfg key (newest_of chain).base (register a.saved rsp) n l) where
  abbrev base : ℕ
  base = (newest_of chain).base

  abbrev r : ℕ
  r = register a.saved rsp

  abbrev Kept : ℕ → Type 0
  Kept x = IsKept cfg c (chain ++ a ∷ []) x

  base_fits : base < 2 ^ 64
  base_fits = newest_base chain F.one_user typed

  live : (t x : ℕ) → stack_of cfg.regions r ≡ Some t → stack_of cfg.regions x ≡ Some t → r ≤ x → Kept x
  live t x there here up =
      inl (Any-push (λ b. IsLiveFor cfg b x) chain a
      (record { stack = t; suspended = there; within = here; above = up }))

  outside : (t x : ℕ) → stack_of cfg.regions x ≡ Some t → is_clobbered c (Some t) ≡ false → Kept x
  outside t x here free = inr (inr (inl (t, here, λ has. eqb-false (bit_at c.stacks t) 1 free has)))

  -- ---- at a number

  protected_at : (p : Option Location) (w x t : ℕ) → o ≡ p → w < 2 ^ 64 → InBytes x w 8 → x < 2 ^ 64
      → stack_of cfg.regions x ≡ Some t → is_protected cfg p w (Some t) ≡ true → Kept x
  protected_at (Some (Number b)) w x t e fits inside low here h =
      let p = and_parts (nat_le b w) (is_same_stack (stack_of cfg.regions b) (Some t)) h in
      let under = leb-true b w p.0 in
      let T = tops (Number b) e in
      let there : stack_of cfg.regions n ≡ Some t =
      ap (stack_of cfg.regions) (sym T.at.1) ∙ stack_from (stack_of cfg.regions b) t p.1 in
      let high = stack_high cfg t x valid here in
      live t x (T.same t there) here (omega (arith, T.below, T.at.1, under, inside, high.low, fits, low))
  protected_at (Some (Relative k)) w x t e fits inside low here h = absurd (false≢true h)
  protected_at None w x t e fits inside low here h = absurd (false≢true h)

  at_number : (w x t : ℕ) → w < 2 ^ 64 → InBytes x w 8 → x < 2 ^ 64 → stack_of cfg.regions x ≡ Some t
      → loses_bytes cfg o c w w 8 ≡ false → Kept x
  at_number w x t fits inside low here h =
      let each = subst (λ z. (is_clobbered c z && not (is_protected cfg o w z)) ≡ false) here
      (loses_each cfg o c w w 8 x fits low h inside) in
      elim (and_cases (is_clobbered c (Some t)) (not (is_protected cfg o w (Some t))) each) [
        | inl free ↦ outside t x here free
        | inr safe ↦ protected_at o w x t refl fits inside low here (not-false (is_protected cfg o w (Some t)) safe)
      ]

  -- ---- at an offset

  protected_offset : (p : Option Location) (j : ℤ) (x t : ℕ) → o ≡ p → FitsSigned w64 j
      → InBytes x (address_of base (Relative j)) 8 → x < 2 ^ 64 → stack_of cfg.regions x ≡ Some t
      → key.stack ≡ Some t → is_offset_protected p j ≡ true → Kept x
  protected_offset (Some (Relative k)) j x t e fits inside low here named h =
      let T = tops (Relative k) e in
      let K = T.at.0.1 in
      let there : stack_of cfg.regions n ≡ Some t = T.own ∙ named in
      let based : stack_of cfg.regions base ≡ Some t = K.at ∙ sym K.named ∙ named in
      let X = in_stack cfg t x valid here in
      let B = in_stack cfg t base valid based in
      let one : B.region ≡ X.region = cc in
      let held = subst (λ z. (z.span.from ≤ base) × (base < z.span.to)) one B.held in
      let up = stack_high cfg t n valid there in
      let high = stack_high cfg t base valid based in
      let sum = upper_sum base k (omega (arith, high.low)) base_fits T.at.0.0 (omega (arith, up.low, T.at.1)) in
      let from = (whole_offset base x 8 X.region.span.from X.region.span.to j X.is.begins X.is.size held.0 held.1
      (omega (arith, X.is.ends)) fits (omega arith) inside low (omega (arith, X.held.0)) X.held.1).0 in
      let le = int_le-true k j h in
      live t x (T.same t there) here (omega (arith, ints, T.below, T.at.1, sum, from, le))
  protected_offset (Some (Number b)) j x t e fits inside low here named h = absurd (false≢true h)
  protected_offset None j x t e fits inside low here named h = absurd (false≢true h)

  at_offset : (j : ℤ) (x t : ℕ) → FitsSigned w64 j → InBytes x (address_of base (Relative j)) 8 → x < 2 ^ 64
      → stack_of cfg.regions x ≡ Some t → key.stack ≡ Some t
      → (is_clobbered c key.stack && not (is_offset_protected o j)) ≡ false → Kept x
  at_offset j x t fits inside low here named h =
      elim (and_cases (is_clobbered c key.stack) (not (is_offset_protected o j)) h) [
        | inl free ↦ outside t x here (subst (λ z. is_clobbered c z ≡ false) named free)
        | inr safe ↦ protected_offset o j x t refl fits inside low here named (not-false (is_offset_protected o j) safe)
      ]

  -- ---- slots

  in_zone : (i x : ℕ) (p : Location) → 40 ≤ i → word_of cfg key i ≡ Some p → x < 2 ^ 64
      → InBytes x (address_of base p) 8 → (t : ℕ) × InZone cfg.regions t x
  in_zone i x p up e low inside = elim (cases_lt i 104) [
    | inl high ↦
        let w = base_word_at cfg valid key (user_gs_of chain) (newest_of chain) F.fits base_fits i p up high e in
        let event : (newest_of chain).syscall ≡ false = F.fits.kind ∙ w.event in (
          (F.fits.frame event).stack,
          base_zone cfg valid key (user_gs_of chain) (newest_of chain) F.fits base_fits i x p event up high e low
              inside,
        )
    | inr past ↦
        let m = marked_word_at cfg key i p valid past e in (m.stack, marked_zone cfg i x base p m low inside)
  ]

  -- the stack of a word below the base of a key without one is the key's
  own_stack : (i x t : ℕ) (j : ℤ) → word_of cfg key i ≡ Some (Relative j) → x < 2 ^ 64
      → InBytes x (address_of base (Relative j)) 8 → stack_of cfg.regions x ≡ Some t → key.stack ≡ Some t
  own_stack i x t j e low inside here =
      let w = offset_word cfg key i j valid e in
      let event : (newest_of chain).syscall ≡ false = F.fits.kind ∙ w.event in
      let frame = F.fits.frame event in
      let zone = base_zone cfg valid key (user_gs_of chain) (newest_of chain) F.fits base_fits i x (Relative j) event
      w.low w.high e low inside in
      let X = in_stack cfg t x valid here in
      let own : InZone cfg.regions t x = (X.region, X.numbered, omega (arith, X.held.0), X.held.1) in
      let same : frame.stack ≡ t = (laid cfg valid).one_zone frame.stack t x zone own in
      let based = subst (λ b. IsBaseOf cfg None b key.stack base) w.event
      (subst (λ z. IsBaseOf cfg z key.syscall key.stack base) w.none F.fits.base) in
      frame_stack cfg key.stack base frame.stack based frame.first ∙ ap (λ z. Some z) same

  in_word : (i x : ℕ) (p : Location) → i < 40 → word_of cfg key i ≡ Some p → InBytes x (address_of base p) 8
      → (bit_at c.words i == 1) ≡ false → Kept x
  in_word i x p few e inside h =
      let area = area_word cfg key i p valid few e in
      inr (inr (inr (
        i,
        (record {
          few = few;
          at = area.at;
          is = sym (fixed cfg key i few) ∙ e ∙ ap (λ z. Some z) area.is;
          byte = subst (λ z. InBytes x (address_of base z) 8) area.is inside;
        }),
        λ has. eqb-false (bit_at c.words i) 1 h has,
      )))

  in_stack_word : (i x t : ℕ) (p : Location) → i < slot_count → word_of cfg key i ≡ Some p → x < 2 ^ 64
      → InBytes x (address_of base p) 8 → stack_of cfg.regions x ≡ Some t → loses_word cfg key o c (Some p) ≡ false
      → Kept x
  in_stack_word i x t (Number w) below e low inside here h =
      let fits = word_fits cfg valid key (user_gs_of chain) (newest_of chain) F.fits base_fits i w below e in
      at_number w x t fits inside low here h
  in_stack_word i x t (Relative j) below e low inside here h =
      at_offset j x t (offset_word cfg key i j valid e).fits inside low here (own_stack i x t j e low inside here) h

  -- each byte of the word of a slot that isn't lost may not differ
  pub slot_kept : (i x : ℕ) (p : Location) → i < slot_count → word_of cfg key i ≡ Some p
      → loses cfg key o c i ≡ false → x < 2 ^ 64 → InBytes x (address_of base p) 8 → Kept x
  slot_kept i x p below e h low inside = elim (cases_lt i 40) [
    | inl few ↦
        in_word i x p few e inside
        (sym (ap (λ (t : Bool). if t then bit_at c.words i == 1 else loses_word cfg key o c (word_of cfg key i))
        (lt-ltb i 40 few)) ∙ h)
    | inr up ↦
        let second : loses_word cfg key o c (word_of cfg key i) ≡ false =
        sym (ap (λ (t : Bool). if t then bit_at c.words i == 1 else loses_word cfg key o c (word_of cfg key i))
        (le-ltb i 40 up)) ∙ h in
        let zone = in_zone i x p up e low inside in
        elim ((laid cfg valid).zone_byte zone.0 x zone.1) [
          | inl here ↦
              in_stack_word i x zone.0 p below e low inside here
              (subst (λ z. loses_word cfg key o c z ≡ false) e second)
          | inr guard ↦ inr (inl guard)
        ]
  ]
