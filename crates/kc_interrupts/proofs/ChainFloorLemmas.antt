-- The floors of all that is interrupted bound the live bytes of the chain with the new activation. As numbers the old
-- floors bound the old live bytes. The new ones lie from RSP up in its stack, whose floor is lowered to RSP or below
-- it; where RSP is the one that is due, they are live of the activation that was newest.
use Rattle.std.proofs.Common.{◌≡◌, ◌≢◌, ℕ, ◌<◌, ◌≤◌, min, inl, inr, Bool, true, false, List, [], ◌∷◌, ◌++◌, map, Option, Some, None, get_or-set_same, get_or-set_other, refl, sym, ap, ◌∙◌, subst, arith}
use Rattle.std.proofs.lemmas.Bool.{cases_Bool, cases_eq}
use Rattle.std.proofs.lemmas.List.{get_or-map, length-map}
use Rattle.std.proofs.lemmas.List.Quantifiers.{Any-push}
use Rattle.kc_regions.specs.Description.{Description}
use Rattle.kc_regions.specs.Region.{stack_of}
use Rattle.kc_regions.specs.Valid.{IsValid}
use Rattle.kc_frames.specs.Floors.{FloorStands, AreFloors, floor_joined, floor_top, none_live}
use Rattle.kc_frames.specs.declared.floor.Floor.{Floor}
use Rattle.kc_frames.specs.declared.floor.Floor.TheVariants as floor
use Rattle.kc_frames.specs.declared.floors.Floors.{Floors}
use Rattle.kc_exec.specs.Live.{IsLive, IsLiveFor}
use Rattle.kc_exec.specs.Register.{register, rsp}
use Rattle.kc_exec.specs.declared.state.Activation.{Activation}
use Rattle.kc_cpu.specs.declared.cpu.Cpu.{Cpu}
use Rattle.kc_cpu.specs.declared.cpu.Mode.{Mode}
use Rattle.kc_cpu.specs.declared.cpu.Mode.TheVariants.{User, Code, Inside}
use Rattle.kc_state.specs.AbsDelivery.{numbered, floor_at, lowered, interrupted_floors}
use Rattle.kc_state.specs.declared.key.Key.{Key}
use Rattle.kc_state.proofs.StackLemmas.{stack_below}
use Rattle.kc_describes.specs.Chain.{newest_of, IsDue}
use Rattle.kc_describes.specs.Fits.{IsBaseOf, ChainFits, is_user_mode}
use Rattle.kc_describes.specs.Places.{FloorsStand}
use Rattle.kc_describes.proofs.ChainLemmas.{newest_all}
use Rattle.kc_describes.proofs.LocationLemmas.{stack_high}
use Rattle.kc_returns.proofs.ContextLemmas.{rejoined}
use Rattle.kc_events.specs.Turns.{without_newest}
use Rattle.kc_delivers.proofs.ChainLemmas.{live_cases}

-- ---- floors as numbers

abbrev number : Option ℕ → Floor → ℕ
number based (floor.At n) = n
number (Some b) floor.Base = b
number None floor.Base = 0

numbered_is : (based : Option ℕ) (f : Floor) → numbered based f ≡ floor.At (number based f)
numbered_is based (floor.At n) = refl
numbered_is (Some b) floor.Base = refl
numbered_is None floor.Base = refl

-- the floor's number bounds what the floor does, where the base isn't the last address
number_stands : (cfg : Description) (based : Option ℕ) (syscall : Bool) (stack : Option ℕ) (f : Floor) (old x : ℕ)
    → IsBaseOf cfg based syscall stack old → ((b : ℕ) → based ≡ Some b → old ≢ none_live)
    → FloorStands f old (Some x) → (number based f ≢ none_live) × (number based f ≤ x)
number_stands cfg based syscall stack (floor.At n) old x is last stands = stands
number_stands cfg (Some b) syscall stack floor.Base old x is last stands =
    (λ e. last b refl (is ∙ e), omega (arith, is, stands))
number_stands cfg None syscall stack floor.Base old x is last stands = (λ e. omega (arith, e), omega arith)

module _ (cfg : Description) (valid : IsValid cfg) (key : Key) (chain : List Activation) (F : ChainFits cfg key chain)
    (floors : Floors) (ok : AreFloors floors) (stand : FloorsStand cfg floors (newest_of chain).base chain) where
  -- the base of an event is aligned, and a syscall's key has none
  not_last : (b : ℕ) → key.base ≡ Some b → (newest_of chain).base ≢ none_live
  not_last b e = elim (cases_Bool key.syscall) [
    | inl h ↦ let none = (F.fits.rules.syscall h).2 in absurd cc
    | inr h ↦
        let aligned = (F.fits.frame (F.fits.kind ∙ h)).aligned in
        λ last. absurd (omega (arith, last, aligned))
  ]

  abbrev g : Floors
  g = record { at = map (numbered key.base) floors.at }

  abbrev n_at : ℕ → ℕ
  n_at s = number key.base (floor_at floors s)

  numbers_at : (s : ℕ) → s < 16 → floor_at g s ≡ floor.At (n_at s)
  numbers_at s few =
      get_or-map (numbered key.base) floors.at s floor_top floor_top (omega (arith, few, ok.count))
      ∙ numbered_is key.base (floor_at floors s)

  -- of the old live bytes
  old_bound : (x s : ℕ) → IsLive cfg chain x → stack_of cfg.regions x ≡ Some s → (n_at s ≢ none_live) × (n_at s ≤ x)
  old_bound x s live at =
      number_stands cfg key.base key.syscall key.stack (floor_at floors s) (newest_of chain).base x F.fits.base
      not_last (stand x s live at)

  as_numbers : (base : ℕ) → FloorsStand cfg g base chain
  as_numbers base x s live at =
      subst (λ f. FloorStands f base (Some x)) (sym (numbers_at s (stack_below cfg x s valid at)))
      (old_bound x s live at)

  -- ---- the new activation

  module _ (cpu : Cpu) (a : Activation) (saved : a.saved ≡ cpu) where
    -- live of the new one alone: from RSP up
    record IsNew (x s : ℕ) : Type 0 where
      place : stack_of cfg.regions (register cpu rsp) ≡ Some s
      above : register cpu rsp ≤ x

    new_is : (x s : ℕ) → stack_of cfg.regions x ≡ Some s → IsLiveFor cfg a x → IsNew x s
    new_is x s at l = record {
      place = ap (λ (c : Cpu). stack_of cfg.regions (register c rsp)) (sym saved) ∙ l.suspended ∙ sym l.within ∙ at;
      above = subst (λ (c : Cpu). register c rsp ≤ x) saved l.above;
    }

    -- the RSP that is due is the newest one's own: a user's lies in no stack
    due_live : (m : Mode) → (newest_of chain).saved.mode ≡ m → (x s : ℕ)
        → register cpu rsp ≡ register (newest_of chain).due rsp → stack_of cfg.regions x ≡ Some s → IsNew x s
        → IsLive cfg chain x
    due_live m e x s own at new =
        let due = newest_all (IsDue cfg) chain F.one_user F.due in
        subst (λ (c : List Activation). IsLive cfg c x) (sym (rejoined chain F.one_user))
        (Any-push (λ d. IsLiveFor cfg d x) (without_newest chain) (newest_of chain) (by m e due))
      where
        b : Activation
        b = newest_of chain

        of_kernel : b.due ≡ b.saved → IsLiveFor cfg b x
        of_kernel same =
            let is : register cpu rsp ≡ register b.saved rsp = own ∙ ap (λ (c : Cpu). register c rsp) same in
            record {
              stack = s;
              suspended = ap (stack_of cfg.regions) (sym is) ∙ new.place;
              within = at;
              above = subst (λ n. n ≤ x) is new.above;
            }

        no_user : (k : Mode) → is_user_mode k ≡ false → b.saved.mode ≡ k → b.saved.mode ≡ User → ⊥
        no_user k other here user =
            let clash : true ≡ false = sym (ap is_user_mode user) ∙ ap is_user_mode here ∙ other in absurd cc

        by : (k : Mode) → b.saved.mode ≡ k → IsDue cfg b → IsLiveFor cfg b x
        by User here due =
            let none = (due.user here).0.stack in
            let some : stack_of cfg.regions (register b.due rsp) ≡ Some s =
            ap (stack_of cfg.regions) (sym own) ∙ new.place in
            absurd cc
        by Code here due = of_kernel (due.kernel (no_user Code refl here))
        by (Inside call) here due = of_kernel (due.kernel (no_user (Inside call) refl here))

    module _ (base : ℕ) where
      abbrev longer : List Activation
      longer = chain ++ a ∷ []

      stays_stand : register cpu rsp ≡ register (newest_of chain).due rsp → FloorsStand cfg g base longer
      stays_stand own x s live at = elim (live_cases cfg chain a x live) [
        | inl old ↦ as_numbers base x s old at
        | inr l ↦
            as_numbers base x s
            (due_live (newest_of chain).saved.mode refl x s own at (new_is x s at l)) at
      ]

      lower_old : (m n x : ℕ) → x < none_live → (m ≢ none_live) × (m ≤ x)
          → FloorStands (floor.At (min m n)) base (Some x)
      lower_old m n x fits h = (λ e. let low = h.1 in omega (arith, e, low, fits), let low = h.1 in omega (arith, low))

      lower_new : (m n x : ℕ) → x < none_live → n ≤ x → FloorStands (floor.At (min m n)) base (Some x)
      lower_new m n x fits h = (λ e. omega (arith, e, h, fits), omega (arith, h))

      byte_fits : (x s : ℕ) → stack_of cfg.regions x ≡ Some s → x < none_live
      byte_fits x s at = let high = (stack_high cfg s x valid at).high in omega (arith, high)

      joined_at : (s n : ℕ) → s < 16
          → floor_at (lowered g (Some s) n) s ≡ floor.At (min (n_at s) n)
      joined_at s n few =
          get_or-set_same g.at s (floor_joined (floor_at g s) (floor.At n)) floor_top
          (omega (arith, few, ok.count, length-map floors.at (numbered key.base)))
          ∙ ap (λ f. floor_joined f (floor.At n)) (numbers_at s few)

      others_at : (s t n : ℕ) → t ≢ s → floor_at (lowered g (Some s) n) t ≡ floor_at g t
      others_at s t n other = get_or-set_other g.at s t (floor_joined (floor_at g s) (floor.At n)) floor_top other

      lowered_stand : (stack : Option ℕ) (n : ℕ) → stack_of cfg.regions (register cpu rsp) ≡ stack
          → n ≤ register cpu rsp → FloorsStand cfg (lowered g stack n) base longer
      lowered_stand None n place low x s live at = elim (live_cases cfg chain a x live) [
        | inl old ↦ as_numbers base x s old at
        | inr l ↦ let here = (new_is x s at l).place in absurd cc
      ]
      lowered_stand (Some t) n place low x s live at =
          let few = stack_below cfg x s valid at in
          let fits = byte_fits x s at in
          elim (cases_eq s t) [
            | inl same ↦
                let floor_is : floor_at (lowered g (Some t) n) s ≡ floor.At (min (n_at s) n) =
                subst (λ z. floor_at (lowered g (Some z) n) s ≡ floor.At (min (n_at s) n)) same (joined_at s n few) in
                subst (λ f. FloorStands f base (Some x)) (sym floor_is)
                (elim (live_cases cfg chain a x live) [
                  | inl old ↦ lower_old (n_at s) n x fits (old_bound x s old at)
                  | inr l ↦
                      let above = (new_is x s at l).above in lower_new (n_at s) n x fits (omega (arith, low, above))
                ])
            | inr other ↦ subst (λ f. FloorStands f base (Some x)) (sym (others_at t s n other))
                (elim (live_cases cfg chain a x live) [
                  | inl old ↦ as_numbers base x s old at
                  | inr l ↦
                      let here = (new_is x s at l).place in
                      let same : s ≡ t = cc in
                      absurd (other same)
                ])
          ]

      -- the floors of all that is interrupted bound the live bytes of the chain with the new activation
      pub interrupted_stand : (stays : Bool) (stack : Option ℕ) (n : ℕ)
          → stack_of cfg.regions (register cpu rsp) ≡ stack
          → (stays ≡ true → register cpu rsp ≡ register (newest_of chain).due rsp) → n ≤ register cpu rsp
          → FloorsStand cfg (interrupted_floors floors key.base stays stack n) base longer
      interrupted_stand true stack n place own low = stays_stand (own refl)
      interrupted_stand false stack n place own low = lowered_stand stack n place low
