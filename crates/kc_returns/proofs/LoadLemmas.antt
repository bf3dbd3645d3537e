-- What a return loads is what is due: the flags by their places, where the model's mask is part of what is loaded, but
-- for bit 1, which is set; selectors, by whom the newest activation interrupted; spaces and latches by cases.
use Rattle.std.proofs.Common.{◌≡◌, ◌≢◌, ℕ, zero, suc, ◌≤◌, min, max, Bool, true, false, not, ◌||◌, nat_eq, is_some, ◌⊎◌, inl, inr, List, Option, Some, None, bit_and, refl, sym, ap, ◌∙◌, subst, arith}
use Rattle.std.proofs.lemmas.Bool.{eqb-true, true≢false, false≢true}
use Rattle.std.proofs.lemmas.Nat.Bits.{same_from_bits, bit_at_and, bit_at_or, bit_at-lt, bit_at-pow_other}
use Rattle.std.specs.Int.{bit_at}
use Rattle.kc_insn.specs.declared.insn.Insn.{Insn}
use Rattle.kc_insn.specs.declared.insn.Insn.TheVariants.{Iretq, Sysretq}
use Rattle.kc_regions.specs.Description.{Description}
use Rattle.kc_regions.specs.Permission.{user_cs64, is_cs32, is_user_cs}
use Rattle.kc_cpu.specs.declared.cpu.Cpu.{Cpu}
use Rattle.kc_cpu.specs.declared.cpu.Mode.{Mode}
use Rattle.kc_cpu.specs.declared.cpu.Mode.TheVariants.{User, Code, Inside}
use Rattle.kc_space.specs.Spaces.{WhoStands, MapStands}
use Rattle.kc_space.specs.declared.env.SpaceEnv.{SpaceEnv}
use Rattle.kc_space.specs.declared.latches.Latches.{Latches}
use Rattle.kc_space.specs.declared.map.MapState.{MapState}
use Rattle.kc_space.specs.declared.map.MapState.TheVariants.{Kernel as KernelMap, User as UserMap, Any as AnyMap}
use Rattle.kc_space.specs.declared.who.Who.{Who}
use Rattle.kc_space.specs.declared.who.Who.TheVariants.{Kernel as KernelGs, User as OfUser, Any}
use Rattle.kc_exec.specs.Admitted.{model_flags, IsAdmitted}
use Rattle.kc_exec.specs.Breaks.{effect}
use Rattle.kc_exec.specs.Effect.{row}
use Rattle.kc_exec.specs.Moment.{Moment}
use Rattle.kc_exec.specs.RFlags.{loadable, sysret_mask, loaded}
use Rattle.kc_exec.specs.declared.state.Activation.{Activation}
use Rattle.kc_events.specs.Allowed.{AreModelFlags}
use Rattle.kc_state.specs.declared.key.Key.{Key}
use Rattle.kc_describes.specs.Chain.{newest_of, IsEdited, IsDue}
use Rattle.kc_describes.specs.Fits.{IsKernelCpu, ChainFits, is_user_mode}
use Rattle.kc_describes.specs.Spaces.{gs_env, cr3_env, LatchesStand}
use Rattle.kc_describes.proofs.ChainLemmas.{newest_all}
use Rattle.kc_returns.specs.Returns.{FlagsReload, SelectorsAreDue, SpacesAreKept, LatchesFollow, HasSelectors, due_of, latches_at_return}

-- ---- flags

-- at a place that isn't 1 the mask has what the model has
HasModel : ℕ → Type 0
HasModel mask = (i : ℕ) → i ≢ 1 → bit_at model_flags i ≤ bit_at mask i

reloaded : (mask n : ℕ) → HasModel mask → AreModelFlags n → loaded mask n ≡ n
unfolding HasModel
reloaded mask n has model = same_from_bits (loaded mask n) n each
  where
    at : (i : ℕ) → bit_at (loaded mask n) i ≡ max (min (bit_at n i) (bit_at mask i)) (bit_at 2 i)
    at i = bit_at_or (bit_and n mask) 2 i ∙ omega (arith, bit_at_and n mask i)

    within : (i : ℕ) → min (bit_at n i) (bit_at model_flags i) ≡ bit_at n i
    within i = sym (bit_at_and n model_flags i) ∙ ap (λ (v : ℕ). bit_at v i) model.modelled

    other : (i : ℕ) → i ≢ 1 → bit_at (loaded mask n) i ≡ bit_at n i
    other i apart = omega (arith, at i, within i, has i apart, bit_at-pow_other 1 i apart)

    each : (i : ℕ) → bit_at (loaded mask n) i ≡ bit_at n i
    each zero = other 0 (λ e. absurd (omega (arith, e)))
    each (suc zero) =
        let two : bit_at 2 1 ≡ 1 = refl in omega (arith, at 1, two, model.fixed, bit_at-lt mask 1)
    each (suc (suc i)) = other (suc (suc i)) (λ e. absurd (omega (arith, e)))

iret_has : HasModel loadable
unfolding HasModel
iret_has i apart =
    let both : bit_at model_flags i ≡ max (bit_at loadable i) (bit_at 2 i) = bit_at_or loadable 2 i in
    omega (arith, both, bit_at-pow_other 1 i apart)

sysret_has : HasModel sysret_mask
unfolding HasModel
sysret_has i apart =
    let both : bit_at model_flags i ≡ min (bit_at sysret_mask i) (bit_at model_flags i) =
    bit_at_and sysret_mask model_flags i in
    omega (arith, both)

-- ---- who was interrupted

-- what is due, of the kernel or of the user
unfoldable pub IsKernels : Description → Key → Activation → Type 0
IsKernels cfg key a = (key.kernel ≡ true) × (a.due ≡ a.saved) × IsKernelCpu cfg a.due

unfoldable pub IsUsers : Description → Key → Activation → Type 0
IsUsers cfg key a = (key.kernel ≡ false) × IsAdmitted cfg a.due × IsEdited a.saved a.due

by_mode : (cfg : Description) (key : Key) (a : Activation) (mode : Mode) → a.saved.mode ≡ mode
    → key.kernel ≡ not (is_user_mode mode) → IsDue cfg a → (key.kernel ≡ true → IsKernelCpu cfg a.saved)
    → IsKernels cfg key a ⊎ IsUsers cfg key a
unfolding IsKernels IsUsers
by_mode cfg key a User is side due kernel = inr (side, (due.user is).0, (due.user is).1)
by_mode cfg key a Code is side due kernel =
    let same : a.due ≡ a.saved = due.kernel (λ e. true≢false (ap is_user_mode (sym e ∙ is))) in
    inl (side, same, subst (λ (c : Cpu). IsKernelCpu cfg c) (sym same) (kernel side))
by_mode cfg key a (Inside call) is side due kernel =
    let same : a.due ≡ a.saved = due.kernel (λ e. true≢false (ap is_user_mode (sym e ∙ is))) in
    inl (side, same, subst (λ (c : Cpu). IsKernelCpu cfg c) (sym same) (kernel side))

pub interrupted : (cfg : Description) (key : Key) (chain : List Activation) → ChainFits cfg key chain
    → IsKernels cfg key (newest_of chain) ⊎ IsUsers cfg key (newest_of chain)
interrupted cfg key chain F =
    by_mode cfg key (newest_of chain) (newest_of chain).saved.mode refl F.fits.side
    (newest_all (IsDue cfg) chain F.one_user F.due) F.fits.kernel

model_due : (cfg : Description) (key : Key) (a : Activation) → IsKernels cfg key a ⊎ IsUsers cfg key a
    → AreModelFlags a.due.flags
unfolding IsKernels IsUsers
model_due cfg key a (inl k) = k.2.flags
model_due cfg key a (inr u) = record { fixed = u.1.flags.fixed; modelled = u.1.flags.modelled }

pub flags_reload : FlagsReload
flags_reload cfg key chain F =
    let model = model_due cfg key (newest_of chain) (interrupted cfg key chain F) in
    (reloaded loadable (due_of chain).flags iret_has model, reloaded sysret_mask (due_of chain).flags sysret_has model)

-- ---- selectors

-- the user's CS is the 64-bit one, where there is no 32-bit code
only_long : (cfg : Description) (cs : ℕ) → cfg.cpu.user_cs32 ≡ None → is_user_cs cfg.cpu cs ≡ true
    → cs ≡ user_cs64 cfg.cpu
only_long cfg cs none is =
    eqb-true cs (user_cs64 cfg.cpu)
    (either_first (nat_eq cs (user_cs64 cfg.cpu)) (is_cs32 cfg.cpu.user_cs32 cs)
    (is_cs32_none cfg.cpu.user_cs32 cs none) is)
  where
    is_cs32_none : (o : Option ℕ) (n : ℕ) → o ≡ None → is_cs32 o n ≡ false
    is_cs32_none None n e = refl
    is_cs32_none (Some x) n e = absurd (true≢false (ap is_some e))

    either_first : (a b : Bool) → b ≡ false → (a || b) ≡ true → a ≡ true
    either_first true b none is = refl
    either_first false b none is = absurd (true≢false (sym is ∙ none))

-- an edit leaves CS as it was
edited_cs : (saved due : Cpu) → IsEdited saved due → due.cs ≡ saved.cs
edited_cs saved due is = ap (λ (c : Cpu). c.cs) is

same_cs : (cfg : Description) (key : Key) (a : Activation) → IsKernels cfg key a ⊎ IsUsers cfg key a
    → a.due.cs ≡ a.saved.cs
unfolding IsKernels IsUsers
same_cs cfg key a (inl k) = ap (λ (c : Cpu). c.cs) k.1
same_cs cfg key a (inr u) = edited_cs a.saved a.due u.2

selectors : (cfg : Description) (key : Key) (a : Activation) → IsKernels cfg key a ⊎ IsUsers cfg key a
    → (key.syscall ≡ true → a.due.cs ≡ user_cs64 cfg.cpu) → HasSelectors cfg key a.due
unfolding IsKernels IsUsers
selectors cfg key a (inl k) long = record {
  kernel = λ e. (k.2.cs, k.2.ss);
  user = λ e. absurd (true≢false (sym k.0 ∙ e));
  long = long;
  only = λ e none. absurd (true≢false (sym k.0 ∙ e));
}
selectors cfg key a (inr u) long = record {
  kernel = λ e. absurd (false≢true (sym u.0 ∙ e));
  user = λ e. (u.1.cs, u.1.ss);
  long = long;
  only = λ e none. only_long cfg a.due.cs none u.1.cs;
}

pub selectors_are_due : SelectorsAreDue
selectors_are_due cfg key chain F =
    let who = interrupted cfg key chain F in
    selectors cfg key (newest_of chain) who
    (λ e. same_cs cfg key (newest_of chain) who ∙ F.fits.long e)

-- ---- spaces

same_base : (who : Who) (env : SpaceEnv) (n k : ℕ) → who ≢ Any → WhoStands who env n → WhoStands who env k → n ≡ k
same_base KernelGs env n k known is other = is ∙ sym other
same_base OfUser env n k known is other = is ∙ sym other
same_base Any env n k known is other = absurd (known refl)

same_cr3 : (map : MapState) (env : SpaceEnv) (n k : ℕ) → map ≢ AnyMap → MapStands map env n → MapStands map env k
    → n ≡ k
same_cr3 KernelMap env n k known is other = is ∙ sym other
same_cr3 UserMap env n k known is other = is ∙ sym other
same_cr3 AnyMap env n k known is other = absurd (known refl)

pub spaces_are_kept : SpacesAreKept
spaces_are_kept cfg user_gs gs map cpu due active inactive known is other is_cr3 other_cr3 = record {
  gs = same_base gs.active (gs_env cfg user_gs) cpu.gs due.gs active is.active other.active;
  kgs = same_base gs.inactive (gs_env cfg user_gs) cpu.kgs due.kgs inactive is.inactive other.inactive;
  cr3 = same_cr3 map (cr3_env cfg) cpu.cr3 due.cr3 known is_cr3 other_cr3;
}

-- ---- latches

iret_latches : (m : Moment) (latches : Latches) → LatchesStand latches m.latch
    → LatchesStand (latches_at_return Iretq latches) (effect m Iretq).latch
unfolding effect row
iret_latches m latches stand = record { nmi_blocked = refl; shadow = refl; mcip = stand.mcip }

sysret_latches : (m : Moment) (latches : Latches) → LatchesStand latches m.latch
    → LatchesStand (latches_at_return Sysretq latches) (effect m Sysretq).latch
unfolding effect row
sysret_latches m latches stand = record { nmi_blocked = stand.nmi_blocked; shadow = refl; mcip = stand.mcip }

pub latches_follow : LatchesFollow
latches_follow m insn latches which stand =
    elim which [
      | inl e ↦
          subst (λ (i : Insn). LatchesStand (latches_at_return i latches) (effect m i).latch) (sym e)
          (iret_latches m latches stand)
      | inr e ↦
          subst (λ (i : Insn). LatchesStand (latches_at_return i latches) (effect m i).latch) (sym e)
          (sysret_latches m latches stand)
    ]
