-- What is known of an interrupted context, user or kernel, as a fact: each value stands for its word whatever the base
-- of the activation that an entry makes. From it the chain with that activation fits the key that is entered.
use Rattle.std.proofs.Common.{◌≡◌, ℕ, ◌<◌, not, Bool, true, false, List, [], ◌∷◌, ◌++◌, length, get_or, slice_index, All, Option, Some, None, IfSome, refl, sym, ap, ◌∙◌, subst}
use Rattle.std.proofs.lemmas.Bool.{true≢false}
use Rattle.std.proofs.lemmas.List.{set-get_or}
use Rattle.std.proofs.lemmas.Option.{slice_get_within}
use Rattle.kc_regions.specs.Description.{Description}
use Rattle.kc_regions.specs.Permission.{user_cs64}
use Rattle.kc_regions.specs.Region.{stack_of, stacks_of}
use Rattle.kc_regions.specs.Valid.{IsValid}
use Rattle.kc_cpu.specs.declared.cpu.Cpu.{Cpu}
use Rattle.kc_cpu.specs.declared.cpu.Mode.{Mode}
use Rattle.kc_cpu.specs.declared.cpu.Mode.TheVariants.{User, Code, Inside}
use Rattle.kc_exec.specs.Admitted.{IsAdmitted}
use Rattle.kc_exec.specs.Register.{register, rsp}
use Rattle.kc_exec.specs.declared.state.Activation.{Activation}
use Rattle.kc_exec.specs.declared.state.State.{State}
use Rattle.kc_events.specs.Allowed.{AreModelFlags}
use Rattle.kc_frames.specs.Slots.{AreSlots}
use Rattle.kc_value.specs.AbsValue.{AbsValue}
use Rattle.kc_value.specs.Made.{plain}
use Rattle.kc_value.specs.Value.{IsValidValue, Represents}
use Rattle.kc_value.specs.declared.env.ValueEnv.{ValueEnv}
use Rattle.kc_state.specs.Places.{word_of}
use Rattle.kc_state.specs.declared.interrupted.Interrupted.{Interrupted}
use Rattle.kc_state.specs.declared.key.Key.{Key}
use Rattle.kc_state.specs.declared.location.Location.{Location}
use Rattle.kc_describes.specs.Chain.{newest_of, oldest_of, words_of, user_gs_of, env_of, OnlyOldestIsUser, IsDue}
use Rattle.kc_describes.specs.Fits.{is_user_mode, IsKernelCpu, IsBaseOf, IsFrameBase, Fits, ChainFits}
use Rattle.kc_describes.specs.Places.{stack_spans, WordStands}
use Rattle.kc_describes.specs.Row.{value_at}
use Rattle.kc_describes.specs.Spaces.{GsStands, IsCr3Of, LatchesStand}
use Rattle.kc_describes.specs.Widths.{IsMachine}
use Rattle.kc_describes.proofs.LocationLemmas.{in_stack}
use Rattle.kc_describes.proofs.PermissionLemmas.{IsKnownCr3}
use Rattle.kc_delivers.proofs.ChainLemmas.{newest_is, each}

-- the activation that an entry makes
abbrev pub made : Cpu → Bool → ℕ → ℕ → Activation
made cpu syscall v base = record { syscall = syscall; vector = v; saved = cpu; base = base; due = cpu }

-- what symbols name after the entry
abbrev pub entry_env : Description → Cpu → ℕ → ℕ → ValueEnv
entry_env cfg cpu user_gs base =
    record { words = words_of cpu; base = base; user_gs = user_gs; stacks = stack_spans cfg }

-- the words of a frame, from the top downwards
abbrev pub five_words : Cpu → List ℕ
five_words cpu = cpu.ss ∷ register cpu rsp ∷ cpu.flags ∷ cpu.cs ∷ cpu.rip ∷ []

-- what is known of the interrupted context is true of the machine, with these slots
pub record IsInterrupted (cfg : Description) (i : Interrupted) (slots : List AbsValue) (S : State) (user_gs : ℕ)
    : Type 0
  where
    pub typed : IsMachine S
    pub running : S.stopped ≡ false
    pub side : i.kernel ≡ not (is_user_mode S.cpu.mode)
    pub gs : GsStands cfg user_gs i.gs S.cpu
    pub map : IsCr3Of cfg i.map S.cpu.cr3
    pub known : IsKnownCr3 cfg S.cpu.cr3
    pub latches : LatchesStand i.latches S.latch
    pub stack : stack_of cfg.regions (register S.cpu rsp) ≡ i.stack
    pub count : length i.regs ≡ 16
    pub regs : (base w : ℕ) → w < 16
        → Represents (value_at i.regs w) (entry_env cfg S.cpu user_gs base) (slice_index S.cpu.regs w)
    pub frame_count : length i.frame ≡ 5
    pub frame : (base j : ℕ) → j < 5
        → Represents (value_at i.frame j) (entry_env cfg S.cpu user_gs base) (get_or (five_words S.cpu) j 0)
    pub slots_ok : AreSlots IsValidValue slots
    pub fixed : (key : Key) (j : ℕ) (l : Location) (base : ℕ) → j < 40 → word_of cfg key j ≡ Some l
        → WordStands (entry_env cfg S.cpu user_gs base) S.mem.bytes (plain (value_at slots j)) l
    pub model : AreModelFlags S.cpu.flags
    pub alone : i.kernel ≡ false → i.stack ≡ None
    pub user : i.kernel ≡ false → IsAdmitted cfg S.cpu
    pub kernel : i.kernel ≡ true → IsKernelCpu cfg S.cpu
    pub user_gs_is : (a : Activation) → a.saved ≡ S.cpu → user_gs_of (S.chain ++ a ∷ []) ≡ user_gs
    pub one_user : (a : Activation) → a.saved ≡ S.cpu → OnlyOldestIsUser (S.chain ++ a ∷ [])
    pub admitted : (a : Activation) → a.saved ≡ S.cpu → IsAdmitted cfg (oldest_of (S.chain ++ a ∷ [])).saved
    pub due : All (IsDue cfg) S.chain

-- ---- a stack's number

listed : (cfg : Description) (a : ℕ) (o : Option ℕ) → IsValid cfg → stack_of cfg.regions a ≡ o
    → IfSome o (λ s. s < length (stacks_of cfg.regions))
listed cfg a (Some s) valid e =
    let there = in_stack cfg s a valid e in slice_get_within (stacks_of cfg.regions) s there.region there.numbered
listed cfg a None valid e = tt

-- ---- the new activation

user_side : (mode : Mode) → not (is_user_mode mode) ≡ false → mode ≡ User
user_side User h = refl
user_side Code h = absurd (true≢false h)
user_side (Inside call) h = absurd (true≢false h)

own_due : (cfg : Description) (cpu : Cpu) (syscall : Bool) (v base : ℕ) → (cpu.mode ≡ User → IsAdmitted cfg cpu)
    → IsDue cfg (made cpu syscall v base)
own_due cfg cpu syscall v base ok = record {
  kernel = λ other. refl;
  user = λ is. (
    ok is,
    let same : cpu.regs ≡ _ = sym (set-get_or cpu.regs 4 0) in
        λ k. record cpu { regs = same k },
  );
}

module _ (cfg : Description) (valid : IsValid cfg) (i : Interrupted) (slots : List AbsValue) (S : State) (user_gs : ℕ)
    (I : IsInterrupted cfg i slots S user_gs) (key : Key) (v base : ℕ) where
  abbrev pub act : Activation
  act = made S.cpu key.syscall v base

  abbrev pub chain : List Activation
  chain = S.chain ++ act ∷ []

  abbrev pub env : ValueEnv
  env = entry_env cfg S.cpu user_gs base

  pub env_is : env_of cfg chain ≡ env
  env_is =
      let newest : newest_of chain ≡ act = newest_is S.chain act in
      let own : user_gs_of chain ≡ user_gs = I.user_gs_is act refl in
      λ k. record {
        words = words_of (newest k).due;
        base = (newest k).base;
        user_gs = own k;
        stacks = stack_spans cfg;
      }

  pub base_is : (newest_of chain).base ≡ base
  base_is = ap (λ a. a.base) (newest_is S.chain act)

  -- the key is that of the entry
  pub record IsEntryKey : Type 0 where
    pub vector : key.vector ≡ v
    pub side : key.kernel ≡ i.kernel
    pub gs : key.gs ≡ i.gs
    pub map : key.map ≡ i.map
    pub stack : key.stack ≡ i.stack
    pub syscall : key.syscall ≡ true → (v ≡ 0) × (i.kernel ≡ false) × (key.base ≡ None)
    pub based : IsBaseOf cfg key.base key.syscall key.stack base
    pub frame : key.syscall ≡ false → IsFrameBase cfg base
    pub long : key.syscall ≡ true → S.cpu.cs ≡ user_cs64 cfg.cpu

  module _ (K : IsEntryKey) where
    pub fits : Fits cfg key user_gs act
    fits = record {
      rules = record {
        syscall = λ h.
            let p = K.syscall h in (K.vector ∙ p.0, K.side ∙ p.1, p.2);
        user = λ h. K.stack ∙ I.alone (sym K.side ∙ h);
        stack = listed cfg (register S.cpu rsp) key.stack valid (I.stack ∙ sym K.stack);
      };
      kind = refl;
      vector = sym K.vector;
      side = K.side ∙ I.side;
      gs = subst (λ z. GsStands cfg user_gs z S.cpu) (sym K.gs) I.gs;
      map = subst (λ z. IsCr3Of cfg z S.cpu.cr3) (sym K.map) I.map;
      stack = I.stack ∙ sym K.stack;
      base = K.based;
      frame = K.frame;
      user = λ h. I.user (sym K.side ∙ h);
      long = K.long;
      kernel = λ h. I.kernel (sym K.side ∙ h);
    }

    pub chain_fits : ChainFits cfg key chain
    chain_fits = record {
      fits =
          subst (λ a. Fits cfg key (user_gs_of chain) a) (sym (newest_is S.chain act))
          (subst (λ n. Fits cfg key n act) (sym (I.user_gs_is act refl)) fits);
      one_user = I.one_user act refl;
      admitted = I.admitted act refl;
      due =
          each (IsDue cfg) S.chain act I.due
          (own_due cfg S.cpu key.syscall v base (λ is. I.user (I.side ∙ ap (λ z. not (is_user_mode z)) is)));
    }
