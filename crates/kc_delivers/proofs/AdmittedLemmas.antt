-- What is known of the interrupted user is true of the machine that the user state describes: each register and each
-- word of the frame by its symbol, the words of areas by values without one, the latches by the user state's.
use Rattle.std.proofs.Common.{◌≡◌, ℕ, zero, suc, ◌+◌, ◌<◌, not, inr, List, [], ◌∷◌, ◌++◌, length, get_or, slice_index, All, Some, refl, sym, ap, ◌∙◌, subst, arith}
use Rattle.std.proofs.lemmas.Bool.{false≢true}
use Rattle.std.proofs.lemmas.List.Elements.{All-nil}
use Rattle.kc_bits.specs.Bits.{StandsFor, all_of, nothing_known}
use Rattle.kc_bits.proofs.Whole.{all_stands}
use Rattle.kc_regions.specs.Description.{Description}
use Rattle.kc_regions.specs.Permission.{user_ss}
use Rattle.kc_regions.specs.Valid.{IsValid}
use Rattle.kc_cpu.specs.declared.cpu.Cpu.{Cpu}
use Rattle.kc_cpu.specs.declared.cpu.Mode.TheVariants.{User}
use Rattle.kc_mem.specs.Memory.{read}
use Rattle.kc_exec.specs.Admitted.{IsAdmitted}
use Rattle.kc_exec.specs.Register.{register, rsp}
use Rattle.kc_exec.specs.declared.state.Activation.{Activation}
use Rattle.kc_exec.specs.declared.state.State.{State}
use Rattle.kc_value.specs.AbsValue.{AbsValue}
use Rattle.kc_value.specs.Made.{plain}
use Rattle.kc_value.specs.Value.{Represents}
use Rattle.kc_value.specs.declared.env.ValueEnv.{ValueEnv}
use Rattle.kc_state.specs.AbsDelivery.{entry_of, user_cs, interrupted_user}
use Rattle.kc_state.specs.Calls.{edited_rip, edited_flags, edited_rsp}
use Rattle.kc_state.specs.Places.{word_of}
use Rattle.kc_state.specs.User.{IsUserState}
use Rattle.kc_state.specs.declared.interrupted.Interrupted.{Interrupted}
use Rattle.kc_state.specs.declared.key.Key.{Key}
use Rattle.kc_state.specs.declared.location.Location.{Location}
use Rattle.kc_state.specs.declared.user.UserState.{UserState}
use Rattle.kc_describes.specs.Chain.{oldest_of, user_gs_of, OnlyOldestIsUser, IsDue}
use Rattle.kc_describes.specs.Fits.{is_user_mode}
use Rattle.kc_describes.specs.Places.{address_of, WordStands}
use Rattle.kc_describes.specs.Row.{value_at}
use Rattle.kc_describes.specs.User.{UserDescribes}
use Rattle.kc_describes.proofs.SlotLemmas.{area_word}
use Rattle.kc_describes.proofs.ValueLemmas.{nothing_stands}
use Rattle.kc_returns.proofs.WordLemmas.{register_word, later_word}
use Rattle.kc_delivers.proofs.FlagLemmas.{user_model, user_flags_stand, user_rip_stands}
use Rattle.kc_delivers.proofs.InterruptedLemmas.{entry_env, five_words, IsInterrupted}
use Rattle.kc_delivers.proofs.UserLemmas.{cs_stands, entry_stands, rsp_stands}

module _ (cfg : Description) (valid : IsValid cfg) (u : UserState) (ok : IsUserState u) (S : State)
    (U : UserDescribes cfg u S) where
  abbrev pub i : Interrupted
  i = interrupted_user cfg u

  abbrev regs_count : length S.cpu.regs ≡ 16
  regs_count = U.typed.cpu.regs.0

  module _ (base : ℕ) where
    abbrev env : ValueEnv
    env = entry_env cfg S.cpu S.cpu.gs base

    unknown_register : (w : ℕ) → w < 16 → Represents (entry_of w nothing_known) env (slice_index S.cpu.regs w)
    unknown_register w few =
        let n = slice_index S.cpu.regs w in
        entry_stands cfg valid S.cpu S.cpu.gs base w n nothing_known (register_word S.cpu regs_count w few)
        (nothing_stands n)

    own_rsp : Represents edited_rsp env (register S.cpu rsp)
    own_rsp =
        let n = register S.cpu rsp in
        rsp_stands cfg valid S.cpu S.cpu.gs base n (register_word S.cpu regs_count 4 (omega arith)) (nothing_stands n)
        U.processor.stack

    pub own_rip : Represents edited_rip env S.cpu.rip
    own_rip =
        entry_stands cfg valid S.cpu S.cpu.gs base 16 S.cpu.rip edited_rip.bits (later_word S.cpu regs_count 0)
        (user_rip_stands S.cpu.rip U.processor.rip)

    pub own_flags : Represents edited_flags env S.cpu.flags
    own_flags =
        entry_stands cfg valid S.cpu S.cpu.gs base 17 S.cpu.flags edited_flags.bits (later_word S.cpu regs_count 1)
        (user_flags_stand S.cpu.flags U.typed.cpu.flags U.processor.flags)

    -- each value stands for its register, from number w on
    abbrev AreOwn : List AbsValue → ℕ → Type 0
    AreOwn [] w = Unit {0}
    AreOwn (v ∷ vs) w = Represents v env (slice_index S.cpu.regs w) × AreOwn vs (suc w)

    own_at : (vs : List AbsValue) (k w : ℕ) → AreOwn vs k → w < length vs
        → Represents (value_at vs w) env (slice_index S.cpu.regs (k + w))
    own_at [] k w own few = absurd (omega (arith, few))
    own_at (v ∷ vs) k zero own few =
        let same : k ≡ k + 0 = omega arith in subst (λ z. Represents v env (slice_index S.cpu.regs z)) same own.0
    own_at (v ∷ vs) k (suc w) own few =
        let same : suc k + w ≡ k + suc w = omega arith in
        subst (λ z. Represents (value_at vs w) env (slice_index S.cpu.regs z)) same
        (own_at vs (suc k) w own.1 (omega (arith, few)))

    are_own : AreOwn i.regs 0
    are_own =
        let own = unknown_register in (
          own 0 (omega arith),
          (
            own 1 (omega arith),
            (
              own 2 (omega arith),
              (
                own 3 (omega arith),
                (
                  own_rsp,
                  (
                    own 5 (omega arith),
                    (
                      own 6 (omega arith),
                      (
                        own 7 (omega arith),
                        (
                          own 8 (omega arith),
                          (
                            own 9 (omega arith),
                            (
                              own 10 (omega arith),
                              (
                                own 11 (omega arith),
                                (
                                  own 12 (omega arith),
                                  (
                                    own 13 (omega arith),
                                    (own 14 (omega arith), (own 15 (omega arith), tt)),
                                  ),
                                ),
                              ),
                            ),
                          ),
                        ),
                      ),
                    ),
                  ),
                ),
              ),
            ),
          ),
        )

    registers : (w : ℕ) → w < 16 → Represents (value_at i.regs w) env (slice_index S.cpu.regs w)
    registers w few =
        let same : 0 + w ≡ w = omega arith in
        subst (λ z. Represents (value_at i.regs w) env (slice_index S.cpu.regs z)) same
        (own_at i.regs 0 w are_own (omega (arith, few)))

    own_ss : Represents (entry_of 19 (all_of (user_ss cfg.cpu))) env S.cpu.ss
    own_ss =
        let fits = U.typed.cpu.ss in
        entry_stands cfg valid S.cpu S.cpu.gs base 19 S.cpu.ss (all_of (user_ss cfg.cpu))
        (later_word S.cpu regs_count 3)
        (subst (λ n. StandsFor (all_of n) S.cpu.ss) U.processor.ss (all_stands S.cpu.ss (omega (arith, fits))))

    own_cs : Represents (entry_of 18 (user_cs cfg cfg.cpu.user_cs32)) env S.cpu.cs
    own_cs =
        let fits = U.typed.cpu.cs in
        entry_stands cfg valid S.cpu S.cpu.gs base 18 S.cpu.cs (user_cs cfg cfg.cpu.user_cs32)
        (later_word S.cpu regs_count 2)
        (cs_stands cfg S.cpu.cs cfg.cpu.user_cs32 (omega (arith, fits)) U.processor.cs)

    frame : (j : ℕ) → j < 5 → Represents (value_at i.frame j) env (get_or (five_words S.cpu) j 0)
    frame zero few = own_ss
    frame (suc zero) few = own_rsp
    frame (suc (suc zero)) few = own_flags
    frame (suc (suc (suc zero))) few = own_cs
    frame (suc (suc (suc (suc zero)))) few = own_rip
    frame (suc (suc (suc (suc (suc j))))) few = absurd (omega (arith, few))

    -- a word of an area lies at the same address whatever the base
    fixed : (key : Key) (j : ℕ) (l : Location) → j < 40 → word_of cfg key j ≡ Some l
        → WordStands env S.mem.bytes (plain (value_at u.slots j)) l
    fixed key j l low e =
        let w = area_word cfg key j l valid low e in
        let same : address_of 0 l ≡ address_of base l = ap (address_of 0) w.is ∙ sym (ap (address_of base) w.is) in
        let r = (U.words key j l low e).1 in
        subst (λ a. Represents (plain (value_at u.slots j)) env (read S.mem.bytes a 8)) same
        (record { symbol = tt; bits = r.bits; place = r.place })

  -- ---- the whole

  alone_user_gs : (a : Activation) → a.saved ≡ S.cpu → user_gs_of (S.chain ++ a ∷ []) ≡ S.cpu.gs
  alone_user_gs a is =
      ap (λ (c : List Activation). user_gs_of (c ++ a ∷ [])) U.chain ∙ ap (λ (c : Cpu). c.gs) is

  alone_one_user : (a : Activation) → a.saved ≡ S.cpu → OnlyOldestIsUser (S.chain ++ a ∷ [])
  alone_one_user a is =
      subst (λ (c : List Activation). OnlyOldestIsUser (c ++ a ∷ [])) (sym U.chain)
      (ap (λ (c : Cpu). c.mode) is ∙ U.mode, All-nil (λ b. b.saved.mode ≡ User → ⊥))

  alone_admitted : (a : Activation) → a.saved ≡ S.cpu → IsAdmitted cfg (oldest_of (S.chain ++ a ∷ [])).saved
  alone_admitted a is =
      subst (λ (c : List Activation). IsAdmitted cfg (oldest_of (c ++ a ∷ [])).saved) (sym U.chain)
      (subst (IsAdmitted cfg) (sym is) U.processor)

  pub interrupted : IsInterrupted cfg i u.slots S S.cpu.gs
  interrupted = record {
    typed = U.typed;
    running = U.running;
    side = sym (ap (λ z. not (is_user_mode z)) U.mode);
    gs = record { active = refl; inactive = U.processor.inactive };
    map = U.processor.cr3;
    known = inr U.processor.cr3;
    latches = record { nmi_blocked = U.nmi_blocked; shadow = U.shadow; mcip = U.mcip };
    stack = U.processor.stack;
    count = refl;
    regs = registers;
    frame_count = refl;
    frame = frame;
    slots_ok = ok;
    fixed = λ key j l base low e. fixed base key j l low e;
    model = user_model S.cpu.flags U.processor.flags;
    alone = λ h. refl;
    user = λ h. U.processor;
    kernel = λ h. absurd (false≢true h);
    user_gs_is = alone_user_gs;
    one_user = alone_one_user;
    admitted = alone_admitted;
    due = subst (All (IsDue cfg)) (sym U.chain) (All-nil (IsDue cfg));
  }
