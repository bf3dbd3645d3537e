-- What is known of interrupted kernel code at a code site is true of the machine that the state describes, from C4 and
-- from two facts on RSP: that its stack is the one that is named, and that the saved RSP is stood for.
use Rattle.std.proofs.Common.{◌≡◌, ◌≢◌, ℕ, zero, suc, ◌+◌, ◌^◌, ◌<◌, not, nat_lt, cond, Bool, true, false, List, [], ◌∷◌, ◌++◌, length, get_or, slice_index, Option, Some, refl, sym, ap, ◌∙◌, subst, arith}
use Rattle.std.proofs.lemmas.Bool.{true≢false, lt-ltb}
use Rattle.kc_insn.specs.declared.insn.Insn.{Insn}
use Rattle.kc_bits.specs.Bits.{all_of, nothing_known}
use Rattle.kc_bits.proofs.Whole.{all_stands}
use Rattle.kc_regions.specs.Description.{Description}
use Rattle.kc_regions.specs.Region.{stack_of}
use Rattle.kc_regions.specs.Valid.{IsValid}
use Rattle.kc_regions.specs.declared.entry.Handler.{Handler}
use Rattle.kc_cpu.specs.declared.cpu.Mode.TheVariants.{User}
use Rattle.kc_mem.specs.Memory.{read}
use Rattle.kc_exec.specs.Admitted.{IsAdmitted}
use Rattle.kc_exec.specs.Register.{register, rsp}
use Rattle.kc_exec.specs.declared.state.Activation.{Activation}
use Rattle.kc_exec.specs.declared.state.State.{State}
use Rattle.kc_frames.specs.Slots.{redone}
use Rattle.kc_value.specs.AbsValue.{AbsValue}
use Rattle.kc_value.specs.Made.{plain}
use Rattle.kc_value.specs.Value.{Represents, value_top}
use Rattle.kc_value.specs.declared.env.ValueEnv.{ValueEnv}
use Rattle.kc_value.specs.declared.symbol.Sym.TheVariants.{Entry}
use Rattle.kc_state.specs.AbsDelivery.{entry_of, own_register, interrupted_at}
use Rattle.kc_state.specs.Places.{word_of}
use Rattle.kc_state.specs.State.{IsState}
use Rattle.kc_state.specs.declared.interrupted.Interrupted.{Interrupted}
use Rattle.kc_state.specs.declared.key.Key.{Key}
use Rattle.kc_state.specs.declared.location.Location.{Location}
use Rattle.kc_state.specs.declared.state.AbsState.{AbsState}
use Rattle.kc_describes.specs.Chain.{newest_of, oldest_of, user_gs_of, env_of}
use Rattle.kc_describes.specs.Describes.{Describes}
use Rattle.kc_describes.specs.Fits.{is_user_mode}
use Rattle.kc_describes.specs.Places.{address_of, WordStands}
use Rattle.kc_describes.specs.Row.{value_at, RegistersStand}
use Rattle.kc_describes.proofs.FrameLemmas.{code, code_file}
use Rattle.kc_describes.proofs.PermissionLemmas.{IsKnownCr3}
use Rattle.kc_describes.proofs.SlotLemmas.{get_or-redone, area_word}
use Rattle.kc_describes.proofs.ValueLemmas.{nothing_stands}
use Rattle.kc_returns.proofs.WordLemmas.{register_word, later_word}
use Rattle.kc_delivers.proofs.ChainLemmas.{oldest_is, one_user}
use Rattle.kc_delivers.proofs.InterruptedLemmas.{entry_env, five_words, IsInterrupted}
use Rattle.kc_delivers.proofs.UserLemmas.{entry_stands}

redone_count : {V : Type 0} (f : ℕ → V → V) (k : ℕ) (vs : List V) → length (redone f k vs) ≡ length vs
redone_count f k [] = refl
redone_count f k (v ∷ vs) = ap suc (redone_count f (suc k) vs)

-- words of areas are the same for each key
second : {A : Type 0} (b c : Bool) (x y z w : A) → c ≡ true → cond b x (cond c y z) ≡ cond b x (cond c y w)
second b c x y z w e = ap (λ t. cond b x (cond t y z)) e ∙ sym (ap (λ t. cond b x (cond t y w)) e)

same_word : (cfg : Description) (key other : Key) (j : ℕ) → j < 40 → word_of cfg key j ≡ word_of cfg other j
same_word cfg key other j low = second (nat_lt j 8) (nat_lt j 40) _ _ _ _ (lt-ltb j 40 low)

module _ (cfg : Description) (valid : IsValid cfg) (key : Key) (at : ℕ) (found : Option (Insn × ℕ)) (s : AbsState)
    (S : State) (ok : IsState s) (D : Describes cfg key (code at) found s S) (h : Option Handler)
    (known : IsKnownCr3 cfg S.cpu.cr3) where
  abbrev pub i : Interrupted
  i = interrupted_at cfg key (code at) s h

  abbrev user_gs : ℕ
  user_gs = user_gs_of S.chain

  regs_count : length S.cpu.regs ≡ 16
  regs_count = D.typed.cpu.regs.0

  file : RegistersStand (env_of cfg S.chain) s S.cpu.regs S.cpu.flags
  file = code_file (env_of cfg S.chain) s S.cpu S.cpu.mode D.point.0 D.file

  -- ---- words

  module _ (base : ℕ) where
    abbrev env : ValueEnv
    env = entry_env cfg S.cpu user_gs base

    own : (w n : ℕ) (v : AbsValue) → get_or env.words w 0 ≡ n → Represents v (env_of cfg S.chain) n
        → Represents (record v { sym = Entry w }) env n
    own w n v is r = record { symbol = sym is; bits = r.bits; place = r.place }

    registers : (w : ℕ) → w < 16 → Represents (value_at i.regs w) env (slice_index S.cpu.regs w)
    registers w few =
        let value : value_at i.regs w ≡ own_register false (0 + w) (value_at s.regs w) =
        get_or-redone (own_register false) value_top 0 w s.regs (omega (arith, few, ok.reg_count)) in
        let number : 0 + w ≡ w = omega arith in
        subst (λ v. Represents v env (slice_index S.cpu.regs w))
        (sym (value ∙ ap (λ k. own_register false k (value_at s.regs w)) number))
        (own w (slice_index S.cpu.regs w) (value_at s.regs w) (register_word S.cpu regs_count w few) (file.each w few))

    word_stands : (w n : ℕ) → get_or env.words w 0 ≡ n → n < 2 ^ 64 → Represents (entry_of w (all_of n)) env n
    word_stands w n is fits = entry_stands cfg valid S.cpu user_gs base w n (all_of n) is (all_stands n fits)

    own_cs : Represents (entry_of 18 (all_of cfg.cpu.star_kernel)) env S.cpu.cs
    own_cs =
        let fits = D.typed.cpu.cs in
        subst (λ n. Represents (entry_of 18 (all_of n)) env S.cpu.cs) D.kernel.cs
        (word_stands 18 S.cpu.cs (later_word S.cpu regs_count 2) (omega (arith, fits)))

    own_rip : Represents (entry_of 16 (all_of at)) env S.cpu.rip
    own_rip =
        subst (λ n. Represents (entry_of 16 (all_of n)) env S.cpu.rip) D.point.1
        (word_stands 16 S.cpu.rip (later_word S.cpu regs_count 0) D.typed.cpu.rip)

    own_ss : Represents (entry_of 19 nothing_known) env S.cpu.ss
    own_ss =
        entry_stands cfg valid S.cpu user_gs base 19 S.cpu.ss nothing_known (later_word S.cpu regs_count 3)
        (nothing_stands S.cpu.ss)

    own_flags : Represents (entry_of 17 s.flags.bits) env S.cpu.flags
    own_flags =
        entry_stands cfg valid S.cpu user_gs base 17 S.cpu.flags s.flags.bits (later_word S.cpu regs_count 1)
        file.rflags.bits

    frame : Represents (value_at i.frame 1) env (register S.cpu rsp) → (j : ℕ) → j < 5
        → Represents (value_at i.frame j) env (get_or (five_words S.cpu) j 0)
    frame saved zero few = own_ss
    frame saved (suc zero) few = saved
    frame saved (suc (suc zero)) few = own_flags
    frame saved (suc (suc (suc zero))) few = own_cs
    frame saved (suc (suc (suc (suc zero)))) few = own_rip
    frame saved (suc (suc (suc (suc (suc j))))) few = absurd (omega (arith, few))

    -- a word of an area lies at the same address whatever the base and the key
    fixed : (other : Key) (j : ℕ) (l : Location) → j < 40 → word_of cfg other j ≡ Some l
        → WordStands env S.mem.bytes (plain (value_at s.slots j)) l
    fixed other j l low e =
        let own_word = same_word cfg key other j low ∙ e in
        let w = area_word cfg key j l valid low own_word in
        let old = (newest_of S.chain).base in
        let same : address_of old l ≡ address_of base l =
        ap (address_of old) w.is ∙ sym (ap (address_of base) w.is) in
        let r = D.slots j l (omega (arith, low)) own_word in
        subst (λ a. Represents (plain (value_at s.slots j)) env (read S.mem.bytes a 8)) same
        (record { symbol = tt; bits = r.bits; place = r.place })

  -- ---- the chain

  kernel_side : (a : Activation) → a.saved ≡ S.cpu → a.saved.mode ≢ User
  kernel_side a is user =
      let mode : S.cpu.mode ≡ User = sym (ap (λ c. c.mode) is) ∙ user in
      true≢false (sym (ap is_user_mode mode) ∙ ap is_user_mode D.point.0)

  same_user_gs : (a : Activation) → user_gs_of (S.chain ++ a ∷ []) ≡ user_gs
  same_user_gs a = ap (λ b. b.saved.gs) (oldest_is S.chain a D.chain.one_user)

  same_admitted : (a : Activation) → IsAdmitted cfg (oldest_of (S.chain ++ a ∷ [])).saved
  same_admitted a =
      subst (λ b. IsAdmitted cfg b.saved) (sym (oldest_is S.chain a D.chain.one_user)) D.chain.admitted

  -- ---- the whole

  pub kernel_interrupted : stack_of cfg.regions (register S.cpu rsp) ≡ i.stack
      → ((base : ℕ) → Represents (value_at i.frame 1) (env base) (register S.cpu rsp))
      → IsInterrupted cfg i s.slots S user_gs
  kernel_interrupted stack saved = record {
    typed = D.typed;
    running = D.running;
    side = sym (ap (λ z. not (is_user_mode z)) D.point.0);
    gs = record { active = D.spaces.gs.active; inactive = D.spaces.gs.inactive };
    map = D.spaces.map;
    known = known;
    latches = D.spaces.latches;
    stack = stack;
    count = redone_count (own_register false) 0 s.regs ∙ ok.reg_count;
    regs = registers;
    frame_count = refl;
    frame = λ base j few. frame base (saved base) j few;
    slots_ok = ok.slots;
    fixed = λ other j l base low e. fixed base other j l low e;
    model = D.kernel.flags;
    alone = λ e. absurd (true≢false e);
    user = λ e. absurd (true≢false e);
    kernel = λ e. D.kernel;
    user_gs_is = λ a is. same_user_gs a;
    one_user = λ a is. one_user S.chain a D.chain.one_user (kernel_side a is);
    admitted = λ a is. same_admitted a;
    due = D.chain.due;
  }
