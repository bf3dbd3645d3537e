-- After a return the processor is the one that is due. Flags and selectors are loaded as they are, the spaces are the
-- key's, so the interrupted processor's, and by C12 each register of interrupted kernel code still holds its word. The
-- chain loses its newest activation, which alone can have interrupted the user.
use Rattle.std.proofs.Common.{◌≡◌, ◌≢◌, ℕ, ◌%◌, ◌^◌, ◌<◌, ◌&&◌, not, inl, inr, ◌⊎◌, Bool, true, false, List, [], ◌∷◌, ◌++◌, length, get_or, set, All, Option, Some, slice_index, get_or-set_same, get_or-set_other, mod-eq_of_lt, refl, sym, ap, ◌∙◌, subst, arith}
use Rattle.std.proofs.lemmas.Bool.{and_parts, or_cases, not-true, cases_eq, true≢false, false≢true}
use Rattle.std.proofs.lemmas.Grind.{same_number_lists}
use Rattle.std.proofs.lemmas.List.{length-set}
use Rattle.std.proofs.lemmas.List.Elements.{All-nil, All-cons, All-head, All-tail, All-set}
use Rattle.kc_insn.specs.declared.insn.Insn.{Insn}
use Rattle.kc_regions.specs.Description.{Description}
use Rattle.kc_regions.specs.Permission.{user_cs64, user_ss, is_user_cs}
use Rattle.kc_regions.specs.Region.{stack_of}
use Rattle.kc_regions.specs.Valid.{IsValid}
use Rattle.kc_cpu.specs.declared.cpu.Cpu.{Cpu}
use Rattle.kc_cpu.specs.declared.cpu.Mode.{Mode}
use Rattle.kc_cpu.specs.declared.cpu.Mode.TheVariants.{User, Code, Inside}
use Rattle.kc_space.specs.Spaces.{is_same_who, is_same_map}
use Rattle.kc_space.specs.declared.map.MapState.{MapState}
use Rattle.kc_space.specs.declared.map.MapState.TheVariants as map
use Rattle.kc_space.specs.declared.who.Who.{Who}
use Rattle.kc_space.specs.declared.who.Who.TheVariants as who
use Rattle.kc_mem.specs.Memory.{AreBytes}
use Rattle.kc_mem.proofs.NumberLemmas.{read_word}
use Rattle.kc_exec.specs.Admitted.{AreUserFlags, IsUserGs, IsAdmitted}
use Rattle.kc_exec.specs.Change.{stack_address, stack_word}
use Rattle.kc_exec.specs.Moment.{Moment}
use Rattle.kc_exec.specs.Register.{register, with_register, rcx, rsp, r11}
use Rattle.kc_exec.specs.RFlags.{loadable, sysret_mask, loaded}
use Rattle.kc_exec.specs.declared.state.Activation.{Activation}
use Rattle.kc_exec.specs.declared.state.State.{State}
use Rattle.kc_events.specs.Breaks.{IsContext, Restores}
use Rattle.kc_events.specs.Turns.{newest, without_newest}
use Rattle.kc_state.specs.Conditions.{is_exact, rest_restores, is_entry, are_entries}
use Rattle.kc_state.specs.Operand.{AbsMoment}
use Rattle.kc_state.specs.State.{IsState}
use Rattle.kc_state.specs.declared.key.Key.{Key}
use Rattle.kc_state.specs.declared.state.AbsState.{AbsState}
use Rattle.kc_describes.specs.Chain.{newest_of, user_gs_of, words_of, OnlyOldestIsUser}
use Rattle.kc_describes.specs.Describes.{Describes}
use Rattle.kc_describes.specs.Fits.{is_user_mode}
use Rattle.kc_describes.specs.Returned.{GivesBack}
use Rattle.kc_describes.specs.Row.{value_at}
use Rattle.kc_describes.specs.Spaces.{IsGsOf, IsCr3Of}
use Rattle.kc_describes.specs.Widths.{IsWord, IsMode, IsCpu, IsActivation}
use Rattle.kc_returns.specs.Returns.{HasSpaces, due_of}
use Rattle.kc_returns.specs.Whole.{HoldsFrame}
use Rattle.kc_returns.proofs.LoadLemmas.{IsKernels, IsUsers, interrupted}
use Rattle.kc_returns.proofs.LoadLemmas.{flags_reload, selectors_are_due, spaces_are_kept}
use Rattle.kc_returns.proofs.WordLemmas.{m, c, typed_due, reg_due, register_word, later_word, entries_at}

-- ---- C12

-- what C12 says of the registers that a SYSRETQ loads
abbrev pub loads_user : AbsMoment → Bool
loads_user m =
    is_entry (value_at m.cpu.regs 1) 16
    && (is_entry (value_at m.cpu.regs 11) 17 && is_entry (value_at m.cpu.regs 4) 4)

-- ---- the chain

-- a chain with an activation is the one without its newest, and that one
pub rejoined : (chain : List Activation) → OnlyOldestIsUser chain
    → chain ≡ without_newest chain ++ newest_of chain ∷ []
rejoined [] some = absurd some
rejoined (a ∷ []) some = refl
rejoined (a ∷ (b ∷ newer)) some = ap (λ (rest : List Activation). a ∷ rest) (later b newer)
  where
    later : (b : Activation) (newer : List Activation)
        → b ∷ newer ≡ without_newest (b ∷ newer) ++ newest_of (b ∷ newer) ∷ []
    later b [] = refl
    later b (d ∷ more) = ap (λ (rest : List Activation). b ∷ rest) (later d more)

last_some : (a : Activation) (newer : List Activation) → newest (a ∷ newer) ≡ Some (newest_of (a ∷ newer))
last_some a [] = refl
last_some a (b ∷ newer) = last_some b newer

pub newest_some : (chain : List Activation) → OnlyOldestIsUser chain → newest chain ≡ Some (newest_of chain)
newest_some [] some = absurd some
newest_some (a ∷ newer) some = last_some a newer

front_all : (P : Activation → Type 0) (chain : List Activation) → All P chain → All P (without_newest chain)
front_all P [] all = all
front_all P (a ∷ []) all = All-nil P
front_all P (a ∷ (b ∷ newer)) all =
    All-cons P a (without_newest (b ∷ newer)) (All-head P a (b ∷ newer) all)
    (front_all P (b ∷ newer) (All-tail P a (b ∷ newer) all))

last_all : (P : Activation → Type 0) (a : Activation) (newer : List Activation) → All P (a ∷ newer)
    → P (newest_of (a ∷ newer))
last_all P a [] all = All-head P a [] all
last_all P a (b ∷ newer) all = last_all P b newer (All-tail P a (b ∷ newer) all)

-- where the newest activation interrupted the user, it is the only one
user_alone : (chain : List Activation) → OnlyOldestIsUser chain → (newest_of chain).saved.mode ≡ User
    → without_newest chain ≡ []
user_alone [] some is = absurd some
user_alone (a ∷ []) some is = refl
user_alone (a ∷ (b ∷ newer)) some is = absurd (last_all (λ d. d.saved.mode ≢ User) b newer some.1 is)

-- ---- spaces

same_who : (x y : Who) → is_same_who x y ≡ true → x ≡ y
same_who who.Kernel who.Kernel h = refl
same_who who.Kernel who.User h = absurd (false≢true h)
same_who who.Kernel who.Any h = absurd (false≢true h)
same_who who.User who.Kernel h = absurd (false≢true h)
same_who who.User who.User h = refl
same_who who.User who.Any h = absurd (false≢true h)
same_who who.Any who.Kernel h = absurd (false≢true h)
same_who who.Any who.User h = absurd (false≢true h)
same_who who.Any who.Any h = refl

same_map : (x y : MapState) → is_same_map x y ≡ true → x ≡ y
same_map map.Kernel map.Kernel h = refl
same_map map.Kernel map.User h = absurd (false≢true h)
same_map map.Kernel map.Any h = absurd (false≢true h)
same_map map.User map.Kernel h = absurd (false≢true h)
same_map map.User map.User h = refl
same_map map.User map.Any h = absurd (false≢true h)
same_map map.Any map.Kernel h = absurd (false≢true h)
same_map map.Any map.User h = absurd (false≢true h)
same_map map.Any map.Any h = refl

known_who : (w : Who) → not (is_same_who w who.Any) ≡ true → w ≢ who.Any
known_who w h e = true≢false (sym h ∙ ap (λ x. not (is_same_who x who.Any)) e)

known_map : (w : MapState) → not (is_same_map w map.Any) ≡ true → w ≢ map.Any
known_map w h e = true≢false (sym h ∙ ap (λ x. not (is_same_map x map.Any)) e)

-- what is due has the GS bases and the CR3 of the interrupted processor
due_spaces : (cfg : Description) (key : Key) (a : Activation) → IsKernels cfg key a ⊎ IsUsers cfg key a
    → HasSpaces a.due a.saved
unfolding IsKernels IsUsers
due_spaces cfg key a (inl k) = record {
  gs = ap (λ (cpu : Cpu). cpu.gs) k.1;
  kgs = ap (λ (cpu : Cpu). cpu.kgs) k.1;
  cr3 = ap (λ (cpu : Cpu). cpu.cr3) k.1;
}
due_spaces cfg key a (inr u) = record {
  gs = ap (λ (cpu : Cpu). cpu.gs) u.2;
  kgs = ap (λ (cpu : Cpu). cpu.kgs) u.2;
  cr3 = ap (λ (cpu : Cpu). cpu.cr3) u.2;
}

-- ---- the user

-- a processor of the context of an admitted one is admitted
admitted_again : (cfg : Description) (cpu due : Cpu) → IsContext cpu due → IsAdmitted cfg due → IsAdmitted cfg cpu
admitted_again cfg cpu due same ok = record {
  cs = ap (is_user_cs cfg.cpu) same.cs ∙ ok.cs;
  ss = same.ss ∙ ok.ss;
  rip = subst (λ n. n < 2 ^ 47) (sym same.rip) ok.rip;
  flags = subst AreUserFlags (sym same.flags) ok.flags;
  cr3 = same.cr3 ∙ ok.cr3;
  inactive = same.kgs ∙ ok.inactive;
  active = subst (IsUserGs cfg.cpu.user_gs_writes) (sym same.gs) ok.active;
  stack = ap (stack_of cfg.regions) same.rsp ∙ ok.stack;
}

admitted_due : (cfg : Description) (key : Key) (a : Activation) → IsKernels cfg key a ⊎ IsUsers cfg key a
    → key.kernel ≡ false → IsAdmitted cfg a.due
unfolding IsKernels IsUsers
admitted_due cfg key a (inl k) side = absurd (true≢false (sym k.0 ∙ side))
admitted_due cfg key a (inr u) side = u.1

kernel_side : (mode : Mode) → mode ≢ User → not (is_user_mode mode) ≡ true
kernel_side User other = absurd (other refl)
kernel_side Code other = refl
kernel_side (Inside call) other = refl

typed_again : (cpu due : Cpu) → (length cpu.regs ≡ 16) × All IsWord cpu.regs → IsMode cpu.mode → IsContext cpu due
    → IsCpu due → IsCpu cpu
typed_again cpu due regs mode same ok = record {
  regs = regs;
  rip = subst IsWord (sym same.rip) ok.rip;
  flags = subst IsWord (sym same.flags) ok.flags;
  cs = subst (λ n. n < 2 ^ 16) (sym same.cs) ok.cs;
  ss = subst (λ n. n < 2 ^ 16) (sym same.ss) ok.ss;
  gs = subst IsWord (sym same.gs) ok.gs;
  kgs = subst IsWord (sym same.kgs) ok.kgs;
  cr3 = subst IsWord (sym same.cr3) ok.cr3;
  mode = mode;
}

-- ---- what a return leaves

module _ (cfg : Description) (valid : IsValid cfg) (key : Key) (at : ℕ) (found : Option (Insn × ℕ)) (s : AbsState)
    (is : IsState s) (S : State) (D : Describes cfg key (record { at = at; inside = false }) found s S) (next : ℕ)
    (next_fits : next < 2 ^ 64) where
  abbrev before : AbsMoment
  before = m cfg valid key at found s is S D next next_fits

  abbrev there : Moment
  there = c cfg valid key at found s is S D next next_fits

  abbrev a : Activation
  a = newest_of S.chain

  abbrev due : Cpu
  due = due_of S.chain

  who_is : IsKernels cfg key a ⊎ IsUsers cfg key a
  who_is = interrupted cfg key S.chain D.chain

  typed : IsActivation a
  typed = typed_due cfg valid key at found s is S D next next_fits

  module _ (exact : is_exact before false ≡ true) (rest : rest_restores before ≡ true) where
    spaces : HasSpaces S.cpu due
    spaces =
        let p = and_parts (not (is_same_who s.gs.active who.Any) && (not (is_same_who s.gs.inactive who.Any)
        && not (is_same_map s.map map.Any))) _ exact in
        let q = and_parts (not (is_same_who s.gs.active who.Any)) _ p.0 in
        let r = and_parts (not (is_same_who s.gs.inactive who.Any)) (not (is_same_map s.map map.Any)) q.1 in
        let t = and_parts (is_same_who s.gs.active key.gs.active && (is_same_who s.gs.inactive key.gs.inactive
        && is_same_map s.map key.map)) _ rest in
        let u = and_parts (is_same_who s.gs.active key.gs.active) _ t.0 in
        let v = and_parts (is_same_who s.gs.inactive key.gs.inactive) (is_same_map s.map key.map) u.1 in
        let saved = due_spaces cfg key a who_is in
        let user_gs = user_gs_of S.chain in
        spaces_are_kept cfg user_gs s.gs s.map S.cpu due (known_who s.gs.active q.0) (known_who s.gs.inactive r.0)
        (known_map s.map r.1) D.spaces.gs (record {
          active = subst (λ w. IsGsOf cfg user_gs w due.gs) (sym (same_who s.gs.active key.gs.active u.0))
              (subst (IsGsOf cfg user_gs key.gs.active) (sym saved.gs) D.chain.fits.gs.active);
          inactive = subst (λ w. IsGsOf cfg user_gs w due.kgs) (sym (same_who s.gs.inactive key.gs.inactive v.0))
              (subst (IsGsOf cfg user_gs key.gs.inactive) (sym saved.kgs) D.chain.fits.gs.inactive);
        }) D.spaces.map
        (subst (λ w. IsCr3Of cfg w due.cr3) (sym (same_map s.map key.map v.1))
        (subst (IsCr3Of cfg key.map) (sym saved.cr3) D.chain.fits.map))

    -- of interrupted kernel code each register but RSP holds its word
    kept_register : (i : ℕ) → i < 16 → (i ≡ 4 → ⊥) → key.kernel ≡ true
        → slice_index S.cpu.regs i ≡ slice_index due.regs i
    kept_register i inside other side =
        let t = and_parts (is_same_who s.gs.active key.gs.active && (is_same_who s.gs.inactive key.gs.inactive
        && is_same_map s.map key.map)) _ rest in
        let all : are_entries 0 s.regs ≡ true = elim (or_cases (not key.kernel) (are_entries 0 s.regs) t.1) [
          | inl user ↦ absurd (true≢false (sym side ∙ not-true key.kernel user))
          | inr h ↦ h
        ] in
        reg_due cfg valid key at found s is S D next next_fits i i
        (entries_at s.regs i (omega (arith, inside, is.reg_count)) all other)
        ∙ register_word due typed.due.regs.0 i inside

    -- a list of registers that has these, and the RSP that is due, is what is due
    same_registers : (regs : List ℕ) → length regs ≡ 16
        → ((i : ℕ) → (i ≡ 4 → ⊥) → slice_index regs i ≡ slice_index S.cpu.regs i)
        → slice_index regs 4 ≡ slice_index due.regs 4 → key.kernel ≡ true → regs ≡ due.regs
    same_registers regs count others four side =
        same_number_lists regs due.regs (count ∙ sym typed.due.regs.0) (λ i inside. elim (cases_eq i 4) [
          | inl e ↦ subst (λ k. slice_index regs k ≡ slice_index due.regs k) (sym e) four
          | inr other ↦ others i other ∙ kept_register i (omega (arith, inside, count)) other side
        ])

    kernel_of : a.saved.mode ≢ User → key.kernel ≡ true
    kernel_of other = D.chain.fits.side ∙ kernel_side a.saved.mode other

    -- ---- IRETQ

    abbrev pub iret_cpu : Mode → Cpu
    iret_cpu into = record (with_register rsp (stack_word there 3) S.cpu) {
      rip = stack_word there 0;
      flags = loaded loadable (stack_word there 2);
      cs = stack_word there 1 % 2 ^ 16;
      ss = stack_word there 4 % 2 ^ 16;
      mode = into;
    }

    pub iret_restores : (into : Mode) → HoldsFrame there due → Restores (iret_cpu into) a
    iret_restores into frame = (
      record {
        rip = frame.rip;
        cs = ap (λ n. n % 2 ^ 16) frame.cs ∙ mod-eq_of_lt typed.due.cs;
        flags = ap (λ n. loaded loadable n) frame.flags ∙ (flags_reload cfg key S.chain D.chain).0;
        rsp = four;
        ss = ap (λ n. n % 2 ^ 16) frame.ss ∙ mod-eq_of_lt typed.due.ss;
        gs = spaces.gs;
        kgs = spaces.kgs;
        cr3 = spaces.cr3;
      },
      λ other. same_registers (set S.cpu.regs 4 (stack_word there 3))
          (length-set S.cpu.regs 4 (stack_word there 3) ∙ D.typed.cpu.regs.0)
          (λ i apart. get_or-set_other S.cpu.regs 4 i (stack_word there 3) 0 apart) four (kernel_of other),
    )
      where
        four : slice_index (set S.cpu.regs 4 (stack_word there 3)) 4 ≡ slice_index due.regs 4
        four =
            get_or-set_same S.cpu.regs 4 (stack_word there 3) 0 (omega (arith, D.typed.cpu.regs.0)) ∙ frame.rsp

    pub iret_typed : (into : Mode)
        → (length (iret_cpu into).regs ≡ 16) × All IsWord (iret_cpu into).regs
    iret_typed into = (
      length-set S.cpu.regs 4 (stack_word there 3) ∙ D.typed.cpu.regs.0,
      All-set IsWord S.cpu.regs 4 (stack_word there 3)
          (read_word S.mem.bytes (stack_address there 3) 8 (omega arith) D.typed.mem) D.typed.cpu.regs.1,
    )

    -- ---- SYSRETQ

    abbrev pub sysret_cpu : Mode → Cpu
    sysret_cpu into = record S.cpu {
      rip = register S.cpu rcx;
      flags = loaded sysret_mask (register S.cpu r11);
      cs = user_cs64 cfg.cpu;
      ss = user_ss cfg.cpu;
      mode = into;
    }

    -- a syscall's context is the user's
    user_side : key.syscall ≡ true → key.kernel ≡ false
    user_side kind = (D.chain.fits.rules.syscall kind).1

    pub sysret_restores : (into : Mode) → key.syscall ≡ true → loads_user before ≡ true
        → Restores (sysret_cpu into) a
    sysret_restores into kind h =
        let p = and_parts (is_entry (value_at s.regs 1) 16)
        (is_entry (value_at s.regs 11) 17 && is_entry (value_at s.regs 4) 4) h in
        let q = and_parts (is_entry (value_at s.regs 11) 17) (is_entry (value_at s.regs 4) 4) p.1 in
        let selectors = selectors_are_due cfg key S.chain D.chain in (
          record {
            rip = held 1 16 p.0 ∙ later_word due typed.due.regs.0 0;
            cs = sym (selectors.long kind);
            flags = ap (λ n. loaded sysret_mask n) (held 11 17 q.0 ∙ later_word due typed.due.regs.0 1)
                ∙ (flags_reload cfg key S.chain D.chain).1;
            rsp = held 4 4 q.1 ∙ register_word due typed.due.regs.0 4 (omega arith);
            ss = sym (selectors.user (user_side kind)).1;
            gs = spaces.gs;
            kgs = spaces.kgs;
            cr3 = spaces.cr3;
          },
          λ other. absurd (true≢false (sym (kernel_of other) ∙ user_side kind)),
        )
      where
        held : (r w : ℕ) → is_entry (value_at s.regs r) w ≡ true
            → slice_index S.cpu.regs r ≡ get_or (words_of due) w 0
        held r w e = reg_due cfg valid key at found s is S D next next_fits r w e

  -- ---- both

  -- A state that agrees with the one after the return: the context is given back.
  pub given_back : (T : State) (cpu : Cpu) → (length cpu.regs ≡ 16) × All IsWord cpu.regs
      → cpu.mode ≡ a.saved.mode → Restores cpu a → T.cpu ≡ cpu → T.mem.bytes ≡ S.mem.bytes → T.stopped ≡ false
      → T.chain ≡ without_newest S.chain → GivesBack cfg S T
  given_back T cpu regs into back same mem runs chain =
      record {
        typed = record {
          cpu = subst IsCpu (sym same)
              (typed_again cpu due regs (subst IsMode (sym into) typed.saved.mode) back.0 typed.due);
          mem = subst AreBytes (sym mem) D.typed.mem;
          chain = subst (All IsActivation) (sym chain) (front_all IsActivation S.chain D.typed.chain);
        };
        running = runs;
        activation = a;
        chain =
            rejoined S.chain D.chain.one_user
            ∙ ap (λ (front : List Activation). front ++ a ∷ []) (sym chain);
        context = subst (λ z. Restores z a) (sym same) back;
        mode = ap (λ (z : Cpu). z.mode) same ∙ into;
        memory = mem;
        user = λ e. (
          chain ∙ user_alone S.chain D.chain.one_user e,
          subst (IsAdmitted cfg) (sym same)
              (admitted_again cfg cpu due back.0 (admitted_due cfg key a who_is
              (D.chain.fits.side ∙ ap (λ z. not (is_user_mode z)) e))),
        );
      }
