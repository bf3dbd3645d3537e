-- The words that a return loads are the due processor's. By C12 a value is Entry of the word, which names the word of
-- the processor that is due, or a constant, which is the selector that is due; and what is loaded of the stack stands
-- for the words in memory.
use Rattle.std.proofs.Common.{◌≡◌, ℕ, ◌+◌, ◌*◌, ◌<◌, ◌^◌, ◌||◌, not, nat_eq, if◌then◌else◌, is_some, cond, zero, suc, inl, inr, Bool, true, false, List, [], ◌∷◌, length, get_or, Option, Some, None, slice_index, refl, sym, ap, ◌∙◌, subst, arith}
use Rattle.std.proofs.lemmas.Bool.{and_parts, or_cases, eqb-true, false≢true}
use Rattle.std.proofs.lemmas.List.{get_or_append_left, get_or-append-add}
use Rattle.kc_insn.specs.declared.insn.Insn.{Insn}
use Rattle.kc_regions.specs.Description.{Description}
use Rattle.kc_regions.specs.Permission.{user_cs64, user_ss}
use Rattle.kc_regions.specs.Valid.{IsValid}
use Rattle.kc_words.specs.declared.width.Width.TheVariants.{Quad}
use Rattle.kc_cpu.specs.declared.cpu.Cpu.{Cpu}
use Rattle.kc_mem.specs.Memory.{read}
use Rattle.kc_mem.proofs.NumberLemmas.{read_word}
use Rattle.kc_exec.specs.Change.{stack_address, stack_word}
use Rattle.kc_exec.specs.Moment.{Moment}
use Rattle.kc_exec.specs.declared.state.State.{State}
use Rattle.kc_value.specs.AbsValue.{AbsValue}
use Rattle.kc_value.specs.Symbol.{Names}
use Rattle.kc_value.specs.Value.{Represents, value_top}
use Rattle.kc_value.specs.declared.env.ValueEnv.{ValueEnv}
use Rattle.kc_value.specs.declared.symbol.Sym.{Sym}
use Rattle.kc_value.specs.declared.symbol.Sym.TheVariants.{Plain, Base, Entry, UserGs}
use Rattle.kc_bits.specs.Bits.{bits_single}
use Rattle.kc_state.specs.AbsEffect.{is_number, moment_of}
use Rattle.kc_state.specs.Calls.{moved_up}
use Rattle.kc_state.specs.Conditions.{is_word, is_entry, is_due, due_cs, due_ss}
use Rattle.kc_state.specs.Conditions.{moved_location, frame_word, frame_restores, are_entries}
use Rattle.kc_state.specs.Location.{location_of}
use Rattle.kc_state.specs.Operand.{AbsMoment, load_at}
use Rattle.kc_state.specs.State.{IsState}
use Rattle.kc_state.specs.declared.key.Key.{Key}
use Rattle.kc_state.specs.declared.location.Location.{Location}
use Rattle.kc_state.specs.declared.state.AbsState.{AbsState}
use Rattle.kc_describes.specs.Chain.{newest_of, words_of, env_of}
use Rattle.kc_describes.specs.Describes.{Describes}
use Rattle.kc_describes.specs.Row.{value_at, RegistersStand, FileStands}
use Rattle.kc_describes.specs.Widths.{IsActivation}
use Rattle.kc_describes.proofs.AccessLemmas.{moved_at}
use Rattle.kc_describes.proofs.ChainLemmas.{newest_all}
use Rattle.kc_describes.proofs.LoadLemmas.{load_stands, load_valid}
use Rattle.kc_describes.proofs.LocationLemmas.{IsAt}
use Rattle.kc_describes.proofs.OperandLemmas.{IsFor, IsSeen, register_is, location_is}
use Rattle.kc_describes.proofs.StoreLemmas.{placed_fits}
use Rattle.kc_describes.proofs.ValidLemmas.{top_valid}
use Rattle.kc_describes.proofs.ValueLemmas.{single_is, top_stands}
use Rattle.kc_returns.specs.Returns.{HasSelectors, due_of}
use Rattle.kc_returns.specs.Whole.{HoldsFrame}
use Rattle.kc_returns.proofs.LoadLemmas.{selectors_are_due}

-- ---- symbols and constants

entry_by : (sym_of : Sym) (env : ValueEnv) (w n : ℕ) → is_word sym_of w ≡ true → Names sym_of env n
    → n ≡ get_or env.words w 0
entry_by (Entry i) env w n h names = names ∙ ap (λ k. get_or env.words k 0) (eqb-true i w h)
entry_by Plain env w n h names = absurd (false≢true h)
entry_by (Base k) env w n h names = absurd (false≢true h)
entry_by UserGs env w n h names = absurd (false≢true h)

-- Entry of word w is that word of the processor that is due
pub entry_is : (v : AbsValue) (env : ValueEnv) (w n : ℕ) → is_entry v w ≡ true → Represents v env n
    → n ≡ get_or env.words w 0
entry_is v env w n h r = entry_by v.sym env w n h r.symbol

due_by : (v : AbsValue) (env : ValueEnv) (n k : ℕ) (o : Option ℕ) → bits_single v.bits ≡ o → IsFor env v n
    → is_number k o ≡ true → n ≡ k
due_by v env n k (Some m) e r h = single_is v env n m r.valid r.fits r.stands e ∙ eqb-true m k h
due_by v env n k None e r h = absurd (false≢true h)

-- a value of one number that is due is it
number_due : (v : AbsValue) (env : ValueEnv) (n k : ℕ) → IsFor env v n → is_due v (Some k) ≡ true → n ≡ k
number_due v env n k r h = due_by v env n k (bits_single v.bits) refl r h

entries_from : (vs : List AbsValue) (w i : ℕ) → i < length vs → are_entries w vs ≡ true → (w + i ≡ 4 → ⊥)
    → is_entry (get_or vs i value_top) (w + i) ≡ true
entries_from [] w i inside h other = absurd (omega (arith, inside))
entries_from (v ∷ vs) w zero inside h other =
    let p = and_parts (nat_eq w 4 || is_entry v w) (are_entries (w + 1) vs) h in
    let same : w + 0 ≡ w = omega arith in
    elim (or_cases (nat_eq w 4) (is_entry v w) p.0) [
      | inl is ↦ absurd (other (same ∙ eqb-true w 4 is))
      | inr is ↦ subst (λ k. is_entry v k ≡ true) (sym same) is
    ]
entries_from (v ∷ vs) w (suc i) inside h other =
    let p = and_parts (nat_eq w 4 || is_entry v w) (are_entries (w + 1) vs) h in
    let same : (w + 1) + i ≡ w + suc i = omega arith in
    subst (λ k. is_entry (get_or vs i value_top) k ≡ true) same
    (entries_from vs (w + 1) i (omega (arith, inside)) p.1 (λ e. other (sym same ∙ e)))

-- each value but that of RSP is Entry of its register
pub entries_at : (vs : List AbsValue) (i : ℕ) → i < length vs → are_entries 0 vs ≡ true → (i ≡ 4 → ⊥)
    → is_entry (get_or vs i value_top) i ≡ true
entries_at vs i inside h other =
    let same : 0 + i ≡ i = omega arith in
    subst (λ k. is_entry (get_or vs i value_top) k ≡ true) same
    (entries_from vs 0 i inside h (λ e. other (sym same ∙ e)))

-- ---- the words of a processor

module _ (cpu : Cpu) (count : length cpu.regs ≡ 16) where
  abbrev rest : List ℕ
  rest = cpu.rip ∷ cpu.flags ∷ cpu.cs ∷ cpu.ss ∷ []

  pub register_word : (i : ℕ) → i < 16 → get_or (words_of cpu) i 0 ≡ slice_index cpu.regs i
  register_word i inside = get_or_append_left cpu.regs rest 0 i (omega (arith, inside, count))

  pub later_word : (i : ℕ) → get_or (words_of cpu) (16 + i) 0 ≡ get_or rest i 0
  later_word i =
      ap (λ n. get_or (words_of cpu) (n + i) 0) (sym count) ∙ get_or-append-add cpu.regs rest i 0

-- ---- what a return sees

module _ (cfg : Description) (valid : IsValid cfg) (key : Key) (at : ℕ) (found : Option (Insn × ℕ)) (s : AbsState)
    (is : IsState s) (S : State) (D : Describes cfg key (record { at = at; inside = false }) found s S) (next : ℕ)
    (next_fits : next < 2 ^ 64) where
  abbrev env : ValueEnv
  env = env_of cfg S.chain

  abbrev pub m : AbsMoment
  m = moment_of cfg key s next

  abbrev pub c : Moment
  c = record { cfg = cfg; cpu = S.cpu; latch = S.latch; mem = S.mem.bytes; next = next }

  abbrev due : Cpu
  due = due_of S.chain

  file : RegistersStand env s S.cpu.regs S.cpu.flags
  file = subst (FileStands env s S.cpu) D.point.0 D.file

  pub seen : IsSeen cfg key S.chain m.cpu s.slots S.cpu S.mem.bytes next
  seen = record {
    regs = record {
      count = is.reg_count;
      valid = is.regs;
      size = D.typed.cpu.regs.0;
      words = D.typed.cpu.regs.1;
      stand = file.each;
    };
    gs = D.spaces.gs.active;
    gs_fits = D.typed.cpu.gs;
    next_fits = next_fits;
    count = is.slots.1;
    slots_valid = is.slots.0;
    words = D.slots;
    bytes = D.typed.mem;
  }

  pub typed_due : IsActivation (newest_of S.chain)
  typed_due = newest_all IsActivation S.chain D.chain.one_user D.typed.chain

  count_due : length due.regs ≡ 16
  count_due = typed_due.due.regs.0

  -- ---- registers

  pub reg_is : (r : ℕ) → IsFor env (value_at s.regs r) (slice_index S.cpu.regs r)
  reg_is r = register_is cfg valid key S.chain D.chain D.typed.chain m.cpu s.slots S.cpu S.latch S.mem.bytes next seen r

  -- a register that is Entry of word w
  pub reg_due : (r w : ℕ) → is_entry (value_at s.regs r) w ≡ true
      → slice_index S.cpu.regs r ≡ get_or (words_of due) w 0
  reg_due r w h = entry_is (value_at s.regs r) env w (slice_index S.cpu.regs r) h (reg_is r).stands

  -- ---- words on the stack

  loaded_word : (i : ℕ) (o : Option Location) → i < 8 → location_of key (value_at s.regs 4) ≡ o
      → IsFor env (load_at m Quad (moved_location o (8 * i))) (stack_word c i)
  loaded_word i (Some l) few e =
      let here = location_is cfg valid key S.chain D.chain D.typed.chain m.cpu s.slots S.cpu S.latch S.mem.bytes next
      seen (value_at s.regs 4) (slice_index S.cpu.regs 4) l (reg_is 4) e in
      let there : IsAt cfg key (newest_of S.chain).base (stack_address c i) (moved_up l (8 * i)) =
      moved_at cfg key (newest_of S.chain).base (8 * i) (slice_index S.cpu.regs 4) l (omega (arith, few)) here in
      record {
        valid = load_valid cfg valid key (moved_up l (8 * i)) Quad s.slots is.slots.0;
        fits = read_word S.mem.bytes (stack_address c i) 8 (omega arith) D.typed.mem;
        stands =
            subst (Represents (load_at m Quad (Some (moved_up l (8 * i)))) env)
            (ap (λ a. read S.mem.bytes a 8) there.1)
            (load_stands cfg valid key S.chain D.chain D.typed.chain S.mem.bytes D.typed.mem (moved_up l (8 * i))
            (placed_fits cfg key (newest_of S.chain).base (moved_up l (8 * i)) there.0) Quad s.slots is.slots.1
            is.slots.0 D.slots);
      }
  loaded_word i None few e = record {
    valid = top_valid;
    fits = read_word S.mem.bytes (stack_address c i) 8 (omega arith) D.typed.mem;
    stands = top_stands cfg valid env refl (stack_word c i);
  }

  word_is : (i : ℕ) → i < 8 → IsFor env (frame_word m i) (stack_word c i)
  word_is i few = loaded_word i (location_of key (value_at s.regs 4)) few refl

  word_due : (i w : ℕ) → i < 8 → is_entry (frame_word m i) w ≡ true → stack_word c i ≡ get_or (words_of due) w 0
  word_due i w few h = entry_is (frame_word m i) env w (stack_word c i) h (word_is i few).stands

  selectors : HasSelectors cfg key due
  selectors = selectors_are_due cfg key S.chain D.chain

  -- the CS that is due, where there is one alone
  cs_by : (kernel syscall : Bool) (cs32 : Option ℕ) (v : AbsValue) (n : ℕ) → key.kernel ≡ kernel
      → key.syscall ≡ syscall → cfg.cpu.user_cs32 ≡ cs32 → IsFor env v n
      → is_due v (if kernel then Some cfg.cpu.star_kernel else
      if syscall || not (is_some cs32) then Some (user_cs64 cfg.cpu) else None) ≡ true
      → n ≡ due.cs
  cs_by true syscall cs32 v n side kind long r h =
      number_due v env n cfg.cpu.star_kernel r h ∙ sym (selectors.kernel side).0
  cs_by false true cs32 v n side kind long r h =
      number_due v env n (user_cs64 cfg.cpu) r h ∙ sym (selectors.long kind)
  cs_by false false None v n side kind long r h =
      number_due v env n (user_cs64 cfg.cpu) r h ∙ sym (selectors.only side long)
  cs_by false false (Some x) v n side kind long r h = absurd (false≢true h)

  ss_by : (kernel : Bool) (v : AbsValue) (n : ℕ) → key.kernel ≡ kernel → IsFor env v n
      → is_due v (cond kernel None (Some (user_ss cfg.cpu))) ≡ true → n ≡ due.ss
  ss_by true v n side r h = absurd (false≢true h)
  ss_by false v n side r h = number_due v env n (user_ss cfg.cpu) r h ∙ sym (selectors.user side).1

  pub cs_is : is_entry (frame_word m 1) 18 || is_due (frame_word m 1) (due_cs m) ≡ true → stack_word c 1 ≡ due.cs
  cs_is h = elim (or_cases (is_entry (frame_word m 1) 18) (is_due (frame_word m 1) (due_cs m)) h) [
    | inl entry ↦ word_due 1 18 (omega arith) entry ∙ later_word due count_due 2
    | inr number ↦
        cs_by key.kernel key.syscall cfg.cpu.user_cs32 (frame_word m 1) (stack_word c 1) refl refl refl
        (word_is 1 (omega arith)) number
  ]

  pub ss_is : is_entry (frame_word m 4) 19 || is_due (frame_word m 4) (due_ss m) ≡ true → stack_word c 4 ≡ due.ss
  ss_is h = elim (or_cases (is_entry (frame_word m 4) 19) (is_due (frame_word m 4) (due_ss m)) h) [
    | inl entry ↦ word_due 4 19 (omega arith) entry ∙ later_word due count_due 3
    | inr number ↦ ss_by key.kernel (frame_word m 4) (stack_word c 4) refl (word_is 4 (omega arith)) number
  ]

  -- C12 of an IRETQ: the frame is that of the processor that is due
  pub frame_due : frame_restores m ≡ true → HoldsFrame c due
  frame_due h =
      let a = and_parts (is_entry (frame_word m 0) 16) _ h in
      let b = and_parts (is_entry (frame_word m 1) 18 || is_due (frame_word m 1) (due_cs m)) _ a.1 in
      let d = and_parts (is_entry (frame_word m 2) 17) _ b.1 in
      let e = and_parts (is_entry (frame_word m 3) 4) _ d.1 in
      record {
        rip = word_due 0 16 (omega arith) a.0 ∙ later_word due count_due 0;
        cs = cs_is b.0;
        flags = word_due 2 17 (omega arith) d.0 ∙ later_word due count_due 1;
        rsp = word_due 3 4 (omega arith) e.0 ∙ register_word due count_due 4 (omega arith);
        ss = ss_is e.1;
      }
