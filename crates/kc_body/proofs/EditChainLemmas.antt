-- The chain after an edit. The newest activation interrupted the user, so it is the only one; the edit changes the
-- processor that is due alone, which stays admitted. What is said of the saved processor stays, and no byte is live,
-- since the user's RSP lies in no stack.
use Rattle.std.proofs.Common.{◌≡◌, ℕ, zero, suc, ◌-◌, ◌^◌, ◌<◌, ◌≤◌, ◌||◌, nat_eq, inl, inr, false, List, [], ◌∷◌, length, get_or, set, All, Option, Some, None, IfSome, IsSomeAnd, refl, sym, ap, ◌∙◌, arith}
use Rattle.std.specs.Option.{unwrap_or}
use Rattle.std.proofs.lemmas.Bool.{cases_lt, or_parts, eqb-false}
use Rattle.std.proofs.lemmas.List.{get_or_append_left, get_or-append_right, get_or-set_same, get_or-set_other, length-set}
use Rattle.std.proofs.lemmas.List.Elements.{All-head, All-tail, All-nil, All-cons, All-contains, All-set}
use Rattle.kc_regions.specs.Description.{Description}
use Rattle.kc_regions.specs.Region.{stack_of}
use Rattle.kc_cpu.specs.declared.cpu.Cpu.{Cpu}
use Rattle.kc_cpu.specs.declared.cpu.Mode.TheVariants.{User}
use Rattle.kc_exec.specs.declared.state.Activation.{Activation}
use Rattle.kc_exec.specs.Admitted.{IsAdmitted, AreUserFlags}
use Rattle.kc_exec.specs.Live.{IsLive}
use Rattle.kc_exec.specs.Register.{register, rsp}
use Rattle.kc_events.specs.declared.turn.Edit.{Edit}
use Rattle.kc_events.specs.Allowed.{InterruptedUser, AreEditsValid}
use Rattle.kc_events.specs.Edits.{edited_cpu}
use Rattle.kc_events.specs.Turns.{newest}
use Rattle.kc_state.specs.Calls.{is_edited_word}
use Rattle.kc_state.specs.declared.key.Key.{Key}
use Rattle.kc_describes.specs.Chain.{words_of, OnlyOldestIsUser, IsEdited, IsDue}
use Rattle.kc_describes.specs.Fits.{Fits, ChainFits}
use Rattle.kc_describes.specs.Widths.{IsWord, IsCpu, IsActivation}
use Rattle.kc_describes.proofs.OperandLemmas.{word_at}
use Rattle.kc_body.specs.Edit.{IsEditSet}
use Rattle.kc_body.proofs.EditSlotLemmas.{AreWordsEdited}

-- ---- the one activation

last_not : (b : Activation) (rest : List Activation) → All (λ c. c.saved.mode ≡ User → ⊥) (b ∷ rest)
    → IsSomeAnd (newest (b ∷ rest)) (λ c. c.saved.mode ≡ User) → ⊥
last_not b [] none user = All-head (λ c. c.saved.mode ≡ User → ⊥) b [] none user
last_not b (c ∷ rest) none user =
    last_not c rest (All-tail (λ z. z.saved.mode ≡ User → ⊥) b (c ∷ rest) none) user

-- where the newest activation interrupted the user, it is the only one
pub only_one : (chain : List Activation) → OnlyOldestIsUser chain → InterruptedUser chain
    → (a : Activation) × (chain ≡ a ∷ []) × (a.saved.mode ≡ User)
only_one [] some user = absurd some
only_one (a ∷ []) some user = (a, refl, user)
only_one (a ∷ (b ∷ rest)) some user = absurd (last_not b rest some.1 user)

-- no byte is live for it
pub none_live : (cfg : Description) (a : Activation) (x : ℕ) → stack_of cfg.regions (register a.saved rsp) ≡ None
    → IsLive cfg (a ∷ []) x → ⊥
none_live cfg a x out live =
    let P = λ (c : Activation). stack_of cfg.regions (register c.saved rsp) ≡ None in
    let all : All P (a ∷ []) = All-cons P a [] out (All-nil P) in
    let none : P live.1 = All-contains P (a ∷ []) live.1 all (live.0, live.2, live.3) in
    let is = live.4.suspended in
    absurd cc

-- ---- the due processor's words

or_given : (P : ℕ → Type 0) (o : Option ℕ) (n : ℕ) → IfSome o P → P n → P (unwrap_or o n)
or_given P (Some m) n given h = given
or_given P None n given h = h

set_twice : (xs : List ℕ) (i a b : ℕ) → set (set xs i a) i b ≡ set xs i b
set_twice [] i a b = refl
set_twice (x ∷ xs) zero a b = refl
set_twice (x ∷ xs) (suc i) a b = ap (λ z. x ∷ z) (set_twice xs i a b)

rest_same : (rip flags new_rip new_flags : ℕ) (rest : List ℕ) (j : ℕ) → (j ≡ 0 → ⊥) → (j ≡ 1 → ⊥)
    → get_or (new_rip ∷ new_flags ∷ rest) j 0 ≡ get_or (rip ∷ flags ∷ rest) j 0
rest_same rip flags new_rip new_flags rest zero first second = absurd (first refl)
rest_same rip flags new_rip new_flags rest (suc zero) first second = absurd (second refl)
rest_same rip flags new_rip new_flags rest (suc (suc j)) first second = refl

module _ (edit : Edit) (cpu : Cpu) (count : length cpu.regs ≡ 16) where
  abbrev new : Cpu
  new = edited_cpu edit cpu

  new_count : length new.regs ≡ 16
  new_count = length-set cpu.regs 4 (unwrap_or edit.rsp (register cpu rsp)) ∙ count

  pub new_rsp : register new rsp ≡ unwrap_or edit.rsp (register cpu rsp)
  new_rsp = get_or-set_same cpu.regs 4 (unwrap_or edit.rsp (register cpu rsp)) 0 (omega (arith, count))

  -- word w of the registers, and of those after them
  low_word : (c : Cpu) (w : ℕ) → length c.regs ≡ 16 → w < 16 → get_or (words_of c) w 0 ≡ get_or c.regs w 0
  low_word c w size below =
      get_or_append_left c.regs (c.rip ∷ c.flags ∷ c.cs ∷ c.ss ∷ []) 0 w (omega (arith, size, below))

  high_word : (c : Cpu) (w : ℕ) → length c.regs ≡ 16 → 16 ≤ w
      → get_or (words_of c) w 0 ≡ get_or (c.rip ∷ c.flags ∷ c.cs ∷ c.ss ∷ []) (w - 16) 0
  high_word c w size up = get_or-append_right c.regs (c.rip ∷ c.flags ∷ c.cs ∷ c.ss ∷ []) 16 w 0 size up

  others_same : (w : ℕ) → is_edited_word w ≡ false → get_or (words_of new) w 0 ≡ get_or (words_of cpu) w 0
  others_same w h =
      let p = or_parts (nat_eq w 16) (nat_eq w 17 || nat_eq w 4) h in
      let q = or_parts (nat_eq w 17) (nat_eq w 4) p.1 in
      elim (cases_lt w 16) [
        | inl below ↦
            low_word new w new_count below
            ∙ get_or-set_other cpu.regs 4 w (unwrap_or edit.rsp (register cpu rsp)) 0 (eqb-false w 4 q.1)
            ∙ sym (low_word cpu w count below)
        | inr up ↦
            let one = eqb-false w 16 p.0 in
            let two = eqb-false w 17 q.0 in
            high_word new w new_count up
            ∙ rest_same cpu.rip cpu.flags new.rip new.flags (cpu.cs ∷ cpu.ss ∷ []) (w - 16)
            (λ e. one (omega (arith, e, up))) (λ e. two (omega (arith, e, up)))
            ∙ sym (high_word cpu w count up)
      ]

  -- the words after the edit
  pub words_edited : AreWordsEdited edit (words_of cpu) (words_of new)
  words_edited = record {
    rip = high_word new 16 new_count (omega arith)
        ∙ sym (ap (unwrap_or edit.rip) (high_word cpu 16 count (omega arith)));
    flags = high_word new 17 new_count (omega arith)
        ∙ sym (ap (unwrap_or edit.flags) (high_word cpu 17 count (omega arith)));
    rsp = low_word new 4 new_count (omega arith) ∙ new_rsp
        ∙ sym (ap (unwrap_or edit.rsp) (low_word cpu 4 count (omega arith)));
    others = others_same;
  }

  -- each number of it fits its register
  pub cpu_fits : IsCpu cpu → IsEditSet edit → IsCpu new
  cpu_fits is fit = record {
    regs = (
      new_count,
      All-set IsWord cpu.regs 4 (unwrap_or edit.rsp (register cpu rsp))
          (or_given IsWord edit.rsp (register cpu rsp) fit.rsp (word_at cpu.regs 4 is.regs.1)) is.regs.1,
    );
    rip = or_given IsWord edit.rip cpu.rip fit.rip is.rip;
    flags = or_given IsWord edit.flags cpu.flags fit.flags is.flags;
    cs = is.cs;
    ss = is.ss;
    gs = is.gs;
    kgs = is.kgs;
    cr3 = is.cr3;
    mode = is.mode;
  }

  -- it is an admitted processor still
  pub admitted_edited : (cfg : Description) → AreEditsValid cfg edit → IsAdmitted cfg cpu → IsAdmitted cfg new
  admitted_edited cfg edits is = record {
    cs = is.cs;
    ss = is.ss;
    rip = or_given (λ n. n < 2 ^ 47) edit.rip cpu.rip edits.rip is.rip;
    flags = or_given AreUserFlags edit.flags cpu.flags edits.flags is.flags;
    cr3 = is.cr3;
    inactive = is.inactive;
    active = is.active;
    stack =
        ap (stack_of cfg.regions) new_rsp
        ∙ or_given (λ n. stack_of cfg.regions n ≡ None) edit.rsp (register cpu rsp) edits.rsp is.stack;
  }

  -- and the saved one but for the words that handlers may edit
  pub edited_again : (saved : Cpu) → IsEdited saved cpu → IsEdited saved new
  edited_again saved e =
      let x = unwrap_or edit.rsp (register cpu rsp) in
      let from : new ≡ record saved {
        regs = set (set saved.regs 4 (register cpu rsp)) 4 x;
        rip = new.rip;
        flags = new.flags;
      } =
      λ i. record (e i) { regs = set (e i).regs 4 x; rip = new.rip; flags = new.flags } in
      let regs : set (set saved.regs 4 (register cpu rsp)) 4 x ≡ set saved.regs 4 (register new rsp) =
      set_twice saved.regs 4 (register cpu rsp) x ∙ ap (set saved.regs 4) (sym new_rsp) in
      from ∙ (λ i. record saved { regs = regs i; rip = new.rip; flags = new.flags })

-- ---- the chain

-- the activation with the edit made
abbrev pub edited_one : Edit → Activation → Activation
edited_one edit a = record a { due = edited_cpu edit a.due }

module _ (cfg : Description) (key : Key) (edit : Edit) (a : Activation) (typed : IsActivation a)
    (user : a.saved.mode ≡ User) where
  fits_edited : (user_gs : ℕ) → Fits cfg key user_gs a → Fits cfg key user_gs (edited_one edit a)
  fits_edited user_gs F = record {
    rules = F.rules;
    kind = F.kind;
    vector = F.vector;
    side = F.side;
    gs = F.gs;
    map = F.map;
    stack = F.stack;
    base = F.base;
    frame = F.frame;
    user = F.user;
    long = F.long;
    kernel = F.kernel;
  }

  due_edited : AreEditsValid cfg edit → IsDue cfg a → IsDue cfg (edited_one edit a)
  due_edited edits is =
      let due = is.user user in
      record {
        kernel = λ other. absurd (other user);
        user = λ same. (
          admitted_edited edit a.due typed.due.regs.0 cfg edits due.0,
          edited_again edit a.due typed.due.regs.0 a.saved due.1,
        );
      }

  pub chain_edited : AreEditsValid cfg edit → ChainFits cfg key (a ∷ []) → ChainFits cfg key (edited_one edit a ∷ [])
  chain_edited edits F = record {
    fits = fits_edited a.saved.gs F.fits;
    one_user = (user, F.one_user.1);
    admitted = F.admitted;
    due = All-cons (IsDue cfg) (edited_one edit a) [] (due_edited edits (All-head (IsDue cfg) a [] F.due))
        (All-nil (IsDue cfg));
  }
