-- A handler's edit of the user's frame keeps a description. The key is of the user, so RSP's location is a number, and
-- the state, which the call's changes leave as it is, holds in each slot what an edit may leave and names no edited
-- word in a register. So each part stands for the edited words as it did for the old ones; what is said of the saved
-- processor stays, and no byte is live.
use Rattle.std.proofs.Common.{◌≡◌, ℕ, ◌+◌, ◌-◌, ◌^◌, ◌<◌, ◌≤◌, false, not, cond, List, [], ◌∷◌, map, Option, Some, None, IsSomeAnd, refl, sym, ap, ◌∙◌, subst, arith}
use Rattle.std.specs.Prelude.{option_and_then}
use Rattle.std.specs.Option.{unwrap_or, option_map_or}
use Rattle.std.proofs.lemmas.List.{get_or-map}
use Rattle.std.proofs.lemmas.List.Elements.{All-head, All-nil, All-cons}
use Rattle.kc_frames.specs.Slots.{slot_count, redone}
use Rattle.kc_insn.specs.declared.insn.Insn.{Insn}
use Rattle.kc_regions.specs.Description.{Description}
use Rattle.kc_regions.specs.Region.{stack_of, stack_at}
use Rattle.kc_regions.specs.Valid.{IsValid}
use Rattle.kc_regions.specs.declared.region.Region.{Region}
use Rattle.kc_regions.proofs.LayoutLemmas.{laid}
use Rattle.kc_cpu.specs.declared.cpu.Call.{Call}
use Rattle.kc_cpu.specs.declared.cpu.Mode.TheVariants.{User}
use Rattle.kc_exec.specs.declared.state.Activation.{Activation}
use Rattle.kc_exec.specs.declared.state.State.{State}
use Rattle.kc_exec.specs.Live.{IsLive}
use Rattle.kc_exec.specs.Operand.{plus}
use Rattle.kc_exec.specs.Register.{register, rsp}
use Rattle.kc_events.specs.declared.turn.Edit.{Edit}
use Rattle.kc_events.specs.Allowed.{FrameFits, stack_over}
use Rattle.kc_events.specs.Attempt.{frame_of}
use Rattle.kc_events.specs.Edits.{edited_cpu}
use Rattle.kc_value.specs.AbsValue.{AbsValue}
use Rattle.kc_value.specs.Value.{Represents, value_top}
use Rattle.kc_value.specs.declared.env.ValueEnv.{ValueEnv}
use Rattle.kc_state.specs.Calls.{used, edited, tame, with_edits, frame_of as call_frame, called_at}
use Rattle.kc_state.specs.Location.{location_of}
use Rattle.kc_state.specs.Places.{word_of}
use Rattle.kc_state.specs.State.{IsState}
use Rattle.kc_state.specs.declared.key.Key.{Key}
use Rattle.kc_state.specs.declared.location.Location.{Location}
use Rattle.kc_state.specs.declared.location.Location.TheVariants.{Number, Relative}
use Rattle.kc_state.specs.declared.state.AbsState.{AbsState}
use Rattle.kc_describes.specs.Chain.{words_of, env_of}
use Rattle.kc_describes.specs.Describes.{IsInsideAt, Describes}
use Rattle.kc_describes.specs.Fits.{IsBaseOf, is_user_mode}
use Rattle.kc_describes.specs.Inside.{HasHandlerStack, IsHandlerRunning}
use Rattle.kc_describes.specs.Row.{value_at, CallStands, FileStands}
use Rattle.kc_describes.specs.Widths.{IsCall, IsMode, IsActivation}
use Rattle.kc_describes.proofs.HitLemmas.{offset_word}
use Rattle.kc_describes.proofs.LocationLemmas.{IsAt, located}
use Rattle.kc_describes.proofs.OperandLemmas.{value_at_valid}
use Rattle.kc_describes.proofs.StoreLemmas.{word_fitting}
use Rattle.kc_calls.specs.Laws.{body_of}
use Rattle.kc_body.specs.Edit.{IsEditing, edited_state, EditIsDescribed}
use Rattle.kc_body.proofs.EditChainLemmas.{only_one, none_live, words_edited, cpu_fits, edited_one, chain_edited}
use Rattle.kc_body.proofs.EditMemoryLemmas.{edited_memory, edited_bytes}
use Rattle.kc_body.proofs.EditSlotLemmas.{AreWordsEdited, slots_edited}
use Rattle.kc_body.proofs.EditValueLemmas.{with_words, tame_kept}

-- ---- where the frame is

-- the frame begins f bytes above the return address, and its 40 bytes lie in the stack
record IsFrameAt (top : ℕ) (frame : Option ℕ) (stack : Region) : Type 0 where
  from : ℕ
  named : frame ≡ Some from
  ends : top + from + 40 ≤ stack.span.to

frame_at : (top : ℕ) (frame : Option ℕ) (stack : Region) → FrameFits top frame stack → IsFrameAt top frame stack
frame_at top (Some f) stack h = record { from = f; named = refl; ends = h.1 }
frame_at top None stack h = absurd h

over_by : (cfg : Description) (o : Option ℕ) (r : Region)
    → option_and_then (λ s. stack_at cfg.regions s) o ≡ Some r → (s : ℕ) × (stack_at cfg.regions s ≡ Some r)
over_by cfg (Some s) r e = (s, e)
over_by cfg None r e = absurd cc

-- no stack reaches the last addresses
stack_ends : (cfg : Description) (valid : IsValid cfg) (a : ℕ) (r : Region) → stack_over cfg.regions a ≡ Some r
    → r.span.to ≤ 2 ^ 64 - 16
stack_ends cfg valid a r e =
    let over = over_by cfg (stack_of cfg.regions a) r e in
    ((laid cfg valid).stacks over.0 r over.1).ends

-- a location of a key without a stack is its number
number_place : (cfg : Description) (key : Key) (base n : ℕ) (l : Location) → key.stack ≡ None → IsAt cfg key base n l
    → l ≡ Number n
number_place cfg key base n (Number c) none h = ap Number h.1
number_place cfg key base n (Relative k) none h = absurd (let named = h.0.1.named in cc)

module _ (cfg : Description) (valid : IsValid cfg) (key : Key) (at : ℕ) (found : Option (Insn × ℕ)) (s : AbsState)
    (is : IsState s) (S : State) (a : Activation) (call : Call) (edit : Edit)
  where
    -- the one activation is the user's
    abbrev T : State
    T = record S { chain = a ∷ [] }

    abbrev env : ValueEnv
    env = env_of cfg (a ∷ [])

    abbrev words_after : List ℕ
    words_after = words_of (edited_cpu edit a.due)

    abbrev env_after : ValueEnv
    env_after = with_words env words_after

    abbrev edited_at : ℕ → State
    edited_at frame = record T {
      mem = record S.mem { bytes = edited_memory S.mem.bytes frame edit };
      chain = edited_one edit a ∷ [];
    }

    module _ (D : Describes cfg key (body_of at) found s T) (E : IsEditing cfg key s T call edit)
        (user : a.saved.mode ≡ User)
      where
        of_one : IsActivation a
        of_one = All-head IsActivation a [] D.typed.chain

        of_user : key.kernel ≡ false
        of_user = D.chain.fits.side ∙ ap (λ m. not (is_user_mode m)) user

        no_stack : key.stack ≡ None
        no_stack = D.chain.fits.rules.user of_user

        file : CallStands env s call
        file = subst (FileStands env s S.cpu) E.mode D.file

        call_fits : IsCall call
        call_fits = subst IsMode E.mode D.typed.cpu.mode

        running : IsHandlerRunning cfg key s (a ∷ []) S.cpu call E.handler
        running =
            subst (λ o. IsSomeAnd o (IsHandlerRunning cfg key s (a ∷ []) S.cpu call)) E.contract
            (subst (IsInsideAt cfg key at found s (a ∷ []) S.cpu) E.mode D.point).1

        rsp_place : location_of key (value_at s.regs 4) ≡ Some (Number call.rsp)
        rsp_place =
            E.placed ∙ ap (λ z. Some z) (number_place cfg key a.base call.rsp E.location no_stack
            (located cfg key a.saved.gs a D.chain.fits env refl call.rsp call_fits.rsp (value_at s.regs 4) E.location
            (value_at_valid s.regs 4 is.regs) file.rsp E.placed))

        framed : IsFrameAt call.rsp E.handler.frame E.stack
        framed = frame_at call.rsp E.handler.frame E.stack E.frame

        abbrev frame : ℕ
        frame = plus call.rsp framed.from

        whole : frame + 40 < 2 ^ 64
        whole =
            let ends = stack_ends cfg valid call.rsp E.stack E.over in
            omega (arith, ends, framed.ends)

        frame_is : frame_of cfg call ≡ frame
        frame_is =
            ap (λ o. plus call.rsp (option_map_or (λ h. unwrap_or h.frame 0) o 0)) E.contract
            ∙ ap (λ o. plus call.rsp (unwrap_or o 0)) framed.named

        abbrev uses : ℕ → AbsValue → AbsValue
        uses = used cfg key (Number call.rsp) E.handler.stack

        abbrev changed : Option ℕ → AbsState
        changed o = with_edits cfg key o (Number call.rsp) (record s { slots = redone uses 0 s.slots })

        -- the state is as the call's changes leave it
        fixed : changed (Some framed.from) ≡ s
        fixed =
            let frame_some : call_frame key E.handler ≡ Some framed.from =
            ap (λ b. cond b None E.handler.frame) of_user ∙ framed.named in
            sym (ap changed frame_some) ∙ sym (ap (called_at cfg key E.handler s) rsp_place) ∙ running.changed

        regs_fixed : map tame s.regs ≡ s.regs
        regs_fixed = ap (λ z. z.regs) fixed

        flags_fixed : tame s.flags ≡ s.flags
        flags_fixed = ap (λ z. z.flags) fixed

        slots_fixed : redone (edited cfg key (Number frame)) 0 (redone uses 0 s.slots) ≡ s.slots
        slots_fixed = ap (λ z. z.slots) fixed

        are : AreWordsEdited edit env.words words_after
        are = words_edited edit a.due of_one.due.regs.0

        -- a value without an edited symbol
        kept : (v : AbsValue) (n : ℕ) → tame v ≡ v → Represents v env n → Represents v env_after n
        kept v n e r =
            subst (λ z. Represents z env_after n) e
            (tame_kept env words_after v n are.others (subst (λ z. Represents z env n) (sym e) r))

        kept_at : (i n : ℕ) → i < 16 → Represents (value_at s.regs i) env n
            → Represents (value_at s.regs i) env_after n
        kept_at i n below r =
            let tamed = get_or-map tame s.regs i value_top value_top (omega (arith, is.reg_count, below)) in
            kept (value_at s.regs i) n (sym tamed ∙ ap (λ z. value_at z i) regs_fixed) r

        file_after : CallStands env_after s call
        file_after = record {
          rsp = kept_at 4 _ (omega arith) file.rsp;
          rbx = kept_at 3 _ (omega arith) file.rbx;
          rbp = kept_at 5 _ (omega arith) file.rbp;
          r12 = kept_at 12 _ (omega arith) file.r12;
          r13 = kept_at 13 _ (omega arith) file.r13;
          r14 = kept_at 14 _ (omega arith) file.r14;
          r15 = kept_at 15 _ (omega arith) file.r15;
          flags = kept s.flags call.flags flags_fixed file.flags;
        }

        -- no word lies at an offset, since the key has no stack
        number_words : (i : ℕ) (p : Location) → i < slot_count → word_of cfg key i ≡ Some p
            → (w : ℕ) × (p ≡ Number w) × (w < 2 ^ 64)
        number_words i (Number w) below e =
            (w, refl, word_fitting cfg valid key (a ∷ []) D.chain D.typed.chain i (Number w) below e)
        number_words i (Relative j) below e =
            let o = offset_word cfg key i j valid e in
            let lies : IsBaseOf cfg None false None a.base =
            subst (λ (z : Option ℕ). IsBaseOf cfg None false z a.base) no_stack
            (subst (λ b. IsBaseOf cfg None b key.stack a.base) o.event
            (subst (λ (z : Option ℕ). IsBaseOf cfg z key.syscall key.stack a.base) o.none D.chain.fits.base)) in
            absurd lies.0

        no_live : (b : Activation) → b.saved ≡ a.saved → (x : ℕ) → IsLive cfg (b ∷ []) x → ⊥
        no_live b same x live =
            none_live cfg b x
            (ap (λ c. stack_of cfg.regions (register c rsp)) same ∙ D.chain.admitted.stack) live

        abbrev one : Activation
        one = edited_one edit a

        handler_stack : HasHandlerStack cfg (one ∷ []) S.cpu call E.handler
        handler_stack =
            let h = running.stack in
            record {
              stack = h.stack;
              region = h.region;
              numbered = h.numbered;
              holds = h.holds;
              live = λ x live here. absurd (no_live one refl x live);
              room = h.room;
              within = h.within;
              free = h.free;
            }

        running_after : IsHandlerRunning cfg key s (one ∷ []) S.cpu call E.handler
        running_after = record {
          interrupts = running.interrupts;
          stack = handler_stack;
          cr3 = running.cr3;
          changed = running.changed;
        }

        -- the state describes the machine after the edit
        one_edited : Describes cfg key (body_of at) found s (edited_at frame)
        one_edited = record {
          typed = record {
            cpu = D.typed.cpu;
            mem = edited_bytes S.mem.bytes frame edit D.typed.mem;
            chain =
                All-cons IsActivation one []
                (record {
                  saved = of_one.saved;
                  base = of_one.base;
                  due = cpu_fits edit a.due of_one.due.regs.0 of_one.due E.words;
                })
                (All-nil IsActivation);
          };
          running = D.running;
          chain = chain_edited cfg key edit a of_one user E.edits D.chain;
          floors = λ x n live here. absurd (no_live one refl x live);
          file = subst (FileStands env_after s S.cpu) (sym E.mode) file_after;
          spaces = record { gs = D.spaces.gs; map = D.spaces.map; latches = D.spaces.latches };
          slots =
              slots_edited cfg valid env refl edit E.edits E.words words_after are S.mem.bytes frame whole key
              number_words uses s.slots is.slots.1 slots_fixed D.slots;
          bare = D.bare;
          kernel = D.kernel;
          point =
              subst (IsInsideAt cfg key at found s (one ∷ []) S.cpu) (sym E.mode) (
                (subst (IsInsideAt cfg key at found s (a ∷ []) S.cpu) E.mode D.point).0,
                subst (λ o. IsSomeAnd o (IsHandlerRunning cfg key s (one ∷ []) S.cpu call)) (sym E.contract)
                    running_after,
              );
        }

        pub as_one : Describes cfg key (body_of at) found s (edited_state cfg T call edit)
        as_one = subst (λ z. Describes cfg key (body_of at) found s (edited_at z)) (sym frame_is) one_edited

-- the chain of a machine whose newest activation interrupted the user is that activation
pub edited_described : EditIsDescribed
edited_described cfg key at found s S call edit valid is D E =
    let sole = only_one S.chain D.chain.one_user E.user in
    let a = sole.0 in
    let same : S ≡ record S { chain = a ∷ [] } = λ i. record S { chain = sole.1 i } in
    let described = subst (Describes cfg key (body_of at) found s) same D in
    let editing = subst (λ z. IsEditing cfg key s z call edit) same E in
    subst (λ z. Describes cfg key (body_of at) found s (edited_state cfg z call edit)) (sym same)
    (as_one cfg valid key at found s is S a call edit described editing sole.2)
