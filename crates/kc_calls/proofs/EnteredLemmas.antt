-- The machine inside the handler. The state after the push is a state, so the changes of the call keep what stands and
-- are stable; the chain and its floors are as they were; the saved registers, RSP and RFLAGS are those of the call.
-- Then the cases of the definitions: which handler is called, and where RSP points.
use Rattle.std.proofs.Common.{◌≡◌, ◌≢◌, ℕ, ◌+◌, ◌^◌, ◌<◌, ◌&&◌, true, false, List, [], ◌∷◌, set, All, Option, Some, None, IsSomeAnd, slice_get, slice_index, inr, refl, sym, ap, ◌∙◌, subst, arith}
use Rattle.std.proofs.lemmas.Bool.{false≢true, and_parts}
use Rattle.std.proofs.lemmas.List.Elements.{All-nil, All-cons}
use Rattle.kc_bits.specs.Bits.{word}
use Rattle.kc_words.specs.declared.width.Width.TheVariants.{Quad}
use Rattle.kc_insn.specs.declared.insn.Insn.TheVariants.{Call as CallInsn}
use Rattle.kc_regions.specs.Description.{Description}
use Rattle.kc_regions.specs.Layout.{InBytes}
use Rattle.kc_regions.specs.Lookup.{handler_of}
use Rattle.kc_regions.specs.Permission.{in_guard}
use Rattle.kc_regions.specs.Region.{stack_of}
use Rattle.kc_regions.specs.Valid.{IsValid}
use Rattle.kc_regions.specs.declared.entry.Handler.{Handler}
use Rattle.kc_regions.specs.declared.touch.Touch.TheVariants.{Write}
use Rattle.kc_space.specs.Spaces.{is_same_who, is_same_map}
use Rattle.kc_space.specs.declared.map.MapState.{MapState}
use Rattle.kc_space.specs.declared.map.MapState.TheVariants as map
use Rattle.kc_space.specs.declared.gs.GsPair.{GsPair}
use Rattle.kc_space.specs.declared.latches.Latches.{Latches}
use Rattle.kc_space.specs.declared.tri.Tri.TheVariants.{No}
use Rattle.kc_space.specs.declared.who.Who.TheVariants as who
use Rattle.kc_cpu.specs.declared.cpu.Call.{Call}
use Rattle.kc_cpu.specs.declared.cpu.Cpu.{Cpu}
use Rattle.kc_cpu.specs.declared.cpu.Mode.TheVariants.{Inside}
use Rattle.kc_exec.specs.Change.{pushed_rsp, with_pushed_rsp, push_of as write_of_push, goes as machine_goes}
use Rattle.kc_exec.specs.Effect.{kept_registers, called_mode, row}
use Rattle.kc_exec.specs.Execution.{access_of}
use Rattle.kc_exec.specs.Moment.{Moment}
use Rattle.kc_exec.specs.declared.access.Access.{Access}
use Rattle.kc_exec.specs.declared.state.State.{State}
use Rattle.kc_events.specs.Attempt.{executed}
use Rattle.kc_events.specs.Run as run
use Rattle.kc_value.specs.Value.{Represents}
use Rattle.kc_value.specs.declared.env.ValueEnv.{ValueEnv}
use Rattle.kc_state.specs.AbsEffect.{abs_row, applied, call_or_jump, goes, push_of, pushed, with_pushed_rsp as with_pushed_value, with_store_at}
use Rattle.kc_state.specs.AbsStep.{entered, with_call}
use Rattle.kc_state.specs.Access.{clear}
use Rattle.kc_state.specs.Calls.{called, called_handler}
use Rattle.kc_state.specs.Conditions.{may_at, has_room, calls_well_at, calls_handler}
use Rattle.kc_state.specs.Location.{location_of}
use Rattle.kc_state.specs.Operand.{AbsMoment, number_value}
use Rattle.kc_state.specs.State.{IsState}
use Rattle.kc_state.specs.declared.key.Key.{Key}
use Rattle.kc_state.specs.declared.location.Location.{Location}
use Rattle.kc_state.specs.declared.state.AbsState.{AbsState}
use Rattle.kc_state.specs.declared.succ.Succ.TheVariants.{Calls}
use Rattle.kc_describes.specs.Chain.{newest_of, env_of}
use Rattle.kc_describes.specs.Describes.{Describes}
use Rattle.kc_describes.specs.Inside.{HasHandlerStack, IsHandlerRunning}
use Rattle.kc_describes.specs.Places.{FloorsStand}
use Rattle.kc_describes.specs.Row.{value_at, RegistersStand}
use Rattle.kc_describes.specs.Spaces.{GsStands, IsCr3Of, LatchesStand, cr3_env}
use Rattle.kc_describes.specs.Widths.{IsWord, IsCall}
use Rattle.kc_describes.proofs.CallLemmas.{Keeps, called_keeps}
use Rattle.kc_describes.proofs.FrameLemmas.{code_file}
use Rattle.kc_describes.proofs.OperandLemmas.{AreRegisters, word_at}
use Rattle.kc_describes.proofs.TwiceLemmas.{called_again}
use Rattle.kc_system.specs.System.{known_moment}
use Rattle.kc_calls.specs.Entered.{moment_at, CallIsCovered}
use Rattle.kc_calls.specs.Laws.{body_of, code_at}
use Rattle.kc_calls.proofs.CallerLemmas.{handler_at, entry_fits, kernel_map, IsRoomAt, room_at}
use Rattle.kc_calls.proofs.EnterLemmas as push
use Rattle.kc_calls.proofs.WriteLemmas.{write_bytes}

module _ (cfg : Description) (valid : IsValid cfg) (key : Key) (at len target number : ℕ) (s : AbsState)
    (is : IsState s) (S : State) (D : Describes cfg key (code_at at) (Some (CallInsn target, len)) s S)
    (entry : handler_of cfg.handlers target ≡ Some number) where
  abbrev env : ValueEnv
  env = env_of cfg S.chain

  abbrev m : Moment
  m = moment_at cfg S len

  abbrev before : AbsMoment
  before = known_moment key s m

  abbrev base : ℕ
  base = (newest_of S.chain).base

  abbrev rsp : ℕ
  rsp = pushed_rsp m

  file : RegistersStand env s S.cpu.regs S.cpu.flags
  file = code_file env s S.cpu S.cpu.mode D.point.0 D.file

  next_fits : m.next < 2 ^ 64
  next_fits = omega arith

  -- the call that the machine keeps while the handler runs
  abbrev call : Call
  call = record {
    handler = number;
    rsp = rsp;
    back = m.next;
    flags = S.cpu.flags;
    kept = kept_registers S.cpu;
  }

  register_fits : (i : ℕ) → slice_index S.cpu.regs i < 2 ^ 64
  register_fits i = word_at S.cpu.regs i D.typed.cpu.regs.1

  kept_fit : All IsWord (kept_registers S.cpu)
  kept_fit =
      let r = slice_index S.cpu.regs in
      All-cons IsWord (r 3) (r 5 ∷ r 12 ∷ r 13 ∷ r 14 ∷ r 15 ∷ []) (register_fits 3)
      (All-cons IsWord (r 5) (r 12 ∷ r 13 ∷ r 14 ∷ r 15 ∷ []) (register_fits 5)
      (All-cons IsWord (r 12) (r 13 ∷ r 14 ∷ r 15 ∷ []) (register_fits 12)
      (All-cons IsWord (r 13) (r 14 ∷ r 15 ∷ []) (register_fits 13)
      (All-cons IsWord (r 14) (r 15 ∷ []) (register_fits 14)
      (All-cons IsWord (r 15) [] (register_fits 15) (All-nil IsWord))))))

  call_typed : IsCall call
  call_typed =
      record { rsp = omega arith; back = next_fits; flags = D.typed.cpu.flags; kept = (refl, kept_fit) }

  -- the processor and the machine while the handler runs
  abbrev cpu : Cpu
  cpu = record (with_pushed_rsp m) { mode = Inside call; rip = target }

  abbrev after : State
  after =
      run.after S (executed S len (machine_goes m target (record (with_pushed_rsp m) { mode = Inside call }) []
      (write_of_push m m.next)))

  -- what is known after the push, where RSP points to this location
  abbrev stored_at : Option Location → AbsState
  stored_at o = record {
    regs = set s.regs 4 (pushed before);
    flags = s.flags;
    gs = s.gs;
    map = s.map;
    latches = record s.latches { shadow = No };
    floors = s.floors;
    slots = with_store_at cfg key s.slots
        (record { at = location_of key (pushed before); size = 8; value = number_value cfg m.next; gs = false }) o;
  }

  module _ (h : Handler) (contract : slice_get cfg.handlers number ≡ Some h) (l : Location)
      (there : location_of key (pushed before) ≡ Some l) (permitted : may_at before (Some l) 8 Write ≡ true)
      (well : calls_well_at before s.floors h (Some l) ≡ true)
      (unguarded : push.IsOpenPush cfg valid key S.chain D.chain D.typed.chain s is S.cpu D.typed.cpu file) where
    abbrev known : AbsState
    known = stored_at (Some l)

    abbrev out : AbsState
    out = called cfg key h known

    registers : AreRegisters env (set s.regs 4 (pushed before)) (set S.cpu.regs 4 rsp)
    registers =
        push.registers_after cfg valid key S.chain D.chain D.typed.chain s is S.cpu D.typed.cpu file l there permitted
        unguarded

    known_state : IsState known
    known_state = record {
      regs = registers.valid;
      reg_count = registers.count;
      flags = is.flags;
      floors = is.floors;
      slots = push.slots_valid cfg valid key S.chain D.chain D.typed.chain s is S.cpu D.typed.cpu file l there permitted
          unguarded m.next next_fits;
    }

    keeps : Keeps cfg valid key S.chain D.chain D.typed.chain known out after.mem.bytes
    keeps = called_keeps cfg valid key S.chain D.chain D.typed.chain h known after.mem.bytes known_state.slots.1

    kept : (i : ℕ) → i < 16 → i ≢ 4 → Represents (value_at out.regs i) env (slice_index S.cpu.regs i)
    kept i inside other =
        keeps.regs i (slice_index S.cpu.regs i)
        (push.other_after cfg valid key S.chain D.chain D.typed.chain s is S.cpu D.typed.cpu file l there permitted
        unguarded i inside other)

    parts : (is_same_map s.map map.Kernel ≡ true) × (clear cfg key s.floors l 0 ≡ true) × (has_room before h l ≡ true)
    parts =
        let p = and_parts (is_same_who s.gs.active who.Kernel) _ well in
        let q = and_parts (is_same_map s.map map.Kernel) _ p.1 in
        let r = and_parts (clear cfg key s.floors l 0) (has_room before h l) q.1 in
        (q.0, r.0, r.1)

    room : IsRoomAt cfg S.chain rsp h.stack
    room =
        room_at cfg valid key s.floors base S.chain D.chain.fits.base D.floors before refl refl h l rsp
        (push.pushed_at cfg valid key S.chain D.chain D.typed.chain s is S.cpu D.typed.cpu file l there permitted
        unguarded)
        (push.pushed_lies cfg valid key S.chain D.chain D.typed.chain s is S.cpu D.typed.cpu file l there permitted
        unguarded) parts.1 parts.2

    rsp_is : slice_index cpu.regs 4 ≡ rsp
    rsp_is =
        push.rsp_set cfg valid key S.chain D.chain D.typed.chain s is S.cpu D.typed.cpu file l there permitted unguarded

    has_stack : HasHandlerStack cfg S.chain cpu call h
    has_stack = record {
      stack = room.stack;
      region = room.region;
      numbered = room.numbered;
      holds = room.holds;
      live = room.live;
      room = room.room;
      within = ap (stack_of cfg.regions) rsp_is ∙ room.holds;
      free = record { not_below = omega (arith, rsp_is); not_above = omega (arith, rsp_is) };
    }

    runs : IsHandlerRunning cfg key out S.chain cpu call h
    runs = record {
      interrupts = λ set. inr set;
      stack = has_stack;
      cr3 = kernel_map s.map (cr3_env cfg) S.cpu.cr3 parts.0 D.spaces.map;
      changed = called_again cfg key h known known_state;
    }

    described : Describes cfg key (body_of at) (Some (CallInsn target, len)) out after
    described = record {
      typed = record {
        cpu = record {
          regs = (registers.size, registers.words);
          rip = entry_fits cfg.handlers target number valid.ranges.handlers entry;
          flags = D.typed.cpu.flags;
          cs = D.typed.cpu.cs;
          ss = D.typed.cpu.ss;
          gs = D.typed.cpu.gs;
          kgs = D.typed.cpu.kgs;
          cr3 = D.typed.cpu.cr3;
          mode = call_typed;
        };
        mem = write_bytes S.mem.bytes rsp 8 m.next D.typed.mem;
        chain = D.typed.chain;
      };
      running = D.running;
      chain = D.chain;
      floors = subst (λ f. FloorsStand cfg f base S.chain) (sym keeps.floors) D.floors;
      file = record {
        rsp = keeps.regs 4 rsp (push.rsp_after cfg valid key S.chain D.chain D.typed.chain s is S.cpu D.typed.cpu file l
            there permitted unguarded);
        rbx = kept 3 (omega arith) (λ e. absurd (omega (arith, e)));
        rbp = kept 5 (omega arith) (λ e. absurd (omega (arith, e)));
        r12 = kept 12 (omega arith) (λ e. absurd (omega (arith, e)));
        r13 = kept 13 (omega arith) (λ e. absurd (omega (arith, e)));
        r14 = kept 14 (omega arith) (λ e. absurd (omega (arith, e)));
        r15 = kept 15 (omega arith) (λ e. absurd (omega (arith, e)));
        flags = keeps.flags S.cpu.flags file.rflags;
      };
      spaces = record {
        gs = subst (λ (g : GsPair). GsStands cfg env.user_gs g cpu) (sym keeps.gs)
            (record { active = D.spaces.gs.active; inactive = D.spaces.gs.inactive });
        map = subst (λ (z : MapState). IsCr3Of cfg z cpu.cr3) (sym keeps.map) D.spaces.map;
        latches = subst (λ (z : Latches). LatchesStand z after.latch) (sym keeps.latches)
            (record { nmi_blocked = D.spaces.latches.nmi_blocked; shadow = refl; mcip = D.spaces.latches.mcip });
      };
      slots = keeps.slots (push.slots_after cfg valid key S.chain D.chain D.typed.chain s is S.cpu D.typed.cpu file l
          there permitted unguarded m.next next_fits S.mem.bytes D.slots);
      bare = keeps.bare (push.bare_after cfg valid key S.chain D.chain D.typed.chain s is S.cpu D.typed.cpu file l there
          permitted unguarded m.next next_fits D.bare);
      kernel = record { cs = D.kernel.cs; ss = D.kernel.ss; flags = D.kernel.flags };
      point = (
        (entry, ap (λ z. word (z + len)) D.point.1),
        subst (λ (o : Option Handler). IsSomeAnd o
            (IsHandlerRunning cfg key out S.chain cpu call)) (sym contract) runs,
      );
    }

  -- by where RSP points
  by_location : (h : Handler) → slice_get cfg.handlers number ≡ Some h → (o : Option Location)
      → location_of key (pushed before) ≡ o → may_at before o 8 Write ≡ true
      → calls_well_at before s.floors h o ≡ true
      → push.IsOpenPush cfg valid key S.chain D.chain D.typed.chain s is S.cpu D.typed.cpu file
      → Describes cfg key (body_of at) (Some (CallInsn target, len)) (called cfg key h (stored_at o)) after
  by_location h contract (Some l) there permitted well unguarded =
      described h contract l there permitted well unguarded
  by_location h contract None there permitted well unguarded = absurd (false≢true well)

abbrev AreOpen : Description → List Access → Type 0
AreOpen cfg accesses =
    All (λ a. (x : ℕ) → x < 2 ^ 64 → InBytes x a.at a.size → in_guard cfg.regions x ≡ false) accesses

pub call_covered : CallIsCovered
unfolding abs_row row
call_covered cfg key at len target number s S valid is C =
    let m = moment_at cfg S len in
    let before = known_moment key s m in
    let l = location_of key (pushed before) in
    let h = handler_at cfg.handlers target number C.entry in
    let p = and_parts (may_at before l 8 Write && true) true C.permitted in
    let q = and_parts (may_at before l 8 Write) true p.0 in
    let well : calls_well_at before s.floors h.0 l ≡ true =
    subst (λ (o : Option Handler). calls_handler before s.floors o ≡ true) h.1
    (subst (λ o. calls_handler before s.floors (called_handler cfg o) ≡ true) C.entry C.calls) in
    let write : Access = access_of (record { at = pushed_rsp m; width = Quad; value = m.next; gs = false }) in
    let unguarded : AreOpen cfg (write ∷ []) = C.unguarded in
    let known = applied cfg key s (goes before (Calls number) (with_pushed_value before)
    (push_of before (number_value cfg m.next))) in
    let inside = λ (o : Option ℕ). run.after S (executed S len
    (machine_goes m target (record (with_pushed_rsp m) { mode = called_mode m o }) [] (write_of_push m m.next))) in
    subst (λ (o : Option ℕ). Describes cfg key (body_of at) (Some (CallInsn target, len))
    (with_call cfg key known (call_or_jump target o)) (inside o)) (sym C.entry)
    (subst (λ (o : Option Handler). Describes cfg key (body_of at) (Some (CallInsn target, len))
    (entered cfg key known o) (inside (Some number))) (sym h.1)
    (by_location cfg valid key at len target number s is S C.described C.entry h.0 h.1 l refl q.0 well
    (unguarded 0 write (omega arith))))
