-- A handler's step. Its registers and RFLAGS are what may come, the call is as it was, and the slots stand for their
-- words after the bytes that it writes, so the same state describes the machine; an edit of the user's frame comes
-- after that, and without one the chain of activations stays.
use Rattle.std.proofs.Common.{◌≡◌, ℕ, false, List, [], ◌∷◌, Option, Some, None, IsSomeAnd, inl, inr, refl, sym, ap, subst}
use Rattle.std.proofs.lemmas.List.{set-get_or}
use Rattle.kc_insn.specs.declared.insn.Insn.{Insn}
use Rattle.kc_regions.specs.Description.{Description}
use Rattle.kc_regions.specs.Valid.{IsValid}
use Rattle.kc_regions.specs.declared.entry.Handler.{Handler}
use Rattle.kc_cpu.specs.declared.cpu.Cpu.{Cpu}
use Rattle.kc_cpu.specs.declared.cpu.Mode.{Mode}
use Rattle.kc_cpu.specs.declared.cpu.Mode.TheVariants.{Inside}
use Rattle.kc_mem.specs.Memory.{put_all}
use Rattle.kc_exec.specs.Execution.{stops}
use Rattle.kc_exec.specs.declared.state.Activation.{Activation}
use Rattle.kc_exec.specs.declared.state.State.{State}
use Rattle.kc_events.specs.Allowed.{MayBody, is_edit}
use Rattle.kc_events.specs.Attempt.{body_step, frame_of}
use Rattle.kc_events.specs.Edits.{with_edit, edited_cpu}
use Rattle.kc_events.specs.Turns.{body_cpu}
use Rattle.kc_events.specs.declared.turn.BodySet.{BodySet}
use Rattle.kc_events.specs.declared.turn.Edit.{Edit}
use Rattle.kc_value.specs.declared.env.ValueEnv.{ValueEnv}
use Rattle.kc_state.specs.State.{IsState}
use Rattle.kc_state.specs.declared.key.Key.{Key}
use Rattle.kc_state.specs.declared.state.AbsState.{AbsState}
use Rattle.kc_describes.specs.Chain.{env_of}
use Rattle.kc_describes.specs.Describes.{IsInsideAt, Describes}
use Rattle.kc_describes.specs.Inside.{IsCallAt, IsHandlerRunning}
use Rattle.kc_describes.specs.Row.{FileStands, CallStands}
use Rattle.kc_describes.specs.Widths.{IsCall, IsMode}
use Rattle.kc_calls.specs.Laws.{body_of}
use Rattle.kc_calls.proofs.InsideLemmas.{IsRunning}
use Rattle.kc_body.specs.Body.{IsBodySet, IsExactInside}
use Rattle.kc_body.proofs.QuietLemmas.{rsp_within}
use Rattle.kc_body.proofs.WrittenLemmas.{put_all_bytes, slots_after}

-- ---- no edit

same_due : (edit : Edit) (due : Cpu) → is_edit edit ≡ false → edited_cpu edit due ≡ due
same_due edit due e = by edit.rip edit.flags edit.rsp e
  where
    by : (rip flags rsp : Option ℕ) → is_edit (record { rip = rip; flags = flags; rsp = rsp }) ≡ false
        → edited_cpu (record { rip = rip; flags = flags; rsp = rsp }) due ≡ due
    by None None None e = let regs = set-get_or due.regs 4 0 in λ i. record due { regs = regs i }
    by (Some a) flags rsp e = absurd cc
    by None (Some a) rsp e = absurd cc
    by None None (Some a) e = absurd cc

pub same_chain : (edit : Edit) (chain : List Activation) → is_edit edit ≡ false → with_edit edit chain ≡ chain
same_chain edit [] e = refl
same_chain edit (a ∷ []) e = let due = same_due edit a.due e in λ i. record a { due = due i } ∷ []
same_chain edit (a ∷ (b ∷ rest)) e = ap (λ z. a ∷ z) (same_chain edit (b ∷ rest) e)

-- ---- the registers and the bytes

-- the machine with what the step leaves, but for an edit
abbrev pub stepped : State → BodySet → State
stepped S b =
    record S { cpu = body_cpu S.cpu b; mem = record S.mem { bytes = put_all S.mem.bytes b.writes } }

module _ (cfg : Description) (valid : IsValid cfg) (key : Key) (at : ℕ) (insn : Insn) (len : ℕ) (s : AbsState)
    (is : IsState s) (S : State) (D : Describes cfg key (body_of at) (Some (insn, len)) s S)
    (exact : IsExactInside cfg key s) (b : BodySet) (typed : IsBodySet b)
    (r : IsRunning cfg key at insn len s S)
    (may : MayBody cfg S r.call r.handler r.running.stack.region b) where
  abbrev env : ValueEnv
  env = env_of cfg S.chain

  abbrev frame : ℕ
  frame = frame_of cfg r.call

  pub file : CallStands env s r.call
  file = subst (FileStands env s S.cpu) r.mode D.file

  pub call_typed : IsCall r.call
  call_typed = subst IsMode r.mode D.typed.cpu.mode

  runs_on : stops cfg (body_step S b frame).accesses ≡ false
      → IsHandlerRunning cfg key s S.chain (body_cpu S.cpu b) r.call r.handler
  runs_on runs = record {
    interrupts = λ set. elim (may.interrupts set) [
      | inl irq ↦ inl irq
      | inr before ↦ r.running.interrupts before
    ];
    stack = record {
      stack = r.running.stack.stack;
      region = r.running.stack.region;
      numbered = r.running.stack.numbered;
      holds = r.running.stack.holds;
      live = r.running.stack.live;
      room = r.running.stack.room;
      within = rsp_within cfg valid key s S D.chain r.call r.handler r.running b typed may frame runs;
      free = may.rsp;
    };
    cr3 = r.running.cr3;
    changed = r.running.changed;
  }

  point : (now : Mode) → now ≡ Inside r.call → stops cfg (body_step S b frame).accesses ≡ false
      → IsCallAt cfg at (Some (insn, len)) r.call
      → IsInsideAt cfg key at (Some (insn, len)) s S.chain (body_cpu S.cpu b) now
  point now e runs called =
      subst (IsInsideAt cfg key at (Some (insn, len)) s S.chain (body_cpu S.cpu b)) (sym e) (
        called,
        subst (λ (o : Option Handler). IsSomeAnd o (IsHandlerRunning cfg key s S.chain (body_cpu S.cpu b) r.call))
            (sym r.contract) (runs_on runs),
      )

  call_at : (now : Mode) → now ≡ Inside r.call
      → IsInsideAt cfg key at (Some (insn, len)) s S.chain S.cpu now → IsCallAt cfg at (Some (insn, len)) r.call
  call_at now e here = (subst (IsInsideAt cfg key at (Some (insn, len)) s S.chain S.cpu) e here).0

  -- where the machine goes on, the state describes it
  pub stepped_described : stops cfg (body_step S b frame).accesses ≡ false
      → Describes cfg key (body_of at) (Some (insn, len)) s (stepped S b)
  stepped_described runs = record {
    typed = record {
      cpu = record {
        regs = typed.regs;
        rip = typed.rip;
        flags = typed.flags;
        cs = D.typed.cpu.cs;
        ss = D.typed.cpu.ss;
        gs = D.typed.cpu.gs;
        kgs = D.typed.cpu.kgs;
        cr3 = D.typed.cpu.cr3;
        mode = D.typed.cpu.mode;
      };
      mem = put_all_bytes S.mem.bytes b.writes typed.writes D.typed.mem;
      chain = D.typed.chain;
    };
    running = D.running;
    chain = D.chain;
    floors = D.floors;
    file = subst (FileStands env s (body_cpu S.cpu b)) (sym r.mode) file;
    spaces = record {
      gs = record { active = D.spaces.gs.active; inactive = D.spaces.gs.inactive };
      map = D.spaces.map;
      latches = D.spaces.latches;
    };
    slots =
        slots_after cfg valid key S.chain D.chain D.typed.chain s is r.call call_typed.rsp file.rsp exact S.cpu
        r.handler r.running S.mem.bytes b.writes may.writes D.slots;
    bare = D.bare;
    kernel = record { cs = D.kernel.cs; ss = D.kernel.ss; flags = may.flags };
    point = point S.cpu.mode r.mode runs (call_at S.cpu.mode r.mode D.point);
  }
