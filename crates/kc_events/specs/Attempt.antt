-- What a turn does where nothing stops or breaks it, and what is judged of it. This project's own.
use Rattle.std.specs.Prelude.{ℕ, zero, suc, Bool, true, false, List, [], ◌∷◌, ◌++◌, map, slice_get, slice_index, if◌then◌else◌, Option, Some, None}
use Rattle.std.specs.Option.{option_map_or, unwrap_or}
use Rattle.kc_insn.specs.declared.insn.Insn.{Insn}
use Rattle.kc_regions.specs.declared.touch.Touch.TheVariants.{Read, Write as ForWrite}
use Rattle.kc_regions.specs.declared.entry.Gate.{Gate}
use Rattle.kc_regions.specs.declared.entry.Handler.{Handler}
use Rattle.kc_regions.specs.Description.{Description}
use Rattle.kc_regions.specs.Lookup.{gate_of}
use Rattle.kc_cpu.specs.declared.cpu.Cpu.{Cpu}
use Rattle.kc_cpu.specs.declared.cpu.Latch.{Latch}
use Rattle.kc_cpu.specs.declared.cpu.Call.{Call}
use Rattle.kc_cpu.specs.declared.cpu.Mode.{Mode}
use Rattle.kc_cpu.specs.declared.cpu.Mode.TheVariants.{User, Code, Inside}
use Rattle.kc_mem.specs.Memory.{Bytes, next, write, put_all}
use Rattle.kc_exec.specs.declared.access.Access.{Access}
use Rattle.kc_exec.specs.declared.state.Activation.{Activation}
use Rattle.kc_exec.specs.declared.state.State.{State}
use Rattle.kc_exec.specs.declared.executed.Executed.{Executed}
use Rattle.kc_exec.specs.declared.executed.ExecEnd.{ExecEnd}
use Rattle.kc_exec.specs.declared.executed.ExecEnd.TheVariants.{Next, Returned, Stopped, Forbidden}
use Rattle.kc_exec.specs.Breaks.{effect}
use Rattle.kc_exec.specs.Execution.{moment, accesses_of, with_write}
use Rattle.kc_exec.specs.Operand.{plus, plain_read}
use Rattle.kc_exec.specs.Register.{register, rsp}
use Rattle.kc_events.specs.declared.turn.UserSet.{UserSet}
use Rattle.kc_events.specs.declared.turn.BodySet.{BodySet}
use Rattle.kc_events.specs.declared.turn.Turn.{Turn}
use Rattle.kc_events.specs.declared.turn.Turn.TheVariants.{Go, Irq, Nmi, Debug, Check, Fault, Trap, Syscall, User as UserTurn, Body, Leave}
use Rattle.kc_events.specs.Turns.{after_syscall, user_cpu, body_cpu, after_leave, made_by_event, made_by_syscall, newest, without_newest, mode_below}
use Rattle.kc_events.specs.Edits.{edited_words, with_edit}
use Rattle.kc_events.specs.Delivery.{Delivered, delivered, with_pushed}

-- `chain` are the activations whose stack bytes are live while the turn's writes are judged; `accesses` are in their
-- order; `bytes` are addresses that are written besides, by a handler; `cpu` to `left` are what stands after the turn.
pub record Attempt : Type 0 where
  pub accesses : List Access
  pub bytes : List ℕ
  pub chain : List Activation
  pub cpu : Cpu
  pub latch : Latch
  pub mem : Bytes
  pub left : List Activation

-- nothing happens
abbrev pub idle : State → Attempt
idle S = record {
  accesses = [];
  bytes = [];
  chain = S.chain;
  cpu = S.cpu;
  latch = S.latch;
  mem = S.mem.bytes;
  left = S.chain;
}

-- ---- an instruction

abbrev pub is_return : ExecEnd → Bool
is_return Returned = true
is_return Next = false
is_return Stopped = false
is_return (Forbidden n) = false

-- a return takes the newest activation away, and the mode becomes that of its interrupted context
abbrev pub executed : State → ℕ → Executed → Attempt
executed S n done = record {
  accesses = accesses_of S.cpu n done;
  bytes = [];
  chain = S.chain;
  cpu = if is_return done.end then record done.cpu { mode = mode_below S.chain done.cpu.mode } else done.cpu;
  latch = done.latch;
  mem = with_write done.write S.mem.bytes;
  left = if is_return done.end then without_newest S.chain else S.chain;
}

abbrev pub gone : Description → Option (Insn × ℕ) → State → Attempt
gone cfg None S = idle S
gone cfg (Some (insn, n)) S = executed S n (effect (moment cfg S.cpu S.latch S.mem.bytes n) insn)

-- ---- events

-- the writes of a delivery are judged with the activation that it makes already in the chain
abbrev pub entered : State → ℕ → Delivered → Attempt
entered S v d =
    let chain = S.chain ++ made_by_event S.cpu v d.base ∷ [] in
    record { accesses = d.accesses; bytes = []; chain = chain; cpu = d.cpu; latch = d.latch; mem = d.mem; left = chain }

abbrev pub through_gate : Description → Option Gate → State → ℕ → Attempt
through_gate cfg None S code = idle S
through_gate cfg (Some g) S code = entered S g.vector (delivered cfg S.mem.bytes S.cpu S.latch g code)

abbrev pub event : Description → State → ℕ → ℕ → Attempt
event cfg S v code = through_gate cfg (gate_of cfg.gates v) S code

abbrev pub syscall : Description → State → Attempt
syscall cfg S = record (idle S) { cpu = after_syscall cfg S.cpu; left = S.chain ++ made_by_syscall S.cpu ∷ [] }

-- ---- user code and handlers

abbrev pub user_step : State → UserSet → Attempt
user_step S u = record (idle S) { cpu = user_cpu S.cpu u; mem = put_all S.mem.bytes u.writes }

-- the addresses of the n bytes from a on
abbrev pub span_of : ℕ → ℕ → List ℕ
span_of a zero = []
span_of a (suc n) = a ∷ span_of (next a) n

abbrev pub bytes_of_words : List (ℕ × ℕ) → List ℕ
bytes_of_words [] = []
bytes_of_words (w ∷ ws) = span_of w.0 8 ++ bytes_of_words ws

-- one access, a read of the byte at the new RSP; then its bytes are written, and the edited words
abbrev pub body_step : State → BodySet → ℕ → Attempt
body_step S b frame = record {
  accesses = plain_read (slice_index b.regs 4) 1 ∷ [];
  bytes = map (λ w. w.0) b.writes ++ bytes_of_words (edited_words frame b.edit);
  chain = S.chain;
  cpu = body_cpu S.cpu b;
  latch = S.latch;
  mem = with_pushed (put_all S.mem.bytes b.writes) (edited_words frame b.edit);
  left = with_edit b.edit S.chain;
}

-- where the saved RIP lies above the handler's return address, by its contract
abbrev pub frame_of : Description → Call → ℕ
frame_of cfg call = plus call.rsp (option_map_or (λ h. unwrap_or h.frame 0) (slice_get cfg.handlers call.handler) 0)

abbrev pub inside : Mode → Attempt → (Call → Attempt) → Attempt
inside (Inside call) other of = of call
inside User other of = other
inside Code other of = other

-- ---- the table

abbrev pub attempt : Description → Option (Insn × ℕ) → State → Turn → Attempt
attempt cfg found S Go = gone cfg found S
attempt cfg found S (Irq v) = event cfg S v 0
attempt cfg found S Nmi = event cfg S 2 0
attempt cfg found S Debug = event cfg S 1 0
attempt cfg found S Check = event cfg S 18 0
attempt cfg found S (Fault a code) = event cfg S 14 code
attempt cfg found S (Trap v code) = event cfg S v code
attempt cfg found S Syscall = syscall cfg S
attempt cfg found S (UserTurn u) = user_step S u
attempt cfg found S (Body b) = inside S.cpu.mode (idle S) (λ call. body_step S b (frame_of cfg call))
attempt cfg found S (Leave l) = inside S.cpu.mode (idle S) (λ call. record (idle S) { cpu = after_leave S.cpu call l })
