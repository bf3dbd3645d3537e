-- What an instruction leaves, as a record of changes, and how the parts of it are made. This project's own.
use Rattle.std.specs.Prelude.{ℕ, ◌+◌, ◌*◌, ◌-◌, ◌%◌, ◌^◌, Bool, false, List, [], ◌∷◌, Option, Some, None}
use Rattle.kc_words.specs.declared.width.Width.{Width}
use Rattle.kc_words.specs.declared.width.Width.TheVariants.{Quad}
use Rattle.kc_insn.specs.declared.insn.Place.{Place}
use Rattle.kc_cpu.specs.declared.cpu.Cpu.{Cpu}
use Rattle.kc_mem.specs.Memory.{read}
use Rattle.kc_exec.specs.declared.access.Access.{Access}
use Rattle.kc_exec.specs.declared.access.Write.{Write}
use Rattle.kc_exec.specs.declared.executed.ExecEnd.{ExecEnd}
use Rattle.kc_exec.specs.declared.executed.ExecEnd.TheVariants.{Next}
use Rattle.kc_exec.specs.declared.executed.Executed.{Executed}
use Rattle.kc_exec.specs.Moment.{Moment}
use Rattle.kc_exec.specs.Register.{register, with_register, rsp}
use Rattle.kc_exec.specs.Operand.{plus, plain_read, with_result, write_of}

-- The instruction at the target follows, with this processor, these reads and this write; the gap after an STI ends.
abbrev pub goes : Moment → ℕ → Cpu → List Access → Option Write → Executed
goes m target cpu reads write = record {
  cpu = record cpu { rip = target };
  latch = record m.latch { shadow = false };
  reads = reads;
  write = write;
  end = Next;
}

-- the next instruction follows
abbrev pub falls : Moment → Cpu → List Access → Option Write → Executed
falls m cpu reads write = goes m m.next cpu reads write

-- an operation on two operands: its flags, and its result, where it isn't dropped, into the destination
abbrev pub operated : Moment → Width → Place → List Access → ℕ → Option ℕ → Executed
operated m w dest reads flags None = falls m (record m.cpu { flags = flags }) reads None
operated m w dest reads flags (Some v) =
    falls m (with_result dest v (record m.cpu { flags = flags })) reads (write_of m w dest v)

-- ---- the stack: SDM vol. 1, "Stack Behavior in 64-Bit Mode"

-- RSP after a push
abbrev pub pushed_rsp : Moment → ℕ
pushed_rsp m = plus (register m.cpu rsp) (2 ^ 64 - 8)

abbrev pub with_pushed_rsp : Moment → Cpu
with_pushed_rsp m = with_register rsp (pushed_rsp m) m.cpu

-- the write of a push
abbrev pub push_of : Moment → ℕ → Option Write
push_of m v = Some (record { at = pushed_rsp m; width = Quad; value = v; gs = false })

-- word i of those on the stack, from 0, and the read of it
abbrev pub stack_address : Moment → ℕ → ℕ
stack_address m i = plus (register m.cpu rsp) (8 * i)

abbrev pub stack_word : Moment → ℕ → ℕ
stack_word m i = read m.mem (stack_address m i) 8

abbrev pub stack_read : Moment → ℕ → Access
stack_read m i = plain_read (stack_address m i) 8

-- the processor after the word at RSP was popped
abbrev pub with_popped_rsp : Moment → Cpu
with_popped_rsp m = with_register rsp (plus (register m.cpu rsp) 8) m.cpu
