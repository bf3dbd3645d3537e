-- What the delivery of a vector does: SDM vol. 3A, "64-Bit Mode Stack Frame", "Stack Switching in IA-32e Mode",
-- "Interrupt Stack Table", "Flag Usage By Exception- or Interrupt-Handler Procedure". Which bytes of the IDT and the
-- GDT it touches, in which sizes and order, is this project's own.
use Rattle.std.specs.Prelude.{ℕ, zero, suc, ◌+◌, ◌-◌, ◌*◌, ◌%◌, ◌^◌, Bool, true, false, ◌||◌, ◌==◌, cond, if◌then◌else◌, List, [], ◌∷◌, ◌++◌, map, length, option_map, Option, Some, None, bit_and}
use Rattle.std.specs.Int.{w64, bit_not}
use Rattle.kc_regions.specs.declared.touch.Touch.TheVariants.{Write as ForWrite}
use Rattle.kc_regions.specs.declared.entry.Gate.{Gate}
use Rattle.kc_regions.specs.Description.{Description}
use Rattle.kc_regions.specs.Lookup.{gate_of, tss_word}
use Rattle.kc_cpu.specs.declared.cpu.Cpu.{Cpu}
use Rattle.kc_cpu.specs.declared.cpu.Latch.{Latch}
use Rattle.kc_cpu.specs.declared.cpu.Mode.{Mode}
use Rattle.kc_cpu.specs.declared.cpu.Mode.TheVariants.{User, Code, Inside}
use Rattle.kc_mem.specs.Memory.{Bytes, read, write}
use Rattle.kc_exec.specs.declared.access.Access.{Access}
use Rattle.kc_exec.specs.Operand.{plus, plain_read}
use Rattle.kc_exec.specs.Register.{register, with_register, rsp}
use Rattle.kc_exec.specs.Execution.{stops}
use Rattle.kc_events.specs.declared.delivery.DeliverEnd.{DeliverEnd}
use Rattle.kc_events.specs.declared.delivery.DeliverEnd.TheVariants.{Delivered as End, Stopped}
use Rattle.kc_events.specs.Allowed.{pushes_code}

-- ---- the stack

-- Which word of the TSS holds the new RSP: that of the gate's IST, 1 to 7; without an IST RSP0, 0, where user code is
-- interrupted, and none where kernel code is, since the stack stays.
abbrev pub without_ist : Mode → Option ℕ
without_ist User = Some 0
without_ist Code = None
without_ist (Inside call) = None

abbrev pub stack_taken : ℕ → Mode → Option ℕ
stack_taken ist mode = if ist == 0 then without_ist mode else Some ist

-- RSP before it is aligned
abbrev pub chosen_rsp : Description → Bytes → Cpu → Option ℕ → ℕ
chosen_rsp cfg mem cpu None = register cpu rsp
chosen_rsp cfg mem cpu (Some n) = read mem (tss_word cfg.cpu.tss n) 8

-- RSP aligned down to 16, from which the frame is pushed
abbrev pub base_of : Description → Bytes → Cpu → Gate → ℕ
base_of cfg mem cpu g =
    let chosen = chosen_rsp cfg mem cpu (stack_taken g.ist cpu.mode) in
    chosen - chosen % 16

-- ---- the frame

-- SS, RSP, RFLAGS, CS and RIP of the interrupted context, and the error code of a vector that pushes one
abbrev pub frame_words : Cpu → ℕ → ℕ → List ℕ
frame_words cpu v code =
    cpu.ss ∷ register cpu rsp ∷ cpu.flags ∷ cpu.cs ∷ cpu.rip ∷ (if pushes_code v then code ∷ [] else [])

-- the words with the addresses that they are pushed to, 8 bytes each, from the address top downwards
abbrev pub pushed : ℕ → List ℕ → List (ℕ × ℕ)
pushed top [] = []
pushed top (word ∷ words) = (plus top (2 ^ 64 - 8), word) ∷ pushed (plus top (2 ^ 64 - 8)) words

-- the memory after the pushes
abbrev pub with_pushed : Bytes → List (ℕ × ℕ) → Bytes
with_pushed mem [] = mem
with_pushed mem (w ∷ ws) = with_pushed (write mem w.0 8 w.1) ws

-- ---- accesses

abbrev pub stack_reads : Description → Option ℕ → List Access
stack_reads cfg None = []
stack_reads cfg (Some n) = plain_read (tss_word cfg.cpu.tss n) 8 ∷ []

-- the push of a word
abbrev pub push_access : ℕ × ℕ → Access
push_access w = record { at = w.0; size = 8; touch = ForWrite; gs = false }

-- the gate, the descriptor of the kernel's CS, the word of the TSS where one is taken, and the pushes
abbrev pub delivery_accesses : Description → Cpu → Gate → List (ℕ × ℕ) → List Access
delivery_accesses cfg cpu g frame =
    plain_read (plus cfg.cpu.idt (16 * g.vector)) 16 ∷ plain_read (plus cfg.cpu.gdt cfg.cpu.star_kernel) 8
    ∷ (stack_reads cfg (stack_taken g.ist cpu.mode) ++ map push_access frame)

-- ---- the processor afterwards

-- TF and NT are cleared, and by an interrupt gate IF
abbrev pub cleared_flags : Bool → ℕ
cleared_flags trap = cond trap 0x4100 0x4300

-- code that interrupts the user runs with a null SS
abbrev pub ss_after : Cpu → Mode → ℕ
ss_after cpu User = 0
ss_after cpu Code = cpu.ss
ss_after cpu (Inside call) = cpu.ss

abbrev pub entered_cpu : Description → Cpu → Gate → ℕ → Cpu
entered_cpu cfg cpu g new_rsp = record (with_register rsp new_rsp cpu) {
  rip = g.entry;
  flags = bit_and cpu.flags (bit_not w64 (cleared_flags g.trap));
  cs = cfg.cpu.star_kernel;
  ss = ss_after cpu cpu.mode;
  mode = Code;
}

-- an NMI blocks NMIs, a machine check sets MCIP, and the gap after an STI ends
abbrev pub entered_latch : Latch → ℕ → Latch
entered_latch latch v = record {
  nmi_blocked = latch.nmi_blocked || v == 2;
  shadow = false;
  mcip = latch.mcip || v == 18;
}

-- ---- the whole

-- what a delivery leaves, where no access has a byte in a guard
pub record Delivered : Type 0 where
  pub cpu : Cpu
  pub latch : Latch
  pub mem : Bytes
  pub base : ℕ
  pub accesses : List Access

abbrev pub delivered : Description → Bytes → Cpu → Latch → Gate → ℕ → Delivered
delivered cfg mem cpu latch g code =
    let base = base_of cfg mem cpu g in
    let frame = pushed base (frame_words cpu g.vector code) in
    record {
      cpu = entered_cpu cfg cpu g (plus base (2 ^ 64 - 8 * length frame));
      latch = entered_latch latch g.vector;
      mem = with_pushed mem frame;
      base = base;
      accesses = delivery_accesses cfg cpu g frame;
    }

-- the delivery of vector v, where it has a gate
abbrev pub delivery : Description → Bytes → Cpu → Latch → ℕ → ℕ → Option Delivered
delivery cfg mem cpu latch v code = option_map (λ g. delivered cfg mem cpu latch g code) (gate_of cfg.gates v)

-- where an access has a byte in a guard the machine stops
abbrev pub end_of_delivery : Description → Delivered → DeliverEnd
end_of_delivery cfg d = cond (stops cfg d.accesses) Stopped (End d.base)
