-- What SYSCALL does (SDM vol. 2, "SYSCALL"), and what the turns of user code and of C handlers leave: this project's
-- own.
use Rattle.std.specs.Prelude.{ℕ, ◌+◌, ◌%◌, ◌^◌, true, false, List, [], ◌∷◌, Option, Some, None, bit_and, slice_set, slice_index}
use Rattle.std.specs.Option.{option_map_or}
use Rattle.std.specs.Int.{w64, bit_not}
use Rattle.kc_regions.specs.Description.{Description}
use Rattle.kc_cpu.specs.declared.cpu.Cpu.{Cpu}
use Rattle.kc_cpu.specs.declared.cpu.Call.{Call}
use Rattle.kc_cpu.specs.declared.cpu.Mode.{Mode}
use Rattle.kc_cpu.specs.declared.cpu.Mode.TheVariants.{Code}
use Rattle.kc_exec.specs.declared.state.Activation.{Activation}
use Rattle.kc_exec.specs.Register.{with_register, rcx, r11}
use Rattle.kc_events.specs.declared.turn.UserSet.{UserSet}
use Rattle.kc_events.specs.declared.turn.BodySet.{BodySet}
use Rattle.kc_events.specs.declared.turn.LeaveSet.{LeaveSet}

-- "SYSCALL": RCX := RIP, the address after it; RIP := IA32_LSTAR; R11 := RFLAGS; RFLAGS := RFLAGS AND NOT(IA32_FMASK);
-- CS and SS from IA32_STAR. RSP stays.
abbrev pub after_syscall : Description → Cpu → Cpu
after_syscall cfg cpu = record (with_register rcx cpu.rip (with_register r11 cpu.flags cpu)) {
  rip = cfg.cpu.syscall;
  flags = bit_and cpu.flags (bit_not w64 cfg.cpu.fmask);
  cs = cfg.cpu.star_kernel;
  ss = cfg.cpu.star_kernel + 8;
  mode = Code;
}

-- user code leaves these; SS, the inactive GS base and CR3 stay
abbrev pub user_cpu : Cpu → UserSet → Cpu
user_cpu cpu u = record cpu { regs = u.regs; rip = u.rip; flags = u.flags; cs = u.cs; gs = u.gs }

-- a handler's step leaves these; CS, SS, the GS bases and CR3 stay
abbrev pub body_cpu : Cpu → BodySet → Cpu
body_cpu cpu b = record cpu { regs = b.regs; rip = b.rip; flags = b.flags }

-- RBX, RBP and R12 to R15 as they were at the call, RSP above the return address
abbrev pub given_back : Call → List ℕ → List ℕ
given_back call regs =
    slice_set (slice_set (slice_set (slice_set (slice_set (slice_set (slice_set regs
    3 (slice_index call.kept 0)) 5 (slice_index call.kept 1)) 12 (slice_index call.kept 2)) 13
    (slice_index call.kept 3))
    14 (slice_index call.kept 4)) 15 (slice_index call.kept 5)) 4 ((call.rsp + 8) % 2 ^ 64)

-- the handler returns: the code after the call goes on
abbrev pub after_leave : Cpu → Call → LeaveSet → Cpu
after_leave cpu call l = record cpu { regs = given_back call l.regs; rip = call.back; flags = l.flags; mode = Code }

-- ---- the chain of activations, the newest last

-- the activation that the delivery of vector v makes, with the base from which its frame was pushed; and that of
-- SYSCALL
abbrev pub made_by_event : Cpu → ℕ → ℕ → Activation
made_by_event cpu v base = record { syscall = false; vector = v; saved = cpu; base = base; due = cpu }

abbrev pub made_by_syscall : Cpu → Activation
made_by_syscall cpu = record { syscall = true; vector = 0; saved = cpu; base = 0; due = cpu }

abbrev pub newest : List Activation → Option Activation
newest [] = None
newest (a ∷ []) = Some a
newest (a ∷ (b ∷ rest)) = newest (b ∷ rest)

abbrev pub without_newest : List Activation → List Activation
without_newest [] = []
without_newest (a ∷ []) = []
without_newest (a ∷ (b ∷ rest)) = a ∷ without_newest (b ∷ rest)

-- the mode that a return goes back to
abbrev pub mode_below : List Activation → Mode → Mode
mode_below chain mode = option_map_or (λ a. a.saved.mode) (newest chain) mode
