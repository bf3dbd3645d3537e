-- What is known while a handler runs, this project's own.
use Rattle.std.specs.Prelude.{◌≡◌, ℕ, ◌+◌, ◌≤◌, List, Option, Some}
use Rattle.kc_bits.specs.Bits.{word}
use Rattle.kc_insn.specs.declared.insn.Insn.{Insn}
use Rattle.kc_insn.specs.declared.insn.Insn.TheVariants.{Call as CallInsn}
use Rattle.kc_regions.specs.Description.{Description}
use Rattle.kc_regions.specs.Lookup.{handler_of}
use Rattle.kc_regions.specs.Region.{stack_of, stack_at}
use Rattle.kc_regions.specs.declared.entry.Handler.{Handler}
use Rattle.kc_regions.specs.declared.region.Region.{Region}
use Rattle.kc_cpu.specs.declared.cpu.Call.{Call}
use Rattle.kc_cpu.specs.declared.cpu.Cpu.{Cpu}
use Rattle.kc_exec.specs.declared.state.Activation.{Activation}
use Rattle.kc_exec.specs.Live.{IsLive}
use Rattle.kc_exec.specs.Register.{register, rsp}
use Rattle.kc_events.specs.Allowed.{MaySetIf, IsRspFree}
use Rattle.kc_state.specs.Calls.{called}
use Rattle.kc_state.specs.declared.key.Key.{Key}
use Rattle.kc_state.specs.declared.state.AbsState.{AbsState}

-- the call was made by the instruction found at this address, and leads back to the one after it
abbrev pub IsCallAt : Description → ℕ → Option (Insn × ℕ) → Call → Type 0
IsCallAt cfg at (Some (CallInsn target, len)) call =
    (handler_of cfg.handlers target ≡ Some call.handler) × (call.back ≡ word (at + len))
IsCallAt cfg at found call = ⊥

-- The handler's stack holds the return address, no live byte of it lies below, and the handler has its depth there, of
-- which the guard may hold the last 4,096 bytes. RSP lies in the stack, in the part that is the handler's.
pub record HasHandlerStack (cfg : Description) (chain : List Activation) (cpu : Cpu) (call : Call) (h : Handler)
    : Type 0
  where
    pub stack : ℕ
    pub region : Region
    pub numbered : stack_at cfg.regions stack ≡ Some region
    pub holds : stack_of cfg.regions call.rsp ≡ Some stack
    pub live : (x : ℕ) → IsLive cfg chain x → stack_of cfg.regions x ≡ Some stack → call.rsp ≤ x
    pub room : region.span.from + h.stack ≤ call.rsp + 4096
    pub within : stack_of cfg.regions (register cpu rsp) ≡ Some stack
    pub free : IsRspFree call.rsp h.stack (register cpu rsp)

-- IF is set only where the handler may be interrupted or IF was set at the call; CR3 is the kernel's; and the state is
-- one that the call's changes leave as it is.
pub record IsHandlerRunning (cfg : Description) (key : Key) (s : AbsState) (chain : List Activation) (cpu : Cpu)
    (call : Call) (h : Handler) : Type 0
  where
    pub interrupts : MaySetIf call.flags h.irq cpu.flags
    pub stack : HasHandlerStack cfg chain cpu call h
    pub cr3 : cpu.cr3 ≡ cfg.cpu.kernel_cr3
    pub changed : called cfg key h s ≡ s
