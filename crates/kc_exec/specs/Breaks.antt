-- The breaks of one instruction that no access shows: B6, B7 and B8. This project's own, but for what is canonical.
use Rattle.std.specs.Prelude.{ℕ, ◌+◌, ◌-◌, ◌%◌, ◌^◌, Bool, true, false, not, ◌&&◌, ◌||◌, ◌==◌, nat_lt, nat_le, if◌then◌else◌, Option, Some, None, is_some}
use Rattle.kc_insn.specs.declared.insn.Insn.{Insn}
use Rattle.kc_insn.specs.declared.insn.Insn.TheVariants.{Ud2, Rdmsr, Wrmsr, WriteCr3, WriteGs, Call}
use Rattle.kc_regions.specs.Description.{Description}
use Rattle.kc_regions.specs.Lookup.{handler_of}
use Rattle.kc_regions.specs.Region.{stack_of}
use Rattle.kc_cpu.specs.declared.cpu.Cpu.{Cpu}
use Rattle.kc_exec.specs.declared.executed.ExecEnd.TheVariants.{Forbidden}
use Rattle.kc_exec.specs.declared.executed.Executed.{Executed}
use Rattle.kc_exec.specs.Moment.{Moment}
use Rattle.kc_exec.specs.Register.{register}
use Rattle.kc_exec.specs.Change.{pushed_rsp}
use Rattle.kc_exec.specs.Effect.{gs_base, kernel_gs_base, mcg_status, msr_number, edx_eax, stored_cr3, row}

-- bits 47 to 63 are alike: SDM vol. 1, "Canonical Addressing"
abbrev pub is_canonical : ℕ → Bool
is_canonical n = nat_lt n (2 ^ 47) || nat_le (2 ^ 64 - 2 ^ 47) n

-- B6: CR3 is loaded with a value that, without bit 63, is neither of the two configured ones
abbrev pub loads_third_cr3 : Moment → Insn → Bool
loads_third_cr3 m (WriteCr3 r) =
    not (stored_cr3 (register m.cpu r) == m.cfg.cpu.kernel_cr3 || stored_cr3 (register m.cpu r) == m.cfg.cpu.user_cr3)
loads_third_cr3 m insn = false

-- the kernel's GS base is active, CR3 is the kernel's, and RSP after the push lies in a stack
abbrev pub may_call : Moment → Bool
may_call m =
    m.cpu.gs == m.cfg.cpu.kernel_gs
    && (m.cpu.cr3 == m.cfg.cpu.kernel_cr3 && is_some (stack_of m.cfg.regions (pushed_rsp m)))

-- B7: a handler is called where it may not be
abbrev pub miscalls : Moment → Insn → Bool
miscalls m (Call target) = is_some (handler_of m.cfg.handlers target) && not (may_call m)
miscalls m insn = false

-- the three model-specific registers of the model
abbrev pub is_known_msr : ℕ → Bool
is_known_msr number = number == gs_base || (number == kernel_gs_base || number == mcg_status)

-- a GS base takes a canonical number, and IA32_MCG_STATUS takes 0 alone
abbrev pub takes : ℕ → ℕ → Bool
takes number v = if number == mcg_status then v == 0 else is_known_msr number && is_canonical v

-- B8: UD2; RDMSR of another number; WRMSR of another number or of a value that it doesn't take; a GS base that isn't
-- canonical. That SYSRETQ ends an activation other than a syscall's is B8 too, and no matter of the instruction alone.
abbrev pub is_forbidden : Moment → Insn → Bool
is_forbidden m Ud2 = true
is_forbidden m Rdmsr = not (is_known_msr (msr_number m.cpu))
is_forbidden m Wrmsr = not (takes (msr_number m.cpu) (edx_eax m.cpu))
is_forbidden m (WriteGs r) = not (is_canonical (register m.cpu r))
is_forbidden m insn = false

-- the number of the break
abbrev pub break_of : Moment → Insn → Option ℕ
break_of m insn =
    if loads_third_cr3 m insn then Some 6 else
    if miscalls m insn then Some 7 else
    if is_forbidden m insn then Some 8 else None

-- the record of changes, with the break as its end where there is one
abbrev pub judged : Option ℕ → Executed → Executed
judged None done = done
judged (Some n) done = record done { end = Forbidden n }

-- what the instruction does, whatever its accesses touch
unfoldable pub effect : Moment → Insn → Executed
effect m insn = judged (break_of m insn) (row m insn)
