use Rattle.std.proofs.Common.{refl, ap, sym, subst}
use Rattle.kc_cpu.specs.declared.cpu.Cpu.{Cpu}
use Rattle.kc_mem.specs.Memory.{Bytes}
use Rattle.kc_exec.specs.declared.state.State.{State}
use Rattle.kc_exec.specs.Admitted.{IsAdmitted, IsAdmittedStart, HoldsConfigured}
use Rattle.kc_machine.proofs.StartLemmas.{holds-configured}
use Rattle.kc_machine.proofs.machine.Machine.start.Goals as goal

pub returns-in-Ok-clause-admitted : goal.returns-in-Ok-clause-admitted
returns-in-Ok-clause-admitted c =
    let cfg = c.args.config in
    let may = c.may_start.ensures.exact.0 c.if-may_start.true in
    let cpu_is = c.start_cpu-cpu.ensures in
    subst (λ (s : State). IsAdmittedStart cfg s) (sym c.start_state.ensures) (record {
      running = refl;
      mode = ap (λ (p : Cpu). p.mode) cpu_is;
      processor = subst (λ (p : Cpu). IsAdmitted cfg p) (sym cpu_is) may.processor;
      chain = refl;
      latches = refl;
      memory = subst (λ (b : Bytes). HoldsConfigured cfg b) (sym c.in-Ok.ensures)
          (holds-configured cfg c.args.first.now.writes c.tell.ensures.valid may.writes);
    })
