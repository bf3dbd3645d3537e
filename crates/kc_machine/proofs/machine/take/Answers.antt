use Rattle.std.proofs.Common.{◌≡◌, sym, subst}
use Rattle.kc_events.specs.declared.turn.Turn.{Turn}
use Rattle.kc_events.specs.declared.turn.Turn.TheVariants.{Go, Irq, Nmi, Debug, Check, Fault, Trap, Body}
use Rattle.kc_events.specs.Attempt.{attempt, event}
use Rattle.kc_events.specs.Breaks.{BreaksWith}
use Rattle.kc_machine.specs.Ends.{Ends}
use Rattle.kc_machine.proofs.JudgeLemmas.{other-ends}
use Rattle.kc_machine.proofs.machine.take.Goals as goal

pub returns-in-Irq-clause-end : goal.returns-in-Irq-clause-end
returns-in-Irq-clause-end c =
    let cfg = c.args.cfg.now in
    let S = c.args.state.now in
    let found = c.args.found in
    let T = c.event.new.state in
    let r = c.event.result in
    subst (λ (u : Turn). Ends cfg S (attempt cfg found S u) (λ b. BreaksWith cfg found S u (attempt cfg found S u) b) T
    r) (sym c.in-Irq.is)
    (other-ends cfg found S (Irq c.in-Irq.vector) (event cfg S c.in-Irq.vector 0) T r
    (λ e. let k : ◌≡◌ {A = Turn} (Irq c.in-Irq.vector) Go = e in cc) c.event.ensures.end)

pub returns-in-Nmi-clause-end : goal.returns-in-Nmi-clause-end
returns-in-Nmi-clause-end c =
    let cfg = c.args.cfg.now in
    let S = c.args.state.now in
    let found = c.args.found in
    let T = c.event-in-Nmi.new.state in
    let r = c.event-in-Nmi.result in
    subst (λ (u : Turn). Ends cfg S (attempt cfg found S u) (λ b. BreaksWith cfg found S u (attempt cfg found S u) b) T
    r) (sym c.in-Nmi.is)
    (other-ends cfg found S Nmi (event cfg S 2 0) T r (λ e. let k : ◌≡◌ {A = Turn} Nmi Go = e in cc)
    c.event-in-Nmi.ensures.end)

pub returns-in-Debug-clause-end : goal.returns-in-Debug-clause-end
returns-in-Debug-clause-end c =
    let cfg = c.args.cfg.now in
    let S = c.args.state.now in
    let found = c.args.found in
    let T = c.event-in-Debug.new.state in
    let r = c.event-in-Debug.result in
    subst (λ (u : Turn). Ends cfg S (attempt cfg found S u) (λ b. BreaksWith cfg found S u (attempt cfg found S u) b) T
    r) (sym c.in-Debug.is)
    (other-ends cfg found S Debug (event cfg S 1 0) T r (λ e. let k : ◌≡◌ {A = Turn} Debug Go = e in cc)
    c.event-in-Debug.ensures.end)

pub returns-in-Check-clause-end : goal.returns-in-Check-clause-end
returns-in-Check-clause-end c =
    let cfg = c.args.cfg.now in
    let S = c.args.state.now in
    let found = c.args.found in
    let T = c.event-in-Check.new.state in
    let r = c.event-in-Check.result in
    subst (λ (u : Turn). Ends cfg S (attempt cfg found S u) (λ b. BreaksWith cfg found S u (attempt cfg found S u) b) T
    r) (sym c.in-Check.is)
    (other-ends cfg found S Check (event cfg S 18 0) T r (λ e. let k : ◌≡◌ {A = Turn} Check Go = e in cc)
    c.event-in-Check.ensures.end)

pub returns-in-Fault-clause-end : goal.returns-in-Fault-clause-end
returns-in-Fault-clause-end c =
    let cfg = c.args.cfg.now in
    let S = c.args.state.now in
    let found = c.args.found in
    let T = c.event-in-Fault.new.state in
    let r = c.event-in-Fault.result in
    subst (λ (u : Turn). Ends cfg S (attempt cfg found S u) (λ b. BreaksWith cfg found S u (attempt cfg found S u) b) T
    r) (sym c.in-Fault.is)
    (other-ends cfg found S (Fault c.in-Fault.field-0 c.in-Fault.code) (event cfg S 14 c.in-Fault.code) T r
    (λ e. let k : ◌≡◌ {A = Turn} (Fault c.in-Fault.field-0 c.in-Fault.code) Go = e in cc)
    c.event-in-Fault.ensures.end)

pub returns-in-Trap-clause-end : goal.returns-in-Trap-clause-end
returns-in-Trap-clause-end c =
    let cfg = c.args.cfg.now in
    let S = c.args.state.now in
    let found = c.args.found in
    let T = c.event-in-Trap.new.state in
    let r = c.event-in-Trap.result in
    subst (λ (u : Turn). Ends cfg S (attempt cfg found S u) (λ b. BreaksWith cfg found S u (attempt cfg found S u) b) T
    r) (sym c.in-Trap.is)
    (other-ends cfg found S (Trap c.in-Trap.vector c.in-Trap.code) (event cfg S c.in-Trap.vector c.in-Trap.code) T r
    (λ e. let k : ◌≡◌ {A = Turn} (Trap c.in-Trap.vector c.in-Trap.code) Go = e in cc) c.event-in-Trap.ensures.end)

pub returns-in-Body-clause-end : goal.returns-in-Body-clause-end
returns-in-Body-clause-end c =
    let cfg = c.args.cfg.now in
    let S = c.args.state.now in
    let found = c.args.found in
    let T = c.body.new.state in
    let r = c.body.result in
    subst (λ (u : Turn). Ends cfg S (attempt cfg found S u) (λ b. BreaksWith cfg found S u (attempt cfg found S u) b) T
    r) (sym c.in-Body.is)
    (other-ends cfg found S (Body c.in-Body.set) (attempt cfg found S (Body c.in-Body.set)) T r
    (λ e. let k : ◌≡◌ {A = Turn} (Body c.in-Body.set) Go = e in cc) c.body.ensures.end)
