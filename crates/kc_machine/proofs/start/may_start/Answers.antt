use Rattle.std.proofs.Common.{◌≡◌, Bool, true, false, not, refl, subst}
use Rattle.std.proofs.lemmas.Bool.{false≢true}
use Rattle.kc_cpu.specs.declared.cpu.Cpu.{Cpu}
use Rattle.kc_exec.specs.Admitted.{IsAdmitted}
use Rattle.kc_machine.proofs.start.may_start.Goals as goal

both : (b : Bool) → not b ≡ true → b ≡ true → ⊥
both true e h = false≢true e
both false e h = false≢true h

not-of : (b : Bool) → (b ≡ true → ⊥) → not b ≡ true
not-of true h = absurd (h refl)
not-of false h = refl

-- the processor is admitted, so the writes decide
pub returns-then-admitted : goal.returns-then-admitted
returns-then-admitted c =
    let cfg = c.args.cfg.now in
    let names = c.names_configured in
    let processor = subst (λ (cpu : Cpu). IsAdmitted cfg cpu) c.start_cpu.ensures
    (c.admitted.ensures.is.0 c.if-admitted.true) in
    record {
      exact = (
        λ t. record { processor = processor; writes = λ h. both names.result t (names.ensures.1 h) },
        λ m. not-of names.result (λ e. m.writes (names.ensures.0 e)),
      );
    }
