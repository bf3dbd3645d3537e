use Rattle.std.proofs.Common.{◌↔◌, ℕ, IsTrue, List, All, subst}
use Rattle.kc_regions.specs.declared.region.Kind.TheVariants as kind
use Rattle.kc_cpu.specs.declared.cpu.Cpu.{Cpu}
use Rattle.kc_exec.specs.Admitted.{IsAdmitted}
use Rattle.kc_events.specs.Allowed.{LiesIn}
use Rattle.kc_events.proofs.table.may_user.Goals as goal

-- the bytes are those of the set
pub returns-then-admitted : goal.returns-then-admitted
returns-then-admitted c =
    let cfg = c.args.cfg.now in
    let bytes = subst (λ (ws : List (ℕ × ℕ)). IsTrue c.are_user_bytes.result ↔ All (λ w. LiesIn cfg kind.User w.0) ws)
    c.as_slice.ensures.items c.are_user_bytes.ensures in
    let processor = subst (λ (cpu : Cpu). IsAdmitted cfg cpu) c.user_cpu.ensures.value
    (c.admitted.ensures.is.0 c.if-admitted.true) in (
      λ t. record {
        mode = c.is_user.ensures.0 c.if-is_user.true;
        processor = processor;
        writes = bytes.0 t;
      },
      λ h. bytes.1 h.writes,
    )
