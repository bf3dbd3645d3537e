use Rattle.std.proofs.Common.{◌≡◌, Bool, false, sym, ap, ◌∙◌}
use Rattle.std.specs.Prelude.{slice_get}
use Rattle.kc_cert.specs.Conditions.{returns, summary_if}
use Rattle.kc_check.proofs.table.Table.summary_of.Goals as goal

-- a context without a mark doesn't return
pub returns-else-has : goal.returns-else-has
returns-else-has c =
    let t = c.args.self.now in
    let marked : returns t.image.now t.cert.now c.args.i ≡ false =
    sym (c.has.ensures ∙ t.returning_of c.args.i c.requires.within) ∙ c.if-has.false in
    record { value = sym (ap (λ (b : Bool). summary_if b (slice_get t.cert.now.contexts c.args.i)) marked) }
