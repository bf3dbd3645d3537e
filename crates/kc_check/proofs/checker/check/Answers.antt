use Rattle.std.proofs.Common.{rules, ◌≡◌, true, refl, sym, ◌∙◌}
use Rattle.std.proofs.lemmas.Result.{err_from_is_err_and}
use Rattle.kc_cert.proofs.RefusalLemmas.{certified-of, unrefused-of}
use Rattle.kc_check.proofs.WholeLemmas.{demanded, not-both}
use Rattle.kc_check.proofs.checker.check.Goals as goal

-- a certificate that is refused isn't certified
pub returns-in_err-check_from_start-clause-certified : goal.returns-in_err-check_from_start-clause-certified
returns-in_err-check_from_start-clause-certified c =
    let p = err_from_is_err_and c.from_residual-in_err-check_from_start.result
    c.from_residual-in_err-check_from_start.ensures.1 in
    rw p.1 (
      λ t. absurd cc,
      λ f. absurd (not-both c.check_from_start.result c.in_err-check_from_start.field-0.0 c.in_err-check_from_start.was
          (c.check_from_start.ensures
          ∙ (unrefused-of c.args.image.now c.args.cfg.now c.args.digests.now c.args.cert.now f).2)),
    )

pub returns : goal.returns
returns c =
    let same : c.eq.result ≡ true = demanded c.eq.result c.at_table.result (sym c.demand.ensures ∙ c.in_ok-demand.was) in
    let form : c.has_form.result ≡ true =
    demanded c.has_form.result c.at_table-2.result (sym c.demand-2.ensures ∙ c.in_ok-demand-2.was) in
    let digests : c.args.cert.now.digests ≡ c.args.digests.now = search rules in
    record {
      certified = (
        λ t. certified-of c.args.image.now c.args.cfg.now c.args.digests.now c.args.cert.now
            (digests, c.has_form.ensures.0 form, sym c.check_from_start.ensures ∙ c.in_ok-check_from_start.was),
        λ f. refl,
      );
      counts = (c.len.ensures.len, c.len-2.ensures.len);
      refused = tt;
    }
