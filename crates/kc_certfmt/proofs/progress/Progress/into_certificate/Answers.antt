use Rattle.std.proofs.Common.{sym, ap, ◌∙◌}
use Rattle.kc_certfmt.specs.Fed.{Sofar}
use Rattle.kc_certfmt.proofs.FedLemmas.{whole-read}
use Rattle.kc_certfmt.proofs.progress.Progress.into_certificate.Goals as goal

pub returns : goal.returns
returns c = record {
  value = whole-read c.args.self c.in-Some.table c.into_certificate.result
      (sym (ap (λ (s : Sofar). s.part) c.self.view_is) ∙ c.in-Some.is) c.requires.done c.into_certificate.ensures.value;
}
