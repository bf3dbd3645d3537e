use Rattle.std.proofs.Common.{Option, ap, ◌∙◌, subst}
use Rattle.kc_certfields.specs.declared.fault.CertFault.{CertFault}
use Rattle.kc_certfmt.specs.Fed.{HasReadTo, Reader, told}
use Rattle.kc_certfmt.proofs.FedLemmas.{ends, gives, is-reader, met, none-met}
use Rattle.kc_certfmt.proofs.reader.CertReader.finish.Goals as goal

pub returns-in-Some : goal.returns-in-Some
returns-in-Some c = record {
  read = λ fed is.
      ends fed c.self.inside.progress c.in-Some.fault
      (subst (λ (o : Option CertFault). HasReadTo fed c.self.inside.progress o) c.in-Some.is
      (is-reader fed c.self.inside.progress c.self.inside.fault c.args.self c.self.view_is is));
  met = λ e stays.
      met c.self.inside.fault c.in-Some.fault e c.in-Some.is (ap (λ (r : Reader). told r.fault) c.self.view_is ∙ stays);
}

pub returns-in-None : goal.returns-in-None
returns-in-None c = record {
  read = λ fed is.
      gives fed c.self.inside.progress c.into_certificate.result
      (subst (λ (o : Option CertFault). HasReadTo fed c.self.inside.progress o) c.in-None.is
      (is-reader fed c.self.inside.progress c.self.inside.fault c.args.self c.self.view_is is))
      c.into_certificate.ensures.value;
  met = λ e stays.
      absurd (none-met c.self.inside.fault e c.in-None.is (ap (λ (r : Reader). told r.fault) c.self.view_is ∙ stays));
}
