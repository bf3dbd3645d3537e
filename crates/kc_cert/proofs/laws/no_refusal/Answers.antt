use Rattle.kc_cert.proofs.RefusalLemmas.{certified-of, unrefused-of}
use Rattle.kc_cert.proofs.laws.no_refusal.Goals as goal

pub returns : goal.returns
returns c = record {
  certified = λ image d digests cert.
      (λ u. certified-of image d digests cert u, λ f. unrefused-of image d digests cert f);
}
