use Rattle.kc_certfmt.proofs.FedLemmas.{begins}
use Rattle.kc_certfmt.proofs.reader.CertReader.new.Goals as goal

pub returns : goal.returns
returns c = record { fed = begins c.new.result c.new.ensures.value }
