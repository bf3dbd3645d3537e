use Rattle.std.proofs.Common.{[], Result}
use Rattle.std.proofs.lemmas.Result.{err_from_is_err_and}
use Rattle.kc_certfmt.specs.Reading.{cert_at}
use Rattle.kc_certfmt.proofs.FedLemmas.{refused}
use Rattle.kc_certfmt.proofs.reader.read_cert.Goals as goal

-- the fault stays, whatever follows
pub returns-in_err-feed : goal.returns-in_err-feed
returns-in_err-feed c =
    let exit = err_from_is_err_and c.from_residual.result c.from_residual.ensures.1 in
    record {
      read = rw (exit.1, exit.2)
          (refused c.in_err-feed.field-0.0 (cert_at c.args.bytes.now) (c.in_err-feed.ensures.exact [] c.new-reader.ensures.fed));
    }

pub returns : goal.returns
returns c = record { read = c.finish.ensures.read c.args.bytes.now (c.in_ok-feed.ensures.fed [] c.new-reader.ensures.fed) }
