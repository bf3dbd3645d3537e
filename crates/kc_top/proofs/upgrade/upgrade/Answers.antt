use Rattle.std.proofs.Common.{rules, refl}
use Rattle.kc_io.specs.Files.{HasFailed}
use Rattle.kc_top.specs.Output.{printed}
use Rattle.kc_top.proofs.OutputLemmas.{upgrades}
use Rattle.kc_top.proofs.LoadLemmas.{after_certificate}
use Rattle.kc_top.proofs.upgrade.upgrade.Goals as goal

-- what was read has a spelling
pub write_cert2-requires : goal.write_cert2-requires
write_cert2-requires g c = record { spelling = c.in_ok-cert.ensures.spelling }

-- the certificate was written
pub returns-in-Ok-clause-ends : goal.returns-in-Ok-clause-ends
returns-in-Ok-clause-ends g c =
    let first = g.F.Files.state c.args.files.now in
    let rose = HasFailed first (g.F.Files.state c.open_cert.new.files) in
    let cert = c.in_ok-cert.cert in (
      printed cert,
      after_certificate first.held rose c.args.cert.now upgrades cert c.in_ok-cert.ensures.certificate (printed cert) refl,
      record { all = λ _. (refl, search rules); part = λ no. absurd (cc) },
    )

-- the sink refused a part of it
pub returns-in-Err-Failed-clause-ends : goal.returns-in-Err-Failed-clause-ends
returns-in-Err-Failed-clause-ends g c =
    let first = g.F.Files.state c.args.files.now in
    let rose = HasFailed first (g.F.Files.state c.open_cert.new.files) in
    let cert = c.in_ok-cert.cert in (
      printed cert,
      after_certificate first.held rose c.args.cert.now upgrades cert c.in_ok-cert.ensures.certificate (printed cert) refl,
      record { all = λ no. absurd (no refl); part = λ _. search rules },
    )
