use Rattle.std.specs.Prelude.{None, Some}
use Rattle.kc_io.specs.Files.{HasFailed}
use Rattle.kc_gen.specs.Generated.{generated_image, generated_config}
use Rattle.kc_top.specs.Words.{Gen}
use Rattle.kc_top.specs.Output.{work_of}
use Rattle.kc_top.proofs.OutputLemmas.{sums_up}
use Rattle.kc_top.proofs.ReadLemmas.{Ends-anywhere}
use Rattle.kc_top.proofs.LoadLemmas.{none-made}
use Rattle.kc_top.proofs.command.perform.Goals as goal

pub returns-in-Check-clause-ends : goal.returns-in-Check-clause-ends
returns-in-Check-clause-ends g c = rw c.in-Check.is c.check.ensures.ends

pub returns-in-Find-clause-ends : goal.returns-in-Find-clause-ends
returns-in-Find-clause-ends g c = rw c.in-Find.is c.find.ensures.ends

pub returns-in-Explain-clause-ends : goal.returns-in-Explain-clause-ends
returns-in-Explain-clause-ends g c = rw c.in-Explain.is c.explain.ensures.ends

pub returns-in-ExplainCert-clause-ends : goal.returns-in-ExplainCert-clause-ends
returns-in-ExplainCert-clause-ends g c = rw c.in-ExplainCert.is c.explain_cert.ensures.ends

pub returns-in-Replay-clause-ends : goal.returns-in-Replay-clause-ends
returns-in-Replay-clause-ends g c = rw c.in-Replay.is c.replay.ensures.ends

-- no file is read
pub returns-in-Gen-clause-ends : goal.returns-in-Gen-clause-ends
returns-in-Gen-clause-ends g c =
    let files = g.F.Files.state c.args.files.now in
    let made = c.in-Gen.made in
    rw c.in-Gen.is (Ends-anywhere None files.held (λ _. ⊥) (HasFailed files files)
    (work_of (Some (Gen made.seed made.size))) (g.S.Sink.state c.args.out.now) (g.S.Sink.state c.generate.new.out)
    c.generate.result
    (none-made (generated_image made.seed made.size) generated_config (sums_up made.seed made.size) (λ l. tt))
    c.generate.ensures.ends)

pub returns-in-Upgrade-clause-ends : goal.returns-in-Upgrade-clause-ends
returns-in-Upgrade-clause-ends g c = rw c.in-Upgrade.is c.upgrade.ensures.ends
