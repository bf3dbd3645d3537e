use Rattle.std.proofs.Common.{subst}
use Rattle.std.specs.Prelude.{Option}
use Rattle.kc_io.specs.Files.{Held, HasFailed}
use Rattle.kc_cert.specs.declared.certificate.Certificate.{Certificate}
use Rattle.kc_top.specs.RequestSteps.{inputs_of}
use Rattle.kc_top.specs.Work.{Work, Over, Comes}
use Rattle.kc_top.specs.Output.{loaded, certified, IsVerdict, IsCertificateOf}
use Rattle.kc_top.specs.OutputSteps.{outcome_of, Never}
use Rattle.kc_top.proofs.OutputLemmas.{checks}
use Rattle.kc_top.proofs.ReadLemmas.{IfSome-map, ends_early, concludes-ends}
use Rattle.kc_top.proofs.LoadLemmas.{Comes-later, loaded-cut, after_loaded, certified-cut, after_certificate}
use Rattle.kc_top.proofs.check.check.Goals as goal

-- image and description weren't loaded
pub returns-in_err-loaded-clause-ends : goal.returns-in_err-loaded-clause-ends
returns-in_err-loaded-clause-ends g c =
    let first = g.F.Files.state c.args.files.now in
    let rose = HasFailed first (g.F.Files.state c.load.new.files) in
    let inputs = inputs_of c.args.inputs in
    let next = checks c.args.cert.now in
    let stop = c.in_err-loaded.field-0.0 in
    ends_early first.held rose (loaded inputs next) (g.S.Sink.state c.args.out.now) stop c.from_residual.result
    c.from_residual.ensures.1
    (IfSome-map (Comes first.held rose (loaded inputs (λ l. Never))) (Comes first.held rose (loaded inputs next))
    (loaded-cut first.held rose inputs next) (outcome_of stop) c.in_err-loaded.ensures.unloaded)

-- they were, and the certificate wasn't read
pub returns-in_err-cert-clause-ends : goal.returns-in_err-cert-clause-ends
returns-in_err-cert-clause-ends g c =
    let first = g.F.Files.state c.args.files.now in
    let second = g.F.Files.state c.load.new.files in
    let third = g.F.Files.state c.open_cert.new.files in
    let rose = HasFailed first third in
    let inputs = inputs_of c.args.inputs in
    let cert = c.args.cert.now in
    let l = c.in_ok-loaded.loaded in
    let stop = c.in_err-cert.field-0.0 in
    let never : Certificate → Work = λ c. Never in
    ends_early first.held rose (loaded inputs (checks cert)) (g.S.Sink.state c.args.out.now) stop
    c.from_residual-in_err-cert.result c.from_residual-in_err-cert.ensures.1
    (IfSome-map (Comes second.held (HasFailed second third) (certified cert never))
    (Comes first.held rose (loaded inputs (checks cert)))
    (λ o comes. after_loaded first.held rose inputs (checks cert) l c.in_ok-loaded.ensures.loaded o
    (certified-cut first.held rose cert (λ c. Over (IsVerdict l c)) o
    (Comes-later first second third (certified cert never) o c.load.ensures.kept comes))) (outcome_of stop)
    c.in_err-cert.ensures.uncertified)

-- all three were read, and what is said of the certificate was written
pub returns-clause-ends : goal.returns-clause-ends
returns-clause-ends g c =
    let first = g.F.Files.state c.args.files.now in
    let rose = HasFailed first (g.F.Files.state c.open_cert.new.files) in
    let inputs = inputs_of c.args.inputs in
    let name = c.args.cert.now in
    let l = c.in_ok-loaded.loaded in
    let cert = c.in_ok-cert.cert in
    let read : IsCertificateOf first.held name cert = subst (λ (held : Option Held). IsCertificateOf held name cert)
    c.load.ensures.kept.held c.in_ok-cert.ensures.certificate in
    concludes-ends first.held rose (loaded inputs (checks name)) (IsVerdict l cert) (g.S.Sink.state c.args.out.now)
    (g.S.Sink.state c.judge.new.out) c.judge.result
    (λ o is. after_loaded first.held rose inputs (checks name) l c.in_ok-loaded.ensures.loaded o
    (after_certificate first.held rose name (λ c. Over (IsVerdict l c)) cert read o is)) c.judge.ensures.told
