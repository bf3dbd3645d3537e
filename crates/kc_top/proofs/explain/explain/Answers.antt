use Rattle.kc_io.specs.Files.{HasFailed}
use Rattle.kc_top.specs.RequestSteps.{inputs_of}
use Rattle.kc_top.specs.Work.{Comes}
use Rattle.kc_top.specs.Output.{loaded, IsSearched, IsExplained}
use Rattle.kc_top.specs.OutputSteps.{outcome_of, Never}
use Rattle.kc_top.proofs.OutputLemmas.{explains}
use Rattle.kc_top.proofs.ReadLemmas.{IfSome-map, ends_early, concludes-ends}
use Rattle.kc_top.proofs.LoadLemmas.{loaded-cut, after_loaded}
use Rattle.kc_top.proofs.explain.explain.Goals as goal

-- image and description weren't loaded
pub returns-in_err-loaded-clause-ends : goal.returns-in_err-loaded-clause-ends
returns-in_err-loaded-clause-ends g c =
    let first = g.F.Files.state c.args.files.now in
    let rose = HasFailed first (g.F.Files.state c.load.new.files) in
    let inputs = inputs_of c.args.inputs in
    let next = explains in
    let stop = c.in_err-loaded.field-0.0 in
    ends_early first.held rose (loaded inputs next) (g.S.Sink.state c.args.out.now) stop c.from_residual.result
    c.from_residual.ensures.1
    (IfSome-map (Comes first.held rose (loaded inputs (λ l. Never))) (Comes first.held rose (loaded inputs next))
    (loaded-cut first.held rose inputs next) (outcome_of stop) c.in_err-loaded.ensures.unloaded)

-- they were, and what was found was written
pub returns-clause-ends : goal.returns-clause-ends
returns-clause-ends g c =
    let first = g.F.Files.state c.args.files.now in
    let rose = HasFailed first (g.F.Files.state c.load.new.files) in
    let inputs = inputs_of c.args.inputs in
    let l = c.in_ok-loaded.loaded in
    concludes-ends first.held rose (loaded inputs explains) (IsSearched l (IsExplained l))
    (g.S.Sink.state c.args.out.now) (g.S.Sink.state c.explain_found.new.out) c.explain_found.result
    (after_loaded first.held rose inputs explains l c.in_ok-loaded.ensures.loaded) c.explain_found.ensures.told
