use Rattle.std.proofs.Common.{ℕ, List, refl, subst}
use Rattle.std.specs.Prelude.{Option}
use Rattle.kc_io.specs.Files.{Held, HasFailed}
use Rattle.kc_trace.specs.declared.line.Line.{Line}
use Rattle.kc_top.specs.declared.load.Loaded.{Loaded}
use Rattle.kc_top.specs.declared.outcome.Outcome.{Outcome}
use Rattle.kc_top.specs.RequestSteps.{inputs_of}
use Rattle.kc_top.specs.Work.{Work, Over, Comes}
use Rattle.kc_top.specs.Output.{loaded, scripted_by, run_status, IsRun}
use Rattle.kc_top.specs.OutputSteps.{outcome_of, IsScripted, Never}
use Rattle.kc_top.proofs.OutputLemmas.{own-run, tells}
use Rattle.kc_top.proofs.ReadLemmas.{IfSome-map, ends_early, kept_on}
use Rattle.kc_top.proofs.LoadLemmas.{Comes-later, loaded-cut, after_loaded, scripted-cut, after_scripted}
use Rattle.kc_top.proofs.replay.replay.Goals as goal

-- the run of the lines, and the work that it ends
abbrev runs : Loaded → List Line → Work
runs l lines = Over (IsRun l.image l.config lines)

abbrev scripted : List ℕ → Loaded → Work
scripted trace l = scripted_by l.config trace (runs l)

-- image and description weren't loaded
pub returns-in_err-image-clause-ends : goal.returns-in_err-image-clause-ends
returns-in_err-image-clause-ends g c =
    let first = g.F.Files.state c.args.files.now in
    let rose = HasFailed first (g.F.Files.state c.load.new.files) in
    let inputs = inputs_of c.args.inputs in
    let next = scripted c.args.trace.now in
    let stop = c.in_err-image.field-0.0 in
    ends_early first.held rose (loaded inputs next) (g.S.Sink.state c.args.out.now) stop c.from_residual.result
    c.from_residual.ensures.1
    (IfSome-map (Comes first.held rose (loaded inputs (λ l. Never)))
    (Comes first.held rose (loaded inputs next)) (loaded-cut first.held rose inputs next) (outcome_of stop)
    c.in_err-image.ensures.unloaded)

-- they were, and the trace wasn't read
pub returns-in_err-script-clause-ends : goal.returns-in_err-script-clause-ends
returns-in_err-script-clause-ends g c =
    let first = g.F.Files.state c.args.files.now in
    let second = g.F.Files.state c.load.new.files in
    let third = g.F.Files.state c.open_script.new.files in
    let rose = HasFailed first third in
    let inputs = inputs_of c.args.inputs in
    let trace = c.args.trace.now in
    let l = c.in_ok-image.field-0 in
    let stop = c.in_err-script.field-0.0 in
    let never : List Line → Work = λ lines. Never in
    ends_early first.held rose (loaded inputs (scripted trace)) (g.S.Sink.state c.args.out.now) stop
    c.from_residual-in_err-script.result c.from_residual-in_err-script.ensures.1
    (IfSome-map (Comes second.held (HasFailed second third) (scripted_by l.config trace never))
    (Comes first.held rose (loaded inputs (scripted trace)))
    (λ o comes. after_loaded first.held rose inputs (scripted trace) l c.in_ok-image.ensures.loaded o
    (scripted-cut first.held rose l.config trace (runs l) o
    (Comes-later first second third (scripted_by l.config trace never) o c.load.ensures.kept comes))) (outcome_of stop)
    c.in_err-script.ensures.unscripted)

-- all three were read, and what is told of the run was written
pub returns-clause-ends : goal.returns-clause-ends
returns-clause-ends g c =
    let first = g.F.Files.state c.args.files.now in
    let rose = HasFailed first (g.F.Files.state c.open_script.new.files) in
    let inputs = inputs_of c.args.inputs in
    let trace = c.args.trace.now in
    let l = c.in_ok-image.field-0 in
    let lines = c.in_ok-script.script in
    let told = c.in_ok-told.told in
    let o : Outcome = record { status = run_status told.clean; text = told.text } in
    let script : IsScripted first.held l.config trace lines = subst
    (λ (held : Option Held). IsScripted held l.config trace lines) c.load.ensures.kept.held c.in_ok-script.ensures.script in (
      o,
      after_loaded first.held rose inputs (scripted trace) l c.in_ok-image.ensures.loaded o
          (after_scripted first.held rose l.config trace (runs l) lines script o
          (told.clean, c.in_ok-told.ensures.told, refl)),
      tells o c.say.result _ _ (own-run told.clean).written
          (rw (c.run_status.ensures, c.as_str.ensures.bytes) at c.say.ensures.all)
          (rw (c.run_status.ensures, c.as_str.ensures.bytes) at c.say.ensures.part),
    )

pub returns-clause-files_kept : goal.returns-clause-files_kept
returns-clause-files_kept g c =
    kept_on (g.F.Files.state c.args.files.now) (g.F.Files.state c.load.new.files)
    (g.F.Files.state c.open_script.new.files) c.load.ensures.kept c.open_script.ensures.kept
