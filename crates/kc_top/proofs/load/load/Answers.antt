use Rattle.std.proofs.Common.{rules}
use Rattle.kc_io.specs.Files.{HasFailed}
use Rattle.kc_config.specs.Reading.{description}
use Rattle.kc_top.specs.declared.load.Loaded.{Loaded}
use Rattle.kc_top.specs.RequestSteps.{inputs_of}
use Rattle.kc_top.specs.Work.{Work, form, Comes}
use Rattle.kc_top.specs.Output.{CONFIG_LIMIT, bad_config, loaded}
use Rattle.kc_top.specs.OutputSteps.{outcome_of, IsNoDescription, Never, IsUnloaded}
use Rattle.kc_top.proofs.ReadLemmas.{IfSome-map, unread, whole_first}
use Rattle.kc_top.proofs.LoadLemmas.{handed_on, after_contents, described, ruled, no_description}
use Rattle.kc_top.proofs.load.load.Goals as goal

-- the image was read, and the description's file wasn't
pub returns-in_err-text-clause-unloaded : goal.returns-in_err-text-clause-unloaded
returns-in_err-text-clause-unloaded g c =
    let first = g.F.Files.state c.args.files.now in
    let last = g.F.Files.state c.operand-2.new.files in
    let rose = HasFailed first last in
    let inputs = inputs_of c.args.inputs in
    let file = c.in_ok-file.file.items in
    let image = c.in_ok-image.image in
    let stop = c.in_err-text.field-0.0 in
    let never : Loaded → Work = λ l. Never in
    handed_on (IsUnloaded first.held rose inputs) stop c.from_residual-in_err-text.result
    c.from_residual-in_err-text.ensures.1
    (IfSome-map (Comes first.held rose (described inputs never file image)) (Comes first.held rose (loaded inputs never))
    (after_contents first.held rose inputs never file image c.in_ok-file.ensures.whole c.in_ok-file.ensures.within
    c.in_ok-image.ensures.read) (outcome_of stop)
    (unread first (g.F.Files.state c.operand.new.files) last inputs.config CONFIG_LIMIT
    (λ text. form bad_config (description image.symbols text) (ruled (λ text cfg. Never) text)) stop
    c.operand.ensures.kept c.in_err-text.ensures.unread))

-- both were read, and the text is no description
pub returns-in_err-config-clause-unloaded : goal.returns-in_err-config-clause-unloaded
returns-in_err-config-clause-unloaded g c =
    let first = g.F.Files.state c.args.files.now in
    let rose = HasFailed first (g.F.Files.state c.operand-2.new.files) in
    let inputs = inputs_of c.args.inputs in
    let file = c.in_ok-file.file.items in
    let image = c.in_ok-image.image in
    let text = c.in_ok-text.text.items in
    let stop = c.in_err-config.field-0.0 in
    let never : Loaded → Work = λ l. Never in
    let is : IsNoDescription image text stop = search rules in
    handed_on (IsUnloaded first.held rose inputs) stop c.from_residual-in_err-config.result
    c.from_residual-in_err-config.ensures.1
    (IfSome-map (Comes first.held rose (described inputs never file image)) (Comes first.held rose (loaded inputs never))
    (after_contents first.held rose inputs never file image c.in_ok-file.ensures.whole c.in_ok-file.ensures.within
    c.in_ok-image.ensures.read) (outcome_of stop)
    (no_description first.held rose inputs.config image (λ text cfg. Never) text stop
    (whole_first first (g.F.Files.state c.operand.new.files) inputs.config text c.operand.ensures.kept
    c.in_ok-text.ensures.whole) c.in_ok-text.ensures.within is))
