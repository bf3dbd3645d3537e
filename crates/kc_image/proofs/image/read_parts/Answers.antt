use Rattle.std.proofs.Common.{ap, ◌∙◌}
use Rattle.kc_image.specs.SymbolSteps.{symbols_in}
use Rattle.kc_image.proofs.SymbolLemmas.{symbols_in_none}
use Rattle.kc_image.proofs.image.read_parts.Goals as goal

pub returns-in_ok-read_raw-clause-parts : goal.returns-in_ok-read_raw-clause-parts
returns-in_ok-read_raw-clause-parts c =
    let none = ap (symbols_in c.args.file.now) c.new.ensures.items ∙ symbols_in_none c.args.file.now in
    rw (none, ← c.if-begins_raw.ensures) c.in_ok-read_raw.ensures
