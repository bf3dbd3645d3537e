use Rattle.std.proofs.Common.{◌∙◌, sym}
use Rattle.kc_config.proofs.TextLemmas.{name_and_number, name_and_text}
use Rattle.kc_config.proofs.address.read_symbol.Goals as goal

pub returns-in-Some-read_number : goal.returns-in-Some-read_number
returns-in-Some-read_number c =
    sym (name_and_number c.args.text.now c.in-Some.name.now c.in-Some.number.now c.in-Some-read_number.added
    c.in-Some.ensures.0 c.in-Some.ensures.1 c.in-Some.ensures.2 (sym c.is_empty.ensures ∙ c.if-is_empty.false)
    c.in-Some-read_number.ensures)

pub returns-in-None-read_number : goal.returns-in-None-read_number
returns-in-None-read_number c =
    sym (name_and_text c.args.text.now c.in-Some.name.now c.in-Some.number.now
    c.in-Some.ensures.0 c.in-Some.ensures.1 c.in-Some.ensures.2 (sym c.is_empty.ensures ∙ c.if-is_empty.false)
    c.in-None-read_number.ensures)
