use Rattle.kc_image.proofs.TextLemmas.{text_before, text_whole}
use Rattle.kc_image.proofs.names.text_len.Goals as goal
use Rattle.std.proofs.Common.{sym}

pub returns-in-Some : goal.returns-in-Some
returns-in-Some c = text_before _ _ (sym c.in-Some.ensures)

pub returns-in-None : goal.returns-in-None
returns-in-None c = text_whole _ (sym c.in-None.ensures)
