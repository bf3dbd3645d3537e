use Rattle.std.proofs.Common.{◌∙◌, append_assoc}
use Rattle.kc_top.proofs.lines.bad_image_text.Goals as goal

pub returns : goal.returns
returns c = c.in_ok-format.ensures.ok ∙ rw c.image_kind-kind.ensures (simp append_assoc)
