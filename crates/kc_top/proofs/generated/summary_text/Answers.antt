use Rattle.std.proofs.Common.{◌∙◌, append_assoc}
use Rattle.kc_top.proofs.generated.summary_text.Goals as goal

pub returns : goal.returns
returns c = c.in_ok-format.ensures.ok ∙ rw c.in_ok-digest.ensures (simp append_assoc)
