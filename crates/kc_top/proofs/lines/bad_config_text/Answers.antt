use Rattle.std.proofs.Common.{◌∙◌, append_assoc}
use Rattle.kc_top.proofs.lines.bad_config_text.Goals as goal

pub returns : goal.returns
returns c =
    c.in_ok-format.ensures.ok ∙ rw (c.config_kind-kind.ensures, c.config_path-path.ensures) (simp append_assoc)
