use Rattle.std.proofs.Common.{length, drop, ap, sym, arith, ◌∙◌}
use Rattle.std.proofs.lemmas.Bool.{le-ltb}
use Rattle.kc_image.specs.FirstFault.{text}
use Rattle.kc_image.proofs.TextLemmas.{window, no_text, not_kept_empty, kept_by_window}
use Rattle.kc_image.proofs.names.is_kept.Goals as goal

pub returns-then-strings-at : goal.returns-then-strings-at
returns-then-strings-at c =
    sym (not_kept_empty _ (ap length (no_text c.args.strings.now c.args.at c.if-strings-at.true)))

pub returns-then-len-gt0 : goal.returns-then-len-gt0
returns-then-len-gt0 c =
    kept_by_window _ _ (window c.args.strings.now c.args.at _ _ c.min.ensures c.text_len-len.ensures) c.if-len-gt0.true

pub returns-else-len-gt0 : goal.returns-else-len-gt0
returns-else-len-gt0 c =
    let known = window c.args.strings.now c.args.at _ _ c.min.ensures c.text_len-len.ensures in
    le-ltb 0 c.text_len-len.result c.if-len-gt0.false
    ∙ sym (not_kept_empty (text (drop c.args.at c.args.strings.now)) (omega (arith, known, c.if-len-gt0.false)))
