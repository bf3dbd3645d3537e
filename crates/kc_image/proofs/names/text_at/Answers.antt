use Rattle.std.proofs.Common.{ℕ, take, ap, arith, ◌∙◌}
use Rattle.std.proofs.lemmas.List.{length-take}
use Rattle.kc_image.specs.FirstFault.{text}
use Rattle.kc_image.proofs.TextLemmas.{text_le, text_front}
use Rattle.kc_image.proofs.names.text_at.Goals as goal

pub slice_bounds-result-end : goal.slice_bounds-result-end
slice_bounds-result-end c =
    let rest = c.rest_at-rest.result.now in
    omega (arith, c.text_len.ensures, length-take c.text_len.result rest, text_le rest)

pub returns : goal.returns
returns c =
    let rest = c.rest_at-rest.result.now in
    ap (λ (n : ℕ). take n rest) c.text_len.ensures ∙ text_front rest ∙ ap text c.rest_at-rest.ensures
