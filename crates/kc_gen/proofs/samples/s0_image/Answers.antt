use Rattle.std.proofs.Common.{◌∙◌, ◌∷◌, [], ◌++◌, ap, append-nil}
use Rattle.kc_gen.specs.Image.{header}
use Rattle.kc_gen.specs.Samples.{load_address, sample_image}
use Rattle.kc_gen.proofs.samples.s0_image.Goals as goal

pub returns : goal.returns
unfolding sample_image
returns c =
    c.in_ok-extend_from_slice.ensures.items
    ∙ ap (λ xs. xs ++ 0xEB ∷ 0xFE ∷ []) (c.in_ok-image.ensures.image ∙ append-nil (header load_address))
