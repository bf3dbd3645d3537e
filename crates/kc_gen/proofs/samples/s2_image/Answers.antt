use Rattle.std.proofs.Common.{◌≡◌, ◌∙◌, sym, subst}
use Rattle.std.specs.Prelude.{IsTrue, IfOk}
use Rattle.kc_gen.specs.Image.{is_listing, image_of}
use Rattle.kc_gen.specs.Samples.{load_address, sample_image}
use Rattle.kc_gen.proofs.SamplesLemmas.{s2_is_listing}
use Rattle.kc_gen.proofs.samples.s2_image.Goals as goal

pub assemble-requires : goal.assemble-requires
assemble-requires c =
    record {
      listing = subst (λ ls. IsTrue (is_listing load_address load_address ls))
          (sym (c.deref.ensures.value ∙ c.in_ok-lines.ensures)) s2_is_listing;
    }

pub returns : goal.returns
unfolding sample_image
returns c =
    subst (λ ls. IfOk c.assemble.result (λ v. v.items ≡ image_of load_address ls))
    (c.deref.ensures.value ∙ c.in_ok-lines.ensures) c.assemble.ensures.image
