use Rattle.std.proofs.Common.{◌≡◌, ◌∙◌, sym, subst}
use Rattle.std.specs.Prelude.{IsTrue, IfOk}
use Rattle.kc_gen.specs.Image.{is_listing, image_of}
use Rattle.kc_gen.specs.Samples.{load_address}
use Rattle.kc_gen.specs.Generated.{generated_image}
use Rattle.kc_gen.proofs.GeneratedLemmas.{generated_is_listing}
use Rattle.kc_gen.proofs.generated.image.Goals as goal

pub assemble-requires : goal.assemble-requires
assemble-requires c =
    record {
      listing = subst (λ ls. IsTrue (is_listing load_address load_address ls))
          (sym (c.deref.ensures.value ∙ c.in_ok-lines.ensures))
          (generated_is_listing c.args.seed c.args.size c.requires);
    }

pub returns : goal.returns
unfolding generated_image
returns c =
    subst (λ ls. IfOk c.assemble.result (λ v. v.items ≡ image_of load_address ls))
    (c.deref.ensures.value ∙ c.in_ok-lines.ensures) c.assemble.ensures.image
