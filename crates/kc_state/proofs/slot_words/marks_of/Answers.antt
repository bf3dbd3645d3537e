use Rattle.std.proofs.Common.{◌≡◌, List, ap, ◌∙◌, arith}
use Rattle.kc_regions.specs.Description.{Description}
use Rattle.kc_regions.specs.declared.region.Region.{Region}
use Rattle.kc_state.specs.Marks.{marks_from, with_marks}
use Rattle.kc_state.proofs.MarkLemmas.{no_marks, all_marks}
use Rattle.kc_state.proofs.slot_words.marks_of.Goals as goal

-- nothing is found yet, and all regions are left
pub loop-region-init : goal.loop-region-init
loop-region-init c =
    let d = c.args.cfg.now in
    let list : c.list-list.result.now ≡ d.regions =
    c.list-list.ensures.list ∙ ap (λ (z : Description). z.regions) c.cfg.view_is in (
      omega arith,
      ap (λ (rest : List Region). with_marks 0 no_marks (marks_from 0 rest)) list
          ∙ all_marks d c.tell.ensures.valid,
    )
