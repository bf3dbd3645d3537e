use Rattle.std.proofs.Common.{◌<◌, ◌-◌, sym, ap, ◌∙◌, arith}
use Rattle.kc_frames.specs.Slots.{redone}
use Rattle.kc_frames.proofs.ChangeLemmas.{redone_stays}
use Rattle.kc_frames.proofs.redo.keeps_rest.Goals as goal

pub returns-in-Some : goal.returns-in-Some
returns-in-Some g c = record {
  same = λ keeps.
      let f = g.C.Change.changed c.args.change.now in
      let i = c.args.i in
      let r = c.in-Some.rest.now in
      ap (redone f i) c.in-Some.ensures.value
      ∙ redone_stays f i (296 - i) r (λ j low high.
      let below : j < 296 = omega (arith, high, c.requires) in
      c.keeps.ensures.same keeps j low below)
      ∙ sym c.in-Some.ensures.value;
}
