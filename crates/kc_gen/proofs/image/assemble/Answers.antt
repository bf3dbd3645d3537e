use Rattle.std.proofs.Common.{◌+◌, drop, sym, get_or, subst}
use Rattle.std.specs.Prelude.{IsTrue}
use Rattle.kc_gen.specs.Image.{is_listing}
use Rattle.kc_gen.specs.declared.line.Line.TheVariants.{At}
use Rattle.kc_gen.proofs.ListingLemmas.{first_left, First, first_of, one_written}
use Rattle.kc_gen.proofs.image.assemble.Goals as goal

pub put_line-requires-clause-stands : goal.put_line-requires-clause-stands
put_line-requires-clause-stands c =
    let l = c.loop-line in
    let is = first_left c.args.lines.now l.line-index (At 0) c.loop-line-test.true in
    (first_of c.args.load l.at (get_or c.args.lines.now l.line-index (At 0)) (drop (l.line-index + 1) c.args.lines.now)
    (subst (λ ls. IsTrue (is_listing c.args.load l.at ls)) is l.invariant.1)).stands

pub put_line-requires-clause-fits : goal.put_line-requires-clause-fits
put_line-requires-clause-fits c =
    let l = c.loop-line in
    let is = first_left c.args.lines.now l.line-index (At 0) c.loop-line-test.true in
    (first_of c.args.load l.at (get_or c.args.lines.now l.line-index (At 0)) (drop (l.line-index + 1) c.args.lines.now)
    (subst (λ ls. IsTrue (is_listing c.args.load l.at ls)) is l.invariant.1)).fits

pub loop-line-preserved : goal.loop-line-preserved
loop-line-preserved c =
    let l = c.loop-line in
    let is = first_left c.args.lines.now l.line-index (At 0) c.loop-line-test.true in
    let line = get_or c.args.lines.now l.line-index (At 0) in
    let rest = drop (l.line-index + 1) c.args.lines.now in
    let first : First c.args.load l.at line rest =
    first_of c.args.load l.at line rest (subst (λ ls. IsTrue (is_listing c.args.load l.at ls)) is l.invariant.1) in
    let made = c.in_ok-at.ensures in (
      one_written l.at c.in_ok-at.at line rest _ l.out.items _ _ is l.invariant.0 made.0 made.1,
      subst (λ a. IsTrue (is_listing c.args.load a rest)) (sym made.1) first.others,
    )
