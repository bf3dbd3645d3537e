use Rattle.std.proofs.Common.{◌≡◌, ◌<◌, ◌≤◌, ◌+◌, ◌&&◌, nat_eq, length, drop, sym, ap, ◌∙◌, arith}
use Rattle.kc_lattice.specs.Rows.{rows_below}
use Rattle.kc_frames.specs.Padded.{padded}
use Rattle.kc_frames.proofs.OrderLemmas.{below_one, below_all, below_rest}
use Rattle.kc_frames.proofs.padding.leq_padded.Goals as goal

pub returns-then-not-leq : goal.returns-then-not-leq
returns-then-not-leq g c =
    let f = g.V.Domain.below in
    let r = c.args.rest.now in
    let s = c.args.other.now in
    let xs = c.args.these.now in
    let ys = c.args.those.now in
    let i = c.loop-i.i in
    let few : length xs ≤ 296 = omega (arith, c.longer-n.ensures.these, c.longer-n.ensures.bound) in
    let few' : length ys ≤ 296 = omega (arith, c.longer-n.ensures.those, c.longer-n.ensures.bound) in
    let below : i < 296 = omega (arith, c.longer-n.ensures.bound, c.loop-i-test.true) in
    let rest = rows_below f (drop (i + 1) (padded 296 r xs)) (drop (i + 1) (padded 296 s ys)) in
    let one = below_one f 296 r s xs ys few few' i c.at.result.now c.at-in-loop-i.result.now below c.at.ensures.value
    c.at-in-loop-i.ensures.value in
    record {
      value = ap (λ b. b && rest) (sym c.if-not-leq.true ∙ c.leq.ensures.value) ∙ sym one ∙ c.loop-i.invariant;
    }

pub loop-i-preserved : goal.loop-i-preserved
loop-i-preserved g c =
    let f = g.V.Domain.below in
    let r = c.args.rest.now in
    let s = c.args.other.now in
    let xs = c.args.these.now in
    let ys = c.args.those.now in
    let i = c.loop-i.i in
    let few : length xs ≤ 296 = omega (arith, c.longer-n.ensures.these, c.longer-n.ensures.bound) in
    let few' : length ys ≤ 296 = omega (arith, c.longer-n.ensures.those, c.longer-n.ensures.bound) in
    let below : i < 296 = omega (arith, c.longer-n.ensures.bound, c.loop-i-test.true) in
    let rest = rows_below f (drop (i + 1) (padded 296 r xs)) (drop (i + 1) (padded 296 s ys)) in
    let one = below_one f 296 r s xs ys few few' i c.at.result.now c.at-in-loop-i.result.now below c.at.ensures.value
    c.at-in-loop-i.ensures.value in
    ap (λ b. b && rest) (sym c.if-not-leq.false ∙ c.leq.ensures.value) ∙ sym one ∙ c.loop-i.invariant

pub returns-then-n-eq-COUNT : goal.returns-then-n-eq-COUNT
returns-then-n-eq-COUNT g c =
    let f = g.V.Domain.below in
    let few : length c.args.these.now ≤ 296 = omega (arith, c.longer-n.ensures.these, c.longer-n.ensures.bound) in
    let few' : length c.args.those.now ≤ 296 = omega (arith, c.longer-n.ensures.those, c.longer-n.ensures.bound) in
    let whole : c.loop-i.i ≡ 296 =
    omega (arith, c.if-n-eq-COUNT.true, c.loop-i-test.false, c.loop-i.auto.i-end, c.longer-n.ensures.bound) in
    record {
      value = ap (λ k. nat_eq k 296) c.if-n-eq-COUNT.true
          ∙ below_all f 296 c.args.rest.now c.args.other.now c.args.these.now c.args.those.now few few' c.loop-i.i whole
          ∙ c.loop-i.invariant;
    }

pub returns-else-n-eq-COUNT : goal.returns-else-n-eq-COUNT
returns-else-n-eq-COUNT g c =
    let f = g.V.Domain.below in
    let few : length c.args.these.now ≤ 296 = omega (arith, c.longer-n.ensures.these, c.longer-n.ensures.bound) in
    let few' : length c.args.those.now ≤ 296 = omega (arith, c.longer-n.ensures.those, c.longer-n.ensures.bound) in
    let below : c.loop-i.i < 296 =
    omega (arith, c.if-n-eq-COUNT.false, c.loop-i-test.false, c.loop-i.auto.i-end, c.longer-n.ensures.bound) in
    record {
      value = c.leq-else-n-eq-COUNT.ensures.value
          ∙ below_rest f 296 c.args.rest.now c.args.other.now c.args.these.now c.args.those.now few few' c.loop-i.i below
          (omega (arith, c.longer-n.ensures.these, c.loop-i-test.false))
          (omega (arith, c.longer-n.ensures.those, c.loop-i-test.false))
          ∙ c.loop-i.invariant;
    }
