use Rattle.std.proofs.Common.{◌≤◌, length, drop, sym, ap, ◌∙◌, arith}
use Rattle.kc_frames.proofs.PaddedLemmas.{drop-padded}
use Rattle.kc_frames.proofs.slots.Slots.rest_from.Goals as goal

pub returns-else-from-len : goal.returns-else-from-len
returns-else-from-len g c =
    let s = c.self.inside in
    let past : length s.first ≤ c.args.i = omega (arith, c.if-from-len.false, c.len.ensures.value, c.from.ensures) in
    record {
      value = ap (drop c.args.i) (sym c.self.view_is) ∙ drop-padded 296 c.args.i s.rest s.first c.self.invariant past;
    }
