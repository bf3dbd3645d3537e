use Rattle.std.proofs.Common.{◌<◌, ◌≤◌, length, set, sym, ap, ◌∙◌, refl, subst, arith}
use Rattle.std.proofs.lemmas.List.{length-set}
use Rattle.kc_frames.specs.Padded.{padded}
use Rattle.kc_frames.proofs.PaddedLemmas.{set-padded, set-rest}
use Rattle.kc_frames.proofs.slots.Slots.set.Goals as goal

pub returns-then-i-len : goal.returns-then-i-len
returns-then-i-len g c =
    let s = c.self.inside in
    let i = c.args.i in
    let inside : i < length s.first = omega (arith, c.if-i-len.true, c.len.ensures.value, c.from-i.ensures) in
    record {
      value = ap (padded 296 s.rest) c.set.ensures
          ∙ ap (λ j. padded 296 s.rest (set s.first j c.args.v)) c.from-i.ensures ∙ set-padded 296 i s.rest c.args.v s.first inside
          ∙ ap (λ vs. set vs i c.args.v) c.self.view_is;
    }

pub returns-then-is_same : goal.returns-then-is_same
returns-then-is_same g c =
    let s = c.self.inside in
    let i = c.args.i in
    let past : length s.first ≤ i = omega (arith, c.if-i-len.false, c.len.ensures.value, c.from-i.ensures) in
    let one = set-rest 296 i s.rest s.first c.self.invariant c.requires past in
    record {
      value = sym c.self.view_is ∙ one ∙ ap (λ vs. set vs i s.rest) c.self.view_is
          ∙ ap (set c.args.self.now i) (c.if-is_same.ensures.same refl);
    }

pub invariant_of-self-2 : goal.invariant_of-self-2
invariant_of-self-2 g c =
    subst (λ n. n ≤ 296) (sym (ap length c.set-2.ensures ∙ length-set c.grow.new.first c.from-i.result c.args.v))
    c.grow.ensures.bound

pub returns : goal.returns
returns g c =
    let s = c.self.inside in
    let i = c.args.i in
    let inside : i < length c.grow.new.first = omega (arith, c.grow.ensures.enough, c.from-i.ensures) in
    record {
      value = ap (padded 296 s.rest) c.set-2.ensures
          ∙ ap (λ j. padded 296 s.rest (set c.grow.new.first j c.args.v)) c.from-i.ensures
          ∙ set-padded 296 i s.rest c.args.v c.grow.new.first inside
          ∙ ap (λ vs. set vs i c.args.v) (c.grow.ensures.value ∙ c.self.view_is);
    }
