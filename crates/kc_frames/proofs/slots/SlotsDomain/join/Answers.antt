use Rattle.std.proofs.Common.{◌≡◌, ◌<◌, ◌≤◌, length, sym, ap, ◌∙◌, subst, arith}
use Rattle.std.specs.List.{AllZip}
use Rattle.kc_lattice.specs.Rows.{rows_joined}
use Rattle.kc_frames.specs.Padded.{padded}
use Rattle.kc_frames.proofs.JoinLemmas.{alike_padded, join_padded}
use Rattle.kc_frames.proofs.slots.SlotsDomain.join.Goals as goal

pub join_first-requires-clause-alike : goal.join_first-requires-clause-alike
join_first-requires-clause-alike g c =
    let R = g.V.Domain.alike in
    let r = c.self.inside.rest in
    let o = c.other.inside in
    let xs = c.grow.new.first in
    let few : length o.first ≤ length xs = omega (arith, c.grow.ensures.enough, c.len.ensures.value) in
    let ours : c.args.self.now ≡ padded 296 r xs = sym (c.grow.ensures.value ∙ c.self.view_is) in
    let others : c.args.other.now ≡ padded 296 o.rest o.first = sym c.other.view_is in
    (alike_padded R 296 r o.rest xs o.first few c.grow.ensures.bound
    (subst (λ us. AllZip R us (padded 296 o.rest o.first)) ours
    (subst (λ vs. AllZip R c.args.self.now vs) others c.requires))).0

pub join_rest-requires : goal.join_rest-requires
join_rest-requires g c = λ some.
    let R = g.V.Domain.alike in
    let r = c.self.inside.rest in
    let o = c.other.inside in
    let xs = c.grow.new.first in
    let few : length o.first ≤ length xs = omega (arith, c.grow.ensures.enough, c.len.ensures.value) in
    let fewer : length xs < 296 = omega (arith, some, c.len-kept.ensures.value, c.join_first.ensures.count) in
    let ours : c.args.self.now ≡ padded 296 r xs = sym (c.grow.ensures.value ∙ c.self.view_is) in
    let others : c.args.other.now ≡ padded 296 o.rest o.first = sym c.other.view_is in
    (alike_padded R 296 r o.rest xs o.first few c.grow.ensures.bound
    (subst (λ us. AllZip R us (padded 296 o.rest o.first)) ours
    (subst (λ vs. AllZip R c.args.self.now vs) others c.requires))).1 fewer

pub returns : goal.returns
returns g c =
    let f = g.V.Domain.joined in
    let r = c.self.inside.rest in
    let t = c.join_rest.new.rest in
    let o = c.other.inside in
    let xs = c.grow.new.first in
    let few : length o.first ≤ length xs = omega (arith, c.grow.ensures.enough, c.len.ensures.value) in
    record {
      value = c.trim.ensures.value ∙ ap (padded 296 t) c.join_first.ensures.value
          ∙ join_padded f 296 r o.rest t xs o.first few c.grow.ensures.bound (λ some.
          c.join_rest.ensures.value (omega (arith, some, c.len-kept.ensures.value, c.join_first.ensures.count)))
          ∙ ap (λ us. rows_joined f us (padded 296 o.rest o.first)) (c.grow.ensures.value ∙ c.self.view_is)
          ∙ ap (rows_joined f c.args.self.now) c.other.view_is;
    }
