use Rattle.std.proofs.Common.{take, sym}
use Rattle.std.proofs.lemmas.List.{take_all}
use Rattle.std.proofs.lemmas.List.Elements.{All-push, All-same}
use Rattle.kc_lattice.proofs.ListLemmas.{take_read}
use Rattle.kc_lattice.proofs.list.tell_each.Goals as goal

pub loop-item-preserved : goal.loop-item-preserved
loop-item-preserved g c =
    let xs = c.args.items.now in
    let valid = g.V.Domain.valid in
    All-same valid _ _ (take_read xs c.loop-item.item-index c.item-item.result c.loop-item-test.true c.item-item.is)
    (All-push valid (take c.loop-item.item-index xs) c.item-item.result c.loop-item.invariant c.tell.ensures.valid)

pub returns : goal.returns
returns g c = record {
  valid = All-same g.V.Domain.valid _ _ (sym (take_all c.loop-item.item-index c.args.items.now c.loop-item-test.false))
      c.loop-item.invariant;
}
