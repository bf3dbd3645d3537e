use Rattle.std.proofs.Common.{rules}
use Rattle.kc_lattice.proofs.ListLemmas.{length-AllZip}
use Rattle.kc_lattice.proofs.list.join_each.Goals as goal

pub loop-i-init : goal.loop-i-init
loop-i-init g c = record {
  lengths =
      length-AllZip g.V.Domain.alike c.args.these.now c.args.those.now c.requires;
  alike = c.requires;
  whole =
      search rules;
}
