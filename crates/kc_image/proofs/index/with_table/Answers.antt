use Rattle.std.proofs.Common.{sym, append-nil}
use Rattle.kc_image.specs.FirstFault.{entries}
use Rattle.kc_image.specs.SymbolSteps.{spelled, strings_in, symbols_at}
use Rattle.kc_image.proofs.SymbolLemmas.{spelled_so_far}
use Rattle.kc_image.proofs.index.with_table.Goals as goal

pub loop-i-init : goal.loop-i-init
unfolding entries symbols_at
loop-i-init c = sym (append-nil (spelled c.args.file.now c.args.names.items))

pub loop-i-preserved : goal.loop-i-preserved
loop-i-preserved c =
    let file = c.args.file.now in
    let t = c.args.table.now in
    spelled_so_far file (strings_in file t) t.first c.loop-i.i c.args.names.items c.loop-i.names.items
    c.in_ok-names.names.items c.read_symbol-symbol.result c.in_ok-names.ensures c.read_symbol-symbol.ensures
    c.loop-i.invariant
