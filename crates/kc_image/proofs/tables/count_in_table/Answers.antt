use Rattle.std.proofs.Common.{◌+◌, ◌*◌, length, ap, refl, arith, length-append, ◌∙◌}
use mir.Val.{bool_byte}
use Rattle.kc_image.specs.declared.elf.TheConstants.{SYM_SIZE}
use Rattle.kc_image.specs.Image.{Symbols}
use Rattle.kc_image.specs.FirstFault.{entries}
use Rattle.kc_image.specs.SymbolSteps.{strings_in, symbols_at, symbol_at}
use Rattle.kc_image.proofs.SymbolLemmas.{so_far_length, symbols_of_last, counted, bool_byte_le}
use Rattle.kc_image.proofs.tables.count_in_table.Goals as goal

pub loop-i-init : goal.loop-i-init
unfolding entries symbols_at
loop-i-init c = refl

pub overflow_add-count : goal.overflow_add-count
overflow_add-count c =
    let file = c.args.file.now in
    let t = c.args.table.now in
    let few = so_far_length file (strings_in file t) t.first c.loop-i.i in
    let least = bool_byte_le c.is_some.result in
    omega (arith, few, c.loop-i.invariant, c.loop-i-test.true, c.from-count.ensures, least)

pub loop-i-preserved : goal.loop-i-preserved
loop-i-preserved c =
    let file = c.args.file.now in
    let t = c.args.table.now in
    let strings = strings_in file t in
    let here = symbol_at file strings (t.first + SYM_SIZE * c.loop-i.i) in
    let before = symbols_at file strings (entries t.first SYM_SIZE c.loop-i.i) in
    let more = ap (λ (symbols : Symbols). length symbols) (symbols_of_last file strings t.first c.loop-i.i) in
    let one = c.from-count.ensures ∙ ap bool_byte c.is_some.ensures ∙ counted file c.read_symbol-symbol.result
    ∙ ap (λ (symbols : Symbols). length symbols) c.read_symbol-symbol.ensures in
    omega (arith, more, one, length-append before here, c.loop-i.invariant)
