use Rattle.std.proofs.Common.{◌≡◌, ℕ, ◌+◌, ◌*◌, ◌++◌, List, Ok, Err, arith, subst}
use Rattle.std.proofs.lemmas.Result.{err_from_is_err_and}
use Rattle.kc_image.specs.declared.elf.TheConstants.{SYM_SIZE}
use Rattle.kc_image.specs.FirstFault.{add_symbol}
use Rattle.kc_image.specs.SymbolSteps.{strings_in, symbol_at}
use Rattle.kc_image.proofs.SymbolLemmas.{passed_none, passed_more, passed_all, refused_here}
use Rattle.kc_image.proofs.sections.check_entries.Goals as goal

pub loop-i-init : goal.loop-i-init
loop-i-init c =
    let file = c.args.file.now in
    let t = c.args.table.now in
    passed_none file (strings_in file t) t.first t.count

pub returns-in_err-check_entry : goal.returns-in_err-check_entry
returns-in_err-check_entry c = λ symbols.
    let file = c.args.file.now in
    let t = c.args.table.now in
    let exit = err_from_is_err_and c.from_residual.result c.from_residual.ensures.1 in
    let fault = c.in_err-check_entry.field-0.0 in
    rw (exit.1, exit.2)
    (refused_here file (strings_in file t) t.first t.count c.loop-i.i fault c.loop-i-test.true
    (λ before. subst (λ (s : List ℕ). add_symbol file s before (t.first + SYM_SIZE * c.loop-i.i) ≡ Err fault)
    c.read_strings-strings.ensures (c.in_err-check_entry.ensures before)) c.loop-i.invariant symbols)

pub loop-i-preserved : goal.loop-i-preserved
loop-i-preserved c =
    let file = c.args.file.now in
    let t = c.args.table.now in
    let here = t.first + SYM_SIZE * c.loop-i.i in
    passed_more file (strings_in file t) t.first t.count c.loop-i.i c.loop-i-test.true
    (λ before. subst (λ (s : List ℕ). add_symbol file s before here ≡ Ok (before ++ symbol_at file s here))
    c.read_strings-strings.ensures (c.in_ok-check_entry.ensures before)) c.loop-i.invariant

pub returns : goal.returns
returns c =
    let file = c.args.file.now in
    let t = c.args.table.now in
    passed_all file (strings_in file t) t.first t.count c.loop-i.i
    (omega (arith, c.loop-i-test.false, c.loop-i.auto.i-end)) c.loop-i.invariant
