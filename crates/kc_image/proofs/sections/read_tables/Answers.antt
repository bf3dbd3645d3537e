use Rattle.std.proofs.Common.{[], ap, arith, ◌∙◌}
use Rattle.std.proofs.lemmas.Result.{err_from_is_err_and}
use Rattle.kc_rules.specs.Rules.{over}
use Rattle.kc_image.specs.declared.elf.TheConstants.{SHDR_SIZE}
use Rattle.kc_image.specs.FirstFault.{add_section}
use Rattle.kc_image.specs.SymbolSteps.{symbols_in}
use Rattle.kc_image.proofs.TableLemmas.{section_bound, all_entries, over_more, over_fails, over_all}
use Rattle.kc_image.proofs.SymbolLemmas.{symbols_in_none}
use Rattle.kc_image.proofs.sections.read_tables.Goals as goal

pub loop-i-init : goal.loop-i-init
loop-i-init c =
    let file = c.args.file.now in
    let h = c.args.header.now in
    let none = ap (symbols_in file) c.new-tables.ensures.items ∙ symbols_in_none file in
    record {
      so_far = rw none (ap (over (add_section file h) []) (all_entries h.e_shoff SHDR_SIZE h.e_shnum));
      valid = rw c.new-tables.ensures.items (λ k d lt. absurd (omega (arith, lt)));
    }

pub overflow_add-at : goal.overflow_add-at
overflow_add-at c = omega (arith, section_bound c.args.file.now c.args.header.now (omega arith) c.requires)

pub with_section-requires-clause-inside : goal.with_section-requires-clause-inside
with_section-requires-clause-inside c =
    omega (arith, section_bound c.args.file.now c.args.header.now (omega arith) c.requires)

pub returns-in_err-tables-clause-symbols : goal.returns-in_err-tables-clause-symbols
returns-in_err-tables-clause-symbols c =
    let exit = err_from_is_err_and c.from_residual.result c.from_residual.ensures.1 in
    rw (exit.1, exit.2)
    (over_fails (add_section c.args.file.now c.args.header.now) _ _ _ _ _ _ _ c.in_err-tables.field-0.0
    c.loop-i-test.true (omega (arith, c.from.ensures)) c.in_err-tables.ensures.symbols c.loop-i.invariant.so_far)

pub loop-i-preserved : goal.loop-i-preserved
loop-i-preserved c = record {
  so_far =
      over_more (add_section c.args.file.now c.args.header.now) _ _ _ _ _ _ _ _ c.loop-i-test.true
      (omega (arith, c.from.ensures)) c.in_ok-tables.ensures.symbols c.loop-i.invariant.so_far;
  valid = c.in_ok-tables.ensures.valid;
}

pub returns-clause-symbols : goal.returns-clause-symbols
returns-clause-symbols c =
    over_all (add_section c.args.file.now c.args.header.now) _ _ _ _ _ _ c.loop-i-test.false c.loop-i.invariant.so_far
