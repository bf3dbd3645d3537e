use Rattle.std.proofs.Common.{◌≡◌, ◌+◌, [], ◌-◌, ◌*◌, All}
use Rattle.kc_rules.specs.Rules.{over}
use Rattle.kc_image.specs.declared.elf.TheConstants.{SHDR_SIZE}
use Rattle.kc_image.specs.FirstFault.{add_section, entries}
use Rattle.kc_image.specs.SymbolSteps.{IsTable, symbols_in}
use Rattle.kc_image.proofs.sections.read_tables.Given as goal

abbrev pub invariant-loop-i : goal.invariant-loop-i
invariant-loop-i l = record {
  so_far :
      over (add_section l.file l.header) (symbols_in l.file l.tables.items)
      (entries (l.header.e_shoff + SHDR_SIZE * l.i) SHDR_SIZE (l.header.e_shnum - l.i))
      ≡ over (add_section l.file l.header) [] (entries l.header.e_shoff SHDR_SIZE l.header.e_shnum);
  valid : All (IsTable l.file) l.tables.items;
}
