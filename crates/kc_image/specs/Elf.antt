-- The headers of an ELF-64 file by their fields, whose offsets and sizes are the constants of src/elf.rt:
-- System V ABI, "ELF Header", "Program Header", "Sections" and "Symbol Table".
use Rattle.std.specs.Prelude.{ℕ, ◌+◌, List}
use Rattle.kc_image.specs.declared.elf.FileHeader.{FileHeader}
use Rattle.kc_image.specs.declared.elf.ProgramHeader.{ProgramHeader}
use Rattle.kc_image.specs.declared.elf.SectionHeader.{SectionHeader}
use Rattle.kc_image.specs.declared.elf.SymbolEntry.{SymbolEntry}
use Rattle.kc_image.specs.declared.elf.TheConstants.{E_TYPE, E_MACHINE, E_PHOFF, E_SHOFF, E_PHENTSIZE, E_PHNUM, E_SHENTSIZE, E_SHNUM, P_TYPE, P_OFFSET, P_VADDR, P_FILESZ, P_MEMSZ, SH_TYPE, SH_OFFSET, SH_SIZE, SH_LINK, ST_NAME, ST_SHNDX, ST_VALUE}
use Rattle.kc_image.specs.Field.{half, word, xword}

-- the file's header, at offset 0
unfoldable pub file_header : List ℕ → FileHeader
file_header file = record {
  e_type = half file E_TYPE;
  e_machine = half file E_MACHINE;
  e_phoff = xword file E_PHOFF;
  e_shoff = xword file E_SHOFF;
  e_phentsize = half file E_PHENTSIZE;
  e_phnum = half file E_PHNUM;
  e_shentsize = half file E_SHENTSIZE;
  e_shnum = half file E_SHNUM;
}

-- the program header at this offset
unfoldable pub program_header : List ℕ → ℕ → ProgramHeader
program_header file at = record {
  p_type = word file (at + P_TYPE);
  p_offset = xword file (at + P_OFFSET);
  p_vaddr = xword file (at + P_VADDR);
  p_filesz = xword file (at + P_FILESZ);
  p_memsz = xword file (at + P_MEMSZ);
}

-- the section header at this offset
unfoldable pub section_header : List ℕ → ℕ → SectionHeader
section_header file at = record {
  sh_type = word file (at + SH_TYPE);
  sh_offset = xword file (at + SH_OFFSET);
  sh_size = xword file (at + SH_SIZE);
  sh_link = word file (at + SH_LINK);
}

-- the symbol table's entry at this offset
unfoldable pub symbol_entry : List ℕ → ℕ → SymbolEntry
symbol_entry file at = record {
  st_name = word file (at + ST_NAME);
  st_shndx = half file (at + ST_SHNDX);
  st_value = xword file (at + ST_VALUE);
}
