-- The rules for ELF images, each asked after the one before: this project's own, over the fields of the System V ABI.
use Rattle.std.specs.Prelude.{ℕ, zero, suc, ◌+◌, ◌-◌, ◌*◌, ◌/◌, ◌%◌, ◌^◌, Bool, not, ◌&&◌, ◌||◌, ◌==◌, nat_lt, nat_le, List, [], ◌∷◌, ◌++◌, length, take, drop, slice_index, Result, Ok, if◌then◌else◌}
use Rattle.kc_image.specs.declared.fault.ImageFault.{ImageFault}
use Rattle.kc_image.specs.declared.fault.ImageKind.TheVariants.{BadMagic, BadClass, BadType, BadMachine, HeaderOut, SegmentOut, SegmentsMeet, SymbolOut}
use Rattle.kc_image.specs.declared.elf.FileHeader.{FileHeader}
use Rattle.kc_image.specs.declared.elf.ProgramHeader.{ProgramHeader}
use Rattle.kc_image.specs.declared.elf.SectionHeader.{SectionHeader}
use Rattle.kc_image.specs.declared.elf.SymbolEntry.{SymbolEntry}
use Rattle.kc_image.specs.declared.elf.TheConstants.{ELFMAG, EI_CLASS, ELFCLASS64, EI_DATA, ELFDATA2LSB, E_TYPE, ET_EXEC, E_MACHINE, EM_X86_64, E_PHENTSIZE, E_PHNUM, E_SHENTSIZE, EHDR_SIZE, PN_XNUM, PT_LOAD, PHDR_SIZE, SHDR_SIZE, SHT_SYMTAB, SHT_STRTAB, SHN_UNDEF, SYM_SIZE}
use Rattle.kc_image.specs.declared.names.TheConstants.{MAX_NAME}
use Rattle.kc_image.specs.Elf.{file_header, program_header, section_header, symbol_entry}
use Rattle.kc_rules.specs.Rules.{refuse, over, ◌>>=◌}
use Rattle.kc_image.specs.Fault.{fault}
use Rattle.kc_image.specs.declared.segments.Place.{Place}
use Rattle.kc_image.specs.Image.{Symbols, meets_any}

-- so many bytes from the offset on pass the file's end
abbrev pub passes : List ℕ → ℕ → ℕ → Bool
passes file offset size = nat_lt (length file) (offset + size)

-- the offsets of a table's entries: the first one, the size of each, their number
unfoldable pub entries : ℕ → ℕ → ℕ → List ℕ
entries at size zero = []
entries at size (suc n) = at ∷ entries (at + size) size n

-- the byte at i, where it is there, is the magic's
unfoldable pub magic_byte : List ℕ → ℕ → Result (Unit {0}) ImageFault
magic_byte file i =
    if nat_le (length file) i then Ok tt
    else refuse (not (slice_index file i == slice_index ELFMAG i)) (fault BadMagic i)

unfoldable pub magic : List ℕ → Result (Unit {0}) ImageFault
magic file = do
  ok ← magic_byte file 0
  ok ← magic_byte file 1
  ok ← magic_byte file 2
  magic_byte file 3

-- the header of a little-endian 64-bit program for x86-64, loaded at the addresses that it names
unfoldable pub header : List ℕ → Result FileHeader ImageFault
header file = do
  ok ← magic file
  ok ← refuse (nat_lt (length file) EHDR_SIZE) (fault HeaderOut (length file))
  ok ← refuse (not (slice_index file EI_CLASS == ELFCLASS64)) (fault BadClass EI_CLASS)
  ok ← refuse (not (slice_index file EI_DATA == ELFDATA2LSB)) (fault BadClass EI_DATA)
  ok ← refuse (not ((file_header file).e_type == ET_EXEC)) (fault BadType E_TYPE)
  ok ← refuse (not ((file_header file).e_machine == EM_X86_64)) (fault BadMachine E_MACHINE)
  Ok (file_header file)

-- a table of program headers, where there is one, has entries of the ABI's size and lies in the file
unfoldable pub program_table : List ℕ → FileHeader → Result (Unit {0}) ImageFault
program_table file e =
    if e.e_phnum == 0 then Ok tt else (do
      ok ← refuse (not (e.e_phentsize == PHDR_SIZE)) (fault HeaderOut E_PHENTSIZE)
      ok ← refuse (e.e_phnum == PN_XNUM) (fault HeaderOut E_PHNUM)
      refuse (passes file e.e_phoff (PHDR_SIZE * e.e_phnum)) (fault HeaderOut (length file)))

-- the same of a table of section headers
unfoldable pub section_table : List ℕ → FileHeader → Result (Unit {0}) ImageFault
section_table file e =
    if e.e_shnum == 0 then Ok tt else (do
      ok ← refuse (not (e.e_shentsize == SHDR_SIZE)) (fault HeaderOut E_SHENTSIZE)
      refuse (passes file e.e_shoff (SHDR_SIZE * e.e_shnum)) (fault HeaderOut (length file)))

-- where a PT_LOAD header puts its segment
abbrev pub place_of : ProgramHeader → Place
place_of h =
    record { span = record { from = h.p_vaddr; to = h.p_vaddr + h.p_memsz }; offset = h.p_offset; size = h.p_filesz }

-- The PT_LOAD header h, which is at this offset, adds its segment to the earlier ones. It lies in the file and
-- in the address space, holds all its bytes in memory, and meets no earlier one.
unfoldable pub add_load : List ℕ → List Place → ProgramHeader → ℕ → Result (List Place) ImageFault
add_load file earlier h at = do
  ok ← refuse (passes file h.p_offset h.p_filesz) (fault SegmentOut at)
  ok ← refuse (nat_lt h.p_memsz h.p_filesz) (fault SegmentOut at)
  ok ← refuse (nat_le (2 ^ 64) (h.p_vaddr + h.p_memsz)) (fault SegmentOut at)
  ok ← refuse (meets_any (place_of h).span earlier) (fault SegmentsMeet at)
  Ok (earlier ++ place_of h ∷ [])

-- what the program header at this offset adds: a header of another type, nothing
unfoldable pub add_segment : List ℕ → List Place → ℕ → Result (List Place) ImageFault
add_segment file earlier at =
    if (program_header file at).p_type == PT_LOAD then add_load file earlier (program_header file at) at else Ok earlier

-- a section's bytes in the file
abbrev pub section_bytes : List ℕ → SectionHeader → List ℕ
section_bytes file h = take h.sh_size (drop h.sh_offset file)

-- there is no byte, or the last one is 0
abbrev pub ends_in_zero : List ℕ → Bool
ends_in_zero bytes = length bytes == 0 || slice_index bytes (length bytes - 1) == 0

-- the strings of the string table with section header h, for the symbol table whose section header is at this offset
unfoldable pub strings_of : List ℕ → SectionHeader → ℕ → Result (List ℕ) ImageFault
strings_of file h at = do
  ok ← refuse (not (h.sh_type == SHT_STRTAB)) (fault SymbolOut at)
  ok ← refuse (passes file h.sh_offset h.sh_size) (fault SymbolOut at)
  ok ← refuse (not (ends_in_zero (section_bytes file h))) (fault SymbolOut at)
  Ok (section_bytes file h)

-- the strings of the section that sh_link numbers
unfoldable pub linked_strings : List ℕ → FileHeader → ℕ → ℕ → Result (List ℕ) ImageFault
linked_strings file e sh_link at = do
  ok ← refuse (nat_le e.e_shnum sh_link) (fault SymbolOut at)
  strings_of file (section_header file (e.e_shoff + SHDR_SIZE * sh_link)) at

-- the bytes before the first 0
unfoldable pub text : List ℕ → List ℕ
text [] = []
text (b ∷ bs) = if b == 0 then [] else b ∷ text bs

-- a name is kept where it has at least one byte and at most MAX_NAME
abbrev pub is_kept_name : List ℕ → Bool
is_kept_name name = nat_lt 0 (length name) && nat_le (length name) MAX_NAME

-- with the symbol, where it is defined in some section and its name is kept
abbrev pub with_kept : Symbols → SymbolEntry → List ℕ → Symbols
with_kept symbols s name =
    if s.st_shndx == SHN_UNDEF then symbols
    else if is_kept_name name then symbols ++ (name, s.st_value) ∷ [] else symbols

-- a name begins past the strings; 0 is a name in an empty table too
abbrev pub begins_past : List ℕ → SymbolEntry → Bool
begins_past strings s = not (s.st_name == 0) && nat_le (length strings) s.st_name

-- what the symbol table's entry at this offset adds
unfoldable pub add_symbol : List ℕ → List ℕ → Symbols → ℕ → Result Symbols ImageFault
add_symbol file strings symbols at = do
  ok ← refuse (begins_past strings (symbol_entry file at)) (fault SymbolOut at)
  Ok (with_kept symbols (symbol_entry file at) (text (drop (symbol_entry file at).st_name strings)))

-- The symbol table whose section header h is at this offset adds its entries. It lies in the file and is made of
-- whole entries.
unfoldable pub add_table : List ℕ → FileHeader → Symbols → SectionHeader → ℕ → Result Symbols ImageFault
add_table file e symbols h at = do
  ok ← refuse (passes file h.sh_offset h.sh_size) (fault SymbolOut at)
  ok ← refuse (not (h.sh_size % SYM_SIZE == 0)) (fault SymbolOut at)
  strings ← linked_strings file e h.sh_link at
  over (add_symbol file strings) symbols (entries h.sh_offset SYM_SIZE (h.sh_size / SYM_SIZE))

-- what the section header at this offset adds: a section of another type, nothing
unfoldable pub add_section : List ℕ → FileHeader → Symbols → ℕ → Result Symbols ImageFault
add_section file e symbols at =
    if (section_header file at).sh_type == SHT_SYMTAB then add_table file e symbols (section_header file at) at
    else Ok symbols
