-- What an image file means, or its first fault.
use Rattle.std.specs.Prelude.{ℕ, List, [], Result, Ok, if◌then◌else◌}
use Rattle.kc_image.specs.declared.fault.ImageFault.{ImageFault}
use Rattle.kc_image.specs.declared.elf.TheConstants.{PHDR_SIZE, SHDR_SIZE}
use Rattle.kc_rules.specs.Rules.{over, ◌>>=◌}
use Rattle.kc_image.specs.Image.{Contents, contents}
use Rattle.kc_image.specs.FirstFault.{header, program_table, section_table, add_segment, add_section, entries}
use Rattle.kc_image.specs.Raw.{is_raw, raw}

-- the header and the tables, then each program header, then each section header
unfoldable pub elf : List ℕ → Result Contents ImageFault
elf file = do
  e ← header file
  ok ← program_table file e
  ok ← section_table file e
  places ← over (add_segment file) [] (entries e.e_phoff PHDR_SIZE e.e_phnum)
  symbols ← over (add_section file e) [] (entries e.e_shoff SHDR_SIZE e.e_shnum)
  Ok (contents file places symbols)

-- a file that begins as a raw image is one, and any other an ELF file
abbrev pub contents_of : List ℕ → Result Contents ImageFault
contents_of file = if is_raw file then raw file else elf file
