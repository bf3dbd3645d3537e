-- The numbers of an ELF-64 file of ELFDATA2LSB: System V ABI, "Data Representation".
use Rattle.std.specs.Prelude.{ℕ, List, drop}
use Rattle.byteorder.specs.Endian.{little_number}

-- Elf64_Half: two bytes at this offset, the least significant first
unfoldable pub half : List ℕ → ℕ → ℕ
half file at = little_number 2 (drop at file)

-- Elf64_Word: four bytes
unfoldable pub word : List ℕ → ℕ → ℕ
word file at = little_number 4 (drop at file)

-- Elf64_Addr, Elf64_Off and Elf64_Xword: eight bytes
unfoldable pub xword : List ℕ → ℕ → ℕ
xword file at = little_number 8 (drop at file)
