-- Symbols by name, for the contracts of this crate's own functions: what the symbol tables that an image keeps hold,
-- and an index of names over the first of them. The meaning of a table is that of FirstFault.
use Rattle.std.specs.Prelude.{◌≡◌, ℕ, ◌+◌, ◌*◌, ◌≤◌, true, All, List, [], ◌∷◌, ◌++◌, length, take, drop, map, Option, Some, None}
use Rattle.std.specs.Cmp.Lexicographic.{slice_cmp}
use Rattle.std.specs.List.{sum_by}
use Rattle.std.specs.List.Sorted.{IsSortedByKey}
use Rattle.std.specs.Ordering.{nat_cmp}
use Rattle.kc_image.specs.declared.elf.TheConstants.{SYM_SIZE}
use Rattle.kc_image.specs.declared.tables.Table.{Table}
use Rattle.kc_image.specs.declared.index.Named.{Named}
use Rattle.kc_image.specs.declared.index.Index.{Index}
use Rattle.kc_image.specs.declared.symbols.SymbolTables.{SymbolTables}
use Rattle.kc_image.specs.Elf.{symbol_entry}
use Rattle.kc_image.specs.Image.{Contents, Symbols, contents, address_of}
use Rattle.kc_image.specs.FirstFault.{entries, ends_in_zero, text, with_kept}
use Rattle.kc_image.specs.declared.segments.Place.{Place}

-- ---- tables

-- the strings of a symbol table
abbrev pub strings_in : List ℕ → Table → List ℕ
strings_in file t = take t.strings_size (drop t.strings file)

-- the symbol that the entry at this offset keeps, if it keeps one
unfoldable pub symbol_at : List ℕ → List ℕ → ℕ → Symbols
symbol_at file strings at =
    with_kept [] (symbol_entry file at) (text (drop (symbol_entry file at).st_name strings))

-- those of the entries at these offsets
unfoldable pub symbols_at : List ℕ → List ℕ → List ℕ → Symbols
symbols_at file strings [] = []
symbols_at file strings (at ∷ offsets) = symbol_at file strings at ++ symbols_at file strings offsets

abbrev pub table_symbols : List ℕ → Table → Symbols
table_symbols file t = symbols_at file (strings_in file t) (entries t.first SYM_SIZE t.count)

-- those of the tables in their order
unfoldable pub symbols_in : List ℕ → List Table → Symbols
symbols_in file [] = []
symbols_in file (t ∷ ts) = table_symbols file t ++ symbols_in file ts

-- what the file holds at these places and in these tables
abbrev pub held_by : List ℕ → List Place → List Table → Contents
held_by file places tables = contents file places (symbols_in file tables)

-- a table's entries and strings lie in the file, and the last string ends
pub record IsTable (file : List ℕ) (t : Table) : Type 0 where
  pub entries_within : t.first + SYM_SIZE * t.count ≤ length file
  pub strings_within : t.strings + t.strings_size ≤ length file
  pub ended : ends_in_zero (strings_in file t) ≡ true

-- how many entries the tables have together
abbrev pub entry_count : List Table → ℕ
entry_count = sum_by (λ (t : Table). t.count)

-- ---- the index

abbrev pub name_of : List ℕ → Named → List ℕ
name_of file n = text (drop n.name file)

-- the symbols, their names written out
abbrev pub spelled : List ℕ → List Named → Symbols
spelled file = map (λ (n : Named). (name_of file n, n.value))

abbrev pub spelled_one : List ℕ → Option Named → Symbols
spelled_one file None = []
spelled_one file (Some n) = (name_of file n, n.value) ∷ []

-- the symbols are in the order of their names
abbrev pub AreByName : List ℕ → List Named → Type 0
AreByName file = IsSortedByKey (name_of file) (slice_cmp nat_cmp)

-- The index finds the first symbol of each name in its tables, which are the first ones. It has at most as many
-- symbols as the file has room for, and all tables where their entries fit into the file side by side.
pub record IsIndex (file : List ℕ) (tables : List Table) (index : Index) : Type 0 where
  pub within : index.tables ≤ length tables
  pub small : SYM_SIZE * length index.names.items ≤ length file
  pub whole : SYM_SIZE * entry_count tables ≤ length file → index.tables ≡ length tables
  pub sorted : AreByName file index.names.items
  pub first : (name : List ℕ)
      → address_of (spelled file index.names.items) name ≡ address_of (symbols_in file (take index.tables tables)) name

-- the tables of these symbols lie in the file, and the index is theirs
pub record AreSymbols (file : List ℕ) (symbols : SymbolTables) : Type 0 where
  pub tables : All (IsTable file) symbols.tables.items
  pub index : IsIndex file symbols.tables.items symbols.index
