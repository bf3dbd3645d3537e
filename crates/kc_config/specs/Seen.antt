-- How the code holds what it reads, beside the definitions. Machinery.
use Rattle.std.specs.Prelude.{ℕ, ◌+◌, ◌≤◌, List, map, length, String}
use Rattle.std.specs.Borrow.{Bor}
use Rattle.std.specs.BTreeMap.{BTreeMap}
use Rattle.std.specs.declared.alloc.Global.{Global}
use Rattle.toml.specs.Data.{Members}
use Rattle.toml.specs.View.{table_view}
use Rattle.toml.specs.declared.value.Value.{Value}
use Rattle.kc_config.specs.declared.address.Spelling.{Spelling}
use Rattle.kc_config.specs.declared.address.Spelling.TheVariants.{Number, Symbol}
use Rattle.kc_config.specs.declared.address.Sum.{Sum}
use Rattle.kc_config.specs.declared.keys.Reader.{Reader}
use Rattle.kc_config.specs.Addresses.{Written, number, symbol}
use Rattle.kc_config.specs.declared.top.Tables.{Tables as HeldTables}
use Rattle.kc_config.specs.Keys.{Section}
use Rattle.kc_config.specs.Tables.{Tables}

abbrev pub spelled : Spelling → Written
spelled (Number n) = number n
spelled (Symbol name n) = symbol name.now n

abbrev pub sum : Sum → ℕ
sum s = s.base + s.added

-- the table that is read
abbrev pub seen : Reader → Section
seen r = record { place = r.place; members = table_view r.table.now; symbols = r.image.now.symbols }

abbrev pub tables_of : List (Bor (BTreeMap (String Global) Value)) → List Members
tables_of tables = map (λ t. table_view t.now) tables

abbrev pub seen_tables : HeldTables → Tables
seen_tables t = record {
  cpu = table_view t.cpu.now;
  regions = tables_of t.regions.items;
  gates = tables_of t.gates.items;
  handlers = tables_of t.handlers.items;
  words = tables_of t.words.items;
}

-- as many tables as a description may have
pub record AreCounted (t : HeldTables) : Type 0 where
  pub regions : (1 ≤ length t.regions.items) × (length t.regions.items ≤ 64)
  pub gates : (1 ≤ length t.gates.items) × (length t.gates.items ≤ 256)
  pub handlers : length t.handlers.items ≤ 256
  pub words : length t.words.items ≤ 32
