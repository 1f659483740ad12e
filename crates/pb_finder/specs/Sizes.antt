-- How many images a table or a trap lists at most, if it was looked for.
use Rattle.std.specs.Prelude.{ℕ, ◌≤◌, All, length}
use Rattle.pb_tables.specs.Tables.{TrapValue, TableValue, TablesValue}

-- how many images a list has at most
abbrev pub most_listed : ℕ
most_listed = 50000

abbrev pub TableListsFew : TableValue → Type 0
TableListsFew table = length table.listed ≤ most_listed

abbrev pub TrapListsFew : TrapValue → Type 0
TrapListsFew trap = length trap.listed ≤ most_listed

-- no table and no trap lists more images than that
pub record ListFewImages (tables : TablesValue) : Type 0 where
  pub tables_few : All TableListsFew tables.tables
  pub traps_few : All TrapListsFew tables.traps
