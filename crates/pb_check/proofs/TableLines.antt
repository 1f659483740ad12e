-- Lines that state tables begin with a line that states no other choice of an estimate.
use Rattle.std.proofs.Common.{◌≡◌, ℕ, true, Some, List, Ok, ap}
use Rattle.std.specs.Prelude.{codes, is_some}
use Rattle.pb_lines.specs.Words.{part, behind}
use Rattle.pb_tables.specs.Tables.{TablesValue}
use Rattle.pb_table_lines.specs.Reading.{◌>>=◌, wanted, line_at, counts_in, tables_at}
use Rattle.pb_table_lines.proofs.Callers.{bind_ok, wanted_ok}

pub tables_first : (width line : ℕ) (text : List ℕ) (x : TablesValue × List ℕ)
    → tables_at width line text ≡ Ok x
    → (first : List ℕ × List ℕ) × (part 10 text ≡ Some first)
    × (is_some (behind (codes "estimate tables ") first.0) ≡ true)
unfolding tables_at counts_in
tables_first width line text x e =
    let a = bind_ok (line_at line text) _ x e in
    let b = bind_ok (counts_in line a.0.0) _ x a.2 in
    let words = behind (codes "estimate tables ") a.0.0 in
    let c = bind_ok (wanted line words) _ b.0 b.1 in
    (a.0, wanted_ok line (part 10 text) a.0 a.1, ap is_some (wanted_ok line words c.0 c.1))
