-- The number of a line of tables is small.
use Rattle.std.proofs.Common.{ℕ, zero, suc, ◌+◌, ◌^◌, ◌<◌, ◌≤◌, List, [], ◌∷◌, take, length, arith}
use Rattle.pb_tables.specs.Tables.{TablesValue, AreTables}
use Rattle.pb_table_lines.specs.Lines.{Listing, listings, lines_of, line_number}
use Rattle.pb_table_lines.proofs.Callers.{all_counted, few_lines}

-- as many lines come before a list as before the end, or fewer
lines_up : (list : ℕ) (all : List Listing)
    → lines_of (take list all) ≤ lines_of (take (length all) all)
lines_up zero all = omega arith
lines_up (suc list) [] = omega arith
lines_up (suc list) (listing ∷ all) = let up = lines_up list all in omega (arith, up)

pub line_small : (tables : TablesValue) (list line : ℕ) → AreTables tables → line < 2 ^ 64
    → 4 + line_number tables list line < 2 ^ 128
line_small tables list line lawful few =
    let up = lines_up list (listings tables) in
    let count = all_counted 1 tables in
    let small = few_lines 1 tables lawful in
    omega (arith, up, count, small, few)
