-- How many lines state tables and traps.
use Rattle.std.proofs.Common.{◌≡◌, ℕ, suc, ◌+◌, ◌*◌, ◌^◌, ◌<◌, ◌≤◌, All, List, [], ◌∷◌, length, map, drop, codes, Ok, subst, refl, ap, ◌∙◌, arith, length-append}
use Rattle.std.specs.List.{flat_map}
use Rattle.std.proofs.lemmas.List.Concat.{flat_map-append}
use Rattle.pb_tables.specs.Tables.{TrapValue, TableValue, TablesValue, IsTable, AreTables}
use Rattle.pb_table_lines.specs.Lines.{image_lines, listing_lines, table_listing, trap_listing, tables_lines}
use Rattle.pb_table_lines.specs.Reading.{StatedCounts, line_at, counts_in, lists_at, tables_at, lines_of_lists, of_trap, trap_of}

pub images_counted : (digits sums : ℕ) (listed values : List ℕ) → length (image_lines digits sums listed values) ≡ length listed
images_counted digits sums [] values = refl
images_counted digits sums (image ∷ listed) values = ap suc (images_counted digits sums listed (drop sums values))

tables_counted : (digits sums : ℕ) (tables : List TableValue) → length (flat_map (listing_lines digits) (map (table_listing sums) tables)) ≡ lines_of_lists tables
tables_counted digits sums [] = refl
tables_counted digits sums (table ∷ tables) =
    let first = images_counted digits sums table.listed table.values in
    let others = tables_counted digits sums tables in
    let both = length-append (listing_lines digits (table_listing sums table)) (flat_map (listing_lines digits) (map (table_listing sums) tables)) in
    omega (arith, first, others, both)

traps_counted : (digits : ℕ) (traps : List TrapValue) → length (flat_map (listing_lines digits) (map trap_listing traps)) ≡ lines_of_lists (map of_trap traps)
traps_counted digits [] = refl
traps_counted digits (trap ∷ traps) =
    let first = images_counted digits 0 trap.listed [] in
    let others = traps_counted digits traps in
    let both = length-append (listing_lines digits (trap_listing trap)) (flat_map (listing_lines digits) (map trap_listing traps)) in
    omega (arith, first, others, both)

pub lines_counted : (digits : ℕ) (tables : TablesValue) → length (tables_lines digits tables) ≡ 1 + (lines_of_lists tables.tables + lines_of_lists (map of_trap tables.traps))
lines_counted digits tables =
    let first = tables_counted digits tables.sums tables.tables in
    let second = traps_counted digits tables.traps in
    let both = ap length (flat_map-append (listing_lines digits) (map (table_listing tables.sums) tables.tables) (map trap_listing tables.traps)) ∙ length-append (flat_map (listing_lines digits) (map (table_listing tables.sums) tables.tables)) (flat_map (listing_lines digits) (map trap_listing tables.traps)) in
    omega (arith, first, second, both)

-- ---- how few they are

tables_few : (sums : ℕ) (tables : List TableValue) → All (IsTable sums) tables → lines_of_lists tables ≤ length tables * 2 ^ 63
tables_few sums [] are = omega arith
tables_few sums (table ∷ tables) are =
    let first = (are 0 table (omega arith)).listed_few in
    let others = tables_few sums tables (λ k d within. are (suc k) d (omega (arith, within))) in
    omega (arith, first, others)

traps_few : (traps : List TrapValue) → All (λ trap. length trap.listed < 2 ^ 63) traps → lines_of_lists (map of_trap traps) ≤ length traps * 2 ^ 63
traps_few [] are = omega arith
traps_few (trap ∷ traps) are =
    let first = are 0 trap (omega arith) in
    let others = traps_few traps (λ k d within. are (suc k) d (omega (arith, within))) in
    omega (arith, first, others)

-- there are 8,192 lists at most, each of at most 2^63 lines
pub few_lines : (digits : ℕ) (tables : TablesValue) → AreTables tables → length (tables_lines digits tables) < 2 ^ 78
few_lines digits tables are =
    let all = lines_counted digits tables in
    let first = tables_few tables.sums tables.tables are.each in
    let second = traps_few tables.traps are.traps_listed_few in
    let some = are.tables_few in
    let others = are.traps_few in
    omega (arith, all, first, second, some, others)

pub some_lines : (digits : ℕ) (tables : TablesValue) → 1 ≤ length (tables_lines digits tables)
some_lines digits tables = omega arith

-- ---- reading

-- a trap that was read is the trap
pub traps_again : (traps : List TrapValue) → map trap_of (map of_trap traps) ≡ traps
traps_again [] = refl
traps_again (trap ∷ traps) = ap (λ (ts : List TrapValue). trap ∷ ts) (traps_again traps)

-- what is read of all lines
pub all_read : (digits line : ℕ) (text first rest : List ℕ) (counts : StatedCounts) (tables : List TableValue) (behind : List ℕ) (next : ℕ) (traps : List TrapValue) (end : List ℕ)
    → line_at line text ≡ Ok (first, rest) → counts_in line first ≡ Ok counts → lists_at digits (codes "table ") counts.sums counts.tables (line + 1) rest ≡ Ok (tables, behind) → next ≡ line + 1 + lines_of_lists tables
    → lists_at digits (codes "trap ") 0 counts.traps next behind ≡ Ok (map of_trap traps, end)
    → tables_at digits line text ≡ Ok (record { sums = counts.sums; tables = tables; traps = traps }, end)
unfolding tables_at
all_read digits line text first rest counts tables behind next traps end is said tables_are next_is traps_are =
    let traps_at : lists_at digits (codes "trap ") 0 counts.traps (line + 1 + lines_of_lists tables) behind ≡ Ok (map of_trap traps, end) = subst (λ k. lists_at digits (codes "trap ") 0 counts.traps k behind ≡ Ok (map of_trap traps, end)) next_is traps_are in
    let whole : tables_at digits line text ≡ Ok (record { sums = counts.sums; tables = tables; traps = map trap_of (map of_trap traps) }, end) = rw (is, said, tables_are, traps_at) refl in
    whole ∙ ap (λ (ts : List TrapValue). Ok (record { sums = counts.sums; tables = tables; traps = ts }, end)) (traps_again traps)
