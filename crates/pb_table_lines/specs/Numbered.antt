-- The number of a line of a table or trap is that of the line itself.
use Rattle.std.specs.Prelude.{◌≡◌, ℕ, zero, suc, ◌-◌, ◌*◌, ◌<◌, List, length, take, drop, Some, slice_get, slice_index}
use Rattle.pb_tables.specs.Tables.{TablesValue}
use Rattle.pb_table_lines.specs.Lines.{Listing, listings, listing_at, list_line, image_line, tables_lines, line_number}

-- a line of a list: 0 is that of its tracked atoms, and 1 that of its first image
abbrev pub line_of_listing : (digits : ℕ) → Listing → (line : ℕ) → List ℕ
line_of_listing digits listing zero =
    list_line digits listing.word listing.tracked (length listing.listed)
line_of_listing digits listing (suc place) =
    image_line digits (slice_index listing.listed place)
    (take listing.sums (drop (place * listing.sums) listing.values))

-- The line of a list has its number among all lines, which are counted from 1.
abbrev pub LinesHaveTheirNumbers : Type 0
LinesHaveTheirNumbers =
    (digits : ℕ) (tables : TablesValue) (list line : ℕ) → list < length (listings tables)
    → line < suc (length (listing_at (listings tables) list).listed)
    → slice_get (tables_lines digits tables) (line_number tables list line - 1)
    ≡ Some (line_of_listing digits (listing_at (listings tables) list) line)
