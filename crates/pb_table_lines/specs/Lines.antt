-- The lines that state tables and traps. First stands how many sums, tables and traps there are.
-- Then each table and each trap follows: a line of its tracked atoms and of how many images it has,
-- and a line for each image.
use Rattle.std.specs.Prelude.{ℕ, ◌+◌, List, [], ◌∷◌, ◌++◌, length, map, take, drop, codes, slice_index_or, Option, None, Some}
use Rattle.std.specs.Fmt.{decimal}
use Rattle.std.specs.List.{flat_map}
use Rattle.pb_packed.specs.Digits.{hex_digits}
use Rattle.pb_model.specs.Texts.{spaced, lines}
use Rattle.pb_tables.specs.declared.fault.TablesFault.{TablesFault}
use Rattle.pb_tables.specs.declared.fault.TablesFault.TheVariants.{Line, Unpaid}
use Rattle.pb_tables.specs.Tables.{TrapValue, TableValue, TablesValue}

-- A table or a trap as its lines state it: the word that the first line begins with, how many values
-- stand behind an image, and the images with these values. A trap has no values.
pub record Listing : Type 0 where
  pub word : List ℕ
  pub sums : ℕ
  pub tracked : ℕ
  pub listed : List ℕ
  pub values : List ℕ

abbrev pub table_listing : (sums : ℕ) → TableValue → Listing
table_listing sums table = record {
  word = codes "table";
  sums = sums;
  tracked = table.tracked;
  listed = table.listed;
  values = table.values;
}

abbrev pub trap_listing : TrapValue → Listing
trap_listing trap = record {
  word = codes "trap";
  sums = 0;
  tracked = trap.tracked;
  listed = trap.listed;
  values = [];
}

-- the tables, and the traps after them
abbrev pub listings : TablesValue → List Listing
listings tables = map (table_listing tables.sums) tables.tables ++ map trap_listing tables.traps

-- values, each behind a blank
abbrev pub values_text : List ℕ → List ℕ
values_text [] = []
values_text (value ∷ values) = 32 ∷ (decimal value ++ values_text values)

-- an image in so many hexadecimal digits, and its values
abbrev pub image_line : (digits image : ℕ) → (values : List ℕ) → List ℕ
image_line digits image values = hex_digits digits image ++ values_text values

abbrev pub image_lines : (digits sums : ℕ) → (listed values : List ℕ) → List (List ℕ)
image_lines digits sums [] values = []
image_lines digits sums (image ∷ listed) values =
    image_line digits image (take sums values) ∷ image_lines digits sums listed (drop sums values)

-- the tracked atoms, and how many images there are
abbrev pub list_line : (digits : ℕ) → (word : List ℕ) → (tracked count : ℕ) → List ℕ
list_line digits word tracked count =
    spaced word (spaced (hex_digits digits tracked) (decimal count))

abbrev pub listing_lines : (digits : ℕ) → Listing → List (List ℕ)
listing_lines digits listing =
    list_line digits listing.word listing.tracked (length listing.listed)
    ∷ image_lines digits listing.sums listing.listed listing.values

-- how many sums, tables and traps there are
abbrev pub counts_line : (sums tables traps : ℕ) → List ℕ
counts_line sums tables traps =
    spaced (codes "estimate tables") (spaced (decimal sums)
    (spaced (decimal tables) (decimal traps)))

-- the lines that state tables and traps, with images of so many digits
abbrev pub tables_lines : (digits : ℕ) → TablesValue → List (List ℕ)
tables_lines digits tables =
    counts_line tables.sums (length tables.tables) (length tables.traps)
    ∷ flat_map (listing_lines digits) (listings tables)

-- the same with their line feeds
abbrev pub tables_text : (digits : ℕ) → TablesValue → List ℕ
tables_text digits tables = lines (tables_lines digits tables)

-- ---- where the lines of a list stand

-- the table or trap of a number, and one without images if there are fewer
abbrev pub listing_at : List Listing → (list : ℕ) → Listing
listing_at all list =
    slice_index_or all list (record { word = []; sums = 0; tracked = 0; listed = []; values = [] })

-- how many lines state these
abbrev pub lines_of : List Listing → ℕ
lines_of [] = 0
lines_of (listing ∷ others) = 1 + length listing.listed + lines_of others

-- how many lines come before those of a table or trap; these are numbered from 0, the tables before
-- the traps
abbrev pub lines_before : TablesValue → (list : ℕ) → ℕ
lines_before tables list = 1 + lines_of (take list (listings tables))

-- The number of a line of a table or trap, among all lines from 1 on. Line 0 of a list is that of
-- its tracked atoms, and line 1 that of its first image.
abbrev pub line_number : TablesValue → (list line : ℕ) → ℕ
line_number tables list line = lines_before tables list + line + 1

-- the number of the line of a fault that is in a line of a table or trap
abbrev pub fault_line : TablesValue → Option TablesFault → Option ℕ
fault_line tables None = None
fault_line tables (Some (Line list line)) = Some (line_number tables list line)
fault_line tables (Some (Unpaid sum action)) = None
