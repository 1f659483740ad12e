-- How long the lines are that state tables: 8,192 tables and traps have at most 50,001 lines each,
-- of at most 1,153 bytes.
use Rattle.std.proofs.Common.{ℕ, ◌+◌, ◌*◌, ◌^◌, ◌≤◌, length, map, take, drop, List, [], ◌∷◌, ◌++◌, All, codes, arith}
use Rattle.std.specs.Fmt.{decimal}
use Rattle.std.specs.List.{AllByRecursion, flat_map}
use Rattle.std.proofs.lemmas.Fmt.{length-decimal-le}
use Rattle.std.proofs.lemmas.List.{length-append, length-map, length-take}
use Rattle.std.proofs.lemmas.List.Elements.{All-append, All-drop, All-map, All-nil, All-take, recursion_from_All}
use Rattle.pb_packed.specs.Digits.{hex_digits}
use Rattle.pb_packed.proofs.Callers.{digits_are_hex}
use Rattle.pb_model.specs.Texts.{line, lines, spaced}
use Rattle.pb_tables.specs.Tables.{TrapValue, TablesValue, AreTables}
use Rattle.pb_table_lines.specs.Lines.{Listing, table_listing, trap_listing, values_text, image_line, image_lines, list_line, listing_lines, counts_line, tables_lines}
use Rattle.pb_finder.specs.Sizes.{TrapListsFew, ListFewImages}
use Rattle.pb_run.proofs.Lengths.{line_long, lines_append, number_long, spaced_long}

-- the value is one that a table may have
abbrev IsSmall : ℕ → Type 0
IsSmall value = value ≤ 2 ^ 40

values_long : (values : List ℕ) → AllByRecursion IsSmall values
    → length (values_text values) ≤ 14 * length values
values_long [] small = omega arith
values_long (value ∷ values) small =
    let here : value ≤ 2 ^ 40 = small.0 in
    let digits = length-decimal-le 13 value (omega arith) (omega (arith, here)) (omega (arith, here)) in
    let both = length-append (decimal value) (values_text values) in
    let rest = values_long values small.1 in
    omega (arith, digits, both, rest)

image_long : (digits sums image : ℕ) (values : List ℕ) → sums ≤ 64 → All IsSmall values
    → length (image_line digits image (take sums values)) ≤ digits + 896
image_long digits sums image values few small =
    let all = values_long (take sums values) (recursion_from_All IsSmall (take sums values) (All-take IsSmall sums values small)) in
    let count = length-take sums values in
    let state = (digits_are_hex digits image).0 in
    let both = length-append (hex_digits digits image) (values_text (take sums values)) in
    omega (arith, all, count, state, both, few)

images_long : (digits sums : ℕ) (listed values : List ℕ) → digits ≤ 256 → sums ≤ 64
    → All IsSmall values
    → length (lines (image_lines digits sums listed values)) ≤ 1153 * length listed
images_long digits sums [] values narrow few small = omega arith
images_long digits sums (image ∷ listed) values narrow few small =
    let here = image_long digits sums image values few small in
    let others = images_long digits sums listed (drop sums values) narrow few (All-drop IsSmall sums values small) in
    let one = line_long (image_line digits image (take sums values)) in
    let both = length-append (line (image_line digits image (take sums values)))
    (lines (image_lines digits sums listed (drop sums values))) in
    omega (arith, here, others, one, both, narrow)

-- a list whose lines are short, and few enough
record IsShort (listing : Listing) : Type 0 where
  word : length listing.word ≤ 5
  sums : listing.sums ≤ 64
  listed : length listing.listed ≤ 50000
  values : All IsSmall listing.values

listing_long : (digits : ℕ) (listing : Listing) → digits ≤ 256 → IsShort listing
    → length (lines (listing_lines digits listing)) ≤ 1153 * 50001
listing_long digits listing narrow short =
    let count : ℕ = length listing.listed in
    let first = list_line digits listing.word listing.tracked count in
    let rest = image_lines digits listing.sums listing.listed listing.values in
    let images = images_long digits listing.sums listing.listed listing.values narrow short.sums short.values in
    let state = (digits_are_hex digits listing.tracked).0 in
    let few = short.listed in
    let word = short.word in
    let number = number_long count (omega (arith, few)) in
    let one = spaced_long listing.word (spaced (hex_digits digits listing.tracked) (decimal count)) in
    let two = spaced_long (hex_digits digits listing.tracked) (decimal count) in
    let whole = line_long first in
    let both = length-append (line first) (lines rest) in
    omega (arith, images, state, few, word, number, one, two, whole, both, narrow)

listings_long : (digits : ℕ) (all : List Listing) → digits ≤ 256 → AllByRecursion IsShort all
    → length (lines (flat_map (listing_lines digits) all)) ≤ 1153 * 50001 * length all
listings_long digits [] narrow short = omega arith
listings_long digits (listing ∷ all) narrow short =
    let here = listing_long digits listing narrow short.0 in
    let others = listings_long digits all narrow short.1 in
    let both = lines_append (listing_lines digits listing) (flat_map (listing_lines digits) all) in
    omega (arith, here, others, both)

tables_are_short : (tables : TablesValue) → AreTables tables → ListFewImages tables
    → All IsShort (map (table_listing tables.sums) tables.tables)
tables_are_short tables are few =
    All-map IsShort (table_listing tables.sums) tables.tables (λ k d within. record {
      word = omega arith;
      sums = are.few;
      listed = few.tables_few k d within;
      values = (are.each k d within).small;
    })

traps_are_short : (traps : List TrapValue) → All TrapListsFew traps
    → All IsShort (map trap_listing traps)
traps_are_short traps few =
    All-map IsShort trap_listing traps (λ k d within. record {
      word = omega arith;
      sums = omega arith;
      listed = few k d within;
      values = All-nil IsSmall;
    })

pub tables_text_is_short : (digits : ℕ) (tables : TablesValue) → digits ≤ 256 → AreTables tables
    → ListFewImages tables → length (lines (tables_lines digits tables)) ≤ 2 ^ 39
tables_text_is_short digits tables narrow are few =
    let some : List Listing = map (table_listing tables.sums) tables.tables in
    let others : List Listing = map trap_listing tables.traps in
    let short = All-append IsShort some others (tables_are_short tables are few) (traps_are_short tables.traps few.traps_few) in
    let all = listings_long digits (some ++ others) narrow (recursion_from_All IsShort (some ++ others) short) in
    let counted = length-append some others in
    let tables_counted = length-map tables.tables (table_listing tables.sums) in
    let traps_counted = length-map tables.traps trap_listing in
    let tables_few = are.tables_few in
    let traps_few = are.traps_few in
    let first = first_long tables.sums (length tables.tables) (length tables.traps) are.few tables_few traps_few in
    let both = length-append (line (counts_line tables.sums (length tables.tables) (length tables.traps)))
    (lines (flat_map (listing_lines digits) (some ++ others))) in
    omega (arith, all, counted, tables_counted, traps_counted, tables_few, traps_few, first, both)
  where
    first_long : (sums tables traps : ℕ) → sums ≤ 64 → tables ≤ 4096 → traps ≤ 4096
        → length (line (counts_line sums tables traps)) ≤ 128
    first_long sums tables traps sums_few tables_few traps_few =
        let whole = line_long (counts_line sums tables traps) in
        let one = spaced_long (codes "estimate tables")
        (spaced (decimal sums) (spaced (decimal tables) (decimal traps))) in
        let two = spaced_long (decimal sums) (spaced (decimal tables) (decimal traps)) in
        let three = spaced_long (decimal tables) (decimal traps) in
        let first = number_long sums (omega (arith, sums_few)) in
        let second = number_long tables (omega (arith, tables_few)) in
        let third = number_long traps (omega (arith, traps_few)) in
        omega (arith, whole, one, two, three, first, second, third)
