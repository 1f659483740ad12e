-- The number of a line of a table or trap is that of the line itself.
use Rattle.std.proofs.Common.{◌≡◌, ℕ, zero, suc, ◌+◌, ◌-◌, ◌<◌, Some, List, [], ◌∷◌, ◌++◌, length, take, slice_get, refl, subst, arith}
use Rattle.std.specs.List.{flat_map}
use Rattle.pb_print.proofs.Callers.{get_right}
use Rattle.pb_table_lines.specs.Lines.{Listing, listings, listing_at, listing_lines, counts_line, lines_of, line_number}
use Rattle.pb_table_lines.specs.Numbered.{line_of_listing, LinesHaveTheirNumbers}
use Rattle.pb_table_lines.proofs.Counted.{images_counted}
use Rattle.pb_table_lines.proofs.Written.{image_get}

get_left : (texts others : List (List ℕ)) (at : ℕ) (text : List ℕ) → slice_get texts at ≡ Some text → slice_get (texts ++ others) at ≡ Some text
get_left [] others at text is = absurd cc
get_left (first ∷ texts) others zero text is = is
get_left (first ∷ texts) others (suc at) text is = get_left texts others at text is

-- the lines of one list
listing_get : (digits : ℕ) (listing : Listing) (line : ℕ) → line < suc (length listing.listed) → slice_get (listing_lines digits listing) line ≡ Some (line_of_listing digits listing line)
listing_get digits listing zero within = refl
listing_get digits listing (suc place) within = image_get digits listing.sums listing.listed listing.values place (omega (arith, within))

-- the lines of all lists
flat_get : (digits : ℕ) (all : List Listing) (list line : ℕ) → list < length all → line < suc (length (listing_at all list).listed)
    → slice_get (flat_map (listing_lines digits) all) (lines_of (take list all) + line) ≡ Some (line_of_listing digits (listing_at all list) line)
flat_get digits [] list line here within = absurd (omega (arith, here))
flat_get digits (first ∷ all) zero line here within =
    let same : line ≡ 0 + line = omega arith in
    subst (λ k. slice_get (flat_map (listing_lines digits) (first ∷ all)) k ≡ Some (line_of_listing digits first line)) same
    (get_left (listing_lines digits first) (flat_map (listing_lines digits) all) line (line_of_listing digits first line) (listing_get digits first line within))
flat_get digits (first ∷ all) (suc list) line here within =
    let one = images_counted digits first.sums first.listed first.values in
    let text : List ℕ = line_of_listing digits (listing_at all list) line in
    let number = lines_of (take (suc list) (first ∷ all)) + line in
    let left : lines_of (take list all) + line ≡ number - length (listing_lines digits first) = omega (arith, one) in
    get_right (listing_lines digits first) (flat_map (listing_lines digits) all) number text (omega (arith, one))
    (subst (λ k. slice_get (flat_map (listing_lines digits) all) k ≡ Some text) left (flat_get digits all list line (omega (arith, here)) within))

pub lines_have_their_numbers : LinesHaveTheirNumbers
lines_have_their_numbers digits tables list line here within =
    let all : List Listing = listings tables in
    let head : List ℕ = counts_line tables.sums (length tables.tables) (length tables.traps) in
    let text : List ℕ = line_of_listing digits (listing_at all list) line in
    let number = line_number tables list line - 1 in
    let left : lines_of (take list all) + line ≡ number - 1 = omega arith in
    get_right (head ∷ []) (flat_map (listing_lines digits) all) number text (omega arith)
    (subst (λ k. slice_get (flat_map (listing_lines digits) all) k ≡ Some text) left (flat_get digits all list line here within))
