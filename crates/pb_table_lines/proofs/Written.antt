-- The lines of tables by their numbers.
use Rattle.std.proofs.Common.{◌≡◌, ℕ, zero, suc, ◌+◌, ◌-◌, ◌*◌, ◌<◌, ◌≤◌, Some, List, [], ◌∷◌, ◌++◌, length, take, drop, get_or, slice_get, refl, sym, ap, ◌∙◌, subst, arith, length-append, below_more}
use Rattle.std.specs.List.{flat_map}
use Rattle.std.proofs.lemmas.List.{drop-drop, get_or_append_left, get_or_push}
use Rattle.pb_model.specs.Texts.{line}
use Rattle.pb_print.specs.Saved.{longest_line, PutsLine}
use Rattle.pb_print.proofs.Callers.{puts_left, puts_right}
use Rattle.pb_tables.specs.Tables.{TablesValue}
use Rattle.pb_table_lines.specs.Lines.{Listing, listings, listing_at, image_line, image_lines, list_line, listing_lines, counts_line, tables_lines, lines_of, lines_before}
use Rattle.pb_table_lines.specs.Stated.{AreStarts}
use Rattle.pb_table_lines.proofs.Counted.{images_counted}

-- ---- counting

pub lines_next : (all : List Listing) (list : ℕ) → list < length all → lines_of (take (suc list) all) ≡ lines_of (take list all) + (1 + length (listing_at all list).listed)
lines_next [] list within = absurd (omega (arith, within))
lines_next (first ∷ all) zero within = omega arith
lines_next (first ∷ all) (suc list) within = let next = lines_next all list (omega (arith, within)) in omega (arith, next)

-- the lines before the next list
pub before_next : (tables : TablesValue) (list : ℕ) → list < length (listings tables) → lines_before tables (list + 1) ≡ lines_before tables list + (1 + length (listing_at (listings tables) list).listed)
before_next tables list within =
    let e : list + 1 ≡ suc list = omega arith in
    let next = lines_next (listings tables) list within in
    ap (lines_before tables) e ∙ (omega (arith, next))

all_taken : (all : List Listing) → take (length all) all ≡ all
all_taken [] = refl
all_taken (first ∷ all) = ap (λ (ls : List Listing). first ∷ ls) (all_taken all)

flat_counted : (digits : ℕ) (all : List Listing) → length (flat_map (listing_lines digits) all) ≡ lines_of all
flat_counted digits [] = refl
flat_counted digits (first ∷ all) =
    let one = images_counted digits first.sums first.listed first.values in
    let others = flat_counted digits all in
    let both = length-append (listing_lines digits first) (flat_map (listing_lines digits) all) in
    omega (arith, one, others, both)

-- how many lines there are
pub all_counted : (digits : ℕ) (tables : TablesValue) → length (tables_lines digits tables) ≡ lines_before tables (length (listings tables))
all_counted digits tables =
    let all = flat_counted digits (listings tables) in
    let taken = ap lines_of (all_taken (listings tables)) in
    omega (arith, all, taken)

-- where there is a line behind the first, there is a table or a trap
pub some_list : (all : List Listing) (at : ℕ) → 1 ≤ at → at < 1 + lines_of (take (length all) all) → 1 ≤ length all
some_list [] at some within = absurd (omega (arith, some, within))
some_list (first ∷ all) at some within = omega arith

-- ---- a line that was put

pub image_get : (digits sums : ℕ) (listed values : List ℕ) (place : ℕ) → place < length listed → slice_get (image_lines digits sums listed values) place ≡ Some (image_line digits (get_or listed place 0) (take sums (drop (place * sums) values)))
image_get digits sums [] values place within = absurd (omega (arith, within))
image_get digits sums (image ∷ listed) values zero within = ap (λ k. Some (image_line digits image (take sums (drop k values)))) (none sums)
  where
    none : (n : ℕ) → 0 ≡ 0 * n
    none n = grind arith
image_get digits sums (image ∷ listed) values (suc place) within =
    image_get digits sums listed (drop sums values) place (omega (arith, within))
    ∙ ap (λ (vs : List ℕ). Some (image_line digits (get_or listed place 0) (take sums vs))) (drop-drop (place * sums) sums values ∙ ap (λ k. drop k values) (more place sums))
  where
    more : (n m : ℕ) → m + n * m ≡ suc n * m
    more n m = grind arith

module _ (old new : List ℕ) (digits : ℕ) (listing : Listing) (at : ℕ) where
  pub first_put : (count : ℕ) → at ≡ 0 → count ≡ length listing.listed → new ≡ old ++ line (list_line digits listing.word listing.tracked count) → length new ≤ length old + longest_line → PutsLine old new (listing_lines digits listing) at
  first_put count zeroth many put short =
      let text : List ℕ = list_line digits listing.word listing.tracked (length listing.listed) in
      (text, subst (λ n. slice_get (listing_lines digits listing) n ≡ Some text) (sym zeroth) refl, put ∙ ap (λ k. old ++ line (list_line digits listing.word listing.tracked k)) many, short)

  pub image_put : (place : ℕ) → place ≡ at - 1 → (at ≡ 0 → ⊥) → at ≤ length listing.listed
      → new ≡ old ++ line (image_line digits (get_or listing.listed place 0) (take listing.sums (drop (place * listing.sums) listing.values))) → length new ≤ length old + longest_line → PutsLine old new (listing_lines digits listing) at
  image_put place is some within put short =
      let text : List ℕ = image_line digits (get_or listing.listed place 0) (take listing.sums (drop (place * listing.sums) listing.values)) in
      let next : at ≡ suc place = omega (arith, is, some) in
      (text, subst (λ n. slice_get (listing_lines digits listing) n ≡ Some text) (sym next) (image_get digits listing.sums listing.listed listing.values place (omega (arith, is, some, within))), put, short)

flat_put : (old new : List ℕ) (digits : ℕ) (all : List Listing) (list j : ℕ) → list < length all → PutsLine old new (listing_lines digits (listing_at all list)) j → PutsLine old new (flat_map (listing_lines digits) all) (lines_of (take list all) + j)
flat_put old new digits [] list j within puts = absurd (omega (arith, within))
flat_put old new digits (first ∷ all) zero j within puts =
    let same : j ≡ 0 + j = omega arith in
    subst (λ k. PutsLine old new (flat_map (listing_lines digits) (first ∷ all)) k) same (puts_left old new (listing_lines digits first) (flat_map (listing_lines digits) all) j puts)
flat_put old new digits (first ∷ all) (suc list) j within puts =
    let one = images_counted digits first.sums first.listed first.values in
    puts_right old new (listing_lines digits first) (flat_map (listing_lines digits) all) (lines_of (take (suc list) (first ∷ all)) + j) (lines_of (take list all) + j) (omega (arith, one)) (omega (arith, one))
    (flat_put old new digits all list j (omega (arith, within)) puts)

pub lists_put : (old new : List ℕ) (digits : ℕ) (tables : TablesValue) (list line at : ℕ) → list < length (listings tables) → at ≡ lines_before tables list + line
    → PutsLine old new (listing_lines digits (listing_at (listings tables) list)) line → PutsLine old new (tables_lines digits tables) at
lists_put old new digits tables list line at within is puts =
    let all : List Listing = listings tables in
    let head : List ℕ = counts_line tables.sums (length tables.tables) (length tables.traps) in
    puts_right old new (head ∷ []) (flat_map (listing_lines digits) all) at (lines_of (take list all) + line) (omega (arith, is)) (omega (arith, is)) (flat_put old new digits all list line within puts)

pub counts_put : (old new : List ℕ) (digits : ℕ) (tables : TablesValue) (at : ℕ) → at ≡ 0 → (sums some traps : ℕ) → sums ≡ tables.sums → some ≡ length tables.tables → traps ≡ length tables.traps
    → new ≡ old ++ line (counts_line sums some traps) → length new ≤ length old + longest_line → PutsLine old new (tables_lines digits tables) at
counts_put old new digits tables at zeroth sums some traps sums_is some_is traps_is put short =
    let text : List ℕ = counts_line tables.sums (length tables.tables) (length tables.traps) in
    (text, subst (λ n. slice_get (tables_lines digits tables) n ≡ Some text) (sym zeroth) refl, put ∙ ap (λ k. old ++ line (counts_line k some traps)) sums_is ∙ ap (λ k. old ++ line (counts_line tables.sums k traps)) some_is ∙ ap (λ k. old ++ line (counts_line tables.sums (length tables.tables) k)) traps_is, short)

-- ---- where lists begin

pub each_more : (tables : TablesValue) (starts starts' : List ℕ) (at list : ℕ) → starts' ≡ starts ++ at ∷ [] → length starts ≡ list → ((l : ℕ) → l < list → get_or starts l 0 ≡ lines_before tables l) → at ≡ lines_before tables list
    → (l : ℕ) → l < list + 1 → get_or starts' l 0 ≡ lines_before tables l
each_more tables starts starts' at list is long each at_is =
    below_more _ _ (λ l within. ap (λ (ns : List ℕ). get_or ns l 0) is ∙ get_or_append_left starts (at ∷ []) 0 l (omega (arith, within, long)) ∙ each l within)
    (ap (λ (ns : List ℕ). get_or ns list 0) is ∙ get_or_push starts at 0 list long ∙ at_is)

-- the last of them is how many lines there are
pub last_start : (tables : TablesValue) (starts : List ℕ) → AreStarts tables starts → get_or starts (length starts - 1) 0 ≡ lines_before tables (length (listings tables))
last_start tables starts are =
    let e : length starts - 1 ≡ length (listings tables) = (let l = are.long in omega (arith, l)) in
    ap (λ k. get_or starts k 0) e ∙ are.each (length (listings tables)) (omega arith)

-- how many lines there are, in the place that is as great as how many lists there are
pub count_start : (digits : ℕ) (tables : TablesValue) (starts : List ℕ) (count : ℕ) → AreStarts tables starts → count ≡ length (listings tables) → get_or starts count 0 ≡ length (tables_lines digits tables)
count_start digits tables starts count are is = ap (λ k. get_or starts k 0) is ∙ are.each (length (listings tables)) (omega arith) ∙ sym (all_counted digits tables)

pub first_start : (tables : TablesValue) (starts : List ℕ) (at : ℕ) → AreStarts tables starts → 1 ≤ at → get_or starts 0 0 ≤ at
first_start tables starts at are some = let first = are.each 0 (omega arith) in omega (arith, first, some)

pub two_starts : (tables : TablesValue) (starts : List ℕ) (at : ℕ) → AreStarts tables starts → 1 ≤ at → at < lines_before tables (length (listings tables)) → 2 ≤ length starts
two_starts tables starts at are some within =
    let one = some_list (listings tables) at some within in
    let long = are.long in
    omega (arith, one, long)

module _ (tables : TablesValue) (starts : List ℕ) (at list : ℕ) (are : AreStarts tables starts) (inside : list + 1 < length starts) (from : get_or starts list 0 ≤ at) where
  -- the line of a number in the list that begins before it
  pub line_in : at ≡ lines_before tables list + (at - get_or starts list 0)
  line_in =
      let long = are.long in
      let here = are.each list (omega (arith, long, inside)) in
      omega (arith, here, from)

  -- it is one of the list, if the next begins behind it
  pub within_list : at < get_or starts (list + 1) 0 → at - get_or starts list 0 ≤ length (listing_at (listings tables) list).listed
  within_list to =
      let long = are.long in
      let here = are.each list (omega (arith, long, inside)) in
      let there = are.each (list + 1) (omega (arith, long, inside)) in
      let next = before_next tables list (omega (arith, long, inside)) in
      omega (arith, here, there, next, from, to)
