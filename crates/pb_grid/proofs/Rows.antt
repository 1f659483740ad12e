-- The rows of a map and the lines below them, as loops read them.
use Rattle.std.proofs.Common.{◌≡◌, ◌≢◌, ℕ, suc, ◌+◌, ◌-◌, ◌<◌, ◌≤◌, Bool, true, false, ◌&&◌, Option, Some, None, Result, Ok, Err, List, [], ◌∷◌, ◌++◌, length, drop, get_or, refl, sym, ap, ◌∙◌, arith, append_assoc}
use Rattle.std.proofs.lemmas.List.{append-nil, drop_more, drop_all, drop-drop}
use Rattle.pb_task.specs.declared.parts.Class.{Class}
use Rattle.pb_grid.specs.declared.error.GridError.{GridError}
use Rattle.pb_grid.specs.declared.error.GridError.TheVariants as errors
use Rattle.pb_grid.specs.Lines.{lines_of, is_blank_line}
use Rattle.pb_grid.specs.Reading.{◌>>=◌, wanted, must, class_of_byte, cells_of, added_to, row_of_map, rows_of_map, below_map, size_of_map, is_side, map_reading}
use Rattle.pb_grid.proofs.Parting.{no_lines}

-- ---- cells

added-more : (before : List Class) (cell : Class) (read : Result (List Class) GridError) → added_to before (read >>= λ cells. Ok (cell ∷ cells)) ≡ added_to (before ++ cell ∷ []) read
added-more before cell (Ok cells) = ap Ok (sym (append_assoc before (cell ∷ []) cells))
added-more before cell (Err e) = refl

module _ (before : List Class) (line i : ℕ) (row : List ℕ) (total : Result (List Class) GridError) (so_far : added_to before (cells_of line (i + 1) (drop i row)) ≡ total) where
  next : (found : Option Class) → i < length row → found ≡ class_of_byte (get_or row i 0)
      → total ≡ added_to before (wanted (errors.Cell line (i + 1)) found >>= λ cell. cells_of line (i + 1 + 1) (drop (i + 1) row) >>= λ cells. Ok (cell ∷ cells))
  unfolding cells_of
  next found less is =
      sym so_far ∙ ap (λ (bytes : List ℕ). added_to before (cells_of line (i + 1) bytes)) (drop_more row i 0 less)
      ∙ ap (λ (o : Option Class). added_to before (wanted (errors.Cell line (i + 1)) o >>= λ cell. cells_of line (i + 1 + 1) (drop (i + 1) row) >>= λ cells. Ok (cell ∷ cells))) (sym is)

  pub cell_read : (cell : Class) → i < length row → Some cell ≡ class_of_byte (get_or row i 0) → added_to (before ++ cell ∷ []) (cells_of line (i + 1 + 1) (drop (i + 1) row)) ≡ total
  cell_read cell less is = sym (next (Some cell) less is ∙ added-more before cell (cells_of line (i + 1 + 1) (drop (i + 1) row)))

  pub cell_unknown : i < length row → None ≡ class_of_byte (get_or row i 0) → total ≡ Err (errors.Cell line (i + 1))
  cell_unknown less is = next None less is

  pub cells_done : length row ≤ i → total ≡ Ok before
  unfolding cells_of
  cells_done le = sym so_far ∙ ap (λ (bytes : List ℕ). added_to before (cells_of line (i + 1) bytes)) (drop_all i row le) ∙ ap Ok (append-nil before)

-- ---- rows

rows-read : (before more : List Class) (row others : Result (List Class) GridError) → added_to before row ≡ Ok more
    → added_to before (row >>= λ cells. others >>= λ below. Ok (cells ++ below)) ≡ added_to more others
rows-read before more (Ok cells) (Ok below) e = let same : before ++ cells ≡ more = cc in ap Ok (sym (append_assoc before cells below) ∙ ap (λ (m : List Class). m ++ below) same)
rows-read before more (Ok cells) (Err f) e = refl
rows-read before more (Err f) others e = cc

rows-fail : (before : List Class) (error : GridError) (row others : Result (List Class) GridError) → added_to before row ≡ Err error
    → added_to before (row >>= λ cells. others >>= λ below. Ok (cells ++ below)) ≡ Err error
rows-fail before error (Ok cells) others e = cc
rows-fail before error (Err f) others e = e

module _ (before : List Class) (width height y : ℕ) (lines : List (List ℕ)) (total : Result (List Class) GridError) (so_far : added_to before (rows_of_map width (height - y) (5 + y) lines) ≡ total) where
  next_row : (row : List ℕ) (below : List (List ℕ)) → y < height → lines ≡ row ∷ below
      → total ≡ added_to before (row_of_map width (5 + y) row >>= λ cells. rows_of_map width (height - (y + 1)) (5 + (y + 1)) below >>= λ others. Ok (cells ++ others))
  unfolding rows_of_map
  next_row row below less is =
      let k : height - y ≡ suc (height - (y + 1)) = omega arith in
      let l : 5 + y + 1 ≡ 5 + (y + 1) = omega arith in
      sym so_far ∙ ap (λ n. added_to before (rows_of_map width n (5 + y) lines)) k ∙ ap (λ (ls : List (List ℕ)). added_to before (rows_of_map width (suc (height - (y + 1))) (5 + y) ls)) is
      ∙ ap (λ n. added_to before (row_of_map width (5 + y) row >>= λ cells. rows_of_map width (height - (y + 1)) n below >>= λ others. Ok (cells ++ others))) l

  pub row_read : (more : List Class) (row : List ℕ) (below : List (List ℕ)) → y < height → lines ≡ row ∷ below → added_to before (row_of_map width (5 + y) row) ≡ Ok more
      → added_to more (rows_of_map width (height - (y + 1)) (5 + (y + 1)) below) ≡ total
  row_read more row below less is e = sym (next_row row below less is ∙ rows-read before more (row_of_map width (5 + y) row) (rows_of_map width (height - (y + 1)) (5 + (y + 1)) below) e)

  pub row_fails : (error : GridError) (row : List ℕ) (below : List (List ℕ)) → y < height → lines ≡ row ∷ below → (error ≢ errors.Memory → added_to before (row_of_map width (5 + y) row) ≡ Err error)
      → error ≢ errors.Memory → total ≡ Err error
  row_fails error row below less is e some = next_row row below less is ∙ rows-fail before error (row_of_map width (5 + y) row) (rows_of_map width (height - (y + 1)) (5 + (y + 1)) below) (e some)

  pub row_missing : y < height → lines ≡ [] → total ≡ Err (errors.Rows (5 + y))
  unfolding rows_of_map
  row_missing less is =
      let k : height - y ≡ suc (height - (y + 1)) = omega arith in
      sym so_far ∙ ap (λ n. added_to before (rows_of_map width n (5 + y) lines)) k ∙ ap (λ (ls : List (List ℕ)). added_to before (rows_of_map width (suc (height - (y + 1))) (5 + y) ls)) is

  pub rows_done : height ≤ y → total ≡ Ok before
  unfolding rows_of_map
  rows_done le =
      let k : height - y ≡ 0 = omega arith in
      sym so_far ∙ ap (λ n. added_to before (rows_of_map width n (5 + y) lines)) k ∙ ap Ok (append-nil before)

pub rows_first : (width height : ℕ) (lines : List (List ℕ)) → added_to [] (rows_of_map width (height - 0) (5 + 0) lines) ≡ rows_of_map width height 5 lines
rows_first width height lines = let k : height - 0 ≡ height = omega arith in ap (λ n. added_to [] (rows_of_map width n 5 lines)) k ∙ same (rows_of_map width height 5 lines) where
  same : (read : Result (List Class) GridError) → added_to [] read ≡ read
  same (Ok cells) = refl
  same (Err e) = refl

-- the lines behind one more
pub one_line_more : (y : ℕ) (row : List ℕ) (all lines below : List (List ℕ)) → lines ≡ drop y all → lines ≡ row ∷ below → below ≡ drop (y + 1) all
one_line_more y row all lines below is first = sym (ap (drop 1) first) ∙ ap (drop 1) is ∙ drop-drop 1 y all

-- ---- below the rows

pub below_next : (line : ℕ) (below : List ℕ) (lines others : List (List ℕ)) (total : Result Bool GridError) → lines ≡ below ∷ others → is_blank_line below ≡ true → below_map line lines ≡ total → below_map (line + 1) others ≡ total
unfolding below_map
below_next line below lines others total is blank so_far =
    sym (ap (below_map line) is ∙ ap (λ b. must (errors.Rows line) b >>= λ found. below_map (line + 1) others) blank) ∙ so_far

pub below_fault : (line : ℕ) (below : List ℕ) (lines others : List (List ℕ)) (total : Result Bool GridError) → lines ≡ below ∷ others → is_blank_line below ≡ false → below_map line lines ≡ total → total ≡ Err (errors.Rows line)
unfolding below_map
below_fault line below lines others total is blank so_far =
    sym so_far ∙ ap (below_map line) is ∙ ap (λ b. must (errors.Rows line) b >>= λ found. below_map (line + 1) others) blank

pub below_end : (line : ℕ) (text : List ℕ) (total : Result Bool GridError) → text ≡ [] → below_map line (lines_of text) ≡ total → total ≡ Ok true
unfolding below_map
below_end line text total is so_far = sym so_far ∙ ap (λ (t : List ℕ). below_map line (lines_of t)) is ∙ ap (below_map line) no_lines

-- ---- the whole map

pub map_steps : (lines rest below : List (List ℕ)) (height width : ℕ) (cells : List Class) → size_of_map lines ≡ Ok (height, width) → (is_side height && is_side width) ≡ true → rest ≡ drop 4 lines
    → rows_of_map width height 5 rest ≡ Ok cells → below ≡ drop height rest
    → map_reading lines ≡ (below_map (5 + height) below >>= λ blank. Ok (record { width = width; height = height; cells = cells }))
unfolding map_reading
map_steps lines rest below height width cells size sides rest_is rows below_is =
    let p : rows_of_map width height 5 (drop 4 lines) ≡ Ok cells = ap (rows_of_map width height 5) (sym rest_is) ∙ rows in
    let q : drop (4 + height) lines ≡ below = sym (below_is ∙ ap (drop height) rest_is ∙ drop-drop height 4 lines) in
    rw (size, sides, p, q) refl
