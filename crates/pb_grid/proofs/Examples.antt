-- What the definitions give for a few texts.
use Rattle.std.proofs.Common.{◌≡◌, ℕ, true, false, List, [], ◌∷◌, ◌++◌, codes, Some, None, Ok, Err, refl}
use Rattle.pb_lines.specs.ShortNumbers.{short_number_of}
use Rattle.pb_task.specs.declared.parts.Class.TheVariants.{Land, Water}
use Rattle.pb_grid.specs.declared.error.GridError.TheVariants as errors
use Rattle.pb_grid.specs.Lines.{without_empty_last, lines_of, words_of}
use Rattle.pb_grid.specs.Reading.{size_of_map, class_of_byte, cells_of, row_of_map, rows_of_map, below_map, map_reading, scenario_of_words, scenario_reading, grid_of_parts, grid_reading}

lines_with_returns : lines_of (codes "ab" ++ 13 ∷ 10 ∷ 10 ∷ codes "c" ++ 13 ∷ []) ≡ codes "ab" ∷ [] ∷ codes "c" ∷ []
unfolding lines_of without_empty_last
lines_with_returns = refl

last_line_without_bytes : lines_of (codes "ab" ++ 10 ∷ []) ≡ codes "ab" ∷ []
unfolding lines_of without_empty_last
last_line_without_bytes = refl

return_within_a_line : lines_of (codes "a" ++ 13 ∷ 13 ∷ 10 ∷ codes "b") ≡ (codes "a" ++ 13 ∷ []) ∷ codes "b" ∷ []
unfolding lines_of without_empty_last
return_within_a_line = refl

words_with_tabs : words_of (32 ∷ 9 ∷ codes "my" ++ 9 ∷ 9 ∷ codes "map  3 ") ≡ codes "my" ∷ codes "map" ∷ codes "3" ∷ []
unfolding words_of
words_with_tabs = refl

nine_digits : short_number_of (codes "000000003") ≡ Some 3
unfolding short_number_of
nine_digits = refl

ten_digits : short_number_of (codes "0000000003") ≡ None
unfolding short_number_of
ten_digits = refl

no_sign : short_number_of (codes "-1") ≡ None
unfolding short_number_of
no_sign = refl

-- ---- a map of two cells

abbrev map_text : List ℕ → List ℕ
map_text row = codes "type octile" ++ 10 ∷ codes "height 1" ++ 10 ∷ codes "width 2" ++ 10 ∷ codes "map" ++ 10 ∷ row ++ 10 ∷ []

abbrev scenario_text : List ℕ → List ℕ
scenario_text row = codes "version 1" ++ 10 ∷ 10 ∷ row ++ 10 ∷ []

water_is_passable : grid_reading (map_text (codes ".W")) (scenario_text (codes "0 my map 2 1 0 0 1 0 0")) 0 true ≡ Ok (record { width = 2; height = 1; cells = Land ∷ Water ∷ []; swamp = false ∷ false ∷ []; start = (0, 0); goal = (1, 0) })
unfolding grid_reading map_reading scenario_reading grid_of_parts size_of_map rows_of_map row_of_map cells_of class_of_byte below_map scenario_of_words lines_of without_empty_last words_of short_number_of
water_is_passable = refl

swamp_is_marked : grid_reading (map_text (codes "S.")) (scenario_text (codes "0 m 2 1 0 0 1 0 0")) 0 true
    ≡ Ok (record { width = 2; height = 1; cells = Land ∷ Land ∷ []; swamp = true ∷ false ∷ []; start = (0, 0); goal = (1, 0) })
unfolding grid_reading map_reading scenario_reading grid_of_parts size_of_map rows_of_map row_of_map cells_of class_of_byte below_map scenario_of_words lines_of without_empty_last words_of short_number_of
swamp_is_marked = refl

land_without_the_word : grid_reading (map_text (codes "S.")) (scenario_text (codes "0 m 2 1 0 0 1 0 0")) 0 false
    ≡ Ok (record { width = 2; height = 1; cells = Land ∷ Land ∷ []; swamp = false ∷ false ∷ []; start = (0, 0); goal = (1, 0) })
unfolding grid_reading map_reading scenario_reading grid_of_parts size_of_map rows_of_map row_of_map cells_of class_of_byte below_map scenario_of_words lines_of without_empty_last words_of short_number_of
land_without_the_word = refl

blocked_start : grid_reading (map_text (codes "T.")) (scenario_text (codes "0 m 2 1 0 0 1 0 0")) 0 true ≡ Err errors.StartBlocked
unfolding grid_reading map_reading scenario_reading grid_of_parts size_of_map rows_of_map row_of_map cells_of class_of_byte below_map scenario_of_words lines_of without_empty_last words_of short_number_of
blocked_start = refl

short_row : grid_reading (map_text (codes ".")) (scenario_text (codes "0 m 2 1 0 0 1 0 0")) 0 true ≡ Err (errors.Rows 5)
unfolding grid_reading map_reading scenario_reading grid_of_parts size_of_map rows_of_map row_of_map cells_of class_of_byte below_map scenario_of_words lines_of without_empty_last words_of short_number_of
short_row = refl

eight_words : grid_reading (map_text (codes "..")) (scenario_text (codes "m 2 1 0 0 1 0 0")) 0 true ≡ Err (errors.Scenario 3)
unfolding grid_reading map_reading scenario_reading grid_of_parts size_of_map rows_of_map row_of_map cells_of class_of_byte below_map scenario_of_words lines_of without_empty_last words_of short_number_of
eight_words = refl

row_that_is_not_there : grid_reading (map_text (codes "..")) (scenario_text (codes "0 m 2 1 0 0 1 0 0")) 1 true ≡ Err (errors.NoRow 1 1)
unfolding grid_reading map_reading scenario_reading grid_of_parts size_of_map rows_of_map row_of_map cells_of class_of_byte below_map scenario_of_words lines_of without_empty_last words_of short_number_of
row_that_is_not_there = refl
