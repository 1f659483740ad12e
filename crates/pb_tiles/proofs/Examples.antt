-- What the definitions give for a few texts.
use Rattle.std.proofs.Common.{◌≡◌, true, ◌++◌, [], ◌∷◌, codes, Ok, Err, refl}
use Rattle.pb_lines.specs.ShortNumbers.{short_number_of}
use Rattle.pb_tiles.specs.declared.error.TilesError.TheVariants.{Syntax, Size, Count, Number, Twice}
use Rattle.pb_tiles.specs.Reading.{numbers_reading, tiles_reading}
use Rattle.pb_tiles.specs.Cases.{EndsBlank, line_feeds}

-- ---- where a word stands

third_line : line_feeds (codes "2 2" ++ 10 ∷ 13 ∷ 10 ∷ []) ≡ 2
third_line = refl

ends_with_a_tab : EndsBlank (codes "2" ++ 9 ∷ [])
ends_with_a_tab = refl

-- ---- texts

usual_goal : tiles_reading (codes "2 2" ++ 10 ∷ codes "1 0 2 3") ≡ Ok (record { rows = 2; cols = 2; start = 1 ∷ 0 ∷ 2 ∷ 3 ∷ []; goal = 0 ∷ 1 ∷ 2 ∷ 3 ∷ [] })
unfolding short_number_of
usual_goal = refl

goal_after_one_number : tiles_reading (codes "2" ++ 10 ∷ codes "goal 2") ≡ Err (Syntax 2)
unfolding short_number_of
goal_after_one_number = refl

goal_twice : tiles_reading (codes "2 2 goal" ++ 10 ∷ 10 ∷ codes "1 goal") ≡ Err (Syntax 3)
unfolding short_number_of
goal_twice = refl

one_number : tiles_reading (codes " 2 ") ≡ Err (Count 1 2)
unfolding short_number_of
one_number = refl

five_columns : tiles_reading (codes "2 5") ≡ Err Size
unfolding short_number_of
five_columns = refl

start_lacks_a_number : tiles_reading (codes "2 2 9 9 9 goal") ≡ Err (Count 3 4)
unfolding short_number_of
start_lacks_a_number = refl

goal_lacks_a_number : tiles_reading (codes "2 2 9 9 9 9 goal 1 2 3") ≡ Err (Count 3 4)
unfolding short_number_of
goal_lacks_a_number = refl

too_great_in_the_goal : numbers_reading (2 ∷ 2 ∷ 0 ∷ 1 ∷ 2 ∷ 3 ∷ []) true (0 ∷ 1 ∷ 4 ∷ 1 ∷ []) ≡ Err (Number 8)
too_great_in_the_goal = refl

twice_in_the_start : numbers_reading (2 ∷ 2 ∷ 0 ∷ 1 ∷ 1 ∷ 7 ∷ []) true (9 ∷ 9 ∷ 9 ∷ 9 ∷ []) ≡ Err (Twice 1)
twice_in_the_start = refl
