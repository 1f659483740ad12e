-- Worked rows of the definitions.
use Rattle.std.proofs.Common.{◌≡◌, [], ◌∷◌, ◌++◌, codes, refl}
use Rattle.std.specs.Fmt.{digits}
use Rattle.pb_make.specs.Draws.{draw_from, draws, next_number}
use Rattle.pb_make.specs.Maps.{map_text, scenario_text}
use Rattle.pb_make.specs.Boards.{made_board, tiles_text}
use Rattle.pb_make.specs.Problems.{problem_text}

-- the first two draws of seed 0
the-first-two-draws : draws 2 0 ≡ 335903614 ∷ 436792849 ∷ []
unfolding draw_from next_number
the-first-two-draws = refl

-- the first draw would move the blank left, over the edge
a-move-over-the-edge : made_board 0 1 ≡ 0 ∷ 1 ∷ 2 ∷ 3 ∷ 4 ∷ 5 ∷ 6 ∷ 7 ∷ 8 ∷ []
unfolding draw_from next_number
a-move-over-the-edge = refl

-- the second moves it down
a-move-down : made_board 0 2 ≡ 3 ∷ 1 ∷ 2 ∷ 0 ∷ 4 ∷ 5 ∷ 6 ∷ 7 ∷ 8 ∷ []
unfolding draw_from next_number
a-move-down = refl

its-text : tiles_text 0 2 ≡ codes "3 3" ++ 10 ∷ codes "3 1 2" ++ 10 ∷ codes "0 4 5" ++ 10 ∷ codes "6 7 8" ++ 10 ∷ []
unfolding draw_from next_number digits
its-text = refl

a-map-of-one-cell : map_text 0 1 ≡ codes "type octile" ++ 10 ∷ codes "height 1" ++ 10 ∷ codes "width 1" ++ 10 ∷ codes "map" ++ 10 ∷ codes "." ++ 10 ∷ []
unfolding draw_from next_number digits
a-map-of-one-cell = refl

its-scenario : scenario_text 1 ≡ codes "version 1" ++ 10 ∷ codes "0" ++ 9 ∷ codes "made" ++ 9 ∷ codes "1" ++ 9 ∷ codes "1" ++ 9 ∷ codes "0" ++ 9 ∷ codes "0" ++ 9 ∷ codes "0" ++ 9 ∷ codes "0" ++ 9 ∷ codes "0" ++ 10 ∷ []
unfolding digits
its-scenario = refl

-- the second draw is odd, so the goal is one atom
a-goal-of-one-atom : problem_text 0 3
    ≡ codes "( define ( problem made ) ( :domain blocks ) ( :objects b0 b1 b2 ) ( :init ( clear b0 ) ( ontable b0 ) ( clear b1 ) ( ontable b1 ) ( clear b2 ) ( ontable b2 ) ( handempty ) ) ( :goal ( and ( on b1 b0 ) ) ) )" ++ 10 ∷ []
unfolding draw_from next_number digits
a-goal-of-one-atom = refl
