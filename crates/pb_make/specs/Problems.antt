-- A problem of the blocks world in PDDL: all blocks are on the table, and drawn ones are each
-- wanted on the block before. Each piece ends with a space, before the next piece.
use Rattle.std.specs.Prelude.{ℕ, zero, suc, ◌+◌, ◌-◌, ◌%◌, ◌==◌, List, [], ◌∷◌, ◌++◌, codes, if◌then◌else◌}
use Rattle.std.specs.Fmt.{decimal}
use Rattle.pb_make.specs.Draws.{draws}

abbrev pub block_name : (block : ℕ) → List ℕ
block_name block = codes "b" ++ decimal block

-- a block's name, as the list of objects has it
abbrev pub object : (block : ℕ) → List ℕ
object block = block_name block ++ codes " "

-- the names of so many blocks
abbrev pub objects_from : (block count : ℕ) → List ℕ
objects_from block zero = []
objects_from block (suc count) = object block ++ objects_from (block + 1) count

-- that a block is clear and on the table
abbrev pub facts_of : (block : ℕ) → List ℕ
facts_of block =
    codes "( clear " ++ (block_name block
    ++ (codes " ) ( ontable " ++ (block_name block ++ codes " ) ")))

-- that so many blocks are clear and on the table
abbrev pub facts_from : (block count : ℕ) → List ℕ
facts_from block zero = []
facts_from block (suc count) = facts_of block ++ facts_from (block + 1) count

-- the atom of the goal that a draw makes: the block above this one is wanted on it if the draw is
-- even
abbrev pub goal_atom : (block draw : ℕ) → List ℕ
goal_atom block draw =
    if draw % 2 == 0 then codes "( on " ++ (block_name (block + 1)
    ++ (codes " " ++ (block_name block ++ codes " ) "))) else []

-- the goal's atoms, a draw for each block but the first
abbrev pub goal_from : (block : ℕ) → (draws : List ℕ) → List ℕ
goal_from block [] = []
goal_from block (draw ∷ draws) = goal_atom block draw ++ goal_from (block + 1) draws

abbrev pub problem_text : (seed blocks : ℕ) → List ℕ
problem_text seed blocks =
    codes "( define ( problem made ) ( :domain blocks ) ( :objects "
    ++ (objects_from 0 blocks ++ (codes ") ( :init "
    ++ (facts_from 0 blocks ++ (codes "( handempty ) ) ( :goal ( and "
    ++ (goal_from 0 (draws (blocks - 1) seed) ++ (codes ") ) )" ++ 10 ∷ []))))))
