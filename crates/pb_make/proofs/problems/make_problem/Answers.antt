use Rattle.std.proofs.Common.{◌-◌, ◌++◌, [], ◌∷◌, codes}
use Rattle.pb_make.specs.Draws.{draws}
use Rattle.pb_make.specs.Problems.{objects_from, facts_from, goal_from}
use Rattle.pb_make.proofs.Rows.{seven-pieces}
use Rattle.pb_make.proofs.problems.make_problem.Goals as goal

pub returns : goal.returns
returns c =
    rw (
      c.in_ok-extend_from_slice-4.ensures.items,
      c.in_ok-push_goal.ensures,
      c.in_ok-extend_from_slice-3.ensures.items,
      c.in_ok-push_facts.ensures,
      c.in_ok-extend_from_slice-2.ensures.items,
      c.in_ok-push_objects.ensures,
      c.in_ok-extend_from_slice.ensures.items,
      c.new-text.ensures.items,
    )
    (seven-pieces (codes "( define ( problem made ) ( :domain blocks ) ( :objects ") (objects_from 0 c.args.blocks) (codes ") ( :init ")
    (facts_from 0 c.args.blocks) (codes "( handempty ) ) ( :goal ( and ") (goal_from 0 (draws (c.args.blocks - 1) c.args.seed)) (codes ") ) )" ++ 10 ∷ []))
