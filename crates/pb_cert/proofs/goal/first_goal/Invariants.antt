use Rattle.pb_task.specs.Parts.{space_of}
use Rattle.pb_cert.proofs.Goals.{IsFirstBelow}
use Rattle.pb_cert.proofs.goal.first_goal.Given as goal

abbrev pub invariant-parts : goal.invariant-parts
invariant-parts g l = IsFirstBelow (space_of l.task) (g.S.Store.rows l.store) l.i l.first
