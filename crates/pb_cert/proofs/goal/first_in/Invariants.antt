use Rattle.pb_task.specs.Parts.{space_of}
use Rattle.pb_cert.proofs.Goals.{IsFirstSoFar}
use Rattle.pb_cert.proofs.goal.first_in.Given as goal

abbrev pub invariant-rows : goal.invariant-rows
invariant-rows l = IsFirstSoFar (space_of l.task) l.bundle.entries l.fn.so_far l.i l.first
