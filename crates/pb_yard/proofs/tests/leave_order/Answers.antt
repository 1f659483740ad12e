use Rattle.pb_yard.specs.Passes.{view_of}
use Rattle.pb_yard.proofs.Told.{left_is_out}
use Rattle.pb_yard.proofs.tests.leave_order.Goals as goal

pub return_early-seen-requires-clause-left : goal.return_early-seen-requires-clause-left
return_early-seen-requires-clause-left g c = left_is_out (view_of c.split-second.new.pass) (view_of c.leave_order.new.pass) c.leave_order.ensures.left
