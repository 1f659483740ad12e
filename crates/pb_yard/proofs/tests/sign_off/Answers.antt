use Rattle.std.proofs.Common.{true, ap, ◌∙◌}
use Rattle.pb_yard.specs.declared.view.View.{View}
use Rattle.pb_yard.specs.Passes.{view_of, worker_of}
use Rattle.pb_yard.proofs.Told.{signed_keeps, signing_off_is_seen}
use Rattle.pb_yard.proofs.tests.sign_off.Goals as goal

pub returns-clause-workers : goal.returns-clause-workers
returns-clause-workers g c = signed_keeps (worker_of c.args.pass) true (view_of c.args.pass) (view_of c.sign_off.new.pass) c.sign_off.ensures.signed_off

pub returns-clause-free : goal.returns-clause-free
returns-clause-free g c = ap (λ (u : View). u.lent) c.sign_off.ensures.signed_off.view ∙ c.requires.ready.0

pub returns-clause-off : goal.returns-clause-off
returns-clause-off g c = signing_off_is_seen (worker_of c.args.pass) true (view_of c.args.pass) (view_of c.sign_off.new.pass) c.args.pass.worker_is c.sign_off.ensures.signed_off
