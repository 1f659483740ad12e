use Rattle.std.specs.Arc.{arc_value}
use Rattle.pb_test_search.proofs.FallingKeeps.{first_run}
use Rattle.pb_test_search.proofs.falling.run_first.Goals as goal

pub returns : goal.returns
returns g c =
    first_run (arc_value c.args.task.now) c.args.settings c.plain.result c.plain.ensures c.search.result c.search.ensures.task c.search.ensures.settings c.search.ensures.choice c.search.ensures.past c.search.ensures.left c.search.ensures.fits
