use Rattle.std.specs.Arc.{arc_value}
use Rattle.pb_test_search.proofs.FallingKeeps.{begins, still_fits, next_run}
use Rattle.pb_test_search.proofs.falling.run_next.Goals as goal

pub search_on-requires-clause-begin : goal.search_on-requires-clause-begin
search_on-requires-clause-begin g c κs within =
    begins (arc_value c.args.task.now) c.requires.after.0 c.args.graph c.requires.after.2 (record { num = c.args.num; den = 1 })
    c.in-Ok.again c.in-Ok.ensures.reopened c.in-Ok.ensures.begin

pub search_on-requires-clause-fits : goal.search_on-requires-clause-fits
search_on-requires-clause-fits g c κs within =
    still_fits (arc_value c.args.task.now) c.requires.after.0 c.args.graph c.requires.after.2 (record { num = c.args.num; den = 1 })
    c.in-Ok.again c.in-Ok.ensures.reopened c.in-Ok.ensures.begin

pub returns-in-Ok : goal.returns-in-Ok
returns-in-Ok g c reopenings after =
    next_run (arc_value c.args.task.now) reopenings c.args.graph after (record { num = c.args.num; den = 1 })
    c.in-Ok.again c.in-Ok.ensures.reopened c.in-Ok.ensures.begin
    c.in_ok-search_on-in-Ok.field-0 c.in_ok-search_on-in-Ok.ensures.of_run c.in_ok-search_on-in-Ok.ensures.left c.in_ok-search_on-in-Ok.ensures.fits
