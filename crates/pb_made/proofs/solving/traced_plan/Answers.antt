use Rattle.std.proofs.Common.{None, sym, subst}
use Rattle.pb_task.specs.declared.parts.TaskParts.{TaskParts}
use Rattle.pb_task.specs.Parts.{space_of}
use Rattle.pb_lists.specs.Store.{guide_to, store_with, IsSoundAt}
use Rattle.pb_abstract.specs.Graph.{home_of}
use Rattle.pb_estimate.specs.Choices.{Plain}
use Rattle.pb_search.specs.Ends.{searched_guide}
use Rattle.pb_workers.specs.Ends.{home_store}
use Rattle.pb_search.proofs.Callers.{quiet_end}
use Rattle.pb_cert.specs.Traced.{IsTrace}
use Rattle.pb_cert.proofs.Callers.{can_be_traced, traced_plan}
use Rattle.pb_made.proofs.solving.traced_plan.Goals as goal

pub trace-requires-clause-sound : goal.trace-requires-clause-sound
trace-requires-clause-sound c =
    subst (λ (t : TaskParts).
    IsSoundAt (space_of c.args.task.now) (home_of t c.args.graph.now.table.abstraction)
    (home_store c.args.graph.now).rows (home_store c.args.graph.now).weight)
    (sym c.requires.quiet.best.task)
    (can_be_traced c.args.task.now (searched_guide c.args.task.now c.args.graph.now.table.abstraction Plain)
    (home_store c.args.graph.now)
    (quiet_end c.args.task.now Plain c.args.graph.now.table.settings c.args.graph.now c.requires.quiet)
    c.requires.known.0 c.requires.known.1).0

pub trace-requires-clause-goal : goal.trace-requires-clause-goal
trace-requires-clause-goal c =
    (can_be_traced c.args.task.now (searched_guide c.args.task.now c.args.graph.now.table.abstraction Plain)
    (home_store c.args.graph.now)
    (quiet_end c.args.task.now Plain c.args.graph.now.table.settings c.args.graph.now c.requires.quiet)
    c.requires.known.0 c.requires.known.1).1

pub returns : goal.returns
returns c =
    traced_plan c.args.task.now (searched_guide c.args.task.now c.args.graph.now.table.abstraction Plain)
    (home_store c.args.graph.now)
    (quiet_end c.args.task.now Plain c.args.graph.now.table.settings c.args.graph.now c.requires.quiet)
    c.max_degree-lawful.ensures.lawful c.requires.known.0 c.requires.known.1 c.in_ok-plan.plan
    c.in_ok-plan.ensures.plan c.in_ok-plan.ensures.cheapest
    (subst (λ (t : TaskParts).
    IsTrace (space_of c.args.task.now) (guide_to (home_of t c.args.graph.now.table.abstraction))
    (store_with (home_store c.args.graph.now).rows (home_store c.args.graph.now).weight None)
    c.in_ok-plan.plan.actions)
    c.requires.quiet.best.task c.in_ok-plan.ensures.traced)
