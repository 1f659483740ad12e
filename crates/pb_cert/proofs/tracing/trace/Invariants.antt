use Rattle.std.proofs.Common.{◌≡◌, ◌<◌, ◌^◌, None}
use Rattle.pb_task.specs.Parts.{space_of}
use Rattle.pb_lists.specs.Store.{rows_at_home, guide_to, store_with}
use Rattle.pb_cert.specs.Traced.{IsFirstGoal, g_at}
use Rattle.pb_cert.proofs.Back.{IsWay}
use Rattle.pb_cert.proofs.tracing.trace.Given as goal

abbrev pub invariant-back : goal.invariant-back
invariant-back g l = record {
  start : l.start ≡ (space_of l.task).start;
  first : IsFirstGoal (space_of l.task) (g.S.Store.rows l.store) l.initial.at (g_at (rows_at_home (g.S.Store.home l.store) (g.S.Store.rows l.store) l.initial.at));
  small : g_at (rows_at_home (g.S.Store.home l.store) (g.S.Store.rows l.store) l.initial.at) < 2 ^ 64;
  way : IsWay (space_of l.task) (guide_to (g.S.Store.home l.store)) (store_with (g.S.Store.rows l.store) (g.S.Store.weight l.store) None) l.initial.at
      (g_at (rows_at_home (g.S.Store.home l.store) (g.S.Store.rows l.store) l.initial.at)) l.at l.actions.items l.cost;
}

abbrev pub decreases-back : goal.decreases-back
decreases-back g l = g_at (rows_at_home (g.S.Store.home l.store) (g.S.Store.rows l.store) l.at)
