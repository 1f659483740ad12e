-- The plan that is claimed after a run.
use Rattle.std.proofs.Common.{◌≡◌, inl, inr, ◌≤◌, ℕ, Bool, true, false, nat_lt, IsTrue, if◌then◌else◌, Option, None, Some, Result, IfOk, sym, subst}
use Rattle.pb_model.specs.declared.row.Row.{Row}
use Rattle.pb_model.specs.Plan.{Plan, IsPlan}
use Rattle.pb_machine.specs.declared.event.End.TheVariants.{Quiet, Budget}
use Rattle.pb_task.specs.declared.parts.TaskParts.{TaskParts}
use Rattle.pb_task.specs.Parts.{space_of, IsTask}
use Rattle.pb_lists.specs.Store.{guide_to, store_with, IsQuietEnd, IsSoundAt}
use Rattle.pb_abstract.specs.Graph.{home_of}
use Rattle.pb_lease.specs.GraphValue.{GraphValue}
use Rattle.pb_lease.specs.Begins.{home_store}
use Rattle.pb_check.specs.Spelling.{PlanFits, PlanFitsIfAny}
use Rattle.pb_cert.specs.Traced.{HasGoal, IsTrace}
use Rattle.pb_cert.proofs.Callers.{can_be_traced, traced_plan}
use Rattle.pb_falling.specs.Falling.{kept_plan}
use Rattle.pb_answer.specs.FallingRuns.{guide_in, KeepsPlan}

kept_fits : (before : Option Plan) (traced : Plan) → PlanFitsIfAny before → PlanFits traced → PlanFits (kept_plan before traced)
kept_fits None traced b t = t
kept_fits (Some before) traced b t = go (nat_lt before.cost traced.cost) where
  go : (test : Bool) → PlanFits (if test then before else traced)
  go true = b
  go false = t

module _ (parts : TaskParts) (g : GraphValue) (end : IsQuietEnd (space_of parts) (guide_in g) (home_store g)) (cost : ℕ) (known : g.incumbent ≡ Some cost) where
  pub traceable : IsSoundAt (space_of parts) (home_of g.task g.table.abstraction) (home_store g).rows (home_store g).weight × HasGoal (space_of parts) (home_store g).rows
  traceable = can_be_traced parts (guide_in g) (home_store g) end cost known

  pub kept_now : IsTask parts → g.table.end ≡ Some Quiet → (before : Option Plan) → PlanFitsIfAny before → (traced : Plan) → IsPlan (space_of parts) traced
      → ((home goal : ℕ) (row : Row) → (home_store g).rows home goal ≡ Some row → IsTrue ((space_of parts).is_goal goal) → traced.cost ≤ row.g)
      → IsTrace (space_of parts) (guide_to (home_of g.task g.table.abstraction)) (store_with (home_store g).rows (home_store g).weight None) traced.actions
      → (kept : Plan) → kept ≡ kept_plan before traced → KeepsPlan parts g before (Some kept)
  kept_now lawful quiet before fits traced a_plan cheapest trace kept is =
      let best = traced_plan parts (guide_in g) (home_store g) end lawful cost known traced a_plan cheapest trace in
      (traced, best, is, subst PlanFits (sym is) (kept_fits before traced fits best.fits), quiet)

-- nothing is kept
pub none_quiet : (parts : TaskParts) (g : GraphValue) (before : Option Plan) → g.table.end ≡ Some Quiet → g.incumbent ≡ None → KeepsPlan parts g before None
none_quiet parts g before quiet none = inr (quiet, none)

pub none_stopped : (parts : TaskParts) (g : GraphValue) (before : Option Plan) → g.table.end ≡ Some Budget → KeepsPlan parts g before None
none_stopped parts g before budget = inl budget

-- the plan that was kept for a task by another name of it
pub kept_of : {E : Type 0} (parts other : TaskParts) (g : GraphValue) (before : Option Plan) → parts ≡ other → (r : Result (Option Plan) E) → IfOk r (KeepsPlan parts g before) → IfOk r (KeepsPlan other g before)
kept_of parts other g before same r kept = subst (λ (p : TaskParts). IfOk r (KeepsPlan p g before)) same kept
