-- What those who have a lease know of it while other events come.
use Rattle.std.proofs.Common.{◌≡◌, ◌==◌, ℕ, Bool, false, List, [], ◌∷◌, Option, Some, None, refl, sym, ap, subst, ◌∙◌}
use Rattle.pb_machine.specs.declared.event.End.{End}
use Rattle.pb_machine.specs.declared.event.Event.{Event}
use Rattle.pb_machine.specs.declared.event.Event.TheVariants.{Lease, Release}
use Rattle.pb_machine.specs.declared.event.Grant.{Grant}
use Rattle.pb_machine.specs.Settings.{weight_of}
use Rattle.pb_machine.specs.Counts.{Counts, counts_after}
use Rattle.pb_machine.proofs.Callers.{entry_else}
use Rattle.pb_abstract.specs.Graph.{AbstractGraph, blocks_of}
use Rattle.pb_lease.specs.Tables.{blocks}
use Rattle.pb_lease.specs.Events.{Adds, counts_along, ending}
use Rattle.pb_lease.specs.LeaseValue.{LeaseValue}
use Rattle.pb_lease.specs.Leased.{FitsScopes}
use Rattle.pb_lease.specs.GraphValue.{GraphValue, counts_in, IsOfGraph}
use Rattle.pb_lease.specs.Steps.{IsLeased, IsReleased, IsEnded, end_events}
use Rattle.pb_lease.proofs.MomentReturns.{ending_leases}

-- a lease stays one of the graph as long as no event changes its worker's grant
pub stays_of_graph : (old new : GraphValue) (events : List Event) → Adds old.table new.table events → new.choice ≡ old.choice → (lease : LeaseValue)
    → (counts_along (blocks old.table) old.table.settings (counts_in old) events).leases lease.worker ≡ (counts_in old).leases lease.worker → IsOfGraph old lease → IsOfGraph new lease
stays_of_graph old new events adds choice lease same of = record {
  leased = ap (λ (c : Counts). c.leases lease.worker) adds.counts ∙ same ∙ of.leased;
  weight = of.weight ∙ ap weight_of (sym adds.settings);
  choice = of.choice ∙ sym choice;
  scope = record { blocks = λ b. of.scope.blocks b ∙ ap (λ (g : AbstractGraph). (blocks_of g).scope lease.block b) (sym adds.abstraction); weights = of.scope.weights };
  fits = subst (λ (g : AbstractGraph). FitsScopes g lease.fits) (sym adds.abstraction) of.fits;
}

-- another worker's lease changes no lease
pub leased_else : (old : GraphValue) (worker : ℕ) (other : LeaseValue) (new : GraphValue) → IsLeased old worker other new → (lease : LeaseValue) → (lease.worker == worker) ≡ false → IsOfGraph old lease → IsOfGraph new lease
leased_else old worker other new l lease different of =
    stays_of_graph old new (Lease worker other.block other.quota ∷ []) l.events l.choice lease (entry_else (counts_in old).leases worker lease.worker (Some (record { block = other.block; quota = other.quota })) different) of

-- the return of another worker's lease changes no lease
pub released_else : (old : GraphValue) (other : LeaseValue) (memory : Bool) (new : GraphValue) → IsReleased old other memory new → (lease : LeaseValue) → (lease.worker == other.worker) ≡ false → IsOfGraph old lease → IsOfGraph new lease
released_else old other memory new r lease different of =
    stays_of_graph old new (Release other.worker other.used memory ∷ ending memory old.table.end) r.events r.choice lease
    (ap (λ (leases : ℕ → Option Grant). leases lease.worker) (ending_leases (blocks old.table) old.table.settings (counts_after (blocks old.table) old.table.settings (counts_in old) (Release other.worker other.used memory)) memory old.table.end)
    ∙ entry_else (counts_in old).leases other.worker lease.worker None different) of

-- an end changes no lease
pub ended_else : (old : GraphValue) (end : End) (new : GraphValue) → IsEnded old end new → (lease : LeaseValue) → IsOfGraph old lease → IsOfGraph new lease
ended_else old end new e lease of = stays_of_graph old new (end_events old.table.end end) e.events (ap (λ (g : GraphValue). g.choice) e.rest) lease (go old.table.end) of
  where
    go : (standing : Option End) → (counts_along (blocks old.table) old.table.settings (counts_in old) (end_events standing end)).leases lease.worker ≡ (counts_in old).leases lease.worker
    go None = refl
    go (Some standing) = refl
