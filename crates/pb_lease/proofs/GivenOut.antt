-- A lease that is given out.
use Rattle.std.proofs.Common.{◌≡◌, ℕ, min, cond, is_some, Some, None, refl, sym, ap, subst, true, ◌∙◌, List, [], ◌∷◌, true≢false}
use Rattle.pb_model.proofs.Callers.{by_cases, equal_self}
use Rattle.pb_machine.specs.declared.event.Event.TheVariants.{Lease}
use Rattle.pb_machine.specs.Settings.{weight_of}
use Rattle.pb_machine.specs.Tables.{with_entry}
use Rattle.pb_machine.specs.Counts.{Counts}
use Rattle.pb_machine.proofs.Callers.{entry_here}
use Rattle.pb_abstract.specs.Graph.{AbstractGraph, blocks_of, has}
use Rattle.pb_lists.specs.Bundle.{Content}
use Rattle.pb_bundles.specs.Parts.{content_in}
use Rattle.pb_bundles.specs.Homes.{HomeTable, content_at}
use Rattle.pb_bundles.specs.Moves.{vacated}
use Rattle.pb_lease.specs.Tables.{Table, blocks, rooms}
use Rattle.pb_lease.specs.Leasing.{can_be_leased}
use Rattle.pb_lease.specs.Events.{Adds}
use Rattle.pb_lease.specs.LeaseValue.{LeaseValue}
use Rattle.pb_lease.specs.Leased.{grant_of, FitsScopes}
use Rattle.pb_lease.specs.GraphValue.{GraphValue, counts_in, IsLeaseGraph, IsOfGraph}
use Rattle.pb_lease.specs.Choices.{IsChoice}
use Rattle.pb_lease.specs.Steps.{IsLeased}
use Rattle.pb_lease.proofs.GraphBasics.{scope_home}

module _ (old : GraphValue) (k : IsLeaseGraph old) (lease : LeaseValue) (table : Table) (homes : HomeTable) (scope : List ℕ) (each : (c : ℕ) → has scope c ≡ (blocks old.table).scope lease.block c)
    (test : can_be_leased (blocks old.table) old.table.settings (counts_in old) lease.block ≡ true) (fits : FitsScopes old.table.abstraction lease.fits) (weight : lease.weight ≡ weight_of old.table.settings) (choice : lease.choice ≡ old.choice) (adds : Adds old.table table (Lease lease.worker lease.block lease.quota ∷ []))
    (taken : (c : ℕ) → content_in lease.parts c ≡ cond (has scope c) (content_at old.homes c) None) where
  abbrev New : GraphValue
  New = record { task = old.task; choice = old.choice; table = table; homes = homes; incumbent = old.incumbent }

  pub moved : (c : ℕ) → content_in lease.parts c ≡ cond ((blocks old.table).scope lease.block c) (content_at old.homes c) None
  moved c = taken c ∙ ap (λ r. cond r (content_at old.homes c) None) (each c)

  has_scope : (c : ℕ) → is_some (content_in lease.parts c) ≡ (blocks old.table).scope lease.block c
  has_scope c = by_cases ((blocks old.table).scope lease.block c)
      (λ e. ap is_some (moved c ∙ ap (λ r. cond r (content_at old.homes c) None) e) ∙ scope_home old k lease.block c test e ∙ sym e)
      (λ e. ap is_some (moved c ∙ ap (λ r. cond r (content_at old.homes c) None) e) ∙ sym e)

  own_weight : (c : ℕ) (content : Content) → content_in lease.parts c ≡ Some content → content.weight ≡ lease.weight
  own_weight c content is = by_cases ((blocks old.table).scope lease.block c)
      (λ e. k.weights c content (sym (moved c ∙ ap (λ r. cond r (content_at old.homes c) None) e) ∙ is) ∙ sym weight)
      (λ e. absurd (true≢false (sym (ap is_some (sym (moved c ∙ ap (λ r. cond r (content_at old.homes c) None) e) ∙ is)))))

  pub of_graph : IsOfGraph New lease
  of_graph = record {
    leased = ap (λ (c : Counts). c.leases lease.worker) adds.counts ∙ entry_here (counts_in old).leases lease.worker lease.worker (Some (grant_of lease)) (equal_self lease.worker);
    weight = weight ∙ ap weight_of (sym adds.settings);
    choice = choice;
    scope = record { blocks = λ c. has_scope c ∙ ap (λ (g : AbstractGraph). (blocks_of g).scope lease.block c) (sym adds.abstraction); weights = own_weight };
    fits = subst (λ (g : AbstractGraph). FitsScopes g lease.fits) (sym adds.abstraction) fits;
  }

  pub given : IsChoice old (Some lease.block) → lease.quota ≡ min old.table.settings.lot old.table.left → lease.used ≡ 0 → lease.incumbent ≡ old.incumbent → homes ≡ record { bundles = vacated scope old.homes.bundles; keys = old.homes.keys }
      → ((c : ℕ) → content_at homes c ≡ cond (has scope c) None (content_at old.homes c)) → rooms table ≡ with_entry (rooms old.table) lease.worker 63 → IsLeased old lease.worker lease New
  given first quota used incumbent left out room = record {
    first = first;
    worker_is = refl;
    quota = quota;
    used = used;
    lent_incumbent = incumbent;
    of_graph = of_graph;
    moved = moved;
    left = λ c. out c ∙ ap (λ r. cond r None (content_at old.homes c)) (each c);
    keys = ap (λ (h : HomeTable). h.keys) left;
    events = adds;
    room = room;
    task = refl;
    choice = refl;
    incumbent = refl;
  }
