use Rattle.std.proofs.Common.{◌≡◌, ◌+◌, ◌-◌, min, Option, sym, ap, ◌∙◌, refl, subst, [], ◌∷◌}
use Rattle.pb_machine.specs.declared.event.Event.TheVariants.{Renew}
use Rattle.pb_machine.specs.declared.event.Grant.{Grant}
use Rattle.pb_machine.specs.Counts.{is_lease_of, quota_of}
use Rattle.pb_machine.specs.Choice.{counts_with_lease_home}
use Rattle.pb_lease.specs.Leasing.{can_be_leased}
use Rattle.pb_lease.specs.Events.{Adds}
use Rattle.pb_lease.specs.LeaseValue.{LeaseValue}
use Rattle.pb_lease.specs.GraphValue.{GraphValue, counts_in, IsOfGraph}
use Rattle.pb_lease.specs.Steps.{GoesOn, renewed_quota}
use Rattle.pb_lease.proofs.GraphKept.{renewed_kept, still_of_graph}
use Rattle.pb_lease.proofs.MomentReturns.{renewal_is_legal}
use Rattle.pb_lease.specs.Tables.{blocks}
use Rattle.pb_lease.proofs.Free.{before_renewal, fits_on, shows_still}
use Rattle.pb_lease.specs.contracts.graph.LeaseGraph.{the_view}
use Rattle.pb_lease.specs.contracts.lease.Lease.{the_view as the_lease}
use Rattle.pb_lease.proofs.graph.LeaseGraph.go_on.Goals as goal

pub renew-quota-requires-clause-free : goal.renew-quota-requires-clause-free
renew-quota-requires-clause-free c =
    let t : GraphValue = the_view c.self.inside in
    let lease : LeaseValue = the_lease c.lease.inside in
    let of : IsOfGraph t lease = subst (λ (l : LeaseValue). IsOfGraph t l) (sym c.lease.view_is) (subst (λ (v : GraphValue). IsOfGraph v c.args.lease) (sym c.self.view_is) c.requires.of_graph) in
    let first : GoesOn t lease t = subst (λ (l : LeaseValue). GoesOn t l t) (sym c.lease.view_is) (subst (λ (v : GraphValue). GoesOn v c.args.lease v) (sym c.self.view_is) c.requires.first) in
    ap (is_lease_of (can_be_leased (blocks t.table) t.table.settings (counts_with_lease_home (counts_in t) lease.worker lease.used))) of.leased ∙ first.0.0.0

pub invariant_of-self : goal.invariant_of-self
invariant_of-self c =
    let t : GraphValue = the_view c.self.inside in
    let lease : LeaseValue = the_lease c.lease.inside in
    let of : IsOfGraph t lease = subst (λ (l : LeaseValue). IsOfGraph t l) (sym c.lease.view_is) (subst (λ (v : GraphValue). IsOfGraph v c.args.lease) (sym c.self.view_is) c.requires.of_graph) in
    let first : GoesOn t lease t = subst (λ (l : LeaseValue). GoesOn t l t) (sym c.lease.view_is) (subst (λ (v : GraphValue). GoesOn v c.args.lease v) (sym c.self.view_is) c.requires.first) in
    let adds : Adds t.table c.renew-quota.new.self (Renew lease.worker lease.used (renewed_quota t lease) ∷ []) =
    subst (λ (o : Option Grant). Adds t.table c.renew-quota.new.self (Renew lease.worker lease.used (min t.table.settings.lot (t.table.left + (quota_of o - lease.used))) ∷ [])) of.leased c.renew-quota.ensures.events in
    let kept = renewed_kept t c.self.invariant.lawful lease of (renewed_quota t lease) c.renew-quota.new.self adds (renewal_is_legal t c.self.invariant.lawful lease of c.lease.invariant.within first.0.0.0) c.least-incumbent.result in
    record {
      lawful = kept;
      shows = shows_still t.table c.renew-quota.new.self (Renew lease.worker lease.used (renewed_quota t lease) ∷ []) adds t.homes.keys t.homes.keys c.self.inside.free c.self.invariant.shows refl
          (λ block clear. before_renewal (blocks t.table) t.table.settings (counts_in t) block lease.worker lease.used (renewed_quota t lease) clear);
      greatest_is = fits_on t.table c.renew-quota.new.self (Renew lease.worker lease.used (renewed_quota t lease) ∷ []) adds c.self.inside.greatest c.self.invariant.greatest_is;
    }

pub returns-clause-of_graph : goal.returns-clause-of_graph
returns-clause-of_graph c =
    let t : GraphValue = the_view c.self.inside in
    let lease : LeaseValue = the_lease c.lease.inside in
    let of : IsOfGraph t lease = subst (λ (l : LeaseValue). IsOfGraph t l) (sym c.lease.view_is) (subst (λ (v : GraphValue). IsOfGraph v c.args.lease) (sym c.self.view_is) c.requires.of_graph) in
    let adds : Adds t.table c.renew-quota.new.self (Renew lease.worker lease.used (renewed_quota t lease) ∷ []) =
    subst (λ (o : Option Grant). Adds t.table c.renew-quota.new.self (Renew lease.worker lease.used (min t.table.settings.lot (t.table.left + (quota_of o - lease.used))) ∷ [])) of.leased c.renew-quota.ensures.events in
    let quota : c.renew-quota.result ≡ renewed_quota t lease = c.renew-quota.ensures.quota ∙ ap (λ (o : Option Grant). min t.table.settings.lot (t.table.left + (quota_of o - lease.used))) of.leased in
    let kept : LeaseValue = record lease { quota = c.renew-quota.result; used = 0; incumbent = c.least-incumbent.result } in
    still_of_graph t c.self.invariant.lawful lease of (renewed_quota t lease) c.renew-quota.new.self adds kept refl (ap (λ n. record { block = lease.block; quota = n }) quota) refl refl refl refl refl t.homes c.least-incumbent.result
