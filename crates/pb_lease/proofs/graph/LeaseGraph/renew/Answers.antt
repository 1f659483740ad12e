use Rattle.std.proofs.Common.{◌≡◌, ◌≤◌, false, sym, ◌∙◌, subst, true≢false}
use Rattle.pb_bundles.specs.Moves.{NotesKeys}
use Rattle.pb_lease.specs.declared.answer.Renewed.{Renewed}
use Rattle.pb_lease.specs.declared.answer.Renewed.TheVariants.{Kept}
use Rattle.pb_lease.specs.LeaseValue.{LeaseValue}
use Rattle.pb_lease.specs.GraphValue.{GraphValue, IsOfGraph}
use Rattle.pb_lease.specs.Steps.{GoesOn, IsRenewed, RenewsNext, IsReleased, ReleasesNext, ChoosesByRows}
use Rattle.pb_lease.proofs.GraphKept.{places_vacant}
use Rattle.pb_lease.proofs.MomentReturns.{released_next, renewed_next, chosen_by_rows}
use Rattle.pb_lease.proofs.Renewals.{goes_on, is_renewed, stays_out, is_released}
use Rattle.pb_lease.proofs.Free.{noted_kept, shows_noted}
use Rattle.pb_lease.specs.contracts.graph.LeaseGraph.{the_view}
use Rattle.pb_lease.specs.contracts.lease.Lease.{the_view as the_lease}
use Rattle.pb_lease.proofs.graph.LeaseGraph.renew.Goals as goal

kept_same : (a b : LeaseValue) → ◌≡◌ {A = Renewed} (Kept a) (Kept b) → a ≡ b
kept_same a b e = cc

pub note-requires : goal.note-requires
note-requires c block there =
    let t : GraphValue = the_view c.self.inside in
    let lease : LeaseValue = the_lease c.lease.inside in
    let of : IsOfGraph t lease = subst (λ (l : LeaseValue). IsOfGraph t l) (sym c.lease.view_is) (subst (λ (v : GraphValue). IsOfGraph v c.args.lease) (sym c.self.view_is) c.requires) in
    places_vacant t c.self.invariant.lawful lease of block there

pub invariant_of-self : goal.invariant_of-self
invariant_of-self c =
    let t : GraphValue = the_view c.self.inside in
    let k = c.self.invariant.lawful in
    let lease : LeaseValue = the_lease c.lease.inside in
    let of : IsOfGraph t lease = subst (λ (l : LeaseValue). IsOfGraph t l) (sym c.lease.view_is) (subst (λ (v : GraphValue). IsOfGraph v c.args.lease) (sym c.self.view_is) c.requires) in
    record {
      lawful = noted_kept t k c.note.new.self c.note.ensures.bundles c.note.ensures.noted.count;
      shows = shows_noted t k lease of c.note.new.self.keys c.self.inside.free c.note.ensures.noted c.self.invariant.shows;
      greatest_is = c.self.invariant.greatest_is;
    }

pub returns-then-may_go_on-clause-kept : goal.returns-then-may_go_on-clause-kept
returns-then-may_go_on-clause-kept c kept is =
    let t : GraphValue = the_view c.self.inside in
    let lease : LeaseValue = c.args.lease in
    let homes = c.note.new.self in
    let noted = subst (λ (l : LeaseValue). NotesKeys l.parts t.homes.keys homes.keys) c.lease.view_is c.note.ensures.noted in
    let mid : GraphValue = record { task = t.task; choice = t.choice; table = t.table; homes = homes; incumbent = t.incumbent } in
    let new = c.go_on.new.self in
    let goes : GoesOn mid lease mid = c.may_go_on.ensures.0 c.if-may_go_on.true in
    let on : GoesOn t lease new = goes_on t lease homes c.note.ensures.bundles noted c.go_on.result new c.go_on.ensures.rest goes in
    let renewed : IsRenewed t lease c.go_on.result new =
    is_renewed t lease homes c.note.ensures.bundles noted c.go_on.result new c.go_on.ensures.rest c.go_on.ensures.quota c.go_on.ensures.of_graph c.go_on.ensures.events c.go_on.ensures.room in
    subst (λ (k : LeaseValue). GoesOn c.args.self.now c.args.lease new × IsRenewed c.args.self.now c.args.lease k new) (kept_same c.go_on.result kept is)
    (subst (λ (v : GraphValue). GoesOn v lease new × IsRenewed v lease c.go_on.result new) c.self.view_is (on, renewed))

pub returns-then-may_go_on-clause-kept_moment : goal.returns-then-may_go_on-clause-kept_moment
returns-then-may_go_on-clause-kept_moment c kept is =
    let t : GraphValue = the_view c.self.inside in
    let lease : LeaseValue = c.args.lease in
    let of : IsOfGraph t lease = subst (λ (v : GraphValue). IsOfGraph v c.args.lease) (sym c.self.view_is) c.requires in
    let few = subst (λ (l : LeaseValue). l.used ≤ l.quota) c.lease.view_is c.lease.invariant.within in
    let homes = c.note.new.self in
    let noted = subst (λ (l : LeaseValue). NotesKeys l.parts t.homes.keys homes.keys) c.lease.view_is c.note.ensures.noted in
    let mid : GraphValue = record { task = t.task; choice = t.choice; table = t.table; homes = homes; incumbent = t.incumbent } in
    let new = c.go_on.new.self in
    let goes : GoesOn mid lease mid = c.may_go_on.ensures.0 c.if-may_go_on.true in
    let renewed : IsRenewed t lease c.go_on.result new =
    is_renewed t lease homes c.note.ensures.bundles noted c.go_on.result new c.go_on.ensures.rest c.go_on.ensures.quota c.go_on.ensures.of_graph c.go_on.ensures.events c.go_on.ensures.room in
    subst (λ (k : LeaseValue). RenewsNext c.args.self.now c.args.lease k new) (kept_same c.go_on.result kept is)
    (subst (λ (v : GraphValue). RenewsNext v lease c.go_on.result new) c.self.view_is
    (renewed_next t c.self.invariant.lawful lease of few goes.0.0.0 c.go_on.result new renewed))

pub returns-else-may_go_on-clause-given : goal.returns-else-may_go_on-clause-given
returns-else-may_go_on-clause-given c is =
    let t : GraphValue = the_view c.self.inside in
    let lease : LeaseValue = c.args.lease in
    let homes = c.note.new.self in
    let noted = subst (λ (l : LeaseValue). NotesKeys l.parts t.homes.keys homes.keys) c.lease.view_is c.note.ensures.noted in
    let mid : GraphValue = record { task = t.task; choice = t.choice; table = t.table; homes = homes; incumbent = t.incumbent } in
    let new = c.release.new.self in
    let not_on : GoesOn mid lease mid → ⊥ = λ goes. true≢false (sym (c.may_go_on.ensures.1 goes) ∙ c.if-may_go_on.false) in
    let released : IsReleased mid lease false new = c.release.ensures.released in
    subst (λ (v : GraphValue). (GoesOn v lease new → ⊥) × IsReleased v lease false new) c.self.view_is
    (stays_out t lease homes c.note.ensures.bundles noted new released not_on, is_released t lease homes c.note.ensures.bundles noted new released)

pub returns-else-may_go_on-clause-given_moment : goal.returns-else-may_go_on-clause-given_moment
returns-else-may_go_on-clause-given_moment c is =
    let t : GraphValue = the_view c.self.inside in
    let lease : LeaseValue = c.args.lease in
    let of : IsOfGraph t lease = subst (λ (v : GraphValue). IsOfGraph v c.args.lease) (sym c.self.view_is) c.requires in
    let few = subst (λ (l : LeaseValue). l.used ≤ l.quota) c.lease.view_is c.lease.invariant.within in
    let homes = c.note.new.self in
    let noted = subst (λ (l : LeaseValue). NotesKeys l.parts t.homes.keys homes.keys) c.lease.view_is c.note.ensures.noted in
    let mid : GraphValue = record { task = t.task; choice = t.choice; table = t.table; homes = homes; incumbent = t.incumbent } in
    let new = c.release.new.self in
    let released : IsReleased mid lease false new = c.release.ensures.released in
    subst (λ (v : GraphValue). ReleasesNext v lease false new) c.self.view_is
    (released_next t c.self.invariant.lawful lease of few false new (is_released t lease homes c.note.ensures.bundles noted new released))

pub returns-then-may_go_on-clause-first : goal.returns-then-may_go_on-clause-first
returns-then-may_go_on-clause-first c =
    let t : GraphValue = the_view c.self.inside in
    let lease : LeaseValue = c.args.lease in
    let of : IsOfGraph t lease = subst (λ (v : GraphValue). IsOfGraph v c.args.lease) (sym c.self.view_is) c.requires in
    let few = subst (λ (l : LeaseValue). l.used ≤ l.quota) c.lease.view_is c.lease.invariant.within in
    let homes = c.note.new.self in
    let noted = subst (λ (l : LeaseValue). NotesKeys l.parts t.homes.keys homes.keys) c.lease.view_is c.note.ensures.noted in
    let new = c.go_on.new.self in
    let renewed : IsRenewed t lease c.go_on.result new =
    is_renewed t lease homes c.note.ensures.bundles noted c.go_on.result new c.go_on.ensures.rest c.go_on.ensures.quota c.go_on.ensures.of_graph c.go_on.ensures.events c.go_on.ensures.room in
    subst (λ (v : GraphValue). ChoosesByRows v lease new) c.self.view_is (chosen_by_rows t c.self.invariant.lawful lease of few new renewed.noted)

pub returns-else-may_go_on-clause-first : goal.returns-else-may_go_on-clause-first
returns-else-may_go_on-clause-first c =
    let t : GraphValue = the_view c.self.inside in
    let lease : LeaseValue = c.args.lease in
    let of : IsOfGraph t lease = subst (λ (v : GraphValue). IsOfGraph v c.args.lease) (sym c.self.view_is) c.requires in
    let few = subst (λ (l : LeaseValue). l.used ≤ l.quota) c.lease.view_is c.lease.invariant.within in
    let homes = c.note.new.self in
    let noted = subst (λ (l : LeaseValue). NotesKeys l.parts t.homes.keys homes.keys) c.lease.view_is c.note.ensures.noted in
    let mid : GraphValue = record { task = t.task; choice = t.choice; table = t.table; homes = homes; incumbent = t.incumbent } in
    let new = c.release.new.self in
    let released : IsReleased mid lease false new = c.release.ensures.released in
    subst (λ (v : GraphValue). ChoosesByRows v lease new) c.self.view_is (chosen_by_rows t c.self.invariant.lawful lease of few new (is_released t lease homes c.note.ensures.bundles noted new released).noted)

pub go_on-requires-clause-of_graph : goal.go_on-requires-clause-of_graph
go_on-requires-clause-of_graph c =
    let of : IsOfGraph (the_view c.self.inside) c.args.lease = subst (λ (v : GraphValue). IsOfGraph v c.args.lease) (sym c.self.view_is) c.requires in
    record { leased = of.leased; weight = of.weight; choice = of.choice; scope = of.scope; fits = of.fits }

pub release-requires : goal.release-requires
release-requires c =
    let of : IsOfGraph (the_view c.self.inside) c.args.lease = subst (λ (v : GraphValue). IsOfGraph v c.args.lease) (sym c.self.view_is) c.requires in
    record { leased = of.leased; weight = of.weight; choice = of.choice; scope = of.scope; fits = of.fits }
