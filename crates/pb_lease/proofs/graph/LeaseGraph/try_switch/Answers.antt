use Rattle.std.proofs.Common.{◌≡◌, ◌≤◌, false, refl, sym, subst}
use Rattle.pb_bundles.specs.Moves.{NotesKeys}
use Rattle.pb_lease.specs.declared.answer.SwitchReply.{SwitchReply}
use Rattle.pb_lease.specs.declared.answer.SwitchReply.TheVariants.{Switched, Kept, Given}
use Rattle.pb_lease.specs.LeaseValue.{LeaseValue}
use Rattle.pb_lease.specs.GraphValue.{GraphValue, IsOfGraph}
use Rattle.pb_lease.specs.Steps.{GoesOn, GoesOver, ComesBack, ChoosesAnyByRows, IsRenewed, RenewsNext, IsReleased, ReleasesNext, IsSwitched, SwitchesNext}
use Rattle.pb_lease.proofs.GraphKept.{places_vacant}
use Rattle.pb_lease.proofs.MomentReturns.{released_next, renewed_next, chosen_any_by_rows}
use Rattle.pb_lease.proofs.Renewals.{goes_on, is_renewed, is_released}
use Rattle.pb_lease.proofs.GoingOn.{on_stays, over_stays, over_then, back_then, is_switched}
use Rattle.pb_lease.proofs.Switched.{switched_next}
use Rattle.pb_lease.proofs.Free.{noted_kept, shows_noted}
use Rattle.pb_lease.specs.contracts.graph.LeaseGraph.{the_view}
use Rattle.pb_lease.specs.contracts.lease.Lease.{the_view as the_lease}
use Rattle.pb_lease.proofs.graph.LeaseGraph.try_switch.Goals as goal

kept_same : (a b : LeaseValue) → ◌≡◌ {A = SwitchReply} (Kept a) (Kept b) → a ≡ b
kept_same a b e = cc

switched_same : (a b : LeaseValue) → ◌≡◌ {A = SwitchReply} (Switched a) (Switched b) → a ≡ b
switched_same a b e = cc

kept_differs : (a : LeaseValue) → ◌≡◌ {A = SwitchReply} (Kept a) Given → ⊥
kept_differs a e = cc

switched_differs : (a : LeaseValue) → ◌≡◌ {A = SwitchReply} (Switched a) Given → ⊥
switched_differs a e = cc

pub note-requires : goal.note-requires
note-requires c block there =
    let t : GraphValue = the_view c.self.inside in
    let lease : LeaseValue = the_lease c.lease.inside in
    let of : IsOfGraph t lease = subst (λ (l : LeaseValue). IsOfGraph t l) (sym c.lease.view_is) (subst (λ (v : GraphValue). IsOfGraph v c.args.lease) (sym c.self.view_is) c.requires) in
    places_vacant t c.self.invariant.lawful lease of block there

pub invariant_of-self : goal.invariant_of-self
invariant_of-self c =
    let t : GraphValue = the_view c.self.inside in
    let k = c.self.invariant.lawful in
    let lease : LeaseValue = the_lease c.lease.inside in
    let of : IsOfGraph t lease = subst (λ (l : LeaseValue). IsOfGraph t l) (sym c.lease.view_is) (subst (λ (v : GraphValue). IsOfGraph v c.args.lease) (sym c.self.view_is) c.requires) in
    record {
      lawful = noted_kept t k c.note.new.self c.note.ensures.bundles c.note.ensures.noted.count;
      shows = shows_noted t k lease of c.note.new.self.keys c.self.inside.free c.note.ensures.noted c.self.invariant.shows;
      greatest_is = c.self.invariant.greatest_is;
    }

-- ---- the lease goes on

pub returns-in-On-clause-kept : goal.returns-in-On-clause-kept
returns-in-On-clause-kept c kept is =
    let t : GraphValue = the_view c.self.inside in
    let lease : LeaseValue = c.args.lease in
    let of : IsOfGraph t lease = subst (λ (v : GraphValue). IsOfGraph v c.args.lease) (sym c.self.view_is) c.requires in
    let few = subst (λ (l : LeaseValue). l.used ≤ l.quota) c.lease.view_is c.lease.invariant.within in
    let homes = c.note.new.self in
    let noted = subst (λ (l : LeaseValue). NotesKeys l.parts t.homes.keys homes.keys) c.lease.view_is c.note.ensures.noted in
    let mid : GraphValue = record { task = t.task; choice = t.choice; table = t.table; homes = homes; incumbent = t.incumbent } in
    let new = c.go_on.new.self in
    let goes : GoesOn mid lease mid = c.going.ensures.on c.in-On.is in
    let on : GoesOn t lease new = goes_on t lease homes c.note.ensures.bundles noted c.go_on.result new c.go_on.ensures.rest goes in
    let renewed : IsRenewed t lease c.go_on.result new =
    is_renewed t lease homes c.note.ensures.bundles noted c.go_on.result new c.go_on.ensures.rest c.go_on.ensures.quota c.go_on.ensures.of_graph c.go_on.ensures.events c.go_on.ensures.room in
    subst (λ (l : LeaseValue). GoesOn c.args.self.now lease new × IsRenewed c.args.self.now lease l new) (kept_same c.go_on.result kept is)
    (subst (λ (v : GraphValue). GoesOn v lease new × IsRenewed v lease c.go_on.result new) c.self.view_is (on, renewed))

pub returns-in-On-clause-given : goal.returns-in-On-clause-given
returns-in-On-clause-given c =
    let t : GraphValue = the_view c.self.inside in
    let lease : LeaseValue = c.args.lease in
    let of : IsOfGraph t lease = subst (λ (v : GraphValue). IsOfGraph v c.args.lease) (sym c.self.view_is) c.requires in
    let few = subst (λ (l : LeaseValue). l.used ≤ l.quota) c.lease.view_is c.lease.invariant.within in
    let homes = c.note.new.self in
    let noted = subst (λ (l : LeaseValue). NotesKeys l.parts t.homes.keys homes.keys) c.lease.view_is c.note.ensures.noted in
    let mid : GraphValue = record { task = t.task; choice = t.choice; table = t.table; homes = homes; incumbent = t.incumbent } in
    let new = c.go_on.new.self in
    let goes : GoesOn mid lease mid = c.going.ensures.on c.in-On.is in
    let on : GoesOn t lease new = goes_on t lease homes c.note.ensures.bundles noted c.go_on.result new c.go_on.ensures.rest goes in
    let renewed : IsRenewed t lease c.go_on.result new =
    is_renewed t lease homes c.note.ensures.bundles noted c.go_on.result new c.go_on.ensures.rest c.go_on.ensures.quota c.go_on.ensures.of_graph c.go_on.ensures.events c.go_on.ensures.room in
    (λ is. absurd (kept_differs c.go_on.result is), λ back. absurd (on_stays t lease new on (subst (λ (v : GraphValue). ComesBack v lease new) (sym c.self.view_is) back)))

pub returns-in-On-clause-first : goal.returns-in-On-clause-first
returns-in-On-clause-first c =
    let t : GraphValue = the_view c.self.inside in
    let lease : LeaseValue = c.args.lease in
    let of : IsOfGraph t lease = subst (λ (v : GraphValue). IsOfGraph v c.args.lease) (sym c.self.view_is) c.requires in
    let few = subst (λ (l : LeaseValue). l.used ≤ l.quota) c.lease.view_is c.lease.invariant.within in
    let homes = c.note.new.self in
    let noted = subst (λ (l : LeaseValue). NotesKeys l.parts t.homes.keys homes.keys) c.lease.view_is c.note.ensures.noted in
    let mid : GraphValue = record { task = t.task; choice = t.choice; table = t.table; homes = homes; incumbent = t.incumbent } in
    let new = c.go_on.new.self in
    let goes : GoesOn mid lease mid = c.going.ensures.on c.in-On.is in
    let on : GoesOn t lease new = goes_on t lease homes c.note.ensures.bundles noted c.go_on.result new c.go_on.ensures.rest goes in
    let renewed : IsRenewed t lease c.go_on.result new =
    is_renewed t lease homes c.note.ensures.bundles noted c.go_on.result new c.go_on.ensures.rest c.go_on.ensures.quota c.go_on.ensures.of_graph c.go_on.ensures.events c.go_on.ensures.room in
    subst (λ (v : GraphValue). ChoosesAnyByRows v lease new) c.self.view_is (chosen_any_by_rows t c.self.invariant.lawful lease of few new renewed.noted)

pub returns-in-On-clause-kept_moment : goal.returns-in-On-clause-kept_moment
returns-in-On-clause-kept_moment c kept is =
    let t : GraphValue = the_view c.self.inside in
    let lease : LeaseValue = c.args.lease in
    let of : IsOfGraph t lease = subst (λ (v : GraphValue). IsOfGraph v c.args.lease) (sym c.self.view_is) c.requires in
    let few = subst (λ (l : LeaseValue). l.used ≤ l.quota) c.lease.view_is c.lease.invariant.within in
    let homes = c.note.new.self in
    let noted = subst (λ (l : LeaseValue). NotesKeys l.parts t.homes.keys homes.keys) c.lease.view_is c.note.ensures.noted in
    let mid : GraphValue = record { task = t.task; choice = t.choice; table = t.table; homes = homes; incumbent = t.incumbent } in
    let new = c.go_on.new.self in
    let goes : GoesOn mid lease mid = c.going.ensures.on c.in-On.is in
    let on : GoesOn t lease new = goes_on t lease homes c.note.ensures.bundles noted c.go_on.result new c.go_on.ensures.rest goes in
    let renewed : IsRenewed t lease c.go_on.result new =
    is_renewed t lease homes c.note.ensures.bundles noted c.go_on.result new c.go_on.ensures.rest c.go_on.ensures.quota c.go_on.ensures.of_graph c.go_on.ensures.events c.go_on.ensures.room in
    subst (λ (l : LeaseValue). RenewsNext c.args.self.now lease l new) (kept_same c.go_on.result kept is)
    (subst (λ (v : GraphValue). RenewsNext v lease c.go_on.result new) c.self.view_is (renewed_next t c.self.invariant.lawful lease of few goes.0.0.0 c.go_on.result new renewed))

-- ---- another block

pub returns-in-Over-clause-switched : goal.returns-in-Over-clause-switched
returns-in-Over-clause-switched c next is =
    let t : GraphValue = the_view c.self.inside in
    let lease : LeaseValue = c.args.lease in
    let of : IsOfGraph t lease = subst (λ (v : GraphValue). IsOfGraph v c.args.lease) (sym c.self.view_is) c.requires in
    let few = subst (λ (l : LeaseValue). l.used ≤ l.quota) c.lease.view_is c.lease.invariant.within in
    let homes = c.note.new.self in
    let noted = subst (λ (l : LeaseValue). NotesKeys l.parts t.homes.keys homes.keys) c.lease.view_is c.note.ensures.noted in
    let mid : GraphValue = record { task = t.task; choice = t.choice; table = t.table; homes = homes; incumbent = t.incumbent } in
    let new = c.go_over.new.self in
    let goes : GoesOver mid lease mid c.in-Over.block = c.going.ensures.over c.in-Over.block c.in-Over.is in
    let switched_mid : IsSwitched mid lease c.go_over.result new = c.go_over.ensures.switched in
    let over : GoesOver t lease new c.in-Over.block = over_then t lease homes c.note.ensures.bundles noted new switched_mid.noted c.in-Over.block goes in
    let switched : IsSwitched t lease c.go_over.result new = is_switched t lease homes c.note.ensures.bundles noted new switched_mid.noted c.go_over.result switched_mid in
    subst (λ (l : LeaseValue). GoesOver c.args.self.now lease new l.block × IsSwitched c.args.self.now lease l new) (switched_same c.go_over.result next is)
    (subst (λ (v : GraphValue). GoesOver v lease new c.go_over.result.block × IsSwitched v lease c.go_over.result new) c.self.view_is
    (subst (GoesOver t lease new) (sym c.go_over.ensures.block) over, switched))

pub returns-in-Over-clause-given : goal.returns-in-Over-clause-given
returns-in-Over-clause-given c =
    let t : GraphValue = the_view c.self.inside in
    let lease : LeaseValue = c.args.lease in
    let of : IsOfGraph t lease = subst (λ (v : GraphValue). IsOfGraph v c.args.lease) (sym c.self.view_is) c.requires in
    let few = subst (λ (l : LeaseValue). l.used ≤ l.quota) c.lease.view_is c.lease.invariant.within in
    let homes = c.note.new.self in
    let noted = subst (λ (l : LeaseValue). NotesKeys l.parts t.homes.keys homes.keys) c.lease.view_is c.note.ensures.noted in
    let mid : GraphValue = record { task = t.task; choice = t.choice; table = t.table; homes = homes; incumbent = t.incumbent } in
    let new = c.go_over.new.self in
    let goes : GoesOver mid lease mid c.in-Over.block = c.going.ensures.over c.in-Over.block c.in-Over.is in
    let switched_mid : IsSwitched mid lease c.go_over.result new = c.go_over.ensures.switched in
    let over : GoesOver t lease new c.in-Over.block = over_then t lease homes c.note.ensures.bundles noted new switched_mid.noted c.in-Over.block goes in
    let switched : IsSwitched t lease c.go_over.result new = is_switched t lease homes c.note.ensures.bundles noted new switched_mid.noted c.go_over.result switched_mid in
    (λ is. absurd (switched_differs c.go_over.result is), λ back. absurd (over_stays t lease new c.in-Over.block over (subst (λ (v : GraphValue). ComesBack v lease new) (sym c.self.view_is) back)))

pub returns-in-Over-clause-first : goal.returns-in-Over-clause-first
returns-in-Over-clause-first c =
    let t : GraphValue = the_view c.self.inside in
    let lease : LeaseValue = c.args.lease in
    let of : IsOfGraph t lease = subst (λ (v : GraphValue). IsOfGraph v c.args.lease) (sym c.self.view_is) c.requires in
    let few = subst (λ (l : LeaseValue). l.used ≤ l.quota) c.lease.view_is c.lease.invariant.within in
    let homes = c.note.new.self in
    let noted = subst (λ (l : LeaseValue). NotesKeys l.parts t.homes.keys homes.keys) c.lease.view_is c.note.ensures.noted in
    let mid : GraphValue = record { task = t.task; choice = t.choice; table = t.table; homes = homes; incumbent = t.incumbent } in
    let new = c.go_over.new.self in
    let goes : GoesOver mid lease mid c.in-Over.block = c.going.ensures.over c.in-Over.block c.in-Over.is in
    let switched_mid : IsSwitched mid lease c.go_over.result new = c.go_over.ensures.switched in
    let over : GoesOver t lease new c.in-Over.block = over_then t lease homes c.note.ensures.bundles noted new switched_mid.noted c.in-Over.block goes in
    let switched : IsSwitched t lease c.go_over.result new = is_switched t lease homes c.note.ensures.bundles noted new switched_mid.noted c.go_over.result switched_mid in
    subst (λ (v : GraphValue). ChoosesAnyByRows v lease new) c.self.view_is (chosen_any_by_rows t c.self.invariant.lawful lease of few new switched.noted)

pub returns-in-Over-clause-switched_moment : goal.returns-in-Over-clause-switched_moment
returns-in-Over-clause-switched_moment c next is =
    let t : GraphValue = the_view c.self.inside in
    let lease : LeaseValue = c.args.lease in
    let of : IsOfGraph t lease = subst (λ (v : GraphValue). IsOfGraph v c.args.lease) (sym c.self.view_is) c.requires in
    let few = subst (λ (l : LeaseValue). l.used ≤ l.quota) c.lease.view_is c.lease.invariant.within in
    let homes = c.note.new.self in
    let noted = subst (λ (l : LeaseValue). NotesKeys l.parts t.homes.keys homes.keys) c.lease.view_is c.note.ensures.noted in
    let mid : GraphValue = record { task = t.task; choice = t.choice; table = t.table; homes = homes; incumbent = t.incumbent } in
    let new = c.go_over.new.self in
    let goes : GoesOver mid lease mid c.in-Over.block = c.going.ensures.over c.in-Over.block c.in-Over.is in
    let switched_mid : IsSwitched mid lease c.go_over.result new = c.go_over.ensures.switched in
    let over : GoesOver t lease new c.in-Over.block = over_then t lease homes c.note.ensures.bundles noted new switched_mid.noted c.in-Over.block goes in
    let switched : IsSwitched t lease c.go_over.result new = is_switched t lease homes c.note.ensures.bundles noted new switched_mid.noted c.go_over.result switched_mid in
    subst (λ (l : LeaseValue). SwitchesNext c.args.self.now lease l new) (switched_same c.go_over.result next is)
    (subst (λ (v : GraphValue). SwitchesNext v lease c.go_over.result new) c.self.view_is
    (switched_next t c.self.invariant.lawful lease of few c.go_over.result new switched (subst (GoesOver t lease new) (sym c.go_over.ensures.block) over)))

-- ---- the lease comes back

pub returns-in-Back-clause-given : goal.returns-in-Back-clause-given
returns-in-Back-clause-given c =
    let t : GraphValue = the_view c.self.inside in
    let lease : LeaseValue = c.args.lease in
    let of : IsOfGraph t lease = subst (λ (v : GraphValue). IsOfGraph v c.args.lease) (sym c.self.view_is) c.requires in
    let few = subst (λ (l : LeaseValue). l.used ≤ l.quota) c.lease.view_is c.lease.invariant.within in
    let homes = c.note.new.self in
    let noted = subst (λ (l : LeaseValue). NotesKeys l.parts t.homes.keys homes.keys) c.lease.view_is c.note.ensures.noted in
    let mid : GraphValue = record { task = t.task; choice = t.choice; table = t.table; homes = homes; incumbent = t.incumbent } in
    let new = c.release.new.self in
    let goes : ComesBack mid lease mid = c.going.ensures.back c.in-Back.is in
    let released_mid : IsReleased mid lease false new = c.release.ensures.released in
    let back : ComesBack t lease new = back_then t lease homes c.note.ensures.bundles noted new released_mid.noted goes in
    let released : IsReleased t lease false new = is_released t lease homes c.note.ensures.bundles noted new released_mid in
    (λ is. subst (λ (v : GraphValue). ComesBack v lease new) c.self.view_is back, λ back. refl)

pub returns-in-Back-clause-came_back : goal.returns-in-Back-clause-came_back
returns-in-Back-clause-came_back c is =
    let t : GraphValue = the_view c.self.inside in
    let lease : LeaseValue = c.args.lease in
    let of : IsOfGraph t lease = subst (λ (v : GraphValue). IsOfGraph v c.args.lease) (sym c.self.view_is) c.requires in
    let few = subst (λ (l : LeaseValue). l.used ≤ l.quota) c.lease.view_is c.lease.invariant.within in
    let homes = c.note.new.self in
    let noted = subst (λ (l : LeaseValue). NotesKeys l.parts t.homes.keys homes.keys) c.lease.view_is c.note.ensures.noted in
    let mid : GraphValue = record { task = t.task; choice = t.choice; table = t.table; homes = homes; incumbent = t.incumbent } in
    let new = c.release.new.self in
    let goes : ComesBack mid lease mid = c.going.ensures.back c.in-Back.is in
    let released_mid : IsReleased mid lease false new = c.release.ensures.released in
    let back : ComesBack t lease new = back_then t lease homes c.note.ensures.bundles noted new released_mid.noted goes in
    let released : IsReleased t lease false new = is_released t lease homes c.note.ensures.bundles noted new released_mid in
    subst (λ (v : GraphValue). IsReleased v lease false new) c.self.view_is released

pub returns-in-Back-clause-first : goal.returns-in-Back-clause-first
returns-in-Back-clause-first c =
    let t : GraphValue = the_view c.self.inside in
    let lease : LeaseValue = c.args.lease in
    let of : IsOfGraph t lease = subst (λ (v : GraphValue). IsOfGraph v c.args.lease) (sym c.self.view_is) c.requires in
    let few = subst (λ (l : LeaseValue). l.used ≤ l.quota) c.lease.view_is c.lease.invariant.within in
    let homes = c.note.new.self in
    let noted = subst (λ (l : LeaseValue). NotesKeys l.parts t.homes.keys homes.keys) c.lease.view_is c.note.ensures.noted in
    let mid : GraphValue = record { task = t.task; choice = t.choice; table = t.table; homes = homes; incumbent = t.incumbent } in
    let new = c.release.new.self in
    let goes : ComesBack mid lease mid = c.going.ensures.back c.in-Back.is in
    let released_mid : IsReleased mid lease false new = c.release.ensures.released in
    let back : ComesBack t lease new = back_then t lease homes c.note.ensures.bundles noted new released_mid.noted goes in
    let released : IsReleased t lease false new = is_released t lease homes c.note.ensures.bundles noted new released_mid in
    subst (λ (v : GraphValue). ChoosesAnyByRows v lease new) c.self.view_is (chosen_any_by_rows t c.self.invariant.lawful lease of few new released.noted)

pub returns-in-Back-clause-given_moment : goal.returns-in-Back-clause-given_moment
returns-in-Back-clause-given_moment c is =
    let t : GraphValue = the_view c.self.inside in
    let lease : LeaseValue = c.args.lease in
    let of : IsOfGraph t lease = subst (λ (v : GraphValue). IsOfGraph v c.args.lease) (sym c.self.view_is) c.requires in
    let few = subst (λ (l : LeaseValue). l.used ≤ l.quota) c.lease.view_is c.lease.invariant.within in
    let homes = c.note.new.self in
    let noted = subst (λ (l : LeaseValue). NotesKeys l.parts t.homes.keys homes.keys) c.lease.view_is c.note.ensures.noted in
    let mid : GraphValue = record { task = t.task; choice = t.choice; table = t.table; homes = homes; incumbent = t.incumbent } in
    let new = c.release.new.self in
    let goes : ComesBack mid lease mid = c.going.ensures.back c.in-Back.is in
    let released_mid : IsReleased mid lease false new = c.release.ensures.released in
    let back : ComesBack t lease new = back_then t lease homes c.note.ensures.bundles noted new released_mid.noted goes in
    let released : IsReleased t lease false new = is_released t lease homes c.note.ensures.bundles noted new released_mid in
    subst (λ (v : GraphValue). ReleasesNext v lease false new) c.self.view_is (released_next t c.self.invariant.lawful lease of few false new released)

pub go_on-requires-clause-of_graph : goal.go_on-requires-clause-of_graph
go_on-requires-clause-of_graph c =
    let of : IsOfGraph (the_view c.self.inside) c.args.lease = subst (λ (v : GraphValue). IsOfGraph v c.args.lease) (sym c.self.view_is) c.requires in
    record { leased = of.leased; weight = of.weight; choice = of.choice; scope = of.scope; fits = of.fits }

pub go_over-requires-clause-of_graph : goal.go_over-requires-clause-of_graph
go_over-requires-clause-of_graph c =
    let of : IsOfGraph (the_view c.self.inside) c.args.lease = subst (λ (v : GraphValue). IsOfGraph v c.args.lease) (sym c.self.view_is) c.requires in
    record { leased = of.leased; weight = of.weight; choice = of.choice; scope = of.scope; fits = of.fits }

pub release-requires : goal.release-requires
release-requires c =
    let of : IsOfGraph (the_view c.self.inside) c.args.lease = subst (λ (v : GraphValue). IsOfGraph v c.args.lease) (sym c.self.view_is) c.requires in
    record { leased = of.leased; weight = of.weight; choice = of.choice; scope = of.scope; fits = of.fits }

pub go_over-requires-clause-over : goal.go_over-requires-clause-over
go_over-requires-clause-over c = c.going.ensures.over c.in-Over.block c.in-Over.is
