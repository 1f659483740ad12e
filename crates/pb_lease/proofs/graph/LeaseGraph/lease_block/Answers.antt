use Rattle.std.proofs.Common.{◌≡◌, ◌<◌, min, false, Some, None, ◌∙◌, arith, ap, sym, refl, subst, [], ◌∷◌}
use Rattle.pb_machine.specs.Settings.{weight_of}
use Rattle.pb_machine.specs.declared.event.Event.TheVariants.{Lease}
use Rattle.pb_machine.specs.Blocks.{Blocks}
use Rattle.pb_machine.specs.Legality.{refusal}
use Rattle.pb_abstract.specs.Graph.{blocks_of}
use Rattle.pb_lease.specs.Tables.{blocks}
use Rattle.pb_lease.specs.Events.{Adds}
use Rattle.pb_lease.specs.LeaseValue.{LeaseValue}
use Rattle.pb_lease.specs.Leased.{FitsScopes}
use Rattle.pb_lease.specs.GraphValue.{GraphValue, counts_in}
use Rattle.pb_lease.specs.Choices.{IsChoice}
use Rattle.pb_lease.specs.Steps.{IsLeased, LeasesNext}
use Rattle.pb_lease.proofs.NextEvents.{lease_may}
use Rattle.pb_lease.proofs.Scopes.{distinct}
use Rattle.pb_lease.proofs.GraphBasics.{chosen_known, scope_home}
use Rattle.pb_lease.proofs.GraphKept.{leased_kept}
use Rattle.pb_lease.proofs.MomentSteps.{leased_lent, leases_next}
use Rattle.pb_lease.proofs.GivenOut.{given}
use Rattle.pb_bundles.specs.Homes.{HomeTable}
use Rattle.pb_lease.proofs.Free.{before_lease, fits_on, shows_still, stays_clear}
use Rattle.pb_lease.specs.contracts.graph.LeaseGraph.{the_view}
use Rattle.pb_lease.proofs.graph.LeaseGraph.lease_block.Goals as goal

pub lease-requires-clause-block : goal.lease-requires-clause-block
lease-requires-clause-block c =
    let t : GraphValue = the_view c.self.inside in
    let first = subst (λ (v : GraphValue). IsChoice v (Some c.args.block)) (sym c.self.view_is) c.requires.first in
    chosen_known t c.self.invariant.lawful c.args.block first

pub take_out-parts-requires-clause-home : goal.take_out-parts-requires-clause-home
take_out-parts-requires-clause-home c block there =
    let t : GraphValue = the_view c.self.inside in
    let first = subst (λ (v : GraphValue). IsChoice v (Some c.args.block)) (sym c.self.view_is) c.requires.first in
    let abstraction : blocks_of c.abstraction.result.now ≡ blocks t.table = ap blocks_of (c.abstraction.ensures ∙ c.in_ok-quota.ensures.events.abstraction) in
    scope_home t c.self.invariant.lawful c.args.block block first.0.0 (sym (c.scope.ensures.each block ∙ ap (λ (of : Blocks). of.scope c.args.block block) abstraction) ∙ there)

pub take_out-parts-requires-clause-distinct : goal.take_out-parts-requires-clause-distinct
take_out-parts-requires-clause-distinct c = distinct c.scope.result.now c.scope.ensures.ascending

pub take_out-parts-requires-clause-room : goal.take_out-parts-requires-clause-room
take_out-parts-requires-clause-room c =
    let t : GraphValue = the_view c.self.inside in
    let first = subst (λ (v : GraphValue). IsChoice v (Some c.args.block)) (sym c.self.view_is) c.requires.first in
    let abstraction : blocks_of c.abstraction.result.now ≡ blocks t.table = ap blocks_of (c.abstraction.ensures ∙ c.in_ok-quota.ensures.events.abstraction) in
    let fewer = c.self.invariant.greatest_is c.args.block c.scope.result.now (chosen_known t c.self.invariant.lawful c.args.block first) c.scope.ensures.ascending
    (λ b. c.scope.ensures.each b ∙ ap (λ (of : Blocks). of.scope c.args.block b) abstraction) in
    omega (arith, fewer, c.in_ok-room.ensures.room)

pub invariant_of-self-2 : goal.invariant_of-self-2
invariant_of-self-2 c =
    let t : GraphValue = the_view c.self.inside in
    let first = subst (λ (v : GraphValue). IsChoice v (Some c.args.block)) (sym c.self.view_is) c.requires.first in
    let inside = subst (λ (v : GraphValue). c.args.worker < v.table.settings.workers) (sym c.self.view_is) c.requires.worker in
    let vacant = subst (λ (v : GraphValue). (counts_in v).leases c.args.worker ≡ None) (sym c.self.view_is) c.requires.vacant in
    let stays = subst (λ (v : GraphValue). (counts_in v).signed_off c.args.worker ≡ false) (sym c.self.view_is) c.requires.stays in
    let abstraction : blocks_of c.abstraction.result.now ≡ blocks t.table = ap blocks_of (c.abstraction.ensures ∙ c.in_ok-quota.ensures.events.abstraction) in
    let may : refusal (blocks t.table) t.table.settings (counts_in t) (Lease c.args.worker c.args.block (min t.table.settings.lot t.table.left)) ≡ None =
    lease_may (blocks t.table) t.table.settings (counts_in t) c.args.worker c.args.block (chosen_known t c.self.invariant.lawful c.args.block first) inside stays vacant refl c.self.invariant.lawful.legal.range.lot.0 first.0.0 in
    let shows = shows_still t.table c.lease.new.self (Lease c.args.worker c.args.block (min t.table.settings.lot t.table.left) ∷ []) c.in_ok-quota.ensures.events t.homes.keys c.take_out-parts.new.self.keys c.self.inside.free c.self.invariant.shows
    (ap (λ (h : HomeTable). h.keys) c.take_out-parts.ensures.left) (λ block clear. before_lease (blocks t.table) t.table.settings (counts_in t) block c.args.worker c.args.block (min t.table.settings.lot t.table.left) vacant clear) in
    let kept = leased_kept t c.self.invariant.lawful c.args.worker c.args.block (min t.table.settings.lot t.table.left) c.lease.new.self c.take_out-parts.new.self c.in_ok-quota.ensures.events may inside vacant c.scope.result.now
    (λ b. c.scope.ensures.each b ∙ ap (λ (of : Blocks). of.scope c.args.block b) abstraction) c.take_out-parts.ensures.left c.take_out-parts.ensures.out in
    record { lawful = kept; shows = stays_clear c.lease.new.self c.take_out-parts.new.self.keys c.self.inside.free c.prune.new.free shows c.prune.ensures; greatest_is = fits_on t.table c.lease.new.self (Lease c.args.worker c.args.block (min t.table.settings.lot t.table.left) ∷ []) c.in_ok-quota.ensures.events c.self.inside.greatest c.self.invariant.greatest_is }

pub returns-clause-leased : goal.returns-clause-leased
returns-clause-leased c =
    let t : GraphValue = the_view c.self.inside in
    let first = subst (λ (v : GraphValue). IsChoice v (Some c.args.block)) (sym c.self.view_is) c.requires.first in
    let abstraction : blocks_of c.abstraction.result.now ≡ blocks t.table = ap blocks_of (c.abstraction.ensures ∙ c.in_ok-quota.ensures.events.abstraction) in
    let settings : c.settings-settings.result.now ≡ t.table.settings = c.settings-settings.ensures ∙ c.in_ok-quota.ensures.events.settings in
    let lease : LeaseValue = record {
      worker = c.args.worker;
      block = c.args.block;
      quota = c.in_ok-quota.quota;
      used = 0;
      incumbent = t.incumbent;
      weight = record { num = c.settings-settings.result.now.num; den = c.settings-settings.result.now.den };
      choice = c.in_ok-choice.choice;
      parts = c.take_out-parts.result.parts;
      fits = c.take_out-parts.result.fits;
    } in
    let fits : FitsScopes t.table.abstraction lease.fits = λ b scope known up each. let le = c.self.invariant.greatest_is b scope known up each in omega (arith, le, c.in_ok-room.ensures.room, c.take_out-parts.ensures.fits) in
    let adds : Adds t.table c.lease.new.self (Lease lease.worker lease.block lease.quota ∷ []) = subst (λ q. Adds t.table c.lease.new.self (Lease c.args.worker c.args.block q ∷ [])) (sym c.in_ok-quota.ensures.quota) c.in_ok-quota.ensures.events in
    subst (λ (v : GraphValue). IsLeased v c.args.worker lease (record { task = t.task; choice = t.choice; table = c.lease.new.self; homes = c.take_out-parts.new.self; incumbent = t.incumbent })) c.self.view_is
    (given t c.self.invariant.lawful lease c.lease.new.self c.take_out-parts.new.self c.scope.result.now (λ b. c.scope.ensures.each b ∙ ap (λ (of : Blocks). of.scope c.args.block b) abstraction) first.0.0 fits
    (ap weight_of settings) c.in_ok-choice.ensures.cases adds c.take_out-parts.ensures.taken first c.in_ok-quota.ensures.quota refl refl c.take_out-parts.ensures.left c.take_out-parts.ensures.out c.in_ok-quota.ensures.room)

pub returns-clause-moment : goal.returns-clause-moment
returns-clause-moment c =
    let t : GraphValue = the_view c.self.inside in
    let first = subst (λ (v : GraphValue). IsChoice v (Some c.args.block)) (sym c.self.view_is) c.requires.first in
    let inside = subst (λ (v : GraphValue). c.args.worker < v.table.settings.workers) (sym c.self.view_is) c.requires.worker in
    let vacant = subst (λ (v : GraphValue). (counts_in v).leases c.args.worker ≡ None) (sym c.self.view_is) c.requires.vacant in
    let stays = subst (λ (v : GraphValue). (counts_in v).signed_off c.args.worker ≡ false) (sym c.self.view_is) c.requires.stays in
    let abstraction : blocks_of c.abstraction.result.now ≡ blocks t.table = ap blocks_of (c.abstraction.ensures ∙ c.in_ok-quota.ensures.events.abstraction) in
    let settings : c.settings-settings.result.now ≡ t.table.settings = c.settings-settings.ensures ∙ c.in_ok-quota.ensures.events.settings in
    let lease : LeaseValue = record {
      worker = c.args.worker;
      block = c.args.block;
      quota = c.in_ok-quota.quota;
      used = 0;
      incumbent = t.incumbent;
      weight = record { num = c.settings-settings.result.now.num; den = c.settings-settings.result.now.den };
      choice = c.in_ok-choice.choice;
      parts = c.take_out-parts.result.parts;
      fits = c.take_out-parts.result.fits;
    } in
    let new : GraphValue = record { task = t.task; choice = t.choice; table = c.lease.new.self; homes = c.take_out-parts.new.self; incumbent = t.incumbent } in
    let fits : FitsScopes t.table.abstraction lease.fits = λ b scope known up each. let le = c.self.invariant.greatest_is b scope known up each in omega (arith, le, c.in_ok-room.ensures.room, c.take_out-parts.ensures.fits) in
    let adds : Adds t.table c.lease.new.self (Lease lease.worker lease.block lease.quota ∷ []) = subst (λ q. Adds t.table c.lease.new.self (Lease c.args.worker c.args.block q ∷ [])) (sym c.in_ok-quota.ensures.quota) c.in_ok-quota.ensures.events in
    let leased : IsLeased t lease.worker lease new =
    given t c.self.invariant.lawful lease c.lease.new.self c.take_out-parts.new.self c.scope.result.now (λ b. c.scope.ensures.each b ∙ ap (λ (of : Blocks). of.scope c.args.block b) abstraction) first.0.0 fits
    (ap weight_of settings) c.in_ok-choice.ensures.cases adds c.take_out-parts.ensures.taken first c.in_ok-quota.ensures.quota refl refl c.take_out-parts.ensures.left c.take_out-parts.ensures.out c.in_ok-quota.ensures.room in
    subst (λ (v : GraphValue). LeasesNext v lease new) c.self.view_is (leases_next t c.self.invariant.lawful lease new (leased_lent t lease new leased) inside vacant stays first)
