use Rattle.std.proofs.Common.{◌≡◌, ◌<◌, true, false, ◌||◌, is_some, None, sym, ◌∙◌, refl, subst, ◌∷◌}
use Rattle.pb_machine.specs.declared.event.Event.TheVariants.{Off}
use Rattle.pb_lease.specs.Tables.{blocks}
use Rattle.pb_lease.specs.Events.{ending}
use Rattle.pb_lease.specs.GraphValue.{GraphValue, counts_in}
use Rattle.pb_lease.specs.Steps.{KeepsLeases}
use Rattle.pb_lease.proofs.NextEvents.{sign_off_may}
use Rattle.pb_lease.proofs.GraphKept.{sign_off_kept}
use Rattle.pb_lease.proofs.MomentNumbers.{signed_off_next}
use Rattle.pb_machine.specs.Counts.{counts_after}
use Rattle.pb_lease.proofs.Free.{ending_clear, fits_on, shows_still}
use Rattle.pb_lease.specs.contracts.graph.LeaseGraph.{the_view}
use Rattle.pb_lease.proofs.graph.LeaseGraph.sign_off.Goals as goal

pub invariant_of-self : goal.invariant_of-self
invariant_of-self c =
    let t : GraphValue = the_view c.self.inside in
    let inside = subst (λ (v : GraphValue). c.args.worker < v.table.settings.workers) (sym c.self.view_is) c.requires.worker in
    let vacant = subst (λ (v : GraphValue). (counts_in v).leases c.args.worker ≡ None) (sym c.self.view_is) c.requires.vacant in
    let stays = subst (λ (v : GraphValue). (counts_in v).signed_off c.args.worker ≡ false) (sym c.self.view_is) c.requires.stays in
    let cause = subst (λ (v : GraphValue). (c.args.memory || is_some v.table.end) ≡ true) (sym c.self.view_is) c.requires.cause in
    let may = sign_off_may (blocks t.table) t.table.settings (counts_in t) c.args.worker c.args.memory inside stays vacant refl cause in
    record {
      lawful = sign_off_kept t c.self.invariant.lawful c.sign_off.new.self c.args.worker c.args.memory c.sign_off.ensures.events may;
      shows = shows_still t.table c.sign_off.new.self (Off c.args.worker c.args.memory ∷ ending c.args.memory t.table.end) c.sign_off.ensures.events t.homes.keys t.homes.keys c.self.inside.free c.self.invariant.shows refl
          (λ block clear. sym (ending_clear (blocks t.table) t.table.settings (counts_after (blocks t.table) t.table.settings (counts_in t) (Off c.args.worker c.args.memory)) c.args.memory t.table.end block) ∙ clear);
      greatest_is = fits_on t.table c.sign_off.new.self (Off c.args.worker c.args.memory ∷ ending c.args.memory t.table.end) c.sign_off.ensures.events c.self.inside.greatest c.self.invariant.greatest_is;
    }

pub returns-clause-moment : goal.returns-clause-moment
returns-clause-moment c =
    let t : GraphValue = the_view c.self.inside in
    let inside = subst (λ (v : GraphValue). c.args.worker < v.table.settings.workers) (sym c.self.view_is) c.requires.worker in
    let vacant = subst (λ (v : GraphValue). (counts_in v).leases c.args.worker ≡ None) (sym c.self.view_is) c.requires.vacant in
    let stays = subst (λ (v : GraphValue). (counts_in v).signed_off c.args.worker ≡ false) (sym c.self.view_is) c.requires.stays in
    let cause = subst (λ (v : GraphValue). (c.args.memory || is_some v.table.end) ≡ true) (sym c.self.view_is) c.requires.cause in
    let may = sign_off_may (blocks t.table) t.table.settings (counts_in t) c.args.worker c.args.memory inside stays vacant refl cause in
    let new : GraphValue = record { task = t.task; choice = t.choice; table = c.sign_off.new.self; homes = t.homes; incumbent = t.incumbent } in
    subst (λ (v : GraphValue). KeepsLeases v (Off c.args.worker c.args.memory ∷ ending c.args.memory v.table.end) new) c.self.view_is
    (signed_off_next t c.self.invariant.lawful c.args.worker c.args.memory new c.sign_off.ensures.events refl may)
