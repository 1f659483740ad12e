use Rattle.std.proofs.Common.{◌≡◌, false, true, None, ◌∙◌, arith, ap, subst, sym, ◌<◌, ◌||◌, ◌++◌, ◌∷◌, is_some, length, List}
use Rattle.pb_machine.specs.declared.event.Event.{Event}
use Rattle.pb_machine.specs.declared.event.Event.TheVariants.{Off}
use Rattle.pb_lease.specs.Tables.{Table, counts_of}
use Rattle.pb_lease.specs.Events.{ending}
use Rattle.pb_lease.proofs.SeatLists.{seat_is}
use Rattle.pb_lease.proofs.NextEvents.{adds_as}
use Rattle.pb_lease.proofs.EndKept.{off_kept, off_adds}
use Rattle.pb_lease.specs.contracts.tables.MachineTables.{the_view}
use Rattle.pb_lease.proofs.tables.MachineTables.sign_off.Goals as goal

pub invariant_of-self : goal.invariant_of-self
invariant_of-self c =
    let t : Table = the_view c.self.inside in
    let inside : c.args.worker < t.settings.workers = subst (λ (v : Table). c.args.worker < v.settings.workers) (sym c.self.view_is) c.requires.worker in
    let there : c.args.worker < length t.seats = omega (arith, inside, c.self.invariant.seats) in
    let vacant = subst (λ (v : Table). (counts_of v).leases c.args.worker ≡ None) (sym c.self.view_is) c.requires.vacant in
    let stays = subst (λ (v : Table). (counts_of v).signed_off c.args.worker ≡ false) (sym c.self.view_is) c.requires.stays in
    let cause = subst (λ (v : Table). (c.args.memory || is_some v.end) ≡ true) (sym c.self.view_is) c.requires.cause in
    let was = c.index-seat.result.now in
    let is = seat_is t.seats c.args.worker was there c.index-seat.ensures in
    let journal = c.end_by_report.ensures.journal ∙ ap (λ (j : List Event). j ++ ending c.args.memory t.end) c.push_reserved.ensures.items in
    off_kept t c.self.inside.busy.items c.self.inside.marks.near.items c.self.inside.promised _ c.self.invariant c.args.worker was is c.args.memory c.end_by_report.new.end c.end_by_report.ensures.end c.end_by_report.new.journal.items there
    c.end_by_report.result _ c.end_by_report.ensures.count inside vacant stays cause journal (omega arith)

pub returns-clause-events : goal.returns-clause-events
returns-clause-events c =
    let t : Table = the_view c.self.inside in
    let inside : c.args.worker < t.settings.workers = subst (λ (v : Table). c.args.worker < v.settings.workers) (sym c.self.view_is) c.requires.worker in
    let there : c.args.worker < length t.seats = omega (arith, inside, c.self.invariant.seats) in
    let was = c.index-seat.result.now in
    let is = seat_is t.seats c.args.worker was there c.index-seat.ensures in
    let journal = c.end_by_report.ensures.journal ∙ ap (λ (j : List Event). j ++ ending c.args.memory t.end) c.push_reserved.ensures.items in
    let adds = off_adds t c.self.inside.busy.items c.self.inside.marks.near.items c.self.inside.promised _ c.self.invariant c.args.worker was is c.args.memory c.end_by_report.new.end c.end_by_report.ensures.end c.end_by_report.new.journal.items there journal in
    adds_as t c.args.self.now _ (λ v. Off c.args.worker c.args.memory ∷ ending c.args.memory v.end) c.self.view_is adds
