use Rattle.std.proofs.Common.{refl, sym, ap, subst, arith}
use Rattle.pb_model.specs.declared.row.Row.{Row}
use Rattle.pb_model.specs.declared.row.Status.TheVariants.{Closed}
use Rattle.pb_task.specs.Parts.{space_of}
use Rattle.pb_lists.specs.Bundle.{IsOpened}
use Rattle.pb_bundles.specs.Parts.{away_rows}
use Rattle.pb_lease.specs.LeaseValue.{LeaseValue, HasWeights}
use Rattle.pb_lease.specs.Leased.{guide_of}
use Rattle.pb_expand.specs.Turned.{own_rows, IsNext}
use Rattle.pb_lease.specs.Rows.{SetsStatusAt}
use Rattle.pb_lease.proofs.Callers.{on_err, has_opened}
use Rattle.pb_expand.proofs.Known.{leads_into, row_is_home, row_is_state, row_is_cheap}
use Rattle.pb_expand.proofs.Firsts.{row_by, due_by}
use Rattle.pb_expand.proofs.Turned.{offers_keep_opened, broken_keeps_opened, expand_turned, break_turned}
use Rattle.pb_expand.proofs.turns.expand.Goals as goal

pub successors-requires-clause-state : goal.successors-requires-clause-state
successors-requires-clause-state c =
    let row : Row = row_by c.args.row.now c.requires.next.0 in
    let next : IsNext (space_of c.args.task.now) c.args.lease.now c.args.row.now.state row = due_by (space_of c.args.task.now) c.args.lease.now c.args.row.now c.requires.next in
    row_is_state c.args.task.now c.args.abstraction.now c.args.lease.now.choice c.args.lease.now c.requires.at_work c.args.row.now.state row next.first.found

pub offer_all-requires-clause-there : goal.offer_all-requires-clause-there
offer_all-requires-clause-there c =
    let row : Row = row_by c.args.row.now c.requires.next.0 in
    let next : IsNext (space_of c.args.task.now) c.args.lease.now c.args.row.now.state row = due_by (space_of c.args.task.now) c.args.lease.now c.args.row.now c.requires.next in
    leads_into c.args.task.now c.args.abstraction.now c.args.lease.now.choice c.args.lease.now c.requires.at_work c.args.row.now.state
    (row_is_home c.args.task.now c.args.abstraction.now c.args.lease.now.choice c.args.lease.now c.requires.at_work c.args.row.now.state row next.first.found)

pub offer_all-requires-clause-cheap : goal.offer_all-requires-clause-cheap
offer_all-requires-clause-cheap c =
    let row : Row = row_by c.args.row.now c.requires.next.0 in
    let next : IsNext (space_of c.args.task.now) c.args.lease.now c.args.row.now.state row = due_by (space_of c.args.task.now) c.args.lease.now c.args.row.now c.requires.next in
    row_is_cheap c.args.task.now c.args.abstraction.now c.args.lease.now.choice c.args.lease.now c.requires.at_work c.args.row.now.state row next.first.found (omega (arith, c.requires.left))

pub returns-in_err-offer_all-clause-broken : goal.returns-in_err-offer_all-clause-broken
returns-in_err-offer_all-clause-broken c =
    let row : Row = row_by c.args.row.now c.requires.next.0 in
    let next : IsNext (space_of c.args.task.now) c.args.lease.now c.args.row.now.state row = due_by (space_of c.args.task.now) c.args.lease.now c.args.row.now c.requires.next in
    on_err c.from_residual.result _
    (break_turned (space_of c.args.task.now) (guide_of c.args.task.now c.args.abstraction.now c.args.lease.now.choice) c.args.lease.now.block c.args.lease.now c.args.row.now.state row refl
    (row_is_home c.args.task.now c.args.abstraction.now c.args.lease.now.choice c.args.lease.now c.requires.at_work c.args.row.now.state row next.first.found) next c.offer_all.new.lease
    (rw c.successors.ensures.successors at rw c.deref.ensures.value at c.in_err-offer_all.ensures.broken) c.in_err-offer_all.ensures.changes)

pub returns-in_err-offer_all-clause-opened : goal.returns-in_err-offer_all-clause-opened
returns-in_err-offer_all-clause-opened c =
    let row : Row = row_by c.args.row.now c.requires.next.0 in
    let next : IsNext (space_of c.args.task.now) c.args.lease.now c.args.row.now.state row = due_by (space_of c.args.task.now) c.args.lease.now c.args.row.now c.requires.next in
    on_err c.from_residual.result _
    (has_opened (own_rows c.offer_all.new.lease) c.args.row.now.state
    (subst (λ block. IsOpened (away_rows c.offer_all.new.lease.parts block c.args.row.now.state)) (sym (ap (λ (l : LeaseValue). l.block) c.in_err-offer_all.ensures.changes.others))
    (broken_keeps_opened (space_of c.args.task.now) (guide_of c.args.task.now c.args.abstraction.now c.args.lease.now.choice) c.args.lease.now.block c.args.lease.now c.args.row.now.state row refl
    (row_is_home c.args.task.now c.args.abstraction.now c.args.lease.now.choice c.args.lease.now c.requires.at_work c.args.row.now.state row next.first.found) next c.offer_all.new.lease
    (rw c.successors.ensures.successors at rw c.deref.ensures.value at c.in_err-offer_all.ensures.broken))))

pub returns-in_err-offer_all-clause-weights : goal.returns-in_err-offer_all-clause-weights
returns-in_err-offer_all-clause-weights c = c.in_err-offer_all.ensures.changes.weights c.requires.at_work.scope.weights

pub close-requires : goal.close-requires
close-requires c =
    let row : Row = row_by c.args.row.now c.requires.next.0 in
    let next : IsNext (space_of c.args.task.now) c.args.lease.now c.args.row.now.state row = due_by (space_of c.args.task.now) c.args.lease.now c.args.row.now c.requires.next in
    subst (λ block. IsOpened (away_rows c.offer_all.new.lease.parts block c.args.row.now.state)) (sym (ap (λ (l : LeaseValue). l.block) c.in_ok-offer_all.ensures.changes.others))
    (offers_keep_opened (space_of c.args.task.now) (guide_of c.args.task.now c.args.abstraction.now c.args.lease.now.choice) c.args.lease.now.block c.args.lease.now c.args.row.now.state row refl
    (row_is_home c.args.task.now c.args.abstraction.now c.args.lease.now.choice c.args.lease.now c.requires.at_work c.args.row.now.state row next.first.found) next c.offer_all.new.lease
    (rw c.successors.ensures.successors at rw c.deref.ensures.value at c.in_ok-offer_all.ensures.offers))

pub returns-clause-turned : goal.returns-clause-turned
returns-clause-turned c =
    let row : Row = row_by c.args.row.now c.requires.next.0 in
    let next : IsNext (space_of c.args.task.now) c.args.lease.now c.args.row.now.state row = due_by (space_of c.args.task.now) c.args.lease.now c.args.row.now c.requires.next in
    expand_turned (space_of c.args.task.now) (guide_of c.args.task.now c.args.abstraction.now c.args.lease.now.choice) c.args.lease.now.block c.args.lease.now c.args.row.now.state row refl
    (row_is_home c.args.task.now c.args.abstraction.now c.args.lease.now.choice c.args.lease.now c.requires.at_work c.args.row.now.state row next.first.found) next c.offer_all.new.lease c.close.new.lease
    (rw c.successors.ensures.successors at rw c.deref.ensures.value at c.in_ok-offer_all.ensures.offers) c.in_ok-offer_all.ensures.changes
    (subst (λ block. SetsStatusAt c.offer_all.new.lease c.close.new.lease block c.args.row.now.state Closed) (ap (λ (l : LeaseValue). l.block) c.in_ok-offer_all.ensures.changes.others) c.close.ensures.rows)
    c.close.ensures.changes c.spend.new.self c.spend.ensures

pub returns-clause-weights : goal.returns-clause-weights
returns-clause-weights c =
    subst HasWeights (sym c.spend.ensures) (c.close.ensures.changes.weights (c.in_ok-offer_all.ensures.changes.weights c.requires.at_work.scope.weights))
