-- What a worker knows after a call.
use Rattle.std.proofs.Common.{◌≡◌, ℕ, ◌==◌, ◌||◌, not, Bool, true, false, cond, List, [], ◌∷◌, ◌++◌, Option, Some, None, ⊎_elim, refl, sym, ap, ◌∙◌, subst, arith, true≢false}
use Rattle.std.specs.List.{list_any}
use Rattle.std.proofs.lemmas.List.Folds.{list_any-append}
use Rattle.std.proofs.Math.Bool.{or-true}
use Rattle.pb_model.proofs.Callers.{at_most_self, by_cases, equal_self, or_false}
use Rattle.pb_machine.specs.declared.event.End.{End}
use Rattle.pb_machine.specs.declared.event.Event.{Event}
use Rattle.pb_machine.specs.declared.event.Event.TheVariants.{Release, Off}
use Rattle.pb_machine.specs.Counts.{Counts}
use Rattle.pb_machine.specs.History.{is_event_of, events_of, is_off, end_in}
use Rattle.pb_machine.proofs.Callers.{ends_are_told}
use Rattle.pb_lease.specs.declared.answer.LeaseReply.{LeaseReply}
use Rattle.pb_lease.specs.declared.answer.LeaseReply.TheVariants.{Leased, NotYet, Over, Memory}
use Rattle.pb_lease.specs.declared.answer.Renewed.TheVariants.{Kept, Given}
use Rattle.pb_lease.specs.declared.answer.SwitchReply.TheVariants as switch
use Rattle.pb_lease.specs.Tables.{blocks}
use Rattle.pb_lease.specs.Events.{counts_along, ending}
use Rattle.pb_lease.specs.LeaseValue.{LeaseValue}
use Rattle.pb_lease.specs.GraphValue.{GraphValue, counts_in}
use Rattle.pb_lease.specs.Choices.{IsOver}
use Rattle.pb_lease.specs.Steps.{IsEnded, end_events, switch_events}
use Rattle.pb_yard.specs.declared.view.View.{View}
use Rattle.pb_yard.specs.Views.{keeps_order, KeepsOrder, view_leaving_order}
use Rattle.pb_yard.specs.Replies.{reported, lease_events, lent_by, told_by}
use Rattle.pb_yard.specs.Returning.{IsBrought}
use Rattle.pb_yard.specs.Calls.{Holds, Leases, Renews, Switches, Releases, SignsOff, HasRead, IsActive, IsReady, KeepsWorkers}
use Rattle.pb_yard.specs.Laws.{LentLeasesMayComeBack, EndsAreSeen, ActiveStay, SigningOffIsSeen}
use Rattle.pb_yard.proofs.Meaning.{history}
use Rattle.pb_yard.proofs.Causes.{back_stays_not}

-- a lease may come back as it was lent
pub lent_leases_may_come_back : LentLeasesMayComeBack
lent_leases_may_come_back g view at live lease is untold most_broken =
    let own = (at.yard.each at.seat view at.mine live).lent ∙ is in
    let it = at.yard.lent_is view.journal.own.worker lease own in
    record {
      lent = lease;
      lent_is = is;
      same = record { worker = refl; block = refl; quota = refl; weight = refl; choice = refl; fits = refl; places = refl; incumbent = at_most_self lease.incumbent };
      weights = it.of_graph.scope.weights;
      work = record { works = []; on = tt; comes = refl; used_is = sym it.unused; few_broken = omega arith; stops = tt };
      turns = λ order. tt;
      copy = (at.yard.each at.seat view at.mine live).copy lease is;
      told = λ cost told. let bad : None ≡ Some cost = sym untold ∙ told in absurd cc;
    }

-- ---- signing off, in lists of events

pub own_none_off : (worker : ℕ) (events : List Event) → list_any is_off events ≡ false → list_any is_off (events_of worker events) ≡ false
own_none_off worker [] e = refl
own_none_off worker (event ∷ events) e =
    let p = or_false (is_off event) (list_any is_off events) e in
    by_cases (is_event_of worker event)
    (λ own. ap (λ r. list_any is_off (cond r (event ∷ events_of worker events) (events_of worker events))) own ∙ ap (λ r. r || list_any is_off (events_of worker events)) p.0 ∙ own_none_off worker events p.1)
    (λ own. ap (λ r. list_any is_off (cond r (event ∷ events_of worker events) (events_of worker events))) own ∙ own_none_off worker events p.1)

pub end_none_off : (standing : Option End) (end : End) → list_any is_off (end_events standing end) ≡ false
end_none_off None end = refl
end_none_off (Some e) end = refl

pub ending_none_off : (memory : Bool) (standing : Option End) → list_any is_off (ending memory standing) ≡ false
ending_none_off false standing = refl
ending_none_off true None = refl
ending_none_off true (Some e) = refl

pub lease_none_off : (worker : ℕ) (reply : LeaseReply) (x : GraphValue) → list_any is_off (lease_events worker reply x) ≡ false
lease_none_off worker (Leased lease) x = refl
lease_none_off worker NotYet x = refl
lease_none_off worker (Over end) x = end_none_off x.table.end end
lease_none_off worker Memory x = refl

pub release_none_off : (lease : LeaseValue) (memory : Bool) (x : GraphValue) → list_any is_off (Release lease.worker lease.used memory ∷ ending memory x.table.end) ≡ false
release_none_off lease memory x = ending_none_off memory x.table.end

-- ---- after a call

module _ (step : GraphValue → GraphValue → Type 0) (list : GraphValue → List Event) (old new : View) (lent : Option LeaseValue) (told : Option ℕ) (h : Holds step list old lent told new) where
  pub keeps_workers : KeepsWorkers old new
  keeps_workers = record {
    worker = ap (λ (u : View). u.journal.own.worker) h.view;
    taken_in = ap (λ (u : View). u.journal.taken_in) h.view;
    made = ap (λ (u : View). u.journal.made) h.view;
    settings = ap (λ (u : View). u.settings) h.view;
    abstraction = ap (λ (u : View). u.abstraction) h.view;
    choice = ap (λ (u : View). u.choice) h.view;
    task = ap (λ (u : View). u.task) h.view;
    begin = ap (λ (u : View). u.begin) h.view;
    left_order = ap (λ (u : View). u.left_order) h.view;
  }

  pub lent_then : new.lent ≡ lent
  lent_then = ap (λ (u : View). u.lent) h.view

  pub told_then : new.told ≡ told
  told_then = ap (λ (u : View). u.told) h.view

  pub seen_then : new.journal.seen ≡ h.left.table.journal
  seen_then = ap (λ (u : View). u.journal.seen) h.view ∙ sym h.added

  pub events_then : new.journal.own.events ≡ old.journal.own.events ++ events_of old.journal.own.worker (list h.found)
  events_then = ap (λ (u : View). u.journal.own.events) h.view

  pub off_then : list_any is_off new.journal.own.events ≡ (list_any is_off old.journal.own.events || list_any is_off (events_of old.journal.own.worker (list h.found)))
  off_then = ap (list_any is_off) events_then ∙ list_any-append is_off old.journal.own.events (events_of old.journal.own.worker (list h.found))

pub active_stay : ActiveStay
active_stay journal added lent told old new is none active =
    ap (λ (u : View). list_any is_off u.journal.own.events) is ∙ list_any-append is_off old.journal.own.events (events_of old.journal.own.worker added)
    ∙ ap (λ r. r || list_any is_off (events_of old.journal.own.worker added)) active ∙ own_none_off old.journal.own.worker added none

pub signing_off_is_seen : SigningOffIsSeen
signing_off_is_seen worker memory old new is h =
    off_then _ (λ found. Off worker (reported memory found.table.end) ∷ ending (reported memory found.table.end) found.table.end) old new old.lent old.told h
    ∙ ap (λ r. list_any is_off old.journal.own.events || list_any is_off (cond r (Off worker (reported memory h.found.table.end) ∷ events_of old.journal.own.worker (ending (reported memory h.found.table.end) h.found.table.end)) (events_of old.journal.own.worker (ending (reported memory h.found.table.end) h.found.table.end))))
    (ap (λ k. worker == k) is ∙ equal_self worker)
    ∙ or-true (list_any is_off old.journal.own.events)

-- the end that stands after the search was found to be over
pub ended_end : (x y : GraphValue) (end : End) → IsOver x end → IsEnded x end y → y.table.end ≡ Some end
ended_end x y end over is = ⊎_elim (λ (stands : x.table.end ≡ Some end). ap (λ (g : GraphValue). g.table.end) (is.standing stands) ∙ stands)
    (λ rest. ap (λ (c : Counts). c.end) is.events.counts ∙ go x.table.end rest.0) over
  where
    go : (o : Option End) → o ≡ None → (counts_along (blocks x.table) x.table.settings (counts_in x) (end_events o end)).end ≡ Some end
    go None none = refl
    go (Some other) none = absurd cc

pub ends_are_seen : EndsAreSeen
ends_are_seen worker old new end h =
    let y = h.2.left in
    let at = h.2.after in
    ap end_in (seen_then _ (lease_events worker (Over end)) h.0 new (lent_by (Over end) old.lent) (told_by (Over end) old.told) h.2)
    ∙ sym (ends_are_told (blocks y.table) y.table.settings y.table.past.spent y.table.journal (counts_in y) (history y at.shared at.views at.yard)) ∙ ended_end h.2.found y end h.2.step_is.0 h.2.step_is.1

-- ---- what a worker knows by the reply

pub keeps_on : (old between new : View) → KeepsWorkers old between → KeepsWorkers between new → KeepsWorkers old new
keeps_on old between new first later = record {
  worker = later.worker ∙ first.worker;
  taken_in = later.taken_in ∙ first.taken_in;
  made = later.made ∙ first.made;
  settings = later.settings ∙ first.settings;
  abstraction = later.abstraction ∙ first.abstraction;
  choice = later.choice ∙ first.choice;
  task = later.task ∙ first.task;
  begin = later.begin ∙ first.begin;
  left_order = later.left_order ∙ first.left_order;
}

-- so a worker that keeps the order did so before
pub kept_before : (old new : View) → KeepsWorkers old new → KeepsOrder new → KeepsOrder old
kept_before old new keeps order =
    ap (λ (l : List ℕ). not (list_any (λ other. other == old.journal.own.worker) l)) (sym keeps.left_order)
    ∙ ap (λ w. not (list_any (λ other. other == w) new.left_order)) (sym keeps.worker) ∙ order

-- a worker that left the order doesn't keep it
pub left_is_out : (old new : View) → new ≡ view_leaving_order old → KeepsOrder new → ⊥
left_is_out old new is order =
    true≢false (sym order ∙ ap (λ (u : View). keeps_order u u.journal.own.worker) is
    ∙ ap (λ r. not (r || list_any (λ other. other == old.journal.own.worker) old.left_order)) (equal_self old.journal.own.worker))

-- a reading changes nothing of the worker
read_keeps : (old between : View) → HasRead old between → KeepsWorkers old between
read_keeps old between r = record {
  worker = ap (λ (u : View). u.journal.own.worker) r.view;
  taken_in = ap (λ (u : View). u.journal.taken_in) r.view;
  made = ap (λ (u : View). u.journal.made) r.view;
  settings = ap (λ (u : View). u.settings) r.view;
  abstraction = ap (λ (u : View). u.abstraction) r.view;
  choice = ap (λ (u : View). u.choice) r.view;
  task = ap (λ (u : View). u.task) r.view;
  begin = ap (λ (u : View). u.begin) r.view;
  left_order = ap (λ (u : View). u.left_order) r.view;
}

read_active : (old between : View) → HasRead old between → IsActive old → IsActive between
read_active old between r active = subst IsActive (sym r.view) active

module _ (worker : ℕ) (old new : View) where
  pub leased_active : (reply : LeaseReply) → Leases worker old reply new → IsActive old → IsActive new
  leased_active reply h active = active_stay h.2.found.table.journal (lease_events worker reply h.2.found) (lent_by reply old.lent) (told_by reply old.told) h.0 new h.2.view (lease_none_off worker reply h.2.found) (read_active old h.0 h.1 active)

  pub may_bring : (lease : LeaseValue) → Leases worker old (Leased lease) new → new.journal.is_live ≡ true → (most_broken : ℕ) → IsBrought new most_broken lease
  may_bring lease h live most_broken = lent_leases_may_come_back h.2.left new h.2.after live lease
      (ap (λ (u : View). u.lent) h.2.view) (ap (λ (u : View). u.told) h.2.view) most_broken

  pub not_leased_ready : (reply : LeaseReply) → lent_by reply old.lent ≡ old.lent → Leases worker old reply new → IsReady old → IsReady new
  not_leased_ready reply same h ready = (ap (λ (u : View). u.lent) h.2.view ∙ same ∙ ready.0, leased_active reply h ready.1)

  pub leased_keeps : (reply : LeaseReply) → Leases worker old reply new → KeepsWorkers old new
  leased_keeps reply h = keeps_on old h.0 new (read_keeps old h.0 h.1) (keeps_workers _ _ h.0 new _ _ h.2)

pub released_ready : (lease : LeaseValue) (memory : Bool) (old new : View) → Releases lease memory old new → IsActive old → IsReady new
released_ready lease memory old new h active = (
  ap (λ (u : View). u.lent) h.2.view,
  active_stay h.2.found.table.journal (Release lease.worker lease.used memory ∷ ending memory h.2.found.table.end) None None h.0 new h.2.view (release_none_off lease memory h.2.found) (read_active old h.0 h.1 active),
)

pub released_keeps : (lease : LeaseValue) (memory : Bool) (old new : View) → Releases lease memory old new → KeepsWorkers old new
released_keeps lease memory old new h = keeps_on old h.0 new (read_keeps old h.0 h.1) (keeps_workers _ _ h.0 new _ _ h.2)

pub signed_keeps : (worker : ℕ) (memory : Bool) (old new : View) → SignsOff worker memory old new → KeepsWorkers old new
signed_keeps worker memory old new h = keeps_workers _ _ old new _ _ h

-- ---- after a try to go on

module _ (lease : LeaseValue) (old new : View) where
  -- a lease that went on, or came back, did so as by a renewal
  pub switch_keeps : (kept : LeaseValue) → Switches lease old (switch.Kept kept) new → Renews lease old (Kept kept) new
  switch_keeps kept (between, r, h) = (
    between,
    r,
    record {
      found = h.found;
      left = h.left;
      before = h.before;
      after = h.after;
      seen = h.seen;
      step_is = (h.step_is.0, h.step_is.1, λ recorded machine m. h.step_is.2 recorded machine m lease.block, h.step_is.3);
      added = h.added;
      events_are = h.events_are;
      moves = h.moves;
      view = h.view;
    },
  )

  pub switch_gives : Switches lease old switch.Given new → Renews lease old Given new
  switch_gives (between, r, h) = (
    between,
    r,
    record {
      found = h.found;
      left = h.left;
      before = h.before;
      after = h.after;
      seen = h.seen;
      step_is = (back_stays_not h.found lease h.left h.step_is.0, h.step_is.1, λ recorded machine m. h.step_is.2 recorded machine m lease.block, h.step_is.3);
      added = h.added;
      events_are = h.events_are;
      moves = h.moves;
      view = h.view;
    },
  )

  -- a worker that went on with another block
  module _ (next : LeaseValue) (h : Switches lease old (switch.Switched next) new) where
    pub switched_keeps : KeepsWorkers old new
    switched_keeps = keeps_on old h.0 new (read_keeps old h.0 h.1) record {
      worker = ap (λ (u : View). u.journal.own.worker) h.2.view;
      taken_in = ap (λ (u : View). u.journal.taken_in) h.2.view;
      made = ap (λ (u : View). u.journal.made) h.2.view;
      settings = ap (λ (u : View). u.settings) h.2.view;
      abstraction = ap (λ (u : View). u.abstraction) h.2.view;
      choice = ap (λ (u : View). u.choice) h.2.view;
      task = ap (λ (u : View). u.task) h.2.view;
      begin = ap (λ (u : View). u.begin) h.2.view;
      left_order = ap (λ (u : View). u.left_order) h.2.view;
    }

    pub switched_active : IsActive old → IsActive new
    switched_active active = active_stay h.2.found.table.journal (switch_events lease next) (Some next) None h.0 new h.2.view refl (read_active old h.0 h.1 active)

    pub switched_bring : new.journal.is_live ≡ true → (most_broken : ℕ) → IsBrought new most_broken next
    switched_bring live most_broken = lent_leases_may_come_back h.2.left new h.2.after live next (ap (λ (u : View). u.lent) h.2.view) (ap (λ (u : View). u.told) h.2.view) most_broken
