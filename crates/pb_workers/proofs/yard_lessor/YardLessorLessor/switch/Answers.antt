use Rattle.std.proofs.Common.{None, Some, refl, sym, ap, ◌∙◌, subst}
use Rattle.pb_lease.specs.LeaseValue.{LeaseValue}
use Rattle.pb_lease.specs.declared.answer.Renewed.TheVariants as renewed
use Rattle.pb_yard.specs.Passes.{view_of}
use Rattle.pb_yard.proofs.Callers.{switch_gives, switch_keeps}
use Rattle.pb_yard.specs.Replies.{RenewsAs, renewal_events}
use Rattle.pb_yard.specs.declared.view.View.{View}
use Rattle.pb_yard.specs.Marking.{turn_of}
use Rattle.pb_workers.specs.declared.yard_watch.YardWatch.{YardWatch}
use Rattle.pb_workers.specs.Sharing.{HasWorkToReturn}
use Rattle.pb_workers.proofs.Sharing.{reader_holds, kept_then, given_then, switched_holder, switched_then, holder_searched, lease_since, none_since, busy_since}
use Rattle.pb_workers.proofs.SharedTurns.{kept_turn, given_turn, switched_turn}
use Rattle.pb_workers.proofs.yard_lessor.YardLessorLessor.switch.Goals as goal

pub try_switch-requires-clause-own : goal.try_switch-requires-clause-own
try_switch-requires-clause-own g c = c.requires.may_return.2.work.own

pub try_switch-requires-clause-brought : goal.try_switch-requires-clause-brought
try_switch-requires-clause-brought g c = c.requires.may_return.2.work.brought

pub returns-in-Kept-clause-going : goal.returns-in-Kept-clause-going
returns-in-Kept-clause-going g c = λ begin given r.
    let h = r.work in
    let w = c.args.self.now.watch in let n : YardWatch = record w { pass = c.try_switch.new.pass } in let v = view_of w.pass in let u = view_of n.pass in
    let kept = c.in-Kept.kept in let renews = switch_keeps c.args.lease v u kept (c.in-Kept.ensures.kept kept refl) in
    lease_since begin.watch w n h.since h.own refl c.try_switch.ensures.same
    (reader_holds (RenewsAs c.args.lease (renewed.Kept kept)) (λ found. renewal_events c.args.lease (renewed.Kept kept)) v (Some kept) None u renews) kept (kept_then v.task v.abstraction v u h.of_task refl refl h.stays c.args.lease kept renews)
    (λ before. let was = r.turn before in kept_turn v u c.args.lease h.lease_of.0 was.0 was.1 kept was.2 renews)

pub returns-in-Kept-clause-searched : goal.returns-in-Kept-clause-searched
returns-in-Kept-clause-searched g c =
    let v = view_of c.args.self.now.watch.pass in let u = view_of c.try_switch.new.pass in let kept = c.in-Kept.kept in
    holder_searched v u (reader_holds (RenewsAs c.args.lease (renewed.Kept kept)) (λ found. renewal_events c.args.lease (renewed.Kept kept)) v (Some kept) None u (switch_keeps c.args.lease v u kept (c.in-Kept.ensures.kept kept refl)))

pub returns-in-Switched-clause-going : goal.returns-in-Switched-clause-going
returns-in-Switched-clause-going g c = λ begin given r.
    let h = r.work in
    let w = c.args.self.now.watch in let n : YardWatch = record w { pass = c.try_switch.new.pass } in let v = view_of w.pass in let u = view_of n.pass in
    let next = c.in-Switched.next in let switches = c.in-Switched.ensures.switched next refl in
    lease_since begin.watch w n h.since h.own refl c.try_switch.ensures.same (switched_holder v.task v.abstraction v u h.of_task refl refl h.stays c.args.lease next switches) next
    (switched_then v.task v.abstraction v u h.of_task refl refl h.stays c.args.lease next switches)
    (λ before. let was = r.turn before in switched_turn v u c.args.lease h.lease_of.0 was.0 was.1 next was.2 switches)

pub returns-in-Switched-clause-searched : goal.returns-in-Switched-clause-searched
returns-in-Switched-clause-searched g c =
    let v = view_of c.args.self.now.watch.pass in let u = view_of c.try_switch.new.pass in let h = c.requires.may_return.2.work in let next = c.in-Switched.next in
    holder_searched v u (switched_holder v.task v.abstraction v u h.of_task refl refl h.stays c.args.lease next (c.in-Switched.ensures.switched next refl))

pub returns-in-Given-clause-home : goal.returns-in-Given-clause-home
returns-in-Given-clause-home g c = λ begin given r.
    let h = r.work in
    let w = c.args.self.now.watch in let n : YardWatch = record w { pass = c.try_switch.new.pass } in let v = view_of w.pass in let u = view_of n.pass in
    let gives = switch_gives c.args.lease v u (c.in-Given.ensures.given refl) in
    none_since begin.watch w n h.since h.own refl c.try_switch.ensures.same (reader_holds (RenewsAs c.args.lease renewed.Given) (λ found. renewal_events c.args.lease renewed.Given) v None None u gives)
    (given_then v.task v.abstraction v u h.of_task refl refl h.stays c.args.lease gives)
    (λ before. let was = r.turn before in given_turn v u c.args.lease h.lease_of.0 was.0 was.1 was.2 gives)

pub returns-in-Given-clause-searched : goal.returns-in-Given-clause-searched
returns-in-Given-clause-searched g c =
    let v = view_of c.args.self.now.watch.pass in let u = view_of c.try_switch.new.pass in
    holder_searched v u (reader_holds (RenewsAs c.args.lease renewed.Given) (λ found. renewal_events c.args.lease renewed.Given) v None None u (switch_gives c.args.lease v u (c.in-Given.ensures.given refl)))

pub returns-in-Busy-clause-still : goal.returns-in-Busy-clause-still
returns-in-Busy-clause-still g c = λ begin given r.
    let h = r.work in
    let w = c.args.self.now.watch in let n : YardWatch = record w { pass = c.try_switch.new.pass } in
    let b = c.in-Busy.ensures.busy c.in-Busy.lease refl in
    subst (λ (l : LeaseValue). HasWorkToReturn begin.watch n l 0) (sym b.0) record {
      work = busy_since begin.watch w n c.args.lease 0 h refl c.try_switch.ensures.same b.1;
      turn = λ before. let was = r.turn before in (was.0, ap (λ (x : View). turn_of x.journal.own.events) b.1 ∙ was.1, was.2);
    }

pub returns-in-Busy-clause-searched : goal.returns-in-Busy-clause-searched
returns-in-Busy-clause-searched g c =
    let b = c.in-Busy.ensures.busy c.in-Busy.lease refl in
    λ i. record { task = (b.1 i).task; abstraction = (b.1 i).abstraction; choice = (b.1 i).choice }
