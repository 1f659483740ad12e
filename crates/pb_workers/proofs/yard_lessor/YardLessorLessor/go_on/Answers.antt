use Rattle.std.proofs.Common.{None, Some, refl}
use Rattle.pb_lease.specs.declared.answer.Renewed.TheVariants.{Kept, Given}
use Rattle.pb_yard.specs.Passes.{view_of}
use Rattle.pb_yard.specs.Replies.{RenewsAs, renewal_events}
use Rattle.pb_workers.specs.declared.yard_watch.YardWatch.{YardWatch}
use Rattle.pb_workers.proofs.Sharing.{reader_holds, kept_then, given_then, holder_searched, lease_since, none_since}
use Rattle.pb_workers.proofs.SharedTurns.{kept_turn, given_turn, some_so}
use Rattle.pb_workers.proofs.yard_lessor.YardLessorLessor.go_on.Goals as goal

pub renew-requires-clause-own : goal.renew-requires-clause-own
renew-requires-clause-own g c = c.requires.may_return.2.work.own

pub renew-requires-clause-brought : goal.renew-requires-clause-brought
renew-requires-clause-brought g c = c.requires.may_return.2.work.brought

pub returns-in-Kept-clause-kept : goal.returns-in-Kept-clause-kept
returns-in-Kept-clause-kept g c = λ begin given h.
    let w = c.args.self.now.watch in let n : YardWatch = record w { pass = c.renew.new.pass } in let v = view_of w.pass in let u = view_of n.pass in
    let kept = c.in-Kept.kept in let renews = c.in-Kept.ensures.renewed in
    lease_since begin.watch w n h.work.since h.work.own refl c.renew.ensures.same (reader_holds (RenewsAs c.args.lease (Kept kept)) (λ found. renewal_events c.args.lease (Kept kept)) v (Some kept) None u renews) kept
    (kept_then v.task v.abstraction v u h.work.of_task refl refl h.work.stays c.args.lease kept renews)
    (λ before. let was = h.turn before in kept_turn v u c.args.lease h.work.lease_of.0 was.0 was.1 kept was.2 renews)

pub returns-in-Kept-clause-searched : goal.returns-in-Kept-clause-searched
returns-in-Kept-clause-searched g c =
    let v = view_of c.args.self.now.watch.pass in let u = view_of c.renew.new.pass in let kept = c.in-Kept.kept in
    holder_searched v u (reader_holds (RenewsAs c.args.lease (Kept kept)) (λ found. renewal_events c.args.lease (Kept kept)) v (Some kept) None u c.in-Kept.ensures.renewed)

pub returns-in-Given-clause-home : goal.returns-in-Given-clause-home
returns-in-Given-clause-home g c = λ begin given h.
    let w = c.args.self.now.watch in let n : YardWatch = record w { pass = c.renew.new.pass } in let v = view_of w.pass in let u = view_of n.pass in
    let renews = c.in-Given.ensures.renewed in
    none_since begin.watch w n h.work.since h.work.own refl c.renew.ensures.same (reader_holds (RenewsAs c.args.lease Given) (λ found. renewal_events c.args.lease Given) v None None u renews)
    (given_then v.task v.abstraction v u h.work.of_task refl refl h.work.stays c.args.lease renews)
    (λ before. let was = h.turn before in given_turn v u c.args.lease h.work.lease_of.0 was.0 was.1 was.2 renews)

pub returns-in-Given-clause-searched : goal.returns-in-Given-clause-searched
returns-in-Given-clause-searched g c =
    let v = view_of c.args.self.now.watch.pass in let u = view_of c.renew.new.pass in
    holder_searched v u (reader_holds (RenewsAs c.args.lease Given) (λ found. renewal_events c.args.lease Given) v None None u c.in-Given.ensures.renewed)

pub returns-in-Kept-clause-left : goal.returns-in-Kept-clause-left
returns-in-Kept-clause-left g c = (some_so c.next.result _ c.next.ensures.steps (c.next.ensures.goes.on tt)).2
