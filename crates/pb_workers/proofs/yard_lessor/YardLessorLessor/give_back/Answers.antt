use Rattle.std.proofs.Common.{None, refl}
use Rattle.pb_yard.specs.Passes.{view_of}
use Rattle.pb_yard.specs.Replies.{ReleasesAs, release_events}
use Rattle.pb_workers.specs.declared.yard_watch.YardWatch.{YardWatch}
use Rattle.pb_workers.proofs.Sharing.{reader_holds, released_then, holder_searched, none_since}
use Rattle.pb_workers.proofs.SharedTurns.{released_turn}
use Rattle.pb_workers.proofs.yard_lessor.YardLessorLessor.give_back.Goals as goal

pub release-requires-clause-own : goal.release-requires-clause-own
release-requires-clause-own g c = c.requires.may_return.2.work.own

pub release-requires-clause-brought : goal.release-requires-clause-brought
release-requires-clause-brought g c = c.requires.may_return.2.work.brought

pub returns-clause-home : goal.returns-clause-home
returns-clause-home g c = λ begin given h.
    let w = c.args.self.now.watch in let n : YardWatch = record w { pass = c.release.new.pass } in let v = view_of w.pass in let u = view_of n.pass in
    none_since begin.watch w n h.work.since h.work.own refl c.release.ensures.same (reader_holds (ReleasesAs c.args.lease c.args.memory) (release_events c.args.lease c.args.memory) v None None u c.release.ensures.released)
    (released_then v.task v.abstraction v u h.work.of_task refl refl h.work.stays c.args.lease c.args.memory c.release.ensures.released)
    (λ before. let was = h.turn before in released_turn v u c.args.lease h.work.lease_of.0 was.0 was.1 c.args.memory was.2 c.release.ensures.released)

pub returns-clause-searched : goal.returns-clause-searched
returns-clause-searched g c =
    let v = view_of c.args.self.now.watch.pass in let u = view_of c.release.new.pass in
    holder_searched v u (reader_holds (ReleasesAs c.args.lease c.args.memory) (release_events c.args.lease c.args.memory) v None None u c.release.ensures.released)
