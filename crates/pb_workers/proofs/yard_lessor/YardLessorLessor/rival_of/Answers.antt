use Rattle.std.proofs.Common.{[], refl}
use Rattle.pb_yard.specs.Passes.{view_of, worker_of}
use Rattle.pb_yard.specs.Replies.{RivalsAs}
use Rattle.pb_yard.specs.Marking.{turn_with}
use Rattle.pb_workers.specs.declared.yard_watch.YardWatch.{YardWatch}
use Rattle.pb_workers.proofs.Sharing.{holder, look_stays, look_since, holder_searched, told_some_in, told_none_in}
use Rattle.pb_workers.proofs.SharedTurns.{look_turn}
use Rattle.pb_workers.proofs.yard_lessor.YardLessorLessor.rival_of.Goals as goal

pub rival-requires-clause-own : goal.rival-requires-clause-own
rival-requires-clause-own g c = c.requires.worked.2.work.own

pub rival-requires-clause-leased : goal.rival-requires-clause-leased
rival-requires-clause-leased g c = c.requires.worked.2.work.lease_of

pub returns-clause-worked : goal.returns-clause-worked
returns-clause-worked g c = λ begin given h.
    let w = c.args.self.now.watch in let n : YardWatch = record w { pass = c.rival.new.pass } in let l = c.args.lease.now in
    record {
      work = look_since begin.watch w n l 0 h.work refl c.rival.ensures.same (RivalsAs l c.rival.result) (λ found. []) c.rival.ensures.rival
          (look_stays l c.rival.result (view_of w.pass) (view_of n.pass) c.rival.ensures.rival h.work.stays);
      turn = λ before. look_turn l c.rival.result (view_of w.pass) (view_of n.pass) c.rival.ensures.rival (turn_with l.quota) (h.turn before);
    }

pub returns-clause-told : goal.returns-clause-told
returns-clause-told g c =
    let w = c.args.self.now.watch in let n : YardWatch = record w { pass = c.rival.new.pass } in
    told_some_in c.args.lease.now w n c.rival.ensures.same.0.1 c.rival.result c.rival.ensures.rival

pub returns-clause-none : goal.returns-clause-none
returns-clause-none g c =
    let w = c.args.self.now.watch in
    told_none_in (worker_of w.pass) c.args.lease.now (view_of w.pass) (view_of c.rival.new.pass) c.rival.result c.rival.ensures.rival

pub returns-clause-searched : goal.returns-clause-searched
returns-clause-searched g c =
    let v = view_of c.args.self.now.watch.pass in let u = view_of c.rival.new.pass in
    holder_searched v u (holder (RivalsAs c.args.lease.now c.rival.result) (λ found. []) v v.lent v.told u c.rival.ensures.rival)
