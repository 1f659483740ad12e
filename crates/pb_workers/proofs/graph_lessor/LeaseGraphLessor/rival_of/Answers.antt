use Rattle.pb_workers.proofs.Held.{worked_of_graph}
use Rattle.pb_workers.proofs.Marked.{told_some, told_none}
use Rattle.pb_workers.proofs.graph_lessor.LeaseGraphLessor.rival_of.Goals as goal

pub rival-requires : goal.rival-requires
rival-requires c = let w = c.requires.worked.2 in (worked_of_graph c.args.self.now w.held w.on.held c.args.lease.now 0 w.work).leased

pub returns-clause-told : goal.returns-clause-told
returns-clause-told c =
    let held = c.requires.worked.2.on.held in
    told_some c.args.self.now c.args.lease.now held.machine.store c.rival.result c.rival.ensures.rival (c.rival.ensures.moment held.recorded held.machine held.moment.at)

pub returns-clause-none : goal.returns-clause-none
returns-clause-none c = told_none c.args.self.now c.args.lease.now c.rival.result c.rival.ensures.rival
