use Rattle.pb_machine.specs.Tables.{one_if}
use Rattle.pb_yard.proofs.Callers.{may_cause}
use Rattle.pb_workers.proofs.Going.{same_searched}
use Rattle.pb_workers.proofs.Held.{marked_of_graph, back}
use Rattle.pb_workers.proofs.Returned.{returned_same}
use Rattle.pb_workers.proofs.graph_lessor.LeaseGraphLessor.give_back.Goals as goal

pub release-requires : goal.release-requires
release-requires c = let t = c.requires.may_return.2 in marked_of_graph t.first t.held t.on.held c.args.lease (one_if c.args.memory) t.work c.args.self.now t.mark

pub returns-clause-home : goal.returns-clause-home
returns-clause-home c = λ begin given t.
    back begin given c.args.self.now c.args.lease c.abstraction.ensures.lawful c.release.new.self c.args.memory t (may_cause c.args.self.now c.release.new.self c.args.lease c.args.memory c.requires.cause) c.release.ensures.released c.release.ensures.moment

pub returns-clause-searched : goal.returns-clause-searched
returns-clause-searched c = same_searched c.args.self.now c.release.new.self (returned_same c.args.self.now c.args.lease c.args.memory c.release.new.self c.release.ensures.released)
