use Rattle.std.proofs.Common.{◌<◌, false, inr}
use Rattle.pb_lease.specs.Tables.{rooms}
use Rattle.pb_workers.specs.Holding.{GoesOnTo, IsBack}
use Rattle.pb_workers.proofs.Held.{marked_of_graph, kept_room, kept_on, back}
use Rattle.pb_workers.proofs.Renewing.{if_kept, if_given, renewal_searched}
use Rattle.pb_workers.proofs.graph_lessor.LeaseGraphLessor.go_on.Goals as goal

pub renew-requires : goal.renew-requires
renew-requires c = let t = c.requires.may_return.2 in marked_of_graph t.first t.held t.on.held c.args.lease 0 t.work c.args.self.now t.mark

pub returns-clause-kept : goal.returns-clause-kept
returns-clause-kept c = λ begin given t.
    if_kept c.renew.result (GoesOnTo begin given c.renew.new.self) (λ kept is.
    let k = c.renew.ensures.kept kept is in
    kept_on begin given c.args.self.now c.args.lease c.abstraction.ensures.lawful t c.requires.spent c.renew.new.self kept k.1 k.0 (c.renew.ensures.kept_moment kept is))

pub returns-clause-left : goal.returns-clause-left
returns-clause-left c =
    if_kept c.renew.result (λ kept. rooms c.renew.new.self.table kept.worker < rooms c.args.self.now.table c.args.lease.worker) (λ kept is.
    let k = c.renew.ensures.kept kept is in
    kept_room c.args.self.now c.args.lease c.renew.new.self kept k.1 k.0)

pub returns-clause-home : goal.returns-clause-home
returns-clause-home c = λ begin given t.
    if_given c.renew.result (IsBack begin given c.renew.new.self) (λ is.
    back begin given c.args.self.now c.args.lease c.abstraction.ensures.lawful c.renew.new.self false t (inr (c.requires.spent, c.abstraction.ensures.lawful.key_places, (c.renew.ensures.given is).0)) (c.renew.ensures.given is).1 (c.renew.ensures.given_moment is))

pub returns-clause-searched : goal.returns-clause-searched
returns-clause-searched c = renewal_searched c.args.self.now c.args.lease c.renew.new.self c.renew.result c.renew.ensures.kept c.renew.ensures.given
