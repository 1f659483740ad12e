use Rattle.std.proofs.Common.{ap, sym, ◌∙◌}
use Rattle.pb_machine.specs.Counts.{counts_after}
use Rattle.pb_abstract.specs.Graph.{blocks_of}
use Rattle.pb_journal.specs.Stated.{event_of}
use Rattle.pb_journal.specs.Replaying.{counts_of}
use Rattle.pb_journal.proofs.replay.Replay.apply.Goals as goal

pub returns-in-Lease-clause-counts : goal.returns-in-Lease-clause-counts
returns-in-Lease-clause-counts c =
    c.take_lease.ensures.leaves (blocks_of c.args.graph.now) c.args.settings.now
    ∙ sym (ap
    (λ e. counts_after (blocks_of c.args.graph.now) c.args.settings.now
    (counts_of c.args.self.now) (event_of e)) c.in-Lease.is)

pub returns-in-Lease-clause-places : goal.returns-in-Lease-clause-places
returns-in-Lease-clause-places c =
    c.take_lease.ensures.places
    (blocks_of c.args.graph.now) c.args.settings.now c.requires.lawful.places

pub returns-in-Renew-clause-counts : goal.returns-in-Renew-clause-counts
returns-in-Renew-clause-counts c =
    c.renew.ensures.leaves (blocks_of c.args.graph.now) c.args.settings.now
    ∙ sym (ap
    (λ e. counts_after (blocks_of c.args.graph.now) c.args.settings.now
    (counts_of c.args.self.now) (event_of e)) c.in-Renew.is)

pub returns-in-Renew-clause-places : goal.returns-in-Renew-clause-places
returns-in-Renew-clause-places c =
    c.renew.ensures.places (blocks_of c.args.graph.now) c.args.settings.now c.requires.lawful.places

pub returns-in-Hot-clause-counts : goal.returns-in-Hot-clause-counts
returns-in-Hot-clause-counts c =
    c.mark_hot.ensures.counts c.args.settings.now
    ∙ sym (ap
    (λ e. counts_after (blocks_of c.args.graph.now) c.args.settings.now
    (counts_of c.args.self.now) (event_of e)) c.in-Hot.is)

pub returns-in-Hot-clause-places : goal.returns-in-Hot-clause-places
returns-in-Hot-clause-places c =
    c.mark_hot.ensures.places
    (blocks_of c.args.graph.now) c.args.settings.now c.requires.lawful.places

pub returns-in-Cold-clause-counts : goal.returns-in-Cold-clause-counts
returns-in-Cold-clause-counts c =
    c.cool.ensures.leaves (blocks_of c.args.graph.now) c.args.settings.now
    ∙ sym (ap
    (λ e. counts_after (blocks_of c.args.graph.now) c.args.settings.now
    (counts_of c.args.self.now) (event_of e)) c.in-Cold.is)

pub returns-in-Cold-clause-places : goal.returns-in-Cold-clause-places
returns-in-Cold-clause-places c =
    c.cool.ensures.places (blocks_of c.args.graph.now) c.args.settings.now c.requires.lawful.places

pub returns-in-Off-clause-counts : goal.returns-in-Off-clause-counts
returns-in-Off-clause-counts c =
    c.sign_off.ensures.leaves (blocks_of c.args.graph.now) c.args.settings.now
    ∙ sym (ap
    (λ e. counts_after (blocks_of c.args.graph.now) c.args.settings.now
    (counts_of c.args.self.now) (event_of e)) c.in-Off.is)

pub returns-in-Off-clause-places : goal.returns-in-Off-clause-places
returns-in-Off-clause-places c =
    c.sign_off.ensures.places
    (blocks_of c.args.graph.now) c.args.settings.now c.requires.lawful.places

pub returns-in-Ended-clause-counts : goal.returns-in-Ended-clause-counts
returns-in-Ended-clause-counts c =
    c.set_end.ensures.leaves (blocks_of c.args.graph.now) c.args.settings.now
    ∙ sym (ap
    (λ e. counts_after (blocks_of c.args.graph.now) c.args.settings.now
    (counts_of c.args.self.now) (event_of e)) c.in-Ended.is)

pub returns-in-Ended-clause-places : goal.returns-in-Ended-clause-places
returns-in-Ended-clause-places c =
    c.set_end.ensures.places
    (blocks_of c.args.graph.now) c.args.settings.now c.requires.lawful.places
