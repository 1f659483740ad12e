use Rattle.std.proofs.Common.{true, ap, sym, ◌∙◌}
use Rattle.pb_machine.specs.Legality.{tests, first_true}
use Rattle.pb_abstract.specs.Graph.{blocks_of}
use Rattle.pb_journal.specs.Stated.{event_of}
use Rattle.pb_journal.specs.Replaying.{counts_of}
use Rattle.pb_journal.proofs.replay.Replay.first_true.Goals as goal

pub returns-in-Release : goal.returns-in-Release
returns-in-Release c =
    c.release_refusal.ensures (blocks_of c.args.graph.now) true
    ∙ sym (ap
    (λ e. first_true
    (tests (blocks_of c.args.graph.now) c.args.settings.now (counts_of c.args.self.now)
    (event_of e))) c.in-Release.is)

pub returns-in-Off : goal.returns-in-Off
returns-in-Off c =
    c.off_refusal.ensures (blocks_of c.args.graph.now)
    ∙ sym (ap
    (λ e. first_true
    (tests (blocks_of c.args.graph.now) c.args.settings.now (counts_of c.args.self.now)
    (event_of e))) c.in-Off.is)

pub returns-in-Ended : goal.returns-in-Ended
returns-in-Ended c =
    c.end_refusal.ensures (blocks_of c.args.graph.now)
    ∙ sym (ap
    (λ e. first_true
    (tests (blocks_of c.args.graph.now) c.args.settings.now (counts_of c.args.self.now)
    (event_of e))) c.in-Ended.is)
