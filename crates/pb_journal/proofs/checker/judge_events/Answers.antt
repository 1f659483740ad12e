use Rattle.pb_abstract.specs.Graph.{blocks_of}
use Rattle.pb_journal.proofs.Loops.{begins_lawful}
use Rattle.pb_journal.proofs.checker.judge_events.Goals as goal

pub read_events-requires-clause-lawful : goal.read_events-requires-clause-lawful
read_events-requires-clause-lawful c =
    begins_lawful
    (blocks_of c.args.graph.now) c.args.settings.now c.in_ok-replay.replay
    c.requires.range
    (c.in_ok-replay.ensures.places (blocks_of c.args.graph.now) c.requires.blocks)
    c.in_ok-replay.ensures.counts
