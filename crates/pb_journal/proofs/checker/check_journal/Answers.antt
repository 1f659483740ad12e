use Rattle.std.proofs.Common.{◌≤◌, arith}
use Rattle.pb_abstract.specs.Graph.{blocks_of}
use Rattle.pb_journal.proofs.Answered.{if_accepted, gives_accepted}
use Rattle.pb_journal.proofs.Cuts.{gives_cut}
use Rattle.pb_journal.proofs.checker.check_journal.Goals as goal

pub returns-clause-finished : goal.returns-clause-finished
returns-clause-finished c =
    if_accepted (blocks_of c.args.graph.now) c.args.bytes.now c.judge.result c.judge.ensures

pub returns-clause-only : goal.returns-clause-only
returns-clause-only c =
    let few : (blocks_of c.args.graph.now).count ≤ 4096 =
    omega (arith, c.count-blocks.ensures.count, c.count-blocks.ensures.few) in
    gives_accepted (blocks_of c.args.graph.now) c.args.bytes.now few c.judge.result c.judge.ensures

pub returns-clause-cut : goal.returns-clause-cut
returns-clause-cut c =
    let few : (blocks_of c.args.graph.now).count ≤ 4096 =
    omega (arith, c.count-blocks.ensures.count, c.count-blocks.ensures.few) in
    gives_cut (blocks_of c.args.graph.now) c.args.bytes.now few c.judge.result c.judge.ensures
