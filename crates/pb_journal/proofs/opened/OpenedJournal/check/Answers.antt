use Rattle.std.proofs.Common.{◌≤◌, subst, arith}
use Rattle.pb_machine.specs.Counts.{opening_counts}
use Rattle.pb_abstract.specs.Graph.{blocks_of}
use Rattle.pb_journal.specs.Faults.{Gives}
use Rattle.pb_journal.specs.Judging.{events_of}
use Rattle.pb_journal.specs.Opened.{Opened, IsOpened}
use Rattle.pb_journal.proofs.Answered.{if_accepted, gives_accepted, events_judged}
use Rattle.pb_journal.proofs.Cuts.{gives_cut}
use Rattle.pb_journal.proofs.opened.OpenedJournal.check.Goals as goal

pub returns-clause-exact : goal.returns-clause-exact
returns-clause-exact c =
    let is_opened : IsOpened c.args.self.now c.self.inside.events.now =
    subst (λ (o : Opened). IsOpened o c.self.inside.events.now) c.self.view_is c.self.invariant in
    let given =
    subst (λ (o : Opened). Gives (λ n. n) c.judge_events.result (events_of
    (blocks_of c.args.graph.now) o.settings (opening_counts o.settings 0)
    c.self.inside.events.now)) c.self.view_is c.judge_events.ensures in
    events_judged (blocks_of c.args.graph.now) c.args.self.now c.self.inside.events.now
    is_opened c.judge_events.result given

pub returns-clause-finished : goal.returns-clause-finished
returns-clause-finished c =
    if_accepted (blocks_of c.args.graph.now) c.args.self.now.bytes c.judge_events.result
    (returns-clause-exact c)

pub returns-clause-only : goal.returns-clause-only
returns-clause-only c =
    let few : (blocks_of c.args.graph.now).count ≤ 4096 =
    omega (arith, c.count-blocks.ensures.count, c.count-blocks.ensures.few) in
    gives_accepted (blocks_of c.args.graph.now) c.args.self.now.bytes few c.judge_events.result
    (returns-clause-exact c)

pub returns-clause-cut : goal.returns-clause-cut
returns-clause-cut c =
    let few : (blocks_of c.args.graph.now).count ≤ 4096 =
    omega (arith, c.count-blocks.ensures.count, c.count-blocks.ensures.few) in
    gives_cut (blocks_of c.args.graph.now) c.args.self.now.bytes few c.judge_events.result
    (returns-clause-exact c)
