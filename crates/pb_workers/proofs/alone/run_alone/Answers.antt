use Rattle.std.proofs.Common.{is_some, ap}
use Rattle.pb_workers.proofs.Going.{on_then}
use Rattle.pb_workers.proofs.Ended.{best_end, spent_end}
use Rattle.pb_workers.proofs.alone.run_alone.Goals as goal

pub returns-in_err-tools-clause-quiet : goal.returns-in_err-tools-clause-quiet
returns-in_err-tools-clause-quiet g c = best_end c.args.graph.now c.abstraction.ensures.lawful c.requires.home c.requires.moment.0 c.requires.moment.1 c.requires.moment.2

pub returns-in_err-tools-clause-budget : goal.returns-in_err-tools-clause-budget
returns-in_err-tools-clause-budget g c = spent_end c.args.graph.now c.abstraction.ensures.lawful c.requires.home c.requires.moment.0 c.requires.moment.1 c.requires.moment.2

pub returns-clause-run : goal.returns-clause-run
returns-clause-run g c = on_then c.args.graph.now c.search-end.new.graph c.sign_off.new.graph c.search-end.ensures.same c.search-end.ensures.run c.sign_off.ensures.run

pub returns-clause-quiet : goal.returns-clause-quiet
returns-clause-quiet g c =
    let last = on_then c.args.graph.now c.search-end.new.graph c.sign_off.new.graph c.search-end.ensures.same c.search-end.ensures.run c.sign_off.ensures.run c.requires.moment.0 c.requires.moment.1 c.requires.moment.2 in
    best_end c.sign_off.new.graph c.sign_off.ensures.lawful (c.sign_off.ensures.home c.search-end.ensures.home) c.requires.moment.0 last.0 last.1.moment

pub returns-clause-budget : goal.returns-clause-budget
returns-clause-budget g c =
    let last = on_then c.args.graph.now c.search-end.new.graph c.sign_off.new.graph c.search-end.ensures.same c.search-end.ensures.run c.sign_off.ensures.run c.requires.moment.0 c.requires.moment.1 c.requires.moment.2 in
    spent_end c.sign_off.new.graph c.sign_off.ensures.lawful (c.sign_off.ensures.home c.search-end.ensures.home) c.requires.moment.0 last.0 last.1.moment

pub returns-in_err-tools-clause-marks : goal.returns-in_err-tools-clause-marks
returns-in_err-tools-clause-marks g c before = ap is_some before

pub returns-clause-marks : goal.returns-clause-marks
returns-clause-marks g c before = ap is_some (c.sign_off.ensures.turn (c.search-end.ensures.turn before))
