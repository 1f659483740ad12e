use Rattle.std.proofs.Common.{◌≡◌, Bool, true, not, is_some, Option, Some, None, ap, ◌∙◌, true≢false}
use Rattle.pb_machine.specs.declared.event.End.{End}
use Rattle.pb_workers.proofs.Closed.{closed_home, closed_signed, closed_runs, closed_turn}
use Rattle.pb_workers.proofs.closing.sign_off.Goals as goal

-- the worker reports out of memory only if no end stands
unended : (standing end : Option End) (report : Bool) → is_some end ≡ not report → standing ≡ end → report ≡ true → standing ≡ None
unended standing None report is same e = same
unended standing (Some end) report is same e = absurd (true≢false (is ∙ ap not e))

pub returns-in-Some-Quiet-clause-run : goal.returns-in-Some-Quiet-clause-run
returns-in-Some-Quiet-clause-run c = closed_runs c.args.graph.now _ c.sign_off.new.self c.sign_off.ensures.signed_off (unended c.args.graph.now.table.end c.args.end c.is_none.result c.is_none.ensures c.requires.end) c.sign_off.ensures.moment

pub returns-in-Some-Quiet-clause-signed_off : goal.returns-in-Some-Quiet-clause-signed_off
returns-in-Some-Quiet-clause-signed_off c = closed_signed c.args.graph.now _ c.sign_off.new.self c.sign_off.ensures.signed_off

pub returns-in-Some-Quiet-2-clause-run : goal.returns-in-Some-Quiet-2-clause-run
returns-in-Some-Quiet-2-clause-run c = closed_runs c.args.graph.now _ c.sign_off.new.self c.sign_off.ensures.signed_off (unended c.args.graph.now.table.end c.args.end c.is_none.result c.is_none.ensures c.requires.end) c.sign_off.ensures.moment

pub returns-in-Some-Quiet-2-clause-signed_off : goal.returns-in-Some-Quiet-2-clause-signed_off
returns-in-Some-Quiet-2-clause-signed_off c = closed_signed c.args.graph.now _ c.sign_off.new.self c.sign_off.ensures.signed_off

pub returns-in-Some-Memory-clause-run : goal.returns-in-Some-Memory-clause-run
returns-in-Some-Memory-clause-run c = closed_runs c.args.graph.now _ c.sign_off.new.self c.sign_off.ensures.signed_off (unended c.args.graph.now.table.end c.args.end c.is_none.result c.is_none.ensures c.requires.end) c.sign_off.ensures.moment

pub returns-in-Some-Memory-clause-signed_off : goal.returns-in-Some-Memory-clause-signed_off
returns-in-Some-Memory-clause-signed_off c = closed_signed c.args.graph.now _ c.sign_off.new.self c.sign_off.ensures.signed_off

pub returns-in-Some-Memory-2-clause-run : goal.returns-in-Some-Memory-2-clause-run
returns-in-Some-Memory-2-clause-run c = closed_runs c.args.graph.now _ c.sign_off.new.self c.sign_off.ensures.signed_off (unended c.args.graph.now.table.end c.args.end c.is_none.result c.is_none.ensures c.requires.end) c.sign_off.ensures.moment

pub returns-in-Some-Memory-2-clause-signed_off : goal.returns-in-Some-Memory-2-clause-signed_off
returns-in-Some-Memory-2-clause-signed_off c = closed_signed c.args.graph.now _ c.sign_off.new.self c.sign_off.ensures.signed_off

pub returns-in-Some-Quiet-clause-home : goal.returns-in-Some-Quiet-clause-home
returns-in-Some-Quiet-clause-home c = closed_home c.args.graph.now _ c.sign_off.new.self c.sign_off.ensures.signed_off

pub returns-in-Some-Quiet-2-clause-home : goal.returns-in-Some-Quiet-2-clause-home
returns-in-Some-Quiet-2-clause-home c = closed_home c.args.graph.now _ c.sign_off.new.self c.sign_off.ensures.signed_off

pub returns-in-Some-Memory-clause-home : goal.returns-in-Some-Memory-clause-home
returns-in-Some-Memory-clause-home c = closed_home c.args.graph.now _ c.sign_off.new.self c.sign_off.ensures.signed_off

pub returns-in-Some-Memory-2-clause-home : goal.returns-in-Some-Memory-2-clause-home
returns-in-Some-Memory-2-clause-home c = closed_home c.args.graph.now _ c.sign_off.new.self c.sign_off.ensures.signed_off

pub returns-in-Some-Quiet-clause-turn : goal.returns-in-Some-Quiet-clause-turn
returns-in-Some-Quiet-clause-turn c = closed_turn c.args.graph.now _ c.sign_off.new.self c.sign_off.ensures.signed_off

pub returns-in-Some-Quiet-2-clause-turn : goal.returns-in-Some-Quiet-2-clause-turn
returns-in-Some-Quiet-2-clause-turn c = closed_turn c.args.graph.now _ c.sign_off.new.self c.sign_off.ensures.signed_off

pub returns-in-Some-Memory-clause-turn : goal.returns-in-Some-Memory-clause-turn
returns-in-Some-Memory-clause-turn c = closed_turn c.args.graph.now _ c.sign_off.new.self c.sign_off.ensures.signed_off

pub returns-in-Some-Memory-2-clause-turn : goal.returns-in-Some-Memory-2-clause-turn
returns-in-Some-Memory-2-clause-turn c = closed_turn c.args.graph.now _ c.sign_off.new.self c.sign_off.ensures.signed_off
