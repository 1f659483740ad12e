use Rattle.std.proofs.Common.{sym, ap, ◌∙◌}
use mathlib.Core.Option.{some}
use Rattle.pb_turn.specs.Passes.{number}
use Rattle.pb_test_search.proofs.LoweringKeeps.{read_keeps}
use Rattle.pb_test_search.proofs.lowering.read.Goals as goal

pub word-requires-clause-rule : goal.word-requires-clause-rule
word-requires-clause-rule c x number views h at held = read_keeps _ _ views h

pub returns-clause-falls : goal.returns-clause-falls
returns-clause-falls c last is = let r = c.word.ensures.rule in r.1.1 (number c.args.pass.now) last (r.1.2 ∙ ap some is)
