use Rattle.pb_test_search.proofs.LoweringKeeps.{lower_keeps}
use Rattle.pb_test_search.proofs.lowering.bring.Goals as goal

pub lower_word-requires-clause-rule : goal.lower_word-requires-clause-rule
lower_word-requires-clause-rule c x number views h at = lower_keeps _ _ _ _ views h at
