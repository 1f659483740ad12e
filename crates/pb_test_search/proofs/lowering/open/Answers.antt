use Rattle.pb_test_search.proofs.LoweringKeeps.{opens}
use Rattle.pb_test_search.proofs.lowering.open.Goals as goal

pub new-requires : goal.new-requires
new-requires g c = record { rule = opens c.args.number }
