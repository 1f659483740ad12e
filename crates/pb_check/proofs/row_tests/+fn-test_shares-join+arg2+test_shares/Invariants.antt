use Rattle.std.proofs.Common.{◌-◌, ◌*◌}
use Rattle.pb_check.proofs.row_tests.+fn-test_shares-join+arg2+test_shares.Given as goal

abbrev pub decreases-join+arg2 : goal.decreases-join+arg2
decreases-join+arg2 g l = 2 * l.shares - 1

abbrev pub decreases-test_shares : goal.decreases-test_shares
decreases-test_shares g l = 2 * l.shares
