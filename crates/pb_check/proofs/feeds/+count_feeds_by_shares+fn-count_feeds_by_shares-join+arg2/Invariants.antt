use Rattle.std.proofs.Common.{◌-◌, ◌*◌}
use Rattle.pb_check.proofs.feeds.+count_feeds_by_shares+fn-count_feeds_by_shares-join+arg2.Given as goal

abbrev pub decreases-join+arg2 : goal.decreases-join+arg2
decreases-join+arg2 g l = 2 * l.shares - 1

abbrev pub decreases-count_feeds_by_shares : goal.decreases-count_feeds_by_shares
decreases-count_feeds_by_shares g l = 2 * l.shares
