use Rattle.std.proofs.Common.{◌-◌, ◌*◌}
use Rattle.pb_check.proofs.front_shares.+fn-spell_shares-join+arg2+spell_shares.Given as goal

abbrev pub decreases-join+arg2 : goal.decreases-join+arg2
decreases-join+arg2 g l = 2 * l.shares - 1

abbrev pub decreases-spell_shares : goal.decreases-spell_shares
decreases-spell_shares g l = 2 * l.shares
