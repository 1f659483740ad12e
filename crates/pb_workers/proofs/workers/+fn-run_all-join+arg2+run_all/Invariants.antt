use Rattle.std.proofs.Common.{◌+◌, ◌*◌, vec_len}
use Rattle.pb_workers.proofs.workers.+fn-run_all-join+arg2+run_all.Given as goal

abbrev pub decreases-run_all : goal.decreases-run_all
decreases-run_all g l = 2 * vec_len l.others

abbrev pub decreases-join+arg2 : goal.decreases-join+arg2
decreases-join+arg2 g l = 2 * vec_len l.others + 1
