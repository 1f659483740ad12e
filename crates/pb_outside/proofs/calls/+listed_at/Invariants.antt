use Rattle.std.proofs.Common.{length}
use Rattle.pb_outside.proofs.calls.+listed_at.Given as goal

abbrev pub decreases-listed_at : goal.decreases-listed_at
decreases-listed_at l = length l.listed.now
