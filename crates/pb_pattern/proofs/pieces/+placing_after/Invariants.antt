use Rattle.pb_pattern.proofs.pieces.+placing_after.Given as goal

abbrev pub decreases-placing_after : goal.decreases-placing_after
decreases-placing_after l = l.count
