use Rattle.pb_pattern.proofs.images.+placing_from.Given as goal

abbrev pub decreases-placing_from : goal.decreases-placing_from
decreases-placing_from l = l.many
