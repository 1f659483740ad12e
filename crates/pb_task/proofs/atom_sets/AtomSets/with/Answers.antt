use Rattle.std.proofs.Common.{◌≤◌, ◌*◌, ◌^◌, arith}
use Rattle.pb_task.proofs.AtomSets.{more_than}
use Rattle.pb_task.proofs.atom_sets.AtomSets.with.Goals as goal

pub push-requires : goal.push-requires
push-requires c =
    let more : 2 ^ (64 * c.words_for.result) ≤ 2 ^ (64 * c.in_ok-sets.sets.width) =
    more_than (64 * c.words_for.result) (64 * c.in_ok-sets.sets.width) (omega (arith, c.in_ok-sets.ensures.width)) in
    record { fits = omega (arith, c.words_for.ensures.fits, more) }
