use Rattle.std.proofs.Common.{refl, length}
use Rattle.pb_pattern.proofs.Imaged.{parts_are}
use Rattle.pb_pattern.proofs.images.sets_of.Goals as goal

pub returns : goal.returns
returns c =
    parts_are c.args.strips.now c.args.tracked.now (record { atoms = length c.args.tracked.now; rules = c.in_ok-rules.rules; start = c.image_of_set.result; goal = c.image_of_set-2.result }) refl
    c.in_ok-rules.ensures c.image_of_set.ensures.image c.image_of_set-2.ensures.image
