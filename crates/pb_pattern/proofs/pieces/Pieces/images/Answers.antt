use Rattle.pb_pattern.proofs.Slots.{placings_are}
use Rattle.pb_pattern.proofs.pieces.Pieces.images.Goals as goal

pub returns : goal.returns
returns c = placings_are c.args.self.now.count c.requires.count.1
