use Rattle.pb_make_laws.proofs.SpelledMaps.{made_maps_are_spelled}
use Rattle.pb_make_laws.proofs.laws.made_maps_are_spelled.Goals as goal

pub returns : goal.returns
returns c = made_maps_are_spelled
