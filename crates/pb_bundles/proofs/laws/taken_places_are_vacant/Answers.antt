use Rattle.pb_bundles.proofs.ByRows.{taken_places_are_vacant}
use Rattle.pb_bundles.proofs.laws.taken_places_are_vacant.Goals as goal

pub returns : goal.returns
returns c = taken_places_are_vacant
