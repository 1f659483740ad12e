use Rattle.pb_bundles.proofs.ByKey.{first_choices_are_by_key}
use Rattle.pb_bundles.proofs.laws.first_choices_are_by_key.Goals as goal

pub returns : goal.returns
returns c = first_choices_are_by_key
