use Rattle.pb_bundles.proofs.Opening.{opening_rows_are_home}
use Rattle.pb_bundles.proofs.laws.opening_rows_are_home.Goals as goal

pub returns : goal.returns
returns c = opening_rows_are_home
