-- The rows of a search by leases that are all at home.
use Rattle.pb_lease.specs.AtHome.{HomeRowsAreWhole}
use Rattle.pb_lease.proofs.GraphBasics.{all_rows}

pub home_rows_are_whole : HomeRowsAreWhole
home_rows_are_whole g recorded machine k home m = λ i. record {
  rows = λ block state. all_rows g k recorded machine m.at home block state i;
  incumbent = m.incumbent i;
  weight = m.at.lawful.weight i;
}
