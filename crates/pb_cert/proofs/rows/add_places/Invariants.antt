use Rattle.std.proofs.Common.{◌≡◌, ◌++◌, map, take}
use Rattle.pb_cert.specs.Listed.{entry_line, line_in}
use Rattle.pb_cert.proofs.Places.{place_in}
use Rattle.pb_cert.proofs.rows.add_places.Given as goal

abbrev pub invariant-rows : goal.invariant-rows
invariant-rows l = map (line_in l.bundle) l.own.items ≡ map entry_line (take l.at l.bundle.entries)

abbrev pub invariant-places : goal.invariant-places
invariant-places l = l.places.items ≡ l.fn.places.items ++ map (place_in l.part) (take l.at-index l.at-items)
