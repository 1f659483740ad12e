use Rattle.pb_cert.proofs.Places.{HaveLinesBelow}
use Rattle.pb_cert.proofs.rows.places_for.Given as goal

abbrev pub invariant-parts : goal.invariant-parts
invariant-parts l = HaveLinesBelow l.parts l.i l.places.items
