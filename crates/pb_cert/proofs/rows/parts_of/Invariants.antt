use Rattle.pb_cert.proofs.Places.{AreFirstPartsOf}
use Rattle.pb_cert.proofs.rows.parts_of.Given as goal

abbrev pub invariant-parts : goal.invariant-parts
invariant-parts g l = AreFirstPartsOf (g.S.Store.rows l.store) l.i l.parts.items
