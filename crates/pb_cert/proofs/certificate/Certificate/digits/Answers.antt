use Rattle.pb_cert.proofs.LineTexts.{width_of_spelling}
use Rattle.pb_cert.proofs.certificate.Certificate.digits.Goals as goal

pub returns-clause-some : goal.returns-clause-some
returns-clause-some c = (width_of_spelling c.self.inside.spelling c.self.invariant.0).0

pub returns-clause-most : goal.returns-clause-most
returns-clause-most c = (width_of_spelling c.self.inside.spelling c.self.invariant.0).1
