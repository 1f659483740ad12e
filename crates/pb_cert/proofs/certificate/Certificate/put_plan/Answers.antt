use Rattle.std.proofs.Common.{sym, ap, ◌∙◌}
use Rattle.pb_cert.specs.Stated.{SpelledCertificate}
use Rattle.pb_cert.proofs.LineTexts.{none_put}
use Rattle.pb_cert.proofs.certificate.Certificate.put_plan.Goals as goal

pub returns-in-None : goal.returns-in-None
returns-in-None c = none_put c.args.out.now c.push.new.self c.args.self.now.certificate.plan c.args.at (sym (ap (λ (s : SpelledCertificate). s.certificate.plan) c.self.view_is) ∙ c.in-None.is) c.requires.within c.push.ensures
