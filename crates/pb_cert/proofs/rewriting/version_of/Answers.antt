use Rattle.pb_estimate.specs.declared.spelling.Version.TheVariants.{Four}
use Rattle.pb_cert.proofs.LinesAnew.{said, unsaid}
use Rattle.pb_cert.proofs.rewriting.version_of.Goals as goal

pub returns-in-Some : goal.returns-in-Some
returns-in-Some c = said Four c.args.bytes.now _ (rw c.in-Some.is at c.behind.ensures.some)

pub returns-in-None : goal.returns-in-None
returns-in-None c = λ spelling certificate spelled.
    c.three_or_less.ensures spelling certificate spelled
    (unsaid Four c.args.bytes.now (rw c.in-None.is at c.behind.ensures.none) spelling certificate spelled)
