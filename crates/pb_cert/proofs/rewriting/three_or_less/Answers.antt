use Rattle.pb_estimate.specs.declared.spelling.Version.TheVariants.{Three}
use Rattle.pb_cert.proofs.LinesAnew.{said, unsaid}
use Rattle.pb_cert.proofs.rewriting.three_or_less.Goals as goal

pub returns-in-Some : goal.returns-in-Some
returns-in-Some c = λ spelling certificate spelled later.
    said Three c.args.bytes.now _ (rw c.in-Some.is at c.behind.ensures.some) spelling certificate spelled

pub returns-in-None : goal.returns-in-None
returns-in-None c = λ spelling certificate spelled later.
    c.one_or_two.ensures spelling certificate spelled later
    (unsaid Three c.args.bytes.now (rw c.in-None.is at c.behind.ensures.none) spelling certificate spelled)
