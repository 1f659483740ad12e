use Rattle.pb_estimate.specs.declared.spelling.Version.TheVariants.{Two}
use Rattle.pb_cert.proofs.LinesAnew.{said, unsaid, only_one}
use Rattle.pb_cert.proofs.rewriting.one_or_two.Goals as goal

pub returns-in-Some : goal.returns-in-Some
returns-in-Some c = λ spelling certificate spelled four three.
    said Two c.args.bytes.now _ (rw c.in-Some.is at c.behind.ensures.some) spelling certificate spelled

pub returns-in-None : goal.returns-in-None
returns-in-None c = λ spelling certificate spelled four three.
    only_one spelling.version
    (unsaid Two c.args.bytes.now (rw c.in-None.is at c.behind.ensures.none) spelling certificate spelled) three four
