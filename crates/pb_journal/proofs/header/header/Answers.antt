use Rattle.std.proofs.Common.{refl}
use Rattle.pb_journal.specs.Reading.{header_of}
use Rattle.pb_journal.proofs.header.header.Goals as goal

pub returns-clause-reads : goal.returns-clause-reads
unfolding header_of
returns-clause-reads c =
    rw (
      c.in_ok-rest.ensures.reads,
      c.in_ok-wish.ensures.reads,
      c.in_ok-workers.ensures.reads,
      c.in_ok-budget.ensures.reads,
      c.in_ok-lot.ensures.reads,
      c.in_ok-plain.ensures.reads,
    )
    refl
