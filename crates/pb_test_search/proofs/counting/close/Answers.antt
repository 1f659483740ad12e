use Rattle.pb_test_search.proofs.CountingKeeps.{closed}
use Rattle.pb_test_search.proofs.counting.close.Goals as goal

pub returns : goal.returns
returns c = let s = c.close_with-counter.ensures.rule in let e = closed _ _ _ _ s.0 s.1 s.2 s.3 in record { count = e.0; history = e.1 }
