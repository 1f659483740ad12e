use Rattle.pb_test_search.proofs.CountingKeeps.{meet_keeps}
use Rattle.pb_test_search.proofs.counting.count_by_two.Goals as goal

pub meet-requires-clause-rule : goal.meet-requires-clause-rule
meet-requires-clause-rule g c x number views h at apart there = meet_keeps _ _ _ _ _ _ views h at there
