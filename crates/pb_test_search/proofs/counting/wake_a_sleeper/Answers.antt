use Rattle.pb_test_search.proofs.CountingKeeps.{split_keeps, meet_keeps}
use Rattle.pb_test_search.proofs.counting.wake_a_sleeper.Goals as goal

pub split-second-requires-clause-rule : goal.split-second-requires-clause-rule
split-second-requires-clause-rule g c x number views h at = split_keeps _ _ _ _ views h at

pub meet-requires-clause-rule : goal.meet-requires-clause-rule
meet-requires-clause-rule g c x number views h at apart there = meet_keeps _ _ _ _ _ _ views h at there
