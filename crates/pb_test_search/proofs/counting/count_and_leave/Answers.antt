use Rattle.std.proofs.Common.{◌∙◌, subst, ◌≡◌, MatchBool, ◌++◌, ◌∷◌, []}
use Rattle.pb_test_search.specs.Counting.{counted}
use Rattle.pb_test_search.specs.declared.counting.Counter.{Counter}
use Rattle.pb_test_search.proofs.CountingKeeps.{holding_keeps}
use Rattle.pb_test_search.proofs.counting.count_and_leave.Goals as goal

pub leave-requires-clause-rule : goal.leave-requires-clause-rule
leave-requires-clause-rule c =
    let after = c.count_once-did.new.self in
    let did = c.count_once-did.result in
    let same = c.state_mut.ensures.value ∙ c.requires.holds.1 in
    λ number. holding_keeps did _ _ _ _ _ _ (subst (λ (x : Counter). after.count ≡ counted did x.count) same c.count_once-did.ensures.count)
    (subst (λ (x : Counter). MatchBool did (after.history.items ≡ x.history.items ++ after.count ∷ []) (after.history.items ≡ x.history.items)) same c.count_once-did.ensures.history)
