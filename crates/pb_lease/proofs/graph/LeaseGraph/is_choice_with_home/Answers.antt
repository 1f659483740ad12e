use Rattle.std.proofs.Common.{◌≡◌, true, Some, subst, rules, tests}
use Rattle.pb_bundles.specs.Homes.{key_at}
use Rattle.pb_bundles.specs.Choosing.{MayBeFirst}
use Rattle.pb_lease.specs.Choices.{IsChoiceWithHome, can_be_leased_home}
use Rattle.pb_lease.proofs.Rivals.{best_is_one}
use Rattle.pb_lease.proofs.graph.LeaseGraph.is_choice_with_home.Goals as goal

pub returns : goal.returns
returns c =
    let g = c.args.self.now in
    let lease = c.args.lease.now in
    let same : (c.eq.result ≡ true → c.choice_with_home.result ≡ Some lease.block) × (c.choice_with_home.result ≡ Some lease.block → c.eq.result ≡ true) = (λ e. grind (rules, tests), λ e. grind (rules, tests)) in
    (λ e. subst (IsChoiceWithHome g lease g) (same.0 e) c.choice_with_home.ensures, λ choice. same.1 (best_is_one (MayBeFirst (can_be_leased_home g lease) (key_at g.homes)) (key_at g.homes) c.choice_with_home.result (Some lease.block) c.choice_with_home.ensures choice))
