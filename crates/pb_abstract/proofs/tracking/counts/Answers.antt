use Rattle.std.proofs.Common.{◌≡◌, ◌+◌, ◌<◌, ◌≤◌, ℕ, List, get_or, length, drop, ap, arith}
use Rattle.pb_abstract.specs.Tracked.{changers}
use Rattle.pb_abstract.proofs.Ranking.{changers_small}
use Rattle.pb_abstract.proofs.tracking.counts.Goals as goal

pub count_action-requires-clause-small : goal.count_action-requires-clause-small
count_action-requires-clause-small c = λ atom less.
    let actions = c.args.strips.now.actions in
    let within : atom < c.args.strips.now.atoms = omega (arith, less, ap (λ (list : List ℕ). length list) c.as_mut_slice.ensures.value, c.loop-at.invariant.len) in
    let most : changers atom actions ≤ length actions = changers_small atom actions in
    let so_far : get_or c.loop-at.counts.items atom 0 + changers atom (drop c.loop-at.at actions) ≡ changers atom actions = c.loop-at.invariant.each atom within in
    let here : get_or c.as_mut_slice.result.now atom 0 ≡ get_or c.loop-at.counts.items atom 0 = ap (λ (list : List ℕ). get_or list atom 0) c.as_mut_slice.ensures.value in
    omega (arith, here, so_far, most, c.requires.few)
