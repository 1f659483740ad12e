use Rattle.std.proofs.Common.{◌≡◌, ℕ, ◌+◌, ◌<◌, ◌≤◌, ◌⊎◌, List, length, get_or, take, All, Contains, true, subst, sym, arith}
use Rattle.std.proofs.lemmas.List.{take_all}
use Rattle.pb_estimate.specs.Layers.{is_reached}
use Rattle.pb_estimate.specs.Relaxed.{relaxed_at}
use Rattle.pb_estimate.proofs.Released.{not_before, there, counted_more, others_more}
use Rattle.pb_estimate.proofs.Layering.{kept_more, reaches_more, only_by_more}
use Rattle.pb_estimate.proofs.layers.count_down_each.Goals as goal

pub loop-user-preserved : goal.loop-user-preserved
loop-user-preserved c =
    let less : c.loop-user.user-index < length c.args.users.now = c.loop-user-test.true in
    let inside : get_or c.args.users.now c.loop-user.user-index 0 < length c.loop-user.counts =
    (let user = (c.requires.users c.loop-user.user-index 0 c.loop-user-test.true).0 in omega (arith, user, c.loop-user.auto.counts, c.requires.counts)) in
    let some : 1 ≤ get_or c.loop-user.counts (get_or c.args.users.now c.loop-user.user-index 0) 0 =
    subst (λ n. 1 ≤ n) (sym (c.loop-user.invariant.others (get_or c.args.users.now c.loop-user.user-index 0) (not_before c.args.users.now c.loop-user.user-index less c.requires.ascend)))
    (c.requires.users c.loop-user.user-index 0 c.loop-user-test.true).1 in
    let apart = there c.args.users.now c.loop-user.user-index less c.requires.ascend c.args.counts.now c.loop-user.counts c.count_down.new.counts inside some c.count_down.ensures.counts in
    record {
      is = c.count_down.ensures.is;
      counted = counted_more c.args.users.now c.loop-user.user-index less c.requires.ascend c.args.counts.now c.loop-user.counts c.count_down.new.counts inside some c.count_down.ensures.counts
          c.loop-user.invariant.counted c.loop-user.invariant.others;
      others = others_more c.args.users.now c.loop-user.user-index less c.requires.ascend c.args.counts.now c.loop-user.counts c.count_down.new.counts inside some c.count_down.ensures.counts
          c.loop-user.invariant.others;
      kept = kept_more c.args.layers.now c.loop-user.layers c.count_down.new.layers c.loop-user.invariant.kept c.count_down.ensures.kept;
      stays = λ atom h. c.count_down.ensures.stays atom (c.loop-user.invariant.stays atom h);
      reaches = reaches_more c.args.users.now c.loop-user.user-index less c.requires.ascend c.loop-user.counts c.count_down.new.counts apart c.args.actions.now c.args.layers.now c.loop-user.layers
          c.count_down.new.layers c.count_down.ensures.stays c.loop-user.invariant.reaches c.count_down.ensures.reaches;
      only = only_by_more c.args.users.now c.loop-user.user-index less c.requires.ascend c.loop-user.counts c.count_down.new.counts apart c.args.actions.now c.args.layers.now c.loop-user.layers
          c.count_down.new.layers c.count_down.ensures.stays c.loop-user.invariant.only c.count_down.ensures.only;
    }

pub returns-clause-counted : goal.returns-clause-counted
returns-clause-counted c =
    let all : take c.loop-user.user-index c.args.users.now ≡ c.args.users.now = take_all c.loop-user.user-index c.args.users.now c.loop-user-test.false in
    subst (λ users. All (λ user. get_or c.loop-user.counts user 0 + 1 ≡ get_or c.args.counts.now user 0) users) all c.loop-user.invariant.counted

pub returns-clause-reaches : goal.returns-clause-reaches
returns-clause-reaches c =
    let all : take c.loop-user.user-index c.args.users.now ≡ c.args.users.now = take_all c.loop-user.user-index c.args.users.now c.loop-user-test.false in
    subst (λ users. All (λ user. get_or c.loop-user.counts user 0 ≡ 0 → All (λ atom. is_reached c.loop-user.layers atom ≡ true) (relaxed_at c.args.actions.now user).adds) users)
    all c.loop-user.invariant.reaches

pub returns-clause-only : goal.returns-clause-only
returns-clause-only c =
    let all : take c.loop-user.user-index c.args.users.now ≡ c.args.users.now = take_all c.loop-user.user-index c.args.users.now c.loop-user-test.false in
    subst
    (λ (users : List ℕ). (atom : ℕ) → is_reached c.loop-user.layers atom ≡ true
    → (is_reached c.args.layers.now atom ≡ true) ⊎ ((user : ℕ) × Contains users user × (get_or c.loop-user.counts user 0 ≡ 0) × Contains (relaxed_at c.args.actions.now user).adds atom)) all
    c.loop-user.invariant.only
