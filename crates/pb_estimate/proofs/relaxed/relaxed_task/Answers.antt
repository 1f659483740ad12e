use Rattle.std.proofs.Common.{◌≡◌, ◌<◌, ◌≤◌, ◌+◌, ◌++◌, ℕ, List, [], ◌∷◌, length, get_or, take, subst, sym, ap, arith, ◌∙◌}
use Rattle.std.proofs.lemmas.List.{take_more, take_all, length-map, length-take-le, length-replicate, get_or_read}
use Rattle.pb_estimate.specs.declared.merging.MergedAction.{MergedAction}
use Rattle.pb_estimate.specs.Merged.{merged_at}
use Rattle.pb_estimate.specs.Tables.{atoms_in, AreUsers, AreRelaxed}
use Rattle.pb_estimate.proofs.Relaxing.{wanted_still}
use Rattle.pb_estimate.proofs.relaxed.relaxed_task.Goals as goal

pub loop-at-init : goal.loop-at-init
loop-at-init c = record {
  users = ap length c.in_ok-users.ensures ∙ length-replicate c.args.strips.now.atoms [];
  actions = subst (λ (us : List (List ℕ)). AreRelaxed c.args.strips.now.atoms [] us c.in_ok-task.task) (sym c.in_ok-users.ensures) c.in_ok-task.ensures.actions;
  goal = c.in_ok-task.ensures.goal;
}

pub add_merged-requires-clause-many : goal.add_merged-requires-clause-many
add_merged-requires-clause-many c =
    let few : length c.in_ok-merged.merged.items ≤ 65536 = c.in_ok-merged.ensures.few in
    let less : c.loop-at.at < length c.in_ok-merged.merged.items = omega arith in
    let long : length (take c.loop-at.at c.in_ok-merged.merged.items) ≡ c.loop-at.at = length-take-le c.loop-at.at c.in_ok-merged.merged.items (omega arith) in
    let same : length c.loop-at.task.needs.items ≡ length (take c.loop-at.at c.in_ok-merged.merged.items) =
    ap length c.loop-at.invariant.actions.needs
    ∙ length-map (take c.loop-at.at c.in_ok-merged.merged.items) (λ (action : MergedAction). length (atoms_in action.needs c.args.strips.now.atoms)) in
    let small : length c.loop-at.task.needs.items < 65536 = omega arith in
    small

pub loop-at-preserved : goal.loop-at-preserved
loop-at-preserved c =
    let less : c.loop-at.at < length c.in_ok-merged.merged.items = omega arith in
    let read : c.index.result.now ≡ merged_at c.in_ok-merged.merged.items c.loop-at.at =
    get_or_read c.in_ok-merged.merged.items c.loop-at.at c.index.result.now less c.index.ensures (record { needs = 0; adds = 0; cost = 1 }) in
    let next : take (c.loop-at.at + 1) c.in_ok-merged.merged.items ≡ take c.loop-at.at c.in_ok-merged.merged.items ++ merged_at c.in_ok-merged.merged.items c.loop-at.at ∷ [] =
    take_more c.in_ok-merged.merged.items c.loop-at.at (record { needs = 0; adds = 0; cost = 1 }) less in
    record {
      users = c.in_ok-add_merged.ensures.users;
      actions = subst (λ (xs : List MergedAction). AreRelaxed c.args.strips.now.atoms xs c.add_merged.new.users c.add_merged.new.task)
          (ap (λ (m : MergedAction). take c.loop-at.at c.in_ok-merged.merged.items ++ m ∷ []) read ∙ sym next)
          (c.in_ok-add_merged.ensures.relaxed (take c.loop-at.at c.in_ok-merged.merged.items) c.loop-at.invariant.actions);
      goal = wanted_still c.args.strips.now.goal c.args.strips.now.atoms c.loop-at.task c.add_merged.new.task c.in_ok-add_merged.ensures.goal.0 c.in_ok-add_merged.ensures.goal.1
          c.loop-at.invariant.goal;
    }

pub returns-clause-actions : goal.returns-clause-actions
returns-clause-actions c =
    let all : take c.loop-at.at c.in_ok-merged.merged.items ≡ c.in_ok-merged.merged.items = take_all c.loop-at.at c.in_ok-merged.merged.items (omega arith) in
    let are : AreRelaxed c.args.strips.now.atoms c.in_ok-merged.merged.items c.loop-at.users c.loop-at.task =
    subst (λ (xs : List MergedAction). AreRelaxed c.args.strips.now.atoms xs c.loop-at.users c.loop-at.task) all c.loop-at.invariant.actions in
    record {
      merged = c.in_ok-merged.merged.items;
      stand = c.in_ok-merged.ensures.stand;
      relaxed = record {
        relaxed = are.relaxed;
        needs = are.needs;
        many = ap length c.in_ok-task-2.ensures ∙ are.many;
        users = λ atom less. subst (λ (us : List (List ℕ)). AreUsers c.in_ok-merged.merged.items atom (get_or us atom [])) (sym c.in_ok-task-2.ensures) (are.users atom less);
        free = are.free;
      };
    }
