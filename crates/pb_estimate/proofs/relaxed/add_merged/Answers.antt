use Rattle.std.proofs.Common.{◌≡◌, ◌<◌, ◌≤◌, ◌++◌, ◌==◌, ℕ, List, [], ◌∷◌, length, get_or, All, Contains, if◌then◌else◌, subst, sym, ap, arith, ◌∙◌}
use Rattle.pb_packed.specs.Sizes.{most_atoms}
use Rattle.pb_estimate.specs.Tables.{atoms_in}
use Rattle.pb_estimate.proofs.Released.{Ascend}
use Rattle.pb_estimate.proofs.Sets.{all_in}
use Rattle.pb_estimate.proofs.Relaxing.{few_atoms, atoms_ascend, relaxed_more}
use Rattle.pb_estimate.proofs.relaxed.add_merged.Goals as goal

pub add_action-requires-clause-inside : goal.add_action-requires-clause-inside
add_action-requires-clause-inside c =
    subst (λ (xs : List ℕ). All (λ atom. atom < length c.args.users.now) xs) (sym (c.as_slice.ensures ∙ c.in_ok-needs.ensures))
    (all_in (λ atom. atom < length c.args.users.now) c.args.action.now.needs c.args.count (λ atom less has. omega (arith, less, c.requires.users)))

pub add_action-requires-clause-ascend : goal.add_action-requires-clause-ascend
add_action-requires-clause-ascend c = subst Ascend (sym (c.as_slice.ensures ∙ c.in_ok-needs.ensures)) (atoms_ascend c.args.action.now.needs c.args.count)

pub add_action-requires-clause-few : goal.add_action-requires-clause-few
add_action-requires-clause-few c =
    let few : length (atoms_in c.args.action.now.needs c.args.count) ≤ c.args.count = few_atoms c.args.action.now.needs c.args.count in
    let is : length c.as_slice.result.now ≡ length (atoms_in c.args.action.now.needs c.args.count) = ap length (c.as_slice.ensures ∙ c.in_ok-needs.ensures) in
    let most : c.args.count ≤ most_atoms = c.requires.count in
    omega arith

pub returns-clause-relaxed : goal.returns-clause-relaxed
returns-clause-relaxed c = λ before are.
    let needs : c.as_slice.result.now ≡ atoms_in c.args.action.now.needs c.args.count = c.as_slice.ensures ∙ c.in_ok-needs.ensures in
    relaxed_more c.args.count before c.args.action.now c.args.users.now c.add_action.new.users c.args.task.now c.add_action.new.task are
    (c.in_ok-add_action.ensures.actions
    ∙ ap (λ (adds : List ℕ). c.args.task.now.actions ++ record { adds = adds; cost = c.args.action.now.cost } ∷ []) (c.as_slice-2.ensures ∙ c.in_ok-adds.ensures))
    (c.in_ok-add_action.ensures.needs ∙ ap (λ (xs : List ℕ). c.args.task.now.needs.items ++ length xs ∷ []) needs)
    c.in_ok-add_action.ensures.many
    (subst
    (λ (xs : List ℕ). All (λ atom. get_or c.add_action.new.users atom [] ≡ get_or c.args.users.now atom [] ++ length c.args.task.now.needs.items ∷ []) xs) needs
    c.in_ok-add_action.ensures.pushed)
    (subst
    (λ (xs : List ℕ). (atom : ℕ) → (Contains xs atom → ⊥) → get_or c.add_action.new.users atom [] ≡ get_or c.args.users.now atom []) needs
    c.in_ok-add_action.ensures.others)
    (c.in_ok-add_action.ensures.free
    ∙ ap (λ (xs : List ℕ). if length xs == 0 then c.args.task.now.free ++ length c.args.task.now.needs.items ∷ [] else c.args.task.now.free) needs)
