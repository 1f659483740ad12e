use Rattle.std.proofs.Common.{◌≡◌, ℕ, not, ◌&&◌, ◌||◌, List, [], ◌∷◌, ◌++◌, set, subst, sym, ap, ◌∙◌}
use Rattle.std.proofs.lemmas.List.{get_or_read}
use Rattle.pb_task.specs.Strips.{has_atom}
use Rattle.pb_estimate.specs.declared.merging.MergedAction.{MergedAction}
use Rattle.pb_estimate.specs.Merged.{merged_at, StandFor}
use Rattle.pb_estimate.proofs.Standing.{merged_stands}
use Rattle.pb_estimate.proofs.merging.add_to.Goals as goal

pub returns-clause-stand : goal.returns-clause-stand
returns-clause-stand c = λ before action stand adds needs same_needs same_cost.
    let items : List MergedAction = c.args.merging.now.actions.items in
    let read : c.index.result.now ≡ merged_at c.args.merging.now.actions.items c.args.place =
    get_or_read c.args.merging.now.actions.items c.args.place c.index.result.now c.requires.place c.index.ensures (record { needs = 0; adds = 0; cost = 1 }) in
    subst (λ (m : MergedAction). StandFor c.args.count (before ++ action ∷ []) (set c.args.merging.now.actions.items c.args.place (record { needs = m.needs; adds = c.with_new-joined.result; cost = m.cost })))
    (sym read)
    (merged_stands c.args.count before c.args.merging.now.actions.items stand action c.args.place c.with_new-joined.result c.requires.place (same_needs ∙ sym needs) same_cost (λ atom less.
    c.with_new-joined.ensures atom less
    ∙ ap (λ (m : MergedAction). has_atom m.adds atom || (has_atom c.args.adds.now atom && not (has_atom c.args.needs.now atom))) read
    ∙ ap (λ (s : ℕ). has_atom (merged_at c.args.merging.now.actions.items c.args.place).adds atom || (has_atom s atom && not (has_atom c.args.needs.now atom))) (sym adds)
    ∙ ap (λ (s : ℕ). has_atom (merged_at c.args.merging.now.actions.items c.args.place).adds atom || (has_atom action.adds atom && not (has_atom s atom))) (sym needs)))
