use Rattle.std.proofs.Common.{◌≡◌, ◌<◌, ◌+◌, ℕ, suc, List, length, drop, get_or, sym, ap, ◌∙◌, subst}
use Rattle.std.proofs.lemmas.List.{length-map}
use Rattle.pb_lifted.specs.Names.{fault_if, earliest}
use Rattle.pb_lifted.specs.Types.{type_names, height, is_cyclic, cyclic_in}
use Rattle.pb_lifted.specs.Tree.{parent_numbers, climb, does_not_lead, IsFar}
use Rattle.pb_lifted.proofs.TypeTree.{cyclic_is}
use Rattle.pb_lifted.proofs.Earliest.{earliest_append, dropped}
use Rattle.pb_lifted.proofs.tree.first_cycle.Goals as goal

each : (c : goal.After-note-found) (k : ℕ) → k < height c.args.types.now
    → get_or c.in_ok-far.far.items k 0 ≡ climb (parent_numbers (type_names c.args.types.now) c.args.types.now) (height c.args.types.now) k
each c k less =
    let parents = parent_numbers (type_names c.args.types.now) c.args.types.now in
    let given : c.as_slice.result.now ≡ parents = c.as_slice.ensures.value ∙ c.requires.parents in
    let count : length parents ≡ height c.args.types.now = ap suc (length-map c.args.types.now _) in
    let far = subst (λ (ps : List ℕ). IsFar ps (length ps) c.in_ok-far.far.items × (length c.in_ok-far.far.items ≡ length ps)) given c.in_ok-far.ensures in
    far.0.each k (subst (λ (n : ℕ). k < n) (sym (far.1 ∙ count)) less) ∙ ap (λ n. climb parents n k) count

pub loop-typed-preserved : goal.loop-typed-preserved
loop-typed-preserved c =
    let types = c.args.types.now in
    let typed = c.typed-item.result in
    let i = c.loop-typed.typed-index in
    let rest = cyclic_in types (drop (i + 1) types) in
    let told : c.is_cyclic.result ≡ is_cyclic types typed =
    c.is_cyclic.ensures ∙ (ap (λ names. does_not_lead names c.as_slice-in-loop-typed.result.now typed) c.requires.names
    ∙ (ap (λ far. does_not_lead (type_names types) far typed) c.as_slice-in-loop-typed.ensures.value
    ∙ cyclic_is types c.in_ok-far.far.items typed i c.loop-typed-test.true c.typed-item.is (each c))) in
    ap (λ first. earliest first rest) (c.note-found.ensures ∙ ap (λ b. earliest c.loop-typed.found (fault_if b typed.name.at)) told)
    ∙ (sym (earliest_append c.loop-typed.found (fault_if (is_cyclic types typed) typed.name.at) rest)
    ∙ (ap (λ list. earliest c.loop-typed.found (cyclic_in types list)) (sym (dropped types typed i c.loop-typed-test.true c.typed-item.is)) ∙ c.loop-typed.invariant))
