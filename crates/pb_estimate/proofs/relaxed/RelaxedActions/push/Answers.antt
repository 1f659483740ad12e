use Rattle.std.proofs.Common.{◌≡◌, ◌+◌, ◌++◌, ◌∷◌, [], List, ℕ, length, map, ap, ◌∙◌, rules}
use Rattle.std.proofs.lemmas.List.{length-append}
use Rattle.pb_estimate.specs.declared.relaxed.Entry.{Entry}
use Rattle.pb_estimate.specs.Relaxed.{RelaxedAction, action_of}
use Rattle.pb_estimate.proofs.Pieces.{pieces_push}
use Rattle.pb_estimate.proofs.relaxed.RelaxedActions.push.Goals as goal

-- an action of what it adds
abbrev built : Entry → List ℕ → RelaxedAction
built e adds = record { adds = adds; cost = e.cost }

pub returns : goal.returns
returns c =
    let start : c.len-from.result ≡ length c.self.inside.atoms.items = search rules in
    let long : c.len-to.result ≡ length c.extend_from_slice.new.self.items = search rules in
    let end : c.len-to.result ≡ length c.self.inside.atoms.items + length c.args.adds.now =
    long ∙ ap length c.in_ok-extend_from_slice.ensures.items ∙ length-append c.self.inside.atoms.items c.args.adds.now in
    ap (map (λ (e : Entry). action_of c.extend_from_slice.new.self.items e.from e.to e.cost)) c.in_ok-push.ensures.items
    ∙ ap (λ (atoms : List ℕ). map (λ (e : Entry). action_of atoms e.from e.to e.cost) (c.self.inside.entries.items ++ record { from = c.len-from.result; to = c.len-to.result; cost = c.args.cost } ∷ []))
    c.in_ok-extend_from_slice.ensures.items
    ∙ pieces_push c.self.inside.atoms.items c.args.adds.now (λ (e : Entry). e.from) (λ (e : Entry). e.to) built
    c.self.inside.entries.items (record { from = c.len-from.result; to = c.len-to.result; cost = c.args.cost }) c.self.invariant start end
    ∙ ap (λ (actions : List RelaxedAction). actions ++ record { adds = c.args.adds.now; cost = c.args.cost } ∷ []) c.self.view_is
