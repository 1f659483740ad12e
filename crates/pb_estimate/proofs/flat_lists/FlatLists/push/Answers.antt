use Rattle.std.proofs.Common.{◌≡◌, ◌+◌, ◌++◌, ◌∷◌, [], List, ℕ, length, map, ap, ◌∙◌, rules}
use Rattle.std.proofs.lemmas.List.{length-append}
use Rattle.pb_estimate.specs.declared.flat_lists.Piece.{Piece}
use Rattle.pb_estimate.specs.Relaxed.{piece}
use Rattle.pb_estimate.proofs.Pieces.{pieces_push}
use Rattle.pb_estimate.proofs.flat_lists.FlatLists.push.Goals as goal

pub returns : goal.returns
returns c =
    let start : c.len-from.result ≡ length c.self.inside.items.items = search rules in
    let long : c.len-to.result ≡ length c.extend_from_slice.new.self.items = search rules in
    let end : c.len-to.result ≡ length c.self.inside.items.items + length c.args.list.now =
    long ∙ ap length c.in_ok-extend_from_slice.ensures.items ∙ length-append c.self.inside.items.items c.args.list.now in
    ap (map (λ (p : Piece). piece c.extend_from_slice.new.self.items p.from p.to)) c.in_ok-push.ensures.items
    ∙ ap (λ (items : List ℕ). map (λ (p : Piece). piece items p.from p.to) (c.self.inside.pieces.items ++ record { from = c.len-from.result; to = c.len-to.result } ∷ [])) c.in_ok-extend_from_slice.ensures.items
    ∙ pieces_push c.self.inside.items.items c.args.list.now (λ (p : Piece). p.from) (λ (p : Piece). p.to) (λ _ list. list) c.self.inside.pieces.items (record { from = c.len-from.result; to = c.len-to.result })
    c.self.invariant start end
    ∙ ap (λ (lists : List (List ℕ)). lists ++ c.args.list.now ∷ []) c.self.view_is
