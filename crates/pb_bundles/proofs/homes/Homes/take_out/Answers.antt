use Rattle.std.proofs.Common.{◌≡◌, ℕ, true, List, is_some, Option, None, cond, get_or, ap, sym, subst, ◌∙◌}
use Rattle.std.specs.Map.{keys_of}
use Rattle.pb_lists.specs.Bundle.{Content}
use Rattle.pb_bundles.specs.Parts.{content_in}
use Rattle.pb_bundles.specs.Homes.{HomeTable, AreHomes, content_at}
use Rattle.pb_bundles.specs.Moves.{is_among}
use Rattle.pb_bundles.proofs.Lists.{by_among}
use Rattle.pb_bundles.proofs.Moving.{vacated_at, moved_in, moved_keys}
use Rattle.pb_bundles.proofs.Kept.{homes_vacated}
use Rattle.pb_bundles.proofs.homes.Homes.take_out.Goals as goal

pub invariant_of-self : goal.invariant_of-self
invariant_of-self c =
    let keys = c.self.inside.keys in
    subst (λ bundles. AreHomes (record { bundles = bundles; keys = keys })) (sym c.move_out.ensures.left) (homes_vacated c.args.scope.now c.self.inside.bundles.items keys c.self.invariant)

pub returns-clause-out : goal.returns-clause-out
returns-clause-out c = λ block.
    ap (λ (bundles : List (Option Content)). get_or bundles block None) c.move_out.ensures.left ∙ vacated_at c.args.scope.now c.self.inside.bundles.items block
    ∙ ap (λ (t : HomeTable). cond (is_among c.args.scope.now block) None (content_at t block)) c.self.view_is

pub returns-clause-taken : goal.returns-clause-taken
returns-clause-taken c = λ block.
    ap (λ (parts : List (ℕ × Content)). content_in parts block) c.move_out.ensures.moved ∙ moved_in c.args.scope.now c.self.inside.bundles.items block
    ∙ ap (λ (t : HomeTable). cond (is_among c.args.scope.now block) (content_at t block) None) c.self.view_is

pub returns-clause-order : goal.returns-clause-order
returns-clause-order c =
    let scope = c.args.scope.now in
    let bundles = c.self.inside.bundles.items in
    let there : (block : ℕ) → is_among scope block ≡ true → is_some (get_or bundles block None) ≡ true =
    subst (λ (t : HomeTable). (block : ℕ) → is_among scope block ≡ true → is_some (content_at t block) ≡ true) (sym c.self.view_is) c.requires.home in
    ap keys_of c.move_out.ensures.moved ∙ moved_keys scope bundles (by_among (λ block. is_some (get_or bundles block None) ≡ true) scope there)
