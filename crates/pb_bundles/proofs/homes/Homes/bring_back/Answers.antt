use Rattle.std.proofs.Common.{◌≡◌, ◌<◌, ℕ, List, IsSome, Option, None, get_or, length, arith, sym, subst, ap, ◌∙◌}
use Rattle.std.specs.Option.{option_or}
use Rattle.pb_lists.specs.Bundle.{Content}
use Rattle.pb_bundles.specs.Parts.{PartList, content_in}
use Rattle.pb_bundles.specs.Homes.{HomeTable, AreHomes, content_at}
use Rattle.pb_bundles.specs.Moves.{IsVacant}
use Rattle.pb_bundles.proofs.Lists.{by_found}
use Rattle.pb_bundles.proofs.Moving.{put_back_at}
use Rattle.pb_bundles.proofs.Kept.{homes_back}
use Rattle.pb_bundles.proofs.homes.Homes.bring_back.Goals as goal

-- the places of the parts, in terms of the fields
there_inside : (parts inside : List (ℕ × Content)) (table fields : HomeTable) → inside ≡ parts → fields ≡ table → ((block : ℕ) → IsSome (content_in parts block) → IsVacant table.bundles block)
    → (block : ℕ) → IsSome (content_in inside block) → block < length fields.bundles
there_inside parts inside table fields same homes vacant block there =
    subst (λ (t : HomeTable). block < length t.bundles) (sym homes) (vacant block (subst (λ (ps : List (ℕ × Content)). IsSome (content_in ps block)) same there)).0

pub invariant_of-self : goal.invariant_of-self
invariant_of-self c =
    let bundles = c.self.inside.bundles.items in
    let parts = c.parts.inside.bundles.entries in
    let keys = c.note_keys.new.keys in
    subst (λ places. AreHomes (record { bundles = places; keys = keys })) (sym c.move_home.ensures.back)
    (homes_back parts bundles c.self.inside.keys keys (there_inside c.args.parts.parts parts c.args.self.now (record { bundles = bundles; keys = c.self.inside.keys }) (ap (λ (ps : PartList). ps.parts) c.parts.view_is) c.self.view_is c.requires)
    c.note_keys.ensures c.self.invariant)

pub returns-clause-home : goal.returns-clause-home
returns-clause-home c = λ block.
    let bundles = c.self.inside.bundles.items in
    let parts = c.parts.inside.bundles.entries in
    let there : (other : ℕ) → IsSome (content_in parts other) → other < length bundles =
    there_inside c.args.parts.parts parts c.args.self.now (record { bundles = bundles; keys = c.self.inside.keys }) (ap (λ (ps : PartList). ps.parts) c.parts.view_is) c.self.view_is c.requires in
    ap (λ (places : List (Option Content)). get_or places block None) c.move_home.ensures.back ∙ put_back_at parts bundles block (by_found (λ n. n < length bundles) parts there)
    ∙ ap (λ (ps : PartList). option_or (content_in ps.parts block) (get_or bundles block None)) c.parts.view_is
    ∙ ap (λ (t : HomeTable). option_or (content_in c.args.parts.parts block) (content_at t block)) c.self.view_is

pub note_keys-requires : goal.note_keys-requires
note_keys-requires c block there =
    let bundles = c.self.inside.bundles.items in
    let known = there_inside c.args.parts.parts c.parts.inside.bundles.entries c.args.self.now (record { bundles = bundles; keys = c.self.inside.keys }) (ap (λ (ps : PartList). ps.parts) c.parts.view_is) c.self.view_is c.requires block there in
    omega (arith, known, c.self.invariant.same_count)

pub move_home-requires : goal.move_home-requires
move_home-requires c =
    there_inside c.args.parts.parts c.parts.inside.bundles.entries c.args.self.now (record { bundles = c.self.inside.bundles.items; keys = c.self.inside.keys }) (ap (λ (ps : PartList). ps.parts) c.parts.view_is) c.self.view_is c.requires
