use Rattle.std.proofs.Common.{ℕ, IsTrue, IsSome, [], ◌∷◌, refl, ap, ◌∙◌, rules}
use Rattle.std.specs.List.{IsDistinct}
use Rattle.pb_bundles.specs.Homes.{HomeTable, content_at}
use Rattle.pb_bundles.specs.Moves.{is_among}
use Rattle.pb_bundles.proofs.Callers.{among_found, taken_places_are_vacant}
use Rattle.pb_test_blocks.proofs.bundles.bundles_leave_home_and_come_back.Goals as goal

pub take_out-parts-requires-clause-distinct : goal.take_out-parts-requires-clause-distinct
unfolding IsDistinct
take_out-parts-requires-clause-distinct g c = ((refl, tt), (tt, tt))

pub note-requires : goal.note-requires
note-requires g c =
    let home : (block : ℕ) → IsTrue (is_among (2 ∷ 0 ∷ []) block) → IsSome (content_at c.in_ok-homes.homes block) = search rules in
    taken_places_are_vacant (2 ∷ 0 ∷ []) c.in_ok-homes.homes c.take_out-parts.new.self c.open.new.parts.parts home (ap (λ (t : HomeTable). t.bundles) c.take_out-parts.ensures.left)
    (c.in_ok-open.ensures ∙ c.take_out-parts.ensures.order)

pub open-requires-2 : goal.open-requires-2
open-requires-2 g c = among_found c.open.new.parts.parts 2 ∙ ap (λ ks. is_among ks 2) (c.in_ok-open.ensures ∙ c.take_out-parts.ensures.order)

pub bring_back-requires : goal.bring_back-requires
bring_back-requires g c =
    let home : (block : ℕ) → IsTrue (is_among (2 ∷ 0 ∷ []) block) → IsSome (content_at c.in_ok-homes.homes block) = search rules in
    taken_places_are_vacant (2 ∷ 0 ∷ []) c.in_ok-homes.homes c.note.new.self c.open-2.new.parts.parts home (c.note.ensures.bundles ∙ ap (λ (t : HomeTable). t.bundles) c.take_out-parts.ensures.left)
    (c.in_ok-open-2.ensures ∙ c.in_ok-open.ensures ∙ c.take_out-parts.ensures.order)
