use Rattle.std.proofs.Common.{IsSome, sym, ap, subst, ◌∙◌, nat_eq, position, true≢false}
use Rattle.pb_bundles.specs.Parts.{PartList, content_in}
use Rattle.pb_bundles.proofs.Lists.{absent_by_place}
use Rattle.pb_bundles.proofs.parts.LentBundles.place.Goals as goal

-- a block that is among these has a place
pub unreachable-requires : goal.unreachable-requires
unreachable-requires c =
    let parts = c.self.inside.bundles.entries in
    let block = c.args.block in
    let nowhere = ap (position (nat_eq block)) (sym (c.as_slice.ensures ∙ c.keys.ensures.rest)) ∙ sym c.find.ensures ∙ c.in-None.is in
    let absent = ap (λ (ps : PartList). content_in ps.parts block) (sym c.self.view_is) ∙ absent_by_place (nat_eq block) parts nowhere in
    true≢false (sym (subst IsSome absent c.requires))
