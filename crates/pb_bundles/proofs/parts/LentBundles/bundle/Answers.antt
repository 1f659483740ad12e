use Rattle.std.proofs.Common.{sym, ap, ◌∙◌, nat_eq, position}
use Rattle.std.specs.Map.{keys_of}
use Rattle.pb_bundles.specs.Parts.{PartList, content_in}
use Rattle.pb_bundles.proofs.Lists.{found_by_place}
use Rattle.pb_bundles.proofs.parts.LentBundles.bundle.Goals as goal

-- the place of the block has its bundle
pub returns : goal.returns
returns c =
    let parts = c.self.inside.bundles.entries in
    let block = c.args.block in
    let at = ap (λ (ps : PartList). position (nat_eq block) (keys_of ps.parts)) c.self.view_is ∙ c.place-at.ensures.place in
    ap (λ (ps : PartList). content_in ps.parts block) (sym c.self.view_is)
    ∙ found_by_place (nat_eq block) parts c.place-at.result (c.in-Some.found.0.now, c.in-Some.found.1.now) at (sym c.in-Some.ensures.entry)
