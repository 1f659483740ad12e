use Rattle.std.proofs.Common.{◌+◌, refl, sym, ap, ◌∙◌, nat_eq}
use Rattle.indexmap.specs.IndexMap.{spare}
use Rattle.indexmap.specs.Layout.{length-set_value_at}
use Rattle.pb_bundles.specs.Parts.{PartList, content_in, with_part}
use Rattle.pb_bundles.proofs.Lists.{set_by_place, found_by_place}
use Rattle.pb_bundles.proofs.parts.LentBundles.bundle_mut.Goals as goal

pub returns : goal.returns
returns c =
    let parts = c.self.inside.bundles.entries in
    let block = c.args.block in
    let at = c.place-at.result in (
      (refl, λ w. (λ i. record { parts = set_by_place (nat_eq block) parts at w c.place-at.ensures.place i; fits = length-set_value_at parts at w i + spare c.self.inside.bundles }) ∙ ap (λ (ps : PartList). with_part ps block w) c.self.view_is),
      record {
        writes_back = tt;
        value = ap (λ (ps : PartList). content_in ps.parts block) (sym c.self.view_is)
            ∙ found_by_place (nat_eq block) parts at (c.pair_mut.result.0.now, c.pair_mut.result.1.now) c.place-at.ensures.place c.pair_mut.ensures.value;
      },
    )
