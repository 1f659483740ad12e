use Rattle.std.proofs.Common.{◌≡◌, ◌++◌, ◌∷◌, [], Some, None, ap, sym, ◌∙◌, nat_eq}
use Rattle.std.proofs.lemmas.List.{get_or_read}
use Rattle.indexmap.proofs.CallerLemmas.{insert_entry-new}
use Rattle.pb_lists.specs.Bundle.{Content}
use Rattle.pb_bundles.proofs.Lists.{some_within}
use Rattle.pb_bundles.proofs.moves.move_one.Goals as goal

pub returns-clause-moved : goal.returns-clause-moved
returns-clause-moved c = λ content is.
    let items = c.args.bundles.now.items in
    let here = get_or_read items c.args.block _ (some_within items c.args.block c.requires.home) c.index_mut.ensures.value None in
    let found : Some c.in-Some.bundle ≡ Some content = sym c.in-Some.is ∙ c.take.ensures.value ∙ here ∙ is in
    let same : c.in-Some.bundle ≡ content = cc in
    c.in-Ok.ensures.entries ∙ insert_entry-new nat_eq c.args.parts.now c.args.block c.in-Some.bundle c.requires.absent
    ∙ ap (λ (b : Content). c.args.parts.now.entries ++ (c.args.block, b) ∷ []) same
