use Rattle.pb_model.specs.declared.key.Key.{Key}
use Rattle.std.proofs.Common.{◌≡◌, List, ◌<◌, Option, Some, None, IsSome, get_or, set, length, sym, subst, ap, ◌∙◌}
use Rattle.std.proofs.lemmas.List.{get_or_read}
use Rattle.pb_model.specs.Work.{offered_row}
use Rattle.pb_model.proofs.Callers.{some_found}
use Rattle.pb_lists.specs.Bundle.{Content, SetsRow, row_of}
use Rattle.pb_bundles.specs.Parts.{rows_in}
use Rattle.pb_bundles.specs.Homes.{HomeTable, AreHomes, content_at, with_start}
use Rattle.pb_bundles.proofs.Lists.{some_within}
use Rattle.std.proofs.Common.{get_or-set_same}
use Rattle.pb_bundles.proofs.Kept.{homes_set}
use Rattle.pb_bundles.proofs.homes.Homes.offer_start.Goals as goal

pub invariant_of-self-2 : goal.invariant_of-self-2
invariant_of-self-2 c =
    let bundles = c.self.inside.bundles.items in
    let block = c.args.block in
    let home : IsSome (get_or bundles block None) = subst (λ (t : HomeTable). IsSome (content_at t block)) (sym c.self.view_is) c.requires in
    let there = some_found (get_or bundles block None) home in
    let within : block < length bundles = some_within bundles block home in
    let place : c.index_mut.result.now ≡ Some there.0 = get_or_read bundles block c.index_mut.result.now within c.index_mut.ensures.value None ∙ there.1 in
    let new : c.offer_in.new.place ≡ Some (with_start there.0 c.args.start c.args.estimate) = c.in_ok-key.ensures.put there.0 place in
    subst (λ (ks : List (Option Key)). AreHomes (record { bundles = set bundles block c.offer_in.new.place; keys = ks })) (sym c.set.ensures)
    (homes_set bundles c.self.inside.keys block c.offer_in.new.place (with_start there.0 c.args.start c.args.estimate) c.in_ok-key.key within new
    (c.in_ok-key.ensures.best (with_start there.0 c.args.start c.args.estimate) new) c.self.invariant)

pub returns-clause-rows : goal.returns-clause-rows
returns-clause-rows c =
    let bundles = c.self.inside.bundles.items in
    let block = c.args.block in
    let row = λ (found : Option Content). offered_row 0 c.args.estimate None 0 (rows_in found c.args.start) in
    let home : IsSome (get_or bundles block None) = subst (λ (t : HomeTable). IsSome (content_at t block)) (sym c.self.view_is) c.requires in
    let there = some_found (get_or bundles block None) home in
    let within : block < length bundles = some_within bundles block home in
    let place : c.index_mut.result.now ≡ Some there.0 = get_or_read bundles block c.index_mut.result.now within c.index_mut.ensures.value None ∙ there.1 in
    let new : c.offer_in.new.place ≡ Some (with_start there.0 c.args.start c.args.estimate) = c.in_ok-key.ensures.put there.0 place in
    let sets : SetsRow (row_of there.0) (row_of (with_start there.0 c.args.start c.args.estimate)) c.args.start (row (Some there.0)) =
    c.in_ok-key.ensures.sets there.0 (with_start there.0 c.args.start c.args.estimate) place new in
    let old : Some there.0 ≡ content_at c.args.self.now block = sym there.1 ∙ ap (λ (t : HomeTable). content_at t block) c.self.view_is in
    let last : Some (with_start there.0 c.args.start c.args.estimate) ≡ get_or (set bundles block c.offer_in.new.place) block None = sym new ∙ sym (get_or-set_same bundles block c.offer_in.new.place None within) in
    subst (λ (found : Option Content). SetsRow (rows_in found) (rows_in (get_or (set bundles block c.offer_in.new.place) block None)) c.args.start (row found)) old
    (subst (λ (found : Option Content). SetsRow (rows_in (Some there.0)) (rows_in found) c.args.start (row (Some there.0))) last sets)
