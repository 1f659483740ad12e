use Rattle.std.proofs.Common.{length, refl, arith, rules}
use Rattle.std.proofs.lemmas.Option.{slice_get_read}
use Rattle.std.proofs.lemmas.List.Sorted.{IsNonDecreasingBy-from_sort_by_key}
use Rattle.pb_cert.specs.Listed.{line_at}
use Rattle.pb_cert.specs.declared.rows.Place.{Place}
use Rattle.pb_cert.proofs.Places.{no_places, next_places, all_places}
use Rattle.pb_cert.proofs.rows.places_for.Goals as goal

pub parts-init : goal.parts-init
parts-init c = no_places c.args.parts.now c.new-places.result.items c.new-places.ensures.items

pub parts-preserved : goal.parts-preserved
parts-preserved c =
    let there = slice_get_read c.args.parts.now (length c.args.parts.now) c.parts.i c.index-parts-i.result refl (omega (arith, c.parts-test.true)) c.index-parts-i.is in
    next_places c.args.parts.now c.parts.i c.index-parts-i.result c.parts.places.items c.add_places.new.places.items there c.add_places.ensures.distinct
    (c.in_ok-add_places.ensures.added c.args.parts.now c.index-parts-i.result there refl) c.parts.invariant

pub returns : goal.returns
returns c =
    all_places c.args.parts.now c.parts.i c.parts.places.items c.sort_by_key.new.self.items (omega (arith, c.parts-test.false)) c.sort_by_key.ensures.permutation
    (IsNonDecreasingBy-from_sort_by_key (λ (place : Place). (line_at c.args.parts.now place).state) _ c.in_ok-sort_by_key.ensures.sorted (λ a r q k. search rules)) c.parts.invariant
