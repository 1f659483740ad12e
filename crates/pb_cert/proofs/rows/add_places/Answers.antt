use Rattle.std.proofs.Common.{map, refl, sym, ap, arith, append-nil, ◌∙◌}
use Rattle.pb_cert.specs.Listed.{line_in}
use Rattle.pb_cert.proofs.Places.{next_place, next_pushed, part_added}
use Rattle.pb_cert.proofs.rows.add_places.Goals as goal

pub rows-preserved : goal.rows-preserved
rows-preserved c =
    ap (map (line_in c.args.bundle.now)) c.in_ok-push.ensures.items
    ∙ next_place c.args.bundle.now c.rows.own.items c.rows.at (omega (arith, c.rows-test.true, c.len-at-end.ensures.count)) c.rows.invariant

pub places-init : goal.places-init
places-init c = sym (append-nil c.args.places.now.items)

pub places-preserved : goal.places-preserved
places-preserved c =
    c.in_ok-push-2.ensures.items
    ∙ next_pushed c.args.part c.places.at-index _ c.deref-at-items.result.now c.args.places.now.items c.places.places.items (omega (arith, c.places-test.true)) refl c.places.invariant

pub returns-clause-added : goal.returns-clause-added
returns-clause-added c = λ parts own there same.
    part_added parts c.args.part own c.args.bundle.now there same c.args.places.now.items c.places.places.items c.rows.own.items c.deref-at-items.result.now c.rows.at c.places.at-index
    (omega (arith, c.rows-test.false, c.len-at-end.ensures.count)) c.rows.invariant (rw c.deref-at-items.ensures.value c.sort_by_key.ensures.permutation) (omega (arith, c.places-test.false)) c.places.invariant
