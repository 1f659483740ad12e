use Rattle.std.proofs.Common.{map}
use Rattle.pb_cert.specs.Listed.{line_at}
use Rattle.pb_cert.proofs.Sorted.{certifies}
use Rattle.pb_lists.specs.Store.{store_with}
use Rattle.pb_cert.proofs.Places.{lines_of_store}
use Rattle.pb_cert.proofs.Unique.{sound_rows_are_placed}
use Rattle.pb_cert.proofs.certificate.Certificate.of.Goals as goal

pub returns-clause-lines : goal.returns-clause-lines
returns-clause-lines g c =
    lines_of_store (g.S.Store.rows c.args.store.now)
    (g.S.Store.parts c.args.store.now) c.in_ok-parts.parts.items c.deref.result.now
    c.in_ok-places.places.items c.deref.ensures.value c.in_ok-parts.ensures.parts
    c.parts_of.ensures.beyond
    c.in_ok-places.ensures

pub returns-clause-rows : goal.returns-clause-rows
returns-clause-rows g c = λ space guide incumbent sound.
    lines_of_store (g.S.Store.rows c.args.store.now)
    (g.S.Store.parts c.args.store.now) c.in_ok-parts.parts.items c.deref.result.now
    c.in_ok-places.places.items c.deref.ensures.value c.in_ok-parts.ensures.parts
    c.parts_of.ensures.beyond
    c.in_ok-places.ensures
    guide
    (sound_rows_are_placed space guide
    (store_with (g.S.Store.rows c.args.store.now) (g.S.Store.weight c.args.store.now) incumbent)
    sound)

pub returns-clause-valid : goal.returns-clause-valid
returns-clause-valid g c = λ space guide incumbent sound quiet is_plan backed.
    certifies (g.S.Store.rows c.args.store.now) (g.S.Store.weight c.args.store.now) (record { num = c.weight-num.result.0; den = c.weight-num.result.1 }) (map (line_at c.in_ok-parts.parts.items) c.in_ok-places.places.items) c.weight-num.ensures.weight
    (lines_of_store (g.S.Store.rows c.args.store.now) (g.S.Store.parts c.args.store.now) c.in_ok-parts.parts.items c.deref.result.now c.in_ok-places.places.items c.deref.ensures.value c.in_ok-parts.ensures.parts c.parts_of.ensures.beyond
    c.in_ok-places.ensures)
    space guide incumbent c.args.plan sound quiet is_plan backed
