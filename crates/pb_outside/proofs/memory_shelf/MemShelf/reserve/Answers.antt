use Rattle.std.proofs.Common.{◌≡◌, ap, refl, ◌∙◌}
use Rattle.std.specs.Option.{option_and_then}
use Rattle.pb_outside.specs.Memory.{PlaceView, ShelfView, place_of}
use Rattle.pb_outside.proofs.Places.{stays_along, or_new_bytes}
use Rattle.pb_outside.proofs.Told.{on_ok_both}
use Rattle.pb_outside.proofs.memory_shelf.MemShelf.reserve.Goals as goal

pub returns-clause-files : goal.returns-clause-files
returns-clause-files c =
    let from : c.args.self.now.places ≡ c.self.inside.places.items = cc (ap (λ (s : ShelfView). s.places) c.self.view_is) in
    on_ok_both c.reserve_room.result c.reserve_room.ensures.here c.reserve_room.ensures.others
    (λ here others. stays_along (λ (p : PlaceView). p.bytes) c.args.self.now.places c.self.inside.places.items c.reserve_room.new.places.items c.reserve_room.new.places.items c.args.name.now from refl
    (ap (option_and_then (λ (p : PlaceView). p.bytes)) here ∙ or_new_bytes (place_of c.self.inside.places.items c.args.name.now) c.args.name.now) others)
