use Rattle.std.proofs.Common.{◌≡◌, ap, refl, ◌∙◌}
use Rattle.std.specs.Option.{option_and_then}
use Rattle.pb_outside.specs.Memory.{PlaceView, ShelfView, place_of}
use Rattle.pb_outside.proofs.Places.{stays_along, or_new_room}
use Rattle.pb_outside.proofs.Told.{on_ok_both}
use Rattle.pb_outside.proofs.memory_shelf.MemShelf.add.Goals as goal

pub returns-clause-rooms : goal.returns-clause-rooms
returns-clause-rooms c =
    let from : c.args.self.now.places ≡ c.self.inside.places.items = cc (ap (λ (s : ShelfView). s.places) c.self.view_is) in
    on_ok_both c.put_file.result c.put_file.ensures.here c.put_file.ensures.others
    (λ here others. stays_along (λ (p : PlaceView). p.room) c.args.self.now.places c.self.inside.places.items c.put_file.new.places.items c.put_file.new.places.items c.args.name.now from refl
    (ap (option_and_then (λ (p : PlaceView). p.room)) here ∙ or_new_room (place_of c.self.inside.places.items c.args.name.now) c.args.name.now) others)
