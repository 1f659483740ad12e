use Rattle.std.proofs.Common.{◌≡◌, length, ap, ◌∙◌, refl}
use Rattle.std.specs.Option.{option_and_then}
use Rattle.std.specs.Vec.{with_items}
use Rattle.std.proofs.lemmas.List.{with_items_is}
use Rattle.pb_outside.specs.Memory.{PlaceView, ShelfView, place_of, grown}
use Rattle.pb_outside.proofs.Places.{stays_along, mapped_same}
use Rattle.pb_outside.proofs.memory_shelf.MemShelfShelf.append.Goals as goal

pub returns-in-Ok-clause-rooms : goal.returns-in-Ok-clause-rooms
returns-in-Ok-clause-rooms c =
    let from : c.args.self.now.places ≡ c.deref_mut.result.now = cc (ap (λ (s : ShelfView). s.places) c.self.view_is) in
    let len : length c.append_file.new.places ≡ c.self.inside.places.len = cc c.append_file.auto.places in
    stays_along (λ (p : PlaceView). p.room) c.args.self.now.places c.deref_mut.result.now c.append_file.new.places (with_items c.self.inside.places c.append_file.new.places).items c.args.name.now from
    (with_items_is c.self.inside.places c.append_file.new.places len)
    (ap (option_and_then (λ (p : PlaceView). p.room)) c.append_file.ensures.here
    ∙ mapped_same (λ (p : PlaceView). p.room) (λ place. grown place c.begin-listed.result c.args.piece.now) (λ p. refl) (place_of c.deref_mut.result.now c.args.name.now))
    c.append_file.ensures.others

pub returns-in-Err-clause-rooms : goal.returns-in-Err-clause-rooms
returns-in-Err-clause-rooms c =
    let from : c.args.self.now.places ≡ c.deref_mut.result.now = cc (ap (λ (s : ShelfView). s.places) c.self.view_is) in
    let len : length c.append_file.new.places ≡ c.self.inside.places.len = cc c.append_file.auto.places in
    stays_along (λ (p : PlaceView). p.room) c.args.self.now.places c.deref_mut.result.now c.append_file.new.places (with_items c.self.inside.places c.append_file.new.places).items c.args.name.now from
    (with_items_is c.self.inside.places c.append_file.new.places len)
    (ap (option_and_then (λ (p : PlaceView). p.room)) c.append_file.ensures.here
    ∙ mapped_same (λ (p : PlaceView). p.room) (λ place. grown place c.begin-listed.result c.args.piece.now) (λ p. refl) (place_of c.deref_mut.result.now c.args.name.now))
    c.append_file.ensures.others
