use Rattle.std.proofs.Common.{◌≡◌, length, ap, ◌∙◌, refl}
use Rattle.std.specs.Prelude.{if◌then◌else◌}
use Rattle.std.specs.Option.{option_and_then, option_map}
use Rattle.std.specs.Vec.{with_items}
use Rattle.std.proofs.lemmas.List.{with_items_is}
use Rattle.pb_outside.specs.declared.memory_shelf.MemShelf.TheInside.{Inside}
use Rattle.pb_outside.specs.Memory.{PlaceView, ShelfView, place_of, emptied}
use Rattle.pb_outside.proofs.Places.{stays_along, mapped_same}
use Rattle.pb_outside.proofs.memory_shelf.MemShelfShelf.create.Goals as goal
use Rattle.pb_outside.proofs.memory_shelf.MemShelfShelf.create.Goals.{then-is_none+else-create_file, else-is_none}

pub returns-then-create_file-clause-rooms : goal.returns-then-create_file-clause-rooms
returns-then-create_file-clause-rooms c =
    let from : c.args.self.now.places ≡ c.deref_mut.result.now = cc (ap (λ (s : ShelfView). s.places) c.self.view_is) in
    let len : length c.create_file.new.places ≡ c.self.inside.places.len = cc c.create_file.auto.places in
    let made : place_of c.create_file.new.places c.args.name.now ≡ option_map emptied (place_of c.deref_mut.result.now c.args.name.now) =
    c.create_file.ensures.here ∙ ap (λ b. if b then option_map emptied (place_of c.deref_mut.result.now c.args.name.now) else place_of c.deref_mut.result.now c.args.name.now) c.if-create_file.true in
    stays_along (λ (p : PlaceView). p.room) c.args.self.now.places c.deref_mut.result.now c.create_file.new.places (with_items c.self.inside.places c.create_file.new.places).items c.args.name.now from
    (with_items_is c.self.inside.places c.create_file.new.places len)
    (ap (option_and_then (λ (p : PlaceView). p.room)) made ∙ mapped_same (λ (p : PlaceView). p.room) emptied (λ p. refl) (place_of c.deref_mut.result.now c.args.name.now))
    c.create_file.ensures.others

pub returns-clause-unchanged : goal.returns-clause-unchanged
returns-clause-unchanged c = elim c.if-is_none.branch [
  | then-is_none+else-create_file w ↦
      let from : c.args.self.now.places ≡ w.deref_mut.result.now = cc (ap (λ (s : ShelfView). s.places) c.self.view_is) in
      let len : length w.create_file.new.places ≡ c.self.inside.places.len = cc w.create_file.auto.places in
      let kept : place_of w.create_file.new.places c.args.name.now ≡ place_of w.deref_mut.result.now c.args.name.now =
      w.create_file.ensures.here ∙ ap (λ b. if b then option_map emptied (place_of w.deref_mut.result.now c.args.name.now) else place_of w.deref_mut.result.now c.args.name.now) w.if-create_file.false in
      stays_along (λ (p : PlaceView). p.bytes) c.args.self.now.places w.deref_mut.result.now w.create_file.new.places c.if-is_none.self-inside.places.items c.args.name.now from
      (ap (λ (s : Inside). s.places.items) w.self-inside-is ∙ with_items_is c.self.inside.places w.create_file.new.places len)
      (ap (option_and_then (λ (p : PlaceView). p.bytes)) kept)
      w.create_file.ensures.others
  | else-is_none w ↦
      let same : c.if-is_none.self-inside.places.items ≡ c.args.self.now.places = cc (ap (λ (s : ShelfView). s.places) c.self.view_is, ap (λ (s : Inside). s.places.items) w.self-inside-is) in
      λ name. ap (λ places. option_and_then (λ (p : PlaceView). p.bytes) (place_of places name)) same
]
