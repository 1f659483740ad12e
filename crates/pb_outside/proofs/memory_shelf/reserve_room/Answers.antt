use Rattle.std.proofs.Common.{◌≡◌, Some, None, refl, ap, ◌∙◌}
use Rattle.std.specs.List.{position}
use Rattle.std.proofs.lemmas.Result.{on_ok_weaker}
use Rattle.pb_outside.specs.Memory.{PlaceView, is_named}
use Rattle.pb_outside.proofs.Places.{put_there, put_new}
use Rattle.pb_outside.proofs.memory_shelf.reserve_room.Goals as goal

pub returns-in-Some-clause-here : goal.returns-in-Some-clause-here
returns-in-Some-clause-here c =
    let at : position (is_named c.args.name.now) c.args.places.now.items ≡ Some c.in-Some.i = cc in
    on_ok_weaker c.reserve.result (λ after.
    (put_there (λ (p : PlaceView). record p { room = Some c.args.room }) (λ p. refl) c.args.places.now.items c.args.name.now c.in-Some.i c.index_mut.result.now c.reserve.new.self at c.index_mut.ensures.value after).0) c.reserve.ensures.ok

pub returns-in-Some-clause-others : goal.returns-in-Some-clause-others
returns-in-Some-clause-others c =
    let at : position (is_named c.args.name.now) c.args.places.now.items ≡ Some c.in-Some.i = cc in
    on_ok_weaker c.reserve.result (λ after.
    (put_there (λ (p : PlaceView). record p { room = Some c.args.room }) (λ p. refl) c.args.places.now.items c.args.name.now c.in-Some.i c.index_mut.result.now c.reserve.new.self at c.index_mut.ensures.value after).1) c.reserve.ensures.ok

pub returns-clause-here : goal.returns-clause-here
returns-clause-here c =
    let at : position (is_named c.args.name.now) c.args.places.now.items ≡ None = cc c.in_default.ensures in
    rw (c.in_ok-push.ensures.items) (put_new (λ (p : PlaceView). record p { room = Some c.args.room }) (λ p. refl) c.args.places.now.items c.args.name.now c.reserve-2.new.self at (c.in_ok-reserve.ensures.ok ∙ ap (λ (p : PlaceView). record p { room = Some c.args.room }) c.in_ok-place.ensures)).0

pub returns-clause-others : goal.returns-clause-others
returns-clause-others c =
    let at : position (is_named c.args.name.now) c.args.places.now.items ≡ None = cc c.in_default.ensures in
    rw (c.in_ok-push.ensures.items) (put_new (λ (p : PlaceView). record p { room = Some c.args.room }) (λ p. refl) c.args.places.now.items c.args.name.now c.reserve-2.new.self at (c.in_ok-reserve.ensures.ok ∙ ap (λ (p : PlaceView). record p { room = Some c.args.room }) c.in_ok-place.ensures)).1
