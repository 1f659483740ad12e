use Rattle.std.proofs.Common.{Some, refl, ap, sym, ◌∙◌}
use Rattle.pb_outside.specs.Memory.{PlaceView}
use Rattle.pb_outside.proofs.Places.{changed, absent}
use Rattle.pb_outside.proofs.memory_shelf.append_file.Goals as goal

pub returns-in-Some-clause-done : goal.returns-in-Some-clause-done
returns-in-Some-clause-done c =
    let change = changed c.args.places.now c.args.name.now c.in-Some.i c.index-places-i.result c.append.new.self (sym c.index_of.ensures ∙ c.in-Some.is) (ap (λ (p : PlaceView). p.name) c.append.ensures.after) in
    rw (change.was) c.append.ensures.done

pub returns-in-Some-clause-here : goal.returns-in-Some-clause-here
returns-in-Some-clause-here c =
    let change = changed c.args.places.now c.args.name.now c.in-Some.i c.index-places-i.result c.append.new.self (sym c.index_of.ensures ∙ c.in-Some.is) (ap (λ (p : PlaceView). p.name) c.append.ensures.after) in
    change.here ∙ rw (change.was) (ap Some c.append.ensures.after)

pub returns-in-Some-clause-others : goal.returns-in-Some-clause-others
returns-in-Some-clause-others c =
    (changed c.args.places.now c.args.name.now c.in-Some.i c.index-places-i.result c.append.new.self (sym c.index_of.ensures ∙ c.in-Some.is) (ap (λ (p : PlaceView). p.name) c.append.ensures.after)).others

pub returns-in-None-clause-done : goal.returns-in-None-clause-done
returns-in-None-clause-done c = rw (absent _ _ (sym c.index_of.ensures ∙ c.in-None.is)) (λ h. cc, λ h. absurd h.1)

pub returns-in-None-clause-here : goal.returns-in-None-clause-here
returns-in-None-clause-here c = rw (absent _ _ (sym c.index_of.ensures ∙ c.in-None.is)) refl

pub returns-in-Some-clause-part : goal.returns-in-Some-clause-part
returns-in-Some-clause-part c =
    let change = changed c.args.places.now c.args.name.now c.in-Some.i c.index-places-i.result c.append.new.self (sym c.index_of.ensures ∙ c.in-Some.is) (ap (λ (p : PlaceView). p.name) c.append.ensures.after) in
    rw (change.was, change.here) c.append.ensures.part
