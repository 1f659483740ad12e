use Rattle.std.proofs.Common.{◌≡◌, Bool, true, false, Some, refl, ap, sym, ◌∙◌}
use Rattle.std.specs.Prelude.{if◌then◌else◌}
use Rattle.pb_outside.specs.Memory.{PlaceView, emptied}
use Rattle.pb_outside.proofs.Places.{changed, absent, some_if}
use Rattle.pb_outside.proofs.memory_shelf.create_file.Goals as goal

keeps_name : (b : Bool) (was now : PlaceView) → now ≡ (if b then emptied was else was) → now.name ≡ was.name
keeps_name true was now e = ap (λ (p : PlaceView). p.name) e
keeps_name false was now e = ap (λ (p : PlaceView). p.name) e

pub returns-in-Some-clause-done : goal.returns-in-Some-clause-done
returns-in-Some-clause-done c =
    let change = changed c.args.places.now c.args.name.now c.in-Some.i c.index-places-i.result c.create.new.self (sym c.index_of.ensures ∙ c.in-Some.is) (keeps_name c.create.result _ _ c.create.ensures.after) in
    rw (change.was) c.create.ensures.done

pub returns-in-Some-clause-here : goal.returns-in-Some-clause-here
returns-in-Some-clause-here c =
    let change = changed c.args.places.now c.args.name.now c.in-Some.i c.index-places-i.result c.create.new.self (sym c.index_of.ensures ∙ c.in-Some.is) (keeps_name c.create.result _ _ c.create.ensures.after) in
    change.here ∙ rw (change.was) (ap Some c.create.ensures.after ∙ some_if c.create.result _ _)

pub returns-in-Some-clause-others : goal.returns-in-Some-clause-others
returns-in-Some-clause-others c =
    (changed c.args.places.now c.args.name.now c.in-Some.i c.index-places-i.result c.create.new.self (sym c.index_of.ensures ∙ c.in-Some.is) (keeps_name c.create.result _ _ c.create.ensures.after)).others

pub returns-in-None-clause-done : goal.returns-in-None-clause-done
returns-in-None-clause-done c = rw (absent _ _ (sym c.index_of.ensures ∙ c.in-None.is)) refl
