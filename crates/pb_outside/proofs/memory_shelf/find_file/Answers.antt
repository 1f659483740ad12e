use Rattle.std.proofs.Common.{refl, ap, sym, ◌∙◌}
use Rattle.pb_outside.specs.Memory.{PlaceView}
use Rattle.pb_outside.proofs.Places.{found, absent}
use Rattle.pb_outside.proofs.memory_shelf.find_file.Goals as goal

pub returns-in_err-i : goal.returns-in_err-i
returns-in_err-i c = rw (absent _ _ (sym c.index_of.ensures ∙ c.in_err-i.was), c.from_residual.ensures) refl

pub returns : goal.returns
returns c = rw (found c.args.places.now c.args.name.now c.in_ok-i.i c.index-places-i.result (sym c.index_of.ensures ∙ c.in_ok-i.was)) (c.contents.ensures ∙ ap (λ (p : PlaceView). p.bytes) c.index-places-i.is)
