use Rattle.std.proofs.Common.{ℕ, List, subst, sym}
use Rattle.pb_tables.specs.Flat.{AreAscending, IsPlaceOf}
use Rattle.pb_tables.proofs.Halving.{place_found, ascends}
use Rattle.pb_tables.proofs.images.ImageList.place_of.Goals as goal

pub place-requires : goal.place-requires
place-requires c = record { ascend = subst AreAscending (sym c.self.view_is) (ascends c.args.self.now c.requires) }

pub returns : goal.returns
returns c =
    place_found c.args.self.now c.args.image.now c.requires c.place.result
    (subst (λ (ns : List ℕ). IsPlaceOf c.place.result ns c.args.image.now) c.self.view_is c.place.ensures)
