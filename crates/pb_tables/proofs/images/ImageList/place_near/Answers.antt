use Rattle.std.proofs.Common.{ℕ, List, subst, sym}
use Rattle.pb_packed.specs.Words.{number_of}
use Rattle.pb_tables.specs.Flat.{AreAscending, IsPlaceOf}
use Rattle.pb_tables.proofs.Halving.{place_found, ascends}
use Rattle.pb_tables.proofs.images.ImageList.place_near.Goals as goal

pub place_near-requires-clause-ascend : goal.place_near-requires-clause-ascend
place_near-requires-clause-ascend c = subst AreAscending (sym c.self.view_is) (ascends c.args.self.now c.requires.rising)

pub returns-then-image-width : goal.returns-then-image-width
returns-then-image-width c =
    place_found c.args.self.now (number_of c.args.image.now) c.requires.rising c.place_near.result
    (subst (λ (ns : List ℕ). IsPlaceOf c.place_near.result ns (number_of c.args.image.now)) c.self.view_is c.place_near.ensures)
