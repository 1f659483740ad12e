use Rattle.std.proofs.Common.{◌≡◌, ◌∷◌, List, get_or, sym, ap, ◌∙◌}
use Rattle.std.specs.Cmp.Lexicographic.{slice_cmp}
use Rattle.std.specs.Ordering.{nat_cmp}
use Rattle.pb_ground.specs.declared.atoms.GroundAtom.{GroundAtom}
use Rattle.pb_ground.specs.Order.{row_in}
use Rattle.pb_ground.specs.Pruning.{row_of}
use Rattle.pb_ground.proofs.Rising.{row_in_is}
use Rattle.pb_ground.proofs.atoms.Atoms.compare_at.Goals as goal

pub returns : goal.returns
returns c =
    let atom = c.index-as_slice-i.result in
    let row : row_of atom ≡ row_in c.args.self.now c.args.i =
    ap (λ (a : GroundAtom). row_of a) (c.index-as_slice-i.is ∙ ap (λ (list : List GroundAtom). get_or list c.args.i atom) (c.as_slice.ensures ∙ c.self.view_is))
    ∙ sym (row_in_is c.args.self.now c.args.i atom c.requires) in
    c.compare.ensures ∙ ap (λ r. slice_cmp nat_cmp r (c.args.predicate ∷ c.args.objects.now)) row
