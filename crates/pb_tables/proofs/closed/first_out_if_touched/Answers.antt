use Rattle.std.proofs.Common.{◌∙◌, ◌&&◌, nat_eq, slice_index, sym, arith}
use Rattle.std.proofs.lemmas.Bool.{not-false, and_parts, eqb-true}
use Rattle.pb_packed.specs.Words.{number_of}
use Rattle.pb_task.specs.Strips.{action_at}
use Rattle.pb_tables.specs.Images.{leads_out}
use Rattle.pb_tables.proofs.Firsts.{none_there, leads_nowhere}
use Rattle.pb_tables.proofs.closed.first_out_if_touched.Goals as goal

pub returns-else-touches : goal.returns-else-touches
returns-else-touches c =
    let count = c.args.strips.now.atoms in
    let tracked = c.args.tracked.now in
    let listed = c.args.listed.now in
    let act = action_at c.args.strips.now.actions c.args.action in
    let effect = c.effect_of-effect.result in
    let none = and_parts (nat_eq (number_of effect.adds) 0) (nat_eq (number_of effect.deletes) 0) (not-false (nat_eq (number_of effect.adds) 0 && nat_eq (number_of effect.deletes) 0) (sym c.touches.ensures ∙ c.if-touches.false)) in
    none_there c.args.limit (λ place. leads_out count tracked listed act (slice_index listed place)) (λ place less.
    leads_nowhere count tracked listed act c.requires.written
    (sym c.effect_of-effect.ensures.adds ∙ eqb-true (number_of effect.adds) 0 none.0) (sym c.effect_of-effect.ensures.deletes ∙ eqb-true (number_of effect.deletes) 0 none.1) place (omega (arith, less, c.requires.limit)))
