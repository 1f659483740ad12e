use Rattle.std.proofs.Common.{sym, ap, ◌∙◌}
use Rattle.pb_lifted.specs.Names.{number_of}
use Rattle.pb_lifted.proofs.Found.{at_number, first_found}
use Rattle.pb_lifted.proofs.entries.entry.Goals as goal

pub returns-in-Some : goal.returns-in-Some
returns-in-Some g c =
    let texts = λ (i : g.row.T.Denot). (g.T.Declared.name_of i).text in
    c.item.ensures ∙ sym (first_found texts c.args.items.now c.args.text.now ∙ ap (at_number c.args.items.now) (ap (number_of c.args.text.now) (sym c.requires) ∙ (sym c.find.ensures ∙ c.in-Some.is)))

pub returns-in-None : goal.returns-in-None
returns-in-None g c =
    let texts = λ (i : g.row.T.Denot). (g.T.Declared.name_of i).text in
    sym (first_found texts c.args.items.now c.args.text.now ∙ ap (at_number c.args.items.now) (ap (number_of c.args.text.now) (sym c.requires) ∙ (sym c.find.ensures ∙ c.in-None.is)))
