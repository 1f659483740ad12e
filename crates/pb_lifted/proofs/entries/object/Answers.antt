use Rattle.std.proofs.Common.{◌++◌, sym, ap, ◌∙◌}
use Rattle.pb_lifted.specs.Names.{number_of}
use Rattle.pb_lifted.specs.Types.{name_text}
use Rattle.pb_lifted.proofs.Found.{at_number, first_found, get_front, get_behind}
use Rattle.pb_lifted.proofs.entries.object.Goals as goal

pub returns-then-i-constants : goal.returns-then-i-constants
returns-then-i-constants c =
    let all = c.args.constants.now ++ c.args.objects.now in
    c.item.ensures ∙ (get_front c.args.constants.now c.args.objects.now c.in-Some.i c.if-i-constants.true
    ∙ sym (first_found name_text all c.args.text.now ∙ ap (at_number all) (ap (number_of c.args.text.now) (sym c.requires) ∙ (sym c.find.ensures ∙ c.in-Some.is))))

pub returns-else-i-constants : goal.returns-else-i-constants
returns-else-i-constants c =
    let all = c.args.constants.now ++ c.args.objects.now in
    c.item-else-i-constants.ensures ∙ (get_behind c.args.constants.now c.args.objects.now c.in-Some.i c.if-i-constants.false
    ∙ sym (first_found name_text all c.args.text.now ∙ ap (at_number all) (ap (number_of c.args.text.now) (sym c.requires) ∙ (sym c.find.ensures ∙ c.in-Some.is))))

pub returns-in-None : goal.returns-in-None
returns-in-None c =
    let all = c.args.constants.now ++ c.args.objects.now in
    sym (first_found name_text all c.args.text.now ∙ ap (at_number all) (ap (number_of c.args.text.now) (sym c.requires) ∙ (sym c.find.ensures ∙ c.in-None.is)))
