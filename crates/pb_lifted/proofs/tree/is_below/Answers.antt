use Rattle.std.proofs.Common.{suc, length, sym, ap, ◌∙◌}
use Rattle.std.proofs.lemmas.List.{length-map}
use Rattle.pb_lifted.specs.Names.{number_of}
use Rattle.pb_lifted.specs.Types.{height, type_names}
use Rattle.pb_lifted.specs.Tree.{parent_numbers, comes_to}
use Rattle.pb_lifted.proofs.TypeTree.{within_is, within_unknown, below_unknown}
use Rattle.pb_lifted.proofs.tree.is_below.Goals as goal

pub returns-in-None : goal.returns-in-None
returns-in-None c =
    c.is_object.ensures ∙ sym (below_unknown c.args.types.now c.args.low.now c.args.high.now
    (ap (λ names. number_of c.args.low.now names) (sym c.requires.names) ∙ (sym c.find.ensures ∙ c.in-None.is)) (sym c.if-eq.ensures))

pub returns-in-None-find : goal.returns-in-None-find
returns-in-None-find c =
    sym (within_unknown c.args.types.now (height c.args.types.now) c.args.low.now c.args.high.now c.in-Some.from
    (ap (λ names. number_of c.args.low.now names) (sym c.requires.names) ∙ (sym c.find.ensures ∙ c.in-Some.is))
    (ap (λ names. number_of c.args.high.now names) (sym c.requires.names) ∙ (sym c.find-in-Some.ensures ∙ c.in-None-find.is)))

pub returns-in-Some-find : goal.returns-in-Some-find
returns-in-Some-find c =
    let types = c.args.types.now in
    c.climbs.ensures
    ∙ (ap (λ parents. comes_to parents (length parents) c.in-Some.from c.in-Some-find.to) (c.as_slice.ensures.value ∙ c.requires.parents)
    ∙ (ap (λ n. comes_to (parent_numbers (type_names types) types) (suc n) c.in-Some.from c.in-Some-find.to) (length-map types _)
    ∙ sym (within_is types (height types) c.args.low.now c.args.high.now c.in-Some.from c.in-Some-find.to
    (ap (λ names. number_of c.args.low.now names) (sym c.requires.names) ∙ (sym c.find.ensures ∙ c.in-Some.is))
    (ap (λ names. number_of c.args.high.now names) (sym c.requires.names) ∙ (sym c.find-in-Some.ensures ∙ c.in-Some-find.is)))))
