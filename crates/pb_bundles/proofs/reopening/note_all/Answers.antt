use Rattle.std.proofs.Common.{◌==◌, None, is_some, get_or, sym, ap, subst, ◌∙◌, arith}
use Rattle.std.proofs.lemmas.Bool.{eqb-false}
use Rattle.std.proofs.lemmas.Bool.Decides.{nat_tests}
use Rattle.pb_model.specs.Key.{IsBest}
use Rattle.pb_model.proofs.Callers.{by_cases, equal}
use Rattle.pb_lists.specs.Bundle.{row_of}
use Rattle.pb_bundles.proofs.Lists.{some_within}
use Rattle.pb_bundles.proofs.reopening.note_all.Goals as goal

pub loop-block-preserved : goal.loop-block-preserved
loop-block-preserved c = record {
  noted = λ block content less is. by_cases (block == c.loop-block.block)
      (λ e. let same = equal block c.loop-block.block e in
      subst (λ n. IsBest content.weight (row_of content) (get_or c.note_one.new.keys n None)) (sym same) (c.note_one.ensures.noted content (ap (λ n. get_or c.args.bundles.now n None) (sym same) ∙ is)))
      (λ e. subst (IsBest content.weight (row_of content)) (sym (c.note_one.ensures.others block (eqb-false block c.loop-block.block e)))
      (c.loop-block.invariant.noted block content (grind (arith, nat_tests, less, e)) is));
  count = c.note_one.ensures.count ∙ c.loop-block.invariant.count;
}

pub returns-clause-noted : goal.returns-clause-noted
returns-clause-noted c = λ block content is.
    let within = some_within c.args.bundles.now block (ap is_some is) in
    c.loop-block.invariant.noted block content (omega (arith, within, c.loop-block-test.false)) is
