use Rattle.std.proofs.Common.{arith, refl, sym, ap, subst, ◌∙◌}
use Rattle.pb_estimate.specs.Choices.{Choice, Tables}
use Rattle.pb_estimate.specs.Spelling.{CanBeStated}
use Rattle.pb_test_shown.proofs.saved.version_4.Goals as goal

pub returns-in_ok-new-in-Ok : goal.returns-in_ok-new-in-Ok
returns-in_ok-new-in-Ok c = record {
  width = (omega arith, omega arith);
  choice = subst (λ (choice : Choice). CanBeStated 2 choice)
      (sym (c.of_tables.ensures ∙ ap Tables c.in_ok-new-in-Ok.ensures.ok))
      ((c.tables_are_read_as_written.ensures.alone 2 _ c.in-Ok.tables).0 c.in-Ok.ensures).1;
  grounding = tt;
  kind = refl;
}
