-- Estimators by their choice.
use Rattle.std.proofs.Common.{◌≡◌, ℕ, true, Option, None, Some, refl, sym, ap, subst, unwrap_or, ◌∙◌}
use Rattle.pb_task.specs.declared.parts.TaskParts.{TaskParts}
use Rattle.pb_pattern.specs.Tables.{TableValue, IsOfTask as IsTableOf}
use Rattle.pb_estimate.specs.Choices.{Choice, Plain, Pattern, Tables, pattern_of, tables_of}
use Rattle.pb_estimate.specs.Estimates.{tables_suit}
use Rattle.pb_tables.specs.Tables.{TablesValue}
use Rattle.pb_estimate.specs.declared.estimator.PlainTables.{PlainTables}
use Rattle.pb_estimate.specs.declared.action_index.ActionIndex.{ActionIndex}
use Rattle.pb_estimate.specs.Indexed.{HasIndex}
use Rattle.pb_estimate.specs.Tables.{EstimatorValue, AreOfTask, HasTable, IsOfTask}

-- a table that the choice needs is of the task, and the choice is by its number
by_table : (task : TaskParts) (choice : Choice) (table : TableValue) → HasTable task choice (Some table) → IsTableOf table task × (choice ≡ Pattern table.pattern)
by_table task Plain table has = absurd has
by_table task (Pattern number) table has = (has.0, sym (ap (λ (n : ℕ). Pattern n) has.1))
by_table task (Tables tables) table has = absurd has

-- the choice that needs no table of a pattern and has no tables is the plain one
by_none : (task : TaskParts) (choice : Choice) → HasTable task choice None → None ≡ tables_of choice → choice ≡ Plain
by_none task Plain has none = refl
by_none task (Pattern number) has none = absurd has
by_none task (Tables tables) has none = cc

-- the choice that has tables is theirs, and they suit the task
by_tables : (task : TaskParts) (choice : Choice) (table : Option TableValue) (tables : TablesValue) → HasTable task choice table → Some tables ≡ tables_of choice
    → (choice ≡ Tables tables) × (tables_suit task tables ≡ true)
by_tables task Plain table tables has e = cc
by_tables task (Pattern number) table tables has e = cc
by_tables task (Tables others) None tables has e =
    let same : others ≡ tables = sym (ap (λ o. unwrap_or o tables) e) in
    (ap (λ (t : TablesValue). Tables t) same, subst (λ t. tables_suit task t ≡ true) same has)
by_tables task (Tables others) (Some table) tables has e = absurd has

-- the choice that needs no table of a pattern has no number
no_number : (task : TaskParts) (choice : Choice) → HasTable task choice None → pattern_of choice ≡ 0
no_number task Plain has = refl
no_number task (Pattern number) has = absurd has
no_number task (Tables tables) has = refl

module _ (estimator : EstimatorValue) (task : TaskParts) (choice : Choice) (of_task : IsOfTask estimator task choice) where
  pub keeps_plain : AreOfTask estimator.plain task
  unfolding IsOfTask
  keeps_plain = of_task.0

  keeps_table : HasTable task choice estimator.table
  unfolding IsOfTask
  keeps_table = of_task.1

  keeps_tables : estimator.tables ≡ tables_of choice
  unfolding IsOfTask
  keeps_tables = of_task.2

  -- what an estimator with a table looks up
  pub looks_up : (table : TableValue) → estimator.table ≡ Some table → IsTableOf table task × (choice ≡ Pattern table.pattern)
  looks_up table e = by_table task choice table (subst (λ (t : Option TableValue). HasTable task choice t) e keeps_table)

  -- an estimator without a table and without tables
  pub is_plain : estimator.table ≡ None → estimator.tables ≡ None → choice ≡ Plain
  is_plain e none = by_none task choice (subst (λ (t : Option TableValue). HasTable task choice t) e keeps_table) (sym none ∙ keeps_tables)

  pub has_no_number : estimator.table ≡ None → pattern_of choice ≡ 0
  has_no_number e = no_number task choice (subst (λ (t : Option TableValue). HasTable task choice t) e keeps_table)

  -- what an estimator with tables looks up
  pub looks_up_tables : (tables : TablesValue) → estimator.tables ≡ Some tables → (choice ≡ Tables tables) × (tables_suit task tables ≡ true)
  looks_up_tables tables e = by_tables task choice estimator.table tables keeps_table (sym e ∙ keeps_tables)

  pub keeps_index : HasIndex task estimator.index
  unfolding IsOfTask
  keeps_index = of_task.3

  -- only what the plain estimates need changes
  pub stays : (plain : PlainTables) → AreOfTask plain task → IsOfTask (record { plain = plain; table = estimator.table; tables = estimator.tables; index = estimator.index }) task choice
  unfolding IsOfTask
  stays plain are = (are, keeps_table, keeps_tables, keeps_index)

  -- only the index changes
  pub stays_indexed : (index : Option ActionIndex) → HasIndex task index → IsOfTask (record { plain = estimator.plain; table = estimator.table; tables = estimator.tables; index = index }) task choice
  unfolding IsOfTask
  stays_indexed index has = (keeps_plain, keeps_table, keeps_tables, has)
