-- Texts that spell a task by the rules of their format are not refused: a map and a scenario, a
-- board, or a domain and a problem that are well typed and within the limits. Nor is the text of
-- tables that suit the task. The other way round, a task that texts of a map or of a board give is
-- one that they spell.
use Rattle.std.proofs.Common.{◌≡◌, ℕ, zero, suc, ◌+◌, ◌-◌, ◌*◌, ◌/◌, ◌^◌, ◌≤◌, ◌<◌, if◌then◌else◌, true, Option, None, Some, is_none, List, slice_get, Result, Ok, Err, refl, sym, ap, subst, ◌∙◌, arith}
use Rattle.std.proofs.lemmas.Nat.{pow-add}
use Rattle.std.proofs.Math.Nat.{pow-suc, pow-le-pow_right}
use Rattle.std.proofs.Math.Dec.{eqb-suc-zero}
use Rattle.pb_task.specs.declared.grounding.Grounding.{Grounding}
use Rattle.pb_task.specs.declared.parts.TaskParts.{TaskParts}
use Rattle.pb_task.specs.declared.parts.TaskParts.TheVariants as parts
use Rattle.pb_task.specs.declared.parts.GridParts.{GridParts}
use Rattle.pb_task.specs.declared.parts.TilesParts.{TilesParts}
use Rattle.pb_task.specs.declared.parts.StripsParts.{StripsParts}
use Rattle.pb_task.specs.Widths.{digits_for, width_of}
use Rattle.pb_tables.specs.declared.fault.TablesFault.{TablesFault}
use Rattle.pb_tables.specs.Tables.{TablesValue, AreTables}
use Rattle.pb_tables.specs.Suits.{tables_fault, suit}
use Rattle.pb_table_lines.specs.Lines.{tables_text}
use Rattle.pb_table_lines.proofs.Callers.{suiting_tables_can_be_stated, tables_are_read_as_written}
use Rattle.pb_grid.specs.declared.error.GridError.{GridError}
use Rattle.pb_grid.specs.Laws.{ReadAsSpelled}
use Rattle.pb_grid.specs.Reading.{grid_reading, task_of}
use Rattle.pb_tiles.specs.declared.error.TilesError.{TilesError}
use Rattle.pb_tiles.specs.Laws.{ReadingsAreSpelled}
use Rattle.pb_tiles.specs.Reading.{tiles_reading}
use Rattle.pb_pddl.specs.declared.tree.Domain.{Domain}
use Rattle.pb_pddl.specs.declared.tree.Problem.{Problem}
use Rattle.pb_pddl.specs.Readings.{problem_reading}
use Rattle.pb_pddl_laws.proofs.Callers.{domain_is_read, problem_is_read}
use Rattle.pb_lifted.specs.Typing.{IsWellTyped}
use Rattle.pb_strips.specs.Grounding.{strips_with}
use Rattle.pb_strips.specs.Refusals.{IsWithinLimitsWith}
use Rattle.pb_strips.proofs.Callers.{no_fault_with}
use Rattle.pb_report.specs.Texts.{input_text, tiles_text}
use Rattle.pb_command.specs.declared.command.InputOptions.{InputOptions}
use Rattle.pb_command.specs.Values.{InputNames, Grid, Tiles, Strips}
use Rattle.pb_command.specs.Meaning.{Reading, Refused, Read, Solve, Falling, Check, Journal, Make, SolveMeaning}
use Rattle.pb_answer.specs.Loaded.{refused_with, grid_told, grid_task, tiles_told, tiles_task, strips_told, problem_told, domain_told, strips_task, input_task, with_text, suiting_told, tables_told, with_its_tables, with_tables_of, with_tables_if_loaded, with_tables_file, solve_task, RefusesTexts}
use Rattle.pb_answer.specs.Named.{SpellTrees}
use Rattle.pb_answer.specs.Spelled.{OfGrid, OfTiles, SpellInput, SpellTables, SpellSolve, SpellBehind, SpellTask}
use Rattle.pb_answer.proofs.SolveTask.{ReadTask}

-- ---- what is spelled is a task

strips_reads : (grounding : Grounding) (domain_text problem_text : Option (List ℕ)) (domain : Domain) (problem : Problem) → SpellTrees domain_text problem_text domain problem
    → IsWellTyped domain problem → IsWithinLimitsWith grounding domain problem
    → strips_task grounding domain_text problem_text ≡ Ok (parts.Strips (strips_with grounding domain problem))
strips_reads grounding None problem_text domain problem spelled typed within = absurd spelled
strips_reads grounding (Some domain_text) None domain problem spelled typed within = absurd spelled
strips_reads grounding (Some domain_text) (Some problem_text) domain problem (one, two) typed within =
    ap (λ reading. domain_told grounding reading (problem_reading problem_text)) (domain_is_read domain_text domain one)
    ∙ ap (problem_told grounding domain) (problem_is_read problem_text problem two)
    ∙ ap (strips_told grounding domain problem) (no_fault_with grounding domain problem typed within)

grid_reads : ReadAsSpelled → (map_text scenario_text : Option (List ℕ)) (options : InputOptions) → OfGrid map_text scenario_text options (λ grid. Unit {0})
    → (task : TaskParts) × (grid_task map_text scenario_text options ≡ Ok task)
grid_reads law None scenario_text options spelled = absurd spelled
grid_reads law (Some map_text) None options spelled = absurd spelled
grid_reads law (Some map_text) (Some scenario_text) options (grid, spelled, done) =
    (parts.Grid grid, ap (λ read. grid_told (task_of read)) ((law map_text scenario_text options.row options.swamp grid).1 spelled))

tiles_reads : ReadingsAreSpelled → (text : Option (List ℕ)) → OfTiles text (λ tiles. Unit {0}) → (task : TaskParts) × (tiles_task text ≡ Ok task)
tiles_reads law None spelled = absurd spelled
tiles_reads law (Some text) (tiles, spelled, done) = (parts.Tiles tiles, ap tiles_told ((law text tiles).1 spelled))

-- ---- what is spelled are tables

-- so many digits, of four bits each, have these bits
digits_have : (bits digits : ℕ) → bits ≤ 4 * digits → 2 ^ bits ≤ 16 ^ digits
digits_have bits zero few =
    let none : bits ≡ 0 = omega (arith, few) in
    subst (λ n. 2 ^ n ≤ 16 ^ 0) (sym none) (omega arith)
digits_have bits (suc digits) few =
    let rest : 2 ^ (bits - 4) ≤ 16 ^ digits = digits_have (bits - 4) digits (omega (arith, few)) in
    let some : 0 < 2 = omega arith in
    let within : bits ≤ (bits - 4) + 4 = omega arith in
    let more : 2 ^ bits ≤ 2 ^ ((bits - 4) + 4) = pow-le-pow_right some within in
    let apart : 2 ^ ((bits - 4) + 4) ≡ 2 ^ (bits - 4) * 2 ^ 4 = pow-add 2 (bits - 4) 4 in
    let next : 16 ^ suc digits ≡ 16 ^ digits * 16 = pow-suc 16 digits in
    omega (arith, rest, more, apart, next)

-- the states of a task have a bit for each atom
enough_digits : (atoms : ℕ) → atoms ≤ 4 * digits_for atoms
enough_digits zero = omega arith
enough_digits (suc atoms) =
    let digits : digits_for (suc atoms) ≡ (suc atoms + 3) / 4 =
    ap (λ test. if test then 1 else (suc atoms + 3) / 4) (eqb-suc-zero atoms) in
    omega (arith, digits)

without_fault : (tables : TablesValue) (fault : Option TablesFault) → is_none fault ≡ true
    → suiting_told tables fault ≡ Ok tables
without_fault tables None e = refl
without_fault tables (Some fault) e = cc

-- the lines of lawful tables that suit a task are read as these tables
tables_reads : (strips : StripsParts) (tables : TablesValue) (text : List ℕ) → AreTables tables
    → suit strips tables ≡ true → text ≡ tables_text (width_of (parts.Strips strips)) tables
    → with_tables_of text (Ok (parts.Strips strips)) ≡ Ok (parts.Strips strips, Some tables)
tables_reads strips tables text are suits is =
    let digits = width_of (parts.Strips strips) in
    let stated = suiting_tables_can_be_stated strips tables digits are suits
    (digits_have strips.atoms digits (enough_digits strips.atoms)) in
    ap (λ reading. with_its_tables (parts.Strips strips) (tables_told strips reading))
    ((tables_are_read_as_written.alone digits text tables).1 is stated)
    ∙ ap (with_its_tables (parts.Strips strips))
    (without_fault tables (tables_fault strips tables) suits)

abbrev AllRead : Result ReadTask (List ℕ) → Type 0
AllRead all = (read : ReadTask) × (all ≡ Ok read)

-- a task that was read is read with the tables that are spelled with it
module _ (solve : SolveMeaning) (texts : List (List ℕ)) where
  abbrev IsTaskOf : TaskParts → Type 0
  IsTaskOf task = input_task solve.input solve.options 0 texts ≡ Ok task

  text_read : (tables : TablesValue) (text : List ℕ) → AreTables tables
      → ((strips : StripsParts) → IsTaskOf (parts.Strips strips) → (suit strips tables ≡ true)
      × (text ≡ tables_text (width_of (parts.Strips strips)) tables))
      → (task : TaskParts) → IsTaskOf task → AllRead (with_tables_of text (Ok task))
  text_read tables text are spelled (parts.Grid grid) is = ((parts.Grid grid, None), refl)
  text_read tables text are spelled (parts.Tiles tiles) is = ((parts.Tiles tiles, None), refl)
  text_read tables text are spelled (parts.Strips strips) is =
      let both = spelled strips is in
      ((parts.Strips strips, Some tables), tables_reads strips tables text are both.0 both.1)

  file_read : (task : TaskParts) → IsTaskOf task → (input : InputNames) (file : Option (List ℕ))
      → SpellTables solve texts input file → AllRead (with_tables_file input file texts (Ok task))
  file_read task is (Grid names) file spelled = ((task, None), refl)
  file_read task is (Tiles board) file spelled = ((task, None), refl)
  file_read task is (Strips names) None spelled = ((task, None), refl)
  file_read task is (Strips names) (Some file) (tables, text, there, are, spelled) =
      let read = text_read tables text are spelled task is in
      (read.0, ap (λ first. with_tables_if_loaded first (Ok task)) there ∙ read.1)

-- a task isn't a refusal
apart : {A : Type 0} → (result : Result A (List ℕ)) (a : A) (report : List ℕ) → result ≡ Ok a → result ≡ Err report → ⊥
apart {A = A} result a report one other = different (sym one ∙ other)
  where
    different : ◌≡◌ {A = Result A (List ℕ)} (Ok a) (Err report) → ⊥
    different e = cc

module _ (maps : ReadAsSpelled) (boards : ReadingsAreSpelled) where
  input_reads : (input : InputNames) (options : InputOptions) (first : ℕ) (texts : List (List ℕ)) → SpellInput input options first texts
      → (task : TaskParts) × (input_task input options first texts ≡ Ok task)
  input_reads (Grid names) options first texts spelled = grid_reads maps (slice_get texts first) (slice_get texts (first + 1)) options spelled
  input_reads (Tiles board) options first texts spelled = tiles_reads boards (slice_get texts first) spelled
  input_reads (Strips names) options first texts (domain, problem, spelled, typed, within) = (
    parts.Strips (strips_with options.grounding domain problem),
    strips_reads options.grounding (slice_get texts first) (slice_get texts (first + 1)) domain problem spelled typed within,
  )

  solve_reads : (solve : SolveMeaning) (texts : List (List ℕ)) → SpellSolve solve texts
      → AllRead (solve_task solve texts)
  solve_reads solve texts (spelled, tables) =
      let reads = input_reads solve.input solve.options 0 texts spelled in
      let all = file_read solve texts reads.0 reads.1 solve.input solve.tables tables in
      (all.0, ap (with_tables_file solve.input solve.tables texts) reads.1 ∙ all.1)

  behind_reads : (input : InputNames) (options : InputOptions) (texts : List (List ℕ)) → SpellBehind input options texts
      → (task : TaskParts) × (text : List ℕ) × (with_text (slice_get texts 0) (input_task input options 1 texts) ≡ Ok (task, text))
  behind_reads input options texts (text, there, spelled) =
      let reads = input_reads input options 1 texts spelled in
      (reads.0, text, ap (λ first. with_text first (input_task input options 1 texts)) there ∙ ap (with_text (Some text)) reads.1)

  -- ---- and no report refuses it

  pub never_refused : (reading : Reading) (texts : List (List ℕ)) → SpellTask reading texts → (report : List ℕ) → RefusesTexts reading texts report → ⊥
  never_refused (Refused fault) texts spelled report refused = absurd spelled
  never_refused (Read (Solve solve)) texts spelled report refused =
      let reads = solve_reads solve texts spelled in
      apart (solve_task solve texts) reads.0 report reads.1 refused
  never_refused (Read (Falling falling)) texts spelled report refused =
      let reads = solve_reads falling.solve texts spelled in
      apart (solve_task falling.solve texts) reads.0 report reads.1 refused
  never_refused (Read (Check check)) texts spelled report refused =
      let reads = behind_reads check.input check.options texts spelled in
      apart (with_text (slice_get texts 0) (input_task check.input check.options 1 texts)) (reads.0, reads.1) report reads.2 refused
  never_refused (Read (Journal journal)) texts spelled report refused =
      let reads = behind_reads journal.input journal.options texts spelled in
      apart (with_text (slice_get texts 0) (input_task journal.input journal.options 1 texts)) (reads.0, reads.1) report reads.2 refused
  never_refused (Read (Make make)) texts spelled report refused = absurd spelled

-- ---- a task of a map or of a board is one that is spelled

module _ (task : TaskParts) (P : TaskParts → Type 0) (holds : P task) where
  pub of_grid : ReadAsSpelled → (map_text scenario_text : Option (List ℕ)) (options : InputOptions) → grid_task map_text scenario_text options ≡ Ok task
      → OfGrid map_text scenario_text options (λ grid. P (parts.Grid grid))
  of_grid law None scenario_text options e = cc
  of_grid law (Some map_text) None options e = cc
  of_grid law (Some map_text) (Some scenario_text) options e = read (grid_reading map_text scenario_text options.row options.swamp) refl e
    where
      refused : (report : Option (List ℕ)) → refused_with report ≡ Ok task → OfGrid (Some map_text) (Some scenario_text) options (λ grid. P (parts.Grid grid))
      refused None f = cc
      refused (Some report) f = cc

      read : (result : Result GridParts GridError) → grid_reading map_text scenario_text options.row options.swamp ≡ result → grid_told (task_of result) ≡ Ok task → OfGrid (Some map_text) (Some scenario_text) options (λ grid. P (parts.Grid grid))
      read (Ok grid) is f =
          let same : task ≡ parts.Grid grid = cc in
          (grid, (law map_text scenario_text options.row options.swamp grid).0 is, subst P same holds)
      read (Err error) is f = refused (input_text error) f

  pub of_tiles : ReadingsAreSpelled → (text : Option (List ℕ)) → tiles_task text ≡ Ok task → OfTiles text (λ tiles. P (parts.Tiles tiles))
  of_tiles law None e = cc
  of_tiles law (Some text) e = read (tiles_reading text) refl e
    where
      refused : (report : Option (List ℕ)) → refused_with report ≡ Ok task → OfTiles (Some text) (λ tiles. P (parts.Tiles tiles))
      refused None f = cc
      refused (Some report) f = cc

      read : (result : Result TilesParts TilesError) → tiles_reading text ≡ result → tiles_told result ≡ Ok task → OfTiles (Some text) (λ tiles. P (parts.Tiles tiles))
      read (Ok tiles) is f =
          let same : task ≡ parts.Tiles tiles = cc in
          (tiles, (law text tiles).0 is, subst P same holds)
      read (Err error) is f = refused (tiles_text error) f
