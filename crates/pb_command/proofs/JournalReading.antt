-- What `journal` reads of its arguments.
use Rattle.std.proofs.Common.{◌≡◌, ◌∙◌, true, false, List, [], ◌∷◌, Option, Some, refl, sym, ap, ap₂, subst, codes}
use Rattle.std.specs.Prelude.{fold, map}
use Rattle.std.specs.List.{AllByRecursion}
use Rattle.clap.specs.Walk.{Row as MatchRow, Text, rows_after, with_default, first_of}
use Rattle.clap.specs.Faults.{check_fault, defaults_fault}
use Rattle.pb_command.specs.declared.command.InputOptions.{InputOptions}
use Rattle.pb_command.specs.declared.table.ValuedOption.TheVariants.{Row}
use Rattle.pb_command.specs.declared.table.FlagOption.TheVariants.{Reachable}
use Rattle.pb_command.specs.Table.{journal_options, journal_flags}
use Rattle.pb_command.specs.Values.{InputNames, Grid, Tiles, Strips, kind_of_text, values_fit, number_at, flag_at, grounding_by}
use Rattle.pb_command.specs.Meaning.{Read, Journal, reading_of_words, unless_faulty, journal_of, with_kind, if_fit, journal_options_by, journal_with}
use Rattle.pb_command.specs.Options.{journal_options_given, Argument, words_of, placed_words, AreDistinct, IsArgumentOf, is_of_journal, is_flag_of_journal, kind_word, file_words}
use Rattle.pb_command.proofs.Walking.{Place, Kind, FirstFile, SecondFile, JournalFile, match_row, flag_rule, defaults_last, last_default_fault, flags_default_fault}
use Rattle.pb_command.proofs.Arguments.{row_of, rows_for, word_at, FitPlaces, found_flag, walks_all, rows_are, no_fault_at_all}
use Rattle.pb_command.proofs.Found.{first_file, finds, finds_with, flag_read, text_read, numbers_read, all_fit}
use Rattle.pb_command.proofs.Shapes.{journal_shape, journal_rules, journal_takes, by_words, ToJournal, rules_of_journal, no_default_in_journal}

abbrev pub journal_places : List Place
journal_places = Kind ∷ JournalFile ∷ FirstFile ∷ SecondFile ∷ []

-- nothing is missing where the kind, the journal and the first file were found
nothing_missing : (rows : List MatchRow) (kind journal first : Text) → row_of (codes "KIND") rows ≡ Some (match_row (codes "KIND") kind)
    → row_of (codes "JOURNAL") rows ≡ Some (match_row (codes "JOURNAL") journal)
    → row_of (codes "FIRST_FILE") rows ≡ Some (match_row (codes "FIRST_FILE") first) → check_fault journal_shape rows false ≡ []
unfolding journal_shape journal_rules
nothing_missing rows kind journal first has_kind has_journal has_first = rw (has_kind, has_journal, has_first) refl

journal_values : (rows : List MatchRow) (kind journal first second : Option Text) (options : InputOptions) → values_fit journal_options rows ≡ true
    → first_of (codes "KIND") rows ≡ kind → first_of (codes "JOURNAL") rows ≡ journal → first_of (codes "FIRST_FILE") rows ≡ first → first_of (codes "SECOND_FILE") rows ≡ second
    → journal_options_by (number_at rows) (flag_at rows) ≡ options → journal_of rows ≡ with_kind (kind_of_text kind) (journal_with journal first second options)
journal_values rows kind journal first second options fit a b d e f = λ i. if_fit (fit i) (with_kind (kind_of_text (a i)) (journal_with (b i) (d i) (e i) (f i)))

-- what the arguments of `journal` ask for, whatever its kind and the number of its files
pub journal_is : (arguments : List Argument) → AllByRecursion (IsArgumentOf is_of_journal is_flag_of_journal) arguments → AreDistinct arguments → FitPlaces journal_places (placed_words arguments)
    → (kind journal first : Text) → word_at Kind journal_places (placed_words arguments) ≡ Some kind → word_at JournalFile journal_places (placed_words arguments) ≡ Some journal
    → word_at FirstFile journal_places (placed_words arguments) ≡ Some first
    → reading_of_words (codes "journal" ∷ words_of arguments) ≡ with_kind (kind_of_text (Some kind))
    (journal_with (Some journal) (Some first) (word_at SecondFile journal_places (placed_words arguments)) (journal_options_given arguments))
journal_is arguments all distinct fit kind journal first kind_is journal_here first_is =
    let w = walks_all journal_shape is_of_journal is_flag_of_journal journal_places journal_takes arguments all distinct fit in
    let bare = rows_for journal_places arguments in
    let rows = with_default bare (flag_rule Reachable) in
    let found = finds_with Reachable journal_places arguments bare (finds journal_places arguments) in
    let reachable = flag_read Reachable arguments bare (found_flag journal_places Reachable arguments) in
    let kind_row : row_of (codes "KIND") rows ≡ Some (match_row (codes "KIND") kind) = found.place Kind ∙ rw kind_is refl in
    let journal_row : row_of (codes "JOURNAL") rows ≡ Some (match_row (codes "JOURNAL") journal) = found.place JournalFile ∙ rw journal_here refl in
    let first_row : row_of (codes "FIRST_FILE") rows ≡ Some (match_row (codes "FIRST_FILE") first) = found.place FirstFile ∙ rw first_is refl in
    let same : fold with_default bare journal_shape.rules ≡ rows = ap (fold with_default bare) rules_of_journal ∙ defaults_last bare journal_rules (map flag_rule journal_flags) no_default_in_journal in
    let no_default_fails = ap (defaults_fault bare) rules_of_journal ∙ (last_default_fault bare journal_rules (map flag_rule journal_flags) no_default_in_journal ∙ flags_default_fault bare journal_flags) in
    let none = no_fault_at_all journal_shape journal_places arguments journal_takes.strict w no_default_fails
    (ap (λ x. check_fault journal_shape x false) same ∙ nothing_missing rows kind journal first kind_row journal_row first_row) in
    let are : rows_after journal_shape.rules [] (words_of arguments) ≡ rows = rows_are journal_shape journal_places arguments w ∙ same in
    by_words ToJournal (words_of arguments) ∙ (ap₂ unless_faulty none (ap journal_of are)
    ∙ journal_values rows (Some kind) (Some journal) (Some first) (word_at SecondFile journal_places (placed_words arguments)) (journal_options_given arguments)
    (all_fit is_of_journal is_flag_of_journal journal_places arguments rows all found journal_options)
    (text_read rows (codes "KIND") (Some kind) kind_row) (text_read rows (codes "JOURNAL") (Some journal) journal_row) (text_read rows (codes "FIRST_FILE") (Some first) first_row)
    (text_read rows (codes "SECOND_FILE") (word_at SecondFile journal_places (placed_words arguments)) (found.place SecondFile))
    (λ i. record { row = numbers_read is_of_journal is_flag_of_journal journal_places arguments rows all found Row i; swamp = false; grounding = grounding_by (reachable i) }))

files_fit : (input : InputNames) (journal : Text) → FitPlaces journal_places (kind_word input ∷ journal ∷ file_words input)
files_fit (Grid names) journal = (refl, (refl, (refl, (refl, tt))))
files_fit (Tiles board) journal = (refl, (refl, (refl, tt)))
files_fit (Strips names) journal = (refl, (refl, (refl, (refl, tt))))

kind_at : (input : InputNames) (journal : Text) → word_at Kind journal_places (kind_word input ∷ journal ∷ file_words input) ≡ Some (kind_word input)
kind_at (Grid names) journal = refl
kind_at (Tiles board) journal = refl
kind_at (Strips names) journal = refl

journal_at : (input : InputNames) (journal : Text) → word_at JournalFile journal_places (kind_word input ∷ journal ∷ file_words input) ≡ Some journal
journal_at (Grid names) journal = refl
journal_at (Tiles board) journal = refl
journal_at (Strips names) journal = refl

first_at : (input : InputNames) (journal : Text) → word_at FirstFile journal_places (kind_word input ∷ journal ∷ file_words input) ≡ Some (first_file input)
first_at (Grid names) journal = refl
first_at (Tiles board) journal = refl
first_at (Strips names) journal = refl

asked : (input : InputNames) (journal : Text) (options : InputOptions)
    → with_kind (kind_of_text (Some (kind_word input)))
    (journal_with (Some journal) (Some (first_file input)) (word_at SecondFile journal_places (kind_word input ∷ journal ∷ file_words input)) options)
    ≡ Read (Journal (record { input = input; journal = journal; options = options }))
asked (Grid names) journal options = refl
asked (Tiles board) journal options = refl
asked (Strips names) journal options = refl

-- the law
pub journal_reads : (input : InputNames) (journal : Text) (arguments : List Argument) → AllByRecursion (IsArgumentOf is_of_journal is_flag_of_journal) arguments → AreDistinct arguments
    → placed_words arguments ≡ kind_word input ∷ journal ∷ file_words input
    → reading_of_words (codes "journal" ∷ words_of arguments) ≡ Read (Journal (record { input = input; journal = journal; options = journal_options_given arguments }))
journal_reads input journal arguments all distinct placed =
    journal_is arguments all distinct (subst (FitPlaces journal_places) (sym placed) (files_fit input journal)) (kind_word input) journal (first_file input)
    (ap (word_at Kind journal_places) placed ∙ kind_at input journal) (ap (word_at JournalFile journal_places) placed ∙ journal_at input journal)
    (ap (word_at FirstFile journal_places) placed ∙ first_at input journal)
    ∙ (ap (λ ws. with_kind (kind_of_text (Some (kind_word input)))
    (journal_with (Some journal) (Some (first_file input)) (word_at SecondFile journal_places ws) (journal_options_given arguments))) placed
    ∙ asked input journal (journal_options_given arguments))
