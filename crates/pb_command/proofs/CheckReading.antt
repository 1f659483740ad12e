-- What `check` reads of its arguments.
use Rattle.std.proofs.Common.{◌≡◌, ◌∙◌, ◌⊎◌, inl, inr, ◌||◌, ℕ, Bool, true, false, List, [], ◌∷◌, Option, None, Some, refl, sym, ap, ap₂, subst, codes}
use Rattle.std.specs.Prelude.{fold, map}
use Rattle.std.specs.List.{AllByRecursion}
use Rattle.std.specs.Str.{bytes_eq}
use Rattle.std.proofs.lemmas.Slice.Eq.{bytes_eq-Decides}
use Rattle.clap.specs.Walk.{Row as MatchRow, Text, rows_after, with_default, first_of}
use Rattle.clap.specs.Faults.{check_fault, defaults_fault}
use Rattle.pb_command.specs.declared.command.InputOptions.{InputOptions}
use Rattle.pb_command.specs.declared.table.ValuedOption.TheVariants.{Row, Workers, Rewrite}
use Rattle.pb_command.specs.declared.table.FlagOption.TheVariants.{Swamp, Reachable}
use Rattle.pb_command.specs.Table.{check_options, check_flags}
use Rattle.pb_command.specs.Values.{InputNames, Grid, Tiles, Strips, kind_of_text, values_fit, number_at, flag_at, text_at, grounding_by, is_input_name, is_loaded_name}
use Rattle.pb_command.specs.Meaning.{Read, Refused, Check, CheckMeaning, reading_of_words, unless_faulty, check_of, with_kind, if_fit, options_by, check_with, check_tested}
use Rattle.pb_command.specs.Options.{number_given, options_given, Argument, words_of, placed_words, value_given, AreDistinct, IsAmong, HasNewName, IsArgumentOf, is_of_check, is_flag_of_check, kind_word, file_words}
use Rattle.pb_command.specs.declared.refusal.CommandFault.TheVariants as fault
use Rattle.pb_command.proofs.Walking.{Place, Kind, FirstFile, SecondFile, CertificateFile, flag_id, match_row, flag_rule, defaults_last, last_default_fault, flags_default_fault}
use Rattle.pb_command.proofs.Arguments.{row_of, rows_for, word_at, FitPlaces, found_flag, walks_all, rows_are, no_fault_at_all}
use Rattle.pb_command.proofs.Found.{first_file, finds, finds_with, row_beside_flag, flag_read, flag_read_beside, text_read, numbers_read, all_fit}
use Rattle.pb_command.proofs.Shapes.{check_shape, flagless_rules, check_takes, by_words, ToCheck, rules_of_check, no_default_in_check}

abbrev pub check_places : List Place
check_places = Kind ∷ CertificateFile ∷ FirstFile ∷ SecondFile ∷ []

-- nothing is missing where the kind, the certificate and the first file were found
nothing_missing : (rows : List MatchRow) (kind certificate first : Text) → row_of (codes "KIND") rows ≡ Some (match_row (codes "KIND") kind)
    → row_of (codes "CERTIFICATE") rows ≡ Some (match_row (codes "CERTIFICATE") certificate)
    → row_of (codes "FIRST_FILE") rows ≡ Some (match_row (codes "FIRST_FILE") first) → check_fault check_shape rows false ≡ []
unfolding check_shape flagless_rules
nothing_missing rows kind certificate first has_kind has_certificate has_first = rw (has_kind, has_certificate, has_first) refl

check_values : (rows : List MatchRow) (kind certificate first second rewrite : Option Text) (options : InputOptions) (workers : ℕ) → values_fit check_options rows ≡ true
    → first_of (codes "KIND") rows ≡ kind → first_of (codes "CERTIFICATE") rows ≡ certificate → first_of (codes "FIRST_FILE") rows ≡ first → first_of (codes "SECOND_FILE") rows ≡ second
    → options_by (number_at rows) (flag_at rows) ≡ options → number_at rows Workers ≡ workers → text_at rows Rewrite ≡ rewrite
    → check_of rows ≡ with_kind (kind_of_text kind) (check_with certificate first second options workers rewrite)
check_values rows kind certificate first second rewrite options workers fit a b d e f g h = λ i. if_fit (fit i) (with_kind (kind_of_text (a i)) (check_with (b i) (d i) (e i) (f i) (g i) (h i)))

-- what the arguments of `check` ask for, whatever its kind and the number of its files
pub check_is : (arguments : List Argument) → AllByRecursion (IsArgumentOf is_of_check is_flag_of_check) arguments → AreDistinct arguments → FitPlaces check_places (placed_words arguments)
    → (kind certificate first : Text) → word_at Kind check_places (placed_words arguments) ≡ Some kind → word_at CertificateFile check_places (placed_words arguments) ≡ Some certificate
    → word_at FirstFile check_places (placed_words arguments) ≡ Some first
    → reading_of_words (codes "check" ∷ words_of arguments) ≡ with_kind (kind_of_text (Some kind))
    (check_with (Some certificate) (Some first) (word_at SecondFile check_places (placed_words arguments)) (options_given arguments) (number_given Workers arguments) (value_given Rewrite arguments))
check_is arguments all distinct fit kind certificate first kind_is certificate_here first_is =
    let w = walks_all check_shape is_of_check is_flag_of_check check_places check_takes arguments all distinct fit in
    let bare = rows_for check_places arguments in
    let marked = with_default bare (flag_rule Swamp) in
    let rows = with_default marked (flag_rule Reachable) in
    let found = finds_with Reachable check_places arguments marked (finds_with Swamp check_places arguments bare (finds check_places arguments)) in
    let swamp = flag_read_beside Swamp Reachable marked refl ∙ flag_read Swamp arguments bare (found_flag check_places Swamp arguments) in
    let reachable = flag_read Reachable arguments marked (row_beside_flag Swamp (flag_id Reachable) bare refl ∙ found_flag check_places Reachable arguments) in
    let kind_row : row_of (codes "KIND") rows ≡ Some (match_row (codes "KIND") kind) = found.place Kind ∙ rw kind_is refl in
    let certificate_row : row_of (codes "CERTIFICATE") rows ≡ Some (match_row (codes "CERTIFICATE") certificate) = found.place CertificateFile ∙ rw certificate_here refl in
    let first_row : row_of (codes "FIRST_FILE") rows ≡ Some (match_row (codes "FIRST_FILE") first) = found.place FirstFile ∙ rw first_is refl in
    let same : fold with_default bare check_shape.rules ≡ rows = ap (fold with_default bare) rules_of_check ∙ defaults_last bare flagless_rules (map flag_rule check_flags) no_default_in_check in
    let no_default_fails = ap (defaults_fault bare) rules_of_check ∙ (last_default_fault bare flagless_rules (map flag_rule check_flags) no_default_in_check ∙ flags_default_fault bare check_flags) in
    let none = no_fault_at_all check_shape check_places arguments check_takes.strict w no_default_fails
    (ap (λ x. check_fault check_shape x false) same ∙ nothing_missing rows kind certificate first kind_row certificate_row first_row) in
    let are : rows_after check_shape.rules [] (words_of arguments) ≡ rows = rows_are check_shape check_places arguments w ∙ same in
    by_words ToCheck (words_of arguments) ∙ (ap₂ unless_faulty none (ap check_of are)
    ∙ check_values rows (Some kind) (Some certificate) (Some first) (word_at SecondFile check_places (placed_words arguments)) (value_given Rewrite arguments) (options_given arguments) (number_given Workers arguments)
    (all_fit is_of_check is_flag_of_check check_places arguments rows all found check_options)
    (text_read rows (codes "KIND") (Some kind) kind_row) (text_read rows (codes "CERTIFICATE") (Some certificate) certificate_row) (text_read rows (codes "FIRST_FILE") (Some first) first_row)
    (text_read rows (codes "SECOND_FILE") (word_at SecondFile check_places (placed_words arguments)) (found.place SecondFile))
    (λ i. record { row = numbers_read is_of_check is_flag_of_check check_places arguments rows all found Row i; swamp = swamp i; grounding = grounding_by (reachable i) })
    (numbers_read is_of_check is_flag_of_check check_places arguments rows all found Workers)
    (text_read rows (codes "rewrite") (value_given Rewrite arguments) (found.option Rewrite)))

files_fit : (input : InputNames) (certificate : Text) → FitPlaces check_places (kind_word input ∷ certificate ∷ file_words input)
files_fit (Grid names) certificate = (refl, (refl, (refl, (refl, tt))))
files_fit (Tiles board) certificate = (refl, (refl, (refl, tt)))
files_fit (Strips names) certificate = (refl, (refl, (refl, (refl, tt))))

kind_at : (input : InputNames) (certificate : Text) → word_at Kind check_places (kind_word input ∷ certificate ∷ file_words input) ≡ Some (kind_word input)
kind_at (Grid names) certificate = refl
kind_at (Tiles board) certificate = refl
kind_at (Strips names) certificate = refl

certificate_at : (input : InputNames) (certificate : Text) → word_at CertificateFile check_places (kind_word input ∷ certificate ∷ file_words input) ≡ Some certificate
certificate_at (Grid names) certificate = refl
certificate_at (Tiles board) certificate = refl
certificate_at (Strips names) certificate = refl

first_at : (input : InputNames) (certificate : Text) → word_at FirstFile check_places (kind_word input ∷ certificate ∷ file_words input) ≡ Some (first_file input)
first_at (Grid names) certificate = refl
first_at (Tiles board) certificate = refl
first_at (Strips names) certificate = refl

-- what `check` asks for before its test
abbrev pub check_meant_by : InputNames → Text → List Argument → CheckMeaning
check_meant_by input certificate arguments = record {
  input = input;
  certificate = certificate;
  options = options_given arguments;
  workers = number_given Workers arguments;
  rewrite = value_given Rewrite arguments;
}

asked : (input : InputNames) (certificate : Text) (arguments : List Argument)
    → with_kind (kind_of_text (Some (kind_word input)))
    (check_with (Some certificate) (Some (first_file input)) (word_at SecondFile check_places (kind_word input ∷ certificate ∷ file_words input)) (options_given arguments) (number_given Workers arguments) (value_given Rewrite arguments))
    ≡ check_tested (check_meant_by input certificate arguments)
asked (Grid names) certificate arguments = refl
asked (Tiles board) certificate arguments = refl
asked (Strips names) certificate arguments = refl

-- the arguments of `check` with the files of its kind are tested
check_is_tested : (input : InputNames) (certificate : Text) (arguments : List Argument) → AllByRecursion (IsArgumentOf is_of_check is_flag_of_check) arguments → AreDistinct arguments
    → placed_words arguments ≡ kind_word input ∷ certificate ∷ file_words input
    → reading_of_words (codes "check" ∷ words_of arguments) ≡ check_tested (check_meant_by input certificate arguments)
check_is_tested input certificate arguments all distinct placed =
    check_is arguments all distinct (subst (FitPlaces check_places) (sym placed) (files_fit input certificate)) (kind_word input) certificate (first_file input)
    (ap (word_at Kind check_places) placed ∙ kind_at input certificate) (ap (word_at CertificateFile check_places) placed ∙ certificate_at input certificate)
    (ap (word_at FirstFile check_places) placed ∙ first_at input certificate)
    ∙ (ap (λ ws. with_kind (kind_of_text (Some (kind_word input)))
    (check_with (Some certificate) (Some (first_file input)) (word_at SecondFile check_places ws) (options_given arguments) (number_given Workers arguments) (value_given Rewrite arguments))) placed
    ∙ asked input certificate arguments)

-- ---- the test

-- two names that aren't one are told apart
apart : (a b : Text) → (a ≡ b → ⊥) → bytes_eq a b ≡ false
apart a b not = by (bytes_eq a b) refl where
  by : (c : Bool) → bytes_eq a b ≡ c → c ≡ false
  by true is = absurd (not ((bytes_eq-Decides a b).0 is))
  by false is = refl

new_input : (input : InputNames) (name : Text) → (IsAmong name (file_words input) → ⊥) → is_input_name input name ≡ false
new_input (Grid names) name new = rw (apart name names.map (λ e. new (inl e)), apart name names.scenario (λ e. new (inr (inl e)))) refl
new_input (Tiles board) name new = apart name board (λ e. new (inl e))
new_input (Strips names) name new = rw (apart name names.domain (λ e. new (inl e)), apart name names.problem (λ e. new (inr (inl e)))) refl

new_name : (given : Option Text) (certificate : Text) (input : InputNames) → ((name : Text) → given ≡ Some name → IsAmong name (certificate ∷ file_words input) → ⊥)
    → is_loaded_name given certificate input ≡ false
new_name None certificate input new = refl
new_name (Some name) certificate input new = rw (apart name certificate (λ e. new name refl (inl e)), new_input input name (λ is. new name refl (inr is))) refl

same : (a b : Text) → a ≡ b → bytes_eq a b ≡ true
same a b is = (bytes_eq-Decides a b).1 is

or_true : (a b : Bool) → b ≡ true → (a || b) ≡ true
or_true true b is = refl
or_true false b is = is

or_either : (a b : Bool) → (a ≡ true) ⊎ (b ≡ true) → (a || b) ≡ true
or_either a b (inl is) = rw is refl
or_either a b (inr is) = or_true a b is

input_named : (input : InputNames) (name : Text) → IsAmong name (file_words input) → is_input_name input name ≡ true
input_named (Grid names) name (inl is) = or_either (bytes_eq name names.map) (bytes_eq name names.scenario) (inl (same name names.map is))
input_named (Grid names) name (inr (inl is)) = or_either (bytes_eq name names.map) (bytes_eq name names.scenario) (inr (same name names.scenario is))
input_named (Grid names) name (inr (inr is)) = absurd is
input_named (Tiles board) name (inl is) = same name board is
input_named (Tiles board) name (inr is) = absurd is
input_named (Strips names) name (inl is) = or_either (bytes_eq name names.domain) (bytes_eq name names.problem) (inl (same name names.domain is))
input_named (Strips names) name (inr (inl is)) = or_either (bytes_eq name names.domain) (bytes_eq name names.problem) (inr (same name names.problem is))
input_named (Strips names) name (inr (inr is)) = absurd is

loaded_name : (given : Option Text) (name certificate : Text) (input : InputNames) → given ≡ Some name → IsAmong name (certificate ∷ file_words input)
    → is_loaded_name given certificate input ≡ true
loaded_name given name certificate input named (inl is) = rw named (or_either (bytes_eq name certificate) (is_input_name input name) (inl (same name certificate is)))
loaded_name given name certificate input named (inr is) = rw named (or_either (bytes_eq name certificate) (is_input_name input name) (inr (input_named input name is)))

-- the laws
pub check_reads : (input : InputNames) (certificate : Text) (arguments : List Argument) → AllByRecursion (IsArgumentOf is_of_check is_flag_of_check) arguments → AreDistinct arguments
    → placed_words arguments ≡ kind_word input ∷ certificate ∷ file_words input → HasNewName input certificate arguments
    → reading_of_words (codes "check" ∷ words_of arguments) ≡ Read (Check (check_meant_by input certificate arguments))
check_reads input certificate arguments all distinct placed new =
    check_is_tested input certificate arguments all distinct placed ∙ rw (new_name (value_given Rewrite arguments) certificate input new) refl

pub loaded_name_refused : (input : InputNames) (certificate name : Text) (arguments : List Argument) → AllByRecursion (IsArgumentOf is_of_check is_flag_of_check) arguments → AreDistinct arguments
    → placed_words arguments ≡ kind_word input ∷ certificate ∷ file_words input → value_given Rewrite arguments ≡ Some name → IsAmong name (certificate ∷ file_words input)
    → reading_of_words (codes "check" ∷ words_of arguments) ≡ Refused fault.Names
loaded_name_refused input certificate name arguments all distinct placed named is =
    check_is_tested input certificate arguments all distinct placed ∙ rw (loaded_name (value_given Rewrite arguments) name certificate input named is) refl
