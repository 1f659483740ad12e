-- What is found for the options and the words of a command, also after the defaults of flags.
use Rattle.std.proofs.Common.{◌≡◌, ◌∙◌, ◌||◌, ◌&&◌, ℕ, Bool, true, false, List, [], ◌∷◌, Option, None, Some, refl, sym, ap, codes}
use Rattle.std.specs.Prelude.{is_some, option_map, if◌then◌else◌}
use Rattle.std.specs.List.{AllByRecursion}
use Rattle.std.specs.Str.{bytes_eq}
use Rattle.clap.specs.Walk.{Row as MatchRow, Text, with_default, with_values, has_row, first_of, one_of}
use Rattle.clap.specs.declared.builder.value_parser.Reading.TheVariants.{AsWritten}
use Rattle.clap.specs.declared.parser.matches.ValueSource.TheVariants.{DefaultValue}
use Rattle.pb_command.specs.declared.table.ValuedOption.{ValuedOption}
use Rattle.pb_command.specs.declared.table.ValuedOption.TheVariants.{Falling}
use Rattle.pb_command.specs.declared.table.FlagOption.{FlagOption}
use Rattle.pb_command.specs.Table.{Form, Number, OptionalNumber, FileName, OneOf, option_name, option_form}
use Rattle.pb_command.specs.Values.{InputNames, Grid, Tiles, Strips, flag_of, fits, text_by, option_fits, values_fit, number_in, number_read, number_at, optional_number_at}
use Rattle.pb_command.specs.Options.{is_same, has, Argument, Placed, Valued, Flag, placed_words, value_given, flag_given, number_given, number_by, number_of, falling_given, IsArgumentOf, is_value_of}
use Rattle.pb_command.proofs.Walking.{Place, place_id, option_id, flag_id, match_row, flag_rule, same_option, flag_no_option, flag_no_place, same_flag_itself}
use Rattle.pb_command.proofs.Arguments.{row_of, rows_for, word_at, found_option, found_place, has_row_is}

-- the first file of an input
abbrev pub first_file : InputNames → Text
first_file (Grid names) = names.map
first_file (Tiles board) = board
first_file (Strips names) = names.domain

-- ---- rows that come last

row_past : (id other : Text) (values : List Text) (rows : List MatchRow) → bytes_eq other id ≡ false → has_row other rows ≡ false
    → row_of id (with_values other AsWritten DefaultValue values rows) ≡ row_of id rows
row_past id other values [] apart none = rw apart refl
row_past id other values (r ∷ rs) apart none = by (bytes_eq r.id other) (has_row other rs) refl none (λ e. row_past id other values rs apart e) where
  by : (b c : Bool) → bytes_eq r.id other ≡ b → (b || c) ≡ false
      → (c ≡ false → row_of id (with_values other AsWritten DefaultValue values rs) ≡ row_of id rs)
      → row_of id (with_values other AsWritten DefaultValue values (r ∷ rs)) ≡ row_of id (r ∷ rs)
  by true c is e rest = cc
  by false c is e rest = rw is (ap (λ x. if bytes_eq r.id id then Some r else x) (rest e))

row_new : (id : Text) (values : List Text) (rows : List MatchRow) → bytes_eq id id ≡ true → has_row id rows ≡ false
    → row_of id (with_values id AsWritten DefaultValue values rows) ≡ Some (record { id = id; values = values; count = None; source = Some DefaultValue; reading = AsWritten })
row_new id values [] same none = rw same refl
row_new id values (r ∷ rs) same none = by (bytes_eq r.id id) (has_row id rs) refl none (λ e. row_new id values rs same e) where
  by : (b c : Bool) → bytes_eq r.id id ≡ b → (b || c) ≡ false
      → (c ≡ false → row_of id (with_values id AsWritten DefaultValue values rs) ≡ Some (record { id = id; values = values; count = None; source = Some DefaultValue; reading = AsWritten }))
      → row_of id (with_values id AsWritten DefaultValue values (r ∷ rs)) ≡ Some (record { id = id; values = values; count = None; source = Some DefaultValue; reading = AsWritten })
  by true c is e rest = cc
  by false c is e rest = rw (is, is) (rest e)

-- the default of a flag changes no other row
pub row_beside_flag : (f : FlagOption) (id : Text) (rows : List MatchRow) → bytes_eq (flag_id f) id ≡ false → row_of id (with_default rows (flag_rule f)) ≡ row_of id rows
row_beside_flag f id rows apart = by (has_row (flag_id f) rows) (λ e. row_past id (flag_id f) (codes "false" ∷ []) rows apart e) where
  by : (b : Bool) → (b ≡ false → row_of id (with_values (flag_id f) AsWritten DefaultValue (codes "false" ∷ []) rows) ≡ row_of id rows)
      → row_of id (if b then rows else with_values (flag_id f) AsWritten DefaultValue (codes "false" ∷ []) rows) ≡ row_of id rows
  by true past = refl
  by false past = past refl

-- ---- what is found

-- what is found for the options and the words
pub record Finds (places : List Place) (arguments : List Argument) (rows : List MatchRow) : Type 0 where
  pub option : (o : ValuedOption) → row_of (option_id o) rows ≡ option_map (match_row (option_id o)) (value_given o arguments)
  pub place : (p : Place) → row_of (place_id p) rows ≡ option_map (match_row (place_id p)) (word_at p places (placed_words arguments))

pub finds : (places : List Place) (arguments : List Argument) → Finds places arguments (rows_for places arguments)
finds places arguments = record { option = λ o. found_option places o arguments; place = λ p. found_place p places arguments }

-- the default of a flag changes nothing of it
pub finds_with : (f : FlagOption) (places : List Place) (arguments : List Argument) (rows : List MatchRow) → Finds places arguments rows → Finds places arguments (with_default rows (flag_rule f))
finds_with f places arguments rows found = record {
  option = λ o. row_beside_flag f (option_id o) rows (flag_no_option f o) ∙ found.option o;
  place = λ p. row_beside_flag f (place_id p) rows (flag_no_place f p) ∙ found.place p;
}

-- what is found for a flag
abbrev pub FindsFlag : FlagOption → List Argument → List MatchRow → Type 0
FindsFlag f arguments rows = row_of (flag_id f) rows ≡ (if flag_given f arguments then Some (match_row (flag_id f) (codes "true")) else None)

-- a flag is read as it is given, after its own default
pub flag_read : (f : FlagOption) (arguments : List Argument) (rows : List MatchRow) → FindsFlag f arguments rows → flag_of (flag_id f) (with_default rows (flag_rule f)) ≡ flag_given f arguments
flag_read f arguments rows found =
    by (has_row (flag_id f) rows) (flag_given f arguments) refl (has_row_is (flag_id f) rows ∙ (ap is_some found ∙ some (flag_given f arguments))) found
    (λ e. row_new (flag_id f) (codes "false" ∷ []) rows (same_flag_itself f) e) where
      some : (b : Bool) → is_some (if b then Some (match_row (flag_id f) (codes "true")) else None) ≡ b
      some true = refl
      some false = refl

      by : (b given : Bool) → has_row (flag_id f) rows ≡ b → b ≡ given
          → row_of (flag_id f) rows ≡ (if given then Some (match_row (flag_id f) (codes "true")) else None)
          → (has_row (flag_id f) rows ≡ false → row_of (flag_id f) (with_values (flag_id f) AsWritten DefaultValue (codes "false" ∷ []) rows)
          ≡ Some (record { id = flag_id f; values = codes "false" ∷ []; count = None; source = Some DefaultValue; reading = AsWritten }))
          → flag_of (flag_id f) (if b then rows else with_values (flag_id f) AsWritten DefaultValue (codes "false" ∷ []) rows) ≡ given
      by true true is same found new = rw found refl
      by true false is same found new = cc
      by false true is same found new = cc
      by false false is same found new = rw (new is) refl

-- and after that of another
pub flag_read_beside : (f other : FlagOption) (rows : List MatchRow) → bytes_eq (flag_id other) (flag_id f) ≡ false → flag_of (flag_id f) (with_default rows (flag_rule other)) ≡ flag_of (flag_id f) rows
flag_read_beside f other rows apart = rw (row_beside_flag other (flag_id f) rows apart) refl

-- the value that is found for an option is one that it takes
pub value_fits : (has_option : ValuedOption → Bool) (has_flag : FlagOption → Bool) (option : ValuedOption) (value : Text) (arguments : List Argument)
    → AllByRecursion (IsArgumentOf has_option has_flag) arguments → value_given option arguments ≡ Some value → is_value_of option value ≡ true
value_fits has_option has_flag option value [] all given = cc
value_fits has_option has_flag option value (Placed word ∷ rest) all given = value_fits has_option has_flag option value rest all.1 given
value_fits has_option has_flag option value (Flag flag ∷ rest) all given = value_fits has_option has_flag option value rest all.1 given
value_fits has_option has_flag option value (Valued other given_value ∷ rest) all given =
    by (is_same option other) refl given (λ e. value_fits has_option has_flag option value rest all.1 e) where
      by : (b : Bool) → is_same option other ≡ b → (if b then Some given_value else value_given option rest) ≡ Some value
          → (value_given option rest ≡ Some value → is_value_of option value ≡ true) → is_value_of option value ≡ true
      by true is e later =
          let same : option ≡ other = same_option option other is in
          let value_is : given_value ≡ value = cc in
          ap (λ o. is_value_of o value) same ∙ (ap (is_value_of other) (sym value_is) ∙ all.0.2)
      by false is e later = later e

-- the text that is given with an option, or in a place, is what is found for it
pub text_read : (rows : List MatchRow) (id : Text) (given : Option Text) → row_of id rows ≡ option_map (match_row id) given → first_of id rows ≡ given
text_read rows id None found = rw found refl
text_read rows id (Some value) found = rw found refl

one_read : (rows : List MatchRow) (id : Text) (given : Option Text) → row_of id rows ≡ option_map (match_row id) given → one_of id rows ≡ given
one_read rows id None found = rw found refl
one_read rows id (Some value) found = rw found refl

-- ---- the options of a command

-- a value of its form is read as the number that it writes
read_by : (f : Form) (given : Option Text) → fits f given ≡ true → number_read f given ≡ number_by f given
read_by (Number range) None fit = refl
read_by (Number range) (Some value) fit = rw fit refl
read_by (OptionalNumber least most) given fit = refl
read_by FileName given fit = refl
read_by (OneOf words) given fit = refl

-- also where there is no default
read_without : (least most : ℕ) (given : Option Text) → fits (OptionalNumber least most) given ≡ true → number_in least most None given ≡ option_map number_of given
read_without least most None fit = refl
read_without least most (Some value) fit = rw fit refl

module _ (places : List Place) (arguments : List Argument) (rows : List MatchRow) (found : Finds places arguments rows) where
  text_as_given : (f : Form) (o : ValuedOption) → text_by f (option_name o) rows ≡ value_given o arguments
  text_as_given (Number range) o = one_read rows (option_name o) (value_given o arguments) (found.option o)
  text_as_given (OptionalNumber least most) o = one_read rows (option_name o) (value_given o arguments) (found.option o)
  text_as_given FileName o = text_read rows (option_name o) (value_given o arguments) (found.option o)
  text_as_given (OneOf words) o = text_read rows (option_name o) (value_given o arguments) (found.option o)

  -- the value of an option is tested as it is given
  pub fits_as_given : (o : ValuedOption) → option_fits o rows ≡ fits (option_form o) (value_given o arguments)
  fits_as_given o = ap (fits (option_form o)) (text_as_given (option_form o) o)

-- one value of another form is enough to refuse the values
pub one_unfit : (options : List ValuedOption) (rows : List MatchRow) (o : ValuedOption) → has options o ≡ true → option_fits o rows ≡ false → values_fit options rows ≡ false
one_unfit [] rows o is wrong = cc
one_unfit (p ∷ ps) rows o is wrong = by (is_same p o) (option_fits p rows) refl refl is (λ e. one_unfit ps rows o e wrong) where
  by : (b c : Bool) → is_same p o ≡ b → option_fits p rows ≡ c → (b || has ps o) ≡ true → (has ps o ≡ true → values_fit ps rows ≡ false) → (c && values_fit ps rows) ≡ false
  by b false same fit here rest = refl
  by false true same fit here rest = rest here
  by true true same fit here rest =
      let fits_here : option_fits p rows ≡ false = ap (λ x. option_fits x rows) (same_option p o same) ∙ wrong in
      absurd (apart (sym fit ∙ fits_here)) where
        apart : true ≡ false → ⊥
        apart e = cc

module _ (takes : ValuedOption → Bool) (takes_flag : FlagOption → Bool) (places : List Place) (arguments : List Argument) (rows : List MatchRow)
    (all : AllByRecursion (IsArgumentOf takes takes_flag) arguments) (found : Finds places arguments rows) where
  given_fits : (o : ValuedOption) → fits (option_form o) (value_given o arguments) ≡ true
  given_fits o = by (value_given o arguments) refl where
    by : (given : Option Text) → value_given o arguments ≡ given → fits (option_form o) given ≡ true
    by None is = refl
    by (Some value) is = value_fits takes takes_flag o value arguments all is

  read_as_given : (o : ValuedOption) → one_of (option_name o) rows ≡ value_given o arguments
  read_as_given o = one_read rows (option_name o) (value_given o arguments) (found.option o)

  -- the number of each option is the one that was given, or its default
  pub numbers_read : (o : ValuedOption) → number_at rows o ≡ number_given o arguments
  numbers_read o = ap (number_read (option_form o)) (read_as_given o) ∙ read_by (option_form o) (value_given o arguments) (given_fits o)

  -- and so is the number of steps, if it was given
  pub falling_read : optional_number_at rows Falling ≡ falling_given arguments
  falling_read = ap (number_in 1 20 None) (read_as_given Falling) ∙ read_without 1 20 (value_given Falling arguments) (given_fits Falling)

  -- and all are of their forms
  pub all_fit : (options : List ValuedOption) → values_fit options rows ≡ true
  all_fit [] = refl
  all_fit (o ∷ os) = ap (λ b. b && values_fit os rows) (fits_as_given places arguments rows found o ∙ given_fits o) ∙ all_fit os
