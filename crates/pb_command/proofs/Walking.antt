-- The walk of clap over the arguments of a subcommand: words in their places, options with one value each, and flags.
use Rattle.std.proofs.Common.{◌≡◌, ◌∙◌, ◌+◌, ◌++◌, ◌||◌, ℕ, Bool, true, false, List, [], ◌∷◌, Option, None, Some, refl, sym, ap, ap₂, codes}
use Rattle.std.specs.Prelude.{if◌then◌else◌, find, fold, map, min}
use Rattle.std.specs.List.{AllByRecursion}
use Rattle.std.specs.Str.{bytes_eq}
use Rattle.std.proofs.lemmas.List.Folds.{list_any-append}
use Rattle.std.proofs.lemmas.Slice.Eq.{bytes_eq-Decides}
use Rattle.std.proofs.Math.Bool.{and-false}
use Rattle.clap.specs.Lexer.{usize_max, long_of}
use Rattle.clap.specs.Walk.{Held, Rule, Row as MatchRow, Text, Walk, idle, walked, with_values, without, settled, reacted, has_row, with_default, default_rows, reading_by, is_empty}
use Rattle.clap.specs.Walk.{arg_by_id, arg_by_index, arg_by_long}
use Rattle.clap.specs.Simple.{Shape, new_rule}
use Rattle.clap.specs.Values.{reading_of}
use Rattle.clap.specs.ValueTests.{accepts}
use Rattle.clap.specs.Faults.{defaults_fault, given_default_fault, settle_fault, turn_fault, walk_fault}
use Rattle.clap.specs.Kinds.{Kinds, or_else}
use Rattle.clap.specs.declared.builder.action.ArgAction.TheVariants.{Set, SetTrue}
use Rattle.clap.specs.declared.builder.value_parser.ValueParser.{ValueParser}
use Rattle.clap.specs.declared.builder.value_parser.ValueParser.TheVariants as vp
use Rattle.clap.specs.declared.builder.value_parser.Reading.TheVariants.{AsWritten}
use Rattle.clap.specs.declared.parser.matches.ValueSource.TheVariants.{CommandLine}
use Rattle.pb_command.specs.Parser.{seed_most, size_word_most}
use Rattle.pb_command.specs.Names.{IsName}
use Rattle.pb_command.specs.declared.table.ValuedOption.{ValuedOption}
use Rattle.pb_command.specs.declared.table.ValuedOption.TheVariants.{Row}
use Rattle.pb_command.specs.declared.table.FlagOption.{FlagOption}
use Rattle.pb_command.specs.declared.table.FlagOption.TheVariants.{Plain, Swamp, Reachable}
use Rattle.pb_command.specs.Table.{Form, Number, OptionalNumber, FileName, OneOf, option_name, option_form, flag_name, is_value, solve_options, solve_flags, check_options, check_flags, journal_options, journal_flags, make_options}
use Rattle.pb_command.specs.Options.{option_word, is_same, is_value_of, flag_word, is_same_flag}

-- ---- the words that their place tells

pub data Place : Type 0 where
  Kind : Place
  FirstFile : Place
  SecondFile : Place
  CertificateFile : Place
  JournalFile : Place
  Seed : Place
  Size : Place

abbrev pub place_id : Place → Text
place_id Kind = codes "KIND"
place_id FirstFile = codes "FIRST_FILE"
place_id SecondFile = codes "SECOND_FILE"
place_id CertificateFile = codes "CERTIFICATE"
place_id JournalFile = codes "JOURNAL"
place_id Seed = codes "SEED"
place_id Size = codes "SIZE"

abbrev pub place_parser : Place → ValueParser
place_parser Seed = vp.Unsigned 0 seed_most
place_parser Size = vp.Unsigned 0 size_word_most
place_parser _ = vp.String

abbrev pub is_required : Place → Bool
is_required SecondFile = false
is_required _ = true

-- ---- the options

-- the identifier of an option is its name
abbrev pub option_id : ValuedOption → Text
option_id o = option_name o

abbrev pub parser_by : Form → ValueParser
parser_by (Number range) = vp.Unsigned range.least range.most
parser_by (OptionalNumber least most) = vp.Unsigned least most
parser_by FileName = vp.String
parser_by (OneOf words) = vp.String

abbrev pub option_parser : ValuedOption → ValueParser
option_parser o = parser_by (option_form o)

-- a text that isn't another one
apart_back : (a b : Text) → bytes_eq a b ≡ false → bytes_eq b a ≡ false
apart_back a b e = by (bytes_eq b a) refl where
  by : (c : Bool) → bytes_eq b a ≡ c → c ≡ false
  by true is = sym ((bytes_eq-Decides a b).1 (sym ((bytes_eq-Decides b a).0 is))) ∙ e
  by false is = refl

-- In what follows the first case makes the others be looked at one by one.

abbrev named : Text → Option ValuedOption
named name = find (λ (o : ValuedOption). bytes_eq (option_name o) name) (solve_options ++ (check_options ++ (journal_options ++ make_options)))

named_itself : (o : ValuedOption) → named (option_name o) ≡ Some o
named_itself Row = refl
named_itself _ = refl

some_is : {A : Type 0} (a b : A) → Some a ≡ Some b → a ≡ b
some_is a b e = cc

pub same_option : (a b : ValuedOption) → is_same a b ≡ true → a ≡ b
same_option a b e = some_is a b (sym (named_itself a) ∙ (ap named (sym ((bytes_eq-Decides (option_name b) (option_name a)).0 e)) ∙ named_itself b))

pub same_itself : (a : ValuedOption) → is_same a a ≡ true
same_itself a = (bytes_eq-Decides (option_name a) (option_name a)).1 refl

pub place_no_option : (p : Place) (o : ValuedOption) → bytes_eq (place_id p) (option_id o) ≡ false
place_no_option Kind Row = refl
place_no_option FirstFile Row = refl
place_no_option SecondFile Row = refl
place_no_option CertificateFile Row = refl
place_no_option JournalFile Row = refl
place_no_option Seed Row = refl
place_no_option Size Row = refl
place_no_option _ _ = refl

pub option_no_place : (o : ValuedOption) (p : Place) → bytes_eq (option_id o) (place_id p) ≡ false
option_no_place o p = apart_back (place_id p) (option_id o) (place_no_option p o)

-- the place of no word
pub nowhere : (o : ValuedOption) → bytes_eq [] (option_id o) ≡ false
nowhere Row = refl
nowhere _ = refl

-- ---- the flags

-- the identifier of a flag is its name
abbrev pub flag_id : FlagOption → Text
flag_id f = flag_name f

abbrev flag_named : Text → Option FlagOption
flag_named name = find (λ (f : FlagOption). bytes_eq (flag_name f) name) (solve_flags ++ (check_flags ++ journal_flags))

flag_named_itself : (f : FlagOption) → flag_named (flag_name f) ≡ Some f
flag_named_itself Plain = refl
flag_named_itself _ = refl

pub same_flag : (a b : FlagOption) → is_same_flag a b ≡ true → a ≡ b
same_flag a b e = some_is a b (sym (flag_named_itself a) ∙ (ap flag_named (sym ((bytes_eq-Decides (flag_name b) (flag_name a)).0 e)) ∙ flag_named_itself b))

pub same_flag_itself : (a : FlagOption) → is_same_flag a a ≡ true
same_flag_itself a = (bytes_eq-Decides (flag_name a) (flag_name a)).1 refl

pub place_no_flag : (p : Place) (f : FlagOption) → bytes_eq (place_id p) (flag_id f) ≡ false
place_no_flag Kind Plain = refl
place_no_flag FirstFile Plain = refl
place_no_flag SecondFile Plain = refl
place_no_flag CertificateFile Plain = refl
place_no_flag JournalFile Plain = refl
place_no_flag Seed Plain = refl
place_no_flag Size Plain = refl
place_no_flag _ _ = refl

pub flag_no_place : (f : FlagOption) (p : Place) → bytes_eq (flag_id f) (place_id p) ≡ false
flag_no_place f p = apart_back (place_id p) (flag_id f) (place_no_flag p f)

pub flag_nowhere : (f : FlagOption) → bytes_eq [] (flag_id f) ≡ false
flag_nowhere Plain = refl
flag_nowhere _ = refl

pub flag_no_option : (f : FlagOption) (o : ValuedOption) → bytes_eq (flag_id f) (option_id o) ≡ false
flag_no_option Plain Row = refl
flag_no_option Swamp Row = refl
flag_no_option Reachable Row = refl
flag_no_option _ _ = refl

pub option_no_flag : (o : ValuedOption) (f : FlagOption) → bytes_eq (option_id o) (flag_id f) ≡ false
option_no_flag o f = apart_back (flag_id f) (option_id o) (flag_no_option f o)

flag_no_dashes : (f : FlagOption) → bytes_eq (flag_word f) (45 ∷ 45 ∷ []) ≡ false
flag_no_dashes Plain = refl
flag_no_dashes _ = refl

flag_long_word : (f : FlagOption) → long_of (flag_word f) ≡ Some (flag_id f, None)
flag_long_word Plain = refl
flag_long_word _ = refl

-- ---- words, values and what they are read as

no_dashes : (o : ValuedOption) → bytes_eq (option_word o) (45 ∷ 45 ∷ []) ≡ false
no_dashes Row = refl
no_dashes _ = refl

long_word : (o : ValuedOption) → long_of (option_word o) ≡ Some (option_id o, None)
long_word Row = refl
long_word _ = refl

reading_by_form : (f : Form) → reading_of (parser_by f) ≡ AsWritten
reading_by_form (Number range) = refl
reading_by_form (OptionalNumber least most) = refl
reading_by_form FileName = refl
reading_by_form (OneOf words) = refl

option_reading : (o : ValuedOption) → reading_of (option_parser o) ≡ AsWritten
option_reading o = reading_by_form (option_form o)

place_reading : (p : Place) → reading_of (place_parser p) ≡ AsWritten
place_reading Kind = refl
place_reading FirstFile = refl
place_reading SecondFile = refl
place_reading CertificateFile = refl
place_reading JournalFile = refl
place_reading Seed = refl
place_reading Size = refl

-- clap takes each value of a form, and of numbers no other
form_accepts : (f : Form) (value : Text) → is_value f value ≡ true → accepts false (parser_by f) value ≡ true
form_accepts (Number range) value is = is
form_accepts (OptionalNumber least most) value is = is
form_accepts FileName value is = refl
form_accepts (OneOf words) value is = refl

pub option_accepts : (o : ValuedOption) (value : Text) → is_value_of o value ≡ true → accepts false (option_parser o) value ≡ true
option_accepts o value is = form_accepts (option_form o) value is

-- ---- the rules as clap has built them

abbrev pub placed_rule : ℕ → Place → Rule
placed_rule i p = record (new_rule (place_id p)) {
  index = Some i;
  action = Some Set;
  range = Some (record { start_inclusive = 1; end_inclusive = 1 });
  parser = Some (place_parser p);
  required = is_required p;
}

abbrev pub valued_rule : ValuedOption → Rule
valued_rule o = record (new_rule (option_id o)) {
  long = Some (option_id o);
  action = Some Set;
  range = Some (record { start_inclusive = 1; end_inclusive = 1 });
  parser = Some (option_parser o);
}

abbrev pub flag_rule : FlagOption → Rule
flag_rule f = record (new_rule (flag_id f)) {
  long = Some (flag_id f);
  action = Some SetTrue;
  range = Some (record { start_inclusive = 0; end_inclusive = 0 });
  parser = Some vp.Bool;
  defaults = codes "false" ∷ [];
  missing = codes "true" ∷ [];
}

-- the command has the option
pub record HasOption (s : Shape) (o : ValuedOption) : Type 0 where
  pub by_long : arg_by_long s.rules (option_id o) ≡ Some (valued_rule o)
  pub by_id : arg_by_id s.rules (option_id o) ≡ Some (valued_rule o)

-- the command has the flag
abbrev pub HasFlag : Shape → FlagOption → Type 0
HasFlag s f = arg_by_long s.rules (flag_id f) ≡ Some (flag_rule f)

-- the word in place i of the command is this one
pub record HasPlace (s : Shape) (i : ℕ) (p : Place) : Type 0 where
  pub by_index : arg_by_index s.rules i ≡ Some (placed_rule i p)
  pub by_id : arg_by_id s.rules (place_id p) ≡ Some (placed_rule i p)
  pub next : min (i + 1) usize_max ≡ i + 1

-- ---- one step of the walk

-- some step fails
abbrev pub FailsHere : Kinds → Type 0
FailsHere [] = ⊥
FailsHere (k ∷ ks) = Unit {0}

-- where the walk stands with this held, before the word at this place
abbrev pub at : Held → ℕ → Walk
at h place = record { held = h; waiting = idle; position = place; is_trailing = false; stopped = None }

-- what is found for an argument that was given this value
abbrev pub match_row : Text → Text → MatchRow
match_row id value = record { id = id; values = value ∷ []; count = None; source = Some CommandLine; reading = AsWritten }

-- what is held after an argument got its value
abbrev pub held_with : Shape → Text → Text → Held → Held
held_with s id value h = record { rows = (settled s.rules h).rows; pending = Some (id, value ∷ []); skip = h.skip }

-- what is held after a flag
abbrev pub held_flag : Shape → FlagOption → Held → Held
held_flag s f h = reacted s.rules (flag_rule f) [] h

module _ (s : Shape) where
  pub valued_step : (o : ValuedOption) (value : Text) (h : Held) (i : ℕ) → HasOption s o → IsName value
      → walked s.rules [] (walked s.rules [] (at h i) (option_word o)) value ≡ at (held_with s (option_id o) value h) i
  unfolding walked
  valued_step o value h i has is = rw (no_dashes o, long_word o, has.by_long, is.no_dashes, is.no_long, is.no_short, has.by_id, same_itself o) refl

  pub placed_step : (p : Place) (word : Text) (h : Held) (i : ℕ) → HasPlace s i p → IsName word
      → walked s.rules [] (at h i) word ≡ at (held_with s (place_id p) word h) (i + 1)
  unfolding walked
  placed_step p word h i has is = rw (is.no_dashes, is.no_long, is.no_short, has.by_index, has.next) (simp and-false refl)

  pub flag_step : (f : FlagOption) (h : Held) (i : ℕ) → HasFlag s f → walked s.rules [] (at h i) (flag_word f) ≡ at (held_flag s f h) i
  unfolding walked
  flag_step f h i has = rw (flag_no_dashes f, flag_long_word f, has) refl

  option_turn : (o : ValuedOption) (h : Held) (i : ℕ) → s.args_override_self ≡ false → HasOption s o → settle_fault s.rules false h ≡ []
      → turn_fault s [] (at h i) (option_word o) ≡ []
  unfolding walked
  option_turn o h i strict has none = rw (no_dashes o, long_word o, has.by_long, strict, none) refl

  value_turn : (o : ValuedOption) (value : Text) (h : Held) (i : ℕ) → HasOption s o → IsName value
      → turn_fault s [] (walked s.rules [] (at h i) (option_word o)) value ≡ []
  unfolding walked
  value_turn o value h i has is = rw (no_dashes o, long_word o, has.by_long, is.no_dashes, is.no_long, is.no_short) refl

  pub valued_fault : (o : ValuedOption) (value : Text) (h : Held) (i : ℕ) (rest : List Text) → s.args_override_self ≡ false → HasOption s o → IsName value → settle_fault s.rules false h ≡ []
      → walk_fault s [] (at h i) (option_word o ∷ value ∷ rest) ≡ walk_fault s [] (at (held_with s (option_id o) value h) i) rest
  unfolding walk_fault
  valued_fault o value h i rest strict has is none = ap₂ or_else (option_turn o h i strict has none)
      (ap₂ or_else (value_turn o value h i has is) (ap (λ w. walk_fault s [] w rest) (valued_step o value h i has is)))

  placed_turn : (p : Place) (word : Text) (h : Held) (i : ℕ) → s.args_override_self ≡ false → HasPlace s i p → IsName word → settle_fault s.rules false h ≡ []
      → turn_fault s [] (at h i) word ≡ []
  placed_turn p word h i strict has is none = rw (is.no_dashes, is.no_long, is.no_short, has.by_index, strict, none) (simp and-false refl)

  pub placed_fault : (p : Place) (word : Text) (h : Held) (i : ℕ) (rest : List Text) → s.args_override_self ≡ false → HasPlace s i p → IsName word → settle_fault s.rules false h ≡ []
      → walk_fault s [] (at h i) (word ∷ rest) ≡ walk_fault s [] (at (held_with s (place_id p) word h) (i + 1)) rest
  unfolding walk_fault
  placed_fault p word h i rest strict has is none = ap₂ or_else (placed_turn p word h i strict has is none) (ap (λ w. walk_fault s [] w rest) (placed_step p word h i has is))

  flag_turn : (f : FlagOption) (h : Held) (i : ℕ) → s.args_override_self ≡ false → HasFlag s f → settle_fault s.rules false h ≡ [] → has_row (flag_id f) (settled s.rules h).rows ≡ false
      → turn_fault s [] (at h i) (flag_word f) ≡ []
  flag_turn f h i strict has none new = rw (flag_no_dashes f, flag_long_word f, has, strict, none, new) refl

  pub flag_fault : (f : FlagOption) (h : Held) (i : ℕ) (rest : List Text) → s.args_override_self ≡ false → HasFlag s f → settle_fault s.rules false h ≡ []
      → has_row (flag_id f) (settled s.rules h).rows ≡ false → walk_fault s [] (at h i) (flag_word f ∷ rest) ≡ walk_fault s [] (at (held_flag s f h) i) rest
  unfolding walk_fault
  flag_fault f h i rest strict has none new = ap₂ or_else (flag_turn f h i strict has none new) (ap (λ w. walk_fault s [] w rest) (flag_step f h i has))

  -- a flag that is given twice
  pub flag_again : (f : FlagOption) (h : Held) (i : ℕ) → s.args_override_self ≡ false → HasFlag s f → settle_fault s.rules false h ≡ [] → has_row (flag_id f) (settled s.rules h).rows ≡ true
      → FailsHere (turn_fault s [] (at h i) (flag_word f))
  flag_again f h i strict has none given = rw (flag_no_dashes f, flag_long_word f, has, strict, none, given) tt

  pub valued_rows : (o : ValuedOption) (value : Text) (h : Held) → HasOption s o
      → (settled s.rules (held_with s (option_id o) value h)).rows ≡ with_values (option_id o) AsWritten CommandLine (value ∷ []) (without (option_id o) (settled s.rules h).rows)
  valued_rows o value h has = rw (has.by_id, option_reading o) refl

  pub placed_rows : (p : Place) (word : Text) (h : Held) (i : ℕ) → HasPlace s i p
      → (settled s.rules (held_with s (place_id p) word h)).rows ≡ with_values (place_id p) AsWritten CommandLine (word ∷ []) (without (place_id p) (settled s.rules h).rows)
  placed_rows p word h i has = rw (has.by_id, place_reading p) refl

  pub flag_rows : (f : FlagOption) (h : Held)
      → (settled s.rules (held_flag s f h)).rows ≡ with_values (flag_id f) AsWritten CommandLine (codes "true" ∷ []) (without (flag_id f) (settled s.rules h).rows)
  flag_rows f h = refl

  pub valued_faultless : (o : ValuedOption) (value : Text) (h : Held) → HasOption s o → accepts false (option_parser o) value ≡ true → has_row (option_id o) (settled s.rules h).rows ≡ false
      → settle_fault s.rules false (held_with s (option_id o) value h) ≡ []
  valued_faultless o value h has fits none = rw (has.by_id, none, fits) refl

  pub placed_faultless : (p : Place) (word : Text) (h : Held) (i : ℕ) → HasPlace s i p → accepts false (place_parser p) word ≡ true → has_row (place_id p) (settled s.rules h).rows ≡ false
      → settle_fault s.rules false (held_with s (place_id p) word h) ≡ []
  placed_faultless p word h i has fits none = rw (has.by_id, none, fits) refl

-- a value for an identifier that has none comes last
pub put_last : (id value : Text) (rows : List MatchRow) → has_row id rows ≡ false
    → with_values id AsWritten CommandLine (value ∷ []) (without id rows) ≡ rows ++ match_row id value ∷ []
put_last id value [] e = refl
put_last id value (r ∷ rs) e = by (bytes_eq r.id id) (has_row id rs) refl (put_last id value rs) e where
  by : (b c : Bool) → bytes_eq r.id id ≡ b
      → (c ≡ false → with_values id AsWritten CommandLine (value ∷ []) (without id rs) ≡ rs ++ match_row id value ∷ []) → (b || c) ≡ false
      → with_values id AsWritten CommandLine (value ∷ []) (without id (r ∷ rs)) ≡ (r ∷ rs) ++ match_row id value ∷ []
  by true c is rest f = cc
  by false c is rest f = rw (is, is) (ap (λ x. r ∷ x) (rest f))

-- a row of another identifier is none of this one
pub still_none : (id : Text) (rows : List MatchRow) (other value : Text) → has_row id rows ≡ false → bytes_eq other id ≡ false
    → has_row id (rows ++ match_row other value ∷ []) ≡ false
still_none id rows other value none apart = list_any-append (λ (r : MatchRow). bytes_eq r.id id) rows (match_row other value ∷ []) ∙ rw (none, apart) refl

-- ---- defaults

abbrev pub HasNoDefault : Rule → Type 0
HasNoDefault r = r.defaults ≡ []

pub no_defaults : (rows : List MatchRow) (rules : List Rule) → AllByRecursion HasNoDefault rules → fold with_default rows rules ≡ rows
no_defaults rows [] are = refl
no_defaults rows (r ∷ rs) are = ap (λ x. fold with_default x rs) (by (has_row r.id rows)) ∙ no_defaults rows rs are.1 where
  by : (b : Bool) → (if b then rows else default_rows r.id (reading_by r) r.defaults rows) ≡ rows
  by true = refl
  by false = rw are.0 refl

pub no_default_fault : (rows : List MatchRow) (rules : List Rule) → AllByRecursion HasNoDefault rules → defaults_fault rows rules ≡ []
unfolding defaults_fault
no_default_fault rows [] are = refl
no_default_fault rows (r ∷ rs) are = rw (faultless (has_row r.id rows)) (rw (same (has_row r.id rows)) (no_default_fault rows rs are.1)) where
  same : (b : Bool) → (if b then rows else default_rows r.id (reading_by r) r.defaults rows) ≡ rows
  same true = refl
  same false = rw are.0 refl

  faultless : (b : Bool) → (if b || is_empty r.defaults then [] else given_default_fault r r.defaults) ≡ []
  faultless true = refl
  faultless false = rw are.0 refl

-- rules that have one come after those without
pub defaults_last : (rows : List MatchRow) (rules last : List Rule) → AllByRecursion HasNoDefault rules → fold with_default rows (rules ++ last) ≡ fold with_default rows last
defaults_last rows [] last are = refl
defaults_last rows (r ∷ rs) last are = ap (λ x. fold with_default x (rs ++ last)) (by (has_row r.id rows)) ∙ defaults_last rows rs last are.1 where
  by : (b : Bool) → (if b then rows else default_rows r.id (reading_by r) r.defaults rows) ≡ rows
  by true = refl
  by false = rw are.0 refl

pub last_default_fault : (rows : List MatchRow) (rules last : List Rule) → AllByRecursion HasNoDefault rules → defaults_fault rows (rules ++ last) ≡ defaults_fault rows last
unfolding defaults_fault
last_default_fault rows [] last are = refl
last_default_fault rows (r ∷ rs) last are = rw (faultless (has_row r.id rows)) (rw (same (has_row r.id rows)) (last_default_fault rows rs last are.1)) where
  same : (b : Bool) → (if b then rows else default_rows r.id (reading_by r) r.defaults rows) ≡ rows
  same true = refl
  same false = rw are.0 refl

  faultless : (b : Bool) → (if b || is_empty r.defaults then [] else given_default_fault r r.defaults) ≡ []
  faultless true = refl
  faultless false = rw are.0 refl

-- the default of a flag never fails
pub flags_default_fault : (rows : List MatchRow) (flags : List FlagOption) → defaults_fault rows (map flag_rule flags) ≡ []
unfolding defaults_fault
flags_default_fault rows [] = refl
flags_default_fault rows (f ∷ fs) = rw (faultless f (has_row (flag_id f) rows)) (flags_default_fault (with_default rows (flag_rule f)) fs) where
  faultless : (f : FlagOption) (b : Bool) → (if b || is_empty (codes "false" ∷ []) then [] else given_default_fault (flag_rule f) (codes "false" ∷ [])) ≡ []
  faultless Plain true = refl
  faultless Plain false = refl
  faultless Swamp true = refl
  faultless Swamp false = refl
  faultless Reachable true = refl
  faultless Reachable false = refl
