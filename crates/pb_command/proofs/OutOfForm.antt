-- Words after the arguments of `solve` that are refused for their form.
use Rattle.std.proofs.Common.{◌≡◌, ◌∙◌, ◌++◌, ◌&&◌, ℕ, Bool, true, false, List, [], ◌∷◌, Option, None, Some, refl, sym, ap, ap₂, subst, codes}
use Rattle.std.specs.Prelude.{fold, not, drop, is_some, if◌then◌else◌}
use Rattle.std.specs.List.{AllByRecursion}
use Rattle.std.specs.Str.{bytes_eq}
use Rattle.clap.specs.Walk.{Held, Row as MatchRow, Text, Walk, walked, walk_from, nothing_held, settled, has_row, with_values, without, arg_by_long}
use Rattle.clap.specs.Simple.{Shape}
use Rattle.clap.specs.declared.builder.value_parser.Reading.TheVariants.{AsWritten}
use Rattle.clap.specs.declared.parser.matches.ValueSource.TheVariants.{CommandLine}
use Rattle.clap.specs.ValueTests.{accepts}
use Rattle.clap.specs.Faults.{settle_fault, turn_fault, walk_fault, level_fault}
use Rattle.clap.specs.Kinds.{Kinds, or_else}
use Rattle.pb_command.specs.Names.{IsName}
use Rattle.pb_command.specs.Table.{option_form, solve_options}
use Rattle.pb_command.specs.Values.{InputNames, fits, option_fits, values_fit}
use Rattle.pb_command.specs.Meaning.{Reading, Refused, reading_of_words, unless_faulty, if_fit, solve_of}
use Rattle.pb_command.specs.declared.table.ValuedOption.{ValuedOption}
use Rattle.pb_command.specs.declared.table.ValuedOption.TheVariants.{Row, Rewrite}
use Rattle.pb_command.specs.declared.table.FlagOption.{FlagOption}
use Rattle.pb_command.specs.Options.{Argument, Placed, Valued, Flag, IsArgumentOf, is_same, is_of_solve, is_flag_of_solve, kind_word, option_word, words_of, placed_words, value_given, flag_word, flag_given, is_value_of, AreOfSolve}
use Rattle.pb_command.specs.declared.refusal.CommandFault.TheVariants as fault
use Rattle.pb_command.proofs.Walking.{FailsHere as IsFaulty, HasOption, Place, Kind, FirstFile, same_option, same_itself, at, option_id, flag_id, match_row, held_with, valued_step, valued_fault, valued_rows, valued_faultless, flag_again, option_parser, put_last}
use Rattle.pb_command.proofs.Arguments.{row_of, rows_for, first_id, word_at, found_option, has_flag_row, has_row_is, IsWalkedWhole}
use Rattle.pb_command.proofs.Found.{first_file, fits_as_given, one_unfit}
use Rattle.clap.proofs.OnLiterals.{clap_on_literals}
use Rattle.pb_command.proofs.Shapes.{solve_shape, make_shape, plainless_rules, solve_takes, all_flags_of_solve, by_words, ToSolve, ToMake}
use Rattle.pb_command.proofs.SolveReading.{solve_places, rows_with_flags, finds_with_flags, solve_walk, solve_is_read, solve_fits, kind_at, first_at}

first_fails : (a b : Kinds) → IsFaulty a → IsFaulty (or_else a b)
first_fails [] b is = absurd is
first_fails (k ∷ ks) b is = tt

second_fails : (a b : Kinds) → IsFaulty b → IsFaulty (or_else a b)
second_fails [] b is = is
second_fails (k ∷ ks) b is = tt

is_refused : (kinds : Kinds) (reading : Reading) → IsFaulty kinds → unless_faulty kinds reading ≡ Refused fault.Form
is_refused [] reading is = absurd is
is_refused (k ∷ ks) reading is = refl

-- the walk over more words
walk_on : (s : Shape) (w : Walk) (words more : List Text) → fold (walked s.rules []) w (words ++ more) ≡ fold (walked s.rules []) (fold (walked s.rules []) w words) more
walk_on s w [] more = refl
walk_on s w (word ∷ rest) more = walk_on s (walked s.rules [] w word) rest more

fault_on : (s : Shape) (w : Walk) (words more : List Text)
    → walk_fault s [] w (words ++ more) ≡ or_else (walk_fault s [] w words) (walk_fault s [] (fold (walked s.rules []) w words) more)
unfolding walk_fault
fault_on s w [] more = refl
fault_on s w (word ∷ rest) more =
    ap (or_else (turn_fault s [] w word)) (fault_on s (walked s.rules [] w word) rest more) ∙ regroup (turn_fault s [] w word) _ _ where
      regroup : (a b d : Kinds) → or_else a (or_else b d) ≡ or_else (or_else a b) d
      regroup [] b d = refl
      regroup (k ∷ ks) b d = refl

module _ (arguments : List Argument) (w : IsWalkedWhole solve_shape solve_places arguments) where
  -- the walk fails at the words that come after the arguments
  fails_after : (more : List Text) → IsFaulty (walk_fault solve_shape [] (at w.last w.end) more)
      → reading_of_words (codes "solve" ∷ words_of arguments ++ more) ≡ Refused fault.Form
  fails_after more is =
      let parts : walk_fault solve_shape [] (walk_from nothing_held) (words_of arguments ++ more) ≡ walk_fault solve_shape [] (at w.last w.end) more =
      fault_on solve_shape (walk_from nothing_held) (words_of arguments) more
      ∙ ap₂ or_else w.no_fault (ap (λ x. walk_fault solve_shape [] x more) w.walk) in
      let fails : IsFaulty (walk_fault solve_shape [] (walk_from nothing_held) (words_of arguments ++ more)) = subst IsFaulty (sym parts) is in
      by_words ToSolve (words_of arguments ++ more) ∙ is_refused (level_fault solve_shape [] nothing_held (words_of arguments ++ more) false []) _
      (first_fails (walk_fault solve_shape [] (walk_from nothing_held) (words_of arguments ++ more)) _ fails)

  -- or what is held at their end
  fails_at_end : (more : List Text) (last : Walk) → fold (walked solve_shape.rules []) (at w.last w.end) more ≡ last
      → IsFaulty (settle_fault solve_shape.rules solve_shape.args_override_self last.held)
      → reading_of_words (codes "solve" ∷ words_of arguments ++ more) ≡ Refused fault.Form
  fails_at_end more last ends is =
      let whole : fold (walked solve_shape.rules []) (walk_from nothing_held) (words_of arguments ++ more) ≡ last =
      walk_on solve_shape (walk_from nothing_held) (words_of arguments) more ∙ (ap (λ x. fold (walked solve_shape.rules []) x more) w.walk ∙ ends) in
      let end = fold (walked solve_shape.rules []) (walk_from nothing_held) (words_of arguments ++ more) in
      let fails : IsFaulty (settle_fault solve_shape.rules solve_shape.args_override_self end.held) =
      subst (λ (x : Walk). IsFaulty (settle_fault solve_shape.rules solve_shape.args_override_self x.held)) (sym whole) is in
      by_words ToSolve (words_of arguments ++ more) ∙ is_refused (level_fault solve_shape [] nothing_held (words_of arguments ++ more) false []) _
      (second_fails (walk_fault solve_shape [] (walk_from nothing_held) (words_of arguments ++ more)) _
      (first_fails (settle_fault solve_shape.rules solve_shape.args_override_self end.held) _ fails))

-- a value is refused that isn't one of its option, or that is the second
wrong_value : (s : Shape) (o : ValuedOption) (value : Text) (h : Held) → HasOption s o → accepts false (option_parser o) value ≡ false
    → IsFaulty (settle_fault s.rules false (held_with s (option_id o) value h))
wrong_value s o value h has wrong = rw (has.by_id, wrong) (second_fails (if has_row (option_id o) (settled s.rules h).rows && not false then _ else []) _ tt)

second_value : (s : Shape) (o : ValuedOption) (value : Text) (h : Held) → HasOption s o → has_row (option_id o) (settled s.rules h).rows ≡ true
    → IsFaulty (settle_fault s.rules false (held_with s (option_id o) value h))
second_value s o value h has given = rw (has.by_id, given) tt

has_found : (id : Text) (rows : List MatchRow) (r : MatchRow) → row_of id rows ≡ Some r → has_row id rows ≡ true
has_found id [] r found = cc
has_found id (q ∷ qs) r found = by (bytes_eq q.id id) refl found (λ e. has_found id qs r e) where
  by : (b : Bool) → bytes_eq q.id id ≡ b → (if b then Some q else row_of id qs) ≡ Some r → (row_of id qs ≡ Some r → has_row id qs ≡ true) → has_row id (q ∷ qs) ≡ true
  by true is e rest = rw is refl
  by false is e rest = rw is (rest e)

strict_settle : (h : Held) → IsFaulty (settle_fault solve_shape.rules false h) → IsFaulty (settle_fault solve_shape.rules solve_shape.args_override_self h)
strict_settle h is = rw solve_takes.strict is

-- an option that has a value of another form is one of `solve`, since a name has any text
wrong_of_solve : (o : ValuedOption) (value : Text) → is_value_of o value ≡ false → is_of_solve o ≡ true
wrong_of_solve Row value wrong = refl
wrong_of_solve Rewrite value wrong = cc
wrong_of_solve _ value wrong = refl

-- an option that is given is one of `solve`
given_of_solve : (arguments : List Argument) → AllByRecursion (IsArgumentOf is_of_solve is_flag_of_solve) arguments → (o : ValuedOption) (first : Text)
    → value_given o arguments ≡ Some first → is_of_solve o ≡ true
given_of_solve [] all o first given = cc
given_of_solve (Placed word ∷ rest) all o first given = given_of_solve rest all.1 o first given
given_of_solve (Flag flag ∷ rest) all o first given = given_of_solve rest all.1 o first given
given_of_solve (Valued other value ∷ rest) all o first given = by (λ e. given_of_solve rest all.1 o first e) (is_same o other) refl given where
  by : (value_given o rest ≡ Some first → is_of_solve o ≡ true) → (b : Bool) → is_same o other ≡ b → (if b then Some value else value_given o rest) ≡ Some first → is_of_solve o ≡ true
  by later true is e = subst (λ (x : ValuedOption). is_of_solve x ≡ true) (sym (same_option o other is)) all.0.0
  by later false is e = later e

-- ---- a word that clap takes and the reader refuses

words_with : (arguments : List Argument) (o : ValuedOption) (value : Text) → words_of (arguments ++ Valued o value ∷ []) ≡ words_of arguments ++ option_word o ∷ value ∷ []
words_with [] o value = refl
words_with (Placed word ∷ rest) o value = ap (λ ws. word ∷ ws) (words_with rest o value)
words_with (Valued other given ∷ rest) o value = ap (λ ws. option_word other ∷ given ∷ ws) (words_with rest o value)
words_with (Flag flag ∷ rest) o value = ap (λ ws. flag_word flag ∷ ws) (words_with rest o value)

placed_with : (arguments : List Argument) (o : ValuedOption) (value : Text) → placed_words (arguments ++ Valued o value ∷ []) ≡ placed_words arguments
placed_with [] o value = refl
placed_with (Placed word ∷ rest) o value = ap (λ ws. word ∷ ws) (placed_with rest o value)
placed_with (Valued other given ∷ rest) o value = placed_with rest o value
placed_with (Flag flag ∷ rest) o value = placed_with rest o value

rows_with : (places : List Place) (arguments : List Argument) (o : ValuedOption) (value : Text) → rows_for places (arguments ++ Valued o value ∷ []) ≡ rows_for places arguments ++ match_row (option_id o) value ∷ []
rows_with places [] o value = refl
rows_with places (Placed word ∷ rest) o value = ap (λ rs. match_row (first_id places) word ∷ rs) (rows_with (drop 1 places) rest o value)
rows_with places (Valued other given ∷ rest) o value = ap (λ rs. match_row (option_id other) given ∷ rs) (rows_with places rest o value)
rows_with places (Flag flag ∷ rest) o value = ap (λ rs. match_row (flag_id flag) (codes "true") ∷ rs) (rows_with places rest o value)

given_with : (arguments : List Argument) (o : ValuedOption) (value : Text) → value_given o arguments ≡ None → value_given o (arguments ++ Valued o value ∷ []) ≡ Some value
given_with [] o value none = rw (same_itself o) refl
given_with (Placed word ∷ rest) o value none = given_with rest o value none
given_with (Flag flag ∷ rest) o value none = given_with rest o value none
given_with (Valued other given ∷ rest) o value none = by (is_same o other) none (λ e. given_with rest o value e) where
  by : (b : Bool) → (if b then Some given else value_given o rest) ≡ None → (value_given o rest ≡ None → value_given o (rest ++ Valued o value ∷ []) ≡ Some value)
      → (if b then Some given else value_given o (rest ++ Valued o value ∷ [])) ≡ Some value
  by true e later = cc
  by false e later = later e

-- the walk over one argument more, which clap takes
walk_with : (arguments : List Argument) (o : ValuedOption) (value : Text) → IsWalkedWhole solve_shape solve_places arguments → HasOption solve_shape o → IsName value
    → accepts false (option_parser o) value ≡ true → value_given o arguments ≡ None → IsWalkedWhole solve_shape solve_places (arguments ++ Valued o value ∷ [])
unfolding walk_fault
walk_with arguments o value w has is taken new =
    let next = held_with solve_shape (option_id o) value w.last in
    let more = option_word o ∷ value ∷ [] in
    let start = walk_from nothing_held in
    let none : has_row (option_id o) (rows_for solve_places arguments) ≡ false = has_row_is (option_id o) (rows_for solve_places arguments) ∙ (ap is_some (found_option solve_places o arguments) ∙ rw new refl) in
    record {
      last = next;
      end = w.end;
      walk = ap (fold (walked solve_shape.rules []) start) (words_with arguments o value)
          ∙ (walk_on solve_shape start (words_of arguments) more ∙ (ap (λ x. fold (walked solve_shape.rules []) x more) w.walk ∙ valued_step solve_shape o value w.last w.end has is));
      found = valued_rows solve_shape o value w.last has ∙ (ap (λ x. with_values (option_id o) AsWritten CommandLine (value ∷ []) (without (option_id o) x)) w.found
          ∙ (put_last (option_id o) value (rows_for solve_places arguments) none ∙ sym (rows_with solve_places arguments o value)));
      faultless = valued_faultless solve_shape o value w.last has taken (ap (has_row (option_id o)) w.found ∙ none);
      no_fault = ap (walk_fault solve_shape [] start) (words_with arguments o value) ∙ (fault_on solve_shape start (words_of arguments) more
          ∙ ap₂ or_else w.no_fault (ap (λ x. walk_fault solve_shape [] x more) w.walk ∙ valued_fault solve_shape o value w.last w.end [] solve_takes.strict has is w.faultless));
    }

unfit_refused : (fit : Bool) (reading : Reading) → fit ≡ false → if_fit fit reading ≡ Refused fault.Form
unfit_refused fit reading wrong = rw wrong refl

other_word : (input : InputNames) (arguments : List Argument) → AreOfSolve input arguments → (o : ValuedOption) (value : Text) → is_of_solve o ≡ true → IsName value
    → accepts false (option_parser o) value ≡ true → is_value_of o value ≡ false → value_given o arguments ≡ None
    → reading_of_words (codes "solve" ∷ words_of arguments ++ option_word o ∷ value ∷ []) ≡ Refused fault.Form
other_word input arguments are o value of_solve is taken wrong new =
    let w = walk_with arguments o value (solve_walk arguments are.each are.distinct (solve_fits input arguments are)) (solve_takes.option o of_solve) is taken new in
    let all = arguments ++ Valued o value ∷ [] in
    let rows = rows_with_flags all in
    let placed : placed_words all ≡ _ = placed_with arguments o value ∙ are.placed in
    let read = solve_is_read all w (kind_word input) (first_file input) (ap (word_at Kind solve_places) placed ∙ kind_at input) (ap (word_at FirstFile solve_places) placed ∙ first_at input) in
    let unfit : option_fits o rows ≡ false = fits_as_given solve_places all rows (finds_with_flags all) o ∙ (ap (fits (option_form o)) (given_with arguments o value new) ∙ wrong) in
    let refused : solve_of rows ≡ Refused fault.Form = unfit_refused (values_fit solve_options rows) _ (one_unfit solve_options rows o of_solve unfit) in
    ap (λ ws. reading_of_words (codes "solve" ∷ ws)) (sym (words_with arguments o value)) ∙ (read ∙ refused)

pub given_twice : (input : InputNames) (arguments : List Argument) → AreOfSolve input arguments → (o : ValuedOption) (first second : Text)
    → value_given o arguments ≡ Some first → IsName second
    → reading_of_words (codes "solve" ∷ words_of arguments ++ option_word o ∷ second ∷ []) ≡ Refused fault.Form
given_twice input arguments are o first second given is =
    let w = solve_walk arguments are.each are.distinct (solve_fits input arguments are) in
    let has = solve_takes.option o (given_of_solve arguments are.each o first given) in
    let found : row_of (option_id o) (rows_for solve_places arguments) ≡ Some (match_row (option_id o) first) = found_option solve_places o arguments ∙ rw given refl in
    fails_at_end arguments w (option_word o ∷ second ∷ []) (at (held_with solve_shape (option_id o) second w.last) w.end) (valued_step solve_shape o second w.last w.end has is)
    (strict_settle (held_with solve_shape (option_id o) second w.last) (second_value solve_shape o second w.last has (ap (has_row (option_id o)) w.found ∙ has_found (option_id o) (rows_for solve_places arguments) (match_row (option_id o) first) found)))

-- a number out of its range is refused by clap
wrong_number : (input : InputNames) (arguments : List Argument) → AreOfSolve input arguments → (o : ValuedOption) (value : Text) → is_of_solve o ≡ true → IsName value
    → accepts false (option_parser o) value ≡ false
    → reading_of_words (codes "solve" ∷ words_of arguments ++ option_word o ∷ value ∷ []) ≡ Refused fault.Form
wrong_number input arguments are o value of_solve is wrong =
    let w = solve_walk arguments are.each are.distinct (solve_fits input arguments are) in
    let has = solve_takes.option o of_solve in
    fails_at_end arguments w (option_word o ∷ value ∷ []) (at (held_with solve_shape (option_id o) value w.last) w.end) (valued_step solve_shape o value w.last w.end has is)
    (strict_settle (held_with solve_shape (option_id o) value w.last) (wrong_value solve_shape o value w.last has wrong))

pub out_of_range : (input : InputNames) (arguments : List Argument) → AreOfSolve input arguments → (o : ValuedOption) (value : Text) → IsName value → is_value_of o value ≡ false
    → reading_of_words (codes "solve" ∷ words_of arguments ++ option_word o ∷ value ∷ []) ≡ Refused fault.Form
out_of_range input arguments are o value is wrong = by (accepts false (option_parser o) value) refl (value_given o arguments) refl where
  by : (taken : Bool) → accepts false (option_parser o) value ≡ taken → (given : Option Text) → value_given o arguments ≡ given
      → reading_of_words (codes "solve" ∷ words_of arguments ++ option_word o ∷ value ∷ []) ≡ Refused fault.Form
  by false refuses given e = wrong_number input arguments are o value (wrong_of_solve o value wrong) is refuses
  by true takes (Some first) e = given_twice input arguments are o first value e is
  by true takes None e = other_word input arguments are o value (wrong_of_solve o value wrong) is takes wrong e

one_word : (s : Shape) (w : Walk) (word : Text) → IsFaulty (turn_fault s [] w word) → IsFaulty (walk_fault s [] w (word ∷ []))
unfolding walk_fault
one_word s w word is = first_fails _ _ is

pub flag_twice : (input : InputNames) (arguments : List Argument) → AreOfSolve input arguments → (flag : FlagOption) → flag_given flag arguments ≡ true
    → reading_of_words (codes "solve" ∷ words_of arguments ++ flag_word flag ∷ []) ≡ Refused fault.Form
flag_twice input arguments are flag given =
    let w = solve_walk arguments are.each are.distinct (solve_fits input arguments are) in
    fails_after arguments w (flag_word flag ∷ []) (one_word solve_shape (at w.last w.end) (flag_word flag)
    (flag_again solve_shape flag w.last w.end solve_takes.strict (solve_takes.flag flag (all_flags_of_solve flag)) w.faultless
    (ap (has_row (flag_id flag)) w.found ∙ (has_flag_row solve_places flag arguments ∙ given))))

no_help : arg_by_long solve_shape.rules (codes "help") ≡ None
unfolding solve_shape plainless_rules
no_help = refl

unknown : (s : Shape) (h : Held) (i : ℕ) → arg_by_long s.rules (codes "help") ≡ None → IsFaulty (turn_fault s [] (at h i) (codes "--help"))
unknown s h i none = rw none tt

pub help_refused : (input : InputNames) (arguments : List Argument) → AreOfSolve input arguments
    → reading_of_words (codes "solve" ∷ words_of arguments ++ codes "--help" ∷ []) ≡ Refused fault.Form
help_refused input arguments are =
    let w = solve_walk arguments are.each are.distinct (solve_fits input arguments are) in
    fails_after arguments w (codes "--help" ∷ []) (one_word solve_shape (at w.last w.end) (codes "--help") (unknown solve_shape w.last w.end no_help))

seed_fails : IsFaulty (level_fault make_shape [] nothing_held (codes "grid" ∷ codes "4294967296" ∷ codes "1" ∷ []) false [])
unfolding make_shape clap_on_literals
seed_fails = tt

pub seed_refused : reading_of_words (codes "make" ∷ codes "grid" ∷ codes "4294967296" ∷ codes "1" ∷ []) ≡ Refused fault.Form
seed_refused = by_words ToMake (codes "grid" ∷ codes "4294967296" ∷ codes "1" ∷ []) ∙ is_refused _ _ seed_fails
