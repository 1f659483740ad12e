-- What is found for the arguments of a subcommand, whatever their order.
use Rattle.std.proofs.Common.{◌≡◌, ◌∙◌, ◌+◌, ◌++◌, ◌||◌, ℕ, Bool, true, false, List, [], ◌∷◌, Option, None, Some, refl, sym, ap, subst, append_assoc, append-nil, codes}
use Rattle.std.specs.Prelude.{fold, find, drop, is_some, option_map, if◌then◌else◌}
use Rattle.std.specs.List.{AllByRecursion}
use Rattle.std.specs.Str.{bytes_eq}
use Rattle.std.proofs.lemmas.Slice.Eq.{bytes_eq-Decides}
use Rattle.clap.specs.Walk.{Held, Row as MatchRow, Text, walked, walk_from, nothing_held, rows_after, with_values, without, settled, finished, with_default, has_row}
use Rattle.clap.specs.Walk.{Walk}
use Rattle.clap.specs.Simple.{Shape}
use Rattle.clap.specs.ValueTests.{accepts}
use Rattle.clap.specs.Faults.{settle_fault, walk_fault, level_fault, check_fault, defaults_fault}
use Rattle.clap.specs.declared.builder.value_parser.Reading.TheVariants.{AsWritten}
use Rattle.clap.specs.declared.parser.matches.ValueSource.TheVariants.{CommandLine}
use Rattle.pb_command.specs.declared.table.ValuedOption.{ValuedOption}
use Rattle.pb_command.specs.declared.table.FlagOption.{FlagOption}
use Rattle.pb_command.specs.Options.{is_same, Argument, Placed, Valued, Flag, is_same_flag, words_of, placed_words, value_given, flag_given, AreDistinct, IsArgumentOf}
use Rattle.pb_command.proofs.Walking.{Place, Kind, FirstFile, SecondFile, CertificateFile, JournalFile, Seed, Size, place_id, place_parser, HasOption, HasFlag, HasPlace, at, option_id, flag_id, match_row, held_with, held_flag}
use Rattle.pb_command.proofs.Walking.{same_option, same_itself, place_no_option, option_no_place, nowhere, place_no_flag, flag_no_place, flag_nowhere, option_no_flag, flag_no_option, same_flag, same_flag_itself, put_last, still_none}
use Rattle.pb_command.proofs.Walking.{valued_step, placed_step, flag_step, valued_fault, placed_fault, flag_fault, valued_rows, placed_rows, flag_rows, option_accepts, valued_faultless, placed_faultless}

-- the row of an identifier
abbrev pub row_of : Text → List MatchRow → Option MatchRow
row_of id rows = find (λ (r : MatchRow). bytes_eq r.id id) rows

-- the identifier of the first place that is left
abbrev pub first_id : List Place → Text
first_id [] = []
first_id (p ∷ ps) = place_id p

-- what is found for each argument, in the order in which they are given
abbrev pub rows_for : List Place → List Argument → List MatchRow
rows_for places [] = []
rows_for places (Placed word ∷ rest) = match_row (first_id places) word ∷ rows_for (drop 1 places) rest
rows_for places (Valued option value ∷ rest) = match_row (option_id option) value ∷ rows_for places rest
rows_for places (Flag flag ∷ rest) = match_row (flag_id flag) (codes "true") ∷ rows_for places rest

-- the word in a place
abbrev pub word_at : Place → List Place → List Text → Option Text
word_at p places [] = None
word_at p places (word ∷ rest) = if bytes_eq (first_id places) (place_id p) then Some word else word_at p (drop 1 places) rest

same_place : (p q : Place) → bytes_eq (place_id p) (place_id q) ≡ true → place_id p ≡ place_id q
same_place p q e = (bytes_eq-Decides (place_id p) (place_id q)).0 e

first_no_option : (places : List Place) (o : ValuedOption) → bytes_eq (first_id places) (option_id o) ≡ false
first_no_option [] o = nowhere o
first_no_option (p ∷ ps) o = place_no_option p o

first_no_flag : (places : List Place) (f : FlagOption) → bytes_eq (first_id places) (flag_id f) ≡ false
first_no_flag [] f = flag_nowhere f
first_no_flag (p ∷ ps) f = place_no_flag p f

-- the value that is found for an option is the one that it was given
pub found_option : (places : List Place) (option : ValuedOption) (arguments : List Argument)
    → row_of (option_id option) (rows_for places arguments) ≡ option_map (match_row (option_id option)) (value_given option arguments)
found_option places option [] = refl
found_option places option (Placed word ∷ rest) = rw (first_no_option places option) (found_option (drop 1 places) option rest)
found_option places option (Flag flag ∷ rest) = rw (flag_no_option flag option) (found_option places option rest)
found_option places option (Valued other value ∷ rest) = by (is_same option other) refl (found_option places option rest) where
  by : (b : Bool) → is_same option other ≡ b
      → row_of (option_id option) (rows_for places rest) ≡ option_map (match_row (option_id option)) (value_given option rest)
      → (if bytes_eq (option_id other) (option_id option) then Some (match_row (option_id other) value) else row_of (option_id option) (rows_for places rest))
      ≡ option_map (match_row (option_id option)) (if is_same option other then Some value else value_given option rest)
  by true is found = rw is (ap (λ id. Some (match_row id value)) ((bytes_eq-Decides (option_id other) (option_id option)).0 is))
  by false is found = rw is found

-- the word that is found for a place is the one that stands there
pub found_place : (p : Place) (places : List Place) (arguments : List Argument)
    → row_of (place_id p) (rows_for places arguments) ≡ option_map (match_row (place_id p)) (word_at p places (placed_words arguments))
found_place p places [] = refl
found_place p places (Valued option value ∷ rest) = rw (option_no_place option p) (found_place p places rest)
found_place p places (Flag flag ∷ rest) = rw (flag_no_place flag p) (found_place p places rest)
found_place p [] (Placed word ∷ rest) = none p (found_place p [] rest) where
  none : (p : Place) → row_of (place_id p) (rows_for [] rest) ≡ option_map (match_row (place_id p)) (word_at p [] (placed_words rest))
      → row_of (place_id p) (rows_for [] (Placed word ∷ rest)) ≡ option_map (match_row (place_id p)) (word_at p [] (word ∷ placed_words rest))
  none Kind found = found
  none FirstFile found = found
  none SecondFile found = found
  none CertificateFile found = found
  none JournalFile found = found
  none Seed found = found
  none Size found = found
found_place p (q ∷ qs) (Placed word ∷ rest) = by (bytes_eq (place_id q) (place_id p)) refl (found_place p qs rest) where
  by : (b : Bool) → bytes_eq (place_id q) (place_id p) ≡ b
      → row_of (place_id p) (rows_for qs rest) ≡ option_map (match_row (place_id p)) (word_at p qs (placed_words rest))
      → (if bytes_eq (place_id q) (place_id p) then Some (match_row (place_id q) word) else row_of (place_id p) (rows_for qs rest))
      ≡ option_map (match_row (place_id p)) (if bytes_eq (place_id q) (place_id p) then Some word else word_at p qs (placed_words rest))
  by true is found = rw is (ap (λ id. Some (match_row id word)) (same_place q p is))
  by false is found = rw is found

-- a flag is found where it is given
pub found_flag : (places : List Place) (flag : FlagOption) (arguments : List Argument)
    → row_of (flag_id flag) (rows_for places arguments) ≡ (if flag_given flag arguments then Some (match_row (flag_id flag) (codes "true")) else None)
found_flag places flag [] = refl
found_flag places flag (Placed word ∷ rest) = rw (first_no_flag places flag) (found_flag (drop 1 places) flag rest)
found_flag places flag (Valued option value ∷ rest) = rw (option_no_flag option flag) (found_flag places flag rest)
found_flag places flag (Flag other ∷ rest) = by (is_same_flag flag other) refl (found_flag places flag rest) where
  by : (b : Bool) → is_same_flag flag other ≡ b
      → row_of (flag_id flag) (rows_for places rest) ≡ (if flag_given flag rest then Some (match_row (flag_id flag) (codes "true")) else None)
      → (if bytes_eq (flag_id other) (flag_id flag) then Some (match_row (flag_id other) (codes "true")) else row_of (flag_id flag) (rows_for places rest))
      ≡ (if is_same_flag flag other || flag_given flag rest then Some (match_row (flag_id flag) (codes "true")) else None)
  by true is found = rw is (ap (λ id. Some (match_row id (codes "true"))) ((bytes_eq-Decides (flag_id other) (flag_id flag)).0 is))
  by false is found = rw is found

-- there is a row where one is found
pub has_row_is : (id : Text) (rows : List MatchRow) → has_row id rows ≡ is_some (row_of id rows)
has_row_is id [] = refl
has_row_is id (r ∷ rs) = by (bytes_eq r.id id) (has_row_is id rs) where
  by : (b : Bool) → has_row id rs ≡ is_some (row_of id rs) → (b || has_row id rs) ≡ is_some (if b then Some r else row_of id rs)
  by true rest = refl
  by false rest = rest

pub has_flag_row : (places : List Place) (flag : FlagOption) (arguments : List Argument) → has_row (flag_id flag) (rows_for places arguments) ≡ flag_given flag arguments
has_flag_row places flag arguments =
    has_row_is (flag_id flag) (rows_for places arguments) ∙ (ap is_some (found_flag places flag arguments) ∙ by (flag_given flag arguments)) where
      by : (b : Bool) → is_some (if b then Some (match_row (flag_id flag) (codes "true")) else None) ≡ b
      by true = refl
      by false = refl

-- ---- the walk

-- the places of a command, from this one on
abbrev pub HasPlaces : Shape → ℕ → List Place → Type 0
HasPlaces s i [] = Unit {0}
HasPlaces s i (p ∷ ps) = HasPlace s i p × HasPlaces s (i + 1) ps

-- the words have places, and stand in them
abbrev pub FitPlaces : List Place → List Text → Type 0
FitPlaces places [] = Unit {0}
FitPlaces [] (word ∷ rest) = ⊥
FitPlaces (p ∷ ps) (word ∷ rest) = (accepts false (place_parser p) word ≡ true) × FitPlaces ps rest

abbrev pub AreApart : List Place → Type 0
AreApart [] = Unit {0}
AreApart (p ∷ ps) = AllByRecursion (λ q. bytes_eq (place_id p) (place_id q) ≡ false) ps × AreApart ps

-- what the walk needs of a command
pub record Takes (s : Shape) (has_option : ValuedOption → Bool) (has_flag : FlagOption → Bool) (places : List Place) : Type 0 where
  pub strict : s.args_override_self ≡ false
  pub option : (o : ValuedOption) → has_option o ≡ true → HasOption s o
  pub flag : (f : FlagOption) → has_flag f ≡ true → HasFlag s f
  pub each_place : HasPlaces s 1 places
  pub apart : AreApart places

module _ (s : Shape) (has_option : ValuedOption → Bool) (has_flag : FlagOption → Bool) (strict : s.args_override_self ≡ false)
    (knows : (o : ValuedOption) → has_option o ≡ true → HasOption s o) (knows_flag : (f : FlagOption) → has_flag f ≡ true → HasFlag s f) where
  -- nothing is found yet for what these arguments are
  pub record AreNew (places : List Place) (arguments : List Argument) (rows : List MatchRow) : Type 0 where
    pub options : (option : ValuedOption) (value : Text) → value_given option arguments ≡ Some value → has_row (option_id option) rows ≡ false
    pub flags : (flag : FlagOption) → flag_given flag arguments ≡ true → has_row (flag_id flag) rows ≡ false
    pub each_place : AllByRecursion (λ p. has_row (place_id p) rows ≡ false) places

  -- the walk over all of them
  pub record IsWalked (places : List Place) (arguments : List Argument) (i : ℕ) (h : Held) (rows : List MatchRow) : Type 0 where
    pub last : Held
    pub end : ℕ
    pub walk : fold (walked s.rules []) (at h i) (words_of arguments) ≡ at last end
    pub found : (settled s.rules last).rows ≡ rows ++ rows_for places arguments
    pub faultless : settle_fault s.rules false last ≡ []
    pub no_fault : walk_fault s [] (at h i) (words_of arguments) ≡ []

  places_still : (places : List Place) (rows : List MatchRow) (other value : Text) → AllByRecursion (λ p. has_row (place_id p) rows ≡ false) places
      → AllByRecursion (λ q. bytes_eq other (place_id q) ≡ false) places → AllByRecursion (λ p. has_row (place_id p) (rows ++ match_row other value ∷ []) ≡ false) places
  places_still [] rows other value none apart = tt
  places_still (p ∷ ps) rows other value none apart = (still_none (place_id p) rows other value none.0 apart.0, places_still ps rows other value none.1 apart.1)

  options_apart : (o : ValuedOption) (places : List Place) → AllByRecursion (λ q. bytes_eq (option_id o) (place_id q) ≡ false) places
  options_apart o [] = tt
  options_apart o (p ∷ ps) = (option_no_place o p, options_apart o ps)

  flags_apart : (f : FlagOption) (places : List Place) → AllByRecursion (λ q. bytes_eq (flag_id f) (place_id q) ≡ false) places
  flags_apart f [] = tt
  flags_apart f (p ∷ ps) = (flag_no_place f p, flags_apart f ps)

  new_after_placed : (p : Place) (ps : List Place) (word : Text) (rest : List Argument) (rows : List MatchRow)
      → AllByRecursion (λ q. bytes_eq (place_id p) (place_id q) ≡ false) ps → AreNew (p ∷ ps) (Placed word ∷ rest) rows
      → AreNew ps rest (rows ++ match_row (place_id p) word ∷ [])
  new_after_placed p ps word rest rows apart new = record {
    options = λ option value given. still_none (option_id option) rows (place_id p) word (new.options option value given) (place_no_option p option);
    flags = λ flag given. still_none (flag_id flag) rows (place_id p) word (new.flags flag given) (place_no_flag p flag);
    each_place = places_still ps rows (place_id p) word new.each_place.1 apart;
  }

  new_after_flag : (places : List Place) (flag : FlagOption) (rest : List Argument) (rows : List MatchRow) → flag_given flag rest ≡ false
      → AreNew places (Flag flag ∷ rest) rows → AreNew places rest (rows ++ match_row (flag_id flag) (codes "true") ∷ [])
  new_after_flag places flag rest rows none new = record {
    options = λ option value given. still_none (option_id option) rows (flag_id flag) (codes "true") (new.options option value given) (flag_no_option flag option);
    flags = λ other given. by other given (is_same_flag other flag) refl;
    each_place = places_still places rows (flag_id flag) (codes "true") new.each_place (flags_apart flag places);
  } where
    never : false ≡ true → ⊥
    never e = cc

    by : (other : FlagOption) → flag_given other rest ≡ true → (b : Bool) → is_same_flag other flag ≡ b → has_row (flag_id other) (rows ++ match_row (flag_id flag) (codes "true") ∷ []) ≡ false
    by other given true is =
        let same : flag_given flag rest ≡ true = subst (λ f. flag_given f rest ≡ true) (same_flag other flag is) given in absurd (never (sym none ∙ same))
    by other given false is = still_none (flag_id other) rows (flag_id flag) (codes "true") (new.flags other (rw is given)) is

  new_after_valued : (places : List Place) (option : ValuedOption) (value : Text) (rest : List Argument) (rows : List MatchRow) → value_given option rest ≡ None
      → AreNew places (Valued option value ∷ rest) rows → AreNew places rest (rows ++ match_row (option_id option) value ∷ [])
  new_after_valued places option value rest rows none new = record {
    options = λ other given_value given. by other given_value given (is_same other option) refl;
    flags = λ flag given. still_none (flag_id flag) rows (option_id option) value (new.flags flag given) (option_no_flag option flag);
    each_place = places_still places rows (option_id option) value new.each_place (options_apart option places);
  } where
    by : (other : ValuedOption) (given_value : Text) → value_given other rest ≡ Some given_value → (b : Bool) → is_same other option ≡ b
        → has_row (option_id other) (rows ++ match_row (option_id option) value ∷ []) ≡ false
    by other given_value given true is =
        let same : value_given option rest ≡ Some given_value = subst (λ o. value_given o rest ≡ Some given_value) (same_option other option is) given in cc
    by other given_value given false is =
        still_none (option_id other) rows (option_id option) value (new.options other given_value (rw is given)) is

  pub walks : (arguments : List Argument) (places : List Place) (i : ℕ) (h : Held) (rows : List MatchRow) → HasPlaces s i places → AreApart places
      → (settled s.rules h).rows ≡ rows → settle_fault s.rules false h ≡ []
      → AreNew places arguments rows → AllByRecursion (IsArgumentOf has_option has_flag) arguments → AreDistinct arguments → FitPlaces places (placed_words arguments)
      → IsWalked places arguments i h rows
  unfolding walk_fault
  walks [] places i h rows has apart are faultless new all distinct fit = record {
    last = h;
    end = i;
    walk = refl;
    found = are ∙ sym (append-nil rows);
    faultless = faultless;
    no_fault = refl;
  }
  walks (Placed word ∷ rest) [] i h rows has apart are faultless new all distinct fit = absurd fit
  walks (Placed word ∷ rest) (p ∷ ps) i h rows has apart are faultless new all distinct fit =
      let next = held_with s (place_id p) word h in
      let none : has_row (place_id p) rows ≡ false = new.each_place.0 in
      let next_rows : (settled s.rules next).rows ≡ rows ++ match_row (place_id p) word ∷ [] =
      placed_rows s p word h i has.0 ∙ ap (λ x. with_values (place_id p) AsWritten CommandLine (word ∷ []) (without (place_id p) x)) are ∙ put_last (place_id p) word rows none in
      let after = walks rest ps (i + 1) next (rows ++ match_row (place_id p) word ∷ []) has.1 apart.1 next_rows
      (placed_faultless s p word h i has.0 fit.0 (ap (has_row (place_id p)) are ∙ none))
      (new_after_placed p ps word rest rows apart.0 new) all.1 distinct fit.1 in
      record {
        last = after.last;
        end = after.end;
        walk = ap (λ w. fold (walked s.rules []) w (words_of rest)) (placed_step s p word h i has.0 all.0) ∙ after.walk;
        found = after.found ∙ append_assoc rows (match_row (place_id p) word ∷ []) (rows_for ps rest);
        faultless = after.faultless;
        no_fault = placed_fault s p word h i (words_of rest) strict has.0 all.0 faultless ∙ after.no_fault;
      }
  walks (Valued option value ∷ rest) places i h rows has apart are faultless new all distinct fit =
      let knows_it = knows option all.0.0 in
      let next = held_with s (option_id option) value h in
      let none : has_row (option_id option) rows ≡ false = new.options option value (rw (same_itself option) refl) in
      let next_rows : (settled s.rules next).rows ≡ rows ++ match_row (option_id option) value ∷ [] =
      valued_rows s option value h knows_it ∙ ap (λ x. with_values (option_id option) AsWritten CommandLine (value ∷ []) (without (option_id option) x)) are ∙ put_last (option_id option) value rows none in
      let after = walks rest places i next (rows ++ match_row (option_id option) value ∷ []) has apart next_rows
      (valued_faultless s option value h knows_it (option_accepts option value all.0.2) (ap (has_row (option_id option)) are ∙ none))
      (new_after_valued places option value rest rows distinct.0 new) all.1 distinct.1 fit in
      record {
        last = after.last;
        end = after.end;
        walk = ap (λ w. fold (walked s.rules []) w (words_of rest)) (valued_step s option value h i knows_it all.0.1) ∙ after.walk;
        found = after.found ∙ append_assoc rows (match_row (option_id option) value ∷ []) (rows_for places rest);
        faultless = after.faultless;
        no_fault = valued_fault s option value h i (words_of rest) strict knows_it all.0.1 faultless ∙ after.no_fault;
      }
  walks (Flag flag ∷ rest) places i h rows has apart are faultless new all distinct fit =
      let knows_it = knows_flag flag all.0 in
      let next = held_flag s flag h in
      let none : has_row (flag_id flag) rows ≡ false = new.flags flag (rw (same_flag_itself flag) refl) in
      let next_rows : (settled s.rules next).rows ≡ rows ++ match_row (flag_id flag) (codes "true") ∷ [] =
      flag_rows s flag h ∙ ap (λ x. with_values (flag_id flag) AsWritten CommandLine (codes "true" ∷ []) (without (flag_id flag) x)) are ∙ put_last (flag_id flag) (codes "true") rows none in
      let after = walks rest places i next (rows ++ match_row (flag_id flag) (codes "true") ∷ []) has apart next_rows refl
      (new_after_flag places flag rest rows distinct.0 new) all.1 distinct.1 fit in
      record {
        last = after.last;
        end = after.end;
        walk = ap (λ w. fold (walked s.rules []) w (words_of rest)) (flag_step s flag h i knows_it) ∙ after.walk;
        found = after.found ∙ append_assoc rows (match_row (flag_id flag) (codes "true") ∷ []) (rows_for places rest);
        faultless = after.faultless;
        no_fault = flag_fault s flag h i (words_of rest) strict knows_it faultless (ap (has_row (flag_id flag)) are ∙ none) ∙ after.no_fault;
      }

none_yet : (places : List Place) → AllByRecursion (λ p. has_row (place_id p) [] ≡ false) places
none_yet [] = tt
none_yet (p ∷ ps) = (refl, none_yet ps)

-- the walk over all arguments of a command, from nothing
pub record IsWalkedWhole (s : Shape) (places : List Place) (arguments : List Argument) : Type 0 where
  pub last : Held
  pub end : ℕ
  pub walk : fold (walked s.rules []) (walk_from nothing_held) (words_of arguments) ≡ at last end
  pub found : (settled s.rules last).rows ≡ rows_for places arguments
  pub faultless : settle_fault s.rules false last ≡ []
  pub no_fault : walk_fault s [] (walk_from nothing_held) (words_of arguments) ≡ []

pub walks_all : (s : Shape) (has_option : ValuedOption → Bool) (has_flag : FlagOption → Bool) (places : List Place) → Takes s has_option has_flag places
    → (arguments : List Argument) → AllByRecursion (IsArgumentOf has_option has_flag) arguments → AreDistinct arguments → FitPlaces places (placed_words arguments)
    → IsWalkedWhole s places arguments
walks_all s has_option has_flag places takes arguments all distinct fit =
    let new : AreNew s has_option has_flag takes.strict takes.option takes.flag places arguments [] = record { options = λ option value given. refl; flags = λ flag given. refl; each_place = none_yet places } in
    let w = walks s has_option has_flag takes.strict takes.option takes.flag arguments places 1 nothing_held [] takes.each_place takes.apart refl refl new all distinct fit in
    record { last = w.last; end = w.end; walk = w.walk; found = w.found; faultless = w.faultless; no_fault = w.no_fault }

-- the rows of all arguments, with the defaults
pub rows_are : (s : Shape) (places : List Place) (arguments : List Argument) → IsWalkedWhole s places arguments
    → rows_after s.rules [] (words_of arguments) ≡ fold with_default (rows_for places arguments) s.rules
rows_are s places arguments w = ap (λ (x : Walk). finished s.rules x.held) w.walk ∙ ap (λ x. fold with_default x s.rules) w.found

-- nothing fails where defaults don't and nothing is missing
pub no_fault_at_all : (s : Shape) (places : List Place) (arguments : List Argument) → s.args_override_self ≡ false → IsWalkedWhole s places arguments
    → defaults_fault (rows_for places arguments) s.rules ≡ [] → check_fault s (fold with_default (rows_for places arguments) s.rules) false ≡ []
    → level_fault s [] nothing_held (words_of arguments) false [] ≡ []
no_fault_at_all s places arguments strict w defaults check = rw (w.no_fault, w.walk, strict, w.faultless, w.found, defaults, check) refl
