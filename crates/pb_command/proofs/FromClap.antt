-- From what clap says of a parse to what words mean.
use Rattle.std.proofs.Common.{◌≡◌, ◌∙◌, ◌≢◌, ◌≤◌, inl, inr, ℕ, Bool, true, false, List, [], ◌∷◌, Option, None, Some, Result, Ok, Err, refl, sym, ap, ap₂, subst, option_map, codes}
use Rattle.std.specs.Prelude.{if◌then◌else◌, IfOk, IfErr}
use Rattle.std.specs.Str.Parse.{ParsesUnsigned, digits_value, without_leading_plus}
use Rattle.clap.specs.Words.{first_of, App, FailsBy, HasMatchesOf, HasKind, IsParsedFrom, Kinds, Row, Text, TriesOne, IsUnsignedIn, app_of, fault_of, has_subcommand, is_simple, is_simple_and_free, kind_of, subcommand_of, subcommand_name_of, subcommand_rows, subcommand_rows_of}
use Rattle.clap.specs.ValueTests.{is_unsigned_in}
use Rattle.clap.proofs.ValueTestLemmas.{accepts-Accepts, Accepts-accepts}
use Rattle.clap.specs.declared.builder.command.Command.TheViews.{out-Command}
use Rattle.clap.proofs.CallerLemmas.{subcommand_required}
use Rattle.std.specs.Prelude.{Box}
use Rattle.std.specs.Box.{box_value}
use Rattle.clap.specs.declared.parser.matches.SubCommand.{SubCommand}
use Rattle.clap.specs.declared.parser.matches.ArgMatches.TheViews.{out-ArgMatches, out-SubCommand}
use Rattle.clap.specs.declared.builder.value_parser.ValueParser.TheVariants as vp
use Rattle.clap.specs.declared.builder.command.Command.{Command}
use Rattle.clap.specs.declared.parser.matches.ArgMatches.{ArgMatches}
use Rattle.clap.specs.declared.error.Error.{Error}
use Rattle.clap.specs.declared.error.kind.ErrorKind.TheVariants.{OutOfMemory}
use Rattle.pb_command.specs.Parser.{the_program}
use Rattle.pb_command.proofs.Declared.{program_on_literals}
use Rattle.pb_machine.specs.declared.settings.Settings.{Settings}
use Rattle.pb_task.specs.declared.kind.Kind.{Kind}
use Rattle.pb_command.specs.declared.command.Engine.{Engine}
use Rattle.pb_command.specs.declared.command.InputOptions.{InputOptions}
use Rattle.pb_command.specs.Meaning.{Reading, Refused, reading_of_words, unless_faulty, command_met as command_at, command_of, if_fit, with_kind, with_input, solve_with, solve_tested, solve_of, options_by, settings_by}
use Rattle.pb_command.specs.Table.{solve_options}
use Rattle.pb_command.specs.declared.table.ValuedOption.TheVariants.{Tables, Certificate, Journal, Falling}
use Rattle.pb_command.specs.Values.{InputNames, number_in, input_of, kind_of_text, values_fit, number_at, optional_number_at, flag_at, engine_at, effort_at, text_at}
use Rattle.pb_command.specs.Causes.{IsRefusal, IsCause, IsPrinted}
use Rattle.pb_command.specs.declared.refusal.CommandFault.{CommandFault}
use Rattle.pb_command.specs.declared.refusal.CommandRefusal.{CommandRefusal}
use Rattle.pb_command.specs.declared.refusal.CommandRefusal.TheVariants as refusal
use Rattle.pb_command.specs.declared.refusal.CommandFault.TheVariants.{Form}

-- ---- numbers

module _ {E : Type 0} (G : Text → Result ℕ E → Type 0) (only : (u : Text) (x : Result ℕ E) → G u x → ParsesUnsigned 64 10 u x) (least most : ℕ) (default : Option ℕ) where
  pub number_none : (o : Option Text) (r : Option ℕ) → r ≡ None → ((t : Text) → o ≡ Some t → TriesOne G t (Ok r)) → default ≡ number_in least most default o
  number_none None r is h = refl
  number_none (Some t) r is h = absurd (subst (λ (x : Option ℕ). TriesOne G t (Ok x)) is (h t refl))

  pub number_some : (o : Option Text) (r : Option ℕ) (v : ℕ) → r ≡ Some v → (o ≡ None → r ≡ None) → ((t : Text) → o ≡ Some t → TriesOne G t (Ok r)) → least ≤ v → v ≤ most → Some v ≡ number_in least most default o
  number_some None r v is none h low high = absurd (apart (sym is ∙ none refl)) where
    apart : Some v ≡ None → ⊥
    apart e = cc
  number_some (Some t) r v is none h low high =
      let g : G t (Ok v) = subst (λ (x : Option ℕ). TriesOne G t (Ok x)) is (h t refl) in
      let p = only t (Ok v) g in
      let test : is_unsigned_in least most t ≡ true = Accepts-accepts false (vp.Unsigned least most) t (p.0.0, p.0.1, subst (λ n. least ≤ n) p.1 low, subst (λ n. n ≤ most) p.1 high) in
      ap Some p.1 ∙ sym (taken (is_unsigned_in least most t) (digits_value 10 (without_leading_plus t)) test) where
        taken : (b : Bool) (n : ℕ) → b ≡ true → (if b then Some n else None) ≡ Some n
        taken true n e = refl
        taken false n e = cc

  not_in : (t : Text) → (IsUnsignedIn least most t → ⊥) → None ≡ number_in least most default (Some t)
  not_in t out = by (is_unsigned_in least most t) refl where
    by : (b : Bool) → is_unsigned_in least most t ≡ b → None ≡ (if b then Some (digits_value 10 (without_leading_plus t)) else None)
    by true e = absurd (out (accepts-Accepts false (vp.Unsigned least most) t e))
    by false e = refl

  pub number_out : (o : Option Text) (r : Option ℕ) (v : ℕ) → r ≡ Some v → (o ≡ None → r ≡ None) → ((t : Text) → o ≡ Some t → TriesOne G t (Ok r)) → (least ≤ v → v ≤ most → ⊥) → None ≡ number_in least most default o
  number_out None r v is none h out = absurd (apart (sym is ∙ none refl)) where
    apart : Some v ≡ None → ⊥
    apart e = cc
  number_out (Some t) r v is none h out =
      let g : G t (Ok v) = subst (λ (x : Option ℕ). TriesOne G t (Ok x)) is (h t refl) in
      let p = only t (Ok v) g in
      not_in t (λ i. out (subst (λ n. least ≤ n) (sym p.1) i.2) (subst (λ n. n ≤ most) (sym p.1) i.3))

  pub number_err : (o : Option Text) (e : E) → (o ≡ None → ⊥) → ((t : Text) → o ≡ Some t → TriesOne G t (Err e)) → None ≡ number_in least most default o
  number_err None e none h = absurd (none refl)
  number_err (Some t) e none h = not_in t (λ i. only t (Err e) (h t refl) (i.0, i.1))

-- ---- all words

is_simple_here : is_simple the_program ≡ true
unfolding program_on_literals
is_simple_here = refl

required_here : the_program.top.subcommand_required ≡ true
unfolding the_program
required_here = refl

is_free_here : is_simple_and_free the_program ≡ true
unfolding program_on_literals
is_free_here = refl

-- where clap has matches, the meaning is what the subcommand's values ask for
pub command_met : (p : Command) (words : List Text) (m : ArgMatches) → app_of p ≡ the_program → HasMatchesOf (app_of p) words m → (is_simple_and_free (app_of p) ≡ true → fault_of (app_of p) words ≡ [])
    → reading_of_words words ≡ command_at (subcommand_rows_of m)
command_met p words m is has free =
    let none : fault_of the_program words ≡ [] = ap (λ a. fault_of a words) (sym is) ∙ free (ap is_simple_and_free is ∙ is_free_here) in
    let rows : subcommand_rows_of m ≡ subcommand_of the_program words = (has (ap is_simple is ∙ is_simple_here)).1 ∙ ap (λ a. subcommand_of a words) is in
    ap (λ k. unless_faulty k (command_at (subcommand_of the_program words))) none ∙ ap command_at (sym rows)

-- and where it has an error, they are refused
pub words_refused : (p : Command) (words : List Text) (e : Error) → app_of p ≡ the_program → (is_simple_and_free (app_of p) ≡ true → HasKind (fault_of (app_of p) words) e) → kind_of e ≢ OutOfMemory
    → reading_of_words words ≡ Refused Form
words_refused p words e is free apart = by (fault_of the_program words) (subst (λ a. HasKind (fault_of a words) e) is (free (ap is_simple_and_free is ∙ is_free_here))) where
  by : (ks : Kinds) → HasKind ks e → unless_faulty ks (command_at (subcommand_of the_program words)) ≡ Refused Form
  by [] (inl h) = absurd (apart h)
  by [] (inr h) = absurd h
  by (k ∷ ks) h = refl

-- the subcommand is the one that its matches tell
pub command_of_rows : (met : Option (Text × List Row)) (name : Text) (rows : List Row) → Some name ≡ option_map (λ q. q.0) met → Some rows ≡ option_map (λ q. q.1) met → command_at met ≡ command_of name rows
command_of_rows None name rows n e = cc
command_of_rows (Some q) name rows n e =
    let same : rows ≡ q.1 = cc in
    let called : name ≡ q.0 = cc in
    ap₂ command_of (sym called) (sym same)

pub gives_none : {E : Type 0} (r : Option ℕ) → ◌≡◌ {A = Result (Option ℕ) E} (Ok r) (Ok None) → r ≡ None
gives_none r e = cc

pub some_none : {E : Type 0} (e : E) → ◌≡◌ {A = Result (Option ℕ) E} (Err e) (Ok None) → ⊥
some_none e h = cc

-- a parse of the program has met a subcommand
pub has_met : (p : Command) (m : ArgMatches) (met : Bool) → IsParsedFrom p m → app_of p ≡ the_program → (out-Command p).has_globals ≡ false → met ≡ has_subcommand m → met ≡ true
has_met p m met parsed is local e = e ∙ subcommand_required p m parsed local (ap (λ (a : App). a.top.subcommand_required) is ∙ required_here)

-- so what clap finds in the words: its matches have what they mean, and an error refuses them
pub found_meaning : (p : Command) (words : List Text) (r : Result ArgMatches Error) → app_of p ≡ the_program
    → IfOk r (HasMatchesOf (app_of p) words) → (is_simple_and_free (app_of p) ≡ true → FailsBy (fault_of (app_of p) words) r)
    → IfOk r (λ m. reading_of_words words ≡ command_at (subcommand_rows_of m))
found_meaning p words (Ok m) is has free = command_met p words m is has free
found_meaning p words (Err e) is has free = tt

pub found_refusal : (p : Command) (words : List Text) (r : Result ArgMatches Error) → app_of p ≡ the_program
    → (is_simple_and_free (app_of p) ≡ true → FailsBy (fault_of (app_of p) words) r)
    → IfErr r (λ e. kind_of e ≢ OutOfMemory → reading_of_words words ≡ Refused Form)
found_refusal p words (Ok m) is free = tt
found_refusal p words (Err e) is free = words_refused p words e is free

pub found_subcommand : (p : Command) (r : Result ArgMatches Error) → app_of p ≡ the_program → (out-Command p).has_globals ≡ false
    → IfOk r (IsParsedFrom p) → IfOk r (λ m. has_subcommand m ≡ true)
found_subcommand p (Ok m) is local parsed = has_met p m (has_subcommand m) parsed is local refl
found_subcommand p (Err e) is local parsed = tt

name_in_rows : {Z : Type 0} (met : Option (Box SubCommand Z)) → option_map (λ b. (out-SubCommand (box_value b)).name.now) met ≡ option_map (λ q. q.0) (subcommand_rows met)
name_in_rows None = refl
name_in_rows (Some b) = refl

pub name_of_rows : (m : ArgMatches) → subcommand_name_of m ≡ option_map (λ q. q.0) (subcommand_rows_of m)
name_of_rows m = name_in_rows (out-ArgMatches m).subcommand

-- the refusal of words for the test that they fail is a refusal of them for their cause
pub refused_for : (reading : Reading) (f : CommandFault) (r : CommandRefusal) → reading ≡ Refused f → IsRefusal f r → IsCause reading r
refused_for reading f (refusal.Words g message) is (same, printed) = (is ∙ ap Refused same, subst (λ x. IsPrinted x message) same printed)
refused_for reading f refusal.Memory is holds = holds

-- ---- `solve`

-- What `solve` asks for is tested if its values have their forms, its kind is known, and its kind has so many files.
pub solve_asked : (rows : List Row) (k : Kind) (first : Text) (second : Option Text) (input : InputNames) (engine : Engine) (effort : Option ℕ) (tables certificate journal : Option Text) (falling : Option ℕ) (options : InputOptions) (settings : Settings)
    → values_fit solve_options rows ≡ true → kind_of_text (first_of (codes "KIND") rows) ≡ Some k → first_of (codes "FIRST_FILE") rows ≡ Some first
    → first_of (codes "SECOND_FILE") rows ≡ second → input_of k first second ≡ Some input → options_by (number_at rows) (flag_at rows) ≡ options → settings_by (number_at rows) (flag_at rows) ≡ settings
    → engine_at rows ≡ engine → effort_at rows ≡ effort → text_at rows Tables ≡ tables → text_at rows Certificate ≡ certificate → text_at rows Journal ≡ journal
    → optional_number_at rows Falling ≡ falling
    → solve_of rows ≡ solve_tested falling (record { input = input; options = options; settings = settings; engine = engine; effort = effort; tables = tables; certificate = certificate; journal = journal })
solve_asked rows k first second input engine effort tables certificate journal falling options settings fits known has has_second files a b d e t f g h =
    (λ i. if_fit (fits i) (with_kind (known i) (solve_with (has i) (has_second i) (a i) (b i) (d i) (e i) (t i) (f i) (g i) (h i))))
    ∙ ap (λ x. with_input x (λ input. solve_tested falling (record { input = input; options = options; settings = settings; engine = engine; effort = effort; tables = tables; certificate = certificate; journal = journal }))) files
