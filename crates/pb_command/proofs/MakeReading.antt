-- What `make` reads of its arguments.
use Rattle.std.proofs.Common.{◌≡◌, ◌∙◌, ◌≤◌, ℕ, Bool, true, false, List, [], ◌∷◌, Option, Some, refl, sym, ap, ap₂, subst, codes, arith}
use Rattle.std.specs.Prelude.{fold, nat_le, ◌&&◌}
use Rattle.std.specs.List.{AllByRecursion}
use Rattle.clap.specs.Walk.{Row as MatchRow, Text, rows_after, with_default, first_of}
use Rattle.clap.specs.ValueTests.{is_unsigned_in}
use Rattle.clap.specs.Faults.{check_fault}
use Rattle.pb_command.specs.declared.table.ValuedOption.TheVariants.{Workers}
use Rattle.pb_command.specs.Parser.{seed_most, size_word_most}
use Rattle.pb_command.specs.Table.{make_options}
use Rattle.pb_command.specs.Values.{kind_of_text, values_fit, number_at, seed_of, size_of, is_size}
use Rattle.pb_command.specs.Meaning.{Read, Refused, Make, MakeMeaning, reading_of_words, unless_faulty, make_of, with_kind, if_fit, make_with, make_tested}
use Rattle.pb_command.specs.Options.{Argument, words_of, placed_words, number_given, number_of, AreDistinct, IsArgumentOf, is_of_make, no_flag, AreOfMake, IsSizeOf}
use Rattle.pb_task.specs.declared.kind.Kind.{Kind as TaskKind}
use Rattle.pb_task.specs.declared.kind.Kind.TheVariants as kind
use Rattle.pb_task.specs.Kinds.{kind_name}
use Rattle.pb_command.specs.declared.refusal.CommandFault.TheVariants as fault
use Rattle.pb_command.proofs.Walking.{Place, Kind, Seed, Size, match_row, no_defaults, no_default_fault}
use Rattle.pb_command.proofs.Arguments.{row_of, rows_for, FitPlaces, walks_all, rows_are, no_fault_at_all}
use Rattle.pb_command.proofs.Found.{finds, text_read, numbers_read, all_fit}
use Rattle.pb_command.proofs.Shapes.{make_shape, make_takes, by_words, ToMake, no_default_in_make}

abbrev pub make_places : List Place
make_places = Kind ∷ Seed ∷ Size ∷ []

-- nothing is missing where the kind, the seed and the size were found
nothing_missing : (rows : List MatchRow) (kind seed size : Text) → row_of (codes "KIND") rows ≡ Some (match_row (codes "KIND") kind)
    → row_of (codes "SEED") rows ≡ Some (match_row (codes "SEED") seed)
    → row_of (codes "SIZE") rows ≡ Some (match_row (codes "SIZE") size) → check_fault make_shape rows false ≡ []
unfolding make_shape
nothing_missing rows kind seed size has_kind has_seed has_size = rw (has_kind, has_seed, has_size) refl

seed_read : (rows : List MatchRow) (seed : Text) → row_of (codes "SEED") rows ≡ Some (match_row (codes "SEED") seed) → is_unsigned_in 0 seed_most seed ≡ true
    → seed_of rows ≡ Some (number_of seed)
seed_read rows seed found fits = rw (found, fits) refl

size_read : (rows : List MatchRow) (size : Text) → row_of (codes "SIZE") rows ≡ Some (match_row (codes "SIZE") size) → is_unsigned_in 0 size_word_most size ≡ true
    → size_of rows ≡ Some (number_of size)
size_read rows size found fits = rw (found, fits) refl

make_values : (rows : List MatchRow) (kind : Option Text) (seed size : Option ℕ) (workers : ℕ) → values_fit make_options rows ≡ true
    → first_of (codes "KIND") rows ≡ kind → seed_of rows ≡ seed → size_of rows ≡ size → number_at rows Workers ≡ workers
    → make_of rows ≡ with_kind (kind_of_text kind) (make_with seed size workers)
make_values rows kind seed size workers fit a b d e = λ i. if_fit (fit i) (with_kind (kind_of_text (a i)) (make_with (b i) (d i) (e i)))

-- what the arguments of `make` ask for, whatever its kind
pub make_is : (arguments : List Argument) → AllByRecursion (IsArgumentOf is_of_make no_flag) arguments → AreDistinct arguments
    → (kind seed size : Text) → placed_words arguments ≡ kind ∷ seed ∷ size ∷ [] → is_unsigned_in 0 seed_most seed ≡ true → is_unsigned_in 0 size_word_most size ≡ true
    → reading_of_words (codes "make" ∷ words_of arguments) ≡ with_kind (kind_of_text (Some kind))
    (make_with (Some (number_of seed)) (Some (number_of size)) (number_given Workers arguments))
make_is arguments all distinct kind seed size placed seed_fits size_fits =
    let fit : FitPlaces make_places (placed_words arguments) = subst (FitPlaces make_places) (sym placed) (refl, (seed_fits, (size_fits, tt))) in
    let w = walks_all make_shape is_of_make no_flag make_places make_takes arguments all distinct fit in
    let rows = rows_for make_places arguments in
    let found = finds make_places arguments in
    let kind_row : row_of (codes "KIND") rows ≡ Some (match_row (codes "KIND") kind) = found.place Kind ∙ rw placed refl in
    let seed_row : row_of (codes "SEED") rows ≡ Some (match_row (codes "SEED") seed) = found.place Seed ∙ rw placed refl in
    let size_row : row_of (codes "SIZE") rows ≡ Some (match_row (codes "SIZE") size) = found.place Size ∙ rw placed refl in
    let same : fold with_default rows make_shape.rules ≡ rows = no_defaults rows make_shape.rules no_default_in_make in
    let none = no_fault_at_all make_shape make_places arguments make_takes.strict w (no_default_fault rows make_shape.rules no_default_in_make)
    (ap (λ x. check_fault make_shape x false) same ∙ nothing_missing rows kind seed size kind_row seed_row size_row) in
    let are : rows_after make_shape.rules [] (words_of arguments) ≡ rows = rows_are make_shape make_places arguments w ∙ same in
    by_words ToMake (words_of arguments) ∙ (ap₂ unless_faulty none (ap make_of are)
    ∙ make_values rows (Some kind) (Some (number_of seed)) (Some (number_of size)) (number_given Workers arguments)
    (all_fit is_of_make no_flag make_places arguments rows all found make_options)
    (text_read rows (codes "KIND") (Some kind) kind_row) (seed_read rows seed seed_row seed_fits) (size_read rows size size_row size_fits)
    (numbers_read is_of_make no_flag make_places arguments rows all found Workers))

asked : (k : TaskKind) (seed size workers : ℕ)
    → with_kind (kind_of_text (Some (kind_name k))) (make_with (Some seed) (Some size) workers) ≡ make_tested (record { kind = k; seed = seed; size = size; workers = workers })
asked kind.Grid seed size workers = refl
asked kind.Tiles seed size workers = refl
asked kind.Strips seed size workers = refl

-- what the arguments of `make` ask for is tested
pub make_is_tested : (k : TaskKind) (seed size : Text) (arguments : List Argument) → AreOfMake k seed size arguments
    → reading_of_words (codes "make" ∷ words_of arguments)
    ≡ make_tested (record { kind = k; seed = number_of seed; size = number_of size; workers = number_given Workers arguments })
make_is_tested k seed size arguments are =
    make_is arguments are.each are.distinct (kind_name k) seed size are.placed are.seed_fits are.size_fits ∙ asked k (number_of seed) (number_of size) (number_given Workers arguments)

lies_in : (low high n : ℕ) → low ≤ n → n ≤ high → (nat_le low n && nat_le n high) ≡ true
lies_in low high n l h = grind arith

lies_out : (low high n : ℕ) → (low ≤ n → n ≤ high → ⊥) → (nat_le low n && nat_le n high) ≡ false
lies_out low high n out = by (nat_le low n) (nat_le n high) refl refl where
  by : (a b : Bool) → nat_le low n ≡ a → nat_le n high ≡ b → (a && b) ≡ false
  by true true e f = absurd (out (grind arith) (grind arith))
  by true false e f = refl
  by false b e f = refl

size_in : (k : TaskKind) (n : ℕ) → IsSizeOf k n → is_size k n ≡ true
size_in kind.Grid n is = lies_in 1 2048 n is.0 is.1
size_in kind.Tiles n is = lies_in 0 1000000 n (omega arith) is
size_in kind.Strips n is = lies_in 1 14 n is.0 is.1

size_out : (k : TaskKind) (n : ℕ) → (IsSizeOf k n → ⊥) → is_size k n ≡ false
size_out kind.Grid n out = lies_out 1 2048 n (λ l h. out (l, h))
size_out kind.Tiles n out = lies_out 0 1000000 n (λ l h. out h)
size_out kind.Strips n out = lies_out 1 14 n (λ l h. out (l, h))

pub size_passes : (m : MakeMeaning) → IsSizeOf m.kind m.size → make_tested m ≡ Read (Make m)
size_passes m is = rw (size_in m.kind m.size is) refl

pub size_refused : (m : MakeMeaning) → (IsSizeOf m.kind m.size → ⊥) → make_tested m ≡ Refused fault.Size
size_refused m out = rw (size_out m.kind m.size out) refl
