-- In its case each refusal is told.
use Rattle.std.proofs.Common.{◌≡◌, ◌≢◌, ℕ, ◌+◌, ◌<◌, ◌≤◌, Bool, true, false, ◌&&◌, inl, inr, if◌then◌else◌, Option, Some, Ok, Err, List, [], ◌∷◌, ◌++◌, length, refl, sym, subst, ap, arith, ◌∙◌, append-nil}
use Rattle.std.proofs.lemmas.Bool.{and_parts, and_from}
use Rattle.std.specs.List.{Contains}
use Rattle.pb_task.specs.Tiles.{cell_count}
use Rattle.pb_task.specs.declared.parts.TilesParts.{TilesParts}
use Rattle.pb_task.proofs.Callers.{Listed, listed}
use Rattle.pb_tiles.specs.declared.error.TilesError.{TilesError}
use Rattle.pb_tiles.specs.declared.error.TilesError.TheVariants.{Syntax, Size, Count, Number, Twice, Memory}
use Rattle.pb_tiles.specs.Words.{words}
use Rattle.pb_tiles.specs.Reading.{nothing_said, said_by, is_side, count_fault, board_fault, first_fault, boards_fault, unless_fault, boards_reading, numbers_reading, read_after, tiles_reading}
use Rattle.pb_tiles.specs.Spelling.{SaysTiles}
use Rattle.pb_tiles.specs.Cases.{HasSides, HasSizes, IsWordFault, IsTooShort, IsNumberFault, IsCaseOf}
use Rattle.pb_tiles.specs.Laws.{CasesAreRefused}
use Rattle.pb_tiles.proofs.Filling.{no_fault, not_miscounted}
use Rattle.pb_tiles.proofs.Spelled.{said_texts, before_goal, a_side, is_a_side, says_judged, to_said, numbers_before, words_are}
use Rattle.pb_tiles.proofs.Places.{Standing, standing}
use Rattle.pb_tiles.proofs.MayBegin.{as_many, says_something, says_nothing, is_stopped}
use Rattle.pb_tiles.proofs.Faults.{count_told, number_told, twice_told}

-- ---- words

word_told : (text : List ℕ) (line : ℕ) → IsWordFault text line → tiles_reading text ≡ Err (Syntax line)
word_told text line f =
    let s : Standing (f.before ++ (f.word ++ f.behind)) f.words f.word _ = standing f.before f.word f.behind f.words f.ends f.is_word f.begins f.words_are in
    let some = says_something f.words f.sound in
    ap read_after
    (ap (λ t. said_by nothing_said (words t)) f.text_is ∙ ap (said_by nothing_said) s.words_are
    ∙ is_stopped s.front (record { text = f.word; line = _ }) s.back some.0 (ap (said_texts nothing_said) s.texts_are ∙ some.1) (says_nothing f.words f.word some.0 some.1 f.fault)
    ∙ ap (λ at. Err (Syntax at)) (sym f.place))

short_told : (text : List ℕ) (seen : ℕ) → IsTooShort text seen → tiles_reading text ≡ Err (Count seen 2)
short_told text seen (ws, are, (ns, numbers), seen_is, few) =
    ap read_after (to_said nothing_said (words text) (before_goal ns) (ap (said_texts nothing_said) (words_are 1 text ws are ∙ sym (append-nil ws)) ∙ numbers_before [] ws [] ns numbers))
    ∙ go ns (seen_is ∙ as_many ws ns numbers)
  where
    go : (ns : List ℕ) → seen ≡ length ns → numbers_reading ns false [] ≡ Err (Count seen 2)
    go [] is = ap (λ n. Err (Count n 2)) (sym is)
    go (rows ∷ []) is = ap (λ n. Err (Count n 2)) (sym is)
    go (rows ∷ cols ∷ start) is = absurd (omega (arith, is, few))

-- ---- sizes and boards

module _ (text : List ℕ) (tiles : TilesParts) (says : SaysTiles text tiles) where
  size_told : (HasSides tiles → ⊥) → tiles_reading text ≡ Err Size
  size_told none = says_judged text tiles says ∙ ap (λ test. if test then boards_reading tiles.rows tiles.cols tiles.start tiles.goal else Err Size) (go (is_side tiles.rows && is_side tiles.cols) refl) where
    go : (test : Bool) → (is_side tiles.rows && is_side tiles.cols) ≡ test → test ≡ false
    go true is = let two = and_parts (is_side tiles.rows) (is_side tiles.cols) is in absurd (none (a_side tiles.rows two.0, a_side tiles.cols two.1))
    go false is = refl

  boards_told : (fault : TilesError) → HasSides tiles → boards_fault (cell_count tiles) tiles.start tiles.goal ≡ Some fault → tiles_reading text ≡ Err fault
  boards_told fault sides is =
      says_judged text tiles says
      ∙ ap (λ test. if test then boards_reading tiles.rows tiles.cols tiles.start tiles.goal else Err Size)
      (and_from (is_side tiles.rows) (is_side tiles.cols) (is_a_side tiles.rows sides.0) (is_a_side tiles.cols sides.1))
      ∙ ap (λ found. unless_fault found tiles) is

  abbrev later : Option TilesError
  later = first_fault (board_fault (cell_count tiles) 2 [] tiles.start) (board_fault (cell_count tiles) (2 + cell_count tiles) [] tiles.goal)

  start_miscounted : HasSides tiles → length tiles.start ≢ cell_count tiles → tiles_reading text ≡ Err (Count (length tiles.start) (cell_count tiles))
  start_miscounted sides differs =
      boards_told (Count (length tiles.start) (cell_count tiles)) sides (ap (λ found. first_fault found (first_fault (count_fault (cell_count tiles) tiles.goal) later)) (count_told (cell_count tiles) tiles.start differs))

  goal_miscounted : HasSides tiles → length tiles.start ≡ cell_count tiles → length tiles.goal ≢ cell_count tiles → tiles_reading text ≡ Err (Count (length tiles.goal) (cell_count tiles))
  goal_miscounted sides same differs =
      boards_told (Count (length tiles.goal) (cell_count tiles)) sides
      (ap (λ found. first_fault found (first_fault (count_fault (cell_count tiles) tiles.goal) later)) (not_miscounted (cell_count tiles) tiles.start same)
      ∙ ap (λ found. first_fault found later) (count_told (cell_count tiles) tiles.goal differs))

  counted_told : (fault : TilesError) → HasSizes tiles → later ≡ Some fault → tiles_reading text ≡ Err fault
  counted_told fault sizes is =
      boards_told fault sizes.0
      (ap (λ found. first_fault found (first_fault (count_fault (cell_count tiles) tiles.goal) later)) (not_miscounted (cell_count tiles) tiles.start sizes.1)
      ∙ ap (λ found. first_fault found later) (not_miscounted (cell_count tiles) tiles.goal sizes.2) ∙ is)

  start_told : (fault : TilesError) → HasSizes tiles → board_fault (cell_count tiles) 2 [] tiles.start ≡ Some fault → tiles_reading text ≡ Err fault
  start_told fault sizes is = counted_told fault sizes (ap (λ found. first_fault found (board_fault (cell_count tiles) (2 + cell_count tiles) [] tiles.goal)) is)

  goal_told : (fault : TilesError) → HasSizes tiles → Listed (cell_count tiles) tiles.start → board_fault (cell_count tiles) (2 + cell_count tiles) [] tiles.goal ≡ Some fault → tiles_reading text ≡ Err fault
  goal_told fault sizes l is =
      counted_told fault sizes
      (ap (λ found. first_fault found (board_fault (cell_count tiles) (2 + cell_count tiles) [] tiles.goal)) (no_fault (cell_count tiles) 2 [] tiles.start l.small l.distinct) ∙ is)

  number_case_told : (at : ℕ) → HasSizes tiles → IsNumberFault tiles (λ place before number. (at ≡ place) × (cell_count tiles ≤ number)) → tiles_reading text ≡ Err (Number at)
  number_case_told at sizes (inl f) =
      start_told (Number at) sizes
      (ap (board_fault (cell_count tiles) 2 []) f.board_is ∙ number_told (cell_count tiles) 2 f.before f.number f.behind f.apart f.fault.1 ∙ ap (λ n. Some (Number n)) (sym f.fault.0))
  number_case_told at sizes (inr (board, f)) =
      goal_told (Number at) sizes (listed (cell_count tiles) tiles.start board)
      (ap (board_fault (cell_count tiles) (2 + cell_count tiles) []) f.board_is ∙ number_told (cell_count tiles) (2 + cell_count tiles) f.before f.number f.behind f.apart f.fault.1
      ∙ ap (λ n. Some (Number n)) (sym f.fault.0))

  twice_case_told : (twice : ℕ) → HasSizes tiles → IsNumberFault tiles (λ place before number. (twice ≡ number) × (number < cell_count tiles) × Contains before number) → tiles_reading text ≡ Err (Twice twice)
  twice_case_told twice sizes (inl f) =
      start_told (Twice twice) sizes
      (ap (board_fault (cell_count tiles) 2 []) f.board_is ∙ twice_told (cell_count tiles) 2 f.before f.number f.behind f.apart f.fault.1 f.fault.2 ∙ ap (λ n. Some (Twice n)) (sym f.fault.0))
  twice_case_told twice sizes (inr (board, f)) =
      goal_told (Twice twice) sizes (listed (cell_count tiles) tiles.start board)
      (ap (board_fault (cell_count tiles) (2 + cell_count tiles) []) f.board_is ∙ twice_told (cell_count tiles) (2 + cell_count tiles) f.before f.number f.behind f.apart f.fault.1 f.fault.2
      ∙ ap (λ n. Some (Twice n)) (sym f.fault.0))

-- ---- all

pub cases_are_refused : CasesAreRefused
cases_are_refused text (Syntax line) f = word_told text line f
cases_are_refused text Size (tiles, says, none) = size_told text tiles says none
cases_are_refused text (Count seen wanted) (inl (wanted_is, short)) = short_told text seen short ∙ ap (λ n. Err (Count seen n)) (sym wanted_is)
cases_are_refused text (Count seen wanted) (inr (tiles, says, (sides, wanted_is, (differs, inl seen_is)))) =
    start_miscounted text tiles says sides (subst (λ n. n ≢ cell_count tiles) seen_is differs) ∙ ap (λ n. Err (Count n (cell_count tiles))) (sym seen_is) ∙ ap (λ n. Err (Count seen n)) (sym wanted_is)
cases_are_refused text (Count seen wanted) (inr (tiles, says, (sides, wanted_is, (differs, inr (same, seen_is))))) =
    goal_miscounted text tiles says sides same (subst (λ n. n ≢ cell_count tiles) seen_is differs) ∙ ap (λ n. Err (Count n (cell_count tiles))) (sym seen_is) ∙ ap (λ n. Err (Count seen n)) (sym wanted_is)
cases_are_refused text (Number at) (tiles, says, (sizes, f)) = number_case_told text tiles says at sizes f
cases_are_refused text (Twice twice) (tiles, says, (sizes, f)) = twice_case_told text tiles says twice sizes f
cases_are_refused text Memory f = absurd f

-- in the case of a refusal no other is told, and nothing is read
pub same_refusal : (text : List ℕ) (error other : TilesError) → IsCaseOf text error → tiles_reading text ≡ Err other → other ≡ error
same_refusal text error other is e = let mine : tiles_reading text ≡ Err error = cases_are_refused text error is in cc

pub no_tiles : (text : List ℕ) (error : TilesError) (tiles : TilesParts) → IsCaseOf text error → tiles_reading text ≡ Ok tiles → ⊥
no_tiles text error tiles is e = let mine : tiles_reading text ≡ Err error = cases_are_refused text error is in cc
