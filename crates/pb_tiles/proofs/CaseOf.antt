-- Each refusal is told only in its case.
use Rattle.std.proofs.Common.{◌≡◌, ℕ, ◌+◌, ◌<◌, ◌≤◌, Bool, true, false, ◌&&◌, ◌⊎◌, inl, inr, if◌then◌else◌, Option, None, Some, Result, Ok, Err, List, [], ◌∷◌, ◌++◌, length, refl, sym, subst, ap, arith, ◌∙◌, append-nil}
use Rattle.std.proofs.lemmas.Bool.{and_parts, and_from, both_ways}
use Rattle.std.specs.List.{Contains}
use Rattle.std.specs.Prelude.{IsTrue}
use Rattle.pb_task.specs.Tiles.{cell_count, is_board}
use Rattle.pb_task.specs.declared.parts.TilesParts.{TilesParts}
use Rattle.pb_task.proofs.Callers.{is_board_by}
use Rattle.pb_tiles.specs.declared.error.TilesError.{TilesError}
use Rattle.pb_tiles.specs.declared.error.TilesError.TheVariants.{Size, Count, Number, Twice}
use Rattle.pb_tiles.specs.Said.{Said}
use Rattle.pb_tiles.specs.Words.{words}
use Rattle.pb_tiles.specs.Reading.{nothing_said, said_by, is_side, count_fault, board_fault, first_fault, boards_fault, unless_fault, boards_reading, numbers_reading, read_after}
use Rattle.pb_tiles.specs.Spelling.{AreWordsOf, SaysTiles}
use Rattle.pb_tiles.specs.Cases.{HasSides, IsTooShort, IsCaseOf}
use Rattle.pb_tiles.specs.Laws.{RefusalsHaveTheirCase}
use Rattle.pb_tiles.proofs.Filling.{Faultless, faultless, counted}
use Rattle.pb_tiles.proofs.Spelled.{texts, IsGoal, a_side, is_a_side, judged, tiles_said, IsRead, is_read, says_read}
use Rattle.pb_tiles.proofs.Places.{StandsIn, word_stands}
use Rattle.pb_tiles.proofs.MayBegin.{as_many, may_begin, cant_follow, Stops, stops}
use Rattle.pb_tiles.proofs.Faults.{first_case, count_case, IsFirst, board_case}

-- ---- words

words_case : (text : List ℕ) (fault : TilesError) → said_by nothing_said (words text) ≡ Err fault → IsCaseOf text fault
words_case text fault e = go (stops nothing_said (words text) fault e) where
  go : Stops nothing_said (words text) fault → IsCaseOf text fault
  go s =
      let at : StandsIn 1 text (texts s.front) s.word = word_stands text s.front s.word s.back s.words_are in
      subst (IsCaseOf text) s.fault_is (record {
        before = at.before;
        word = s.word.text;
        behind = at.behind;
        text_is = at.text_is;
        ends = at.ends;
        is_word = at.is_word;
        begins = at.begins;
        words = texts s.front;
        words_are = at.words_are;
        place = at.place;
        sound = may_begin (texts s.front) s.after s.says;
        fault = cant_follow (texts s.front) s.word.text s.after s.says s.none;
      })

short_case : (text : List ℕ) (said : Said) → IsRead text said → length said.before < 2 → IsTooShort text (length said.before)
short_case text said r few = go r.taken.goal_is where
  go : IsGoal r.taken.gs said.before said.has_goal said.behind → IsTooShort text (length said.before)
  go (inl (none, off)) = (
    r.taken.ws,
    subst (AreWordsOf text) (ap (λ gs. r.taken.ws ++ gs) none ∙ append-nil r.taken.ws) r.words_are,
    (r.taken.ns, r.taken.are),
    ap (λ (ns : List ℕ). length ns) r.before_is ∙ sym (as_many r.taken.ws r.taken.ns r.taken.are),
    few,
  )
  go (inr (numbers, some, on, spelt, two)) = absurd (omega (arith, few, two))

-- ---- sizes and boards

module _ (text : List ℕ) (tiles : TilesParts) (says : SaysTiles text tiles) where
  boards_case : (fault : TilesError) → HasSides tiles → boards_fault (cell_count tiles) tiles.start tiles.goal ≡ Some fault → IsCaseOf text fault
  boards_case fault sides e = one (first_case (count_fault count start) (first_fault (count_fault count goal) (first_fault (board_fault count 2 [] start) (board_fault count (2 + count) [] goal))) fault e) where
    count : ℕ
    count = cell_count tiles

    start : List ℕ
    start = tiles.start

    goal : List ℕ
    goal = tiles.goal

    of_start : length start ≡ count → length goal ≡ count → IsFirst count 2 [] start fault → IsCaseOf text fault
    of_start s g f = told f.fault_is where
      told : ((Number (2 + length f.more) ≡ fault) × (count ≤ f.number)) ⊎ ((Twice f.number ≡ fault) × (f.number < count) × Contains f.more f.number) → IsCaseOf text fault
      told (inl (same, big)) = subst (IsCaseOf text) same (tiles, says, ((sides, s, g), inl (record { before = f.more; number = f.number; behind = f.behind; board_is = f.board_is; apart = f.apart; fault = (refl, big) })))
      told (inr (same, small, has)) =
          subst (IsCaseOf text) same (tiles, says, ((sides, s, g), inl (record { before = f.more; number = f.number; behind = f.behind; board_is = f.board_is; apart = f.apart; fault = (refl, small, has) })))

    of_goal : length start ≡ count → length goal ≡ count → Faultless count [] start → IsFirst count (2 + count) [] goal fault → IsCaseOf text fault
    of_goal s g well f = told f.fault_is where
      board : IsTrue (is_board count start)
      board = is_board_by count start (record { many = s; small = well.small; distinct = well.distinct })

      told : ((Number (2 + count + length f.more) ≡ fault) × (count ≤ f.number)) ⊎ ((Twice f.number ≡ fault) × (f.number < count) × Contains f.more f.number) → IsCaseOf text fault
      told (inl (same, big)) =
          subst (IsCaseOf text) same (tiles, says, ((sides, s, g), inr (board, record { before = f.more; number = f.number; behind = f.behind; board_is = f.board_is; apart = f.apart; fault = (refl, big) })))
      told (inr (same, small, has)) =
          subst (IsCaseOf text) same (tiles, says, ((sides, s, g), inr (board, record { before = f.more; number = f.number; behind = f.behind; board_is = f.board_is; apart = f.apart; fault = (refl, small, has) })))

    three : length start ≡ count → length goal ≡ count → (board_fault count 2 [] start ≡ Some fault) ⊎ ((board_fault count 2 [] start ≡ None) × (board_fault count (2 + count) [] goal ≡ Some fault)) → IsCaseOf text fault
    three s g (inl is) = of_start s g (board_case count 2 [] start fault refl is)
    three s g (inr (none, is)) = of_goal s g (faultless count 2 [] start refl none) (board_case count (2 + count) [] goal fault refl is)

    two : length start ≡ count
        → (count_fault count goal ≡ Some fault) ⊎ ((count_fault count goal ≡ None) × (first_fault (board_fault count 2 [] start) (board_fault count (2 + count) [] goal) ≡ Some fault)) → IsCaseOf text fault
    two s (inl is) = let k = count_case count goal fault is in subst (IsCaseOf text) k.0 (inr (tiles, says, (sides, refl, (k.1, inr (s, refl)))))
    two s (inr (none, is)) = three s (counted count goal none) (first_case (board_fault count 2 [] start) (board_fault count (2 + count) [] goal) fault is)

    one : (count_fault count start ≡ Some fault)
        ⊎ ((count_fault count start ≡ None) × (first_fault (count_fault count goal) (first_fault (board_fault count 2 [] start) (board_fault count (2 + count) [] goal)) ≡ Some fault)) → IsCaseOf text fault
    one (inl is) = let k = count_case count start fault is in subst (IsCaseOf text) k.0 (inr (tiles, says, (sides, refl, (k.1, inl refl))))
    one (inr (none, is)) = two (counted count start none) (first_case (count_fault count goal) (first_fault (board_fault count 2 [] start) (board_fault count (2 + count) [] goal)) fault is)

  judged_case : (error : TilesError) → judged tiles ≡ Err error → IsCaseOf text error
  judged_case error e = go (is_side tiles.rows && is_side tiles.cols) refl e where
    at : (fault : Option TilesError) → boards_fault (cell_count tiles) tiles.start tiles.goal ≡ fault → HasSides tiles → unless_fault fault tiles ≡ Err error → IsCaseOf text error
    at None is sides e = cc
    at (Some fault) is sides e = let same : fault ≡ error = cc in subst (IsCaseOf text) same (boards_case fault sides is)

    go : (test : Bool) → (is_side tiles.rows && is_side tiles.cols) ≡ test → (if test then boards_reading tiles.rows tiles.cols tiles.start tiles.goal else Err Size) ≡ Err error → IsCaseOf text error
    go true is e =
        let two = and_parts (is_side tiles.rows) (is_side tiles.cols) is in
        at (boards_fault (cell_count tiles) tiles.start tiles.goal) refl (a_side tiles.rows two.0, a_side tiles.cols two.1) e
    go false is e =
        let same : Size ≡ error = cc in
        subst (IsCaseOf text) same
        (tiles, says, λ sides. both_ways (is_side tiles.rows && is_side tiles.cols) is (and_from (is_side tiles.rows) (is_side tiles.cols) (is_a_side tiles.rows sides.0) (is_a_side tiles.cols sides.1)))

-- ---- both

pub refusals_have_their_case : RefusalsHaveTheirCase
refusals_have_their_case text error e = go (said_by nothing_said (words text)) refl e where
  inside : (said : Said) (before : List ℕ) → said.before ≡ before → IsRead text said → numbers_reading before said.has_goal said.behind ≡ Err error → IsCaseOf text error
  inside said [] is r e =
      let same : Count 0 2 ≡ error = cc in
      subst (IsCaseOf text) same (inl (refl, subst (IsTooShort text) (ap (λ (ns : List ℕ). length ns) is) (short_case text said r (subst (λ (ns : List ℕ). length ns < 2) (sym is) (omega arith)))))
  inside said (rows ∷ []) is r e =
      let same : Count 1 2 ≡ error = cc in
      subst (IsCaseOf text) same (inl (refl, subst (IsTooShort text) (ap (λ (ns : List ℕ). length ns) is) (short_case text said r (subst (λ (ns : List ℕ). length ns < 2) (sym is) (omega arith)))))
  inside said (rows ∷ cols ∷ start) is r e = judged_case text (tiles_said rows cols start said.has_goal said.behind) (says_read text said rows cols start r is) error e

  go : (read : Result Said TilesError) → said_by nothing_said (words text) ≡ read → read_after read ≡ Err error → IsCaseOf text error
  go (Err fault) is e = let same : fault ≡ error = cc in subst (IsCaseOf text) same (words_case text fault is)
  go (Ok said) is e = inside said said.before refl (is_read text said is) e
