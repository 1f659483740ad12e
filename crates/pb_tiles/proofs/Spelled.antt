-- What is read is what is spelled.
use Rattle.std.proofs.Common.{◌≡◌, ◌≢◌, ℕ, ◌*◌, ◌≤◌, Bool, true, false, ◌&&◌, ◌⊎◌, inl, inr, nat_le, if◌then◌else◌, Option, None, Some, Result, Ok, Err, List, [], ◌∷◌, ◌++◌, length, map, codes, refl, sym, subst, ap, arith, ◌∙◌, append_assoc, append-nil}
use Rattle.std.proofs.lemmas.Bool.{and_parts, and_from, leb-true, le-leb}
use Rattle.std.proofs.lemmas.Bool.Decides.{nat_tests}
use Rattle.std.proofs.lemmas.Slice.Eq.{bytes_eq-Decides}
use Rattle.std.specs.List.{AllByRecursion, range_with_len}
use Rattle.std.specs.Option.{option_map_or, option_and_then}
use Rattle.std.specs.Str.{bytes_eq}
use Rattle.pb_task.specs.Tiles.{cell_count, IsTiles}
use Rattle.pb_task.specs.declared.parts.TilesParts.{TilesParts}
use Rattle.pb_task.proofs.Callers.{listed}
use Rattle.pb_tiles.specs.declared.error.TilesError.{TilesError}
use Rattle.pb_tiles.specs.declared.error.TilesError.TheVariants.{Syntax, Size, Count, Number, Twice, Memory}
use Rattle.pb_tiles.specs.Said.{Said}
use Rattle.pb_lines.specs.ShortNumbers.{short_number_of}
use Rattle.pb_lines.proofs.Callers.{spells_short_number, reads_short_number}
use Rattle.pb_tiles.specs.Words.{is_blank, Word, word_end, line_behind, words_behind, words}
use Rattle.pb_tiles.specs.Reading.{nothing_said, with_word, next, said_by, is_side, boards_fault, unless_fault, boards_reading, numbers_reading, read_after, tiles_reading}
use Rattle.pb_tiles.specs.Spelling.{BeginsBlank, AreBlanks, AreWordsOf, AreNumbers, SpellsGoal, SaysTiles, SpellsTiles}
use Rattle.pb_tiles.specs.Laws.{ReadingsAreSpelled, SpelledTilesAreUnique}
use Rattle.pb_tiles.proofs.Filling.{listed_have_no_fault, are_tiles}

-- ---- words of a text

abbrev pub texts : List Word → List (List ℕ)
texts ws = map (λ (word : Word). word.text) ws

-- no byte of it is a blank
abbrev pub Whole : List ℕ → Type 0
Whole word = AllByRecursion (λ byte. is_blank byte ≡ false) word

pub blank_front : (byte : ℕ) (text : List ℕ) (ws : List (List ℕ)) → is_blank byte ≡ true → AreWordsOf text ws → AreWordsOf (byte ∷ text) ws
blank_front byte text [] e a = (e, a)
blank_front byte text (w ∷ ws) e (blanks, rest, is, are, word, begins, more) = (byte ∷ blanks, rest, ap (λ t. byte ∷ t) is, (e, are), word, begins, more)

pub whole_more : (word : List ℕ) (byte : ℕ) → Whole word → is_blank byte ≡ false → Whole (word ++ byte ∷ [])
whole_more [] byte all e = (e, tt)
whole_more (first ∷ word) byte all e = (all.0, whole_more word byte all.1 e)

ends : (line byte : ℕ) (word text : List ℕ) (ws : List Word) → Whole word → is_blank byte ≡ true → AreWordsOf text (texts ws) → AreWordsOf (word ++ byte ∷ text) (texts (word_end line word ++ ws))
ends line byte [] text ws all e a = blank_front byte text (texts ws) e a
ends line byte (c ∷ cs) text ws all e a = ([], byte ∷ text, refl, tt, (omega arith, all), e, blank_front byte text (texts ws) e a)

one_byte : (line byte : ℕ) (word text : List ℕ) (test : Bool) → is_blank byte ≡ test → Whole word → AreWordsOf text (texts (words_behind (line_behind line byte) [] text))
    → (is_blank byte ≡ false → AreWordsOf ((word ++ byte ∷ []) ++ text) (texts (words_behind line (word ++ byte ∷ []) text)))
    → AreWordsOf (word ++ byte ∷ text) (texts (if test then word_end line word ++ words_behind (line_behind line byte) [] text else words_behind line (word ++ byte ∷ []) text))
one_byte line byte word text true e all ended on = ends line byte word text (words_behind (line_behind line byte) [] text) all e ended
one_byte line byte word text false e all ended on = subst (λ t. AreWordsOf t (texts (words_behind line (word ++ byte ∷ []) text))) (append_assoc word (byte ∷ []) text) (on e)

-- the words of a text are words of it
pub parted : (line : ℕ) (word text : List ℕ) → Whole word → AreWordsOf (word ++ text) (texts (words_behind line word text))
parted line [] [] all = tt
parted line (b ∷ bs) [] all = ([], [], refl, tt, (omega arith, all), tt, tt)
parted line word (byte ∷ text) all =
    one_byte line byte word text (is_blank byte) refl all (parted (line_behind line byte) [] text tt) (λ e. parted line (word ++ byte ∷ []) text (whole_more word byte all e))

skip : (line : ℕ) (blanks text : List ℕ) → AreBlanks blanks → (after : ℕ) × (words_behind line [] (blanks ++ text) ≡ words_behind after [] text)
skip line [] text are = (line, refl)
skip line (b ∷ bs) text are =
    let more = skip (line_behind line b) bs text are.1 in
    (more.0, ap (λ test. if test then word_end line [] ++ words_behind (line_behind line b) [] (bs ++ text) else words_behind line ([] ++ b ∷ []) (bs ++ text)) are.0 ∙ more.1)

pub collect : (line : ℕ) (word more rest : List ℕ) → Whole more → words_behind line word (more ++ rest) ≡ words_behind line (word ++ more) rest
collect line word [] rest all = ap (λ w. words_behind line w rest) (sym (append-nil word))
collect line word (b ∷ bs) rest all =
    ap (λ test. if test then word_end line word ++ words_behind (line_behind line b) [] (bs ++ rest) else words_behind line (word ++ b ∷ []) (bs ++ rest)) all.0
    ∙ collect line (word ++ b ∷ []) bs rest all.1 ∙ ap (λ w. words_behind line w rest) (append_assoc word (b ∷ []) bs)

one_word : (line : ℕ) (word rest : List ℕ) (ws : List (List ℕ)) → 1 ≤ length word → BeginsBlank rest → texts (words_behind line [] rest) ≡ ws → texts (words_behind line word rest) ≡ word ∷ ws
one_word line [] rest ws some begins e = absurd (omega arith)
one_word line (c ∷ cs) [] ws some begins e = ap (λ others. (c ∷ cs) ∷ others) e
one_word line (c ∷ cs) (b ∷ rest) ws some begins e =
    ap (λ test. texts (if test then word_end line (c ∷ cs) ++ words_behind (line_behind line b) [] rest else words_behind line ((c ∷ cs) ++ b ∷ []) rest)) begins
    ∙ ap (λ others. (c ∷ cs) ∷ others)
    (ap (λ test. texts (if test then word_end line [] ++ words_behind (line_behind line b) [] rest else words_behind line ([] ++ b ∷ []) rest)) (sym begins) ∙ e)

-- words of a text are its words
pub words_are : (line : ℕ) (text : List ℕ) (ws : List (List ℕ)) → AreWordsOf text ws → texts (words_behind line [] text) ≡ ws
words_are line text [] are = ap (λ t. texts (words_behind line [] t)) (sym (append-nil text)) ∙ ap texts (skip line text [] are).1
words_are line text (w ∷ ws) (blanks, rest, is, are, word, begins, more) =
    let s = skip line blanks (w ++ rest) are in
    ap (λ t. texts (words_behind line [] t)) is ∙ ap texts (s.1 ∙ collect s.0 [] w rest word.1) ∙ one_word s.0 w rest ws word.0 begins (words_are s.0 rest ws more)

-- ---- what words say

-- what is said after more words, wherever they stand
abbrev pub said_texts : Said → List (List ℕ) → Option Said
said_texts said [] = Some said
said_texts said (text ∷ more) = option_and_then (λ after. said_texts after more) (next said text)

pub to_said : (said : Said) (ws : List Word) (after : Said) → said_texts said (texts ws) ≡ Some after → said_by said ws ≡ Ok after
to_said said [] after e = let same : said ≡ after = cc in ap Ok same
to_said said (w ∷ ws) after e = go (next said w.text) (λ between. to_said between ws after) e where
  go : (step : Option Said) → ((between : Said) → said_texts between (texts ws) ≡ Some after → said_by between ws ≡ Ok after)
      → option_and_then (λ between. said_texts between (texts ws)) step ≡ Some after → option_map_or (λ between. said_by between ws) step (Err (Syntax w.line)) ≡ Ok after
  go None rest e = cc
  go (Some between) rest e = rest between e

pub from_said : (said : Said) (ws : List Word) (after : Said) → said_by said ws ≡ Ok after → said_texts said (texts ws) ≡ Some after
from_said said [] after e = let same : said ≡ after = cc in ap Some same
from_said said (w ∷ ws) after e = go (next said w.text) (λ between. from_said between ws after) e where
  go : (step : Option Said) → ((between : Said) → said_by between ws ≡ Ok after → said_texts between (texts ws) ≡ Some after)
      → option_map_or (λ between. said_by between ws) step (Err (Syntax w.line)) ≡ Ok after → option_and_then (λ between. said_texts between (texts ws)) step ≡ Some after
  go None rest e = cc
  go (Some between) rest e = rest between e

abbrev pub before_goal : List ℕ → Said
before_goal numbers = record { before = numbers; has_goal = false; behind = [] }

abbrev pub behind_goal : (numbers goal : List ℕ) → Said
behind_goal numbers goal = record { before = numbers; has_goal = true; behind = goal }

-- words that spell numbers say them
pub numbers_before : (said : List ℕ) (ts more : List (List ℕ)) (ns : List ℕ) → AreNumbers ts ns → said_texts (before_goal said) (ts ++ more) ≡ said_texts (before_goal (said ++ ns)) more
numbers_before said [] more [] are = ap (λ n. said_texts (before_goal n) more) (sym (append-nil said))
numbers_before said [] more (n ∷ ns) are = absurd are
numbers_before said (t ∷ ts) more [] are = absurd are
numbers_before said (t ∷ ts) more (n ∷ ns) are =
    ap (λ o. option_and_then (λ after. said_texts after (ts ++ more)) (with_word (before_goal said) o (bytes_eq t (codes "goal")))) (reads_short_number t n are.0)
    ∙ numbers_before (said ++ n ∷ []) ts more ns are.1 ∙ ap (λ numbers. said_texts (before_goal numbers) more) (append_assoc said (n ∷ []) ns)

pub numbers_behind : (said goal : List ℕ) (ts : List (List ℕ)) (ns : List ℕ) → AreNumbers ts ns → said_texts (behind_goal said goal) ts ≡ Some (behind_goal said (goal ++ ns))
numbers_behind said goal [] [] are = ap (λ n. Some (behind_goal said n)) (sym (append-nil goal))
numbers_behind said goal [] (n ∷ ns) are = absurd are
numbers_behind said goal (t ∷ ts) [] are = absurd are
numbers_behind said goal (t ∷ ts) (n ∷ ns) are =
    ap (λ o. option_and_then (λ after. said_texts after ts) (with_word (behind_goal said goal) o (bytes_eq t (codes "goal")))) (reads_short_number t n are.0)
    ∙ numbers_behind said (goal ++ n ∷ []) ts ns are.1 ∙ ap (λ numbers. Some (behind_goal said numbers)) (append_assoc goal (n ∷ []) ns)

pub goal_stands : (rows cols : ℕ) (start : List ℕ) → next (before_goal (rows ∷ cols ∷ start)) (codes "goal") ≡ Some (behind_goal (rows ∷ cols ∷ start) [])
unfolding short_number_of
goal_stands rows cols start =
    ap (λ test. if test && true then Some (behind_goal (rows ∷ cols ∷ start) []) else None) (let two : nat_le 2 (length (rows ∷ cols ∷ start)) ≡ true = grind (arith, nat_tests) in two)

-- ---- what was said

-- words that came behind `goal` are numbers
record Behind (said goal : List ℕ) (ts : List (List ℕ)) (after : Said) : Type 0 where
  ns : List ℕ
  are : AreNumbers ts ns
  is : after ≡ behind_goal said (goal ++ ns)

were_behind : (said goal : List ℕ) (ts : List (List ℕ)) (after : Said) → said_texts (behind_goal said goal) ts ≡ Some after → Behind said goal ts after
were_behind said goal [] after e =
    record { ns = []; are = tt; is = (let same : behind_goal said goal ≡ after = cc in sym same ∙ ap (behind_goal said) (sym (append-nil goal))) }
were_behind said goal (t ∷ ts) after e = go (short_number_of t) refl e (λ n. were_behind said (goal ++ n ∷ []) ts after) where
  go : (number : Option ℕ) → short_number_of t ≡ number → option_and_then (λ between. said_texts between ts) (with_word (behind_goal said goal) number (bytes_eq t (codes "goal"))) ≡ Some after
      → ((n : ℕ) → said_texts (behind_goal said (goal ++ n ∷ [])) ts ≡ Some after → Behind said (goal ++ n ∷ []) ts after) → Behind said goal (t ∷ ts) after
  go None is e rest = cc
  go (Some n) is e rest =
      let others : Behind said (goal ++ n ∷ []) ts after = rest n e in
      record { ns = n ∷ others.ns; are = (spells_short_number t n is, others.are); is = others.is ∙ ap (behind_goal said) (append_assoc goal (n ∷ []) others.ns) }

-- words are numbers, and maybe `goal` and numbers
abbrev pub IsGoal : (ts : List (List ℕ)) → (before : List ℕ) → (has_goal : Bool) → (behind : List ℕ) → Type 0
IsGoal ts before has_goal behind =
    ((ts ≡ []) × (has_goal ≡ false)) ⊎ ((numbers : List (List ℕ)) × (ts ≡ codes "goal" ∷ numbers) × (has_goal ≡ true) × AreNumbers numbers behind × (2 ≤ length before))

pub record Taken (said : List ℕ) (ts : List (List ℕ)) (after : Said) : Type 0 where
  pub ws : List (List ℕ)
  pub gs : List (List ℕ)
  pub ns : List ℕ
  pub split : ts ≡ ws ++ gs
  pub are : AreNumbers ws ns
  pub before_is : after.before ≡ said ++ ns
  pub goal_is : IsGoal gs after.before after.has_goal after.behind

pub were_taken : (said : List ℕ) (ts : List (List ℕ)) (after : Said) → said_texts (before_goal said) ts ≡ Some after → Taken said ts after
were_taken said [] after e =
    let same : before_goal said ≡ after = cc in
    record { ws = []; gs = []; ns = []; split = refl; are = tt; before_is = ap (λ (s : Said). s.before) (sym same) ∙ sym (append-nil said); goal_is = inl (refl, ap (λ (s : Said). s.has_goal) (sym same)) }
were_taken said (t ∷ ts) after e = go (short_number_of t) refl e (λ n. were_taken (said ++ n ∷ []) ts after) where
  at_goal : (test : Bool) → bytes_eq t (codes "goal") ≡ test
      → option_and_then (λ between. said_texts between ts) (if nat_le 2 (length said) && test then Some (behind_goal said []) else None) ≡ Some after → Taken said (t ∷ ts) after
  at_goal test is e = inside (nat_le 2 (length said)) test refl is e where
    inside : (two test : Bool) → nat_le 2 (length said) ≡ two → bytes_eq t (codes "goal") ≡ test
        → option_and_then (λ between. said_texts between ts) (if two && test then Some (behind_goal said []) else None) ≡ Some after → Taken said (t ∷ ts) after
    inside true true two is e =
        let b : Behind said [] ts after = were_behind said [] ts after e in
        record {
          ws = [];
          gs = t ∷ ts;
          ns = [];
          split = refl;
          are = tt;
          before_is = ap (λ (s : Said). s.before) b.is ∙ sym (append-nil said);
          goal_is = inr (
            ts,
            ap (λ w. w ∷ ts) ((bytes_eq-Decides t (codes "goal")).0 is),
            ap (λ (s : Said). s.has_goal) b.is,
            subst (AreNumbers ts) (sym (ap (λ (s : Said). s.behind) b.is)) b.are,
            subst (λ numbers. 2 ≤ length numbers) (sym (ap (λ (s : Said). s.before) b.is)) (leb-true 2 (length said) two),
          );
        }
    inside true false two is e = cc
    inside false test two is e = cc

  go : (number : Option ℕ) → short_number_of t ≡ number → option_and_then (λ between. said_texts between ts) (with_word (before_goal said) number (bytes_eq t (codes "goal"))) ≡ Some after
      → ((n : ℕ) → said_texts (before_goal (said ++ n ∷ [])) ts ≡ Some after → Taken (said ++ n ∷ []) ts after) → Taken said (t ∷ ts) after
  go None is e rest = at_goal (bytes_eq t (codes "goal")) refl e
  go (Some n) is e rest =
      let others : Taken (said ++ n ∷ []) ts after = rest n e in
      record {
        ws = t ∷ others.ws;
        gs = others.gs;
        ns = n ∷ others.ns;
        split = ap (λ more. t ∷ more) others.split;
        are = (spells_short_number t n is, others.are);
        before_is = others.before_is ∙ append_assoc said (n ∷ []) others.ns;
        goal_is = others.goal_is;
      }

-- ---- tiles

pub a_side : (cells : ℕ) → is_side cells ≡ true → (2 ≤ cells) × (cells ≤ 4)
a_side cells e = let two = and_parts (nat_le 2 cells) (nat_le cells 4) e in (leb-true 2 cells two.0, leb-true cells 4 two.1)

pub is_a_side : (cells : ℕ) → (2 ≤ cells) × (cells ≤ 4) → is_side cells ≡ true
is_a_side cells s = and_from (nat_le 2 cells) (nat_le cells 4) (le-leb 2 cells s.0) (le-leb cells 4 s.1)

-- the tiles of these sides and boards, or their first fault
abbrev pub judged : TilesParts → Result TilesParts TilesError
judged tiles = if is_side tiles.rows && is_side tiles.cols then boards_reading tiles.rows tiles.cols tiles.start tiles.goal else Err Size

-- what is said is read
pub says_judged : (text : List ℕ) (tiles : TilesParts) → SaysTiles text tiles → tiles_reading text ≡ judged tiles
says_judged text tiles s = go s.goal_is where
  ws : texts (words text) ≡ (s.rows_word ∷ s.cols_word ∷ s.start_words) ++ s.goal_words
  ws = words_are 1 text (s.rows_word ∷ s.cols_word ∷ (s.start_words ++ s.goal_words)) s.words_are

  said : said_texts nothing_said (texts (words text)) ≡ said_texts (before_goal (tiles.rows ∷ tiles.cols ∷ tiles.start)) s.goal_words
  said =
      ap (said_texts nothing_said) ws
      ∙ numbers_before [] (s.rows_word ∷ s.cols_word ∷ s.start_words) s.goal_words (tiles.rows ∷ tiles.cols ∷ tiles.start) (s.rows_is, (s.cols_is, s.start_is))

  with_goal : (has_goal : Bool) (behind : List ℕ) → (if has_goal then behind else range_with_len 0 (cell_count tiles)) ≡ tiles.goal
      → numbers_reading (tiles.rows ∷ tiles.cols ∷ tiles.start) has_goal behind ≡ judged tiles
  with_goal has_goal behind goal = ap (λ board. if is_side tiles.rows && is_side tiles.cols then boards_reading tiles.rows tiles.cols tiles.start board else Err Size) goal

  go : SpellsGoal s.goal_words tiles → tiles_reading text ≡ judged tiles
  go (inl (none, usual)) =
      ap read_after (to_said nothing_said (words text) (before_goal (tiles.rows ∷ tiles.cols ∷ tiles.start)) (said ∙ ap (said_texts (before_goal (tiles.rows ∷ tiles.cols ∷ tiles.start))) none))
      ∙ with_goal false [] (sym usual)
  go (inr (numbers, some, are)) =
      ap read_after (to_said nothing_said (words text) (behind_goal (tiles.rows ∷ tiles.cols ∷ tiles.start) tiles.goal)
      (said ∙ ap (said_texts (before_goal (tiles.rows ∷ tiles.cols ∷ tiles.start))) some
      ∙ ap (option_and_then (λ after. said_texts after numbers)) (goal_stands tiles.rows tiles.cols tiles.start)
      ∙ numbers_behind (tiles.rows ∷ tiles.cols ∷ tiles.start) [] numbers tiles.goal are))
      ∙ with_goal true tiles.goal refl

reads_spelled : (text : List ℕ) (tiles : TilesParts) → SpellsTiles text tiles → tiles_reading text ≡ Ok tiles
reads_spelled text tiles s =
    let is : IsTiles tiles = s.are_tiles in
    says_judged text tiles s.says
    ∙ ap (λ test. if test then boards_reading tiles.rows tiles.cols tiles.start tiles.goal else Err Size)
    (and_from (is_side tiles.rows) (is_side tiles.cols) (is_a_side tiles.rows is.rows) (is_a_side tiles.cols is.cols))
    ∙ ap (λ fault. unless_fault fault tiles)
    (listed_have_no_fault (cell_count tiles) tiles.start tiles.goal (listed (cell_count tiles) tiles.start is.start) (listed (cell_count tiles) tiles.goal is.goal))

-- the tiles that numbers say
abbrev pub tiles_said : (rows cols : ℕ) → (start : List ℕ) → (has_goal : Bool) → (behind : List ℕ) → TilesParts
tiles_said rows cols start has_goal behind = record { rows = rows; cols = cols; start = start; goal = if has_goal then behind else range_with_len 0 (rows * cols) }

-- words that were read say these numbers
read_says : (text : List ℕ) (rows cols : ℕ) (start before : List ℕ) (has_goal : Bool) (behind : List ℕ) (ws gs : List (List ℕ)) → AreWordsOf text (ws ++ gs) → AreNumbers ws (rows ∷ cols ∷ start)
    → IsGoal gs before has_goal behind → SaysTiles text (tiles_said rows cols start has_goal behind)
read_says text rows cols start before has_goal behind [] gs words are goal = absurd are
read_says text rows cols start before has_goal behind (w ∷ []) gs words are goal = absurd are.1
read_says text rows cols start before has_goal behind (w ∷ v ∷ ws) gs words are goal =
    record { rows_word = w; cols_word = v; start_words = ws; goal_words = gs; words_are = words; rows_is = are.0; cols_is = are.1.0; start_is = are.1.1; goal_is = spells_goal goal }
  where
    spells_goal : IsGoal gs before has_goal behind → SpellsGoal gs (tiles_said rows cols start has_goal behind)
    spells_goal (inl (none, off)) = inl (none, ap (λ test. if test then behind else range_with_len 0 (rows * cols)) off)
    spells_goal (inr (numbers, some, on, spelt, two)) = inr (numbers, some, subst (AreNumbers numbers) (ap (λ test. if test then behind else range_with_len 0 (rows * cols)) (sym on)) spelt)

-- what a text says that is read
pub record IsRead (text : List ℕ) (said : Said) : Type 0 where
  pub taken : Taken [] (texts (words text)) said
  pub words_are : AreWordsOf text (taken.ws ++ taken.gs)
  pub before_is : said.before ≡ taken.ns

pub is_read : (text : List ℕ) (said : Said) → said_by nothing_said (words text) ≡ Ok said → IsRead text said
is_read text said e =
    let t : Taken [] (texts (words text)) said = were_taken [] (texts (words text)) said (from_said nothing_said (words text) said e) in
    record { taken = t; words_are = subst (AreWordsOf text) t.split (parted 1 [] text tt); before_is = t.before_is }

pub says_read : (text : List ℕ) (said : Said) (rows cols : ℕ) (start : List ℕ) → IsRead text said → said.before ≡ rows ∷ cols ∷ start → SaysTiles text (tiles_said rows cols start said.has_goal said.behind)
says_read text said rows cols start r is =
    let t : Taken [] (texts (words text)) said = r.taken in
    read_says text rows cols start said.before said.has_goal said.behind t.ws t.gs r.words_are (subst (AreNumbers t.ws) (sym r.before_is ∙ is) t.are) t.goal_is

-- sides and boards that are judged well make up tiles
judged_well : (tiles read : TilesParts) → judged tiles ≡ Ok read → (tiles ≡ read) × IsTiles tiles
judged_well tiles read e = go (is_side tiles.rows && is_side tiles.cols) refl e where
  faultless : (fault : Option TilesError) → boards_fault (cell_count tiles) tiles.start tiles.goal ≡ fault → (is_side tiles.rows ≡ true) × (is_side tiles.cols ≡ true) → unless_fault fault tiles ≡ Ok read
      → (tiles ≡ read) × IsTiles tiles
  faultless (Some fault) is sides e = cc
  faultless None is sides e =
      let same : tiles ≡ read = cc in
      (same, are_tiles tiles.rows tiles.cols tiles.start tiles.goal (a_side tiles.rows sides.0) (a_side tiles.cols sides.1) is)

  go : (test : Bool) → (is_side tiles.rows && is_side tiles.cols) ≡ test → (if test then boards_reading tiles.rows tiles.cols tiles.start tiles.goal else Err Size) ≡ Ok read → (tiles ≡ read) × IsTiles tiles
  go true is e = faultless (boards_fault (cell_count tiles) tiles.start tiles.goal) refl (and_parts (is_side tiles.rows) (is_side tiles.cols) is) e
  go false is e = cc

spells_read : (text : List ℕ) (tiles : TilesParts) → tiles_reading text ≡ Ok tiles → SpellsTiles text tiles
spells_read text tiles e = go (said_by nothing_said (words text)) refl e where
  inside : (said : Said) (before : List ℕ) → said.before ≡ before → IsRead text said → numbers_reading before said.has_goal said.behind ≡ Ok tiles → SpellsTiles text tiles
  inside said [] is r e = cc
  inside said (rows ∷ []) is r e = cc
  inside said (rows ∷ cols ∷ start) is r e =
      let well = judged_well (tiles_said rows cols start said.has_goal said.behind) tiles e in
      subst (SpellsTiles text) well.0 (record { says = says_read text said rows cols start r is; are_tiles = well.1 })

  go : (read : Result Said TilesError) → said_by nothing_said (words text) ≡ read → read_after read ≡ Ok tiles → SpellsTiles text tiles
  go (Err fault) is e = cc
  go (Ok said) is e = inside said said.before refl (is_read text said is) e

pub readings_are_spelled : ReadingsAreSpelled
readings_are_spelled text tiles = (spells_read text tiles, reads_spelled text tiles)

pub spelled_tiles_are_unique : SpelledTilesAreUnique
spelled_tiles_are_unique text tiles other one two =
    let same : ◌≡◌ {A = Result TilesParts TilesError} (Ok tiles) (Ok other) = sym (reads_spelled text tiles one) ∙ reads_spelled text other two in cc

-- a text that spells tiles is not refused
pub only_memory : (text : List ℕ) (tiles : TilesParts) (fault : TilesError) → SpellsTiles text tiles → (fault ≢ Memory → tiles_reading text ≡ Err fault) → fault ≡ Memory
only_memory text tiles fault s refused = which fault refused where
  clash : (other : TilesError) → tiles_reading text ≡ Err other → ⊥
  clash other e = let same : ◌≡◌ {A = Result TilesParts TilesError} (Ok tiles) (Err other) = sym (reads_spelled text tiles s) ∙ e in cc

  which : (fault : TilesError) → (fault ≢ Memory → tiles_reading text ≡ Err fault) → fault ≡ Memory
  which (Syntax line) refused = absurd (clash (Syntax line) (refused (λ e. cc)))
  which Size refused = absurd (clash Size (refused (λ e. cc)))
  which (Count seen wanted) refused = absurd (clash (Count seen wanted) (refused (λ e. cc)))
  which (Number at) refused = absurd (clash (Number at) (refused (λ e. cc)))
  which (Twice number) refused = absurd (clash (Twice number) (refused (λ e. cc)))
  which Memory refused = refl
