-- The words of a text, read byte by byte.
use Rattle.std.proofs.Common.{◌≡◌, ℕ, ◌+◌, ◌-◌, ◌<◌, ◌≤◌, true, false, if◌then◌else◌, Option, None, Some, Result, Ok, Err, List, [], ◌∷◌, ◌++◌, length, take, drop, get_or, sym, ap, arith, ◌∙◌, length-drop}
use Rattle.std.proofs.lemmas.List.{take_more, drop_more, get_or-drop}
use Rattle.std.specs.Option.{option_map_or}
use Rattle.pb_tiles.specs.declared.error.TilesError.{TilesError}
use Rattle.pb_tiles.specs.declared.error.TilesError.TheVariants.{Syntax}
use Rattle.pb_tiles.specs.Said.{Said}
use Rattle.pb_tiles.specs.Words.{is_blank, Word, word_end, line_behind, words_behind}
use Rattle.pb_tiles.specs.Reading.{next, said_by}

-- ---- words, one after another

-- what is said after some words, and then after more
pub said_on : (said after : Said) (some more : List Word) → said_by said some ≡ Ok after → said_by said (some ++ more) ≡ said_by after more
said_on said after [] more e = let same : said ≡ after = cc in ap (λ s. said_by s more) same
said_on said after (word ∷ some) more e = go (next said word.text) (λ between. said_on between after some more) e where
  go : (step : Option Said) → ((between : Said) → said_by between some ≡ Ok after → said_by between (some ++ more) ≡ said_by after more)
      → option_map_or (λ between. said_by between some) step (Err (Syntax word.line)) ≡ Ok after
      → option_map_or (λ between. said_by between (some ++ more)) step (Err (Syntax word.line)) ≡ said_by after more
  go None rest e = cc
  go (Some between) rest e = rest between e

pub said_no_more : (said : Said) (some more : List Word) (fault : TilesError) → said_by said some ≡ Err fault → said_by said (some ++ more) ≡ Err fault
said_no_more said [] more fault e = cc
said_no_more said (word ∷ some) more fault e = go (next said word.text) (λ between. said_no_more between some more fault) e where
  go : (step : Option Said) → ((between : Said) → said_by between some ≡ Err fault → said_by between (some ++ more) ≡ Err fault)
      → option_map_or (λ between. said_by between some) step (Err (Syntax word.line)) ≡ Err fault
      → option_map_or (λ between. said_by between (some ++ more)) step (Err (Syntax word.line)) ≡ Err fault
  go None rest e = e
  go (Some between) rest e = rest between e

-- ---- one more byte

next_byte : (text : List ℕ) (at line : ℕ) (word : List ℕ) → at < length text → words_behind line word (drop at text)
    ≡ (if is_blank (get_or text at 0) then word_end line word ++ words_behind (line_behind line (get_or text at 0)) [] (drop (at + 1) text) else words_behind line (word ++ get_or text at 0 ∷ []) (drop (at + 1) text))
next_byte text at line word less = ap (words_behind line word) (drop_more text at 0 less)

-- a blank ends the word before it
pub ends_word : (text : List ℕ) (at begin line : ℕ) (said after : Said) (whole : Result Said TilesError) → at < length text → is_blank (get_or text at 0) ≡ true
    → said_by said (words_behind line (take (at - begin) (drop begin text)) (drop at text)) ≡ whole
    → said_by said (word_end line (take (at - begin) (drop begin text))) ≡ Ok after
    → said_by after (words_behind (line_behind line (get_or text at 0)) (take (at + 1 - (at + 1)) (drop (at + 1) text)) (drop (at + 1) text)) ≡ whole
ends_word text at begin line said after whole less blank before taken =
    ap (λ n. said_by after (words_behind (line_behind line (get_or text at 0)) (take n (drop (at + 1) text)) (drop (at + 1) text))) (let e : at + 1 - (at + 1) ≡ 0 = omega arith in e)
    ∙ sym (said_on said after (word_end line (take (at - begin) (drop begin text))) (words_behind (line_behind line (get_or text at 0)) [] (drop (at + 1) text)) taken)
    ∙ ap (λ test. said_by said (if test then word_end line (take (at - begin) (drop begin text)) ++ words_behind (line_behind line (get_or text at 0)) [] (drop (at + 1) text)
    else words_behind line (take (at - begin) (drop begin text) ++ get_or text at 0 ∷ []) (drop (at + 1) text))) (sym blank)
    ∙ ap (said_by said) (sym (next_byte text at line (take (at - begin) (drop begin text)) less)) ∙ before

-- a word that can't stand there is where the whole ends
pub refuses_word : (text : List ℕ) (at begin line : ℕ) (said : Said) (fault : TilesError) (whole : Result Said TilesError) → at < length text → is_blank (get_or text at 0) ≡ true
    → said_by said (words_behind line (take (at - begin) (drop begin text)) (drop at text)) ≡ whole
    → said_by said (word_end line (take (at - begin) (drop begin text))) ≡ Err fault → whole ≡ Err fault
refuses_word text at begin line said fault whole less blank before refused =
    sym before ∙ ap (said_by said) (next_byte text at line (take (at - begin) (drop begin text)) less)
    ∙ ap (λ test. said_by said (if test then word_end line (take (at - begin) (drop begin text)) ++ words_behind (line_behind line (get_or text at 0)) [] (drop (at + 1) text)
    else words_behind line (take (at - begin) (drop begin text) ++ get_or text at 0 ∷ []) (drop (at + 1) text))) blank
    ∙ said_no_more said (word_end line (take (at - begin) (drop begin text))) (words_behind (line_behind line (get_or text at 0)) [] (drop (at + 1) text)) fault refused

longer : (text : List ℕ) (at begin : ℕ) → begin ≤ at → at < length text → take (at + 1 - begin) (drop begin text) ≡ take (at - begin) (drop begin text) ++ get_or text at 0 ∷ []
longer text at begin begun less =
    ap (λ n. take n (drop begin text)) (let e : at + 1 - begin ≡ at - begin + 1 = omega arith in e)
    ∙ take_more (drop begin text) (at - begin) 0 (omega (arith, length-drop begin text))
    ∙ ap (λ n. take (at - begin) (drop begin text) ++ n ∷ []) (get_or-drop begin text (at - begin) 0 ∙ ap (λ n. get_or text n 0) (let e : begin + (at - begin) ≡ at = omega arith in e))

-- any other byte goes on a word
pub goes_on : (text : List ℕ) (at begin line : ℕ) (said : Said) (whole : Result Said TilesError) → begin ≤ at → at < length text → is_blank (get_or text at 0) ≡ false
    → said_by said (words_behind line (take (at - begin) (drop begin text)) (drop at text)) ≡ whole
    → said_by said (words_behind line (take (at + 1 - begin) (drop begin text)) (drop (at + 1) text)) ≡ whole
goes_on text at begin line said whole begun less other before =
    ap (λ word. said_by said (words_behind line word (drop (at + 1) text))) (longer text at begin begun less)
    ∙ ap (λ test. said_by said (if test then word_end line (take (at - begin) (drop begin text)) ++ words_behind (line_behind line (get_or text at 0)) [] (drop (at + 1) text)
    else words_behind line (take (at - begin) (drop begin text) ++ get_or text at 0 ∷ []) (drop (at + 1) text))) (sym other)
    ∙ ap (said_by said) (sym (next_byte text at line (take (at - begin) (drop begin text)) less)) ∙ before

-- the same, where the values have other names
pub same_place : (text : List ℕ) (at : ℕ) (said said' : Said) (line line' begin begin' : ℕ) (whole : Result Said TilesError) → said ≡ said' → line ≡ line' → begin ≡ begin'
    → said_by said' (words_behind line' (take (at - begin') (drop begin' text)) (drop at text)) ≡ whole
    → said_by said (words_behind line (take (at - begin) (drop begin text)) (drop at text)) ≡ whole
same_place text at said said' line line' begin begin' whole e f g before =
    ap (λ s. said_by s (words_behind line (take (at - begin) (drop begin text)) (drop at text))) e
    ∙ ap (λ l. said_by said' (words_behind l (take (at - begin) (drop begin text)) (drop at text))) f
    ∙ ap (λ b. said_by said' (words_behind line' (take (at - b) (drop b text)) (drop at text))) g ∙ before
