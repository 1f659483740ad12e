-- Parting a text into lines and a line into words.
use Rattle.std.proofs.Common.{◌≡◌, ℕ, zero, suc, ◌+◌, ◌-◌, ◌<◌, ◌≤◌, Bool, true, false, cond, not, eqb, ltb, Some, None, List, [], ◌∷◌, ◌++◌, length, take, drop, get_or, map, reverse, refl, sym, ap, arith, ◌∙◌, length-drop}
use Rattle.std.specs.List.{slice_split, onto_first, filter, position, position_or_len}
use Rattle.std.proofs.lemmas.Bool.{lt-ltb, not-true, not-false, both_ways}
use Rattle.std.proofs.lemmas.Bool.Decides.{nat_tests}
use Rattle.std.proofs.lemmas.List.{append-nil, take-append-drop, reverse-append, length-take-le, get_or-take, get_or-drop, drop_more, drop_all}
use Rattle.std.proofs.lemmas.List.Elements.{filter-append}
use Rattle.std.proofs.lemmas.List.Quantifiers.{position-Some}
use Rattle.std.proofs.lemmas.List.Sums.{prefix_len_passes}
use Rattle.std.specs.Str.Lines.{strip_carriage_return}
use Rattle.pb_grid.specs.Lines.{is_line_feed, without_empty_last, lines_of, line_at, is_blank, IsLastAt, has_bytes, words_of}

-- ---- tests

-- where nothing is found, nothing passes
pub position_none : (p : ℕ → Bool) (xs : List ℕ) → position p xs ≡ None → (k : ℕ) → k < length xs → p (get_or xs k 0) ≡ false
position_none p xs none k less = not-true (p (get_or xs k 0)) (prefix_len_passes (λ x. not (p x)) xs k 0 (omega (arith, less, past (ltb (position_or_len p xs) (length xs)) refl none))) where
  past : (b : Bool) → ltb (position_or_len p xs) (length xs) ≡ b → cond b (Some (position_or_len p xs)) None ≡ None → length xs ≤ position_or_len p xs
  past true is e = cc
  past false is e = grind (arith, nat_tests, is)

-- ---- parts

-- what stands behind the first of these lists
onto-append : (x : ℕ) (xs ys : List (List ℕ)) → 0 < length xs → onto_first x (xs ++ ys) ≡ onto_first x xs ++ ys
onto-append x [] ys some = absurd (omega arith)
onto-append x (part ∷ xs) ys some = refl

pub split_some : (p : ℕ → Bool) (xs : List ℕ) → 0 < length (slice_split p xs)
split_some p [] = omega arith
split_some p (x ∷ xs) = go (p x) (slice_split p xs) where
  go : (b : Bool) (parts : List (List ℕ)) → 0 < length (cond b ([] ∷ parts) (onto_first x parts))
  go true parts = omega arith
  go false [] = omega arith
  go false (part ∷ parts) = omega arith

-- a list is parted at each byte that passes
split-append : (p : ℕ → Bool) (xs ys : List ℕ) (y : ℕ) → p y ≡ true → slice_split p (xs ++ y ∷ ys) ≡ slice_split p xs ++ slice_split p ys
split-append p [] ys y is = ap (λ b. cond b ([] ∷ slice_split p ys) (onto_first y (slice_split p ys))) is
split-append p (x ∷ xs) ys y is = ap (λ (ps : List (List ℕ)). cond (p x) ([] ∷ ps) (onto_first x ps)) (split-append p xs ys y is) ∙ go (p x) where
  go : (b : Bool) → cond b ([] ∷ (slice_split p xs ++ slice_split p ys)) (onto_first x (slice_split p xs ++ slice_split p ys)) ≡ cond b ([] ∷ slice_split p xs) (onto_first x (slice_split p xs)) ++ slice_split p ys
  go true = refl
  go false = onto-append x (slice_split p xs) (slice_split p ys) (split_some p xs)

split-none : (p : ℕ → Bool) (xs : List ℕ) → ((k : ℕ) → k < length xs → p (get_or xs k 0) ≡ false) → slice_split p xs ≡ xs ∷ []
split-none p [] none = refl
split-none p (x ∷ xs) none =
    ap (λ b. cond b ([] ∷ slice_split p xs) (onto_first x (slice_split p xs))) (none 0 (omega arith)) ∙ ap (onto_first x) (split-none p xs (λ k less. none (suc k) (omega arith)))

-- a list, parted at one of its bytes
cut : (xs : List ℕ) (i : ℕ) → i < length xs → xs ≡ take i xs ++ get_or xs i 0 ∷ drop (i + 1) xs
cut xs i less = sym (take-append-drop i xs) ∙ ap (λ (ys : List ℕ). take i xs ++ ys) (drop_more xs i 0 less)

-- what holds of each of the first bytes
in_front : (p : ℕ → Bool) (b : Bool) (xs : List ℕ) (i : ℕ) → i ≤ length xs → ((k : ℕ) → k < i → p (get_or xs k 0) ≡ b) → (k : ℕ) → k < length (take i xs) → p (get_or (take i xs) k 0) ≡ b
in_front p b xs i le all k less =
    let len : length (take i xs) ≡ i = length-take-le i xs le in
    let small : k < i = omega (arith, less, len) in
    ap p (get_or-take i xs k 0 small) ∙ all k small

-- ---- lines

pub keeps : (part : List ℕ) (parts : List (List ℕ)) → 0 < length parts → without_empty_last (part ∷ parts) ≡ part ∷ without_empty_last parts
unfolding without_empty_last
keeps part [] some = absurd (omega arith)
keeps part (next ∷ parts) some = refl

pub lines_first : (text : List ℕ) (end : ℕ) → position is_line_feed text ≡ Some end → lines_of text ≡ strip_carriage_return (take end text) ∷ lines_of (drop (end + 1) text)
unfolding lines_of
lines_first text end found =
    let at = position-Some is_line_feed text end 0 found in
    let le : end ≤ length text = omega (arith, at.0) in
    let parts : slice_split is_line_feed text ≡ take end text ∷ slice_split is_line_feed (drop (end + 1) text) =
    ap (slice_split is_line_feed) (cut text end at.0) ∙ split-append is_line_feed (take end text) (drop (end + 1) text) (get_or text end 0) at.1
    ∙ ap (λ (ps : List (List ℕ)). ps ++ slice_split is_line_feed (drop (end + 1) text)) (split-none is_line_feed (take end text) (in_front is_line_feed false text end le at.2)) in
    ap (λ (ps : List (List ℕ)). map strip_carriage_return (without_empty_last ps)) parts
    ∙ ap (map strip_carriage_return) (keeps (take end text) (slice_split is_line_feed (drop (end + 1) text)) (split_some is_line_feed (drop (end + 1) text)))

pub no_lines : lines_of [] ≡ []
unfolding lines_of without_empty_last
no_lines = refl

alone : (text : List ℕ) → 0 < length text → without_empty_last (text ∷ []) ≡ text ∷ []
unfolding without_empty_last
alone text some = ap (λ b. cond b [] (text ∷ [])) (nonzero (length text) some) where
  nonzero : (n : ℕ) → 0 < n → eqb n 0 ≡ false
  nonzero n pos = grind (arith, nat_tests, pos)

pub lines_alone : (text : List ℕ) → 0 < length text → position is_line_feed text ≡ None → lines_of text ≡ strip_carriage_return text ∷ lines_of (drop (length text) text)
unfolding lines_of
lines_alone text some none =
    ap (λ (ps : List (List ℕ)). map strip_carriage_return (without_empty_last ps)) (split-none is_line_feed text (position_none is_line_feed text none))
    ∙ ap (map strip_carriage_return) (alone text some) ∙ ap (λ (ls : List (List ℕ)). strip_carriage_return text ∷ ls) (sym (ap lines_of (drop_all (length text) text (omega arith)) ∙ no_lines))

-- ---- words

words-append : (xs ys : List ℕ) (y : ℕ) → is_blank y ≡ true → words_of (xs ++ y ∷ ys) ≡ words_of xs ++ words_of ys
unfolding words_of
words-append xs ys y is = ap (filter has_bytes) (split-append is_blank xs ys y is) ∙ filter-append has_bytes (slice_split is_blank xs) (slice_split is_blank ys)

pub no_words : words_of [] ≡ []
unfolding words_of
no_words = refl

words_one : (word : List ℕ) → 0 < length word → ((k : ℕ) → k < length word → is_blank (get_or word k 0) ≡ false) → words_of word ≡ word ∷ []
unfolding words_of
words_one word some none = ap (filter has_bytes) (split-none is_blank word none) ∙ ap (λ b. cond b (word ∷ []) []) (lt-ltb 0 (length word) some)

words-cons : (y : ℕ) (ys : List ℕ) → is_blank y ≡ true → words_of (y ∷ ys) ≡ words_of ys
words-cons y ys is = words-append [] ys y is ∙ ap (λ (ws : List (List ℕ)). ws ++ words_of ys) no_words

words_behind_blanks : (xs ys : List ℕ) → ((k : ℕ) → k < length xs → is_blank (get_or xs k 0) ≡ true) → words_of (xs ++ ys) ≡ words_of ys
words_behind_blanks [] ys all = refl
words_behind_blanks (x ∷ xs) ys all = words-cons x (xs ++ ys) (all 0 (omega arith)) ∙ words_behind_blanks xs ys (λ k less. all (suc k) (omega arith))

words_of_blanks : (xs : List ℕ) → ((k : ℕ) → k < length xs → is_blank (get_or xs k 0) ≡ true) → words_of xs ≡ []
words_of_blanks xs all = ap words_of (sym (append-nil xs)) ∙ words_behind_blanks xs [] all ∙ no_words

words_before_blanks : (xs ys : List ℕ) → ((k : ℕ) → k < length ys → is_blank (get_or ys k 0) ≡ true) → words_of (xs ++ ys) ≡ words_of xs
words_before_blanks xs [] all = ap words_of (append-nil xs)
words_before_blanks xs (y ∷ ys) all =
    words-append xs ys y (all 0 (omega arith)) ∙ ap (λ (ws : List (List ℕ)). words_of xs ++ ws) (words_of_blanks ys (λ k less. all (suc k) (omega arith))) ∙ append-nil (words_of xs)

-- ---- the first word

pub none_behind : (line : List ℕ) → position (λ byte. not (is_blank byte)) line ≡ None → words_of line ≡ []
none_behind line none = words_of_blanks line (λ k less. not-false (is_blank (get_or line k 0)) (position_none (λ byte. not (is_blank byte)) line none k less))

-- the blanks before the first word may be left out, and it begins with no blank
record Begins (line : List ℕ) (start : ℕ) : Type 0 where
  pub words : words_of line ≡ words_of (drop start line)
  pub some : 0 < length (drop start line)
  pub first : is_blank (get_or (drop start line) 0 0) ≡ false

begins : (line : List ℕ) (start : ℕ) → position (λ byte. not (is_blank byte)) line ≡ Some start → Begins line start
begins line start found =
    let at = position-Some (λ byte. not (is_blank byte)) line start 0 found in
    let le : start ≤ length line = omega (arith, at.0) in
    record {
      words = ap words_of (sym (take-append-drop start line))
          ∙ words_behind_blanks (take start line) (drop start line) (in_front is_blank true line start le (λ k less. not-false (is_blank (get_or line k 0)) (at.2 k less)));
      some = let len : length (drop start line) ≡ length line - start = length-drop start line in omega (arith, len, at.0);
      first = let here : start + 0 ≡ start = omega arith in ap is_blank (get_or-drop start line 0 0 ∙ ap (λ k. get_or line k 0) here) ∙ not-true (is_blank (get_or line start 0)) at.1;
    }

pub word_first : (line : List ℕ) (start end : ℕ) → position (λ byte. not (is_blank byte)) line ≡ Some start → position is_blank (drop start line) ≡ Some end
    → words_of line ≡ take end (drop start line) ∷ words_of (drop end (drop start line))
word_first line start end found ended = is.words ∙ split (drop start line) end is.first ended where
  is : Begins line start
  is = begins line start found

  split : (word : List ℕ) (end : ℕ) → is_blank (get_or word 0 0) ≡ false → position is_blank word ≡ Some end → words_of word ≡ take end word ∷ words_of (drop end word)
  split word end first ended =
      let at = position-Some is_blank word end 0 ended in
      let le : end ≤ length word = omega (arith, at.0) in
      let len : length (take end word) ≡ end = length-take-le end word le in
      let none : (k : ℕ) → k < length (take end word) → is_blank (get_or (take end word) k 0) ≡ false = in_front is_blank false word end le at.2 in
      let one : words_of (take end word) ≡ take end word ∷ [] = words_one (take end word) (let pos : 0 < end = positive end at.1 in omega (arith, len, pos)) none in
      let behind : words_of (drop end word) ≡ words_of (drop (end + 1) word) = ap words_of (drop_more word end 0 at.0) ∙ words-cons (get_or word end 0) (drop (end + 1) word) at.1 in
      ap words_of (cut word end at.0) ∙ words-append (take end word) (drop (end + 1) word) (get_or word end 0) at.1 ∙ ap (λ (ws : List (List ℕ)). ws ++ words_of (drop (end + 1) word)) one
      ∙ ap (λ (ws : List (List ℕ)). take end word ∷ ws) (sym behind) where
        positive : (end : ℕ) → is_blank (get_or word end 0) ≡ true → 0 < end
        positive zero blank = absurd (both_ways (is_blank (get_or word 0 0)) first blank)
        positive (suc end) blank = omega arith

pub word_alone : (line : List ℕ) (start : ℕ) → position (λ byte. not (is_blank byte)) line ≡ Some start → position is_blank (drop start line) ≡ None
    → words_of line ≡ drop start line ∷ words_of (drop (length (drop start line)) (drop start line))
word_alone line start found none =
    let is : Begins line start = begins line start found in
    is.words ∙ words_one (drop start line) is.some (position_none is_blank (drop start line) none)
    ∙ ap (λ (ws : List (List ℕ)). drop start line ∷ ws) (sym (ap words_of (drop_all (length (drop start line)) (drop start line) (omega arith)) ∙ no_words))

-- ---- the last word

pub none_before : (line : List ℕ) → ((k : ℕ) → k < length line → not (is_blank (get_or line k 0)) ≡ false) → words_of line ≡ []
none_before line all = words_of_blanks line (λ k less. not-false (is_blank (get_or line k 0)) (all k less))

-- the blanks behind the last word may be left out, and it ends with no blank
record Ends (line : List ℕ) (last : ℕ) : Type 0 where
  pub words : words_of line ≡ words_of (take (last + 1) line)
  pub long : length (take (last + 1) line) ≡ last + 1
  pub ends : is_blank (get_or (take (last + 1) line) last 0) ≡ false

ends : (line : List ℕ) (last : ℕ) → IsLastAt (λ byte. not (is_blank byte)) line last → Ends line last
ends line last at =
    let within : last < length line = at.within in
    let len : length (drop (last + 1) line) ≡ length line - (last + 1) = length-drop (last + 1) line in
    let small : last < last + 1 = omega arith in
    record {
      words = ap words_of (sym (take-append-drop (last + 1) line))
          ∙ words_before_blanks (take (last + 1) line) (drop (last + 1) line)
          (λ k less. ap is_blank (get_or-drop (last + 1) line k 0) ∙ not-false (is_blank (get_or line (last + 1 + k) 0)) (at.others (last + 1 + k) (omega arith) (omega (arith, less, len))));
      long = length-take-le (last + 1) line (omega (arith, within));
      ends = ap is_blank (get_or-take (last + 1) line last 0 small) ∙ not-true (is_blank (get_or line last 0)) at.passes;
    }

turned : (line front word : List (List ℕ)) (w : List ℕ) → line ≡ front ++ word → word ≡ w ∷ [] → reverse line ≡ w ∷ reverse front
turned line front word w is one = ap reverse is ∙ reverse-append front word ∙ ap (λ (ws : List (List ℕ)). reverse ws ++ reverse front) one

pub word_last : (line : List ℕ) (last blank : ℕ) → IsLastAt (λ byte. not (is_blank byte)) line last → IsLastAt is_blank (take (last + 1) line) blank
    → reverse (words_of line) ≡ drop (blank + 1) (take (last + 1) line) ∷ reverse (words_of (take blank (take (last + 1) line)))
word_last line last blank found at = ap reverse is.words ∙ split (take (last + 1) line) is.long is.ends at where
  is : Ends line last
  is = ends line last found

  split : (front : List ℕ) → length front ≡ last + 1 → is_blank (get_or front last 0) ≡ false → IsLastAt is_blank front blank
      → reverse (words_of front) ≡ drop (blank + 1) front ∷ reverse (words_of (take blank front))
  split front long ended at =
      let within : blank < length front = at.within in
      let len : length (drop (blank + 1) front) ≡ length front - (blank + 1) = length-drop (blank + 1) front in
      let before : blank < last = earlier (λ same. both_ways (is_blank (get_or front last 0)) ended (ap (λ k. is_blank (get_or front k 0)) (sym same) ∙ at.passes)) in
      let word : words_of (drop (blank + 1) front) ≡ drop (blank + 1) front ∷ [] = words_one (drop (blank + 1) front) (omega (arith, len, long, before))
      (λ k less. ap is_blank (get_or-drop (blank + 1) front k 0) ∙ at.others (blank + 1 + k) (omega arith) (omega (arith, less, len))) in
      turned (words_of front) (words_of (take blank front)) (words_of (drop (blank + 1) front)) (drop (blank + 1) front)
      (ap words_of (cut front blank within) ∙ words-append (take blank front) (drop (blank + 1) front) (get_or front blank 0) at.passes) word where
        earlier : (blank ≡ last → ⊥) → blank < last
        earlier differs = let within : blank < length front = at.within in grind (arith, long, within, differs)

pub word_only : (line : List ℕ) (last : ℕ) → IsLastAt (λ byte. not (is_blank byte)) line last → ((k : ℕ) → k < length (take (last + 1) line) → is_blank (get_or (take (last + 1) line) k 0) ≡ false)
    → reverse (words_of line) ≡ take (last + 1) line ∷ reverse (words_of [])
word_only line last found none =
    let is : Ends line last = ends line last found in
    let long : length (take (last + 1) line) ≡ last + 1 = is.long in
    ap reverse (is.words ∙ words_one (take (last + 1) line) (omega (arith, long)) none) ∙ ap (λ (ws : List (List ℕ)). take (last + 1) line ∷ reverse ws) (sym no_words)

-- ---- a line that is missing

pub missing_line : (text : List ℕ) → text ≡ [] → text ≡ line_at (lines_of text) 1
missing_line text e = e ∙ sym (ap (λ (t : List ℕ). line_at (lines_of t) 1) e ∙ ap (λ (ls : List (List ℕ)). line_at ls 1) no_lines)

pub missing_rest : (text : List ℕ) → text ≡ [] → lines_of text ≡ drop 1 (lines_of text)
missing_rest text e = let none : lines_of text ≡ [] = ap lines_of e ∙ no_lines in none ∙ sym (ap (drop 1) none)
