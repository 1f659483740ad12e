-- The words of a text and where they stand.
use Rattle.std.proofs.Common.{◌≡◌, ℕ, ◌+◌, ◌≤◌, Bool, true, false, ◌==◌, if◌then◌else◌, List, [], ◌∷◌, ◌++◌, length, filter, refl, sym, subst, ap, arith, ◌∙◌, append_assoc}
use Rattle.std.proofs.lemmas.Bool.Decides.{nat_tests}
use Rattle.pb_tiles.specs.Words.{is_blank, Word, word_end, line_behind, words_behind, words}
use Rattle.pb_tiles.specs.Spelling.{BeginsBlank, IsWord, AreWordsOf}
use Rattle.pb_tiles.specs.Cases.{EndsBlank, line_feeds}
use Rattle.pb_tiles.proofs.Spelled.{texts, Whole, whole_more, blank_front, collect, words_are}

-- ---- line feeds

fed : (line byte : ℕ) (text : List ℕ) → line_behind line byte + line_feeds text ≡ line + line_feeds (byte ∷ text)
fed line byte text = go (byte == 10) where
  go : (test : Bool) → (if test then line + 1 else line) + line_feeds text ≡ line + length (if test then byte ∷ filter (λ b. b == 10) text else filter (λ b. b == 10) text)
  go true = omega arith
  go false = refl

no_feed : (byte : ℕ) → is_blank byte ≡ false → (byte == 10) ≡ false
no_feed byte e = grind (arith, nat_tests)

-- a word has no line feed
fed_word : (word text : List ℕ) → Whole word → line_feeds (word ++ text) ≡ line_feeds text
fed_word [] text all = refl
fed_word (byte ∷ word) text all =
    ap (λ test. length (if test then byte ∷ filter (λ b. b == 10) (word ++ text) else filter (λ b. b == 10) (word ++ text))) (no_feed byte all.0) ∙ fed_word word text all.1

-- ---- a text that ends with a blank

ends_more : (byte : ℕ) (text : List ℕ) → is_blank byte ≡ true → EndsBlank text → EndsBlank (byte ∷ text)
ends_more byte [] e ends = e
ends_more byte (next ∷ text) e ends = ends

ends_behind : (word : List ℕ) (byte : ℕ) (text : List ℕ) → EndsBlank (byte ∷ text) → EndsBlank (word ++ byte ∷ text)
ends_behind [] byte text ends = ends
ends_behind (one ∷ []) byte text ends = ends
ends_behind (one ∷ next ∷ word) byte text ends = ends_behind (next ∷ word) byte text ends

-- ---- where a word stands

-- The word stands in the text, behind these words. The text begins in this line.
pub record StandsIn (line : ℕ) (text : List ℕ) (ws : List (List ℕ)) (word : Word) : Type 0 where
  pub before : List ℕ
  pub behind : List ℕ
  pub text_is : text ≡ before ++ (word.text ++ behind)
  pub ends : EndsBlank before
  pub is_word : IsWord word.text
  pub begins : BeginsBlank behind
  pub words_are : AreWordsOf before ws
  pub place : word.line ≡ line + line_feeds before

-- the first word of a text stands at its begin
stands_first : (line : ℕ) (word behind : List ℕ) → 1 ≤ length word → Whole word → BeginsBlank behind → StandsIn line (word ++ behind) [] (record { text = word; line = line })
stands_first line word behind some all begins = record { before = []; behind = behind; text_is = refl; ends = tt; is_word = (some, all); begins = begins; words_are = tt; place = omega arith }

behind_blank : (line byte : ℕ) (text : List ℕ) (ws : List (List ℕ)) (word : Word) → is_blank byte ≡ true → StandsIn (line_behind line byte) text ws word → StandsIn line (byte ∷ text) ws word
behind_blank line byte text ws word e s = record {
  before = byte ∷ s.before;
  behind = s.behind;
  text_is = ap (λ (t : List ℕ). byte ∷ t) s.text_is;
  ends = ends_more byte s.before e s.ends;
  is_word = s.is_word;
  begins = s.begins;
  words_are = blank_front byte s.before ws e s.words_are;
  place = s.place ∙ fed line byte s.before;
}

behind_word : (line byte : ℕ) (first text : List ℕ) (ws : List (List ℕ)) (word : Word) → 1 ≤ length first → Whole first → is_blank byte ≡ true → StandsIn (line_behind line byte) text ws word
    → StandsIn line (first ++ byte ∷ text) (first ∷ ws) word
behind_word line byte first text ws word some all e s = record {
  before = first ++ byte ∷ s.before;
  behind = s.behind;
  text_is = ap (λ (t : List ℕ). first ++ byte ∷ t) s.text_is ∙ sym (append_assoc first (byte ∷ s.before) (word.text ++ s.behind));
  ends = ends_behind first byte s.before (ends_more byte s.before e s.ends);
  is_word = s.is_word;
  begins = s.begins;
  words_are = ([], byte ∷ s.before, refl, tt, (some, all), e, blank_front byte s.before ws e s.words_are);
  place = s.place ∙ fed line byte s.before ∙ ap (λ n. line + n) (sym (fed_word first (byte ∷ s.before) all));
}

-- each word of a text stands in it
stands : (line : ℕ) (so_far text : List ℕ) (front : List Word) (word : Word) (back : List Word) → Whole so_far → words_behind line so_far text ≡ front ++ word ∷ back → StandsIn line (so_far ++ text) (texts front) word
stands line [] [] [] word back all e = cc
stands line [] [] (f ∷ front) word back all e = cc
stands line (b ∷ bs) [] [] word back all e =
    let same : ◌≡◌ {A = Word} (record { text = b ∷ bs; line = line }) word = cc in
    subst (StandsIn line ((b ∷ bs) ++ []) []) same (stands_first line (b ∷ bs) [] (omega arith) all tt)
stands line (b ∷ bs) [] (f ∷ []) word back all e = cc
stands line (b ∷ bs) [] (f ∷ g ∷ front) word back all e = cc
stands line so_far (byte ∷ text) front word back all e =
    go (is_blank byte) refl e (λ f w. stands (line_behind line byte) [] text f word back tt w) (λ last w. stands line (so_far ++ byte ∷ []) text front word back (whole_more so_far byte all last) w)
  where
    ended : (so_far : List ℕ) (front : List Word) → Whole so_far → is_blank byte ≡ true → word_end line so_far ++ words_behind (line_behind line byte) [] text ≡ front ++ word ∷ back
        → ((f : List Word) → words_behind (line_behind line byte) [] text ≡ f ++ word ∷ back → StandsIn (line_behind line byte) text (texts f) word)
        → StandsIn line (so_far ++ byte ∷ text) (texts front) word
    ended [] front all is e rest = behind_blank line byte text (texts front) word is (rest front e)
    ended (b ∷ bs) [] all is e rest =
        let same : ◌≡◌ {A = Word} (record { text = b ∷ bs; line = line }) word = cc in
        subst (StandsIn line ((b ∷ bs) ++ byte ∷ text) []) same (stands_first line (b ∷ bs) (byte ∷ text) (omega arith) all is)
    ended (b ∷ bs) (f ∷ front) all is e rest =
        let same : ◌≡◌ {A = Word} (record { text = b ∷ bs; line = line }) f = cc in
        let more : words_behind (line_behind line byte) [] text ≡ front ++ word ∷ back = cc in
        subst (λ (first : Word). StandsIn line ((b ∷ bs) ++ byte ∷ text) (first.text ∷ texts front) word) same
        (behind_word line byte (b ∷ bs) text (texts front) word (omega arith) all is (rest front more))

    go : (test : Bool) → is_blank byte ≡ test
        → (if test then word_end line so_far ++ words_behind (line_behind line byte) [] text else words_behind line (so_far ++ byte ∷ []) text) ≡ front ++ word ∷ back
        → ((f : List Word) → words_behind (line_behind line byte) [] text ≡ f ++ word ∷ back → StandsIn (line_behind line byte) text (texts f) word)
        → (is_blank byte ≡ false → words_behind line (so_far ++ byte ∷ []) text ≡ front ++ word ∷ back → StandsIn line ((so_far ++ byte ∷ []) ++ text) (texts front) word)
        → StandsIn line (so_far ++ byte ∷ text) (texts front) word
    go true is e rest on = ended so_far front all is e rest
    go false is e rest on = subst (λ t. StandsIn line t (texts front) word) (append_assoc so_far (byte ∷ []) text) (on is e)

pub word_stands : (text : List ℕ) (front : List Word) (word : Word) (back : List Word) → words text ≡ front ++ word ∷ back → StandsIn 1 text (texts front) word
word_stands text front word back e = stands 1 [] text front word back tt e

-- ---- a word that stands in a text is one of its words

-- a byte more before words that begin anew
one_more : (line : ℕ) (so_far : List ℕ) (byte : ℕ) (before rest : List ℕ)
    → words_behind (line_behind line byte) [] (before ++ rest) ≡ words_behind (line_behind line byte) [] before ++ words_behind (line_behind line byte + line_feeds before) [] rest
    → (is_blank byte ≡ false → words_behind line (so_far ++ byte ∷ []) (before ++ rest) ≡ words_behind line (so_far ++ byte ∷ []) before ++ words_behind (line + line_feeds before) [] rest)
    → words_behind line so_far (byte ∷ (before ++ rest)) ≡ words_behind line so_far (byte ∷ before) ++ words_behind (line + line_feeds (byte ∷ before)) [] rest
one_more line so_far byte before rest ended on = go (is_blank byte) refl where
  go : (test : Bool) → is_blank byte ≡ test
      → (if test then word_end line so_far ++ words_behind (line_behind line byte) [] (before ++ rest) else words_behind line (so_far ++ byte ∷ []) (before ++ rest))
      ≡ (if test then word_end line so_far ++ words_behind (line_behind line byte) [] before else words_behind line (so_far ++ byte ∷ []) before) ++ words_behind (line + line_feeds (byte ∷ before)) [] rest
  go true is =
      ap (λ ws. word_end line so_far ++ ws) ended ∙ sym (append_assoc (word_end line so_far) (words_behind (line_behind line byte) [] before) (words_behind (line_behind line byte + line_feeds before) [] rest))
      ∙ ap (λ n. (word_end line so_far ++ words_behind (line_behind line byte) [] before) ++ words_behind n [] rest) (fed line byte before)
  go false is = on is ∙ ap (λ n. words_behind line (so_far ++ byte ∷ []) before ++ words_behind (line + n) [] rest) (sym (fed_word (byte ∷ []) before (is, tt)))

-- behind a blank the words begin anew
anew : (line : ℕ) (so_far : List ℕ) (byte : ℕ) (before rest : List ℕ) → EndsBlank (byte ∷ before)
    → words_behind line so_far ((byte ∷ before) ++ rest) ≡ words_behind line so_far (byte ∷ before) ++ words_behind (line + line_feeds (byte ∷ before)) [] rest
anew line so_far byte [] rest ends =
    one_more line so_far byte [] rest (ap (λ n. words_behind n [] rest) (let same : line_behind line byte ≡ line_behind line byte + 0 = omega arith in same)) (λ is. let both : true ≡ false = sym ends ∙ is in cc)
anew line so_far byte (next ∷ before) rest ends =
    one_more line so_far byte (next ∷ before) rest (anew (line_behind line byte) [] next before rest ends) (λ is. anew line (so_far ++ byte ∷ []) next before rest ends)

-- a word comes first of those from its begin on
comes_first : (line : ℕ) (word behind : List ℕ) → IsWord word → BeginsBlank behind → (back : List Word) × (words_behind line [] (word ++ behind) ≡ record { text = word; line = line } ∷ back)
comes_first line word behind is begins = let first = there word behind is.0 begins in (first.0, collect line [] word behind is.1 ∙ first.1) where
  there : (word behind : List ℕ) → 1 ≤ length word → BeginsBlank behind → (back : List Word) × (words_behind line word behind ≡ record { text = word; line = line } ∷ back)
  there [] behind some begins = absurd (omega arith)
  there (b ∷ bs) [] some begins = ([], refl)
  there (b ∷ bs) (byte ∷ rest) some begins = (
    words_behind (line_behind line byte) [] rest,
    ap (λ test. if test then record { text = b ∷ bs; line = line } ∷ words_behind (line_behind line byte) [] rest else words_behind line ((b ∷ bs) ++ byte ∷ []) rest) begins,
  )

-- the words of a text with a word that stands in it
pub record Standing (text : List ℕ) (ws : List (List ℕ)) (word : List ℕ) (line : ℕ) : Type 0 where
  pub front : List Word
  pub back : List Word
  pub texts_are : texts front ≡ ws
  pub words_are : words text ≡ front ++ record { text = word; line = line } ∷ back

pub standing : (before word behind : List ℕ) (ws : List (List ℕ)) → EndsBlank before → IsWord word → BeginsBlank behind → AreWordsOf before ws → Standing (before ++ (word ++ behind)) ws word (1 + line_feeds before)
standing before word behind ws ends is begins are =
    let first = comes_first (1 + line_feeds before) word behind is begins in
    record { front = words before; back = first.0; texts_are = words_are 1 before ws are; words_are = parts before ends ∙ ap (λ more. words before ++ more) first.1 }
  where
    parts : (before : List ℕ) → EndsBlank before → words (before ++ (word ++ behind)) ≡ words before ++ words_behind (1 + line_feeds before) [] (word ++ behind)
    parts [] ends = refl
    parts (byte ∷ before) ends = anew 1 [] byte before (word ++ behind) ends
