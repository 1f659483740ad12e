-- What is written is read.
use Rattle.std.proofs.Common.{◌≡◌, ℕ, suc, ◌+◌, ◌-◌, ◌*◌, ◌^◌, ◌<◌, ◌≤◌, true, false, not, cond, eqb, ltb, leb, ◌&&◌, None, Some, List, [], ◌∷◌, ◌++◌, All, length, map, take, drop, codes, Result, Ok, Err, refl, sym, ap, ◌∙◌, arith, append_assoc}
use Rattle.std.specs.Fmt.{decimal}
use Rattle.std.specs.List.{list_all, flat_map}
use Rattle.std.proofs.lemmas.List.{take-append-drop, length-take-le, length-drop, length-map, nil_from_length, append-nil}
use Rattle.std.proofs.lemmas.List.Concat.{flat_map-append}
use Rattle.std.proofs.lemmas.List.Elements.{All-nil, All-cons, All-head, All-tail, All-take, All-drop}
use Rattle.std.proofs.lemmas.Bool.{and_parts, and_from, le-leb}
use Rattle.std.proofs.lemmas.Bool.Decides.{nat_tests}
use Rattle.pb_packed.specs.Digits.{hex_digits}
use Rattle.pb_packed.proofs.Callers.{digits_are_hex}
use Rattle.pb_model.specs.Texts as texts
use Rattle.pb_print.proofs.Callers.{lines-append}
use Rattle.pb_lines.specs.Words.{part, behind, number_of, place_of, has_none}
use Rattle.pb_lines.proofs.Callers.{number_again, number_none, none_both, part_again, behind_again}
use Rattle.pb_tables.specs.Tables.{TrapValue, TableValue, TablesValue, IsTable}
use Rattle.pb_table_lines.specs.Words.{hex_value, hex_after, state_of, word_of, behind_word}
use Rattle.pb_table_lines.specs.Lines.{Listing, table_listing, trap_listing, listings, values_text, image_line, image_lines, list_line, listing_lines, counts_line, tables_lines, tables_text}
use Rattle.pb_table_lines.specs.Reading.{◌>>=◌, wanted, line_at, StatedCounts, counted, are_few, counts_in, list_in, value_in, values_in, image_in, StatedImages, images_at, list_at, lists_at, lines_of_lists, of_trap, trap_of, tables_at, tables_reading}
use Rattle.pb_table_lines.specs.Spelling.{FitDigits, CanBeStated}
use Rattle.pb_table_lines.proofs.Spelled.{hex_value_after, IsStateWord}
use Rattle.pb_table_lines.proofs.States.{state_word}
use Rattle.pb_table_lines.proofs.Loops.{images_of}
use Rattle.pb_table_lines.proofs.Counted.{traps_again}

-- ---- lists in two parts

pub front_taken : {A : Type 0} (xs ys : List A) → take (length xs) (xs ++ ys) ≡ xs
front_taken [] ys = refl
front_taken {A} (x ∷ xs) ys = ap (λ (t : List A). x ∷ t) (front_taken xs ys)

pub front_dropped : {A : Type 0} (xs ys : List A) → drop (length xs) (xs ++ ys) ≡ ys
front_dropped [] ys = refl
front_dropped (x ∷ xs) ys = front_dropped xs ys

-- ---- states

hex_after_again : (n : ℕ) (word : List ℕ) → list_all (λ b. ltb (hex_value b) 16) word ≡ true → hex_after n word ≡ Some (hex_value_after n word)
unfolding hex_after
hex_after_again n [] digits = refl
hex_after_again n (b ∷ bs) digits =
    let c = and_parts (ltb (hex_value b) 16) (list_all (λ b. ltb (hex_value b) 16) bs) digits in
    ap (λ t. cond t (hex_after (n * 16 + hex_value b) bs) None) c.0 ∙ hex_after_again (n * 16 + hex_value b) bs c.1

state_word_again : (digits : ℕ) (word : List ℕ) (state : ℕ) → IsStateWord digits word state → state_of digits word ≡ Some state
state_word_again digits word state is =
    let e : eqb (length word) digits ≡ true = (let s = is.count in grind (arith, nat_tests, s)) in
    ap (λ t. cond t (hex_after 0 word) None) e ∙ hex_after_again 0 word is.all ∙ ap (λ (k : ℕ). Some k) (sym is.value)

state_again : (digits state : ℕ) → state < 16 ^ digits → state_of digits (hex_digits digits state) ≡ Some state
state_again digits state small = state_word_again digits (hex_digits digits state) state (state_word digits (hex_digits digits state) state refl small)

hex_is_none : (byte b : ℕ) → byte < 48 → ltb (hex_value b) 16 ≡ true → not (eqb b byte) ≡ true
hex_is_none byte b small e = grind (arith, nat_tests, small, e)

word_has_none : (byte : ℕ) (word : List ℕ) → byte < 48 → list_all (λ b. ltb (hex_value b) 16) word ≡ true → has_none byte word ≡ true
word_has_none byte [] small e = refl
word_has_none byte (b ∷ bs) small e = let c = and_parts (ltb (hex_value b) 16) (list_all (λ b. ltb (hex_value b) 16) bs) e in and_from (not (eqb b byte)) (has_none byte bs) (hex_is_none byte b small c.0) (word_has_none byte bs small c.1)

state_none : (byte digits state : ℕ) → byte < 48 → state < 16 ^ digits → has_none byte (hex_digits digits state) ≡ true
state_none byte digits state below small = word_has_none byte (hex_digits digits state) below (state_word digits (hex_digits digits state) state refl small).all

state_long : (digits state : ℕ) → length (hex_digits digits state) ≡ digits
state_long digits state = (digits_are_hex digits state).0

-- ---- lines

abbrev fine : {A : Type 0} → A → Result A ℕ
fine x = Ok x

pub line_then : (first rest : List ℕ) → texts.line first ++ rest ≡ first ++ 10 ∷ rest
line_then first rest = append_assoc first (10 ∷ []) rest

line_again : (line : ℕ) (first rest : List ℕ) → has_none 10 first ≡ true → line_at line (texts.line first ++ rest) ≡ Ok (first, rest)
line_again line first rest none = ap (λ t. wanted line (part 10 t)) (line_then first rest) ∙ ap (wanted line) (part_again 10 first rest none)

-- ---- values

abbrev pub IsSmall : ℕ → Type 0
IsSmall value = value ≤ 2 ^ 40

place_again : (word values : List ℕ) → has_none 32 word ≡ true → place_of 32 (word ++ values_text values) ≡ length word
unfolding place_of
place_again [] [] none = refl
place_again [] (value ∷ values) none = refl
place_again (b ∷ bs) values none =
    let c = and_parts (not (eqb b 32)) (has_none 32 bs) none in
    let differs : eqb b 32 ≡ false = grind (arith, nat_tests, c.0) in
    ap (λ t. cond t 0 (suc (place_of 32 (bs ++ values_text values)))) differs ∙ ap suc (place_again bs values c.1)

word_again : (word values : List ℕ) → has_none 32 word ≡ true → word_of (word ++ values_text values) ≡ word
word_again word values none = ap (λ k. take k (word ++ values_text values)) (place_again word values none) ∙ front_taken word (values_text values)

behind_word_again : (word values : List ℕ) → has_none 32 word ≡ true → behind_word (word ++ values_text values) ≡ values_text values
behind_word_again word values none = ap (λ k. drop k (word ++ values_text values)) (place_again word values none) ∙ front_dropped word (values_text values)

value_again : (line value : ℕ) → value ≤ 2 ^ 40 → value_in line (decimal value) ≡ Ok value
unfolding value_in
value_again line value small =
    ap (λ o. wanted line o >>= λ v. cond (leb v (2 ^ 40)) (fine v) (Err line)) (number_again value (omega (arith, small)))
    ∙ ap (λ t. cond t (fine value) (Err line)) (le-leb value (2 ^ 40) small)

values_again : (line : ℕ) (values : List ℕ) → All IsSmall values → values_in (length values) line (values_text values) ≡ Ok values
unfolding values_in behind
values_again line [] small = refl
values_again line (value ∷ values) small =
    let first : value ≤ 2 ^ 40 = All-head IsSmall value values small in
    let none : has_none 32 (decimal value) ≡ true = number_none 32 value (omega arith) (omega (arith, first)) in
    ap (λ (w : List ℕ). value_in line w >>= λ v. values_in (length values) line (behind_word (decimal value ++ values_text values)) >>= λ others. fine (v ∷ others)) (word_again (decimal value) values none)
    ∙ ap (λ r. r >>= λ v. values_in (length values) line (behind_word (decimal value ++ values_text values)) >>= λ others. fine (v ∷ others)) (value_again line value first)
    ∙ ap (λ (w : List ℕ). values_in (length values) line w >>= λ others. fine (value ∷ others)) (behind_word_again (decimal value) values none)
    ∙ ap (λ r. r >>= λ others. fine (value ∷ others)) (values_again line values (All-tail IsSmall value values small))

pub values_none : (values : List ℕ) → All IsSmall values → has_none 10 (values_text values) ≡ true
values_none [] small = refl
values_none (value ∷ values) small =
    let first : value ≤ 2 ^ 40 = All-head IsSmall value values small in
    none_both 10 (decimal value) (values_text values) (number_none 10 value (omega arith) (omega (arith, first))) (values_none values (All-tail IsSmall value values small))

-- ---- images

pub image_again : (digits line image : ℕ) (values : List ℕ) → image < 16 ^ digits → All IsSmall values → image_in digits (length values) line (image_line digits image values) ≡ Ok (image, values)
unfolding image_in
image_again digits line image values small all =
    let word : List ℕ = hex_digits digits image in
    let front : take digits (word ++ values_text values) ≡ word = ap (λ k. take k (word ++ values_text values)) (sym (state_long digits image)) ∙ front_taken word (values_text values) in
    let back : drop digits (word ++ values_text values) ≡ values_text values = ap (λ k. drop k (word ++ values_text values)) (sym (state_long digits image)) ∙ front_dropped word (values_text values) in
    ap (λ (w : List ℕ). wanted line (state_of digits w) >>= λ i. values_in (length values) line (drop digits (word ++ values_text values)) >>= λ vs. fine (i, vs)) front
    ∙ ap (λ o. wanted line o >>= λ i. values_in (length values) line (drop digits (word ++ values_text values)) >>= λ vs. fine (i, vs)) (state_again digits image small)
    ∙ ap (λ (w : List ℕ). values_in (length values) line w >>= λ vs. fine (image, vs)) back
    ∙ ap (λ r. r >>= λ vs. fine (image, vs)) (values_again line values all)

pub image_none : (digits image : ℕ) (values : List ℕ) → image < 16 ^ digits → All IsSmall values → has_none 10 (image_line digits image values) ≡ true
image_none digits image values small all = none_both 10 (hex_digits digits image) (values_text values) (state_none 10 digits image (omega arith) small) (values_none values all)

abbrev pub HasDigits : (digits : ℕ) → ℕ → Type 0
HasDigits digits image = image < 16 ^ digits

images_again : (digits sums line : ℕ) (listed values rest : List ℕ) → All (HasDigits digits) listed → length values ≡ length listed * sums → All IsSmall values
    → images_at digits sums (length listed) line (texts.lines (image_lines digits sums listed values) ++ rest) ≡ Ok (images_of listed values, rest)
unfolding images_at
images_again digits sums line [] values rest small long all = ap (λ (vs : List ℕ). fine (images_of [] vs, rest)) (sym (nil_from_length values (omega (arith, long))))
images_again digits sums line (image ∷ listed) values rest small long all =
    let some : sums ≤ length values = more (length listed) sums (length values) long in
    let count : length (take sums values) ≡ sums = length-take-le sums values some in
    let left : length (drop sums values) ≡ length listed * sums = less (length listed) sums (length values) (length (drop sums values)) long (length-drop sums values) in
    let text : List ℕ = image_line digits image (take sums values) in
    let others : List ℕ = texts.lines (image_lines digits sums listed (drop sums values)) in
    let first : line_at line ((texts.line text ++ others) ++ rest) ≡ Ok (text, others ++ rest) =
    ap (line_at line) (append_assoc (texts.line text) others rest) ∙ line_again line text (others ++ rest) (image_none digits image (take sums values) (All-head (HasDigits digits) image listed small) (All-take IsSmall sums values all)) in
    let one : image_in digits sums line text ≡ Ok (image, take sums values) =
    ap (λ k. image_in digits k line text) (sym count) ∙ image_again digits line image (take sums values) (All-head (HasDigits digits) image listed small) (All-take IsSmall sums values all) in
    ap (λ r. r >>= λ f. image_in digits sums line f.0 >>= λ i. images_at digits sums (length listed) (line + 1) f.1 >>= λ o. fine (images_of (i.0 ∷ o.0.listed) (i.1 ++ o.0.values), o.1)) first
    ∙ ap (λ r. r >>= λ i. images_at digits sums (length listed) (line + 1) (others ++ rest) >>= λ o. fine (images_of (i.0 ∷ o.0.listed) (i.1 ++ o.0.values), o.1)) one
    ∙ ap (λ r. r >>= λ o. fine (images_of (image ∷ o.0.listed) (take sums values ++ o.0.values), o.1)) (images_again digits sums (line + 1) listed (drop sums values) rest (All-tail (HasDigits digits) image listed small) left (All-drop IsSmall sums values all))
    ∙ ap (λ (vs : List ℕ). fine (images_of (image ∷ listed) vs, rest)) (take-append-drop sums values)
  where
    more : (n m long : ℕ) → long ≡ suc n * m → m ≤ long
    more n m long e = grind (arith, e)

    less : (n m long left : ℕ) → long ≡ suc n * m → left ≡ long - m → left ≡ n * m
    less n m long left e f = grind (arith, e, f)

-- ---- lists

abbrev pub listing_of : (word : List ℕ) → (sums : ℕ) → TableValue → Listing
listing_of word sums list = record { word = word; sums = sums; tracked = list.tracked; listed = list.listed; values = list.values }

-- a list that can be stated
pub record CanBeListed (digits sums : ℕ) (list : TableValue) : Type 0 where
  pub fit : FitDigits digits list.tracked list.listed
  pub table : IsTable sums list

pub list_line_again : (digits : ℕ) (word : List ℕ) (line tracked count : ℕ) → tracked < 16 ^ digits → count < 2 ^ 63 → list_in digits (word ++ 32 ∷ []) line (list_line digits word tracked count) ≡ Ok (tracked, count)
unfolding list_in
list_line_again digits word line tracked count small few =
    let said : List ℕ = hex_digits digits tracked ++ 32 ∷ decimal count in
    let same : word ++ 32 ∷ said ≡ (word ++ 32 ∷ []) ++ said = sym (append_assoc word (32 ∷ []) said) in
    ap (λ (t : List ℕ). wanted line (behind (word ++ 32 ∷ []) t) >>= λ w. wanted line (part 32 w) >>= λ p. wanted line (state_of digits p.0) >>= λ s. wanted line (number_of p.1) >>= λ n. fine (s, n)) same
    ∙ ap (λ o. wanted line o >>= λ w. wanted line (part 32 w) >>= λ p. wanted line (state_of digits p.0) >>= λ s. wanted line (number_of p.1) >>= λ n. fine (s, n)) (behind_again (word ++ 32 ∷ []) said)
    ∙ ap (λ o. wanted line o >>= λ p. wanted line (state_of digits p.0) >>= λ s. wanted line (number_of p.1) >>= λ n. fine (s, n)) (part_again 32 (hex_digits digits tracked) (decimal count) (state_none 32 digits tracked (omega arith) small))
    ∙ ap (λ o. wanted line o >>= λ s. wanted line (number_of (decimal count)) >>= λ n. fine (s, n)) (state_again digits tracked small)
    ∙ ap (λ o. wanted line o >>= λ n. fine (tracked, n)) (number_again count few)

pub list_line_none : (digits : ℕ) (word : List ℕ) (tracked count : ℕ) → has_none 10 word ≡ true → tracked < 16 ^ digits → count < 2 ^ 63 → has_none 10 (list_line digits word tracked count) ≡ true
list_line_none digits word tracked count none small few =
    none_both 10 word (32 ∷ (hex_digits digits tracked ++ 32 ∷ decimal count)) none
    (none_both 10 (hex_digits digits tracked) (32 ∷ decimal count) (state_none 10 digits tracked (omega arith) small) (number_none 10 count (omega arith) few))

abbrev made : ℕ → StatedImages → TableValue
made tracked images = record { tracked = tracked; listed = images.listed; values = images.values }

list_again : (digits : ℕ) (word : List ℕ) (sums line : ℕ) (list : TableValue) (rest : List ℕ) → has_none 10 word ≡ true → CanBeListed digits sums list
    → list_at digits (word ++ 32 ∷ []) sums line (texts.lines (listing_lines digits (listing_of word sums list)) ++ rest) ≡ Ok (list, rest)
unfolding list_at
list_again digits word sums line list rest none can =
    let head : List ℕ = list_line digits word list.tracked (length list.listed) in
    let others : List ℕ = texts.lines (image_lines digits sums list.listed list.values) in
    let fit = can.fit in
    let first : line_at line ((texts.line head ++ others) ++ rest) ≡ Ok (head, others ++ rest) =
    ap (line_at line) (append_assoc (texts.line head) others rest) ∙ line_again line head (others ++ rest) (list_line_none digits word list.tracked (length list.listed) none fit.tracked_small fit.few) in
    ap (λ r. r >>= λ f. list_in digits (word ++ 32 ∷ []) line f.0 >>= λ l. images_at digits sums l.1 (line + 1) f.1 >>= λ i. fine (made l.0 i.0, i.1)) first
    ∙ ap (λ r. r >>= λ l. images_at digits sums l.1 (line + 1) (others ++ rest) >>= λ i. fine (made l.0 i.0, i.1)) (list_line_again digits word line list.tracked (length list.listed) fit.tracked_small fit.few)
    ∙ ap (λ r. r >>= λ i. fine (made list.tracked i.0, i.1)) (images_again digits sums (line + 1) list.listed list.values rest fit.small can.table.long can.table.small)

lists_again : (digits : ℕ) (word : List ℕ) (sums line : ℕ) (lists : List TableValue) (rest : List ℕ) → has_none 10 word ≡ true → All (CanBeListed digits sums) lists
    → lists_at digits (word ++ 32 ∷ []) sums (length lists) line (texts.lines (flat_map (listing_lines digits) (map (listing_of word sums) lists)) ++ rest) ≡ Ok (lists, rest)
unfolding lists_at
lists_again digits word sums line [] rest none can = refl
lists_again digits word sums line (list ∷ lists) rest none can =
    let some : List (List ℕ) = listing_lines digits (listing_of word sums list) in
    let others : List (List ℕ) = flat_map (listing_lines digits) (map (listing_of word sums) lists) in
    let apart : texts.lines (some ++ others) ++ rest ≡ texts.lines some ++ (texts.lines others ++ rest) = ap (λ (t : List ℕ). t ++ rest) (lines-append some others) ∙ append_assoc (texts.lines some) (texts.lines others) rest in
    ap (λ (t : List ℕ). list_at digits (word ++ 32 ∷ []) sums line t >>= λ f. lists_at digits (word ++ 32 ∷ []) sums (length lists) (line + 1 + length f.0.listed) f.1 >>= λ o. fine (f.0 ∷ o.0, o.1)) apart
    ∙ ap (λ r. r >>= λ f. lists_at digits (word ++ 32 ∷ []) sums (length lists) (line + 1 + length f.0.listed) f.1 >>= λ o. fine (f.0 ∷ o.0, o.1)) (list_again digits word sums line list (texts.lines others ++ rest) none (All-head (CanBeListed digits sums) list lists can))
    ∙ ap (λ r. r >>= λ o. fine (list ∷ o.0, o.1)) (lists_again digits word sums (line + 1 + length list.listed) lists rest none (All-tail (CanBeListed digits sums) list lists can))

-- ---- all of them

pub counts_again : (line sums tables traps : ℕ) → are_few (counted sums tables traps) ≡ true → sums ≤ 64 → tables ≤ 4096 → traps ≤ 4096 → counts_in line (counts_line sums tables traps) ≡ Ok (counted sums tables traps)
unfolding counts_in
counts_again line sums tables traps few sums_few tables_few traps_few =
    let third : List ℕ = decimal tables ++ 32 ∷ decimal traps in
    ap (λ o. wanted line o >>= λ w. wanted line (part 32 w) >>= λ f. wanted line (part 32 f.1) >>= λ s. wanted line (number_of f.0) >>= λ a. wanted line (number_of s.0) >>= λ b. wanted line (number_of s.1) >>= λ c. cond (are_few (counted a b c)) (fine (counted a b c)) (Err line)) (behind_again (codes "estimate tables ") (decimal sums ++ 32 ∷ third))
    ∙ ap (λ o. wanted line o >>= λ f. wanted line (part 32 f.1) >>= λ s. wanted line (number_of f.0) >>= λ a. wanted line (number_of s.0) >>= λ b. wanted line (number_of s.1) >>= λ c. cond (are_few (counted a b c)) (fine (counted a b c)) (Err line)) (part_again 32 (decimal sums) third (number_none 32 sums (omega arith) (omega (arith, sums_few))))
    ∙ ap (λ o. wanted line o >>= λ s. wanted line (number_of (decimal sums)) >>= λ a. wanted line (number_of s.0) >>= λ b. wanted line (number_of s.1) >>= λ c. cond (are_few (counted a b c)) (fine (counted a b c)) (Err line)) (part_again 32 (decimal tables) (decimal traps) (number_none 32 tables (omega arith) (omega (arith, tables_few))))
    ∙ ap (λ o. wanted line o >>= λ a. wanted line (number_of (decimal tables)) >>= λ b. wanted line (number_of (decimal traps)) >>= λ c. cond (are_few (counted a b c)) (fine (counted a b c)) (Err line)) (number_again sums (omega (arith, sums_few)))
    ∙ ap (λ o. wanted line o >>= λ b. wanted line (number_of (decimal traps)) >>= λ c. cond (are_few (counted sums b c)) (fine (counted sums b c)) (Err line)) (number_again tables (omega (arith, tables_few)))
    ∙ ap (λ o. wanted line o >>= λ c. cond (are_few (counted sums tables c)) (fine (counted sums tables c)) (Err line)) (number_again traps (omega (arith, traps_few)))
    ∙ ap (λ t. cond t (fine (counted sums tables traps)) (Err line)) few

pub counts_none : (sums tables traps : ℕ) → sums ≤ 64 → tables ≤ 4096 → traps ≤ 4096 → has_none 10 (counts_line sums tables traps) ≡ true
counts_none sums tables traps sums_few tables_few traps_few =
    none_both 10 (codes "estimate tables ") (decimal sums ++ 32 ∷ (decimal tables ++ 32 ∷ decimal traps)) refl
    (none_both 10 (decimal sums) (32 ∷ (decimal tables ++ 32 ∷ decimal traps)) (number_none 10 sums (omega arith) (omega (arith, sums_few)))
    (none_both 10 (decimal tables) (32 ∷ decimal traps) (number_none 10 tables (omega arith) (omega (arith, tables_few))) (number_none 10 traps (omega arith) (omega (arith, traps_few)))))

few_again : (sums tables traps : ℕ) → 1 ≤ sums → sums ≤ 64 → tables ≤ 4096 → traps ≤ 4096 → are_few (counted sums tables traps) ≡ true
few_again sums tables traps some sums_few tables_few traps_few =
    and_from (leb 1 sums) (leb sums 64 && (leb tables 4096 && leb traps 4096)) (le-leb _ _ some)
    (and_from (leb sums 64) (leb tables 4096 && leb traps 4096) (le-leb _ _ sums_few) (and_from (leb tables 4096) (leb traps 4096) (le-leb _ _ tables_few) (le-leb _ _ traps_few)))

-- a trap is read as a table without values
pub trap_listings : (traps : List TrapValue) → map trap_listing traps ≡ map (listing_of (codes "trap") 0) (map of_trap traps)
trap_listings [] = refl
trap_listings (trap ∷ traps) = ap (λ (ls : List Listing). trap_listing trap ∷ ls) (trap_listings traps)

abbrev pub Fit : (digits : ℕ) → TableValue → Type 0
Fit digits table = FitDigits digits table.tracked table.listed

abbrev pub TrapFit : (digits : ℕ) → TrapValue → Type 0
TrapFit digits trap = FitDigits digits trap.tracked trap.listed

tables_can : (digits sums : ℕ) (tables : List TableValue) → All (Fit digits) tables → All (IsTable sums) tables → All (CanBeListed digits sums) tables
tables_can digits sums [] fit are = All-nil (CanBeListed digits sums)
tables_can digits sums (table ∷ tables) fit are =
    All-cons (CanBeListed digits sums) table tables (record { fit = All-head (Fit digits) table tables fit; table = All-head (IsTable sums) table tables are })
    (tables_can digits sums tables (All-tail (Fit digits) table tables fit) (All-tail (IsTable sums) table tables are))

traps_can : (digits : ℕ) (traps : List TrapValue) → All (TrapFit digits) traps → All (CanBeListed digits 0) (map of_trap traps)
traps_can digits [] fit = All-nil (CanBeListed digits 0)
traps_can digits (trap ∷ traps) fit =
    All-cons (CanBeListed digits 0) (of_trap trap) (map of_trap traps)
    (record { fit = All-head (TrapFit digits) trap traps fit; table = record { listed_few = (All-head (TrapFit digits) trap traps fit).few; long = none (length trap.listed); small = All-nil IsSmall } })
    (traps_can digits traps (All-tail (TrapFit digits) trap traps fit))
  where
    none : (n : ℕ) → 0 ≡ n * 0
    none n = grind arith

abbrev all_of : ℕ → List TableValue → List TrapValue → TablesValue
all_of sums tables traps = record { sums = sums; tables = tables; traps = traps }

abbrev made_all : ℕ → List TableValue → List TableValue → TablesValue
made_all sums tables traps = all_of sums tables (map trap_of traps)

pub tables_again : (digits line : ℕ) (tables : TablesValue) (rest : List ℕ) → CanBeStated digits tables → tables_at digits line (tables_text digits tables ++ rest) ≡ Ok (tables, rest)
unfolding tables_at
tables_again digits line tables rest can =
    let lawful = can.lawful in
    let sums = tables.sums in
    let head : List ℕ = counts_line sums (length tables.tables) (length tables.traps) in
    let counts : StatedCounts = counted sums (length tables.tables) (length tables.traps) in
    let some : List (List ℕ) = flat_map (listing_lines digits) (map (table_listing sums) tables.tables) in
    let others : List (List ℕ) = flat_map (listing_lines digits) (map trap_listing tables.traps) in
    let behind : List ℕ = texts.lines others ++ rest in
    let parts : texts.lines (flat_map (listing_lines digits) (listings tables)) ≡ texts.lines some ++ texts.lines others =
    ap texts.lines (flat_map-append (listing_lines digits) (map (table_listing sums) tables.tables) (map trap_listing tables.traps)) ∙ lines-append some others in
    let apart : tables_text digits tables ++ rest ≡ texts.line head ++ (texts.lines some ++ behind) =
    ap (λ (t : List ℕ). (texts.line head ++ t) ++ rest) parts ∙ append_assoc (texts.line head) (texts.lines some ++ texts.lines others) rest ∙ ap (λ (t : List ℕ). texts.line head ++ t) (append_assoc (texts.lines some) (texts.lines others) rest) in
    let few : are_few counts ≡ true = few_again sums (length tables.tables) (length tables.traps) lawful.some lawful.few lawful.tables_few lawful.traps_few in
    let first : line_at line (texts.line head ++ (texts.lines some ++ behind)) ≡ Ok (head, texts.lines some ++ behind) = line_again line head (texts.lines some ++ behind) (counts_none sums (length tables.tables) (length tables.traps) lawful.few lawful.tables_few lawful.traps_few) in
    let second : counts_in line head ≡ Ok counts = counts_again line sums (length tables.tables) (length tables.traps) few lawful.few lawful.tables_few lawful.traps_few in
    let third : lists_at digits (codes "table ") sums (length tables.tables) (line + 1) (texts.lines some ++ behind) ≡ Ok (tables.tables, behind) =
    lists_again digits (codes "table") sums (line + 1) tables.tables behind refl (tables_can digits sums tables.tables can.tables_fit lawful.each) in
    let next = line + 1 + lines_of_lists tables.tables in
    let same : behind ≡ texts.lines (flat_map (listing_lines digits) (map (listing_of (codes "trap") 0) (map of_trap tables.traps))) ++ rest = ap (λ (ls : List Listing). texts.lines (flat_map (listing_lines digits) ls) ++ rest) (trap_listings tables.traps) in
    let many : length tables.traps ≡ length (map of_trap tables.traps) = sym (length-map tables.traps of_trap) in
    let fourth : lists_at digits (codes "trap ") 0 (length tables.traps) next behind ≡ Ok (map of_trap tables.traps, rest) =
    ap (λ k. lists_at digits (codes "trap ") 0 k next behind) many ∙ ap (λ (t : List ℕ). lists_at digits (codes "trap ") 0 (length (map of_trap tables.traps)) next t) same
    ∙ lists_again digits (codes "trap") 0 next (map of_trap tables.traps) rest refl (traps_can digits tables.traps can.traps_fit) in
    ap (tables_at digits line) apart
    ∙ ap (λ r. r >>= λ f. counts_in line f.0 >>= λ c. lists_at digits (codes "table ") c.sums c.tables (line + 1) f.1 >>= λ t. lists_at digits (codes "trap ") 0 c.traps (line + 1 + lines_of_lists t.0) t.1 >>= λ p. fine (made_all c.sums t.0 p.0, p.1)) first
    ∙ ap (λ r. r >>= λ c. lists_at digits (codes "table ") c.sums c.tables (line + 1) (texts.lines some ++ behind) >>= λ t. lists_at digits (codes "trap ") 0 c.traps (line + 1 + lines_of_lists t.0) t.1 >>= λ p. fine (made_all c.sums t.0 p.0, p.1)) second
    ∙ ap (λ r. r >>= λ t. lists_at digits (codes "trap ") 0 (length tables.traps) (line + 1 + lines_of_lists t.0) t.1 >>= λ p. fine (made_all sums t.0 p.0, p.1)) third
    ∙ ap (λ r. r >>= λ p. fine (made_all sums tables.tables p.0, p.1)) fourth
    ∙ ap (λ (ts : List TrapValue). fine (all_of sums tables.tables ts, rest)) (traps_again tables.traps)

pub reading_again : (digits : ℕ) (bytes : List ℕ) (tables : TablesValue) → bytes ≡ tables_text digits tables → CanBeStated digits tables → tables_reading digits bytes ≡ Ok tables
unfolding tables_reading
reading_again digits bytes tables is can =
    ap (λ (t : List ℕ). tables_at digits 1 t >>= λ r. cond (eqb (length r.1) 0) (fine r.0) (Err (1 + length (tables_lines digits r.0)))) (is ∙ sym (append-nil (tables_text digits tables)))
    ∙ ap (λ q. q >>= λ r. cond (eqb (length r.1) 0) (fine r.0) (Err (1 + length (tables_lines digits r.0)))) (tables_again digits 1 tables [] can)
