-- Tables are read line by line, up to the first line with which nothing goes on.
use Rattle.std.proofs.Common.{◌≡◌, ℕ, zero, suc, ◌+◌, ◌^◌, ◌<◌, Bool, true, false, cond, eqb, leb, List, [], ◌∷◌, ◌++◌, All, length, map, take, drop, codes, Result, Ok, Err, refl, ap, subst, arith, lit<}
use Rattle.std.proofs.Math.Nat.{one-le-pow}
use Rattle.std.proofs.Math.ListN.{replicate}
use Rattle.std.proofs.lemmas.List.{length-replicate}
use Rattle.std.proofs.lemmas.List.Elements.{All-replicate}
use Rattle.pb_lines.specs.Words.{part, behind, number_of, has_none}
use Rattle.pb_tables.specs.Tables.{TableValue, TablesValue}
use Rattle.pb_table_lines.specs.Words.{state_of, word_of, behind_word}
use Rattle.pb_table_lines.specs.Lines.{image_line, list_line, counts_line, tables_lines}
use Rattle.pb_table_lines.specs.Reading.{◌>>=◌, wanted, line_at, StatedCounts, counted, are_few, counts_in, list_in, value_in, values_in, image_in, StatedImages, images_at, list_at, lists_at, lines_of_lists, of_trap, trap_of, tables_at}
use Rattle.pb_table_lines.proofs.Loops.{images_of}
use Rattle.pb_table_lines.proofs.Counted.{lines_counted}
use Rattle.pb_table_lines.proofs.Readable.{IsSmall, image_again, image_none, list_line_again, list_line_none, counts_again, counts_none}
use Rattle.pb_table_lines.proofs.Readers.{named, IsReader, IsAt, given, at_ok, at_wanted, at_next, same_reader, line_reader, then_reader, named_reader}

-- ---- what a line says is refused in that line

at_test : {A : Type 0} (line : ℕ) (b : Bool) (x : A) → IsAt line (cond b (Ok x) (Err line))
at_test line true x refused e = absurd cc
at_test {A} line false x refused e = same line refused e
  where
    same : (d f : ℕ) → ◌≡◌ {A = Result A ℕ} (Err d) (Err f) → f ≡ d
    same d f e = cc

at_counts : (line : ℕ) (text : List ℕ) → IsAt line (counts_in line text)
unfolding counts_in
at_counts line text =
    at_next line (wanted line (behind (codes "estimate tables ") text)) _ (at_wanted line (behind (codes "estimate tables ") text)) (λ words.
    at_next line (wanted line (part 32 words)) _ (at_wanted line (part 32 words)) (λ first.
    at_next line (wanted line (part 32 first.1)) _ (at_wanted line (part 32 first.1)) (λ second.
    at_next line (wanted line (number_of first.0)) _ (at_wanted line (number_of first.0)) (λ sums.
    at_next line (wanted line (number_of second.0)) _ (at_wanted line (number_of second.0)) (λ tables.
    at_next line (wanted line (number_of second.1)) _ (at_wanted line (number_of second.1)) (λ traps.
    at_test line (are_few (counted sums tables traps)) (counted sums tables traps)))))))

at_list : (digits : ℕ) (word : List ℕ) (line : ℕ) (text : List ℕ) → IsAt line (list_in digits word line text)
unfolding list_in
at_list digits word line text =
    at_next line (wanted line (behind word text)) _ (at_wanted line (behind word text)) (λ words.
    at_next line (wanted line (part 32 words)) _ (at_wanted line (part 32 words)) (λ parts.
    at_next line (wanted line (state_of digits parts.0)) _ (at_wanted line (state_of digits parts.0)) (λ tracked.
    at_next line (wanted line (number_of parts.1)) _ (at_wanted line (number_of parts.1)) (λ count.
    at_ok line (tracked, count)))))

at_value : (line : ℕ) (word : List ℕ) → IsAt line (value_in line word)
unfolding value_in
at_value line word =
    at_next line (wanted line (number_of word)) _ (at_wanted line (number_of word)) (λ value.
    at_test line (leb value (2 ^ 40)) value)

at_values : (count line : ℕ) (text : List ℕ) → IsAt line (values_in count line text)
unfolding values_in
at_values zero line text = at_test line (eqb (length text) 0) []
at_values (suc count) line text =
    at_next line (wanted line (behind (32 ∷ []) text)) _ (at_wanted line (behind (32 ∷ []) text)) (λ words.
    at_next line (value_in line (word_of words)) _ (at_value line (word_of words)) (λ value.
    at_next line (values_in count line (behind_word words)) _ (at_values count line (behind_word words)) (λ others.
    at_ok line (value ∷ others))))

at_image : (digits sums line : ℕ) (text : List ℕ) → IsAt line (image_in digits sums line text)
unfolding image_in
at_image digits sums line text =
    at_next line (wanted line (state_of digits (take digits text))) _ (at_wanted line (state_of digits (take digits text))) (λ image.
    at_next line (values_in sums line (drop digits text)) _ (at_values sums line (drop digits text)) (λ values.
    at_ok line (image, values)))

-- ---- images

some_state : (digits : ℕ) → 0 < 16 ^ digits
some_state digits = let some = one-le-pow digits 16 (lit< tt) in omega (arith, some)

abbrev paired : (rest : List ℕ) → ℕ × List ℕ → Result ((ℕ × List ℕ) × List ℕ) ℕ
paired rest image = Ok (image, rest)

abbrev image_said : (digits sums line : ℕ) → List ℕ × List ℕ → Result ((ℕ × List ℕ) × List ℕ) ℕ
image_said digits sums line first = image_in digits sums line first.0 >>= paired first.1

abbrev image_at : (digits sums line : ℕ) → List ℕ → Result ((ℕ × List ℕ) × List ℕ) ℕ
image_at digits sums line text = line_at line text >>= image_said digits sums line

image_reader : (digits sums line : ℕ) → IsReader (λ image. 1) line (image_at digits sums line)
image_reader digits sums line =
    let values : List ℕ = replicate sums 0 in
    let many : length values ≡ sums = length-replicate sums 0 in
    let small : All IsSmall values = All-replicate IsSmall sums 0 (omega arith) in
    line_reader (λ image. 1) (λ image. 0) line (image_in digits sums line) (λ image text. Ok (image, text)) (λ image. refl) (at_image digits sums line)
    (image_line digits 0 values) (0, values) (image_none digits 0 values (some_state digits) small)
    (subst (λ k. image_in digits k line (image_line digits 0 values) ≡ Ok (0, values)) many (image_again digits line 0 values (some_state digits) small))
    (λ image. given (λ i. 0) (line + 1) image refl)

abbrev with_image : ℕ × List ℕ → StatedImages → StatedImages
with_image image others = images_of (image.0 ∷ others.listed) (image.1 ++ others.values)

images_reader : (digits sums count line : ℕ) → IsReader (λ images. length images.listed) line (images_at digits sums count line)
unfolding images_at
images_reader digits sums zero line = given (λ images. length images.listed) line (images_of [] []) refl
images_reader digits sums (suc count) line =
    same_reader (λ images. length images.listed) line (images_at digits sums (suc count) line) (λ text. image_at digits sums line text >>= λ x. images_at digits sums count (line + 1) x.1 >>= named (with_image x.0))
    (λ text. same (line_at line text))
    (then_reader (λ image. 1) (λ images. length images.listed) (λ images. length images.listed) with_image (λ image others. omega arith) line
    (image_at digits sums line) (λ image text. images_at digits sums count (line + 1) text)
    (image_reader digits sums line) (λ image. images_reader digits sums count (line + 1)))
  where
    more : (ℕ × List ℕ) × List ℕ → Result (StatedImages × List ℕ) ℕ
    more x = images_at digits sums count (line + 1) x.1 >>= named (with_image x.0)

    said : List ℕ × List ℕ → Result (StatedImages × List ℕ) ℕ
    said first = image_in digits sums line first.0 >>= λ image. more (image, first.1)

    after : (rest : List ℕ) (r : Result (ℕ × List ℕ) ℕ) → (r >>= λ image. more (image, rest)) ≡ ((r >>= paired rest) >>= more)
    after rest (Ok image) = refl
    after rest (Err refused) = refl

    same : (r : Result (List ℕ × List ℕ) ℕ) → (r >>= said) ≡ ((r >>= image_said digits sums line) >>= more)
    same (Ok first) = after first.1 (image_in digits sums line first.0)
    same (Err refused) = refl

-- ---- lists

abbrev made : ℕ × ℕ → StatedImages → TableValue
made head images = record { tracked = head.0; listed = images.listed; values = images.values }

list_reader : (digits : ℕ) (word : List ℕ) (sums line : ℕ) → has_none 10 word ≡ true → IsReader (λ list. 1 + length list.listed) line (list_at digits (word ++ 32 ∷ []) sums line)
unfolding list_at
list_reader digits word sums line none =
    line_reader (λ list. 1 + length list.listed) (λ list. length list.listed) line (list_in digits (word ++ 32 ∷ []) line)
    (λ head text. images_at digits sums head.1 (line + 1) text >>= named (made head)) (λ list. refl) (at_list digits (word ++ 32 ∷ []) line)
    (list_line digits word 0 0) (0, 0) (list_line_none digits word 0 0 none (some_state digits) (omega arith)) (list_line_again digits word line 0 0 (some_state digits) (omega arith))
    (λ head. named_reader (λ images. length images.listed) (λ list. length list.listed) (made head) (λ images. refl) (line + 1)
    (images_at digits sums head.1 (line + 1)) (images_reader digits sums head.1 (line + 1)))

lists_reader : (digits : ℕ) (word : List ℕ) (sums count line : ℕ) → has_none 10 word ≡ true → IsReader lines_of_lists line (lists_at digits (word ++ 32 ∷ []) sums count line)
unfolding lists_at
lists_reader digits word sums zero line none = given lines_of_lists line [] refl
lists_reader digits word sums (suc count) line none =
    then_reader (λ list. 1 + length list.listed) lines_of_lists lines_of_lists (λ list lists. list ∷ lists) (λ list lists. refl) line
    (list_at digits (word ++ 32 ∷ []) sums line) (λ list text. lists_at digits (word ++ 32 ∷ []) sums count (line + 1 + length list.listed) text)
    (list_reader digits word sums line none)
    (λ list. subst (λ k. IsReader lines_of_lists k (lists_at digits (word ++ 32 ∷ []) sums count (line + 1 + length list.listed)))
    (behind_list line (length list.listed)) (lists_reader digits word sums count (line + 1 + length list.listed) none))
  where
    behind_list : (line n : ℕ) → line + 1 + n ≡ line + (1 + n)
    behind_list line n = omega arith

-- ---- all of them

abbrev both_of : (sums : ℕ) → (tables traps : List TableValue) → TablesValue
both_of sums tables traps = record { sums = sums; tables = tables; traps = map trap_of traps }

traps_counted : (lists : List TableValue) → lines_of_lists (map of_trap (map trap_of lists)) ≡ lines_of_lists lists
traps_counted [] = refl
traps_counted (list ∷ lists) = ap (λ k. 1 + length list.listed + k) (traps_counted lists)

-- how many lines come behind the first
abbrev later_lines : TablesValue → ℕ
later_lines tables = lines_of_lists tables.tables + lines_of_lists (map of_trap tables.traps)

both_reader : (digits line : ℕ) (counts : StatedCounts) → IsReader later_lines (line + 1) (λ text.
    lists_at digits (codes "table ") counts.sums counts.tables (line + 1) text
    >>= λ tables. lists_at digits (codes "trap ") 0 counts.traps (line + 1 + lines_of_lists tables.0) tables.1
    >>= named (both_of counts.sums tables.0))
both_reader digits line counts =
    then_reader lines_of_lists lines_of_lists later_lines (both_of counts.sums)
    (λ tables traps. ap (λ k. lines_of_lists tables + k) (traps_counted traps)) (line + 1)
    (lists_at digits (codes "table ") counts.sums counts.tables (line + 1))
    (λ tables text. lists_at digits (codes "trap ") 0 counts.traps (line + 1 + lines_of_lists tables) text)
    (lists_reader digits (codes "table") counts.sums counts.tables (line + 1) refl)
    (λ tables. lists_reader digits (codes "trap") 0 counts.traps (line + 1 + lines_of_lists tables) refl)

pub tables_reader : (digits line : ℕ) → IsReader (λ tables. length (tables_lines digits tables)) line (tables_at digits line)
unfolding tables_at
tables_reader digits line =
    line_reader (λ tables. length (tables_lines digits tables)) later_lines line (counts_in line)
    (λ counts text. lists_at digits (codes "table ") counts.sums counts.tables (line + 1) text
    >>= λ tables. lists_at digits (codes "trap ") 0 counts.traps (line + 1 + lines_of_lists tables.0) tables.1
    >>= named (both_of counts.sums tables.0)) (lines_counted digits) (at_counts line)
    (counts_line 1 0 0) (counted 1 0 0) (counts_none 1 0 0 (omega arith) (omega arith) (omega arith)) (counts_again line 1 0 0 refl (omega arith) (omega arith) (omega arith))
    (both_reader digits line)
