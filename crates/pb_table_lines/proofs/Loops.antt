-- Reading images and lists one after another, as loops do.
use Rattle.std.proofs.Common.{◌≡◌, ℕ, suc, ◌-◌, ◌+◌, ◌*◌, ◌≤◌, ◌<◌, List, [], ◌∷◌, ◌++◌, length, Result, Ok, Err, refl, sym, ap, ◌∙◌, append_assoc, length-append, arith}
use Rattle.std.proofs.lemmas.List.{append-nil}
use Rattle.pb_table_lines.specs.declared.fault.LinesError.{LinesError}
use Rattle.pb_table_lines.specs.declared.fault.LinesError.TheVariants as errors
use Rattle.pb_tables.specs.Tables.{TableValue}
use Rattle.pb_lines.specs.Words.{behind}
use Rattle.pb_table_lines.specs.Words.{word_of, behind_word}
use Rattle.pb_table_lines.specs.Faults.{Fails, Adds}
use Rattle.pb_table_lines.specs.Reading.{◌>>=◌, wanted, line_at, value_in, values_in, image_in, StatedImages, images_at, list_at, lists_at, lines_of_lists}

abbrev pub images_of : (listed values : List ℕ) → StatedImages
images_of listed values = record { listed = listed; values = values }

abbrev pub both_images : StatedImages → StatedImages → StatedImages
both_images first others = images_of (first.listed ++ others.listed) (first.values ++ others.values)

-- ---- values

-- a value, and the others behind it
pub values_more : {X : Type 0} (result : Result X LinesError) (old pushed new : List ℕ) (count line : ℕ) (text said word others : List ℕ) (value : ℕ) → (count ≡ 0 → ⊥)
    → wanted line (behind (32 ∷ []) text) ≡ Ok said → word ≡ word_of said → others ≡ behind_word said → value_in line word ≡ Ok value → pushed ≡ old ++ value ∷ []
    → Adds result pushed new (values_in (count - 1) line others) → Adds result old new (values_in count line text)
unfolding values_in
values_more (Ok x) old pushed new count line text said word others value some is word_is others_is value_is pushed_is adds =
    let k : count ≡ suc (count - 1) = omega (arith, some) in
    let value_of : value_in line (word_of said) ≡ Ok value = ap (value_in line) (sym word_is) ∙ value_is in
    let more : values_in (count - 1) line (behind_word said) ≡ Ok adds.0 = ap (values_in (count - 1) line) (sym others_is) ∙ adds.1 in
    let all : values_in count line text ≡ Ok (value ∷ adds.0) = rw (k, is, value_of, more) refl in
    (value ∷ adds.0, all, adds.2 ∙ ap (λ (ns : List ℕ). ns ++ adds.0) pushed_is ∙ append_assoc old (value ∷ []) adds.0)
values_more (Err errors.Memory) old pushed new count line text said word others value some is word_is others_is value_is pushed_is adds = tt
values_more (Err (errors.Unspelled l)) old pushed new count line text said word others value some is word_is others_is value_is pushed_is adds =
    let k : count ≡ suc (count - 1) = omega (arith, some) in
    let value_of : value_in line (word_of said) ≡ Ok value = ap (value_in line) (sym word_is) ∙ value_is in
    let more : values_in (count - 1) line (behind_word said) ≡ Err l = ap (values_in (count - 1) line) (sym others_is) ∙ adds in
    rw (k, is, value_of, more) refl

-- ---- images

-- what was read before, and what is still read
abbrev pub with_images : StatedImages → Result (StatedImages × List ℕ) ℕ → Result (StatedImages × List ℕ) ℕ
with_images front read = read >>= λ x. Ok (both_images front x.0, x.1)

regroup : (front : StatedImages) (image : ℕ) (values : List ℕ) (read : Result (StatedImages × List ℕ) ℕ)
    → with_images front (read >>= λ x. Ok (images_of (image ∷ x.0.listed) (values ++ x.0.values), x.1)) ≡ with_images (images_of (front.listed ++ image ∷ []) (front.values ++ values)) read
regroup front image values (Ok x) =
    let listed : front.listed ++ image ∷ x.0.listed ≡ (front.listed ++ image ∷ []) ++ x.0.listed = simp append_assoc in
    let of_values : front.values ++ (values ++ x.0.values) ≡ (front.values ++ values) ++ x.0.values = sym (append_assoc front.values values x.0.values) in
    ap (λ (ns : List ℕ). Ok (images_of ns (front.values ++ (values ++ x.0.values)), x.1)) listed ∙ ap (λ (ns : List ℕ). Ok (images_of ((front.listed ++ image ∷ []) ++ x.0.listed) ns, x.1)) of_values
regroup front image values (Err line) = refl

module _ (digits sums count i line : ℕ) (text : List ℕ) (front : StatedImages) (total : Result (StatedImages × List ℕ) ℕ) where
  pub image_read : (first after : List ℕ) (image : ℕ) (values : List ℕ) → i < count → line_at (line + i) text ≡ Ok (first, after) → image_in digits sums (line + i) first ≡ Ok (image, values)
      → with_images front (images_at digits sums (count - i) (line + i) text) ≡ total
      → with_images (images_of (front.listed ++ image ∷ []) (front.values ++ values)) (images_at digits sums (count - (i + 1)) (line + (i + 1)) after) ≡ total
  unfolding images_at
  image_read first after image values lt is said so_far =
      let k : count - i ≡ suc (count - (i + 1)) = omega arith in
      let l : line + (i + 1) ≡ line + i + 1 = omega arith in
      let one : with_images front (images_at digits sums (count - i) (line + i) text) ≡ with_images (images_of (front.listed ++ image ∷ []) (front.values ++ values)) (images_at digits sums (count - (i + 1)) (line + i + 1) after) =
      rw (k, is, said) (regroup front image values (images_at digits sums (count - (i + 1)) (line + i + 1) after)) in
      rw l (sym one ∙ so_far)

  pub line_fails : (e : LinesError) → i < count → Fails e (line_at (line + i) text) → with_images front (images_at digits sums (count - i) (line + i) text) ≡ total → Fails e total
  unfolding images_at
  line_fails errors.Memory lt is so_far = tt
  line_fails (errors.Unspelled l) lt is so_far =
      let k : count - i ≡ suc (count - (i + 1)) = omega arith in
      let one : with_images front (images_at digits sums (count - i) (line + i) text) ≡ Err l = rw (k, is) refl in
      sym so_far ∙ one

  pub image_fails : (e : LinesError) (first after : List ℕ) → i < count → line_at (line + i) text ≡ Ok (first, after) → Fails e (image_in digits sums (line + i) first) → with_images front (images_at digits sums (count - i) (line + i) text) ≡ total → Fails e total
  unfolding images_at
  image_fails errors.Memory first after lt is said so_far = tt
  image_fails (errors.Unspelled l) first after lt is said so_far =
      let k : count - i ≡ suc (count - (i + 1)) = omega arith in
      let one : with_images front (images_at digits sums (count - i) (line + i) text) ≡ Err l = rw (k, is, said) refl in
      sym so_far ∙ one

  pub images_done : count ≤ i → with_images front (images_at digits sums (count - i) (line + i) text) ≡ total → total ≡ Ok (front, text)
  unfolding images_at
  images_done le so_far =
      let k : count - i ≡ 0 = omega arith in
      let one : with_images front (images_at digits sums (count - i) (line + i) text) ≡ Ok (front, text) =
      rw k (ap (λ (ns : List ℕ). Ok (images_of ns (front.values ++ []), text)) (append-nil front.listed) ∙ ap (λ (ns : List ℕ). Ok (images_of front.listed ns, text)) (append-nil front.values)) in
      sym so_far ∙ one

-- a loop begins with all
pub images_first : (digits sums count line : ℕ) (text : List ℕ) → with_images (images_of [] []) (images_at digits sums (count - 0) (line + 0) text) ≡ images_at digits sums count line text
images_first digits sums count line text =
    let k : count - 0 ≡ count = omega arith in
    let l : line + 0 ≡ line = omega arith in
    ap (λ n. with_images (images_of [] []) (images_at digits sums n (line + 0) text)) k ∙ ap (λ n. with_images (images_of [] []) (images_at digits sums count n text)) l ∙ none (images_at digits sums count line text)
  where
    none : (read : Result (StatedImages × List ℕ) ℕ) → with_images (images_of [] []) read ≡ read
    none (Ok x) = refl
    none (Err line) = refl

-- the images are these
pub images_again : (digits sums count i line : ℕ) (text : List ℕ) (front : StatedImages) (total : Result (StatedImages × List ℕ) ℕ) (listed values : List ℕ) → listed ≡ front.listed → values ≡ front.values
    → with_images front (images_at digits sums (count - i) (line + i) text) ≡ total → with_images (images_of listed values) (images_at digits sums (count - i) (line + i) text) ≡ total
images_again digits sums count i line text front total listed values e f so_far =
    ap (λ (ns : List ℕ). with_images (images_of ns values) (images_at digits sums (count - i) (line + i) text)) e
    ∙ ap (λ (ns : List ℕ). with_images (images_of front.listed ns) (images_at digits sums (count - i) (line + i) text)) f ∙ so_far

-- one image more has values for each sum
pub more_values : (sums : ℕ) (listed listed' : List ℕ) (image : ℕ) (values values' : List ℕ) → listed' ≡ listed ++ image ∷ [] → length values' ≡ length values + sums → length values ≡ length listed * sums → length values' ≡ length listed' * sums
more_values sums listed listed' image values values' e more all =
    let one : length listed' ≡ length listed + 1 = ap length e ∙ length-append listed (image ∷ []) in
    let times : (length listed + 1) * sums ≡ length listed * sums + sums = one_more (length listed) sums in
    more ∙ ap (λ k. k + sums) all ∙ sym times ∙ ap (λ k. k * sums) (sym one)
  where
    one_more : (n m : ℕ) → (n + 1) * m ≡ n * m + m
    one_more n m = grind arith

-- ---- lists

-- what was read before, and what is still read
abbrev pub with_lists : List TableValue → Result (List TableValue × List ℕ) ℕ → Result (List TableValue × List ℕ) ℕ
with_lists front read = read >>= λ x. Ok (front ++ x.0, x.1)

regroup_lists : (front : List TableValue) (list : TableValue) (read : Result (List TableValue × List ℕ) ℕ)
    → with_lists front (read >>= λ x. Ok (list ∷ x.0, x.1)) ≡ with_lists (front ++ list ∷ []) read
regroup_lists front list (Ok x) = ap (λ (ns : List TableValue). Ok (ns, x.1)) (simp append_assoc)
regroup_lists front list (Err line) = refl

module _ (digits : ℕ) (word : List ℕ) (sums count i line : ℕ) (text : List ℕ) (front : List TableValue) (total : Result (List TableValue × List ℕ) ℕ) where
  pub list_read : (list : TableValue) (after : List ℕ) → i < count → list_at digits word sums line text ≡ Ok (list, after)
      → with_lists front (lists_at digits word sums (count - i) line text) ≡ total
      → with_lists (front ++ list ∷ []) (lists_at digits word sums (count - (i + 1)) (line + 1 + length list.listed) after) ≡ total
  unfolding lists_at
  list_read list after lt is so_far =
      let k : count - i ≡ suc (count - (i + 1)) = omega arith in
      let one : with_lists front (lists_at digits word sums (count - i) line text) ≡ with_lists (front ++ list ∷ []) (lists_at digits word sums (count - (i + 1)) (line + 1 + length list.listed) after) =
      rw (k, is) (regroup_lists front list (lists_at digits word sums (count - (i + 1)) (line + 1 + length list.listed) after)) in
      sym one ∙ so_far

  pub list_fails : (e : LinesError) → i < count → Fails e (list_at digits word sums line text) → with_lists front (lists_at digits word sums (count - i) line text) ≡ total → Fails e total
  unfolding lists_at
  list_fails errors.Memory lt is so_far = tt
  list_fails (errors.Unspelled l) lt is so_far =
      let k : count - i ≡ suc (count - (i + 1)) = omega arith in
      let one : with_lists front (lists_at digits word sums (count - i) line text) ≡ Err l = rw (k, is) refl in
      sym so_far ∙ one

  pub lists_done : count ≤ i → with_lists front (lists_at digits word sums (count - i) line text) ≡ total → total ≡ Ok (front, text)
  unfolding lists_at
  lists_done le so_far =
      let k : count - i ≡ 0 = omega arith in
      let one : with_lists front (lists_at digits word sums (count - i) line text) ≡ Ok (front, text) = rw k (ap (λ (ns : List TableValue). Ok (ns, text)) (append-nil front)) in
      sym so_far ∙ one

pub lists_first : (digits : ℕ) (word : List ℕ) (sums count line : ℕ) (text : List ℕ) → with_lists [] (lists_at digits word sums (count - 0) line text) ≡ lists_at digits word sums count line text
lists_first digits word sums count line text =
    let k : count - 0 ≡ count = omega arith in
    ap (λ n. with_lists [] (lists_at digits word sums n line text)) k ∙ none (lists_at digits word sums count line text)
  where
    none : (read : Result (List TableValue × List ℕ) ℕ) → with_lists [] read ≡ read
    none (Ok x) = refl
    none (Err line) = refl

pub lines_more : (lists : List TableValue) (list : TableValue) → lines_of_lists (lists ++ list ∷ []) ≡ lines_of_lists lists + (1 + length list.listed)
lines_more [] list = omega arith
lines_more (first ∷ lists) list = let more = lines_more lists list in omega (arith, more)

-- a list more is read by a loop whose line goes on behind it
pub next_list : (digits : ℕ) (word : List ℕ) (sums left line line' : ℕ) (after : List ℕ) (front lists : List TableValue) (list : TableValue) (total : Result (List TableValue × List ℕ) ℕ) → line' ≡ line + 1 + length list.listed → lists ≡ front ++ list ∷ []
    → with_lists (front ++ list ∷ []) (lists_at digits word sums left (line + 1 + length list.listed) after) ≡ total → with_lists lists (lists_at digits word sums left line' after) ≡ total
next_list digits word sums left line line' after front lists list total e f so_far =
    ap (λ (ns : List TableValue). with_lists ns (lists_at digits word sums left line' after)) f ∙ ap (λ k. with_lists (front ++ list ∷ []) (lists_at digits word sums left k after)) e ∙ so_far
