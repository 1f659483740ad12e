-- What is read is written so.
use Rattle.std.proofs.Common.{◌≡◌, ℕ, zero, suc, ◌+◌, ◌*◌, ◌^◌, ◌<◌, ◌≤◌, Bool, true, false, cond, eqb, ltb, leb, ◌&&◌, Option, None, Some, List, [], ◌∷◌, ◌++◌, All, length, map, take, drop, codes, Result, Ok, Err, refl, sym, ap, ◌∙◌, subst, arith, append_assoc, length-append}
use Rattle.std.specs.Fmt.{decimal}
use Rattle.std.specs.List.{list_all, flat_map}
use Rattle.std.proofs.lemmas.Option.{same_Some}
use Rattle.std.proofs.lemmas.List.{take-append-drop, length-map, nil_from_length, append-nil}
use Rattle.std.proofs.lemmas.List.Concat.{flat_map-append}
use Rattle.std.proofs.lemmas.List.Elements.{All-nil, All-cons, All-head, All-tail, All-append}
use Rattle.std.proofs.lemmas.Bool.{eqb-true, leb-true, and_from, and_parts}
use Rattle.pb_packed.specs.Digits.{hex_digits}
use Rattle.pb_model.specs.Texts as texts
use Rattle.pb_print.proofs.Callers.{lines-append}
use Rattle.pb_lines.specs.Words.{part, behind, number_of}
use Rattle.pb_lines.proofs.Callers.{IsNumberWord, number_word_of, number_word_is, if_some, part_is, behind_is}
use Rattle.pb_tables.specs.Tables.{TrapValue, TableValue, TablesValue, IsTable}
use Rattle.pb_table_lines.specs.Words.{hex_value, hex_after, state_of, word_of, behind_word}
use Rattle.pb_table_lines.specs.Lines.{table_listing, trap_listing, listings, values_text, image_line, image_lines, list_line, listing_lines, counts_line, tables_lines, tables_text}
use Rattle.pb_table_lines.specs.Reading.{◌>>=◌, wanted, line_at, StatedCounts, counted, are_few, counts_in, list_in, value_in, values_in, image_in, StatedImages, images_at, list_at, lists_at, lines_of_lists, of_trap, trap_of, tables_at, tables_reading}
use Rattle.pb_table_lines.specs.Spelling.{CanBeStated}
use Rattle.pb_table_lines.specs.Laws.{TablesAreReadAsWritten}
use Rattle.pb_table_lines.proofs.Spelled.{hex_value_after}
use Rattle.pb_table_lines.proofs.States.{state_word_is}
use Rattle.pb_table_lines.proofs.Loops.{images_of}
use Rattle.pb_table_lines.proofs.Readable.{front_taken, front_dropped, line_then, IsSmall, HasDigits, listing_of, CanBeListed, Fit, TrapFit, trap_listings, tables_again, reading_again}

pub bind_ok : {A B : Type 0} (r : Result A ℕ) (f : A → Result B ℕ) (y : B) → (r >>= f) ≡ Ok y → (x : A) × (r ≡ Ok x) × (f x ≡ Ok y)
bind_ok (Ok x) f y e = (x, refl, e)
bind_ok (Err d) f y e = absurd cc

pub wanted_ok : {A : Type 0} (line : ℕ) (o : Option A) (x : A) → wanted line o ≡ Ok x → o ≡ Some x
wanted_ok line None x e = absurd cc
wanted_ok {A} line (Some y) x e = ap (λ (z : A). Some z) (go y x e)
  where
    go : (y x : A) → ◌≡◌ {A = Result A ℕ} (Ok y) (Ok x) → y ≡ x
    go y x e = cc

ok_is : {A : Type 0} (x y : A) → ◌≡◌ {A = Result A ℕ} (Ok x) (Ok y) → x ≡ y
ok_is x y e = cc

guard_ok : {A : Type 0} (b : Bool) (d : ℕ) (x y : A) → cond b (Ok x) (Err d) ≡ Ok y → (b ≡ true) × (x ≡ y)
guard_ok true d x y e = (refl, ok_is x y e)
guard_ok false d x y e = absurd cc

-- ---- words

hex_after_is : (n : ℕ) (word : List ℕ) (m : ℕ) → hex_after n word ≡ Some m → (list_all (λ b. ltb (hex_value b) 16) word ≡ true) × (m ≡ hex_value_after n word)
unfolding hex_after
hex_after_is n [] m e = (refl, sym (same_Some n m e))
hex_after_is n (b ∷ bs) m e =
    let h = if_some (ltb (hex_value b) 16) (hex_after (n * 16 + hex_value b) bs) m e in
    let r = hex_after_is (n * 16 + hex_value b) bs m h.1 in
    (and_from (ltb (hex_value b) 16) (list_all (λ b. ltb (hex_value b) 16) bs) h.0 r.0, r.1)

state_is : (digits : ℕ) (word : List ℕ) (state : ℕ) → state_of digits word ≡ Some state → (word ≡ hex_digits digits state) × (state < 16 ^ digits)
state_is digits word state e =
    let a = if_some (eqb (length word) digits) (hex_after 0 word) state e in
    let r = hex_after_is 0 word state a.1 in
    state_word_is digits word state (record { count = eqb-true _ _ a.0; all = r.0; value = r.1 })

number_is : (line : ℕ) (word : List ℕ) (n : ℕ) → wanted line (number_of word) ≡ Ok n → (word ≡ decimal n) × (n < 2 ^ 63)
number_is line word n e = let w : IsNumberWord word n = number_word_of word n (wanted_ok line (number_of word) n e) in (number_word_is word n w, w.small)

line_is : (line : ℕ) (text : List ℕ) (x : List ℕ × List ℕ) → line_at line text ≡ Ok x → text ≡ texts.line x.0 ++ x.1
line_is line text x e = part_is 10 text x.0 x.1 (wanted_ok line (part 10 text) x e) ∙ sym (line_then x.0 x.1)

cut_is : (text : List ℕ) → text ≡ word_of text ++ behind_word text
cut_is text = sym (take-append-drop _ text)

-- ---- values

value_is : (line : ℕ) (word : List ℕ) (value : ℕ) → value_in line word ≡ Ok value → (word ≡ decimal value) × IsSmall value
unfolding value_in
value_is line word value e =
    let a = bind_ok (wanted line (number_of word)) _ value e in
    let g = guard_ok (leb a.0 (2 ^ 40)) line a.0 value a.2 in
    subst (λ k. (word ≡ decimal k) × IsSmall k) g.1 ((number_is line word a.0 a.1).0, leb-true _ _ g.0)

values_are : (count line : ℕ) (text values : List ℕ) → values_in count line text ≡ Ok values → (text ≡ values_text values) × (length values ≡ count) × All IsSmall values
unfolding values_in
values_are zero line text values e =
    let g = guard_ok (eqb (length text) 0) line [] values e in
    subst (λ (vs : List ℕ). (text ≡ values_text vs) × (length vs ≡ 0) × All IsSmall vs) g.1 (nil_from_length text (eqb-true _ _ g.0), refl, All-nil IsSmall)
values_are (suc count) line text values e =
    let a = bind_ok (wanted line (behind (32 ∷ []) text)) _ values e in
    let b = bind_ok (value_in line (word_of a.0)) _ values a.2 in
    let c = bind_ok (values_in count line (behind_word a.0)) _ values b.2 in
    let v = value_is line (word_of a.0) b.0 b.1 in
    let r = values_are count line (behind_word a.0) c.0 c.1 in
    let is : text ≡ values_text (b.0 ∷ c.0) =
    behind_is (32 ∷ []) text a.0 (wanted_ok line (behind (32 ∷ []) text) a.0 a.1)
    ∙ ap (λ (t : List ℕ). 32 ∷ t) (cut_is a.0 ∙ ap (λ (t : List ℕ). t ++ behind_word a.0) v.0 ∙ ap (λ (t : List ℕ). decimal b.0 ++ t) r.0) in
    subst (λ (vs : List ℕ). (text ≡ values_text vs) × (length vs ≡ suc count) × All IsSmall vs) (ok_is (b.0 ∷ c.0) values c.2) (is, ap suc r.1, All-cons IsSmall b.0 c.0 v.1 r.2)

-- ---- images

record IsImage (digits sums : ℕ) (text : List ℕ) (image : ℕ) (values : List ℕ) : Type 0 where
  pub is : text ≡ image_line digits image values
  pub small : image < 16 ^ digits
  pub long : length values ≡ sums
  pub all : All IsSmall values

image_is : (digits sums line : ℕ) (text : List ℕ) (x : ℕ × List ℕ) → image_in digits sums line text ≡ Ok x → IsImage digits sums text x.0 x.1
unfolding image_in
image_is digits sums line text x e =
    let a = bind_ok (wanted line (state_of digits (take digits text))) _ x e in
    let b = bind_ok (values_in sums line (drop digits text)) _ x a.2 in
    let s = state_is digits (take digits text) a.0 (wanted_ok line (state_of digits (take digits text)) a.0 a.1) in
    let v = values_are sums line (drop digits text) b.0 b.1 in
    subst (λ (y : ℕ × List ℕ). IsImage digits sums text y.0 y.1) (ok_is (a.0, b.0) x b.2) (record {
      is = sym (take-append-drop digits text) ∙ ap (λ (t : List ℕ). t ++ drop digits text) s.0 ∙ ap (λ (t : List ℕ). hex_digits digits a.0 ++ t) v.0;
      small = s.1;
      long = v.1;
      all = v.2;
    })

record AreImages (digits sums count : ℕ) (text : List ℕ) (images : StatedImages) (rest : List ℕ) : Type 0 where
  pub are : text ≡ texts.lines (image_lines digits sums images.listed images.values) ++ rest
  pub many : length images.listed ≡ count
  pub small : All (HasDigits digits) images.listed
  pub long : length images.values ≡ length images.listed * sums
  pub all : All IsSmall images.values

images_are : (digits sums count line : ℕ) (text : List ℕ) (x : StatedImages × List ℕ) → images_at digits sums count line text ≡ Ok x → AreImages digits sums count text x.0 x.1
unfolding images_at
images_are digits sums zero line text x e =
    subst (λ (y : StatedImages × List ℕ). AreImages digits sums 0 text y.0 y.1) (ok_is (images_of [] [], text) x e)
    (record { are = refl; many = refl; small = All-nil (HasDigits digits); long = none sums; all = All-nil IsSmall })
  where
    none : (n : ℕ) → 0 ≡ 0 * n
    none n = grind arith
images_are digits sums (suc count) line text x e =
    let a = bind_ok (line_at line text) _ x e in
    let b = bind_ok (image_in digits sums line a.0.0) _ x a.2 in
    let c = bind_ok (images_at digits sums count (line + 1) a.0.1) _ x b.2 in
    let i : IsImage digits sums a.0.0 b.0.0 b.0.1 = image_is digits sums line a.0.0 b.0 b.1 in
    let r : AreImages digits sums count a.0.1 c.0.0 c.0.1 = images_are digits sums count (line + 1) a.0.1 c.0 c.1 in
    let others : StatedImages = c.0.0 in
    let front : take sums (b.0.1 ++ others.values) ≡ b.0.1 = ap (λ k. take k (b.0.1 ++ others.values)) (sym i.long) ∙ front_taken b.0.1 others.values in
    let back : drop sums (b.0.1 ++ others.values) ≡ others.values = ap (λ k. drop k (b.0.1 ++ others.values)) (sym i.long) ∙ front_dropped b.0.1 others.values in
    let lines : image_lines digits sums (b.0.0 ∷ others.listed) (b.0.1 ++ others.values) ≡ image_line digits b.0.0 b.0.1 ∷ image_lines digits sums others.listed others.values =
    ap (λ (vs : List ℕ). image_line digits b.0.0 vs ∷ image_lines digits sums others.listed (drop sums (b.0.1 ++ others.values))) front
    ∙ ap (λ (vs : List ℕ). image_line digits b.0.0 b.0.1 ∷ image_lines digits sums others.listed vs) back in
    let is : text ≡ texts.lines (image_lines digits sums (b.0.0 ∷ others.listed) (b.0.1 ++ others.values)) ++ c.0.1 =
    line_is line text a.0 a.1 ∙ ap (λ (t : List ℕ). texts.line t ++ a.0.1) i.is ∙ ap (λ (t : List ℕ). texts.line (image_line digits b.0.0 b.0.1) ++ t) r.are
    ∙ sym (append_assoc (texts.line (image_line digits b.0.0 b.0.1)) (texts.lines (image_lines digits sums others.listed others.values)) c.0.1)
    ∙ ap (λ (ls : List (List ℕ)). texts.lines ls ++ c.0.1) (sym lines) in
    subst (λ (y : StatedImages × List ℕ). AreImages digits sums (suc count) text y.0 y.1) (ok_is (images_of (b.0.0 ∷ others.listed) (b.0.1 ++ others.values), c.0.1) x c.2) (record {
      are = is;
      many = ap suc r.many;
      small = All-cons (HasDigits digits) b.0.0 others.listed i.small r.small;
      long = length-append b.0.1 others.values ∙ ap (λ k. k + length others.values) i.long ∙ ap (λ k. sums + k) r.long ∙ one_more sums (length others.listed);
      all = All-append IsSmall b.0.1 others.values i.all r.all;
    })
  where
    one_more : (m n : ℕ) → m + n * m ≡ suc n * m
    one_more m n = grind arith

-- ---- lists

list_line_is : (digits : ℕ) (word : List ℕ) (line : ℕ) (text : List ℕ) (x : ℕ × ℕ) → list_in digits (word ++ 32 ∷ []) line text ≡ Ok x → (text ≡ list_line digits word x.0 x.1) × (x.0 < 16 ^ digits) × (x.1 < 2 ^ 63)
unfolding list_in
list_line_is digits word line text x e =
    let piece : List ℕ = word ++ 32 ∷ [] in
    let a = bind_ok (wanted line (behind piece text)) _ x e in
    let b = bind_ok (wanted line (part 32 a.0)) _ x a.2 in
    let c = bind_ok (wanted line (state_of digits b.0.0)) _ x b.2 in
    let d = bind_ok (wanted line (number_of b.0.1)) _ x c.2 in
    let s = state_is digits b.0.0 c.0 (wanted_ok line (state_of digits b.0.0) c.0 c.1) in
    let n = number_is line b.0.1 d.0 d.1 in
    let said : a.0 ≡ hex_digits digits c.0 ++ 32 ∷ decimal d.0 =
    part_is 32 a.0 b.0.0 b.0.1 (wanted_ok line (part 32 a.0) b.0 b.1) ∙ ap (λ (t : List ℕ). t ++ 32 ∷ b.0.1) s.0 ∙ ap (λ (t : List ℕ). hex_digits digits c.0 ++ 32 ∷ t) n.0 in
    subst (λ (y : ℕ × ℕ). (text ≡ list_line digits word y.0 y.1) × (y.0 < 16 ^ digits) × (y.1 < 2 ^ 63)) (ok_is (c.0, d.0) x d.2)
    (behind_is piece text a.0 (wanted_ok line (behind piece text) a.0 a.1) ∙ append_assoc word (32 ∷ []) a.0 ∙ ap (λ (t : List ℕ). word ++ 32 ∷ t) said, s.1, n.1)

list_is : (digits : ℕ) (word : List ℕ) (sums line : ℕ) (text : List ℕ) (x : TableValue × List ℕ) → list_at digits (word ++ 32 ∷ []) sums line text ≡ Ok x
    → (text ≡ texts.lines (listing_lines digits (listing_of word sums x.0)) ++ x.1) × CanBeListed digits sums x.0
unfolding list_at
list_is digits word sums line text x e =
    let a = bind_ok (line_at line text) _ x e in
    let b = bind_ok (list_in digits (word ++ 32 ∷ []) line a.0.0) _ x a.2 in
    let c = bind_ok (images_at digits sums b.0.1 (line + 1) a.0.1) _ x b.2 in
    let h = list_line_is digits word line a.0.0 b.0 b.1 in
    let i : AreImages digits sums b.0.1 a.0.1 c.0.0 c.0.1 = images_are digits sums b.0.1 (line + 1) a.0.1 c.0 c.1 in
    let images : StatedImages = c.0.0 in
    let list : TableValue = record { tracked = b.0.0; listed = images.listed; values = images.values } in
    let head : List ℕ = list_line digits word b.0.0 (length images.listed) in
    let head_is : a.0.0 ≡ head = h.0 ∙ ap (λ k. list_line digits word b.0.0 k) (sym i.many) in
    let lines : List ℕ = texts.lines (image_lines digits sums images.listed images.values) in
    let is : text ≡ texts.lines (listing_lines digits (listing_of word sums list)) ++ c.0.1 =
    line_is line text a.0 a.1 ∙ ap (λ (t : List ℕ). texts.line t ++ a.0.1) head_is ∙ ap (λ (t : List ℕ). texts.line head ++ t) i.are ∙ sym (append_assoc (texts.line head) lines c.0.1) in
    subst (λ (y : TableValue × List ℕ). (text ≡ texts.lines (listing_lines digits (listing_of word sums y.0)) ++ y.1) × CanBeListed digits sums y.0) (ok_is (list, c.0.1) x c.2)
    (is, record { fit = record { tracked_small = h.1; few = subst (λ k. k < 2 ^ 63) (sym i.many) h.2; small = i.small }; table = record { listed_few = subst (λ k. k < 2 ^ 63) (sym i.many) h.2; long = i.long; small = i.all } })

lists_are : (digits : ℕ) (word : List ℕ) (sums count line : ℕ) (text : List ℕ) (x : List TableValue × List ℕ) → lists_at digits (word ++ 32 ∷ []) sums count line text ≡ Ok x
    → (text ≡ texts.lines (flat_map (listing_lines digits) (map (listing_of word sums) x.0)) ++ x.1) × (length x.0 ≡ count) × All (CanBeListed digits sums) x.0
unfolding lists_at
lists_are digits word sums zero line text x e =
    subst (λ (y : List TableValue × List ℕ). (text ≡ texts.lines (flat_map (listing_lines digits) (map (listing_of word sums) y.0)) ++ y.1) × (length y.0 ≡ 0) × All (CanBeListed digits sums) y.0) (ok_is ([], text) x e) (refl, refl, All-nil (CanBeListed digits sums))
lists_are digits word sums (suc count) line text x e =
    let a = bind_ok (list_at digits (word ++ 32 ∷ []) sums line text) _ x e in
    let b = bind_ok (lists_at digits (word ++ 32 ∷ []) sums count (line + 1 + length a.0.0.listed) a.0.1) _ x a.2 in
    let l = list_is digits word sums line text a.0 a.1 in
    let r = lists_are digits word sums count (line + 1 + length a.0.0.listed) a.0.1 b.0 b.1 in
    let some : List (List ℕ) = listing_lines digits (listing_of word sums a.0.0) in
    let others : List (List ℕ) = flat_map (listing_lines digits) (map (listing_of word sums) b.0.0) in
    let is : text ≡ texts.lines (some ++ others) ++ b.0.1 =
    l.0 ∙ ap (λ (t : List ℕ). texts.lines some ++ t) r.0 ∙ sym (append_assoc (texts.lines some) (texts.lines others) b.0.1) ∙ ap (λ (t : List ℕ). t ++ b.0.1) (sym (lines-append some others)) in
    subst (λ (y : List TableValue × List ℕ). (text ≡ texts.lines (flat_map (listing_lines digits) (map (listing_of word sums) y.0)) ++ y.1) × (length y.0 ≡ suc count) × All (CanBeListed digits sums) y.0) (ok_is (a.0.0 ∷ b.0.0, b.0.1) x b.2)
    (is, ap suc r.1, All-cons (CanBeListed digits sums) a.0.0 b.0.0 l.1 r.2)

-- ---- all of them

counts_are : (line : ℕ) (text : List ℕ) (counts : StatedCounts) → counts_in line text ≡ Ok counts → (text ≡ counts_line counts.sums counts.tables counts.traps) × (are_few counts ≡ true)
unfolding counts_in
counts_are line text counts e =
    let a = bind_ok (wanted line (behind (codes "estimate tables ") text)) _ counts e in
    let b = bind_ok (wanted line (part 32 a.0)) _ counts a.2 in
    let c = bind_ok (wanted line (part 32 b.0.1)) _ counts b.2 in
    let d = bind_ok (wanted line (number_of b.0.0)) _ counts c.2 in
    let f = bind_ok (wanted line (number_of c.0.0)) _ counts d.2 in
    let g = bind_ok (wanted line (number_of c.0.1)) _ counts f.2 in
    let h = guard_ok (are_few (counted d.0 f.0 g.0)) line (counted d.0 f.0 g.0) counts g.2 in
    let last : b.0.1 ≡ decimal f.0 ++ 32 ∷ decimal g.0 =
    part_is 32 b.0.1 c.0.0 c.0.1 (wanted_ok line (part 32 b.0.1) c.0 c.1) ∙ ap (λ (t : List ℕ). t ++ 32 ∷ c.0.1) (number_is line c.0.0 f.0 f.1).0 ∙ ap (λ (t : List ℕ). decimal f.0 ++ 32 ∷ t) (number_is line c.0.1 g.0 g.1).0 in
    let words : a.0 ≡ decimal d.0 ++ 32 ∷ (decimal f.0 ++ 32 ∷ decimal g.0) =
    part_is 32 a.0 b.0.0 b.0.1 (wanted_ok line (part 32 a.0) b.0 b.1) ∙ ap (λ (t : List ℕ). t ++ 32 ∷ b.0.1) (number_is line b.0.0 d.0 d.1).0 ∙ ap (λ (t : List ℕ). decimal d.0 ++ 32 ∷ t) last in
    subst (λ (k : StatedCounts). (text ≡ counts_line k.sums k.tables k.traps) × (are_few k ≡ true)) h.1
    (behind_is (codes "estimate tables ") text a.0 (wanted_ok line (behind (codes "estimate tables ") text) a.0 a.1) ∙ ap (λ (t : List ℕ). codes "estimate tables " ++ t) words, h.0)

record AreFew (counts : StatedCounts) : Type 0 where
  pub some : 1 ≤ counts.sums
  pub sums_few : counts.sums ≤ 64
  pub tables_few : counts.tables ≤ 4096
  pub traps_few : counts.traps ≤ 4096

few_are : (counts : StatedCounts) → are_few counts ≡ true → AreFew counts
few_are counts e =
    let a = and_parts (leb 1 counts.sums) (leb counts.sums 64 && (leb counts.tables 4096 && leb counts.traps 4096)) e in
    let b = and_parts (leb counts.sums 64) (leb counts.tables 4096 && leb counts.traps 4096) a.1 in
    let c = and_parts (leb counts.tables 4096) (leb counts.traps 4096) b.1 in
    record { some = leb-true _ _ a.0; sums_few = leb-true _ _ b.0; tables_few = leb-true _ _ c.0; traps_few = leb-true _ _ c.1 }

tables_fit : (digits sums : ℕ) (tables : List TableValue) → All (CanBeListed digits sums) tables → All (Fit digits) tables
tables_fit digits sums tables can = λ k d within. (can k d within).fit

tables_lawful : (digits sums : ℕ) (tables : List TableValue) → All (CanBeListed digits sums) tables → All (IsTable sums) tables
tables_lawful digits sums tables can = λ k d within. (can k d within).table

-- traps have no values
no_values : (list : TableValue) → IsTable 0 list → of_trap (trap_of list) ≡ list
no_values list is =
    let none : [] ≡ list.values = sym (nil_from_length list.values (is.long ∙ zero_of (length list.listed))) in
    ap (λ (vs : List ℕ). record { tracked = list.tracked; listed = list.listed; values = vs }) none
  where
    zero_of : (n : ℕ) → n * 0 ≡ 0
    zero_of n = grind arith

as_traps : (digits : ℕ) (lists : List TableValue) → All (CanBeListed digits 0) lists → map of_trap (map trap_of lists) ≡ lists
as_traps digits [] can = refl
as_traps digits (list ∷ lists) can =
    ap (λ (l : TableValue). l ∷ map of_trap (map trap_of lists)) (no_values list (All-head (CanBeListed digits 0) list lists can).table)
    ∙ ap (λ (ls : List TableValue). list ∷ ls) (as_traps digits lists (All-tail (CanBeListed digits 0) list lists can))

traps_fit : (digits : ℕ) (lists : List TableValue) → All (CanBeListed digits 0) lists → All (TrapFit digits) (map trap_of lists)
traps_fit digits [] can = All-nil (TrapFit digits)
traps_fit digits (list ∷ lists) can = All-cons (TrapFit digits) (trap_of list) (map trap_of lists) (All-head (CanBeListed digits 0) list lists can).fit (traps_fit digits lists (All-tail (CanBeListed digits 0) list lists can))

tables_are : (digits line : ℕ) (text : List ℕ) (x : TablesValue × List ℕ) → tables_at digits line text ≡ Ok x → (text ≡ tables_text digits x.0 ++ x.1) × CanBeStated digits x.0
unfolding tables_at
tables_are digits line text x e =
    let a = bind_ok (line_at line text) _ x e in
    let b = bind_ok (counts_in line a.0.0) _ x a.2 in
    let counts : StatedCounts = b.0 in
    let c = bind_ok (lists_at digits (codes "table ") counts.sums counts.tables (line + 1) a.0.1) _ x b.2 in
    let d = bind_ok (lists_at digits (codes "trap ") 0 counts.traps (line + 1 + lines_of_lists c.0.0) c.0.1) _ x c.2 in
    let h = counts_are line a.0.0 counts b.1 in
    let few : AreFew counts = few_are counts h.1 in
    let t = lists_are digits (codes "table") counts.sums counts.tables (line + 1) a.0.1 c.0 c.1 in
    let p = lists_are digits (codes "trap") 0 counts.traps (line + 1 + lines_of_lists c.0.0) c.0.1 d.0 d.1 in
    let tables : List TableValue = c.0.0 in
    let traps : List TrapValue = map trap_of d.0.0 in
    let all : TablesValue = record { sums = counts.sums; tables = tables; traps = traps } in
    let many : length traps ≡ counts.traps = length-map d.0.0 trap_of ∙ p.1 in
    let head : List ℕ = counts_line counts.sums (length tables) (length traps) in
    let head_is : a.0.0 ≡ head = h.0 ∙ ap (λ k. counts_line counts.sums k counts.traps) (sym t.1) ∙ ap (λ k. counts_line counts.sums (length tables) k) (sym many) in
    let some : List (List ℕ) = flat_map (listing_lines digits) (map (table_listing counts.sums) tables) in
    let others : List (List ℕ) = flat_map (listing_lines digits) (map trap_listing traps) in
    let others_are : flat_map (listing_lines digits) (map (listing_of (codes "trap") 0) d.0.0) ≡ others =
    ap (λ (ls : List TableValue). flat_map (listing_lines digits) (map (listing_of (codes "trap") 0) ls)) (sym (as_traps digits d.0.0 p.2)) ∙ ap (flat_map (listing_lines digits)) (sym (trap_listings traps)) in
    let parts : texts.lines (flat_map (listing_lines digits) (listings all)) ≡ texts.lines some ++ texts.lines others =
    ap texts.lines (flat_map-append (listing_lines digits) (map (table_listing counts.sums) tables) (map trap_listing traps)) ∙ lines-append some others in
    let is : text ≡ tables_text digits all ++ d.0.1 =
    line_is line text a.0 a.1 ∙ ap (λ (l : List ℕ). texts.line l ++ a.0.1) head_is
    ∙ ap (λ (r : List ℕ). texts.line head ++ r) (t.0 ∙ ap (λ (r : List ℕ). texts.lines some ++ r) (p.0 ∙ ap (λ (ls : List (List ℕ)). texts.lines ls ++ d.0.1) others_are) ∙ sym (append_assoc (texts.lines some) (texts.lines others) d.0.1) ∙ ap (λ (r : List ℕ). r ++ d.0.1) (sym parts))
    ∙ sym (append_assoc (texts.line head) (texts.lines (flat_map (listing_lines digits) (listings all))) d.0.1) in
    subst (λ (y : TablesValue × List ℕ). (text ≡ tables_text digits y.0 ++ y.1) × CanBeStated digits y.0) (ok_is (all, d.0.1) x d.2) (
      is,
      record {
        lawful = record {
          some = few.some;
          few = few.sums_few;
          tables_few = subst (λ k. k ≤ 4096) (sym t.1) few.tables_few;
          traps_few = subst (λ k. k ≤ 4096) (sym many) few.traps_few;
          each = tables_lawful digits counts.sums tables t.2;
          traps_listed_few = λ k other within. (traps_fit digits d.0.0 p.2 k other within).few;
        };
        tables_fit = tables_fit digits counts.sums tables t.2;
        traps_fit = traps_fit digits d.0.0 p.2;
      },
    )

reading_is : (digits : ℕ) (bytes : List ℕ) (tables : TablesValue) → tables_reading digits bytes ≡ Ok tables → (bytes ≡ tables_text digits tables) × CanBeStated digits tables
unfolding tables_reading
reading_is digits bytes tables e =
    let a = bind_ok (tables_at digits 1 bytes) _ tables e in
    let g = guard_ok (eqb (length a.0.1) 0) (1 + length (tables_lines digits a.0.0)) a.0.0 tables a.2 in
    let t = tables_are digits 1 bytes a.0 a.1 in
    subst (λ (y : TablesValue). (bytes ≡ tables_text digits y) × CanBeStated digits y) g.1
    (t.0 ∙ ap (λ (r : List ℕ). tables_text digits a.0.0 ++ r) (nil_from_length a.0.1 (eqb-true _ _ g.0)) ∙ append-nil (tables_text digits a.0.0), t.1)

pub tables_are_read_as_written : TablesAreReadAsWritten
tables_are_read_as_written = record {
  read = tables_again;
  written = λ digits line text tables rest e. tables_are digits line text (tables, rest) e;
  alone = λ digits bytes tables. (reading_is digits bytes tables, reading_again digits bytes tables);
}
