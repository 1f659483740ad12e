-- The first four lines of a map, one after another.
use Rattle.std.proofs.Common.{◌≡◌, ℕ, zero, suc, Bool, true, Option, Some, Ok, unwrap_or, List, [], ◌∷◌, drop, codes, refl, sym, ap, ◌∙◌}
use Rattle.std.specs.List.{slice_get}
use Rattle.std.proofs.lemmas.List.{drop-drop}
use Rattle.pb_grid.specs.declared.error.GridError.TheVariants.{Header}
use Rattle.pb_grid.specs.Lines.{line_at, words_of}
use Rattle.pb_grid.specs.Reading.{◌>>=◌, must, are_words, number_named, size_of_map}

pub slice_get-drop : (k : ℕ) (lines : List (List ℕ)) → slice_get (drop k lines) 0 ≡ slice_get lines k
slice_get-drop zero lines = refl
slice_get-drop (suc k) [] = refl
slice_get-drop (suc k) (line ∷ lines) = slice_get-drop k lines

-- the first line behind so many
behind : (k : ℕ) (line : List ℕ) (rest lines : List (List ℕ)) → rest ≡ drop k lines → line ≡ line_at rest 1 → unwrap_or (slice_get lines k) [] ≡ line
behind k line rest lines is e = sym (e ∙ ap (λ (ls : List (List ℕ)). line_at ls 1) is ∙ ap (λ (o : Option (List ℕ)). unwrap_or o []) (slice_get-drop k lines))

pub size_steps : (lines one two three : List (List ℕ)) (first second third fourth : List ℕ) (height width : ℕ) (last : Bool)
    → first ≡ line_at lines 1 → one ≡ drop 1 lines → second ≡ line_at one 1 → two ≡ drop 1 one → third ≡ line_at two 1 → three ≡ drop 1 two → fourth ≡ line_at three 1
    → true ≡ are_words (words_of first) (codes "type" ∷ codes "octile" ∷ []) → Some height ≡ number_named (codes "height") (words_of second)
    → Some width ≡ number_named (codes "width") (words_of third) → last ≡ are_words (words_of fourth) (codes "map" ∷ [])
    → size_of_map lines ≡ (must (Header 4) last >>= λ found. Ok (height, width))
unfolding size_of_map
size_steps lines one two three first second third fourth height width last a b c d e f g type height_is width_is last_is =
    let two_is : two ≡ drop 2 lines = d ∙ ap (drop 1) b ∙ drop-drop 1 1 lines in
    let three_is : three ≡ drop 3 lines = f ∙ ap (drop 1) two_is ∙ drop-drop 1 2 lines in
    let p : are_words (words_of (line_at lines 1)) (codes "type" ∷ codes "octile" ∷ []) ≡ true = ap (λ (l : List ℕ). are_words (words_of l) (codes "type" ∷ codes "octile" ∷ [])) (sym a) ∙ sym type in
    let q : number_named (codes "height") (words_of (line_at lines 2)) ≡ Some height = ap (λ (l : List ℕ). number_named (codes "height") (words_of l)) (behind 1 second one lines b c) ∙ sym height_is in
    let r : number_named (codes "width") (words_of (line_at lines 3)) ≡ Some width = ap (λ (l : List ℕ). number_named (codes "width") (words_of l)) (behind 2 third two lines two_is e) ∙ sym width_is in
    let s : are_words (words_of (line_at lines 4)) (codes "map" ∷ []) ≡ last = ap (λ (l : List ℕ). are_words (words_of l) (codes "map" ∷ [])) (behind 3 fourth three lines three_is g) ∙ sym last_is in
    rw (p, q, r, s) refl
