-- Parts of a text: what is cut off, and that what was joined is cut again.
use Rattle.std.proofs.Common.{◌≡◌, ℕ, suc, ◌+◌, ◌<◌, ◌≤◌, Bool, true, false, not, cond, eqb, ltb, Option, None, Some, List, [], ◌∷◌, ◌++◌, length, get_or, take, drop, refl, sym, ap, ◌∙◌, subst, arith, drop-cons, append-nil, append_assoc, length-append}
use Rattle.std.proofs.lemmas.Option.{same_Some}
use Rattle.std.proofs.lemmas.List.{take_at, drop_at, take-append-drop, nil_from_length}
use Rattle.std.proofs.lemmas.Bool.{eqb-true, ltb-true, ltb-false, lt-ltb, not-true, and_parts, and_from}
use Rattle.std.proofs.lemmas.List.Sums.{sum_by-cons}
use Rattle.std.proofs.lemmas.Bool.Decides.{nat_tests}
use Rattle.pb_lines.specs.Words.{place_of, part, behind, is_all, is_text, has_none, line_feeds}
pub use Rattle.std.proofs.lemmas.Bool.{and_parts as conjuncts, and_from as both}

pub if_some : {A : Type 0} (b : Bool) (o : Option A) (x : A) → cond b o None ≡ Some x → (b ≡ true)
    × (o ≡ Some x)
if_some true o x e = (refl, e)
if_some false o x e = absurd cc

pub if_not_some : {A : Type 0} (b : Bool) (o : Option A) (x : A) → cond b None o ≡ Some x → (b ≡ false)
    × (o ≡ Some x)
if_not_some true o x e = absurd cc
if_not_some false o x e = (refl, e)

at_place : (byte : ℕ) (text : List ℕ) → place_of byte text < length text
    → get_or text (place_of byte text) 0 ≡ byte
unfolding place_of
at_place byte [] lt = absurd (omega (arith, lt))
at_place byte (b ∷ bs) lt = go (at_place byte bs) (eqb b byte) refl lt
  where
    go : (place_of byte bs < length bs → get_or bs (place_of byte bs) 0 ≡ byte) → (t : Bool)
        → eqb b byte ≡ t → cond t 0 (suc (place_of byte bs)) < suc (length bs)
        → get_or (b ∷ bs) (cond t 0 (suc (place_of byte bs))) 0 ≡ byte
    go rest true e lt = eqb-true b byte e
    go rest false e lt = rest (omega (arith, lt))

pub part_is : (byte : ℕ) (text front rest : List ℕ) → part byte text ≡ Some (front, rest) → text
    ≡ front ++ byte ∷ rest
part_is byte text front rest e =
    let p = place_of byte text in
    let h = if_some (ltb p (length text)) (Some (take p text, drop (p + 1) text)) (front, rest) e in
    let lt : p < length text = ltb-true _ _ h.0 in
    let pair = same_Some (take p text, drop (p + 1) text) (front, rest) h.1 in
    let s : p + 1 ≡ suc p = omega arith in
    let cut : drop p text ≡ byte ∷ drop (p + 1) text =
    drop-cons text p 0 lt ∙ ap (λ b. b ∷ drop (suc p) text) (at_place byte text lt)
    ∙ ap (λ k. byte ∷ drop k text) (sym s) in
    let whole : text ≡ take p text ++ byte ∷ drop (p + 1) text =
    sym (take-append-drop p text) ∙ ap (λ (t : List ℕ). take p text ++ t) cut in
    whole ∙ ap (λ (x : List ℕ × List ℕ). x.0 ++ byte ∷ x.1) pair

pub behind_is : (piece text rest : List ℕ) → behind piece text ≡ Some rest → text ≡ piece ++ rest
unfolding behind
behind_is [] text rest e = same_Some text rest e
behind_is (p ∷ ps) [] rest e = absurd cc
behind_is (p ∷ ps) (b ∷ bs) rest e =
    let h = if_some (eqb p b) (behind ps bs) rest e in
    let same : b ≡ p = sym (eqb-true p b h.0) in
    ap (λ x. x ∷ bs) same ∙ ap (λ (t : List ℕ). p ∷ t) (behind_is ps bs rest h.1)

pub text_is : (piece text : List ℕ) → is_text piece text ≡ true → text ≡ piece
text_is piece text e = go (behind piece text) refl e
  where
    go : (o : Option (List ℕ)) → behind piece text ≡ o → is_all o ≡ true → text ≡ piece
    go None is e = absurd cc
    go (Some rest) is e =
        behind_is piece text rest is
        ∙ ap (λ (r : List ℕ). piece ++ r) (nil_from_length rest (eqb-true _ _ e)) ∙ append-nil piece

pub none_both : (byte : ℕ) (xs ys : List ℕ) → has_none byte xs ≡ true → has_none byte ys ≡ true
    → has_none byte (xs ++ ys) ≡ true
none_both byte [] ys a b = b
none_both byte (x ∷ xs) ys a b = let c =
    and_parts (not (eqb x byte)) (has_none byte xs) a in
    and_from (not (eqb x byte)) (has_none byte (xs ++ ys)) c.0 (none_both byte xs ys c.1 b)

place_is : (byte : ℕ) (front rest : List ℕ) → has_none byte front ≡ true
    → place_of byte (front ++ byte ∷ rest) ≡ length front
unfolding place_of
place_is byte [] rest none = let e : eqb byte byte ≡ true =
    grind (arith, nat_tests) in ap (λ t. cond t 0 (suc (place_of byte rest))) e
place_is byte (b ∷ front) rest none =
    let c = and_parts (not (eqb b byte)) (has_none byte front) none in
    ap (λ t. cond t 0 (suc (place_of byte (front ++ byte ∷ rest)))) (not-true (eqb b byte) c.0)
    ∙ ap suc (place_is byte front rest c.1)

pub part_again : (byte : ℕ) (front rest : List ℕ) → has_none byte front ≡ true
    → part byte (front ++ byte ∷ rest) ≡ Some (front, rest)
part_again byte front rest none =
    let p : place_of byte (front ++ byte ∷ rest) ≡ length front = place_is byte front rest none in
    let lt : ltb (length front) (length (front ++ byte ∷ rest)) ≡ true =
    lt-ltb _ _ (omega (arith, length-append front (byte ∷ rest))) in
    let t : take (length front) (front ++ byte ∷ rest) ≡ front =
    take_at front (byte ∷ rest) (length front) refl in
    let g : front ++ byte ∷ rest ≡ (front ++ byte ∷ []) ++ rest =
    sym (append_assoc front (byte ∷ []) rest) in
    let d : drop (length front + 1) ((front ++ byte ∷ []) ++ rest) ≡ rest =
    drop_at (front ++ byte ∷ []) rest (length front + 1) (length-append front (byte ∷ [])) in
    rw (p, lt, t) (ap (λ (r : List ℕ). Some (front, r)) (ap (drop (length front + 1)) g ∙ d))

pub behind_again : (piece rest : List ℕ) → behind piece (piece ++ rest) ≡ Some rest
unfolding behind
behind_again [] rest = refl
behind_again (p ∷ ps) rest = let e : eqb p p ≡ true =
    grind (arith, nat_tests) in
    ap (λ t. cond t (behind ps (ps ++ rest)) None) e ∙ behind_again ps rest

pub text_again : (piece : List ℕ) → is_text piece piece ≡ true
text_again piece = ap is_all (ap (behind piece) (sym (append-nil piece)) ∙ behind_again piece [])

-- ---- a part has no such byte, and each part at a line feed has one line less

none_before : (byte : ℕ) (text : List ℕ) → place_of byte text < length text
    → has_none byte (take (place_of byte text) text) ≡ true
unfolding place_of
none_before byte [] lt = refl
none_before byte (b ∷ bs) lt = go (none_before byte bs) (eqb b byte) refl lt
  where
    go : (place_of byte bs < length bs → has_none byte (take (place_of byte bs) bs) ≡ true)
        → (t : Bool) → eqb b byte ≡ t → cond t 0 (suc (place_of byte bs)) < suc (length bs)
        → has_none byte (take (cond t 0 (suc (place_of byte bs))) (b ∷ bs)) ≡ true
    go rest true e lt = refl
    go rest false e lt =
        and_from (not (eqb b byte)) (has_none byte (take (place_of byte bs) bs)) (ap not e)
        (rest (omega (arith, lt)))

pub part_none : (byte : ℕ) (text front rest : List ℕ) → part byte text ≡ Some (front, rest)
    → has_none byte front ≡ true
part_none byte text front rest e =
    let p = place_of byte text in
    let h = if_some (ltb p (length text)) (Some (take p text, drop (p + 1) text)) (front, rest) e in
    let pair = same_Some (take p text, drop (p + 1) text) (front, rest) h.1 in
    subst (λ (x : List ℕ × List ℕ). has_none byte x.0 ≡ true) pair
    (none_before byte text (ltb-true _ _ h.0))

feeds_cons : (b : ℕ) (bs : List ℕ) → line_feeds (b ∷ bs) ≡ cond (eqb b 10) 1 0 + line_feeds bs
feeds_cons b bs = sum_by-cons (λ (c : ℕ). cond (eqb c 10) 1 0) b bs

feeds_after : (front rest : List ℕ) → has_none 10 front ≡ true → line_feeds (front ++ 10 ∷ rest)
    ≡ suc (line_feeds rest)
feeds_after [] rest none = feeds_cons 10 rest ∙ next (line_feeds rest)
  where
    next : (n : ℕ) → 1 + n ≡ suc n
    next n = omega arith
feeds_after (b ∷ front) rest none =
    let c = and_parts (not (eqb b 10)) (has_none 10 front) none in
    feeds_cons b (front ++ 10 ∷ rest) ∙ go (eqb b 10) c.0 (feeds_after front rest c.1)
  where
    go : (t : Bool) → not t ≡ true → line_feeds (front ++ 10 ∷ rest) ≡ suc (line_feeds rest)
        → cond t 1 0 + line_feeds (front ++ 10 ∷ rest) ≡ suc (line_feeds rest)
    go true is more = absurd cc
    go false is more = omega (arith, more)

none_after : (text : List ℕ) → length text ≤ place_of 10 text → line_feeds text ≡ 0
unfolding place_of
none_after [] le = refl
none_after (b ∷ bs) le = feeds_cons b bs ∙ go (eqb b 10) (none_after bs) le
  where
    go : (t : Bool) → (length bs ≤ place_of 10 bs → line_feeds bs ≡ 0)
        → suc (length bs) ≤ cond t 0 (suc (place_of 10 bs)) → cond t 1 0 + line_feeds bs ≡ 0
    go true rest le = absurd (omega (arith, le))
    go false rest le = let none : line_feeds bs ≡ 0 =
        rest (omega (arith, le)) in omega (arith, none)

-- a text with a first line, and one without
pub one_feed : (text front rest : List ℕ) → part 10 text ≡ Some (front, rest) → line_feeds text
    ≡ suc (line_feeds rest)
one_feed text front rest e =
    ap line_feeds (part_is 10 text front rest e)
    ∙ feeds_after front rest (part_none 10 text front rest e)

pub no_feed : (text : List ℕ) → part 10 text ≡ None → line_feeds text ≡ 0
no_feed text e = go (ltb (place_of 10 text) (length text)) refl e
  where
    go : (t : Bool) → ltb (place_of 10 text) (length text) ≡ t
        → cond {A = Option (List ℕ × List ℕ)} t
        (Some (take (place_of 10 text) text, drop (place_of 10 text + 1) text)) None ≡ None
        → line_feeds text ≡ 0
    go true is e = absurd cc
    go false is e = none_after text (ltb-false (place_of 10 text) (length text) is)
