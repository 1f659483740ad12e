-- Bundles that leave home and come back.
use Rattle.std.proofs.Common.{◌≡◌, ℕ, ◌<◌, Bool, true, false, cond, ◌||◌, ◌==◌, is_some, List, [], ◌∷◌, ◌++◌, Option, Some, None, get_or, set, length, length-set, refl, sym, ap, subst, ◌∙◌, true≢false}
use Rattle.std.specs.List.{AllByRecursion, filter_map, cons_option}
use Rattle.std.specs.Option.{option_map, option_or}
use Rattle.std.specs.Map.{keys_of}
use Rattle.std.proofs.lemmas.List.Elements.{filter_map-append}
use Rattle.pb_model.proofs.Callers.{by_cases, equal, equal_swap}
use Rattle.pb_lists.specs.Bundle.{Content}
use Rattle.pb_bundles.specs.Parts.{content_in}
use Rattle.pb_bundles.specs.Moves.{is_among, vacated, moved, put_back}
use Rattle.pb_bundles.proofs.Lists.{set_at, cleared_at}

abbrev Places : Type 0
Places = List (Option Content)

abbrev part_of : ℕ → Option Content → Option (ℕ × Content)
part_of block found = option_map (λ content. (block, content)) found

-- ---- out

pub vacated_push : (scope : List ℕ) (block : ℕ) (bundles : Places) → vacated (scope ++ block ∷ []) bundles ≡ set (vacated scope bundles) block None
vacated_push [] block bundles = refl
vacated_push (first ∷ scope) block bundles = vacated_push scope block (set bundles first None)

pub vacated_length : (scope : List ℕ) (bundles : Places) → length (vacated scope bundles) ≡ length bundles
vacated_length [] bundles = refl
vacated_length (block ∷ scope) bundles = vacated_length scope (set bundles block None) ∙ length-set bundles block None

pub vacated_at : (scope : List ℕ) (bundles : Places) (block : ℕ) → get_or (vacated scope bundles) block None ≡ cond (is_among scope block) None (get_or bundles block None)
vacated_at [] bundles block = refl
vacated_at (first ∷ scope) bundles block =
    vacated_at scope (set bundles first None) block
    ∙ ap (cond (is_among scope block) None) (cleared_at bundles first block)
    ∙ mix (block == first) (is_among scope block) (get_or bundles block None)
    ∙ ap (λ b. cond (b || is_among scope block) None (get_or bundles block None)) (equal_swap block first)
  where
    mix : (b rest : Bool) (found : Option Content) → cond rest None (cond b None found) ≡ cond (b || rest) None found
    mix true true found = refl
    mix true false found = refl
    mix false true found = refl
    mix false false found = refl

pub moved_push : (scope : List ℕ) (block : ℕ) (content : Content) (bundles : Places) → get_or bundles block None ≡ Some content
    → moved (scope ++ block ∷ []) bundles ≡ moved scope bundles ++ (block, content) ∷ []
moved_push scope block content bundles is =
    filter_map-append (λ b. part_of b (get_or bundles b None)) scope (block ∷ [])
    ∙ ap (λ found. moved scope bundles ++ filter_map (λ b. part_of b found) (block ∷ [])) is

pub moved_keys : (scope : List ℕ) (bundles : Places) → AllByRecursion (λ b. is_some (get_or bundles b None) ≡ true) scope → keys_of (moved scope bundles) ≡ scope
moved_keys [] bundles all = refl
moved_keys (block ∷ scope) bundles all = go (moved_keys scope bundles all.1) (get_or bundles block None) refl all.0
  where
    go : keys_of (moved scope bundles) ≡ scope → (found : Option Content) → get_or bundles block None ≡ found → is_some (get_or bundles block None) ≡ true
        → keys_of (moved (block ∷ scope) bundles) ≡ block ∷ scope
    go rest None e there = absurd (true≢false (sym there ∙ ap is_some e))
    go rest (Some content) e there = ap (λ o. keys_of (cons_option (part_of block o) (moved scope bundles))) e ∙ ap (λ ks. block ∷ ks) rest

pub moved_in : (scope : List ℕ) (bundles : Places) (block : ℕ) → content_in (moved scope bundles) block ≡ cond (is_among scope block) (get_or bundles block None) None
moved_in [] bundles block = refl
moved_in (first ∷ scope) bundles block = go (moved_in scope bundles block) (get_or bundles first None) refl
  where
    other : content_in (moved scope bundles) block ≡ cond (is_among scope block) (get_or bundles block None) None → (first == block) ≡ false → content_in (moved scope bundles) block ≡ cond ((first == block) || is_among scope block) (get_or bundles block None) None
    other rest e = rest ∙ sym (ap (λ b. cond (b || is_among scope block) (get_or bundles block None) None) e)

    same : (first == block) ≡ true → get_or bundles first None ≡ cond ((first == block) || is_among scope block) (get_or bundles block None) None
    same e = ap (λ n. get_or bundles n None) (equal first block e) ∙ sym (ap (λ b. cond (b || is_among scope block) (get_or bundles block None) None) e)

    none_left : (b : Bool) (found : Option Content) → found ≡ None → cond b found None ≡ None
    none_left true found e = e
    none_left false found e = refl

    go : content_in (moved scope bundles) block ≡ cond (is_among scope block) (get_or bundles block None) None → (found : Option Content) → get_or bundles first None ≡ found → content_in (moved (first ∷ scope) bundles) block ≡ cond ((first == block) || is_among scope block) (get_or bundles block None) None
    go rest None e =
        ap (λ o. content_in (cons_option (part_of first o) (moved scope bundles)) block) e
        ∙ by_cases (first == block)
        (λ t. rest ∙ none_left (is_among scope block) (get_or bundles block None) (ap (λ n. get_or bundles n None) (sym (equal first block t)) ∙ e) ∙ sym e ∙ same t)
        (λ f. other rest f)
    go rest (Some content) e =
        ap (λ o. content_in (cons_option (part_of first o) (moved scope bundles)) block) e
        ∙ by_cases (first == block)
        (λ t. ap (λ b. cond b (Some content) (content_in (moved scope bundles) block)) (equal_swap block first ∙ t) ∙ sym e ∙ same t)
        (λ f. ap (λ b. cond b (Some content) (content_in (moved scope bundles) block)) (equal_swap block first ∙ f) ∙ other rest f)

-- ---- back

pub put_back_push : (parts : List (ℕ × Content)) (part : ℕ × Content) (bundles : Places) → put_back (parts ++ part ∷ []) bundles ≡ put_back parts (set bundles part.0 (Some part.1))
put_back_push [] part bundles = refl
put_back_push (first ∷ parts) part bundles = ap (λ places. set places first.0 (Some first.1)) (put_back_push parts part bundles)

pub put_back_length : (parts : List (ℕ × Content)) (bundles : Places) → length (put_back parts bundles) ≡ length bundles
put_back_length [] bundles = refl
put_back_length (part ∷ parts) bundles = length-set (put_back parts bundles) part.0 (Some part.1) ∙ put_back_length parts bundles

pub put_back_at : (parts : List (ℕ × Content)) (bundles : Places) (block : ℕ) → AllByRecursion (λ part. part.0 < length bundles) parts
    → get_or (put_back parts bundles) block None ≡ option_or (content_in parts block) (get_or bundles block None)
put_back_at [] bundles block all = refl
put_back_at (part ∷ parts) bundles block all =
    set_at (put_back parts bundles) part.0 block (Some part.1) None (subst (λ n. part.0 < n) (sym (put_back_length parts bundles)) all.0)
    ∙ ap (cond (block == part.0) (Some part.1)) (put_back_at parts bundles block all.1)
    ∙ mix (block == part.0) (content_in parts block) (get_or bundles block None)
  where
    mix : (b : Bool) (found before : Option Content) → cond b (Some part.1) (option_or found before) ≡ option_or (cond b (Some part.1) found) before
    mix true found before = refl
    mix false found before = refl
