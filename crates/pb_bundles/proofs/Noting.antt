-- Keys that are noted for one bundle more.
use Rattle.std.proofs.Common.{◌≡◌, ℕ, ◌<◌, false, ◌==◌, List, [], ◌∷◌, ◌++◌, Option, Some, None, get_or, length, length-set, refl, sym, ap, subst, ◌∙◌, get_or-set_same, get_or-set_other}
use Rattle.std.proofs.lemmas.Bool.{eqb-false}
use Rattle.std.proofs.lemmas.Option.{none-some, same_Some}
use Rattle.pb_model.specs.declared.key.Key.{Key}
use Rattle.pb_model.specs.Key.{IsBest}
use Rattle.pb_model.proofs.Callers.{by_cases, equal}
use Rattle.pb_lists.specs.Bundle.{Content, row_of}
use Rattle.pb_bundles.specs.Parts.{content_in}
use Rattle.pb_bundles.specs.Moves.{NotesKey, NotesKeys}
use Rattle.pb_bundles.proofs.Lists.{found_front, found_last}

pub notes_none : (keys : List (Option Key)) → NotesKeys [] keys keys
notes_none keys = record { noted = λ block content is. absurd (none-some content is); others = λ block _. refl; count = refl }

pub notes_push : (parts : List (ℕ × Content)) (block : ℕ) (content : Content) (old keys new : List (Option Key)) → NotesKeys parts old keys → content_in parts block ≡ None
    → block < length keys → NotesKey content keys new block → NotesKeys (parts ++ (block, content) ∷ []) old new
notes_push parts block content old keys new so absent within one = record { noted = noted; others = others; count = ap length one.set ∙ length-set keys block one.key ∙ so.count }
  where
    here : get_or new block None ≡ one.key
    here = ap (λ ks. get_or ks block None) one.set ∙ get_or-set_same keys block one.key None within

    elsewhere : (other : ℕ) → (other == block) ≡ false → get_or new other None ≡ get_or keys other None
    elsewhere other e = ap (λ ks. get_or ks other None) one.set ∙ get_or-set_other keys block other one.key None (eqb-false other block e)

    noted : (other : ℕ) (found : Content) → content_in (parts ++ (block, content) ∷ []) other ≡ Some found → IsBest found.weight (row_of found) (get_or new other None)
    noted other found is = by_cases (other == block)
        (λ e. let was : content_in (parts ++ (block, content) ∷ []) block ≡ Some found = ap (content_in (parts ++ (block, content) ∷ [])) (sym (equal other block e)) ∙ is in
        let same : content ≡ found = same_Some content found (sym (found_last parts (block, content) absent) ∙ was) in
        subst (λ (c : Content). IsBest c.weight (row_of c) (get_or new other None)) same
        (subst (IsBest content.weight (row_of content)) (sym here ∙ ap (λ n. get_or new n None) (sym (equal other block e))) one.best))
        (λ e. subst (IsBest found.weight (row_of found)) (sym (elsewhere other e)) (so.noted other found (sym (found_front parts (block, content) other e) ∙ is)))

    others : (other : ℕ) → content_in (parts ++ (block, content) ∷ []) other ≡ None → get_or new other None ≡ get_or old other None
    others other is = by_cases (other == block)
        (λ e. let was : content_in (parts ++ (block, content) ∷ []) block ≡ None = ap (content_in (parts ++ (block, content) ∷ [])) (sym (equal other block e)) ∙ is in
        let bad : ◌≡◌ {A = Option Content} (Some content) None = sym (found_last parts (block, content) absent) ∙ was in cc)
        (λ e. elsewhere other e ∙ so.others other (sym (found_front parts (block, content) other e) ∙ is))
