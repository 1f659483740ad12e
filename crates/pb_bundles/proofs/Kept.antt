-- What is true of every table stays true over the moves.
use Rattle.std.proofs.Common.{◌≡◌, ℕ, ◌<◌, ◌^◌, Bool, true, false, cond, ◌==◌, List, Option, Some, None, is_some, get_or, set, length, length-set, refl, sym, ap, subst, ◌∙◌}
use Rattle.std.specs.Option.{option_or}
use Rattle.pb_model.specs.declared.key.Key.{Key}
use Rattle.pb_model.specs.Key.{IsBest}
use Rattle.pb_model.proofs.Callers.{by_cases}
use Rattle.pb_lists.specs.Bundle.{Content, row_of}
use Rattle.pb_bundles.specs.Parts.{content_in}
use Rattle.pb_bundles.specs.Homes.{HomeTable, AreHomes}
use Rattle.pb_bundles.specs.Moves.{is_among, vacated, put_back, IsVacant, NotesKeys}
use Rattle.pb_bundles.proofs.Lists.{set_at, by_found}
use Rattle.pb_bundles.proofs.Moving.{vacated_at, vacated_length, put_back_at, put_back_length}

abbrev table_of : List (Option Content) → List (Option Key) → HomeTable
table_of bundles keys = record { bundles = bundles; keys = keys }

-- ---- out

pub homes_vacated : (scope : List ℕ) (bundles : List (Option Content)) (keys : List (Option Key)) → AreHomes (record { bundles = bundles; keys = keys })
    → AreHomes (record { bundles = vacated scope bundles; keys = keys })
homes_vacated scope bundles keys are = record {
  same_count = are.same_count ∙ sym (vacated_length scope bundles);
  few = subst (λ n. n < 2 ^ 32) (sym (vacated_length scope bundles)) are.few;
  noted = λ block content is. are.noted block content (left (is_among scope block) (get_or bundles block None) content (sym (vacated_at scope bundles block) ∙ is));
}
  where
    left : (b : Bool) (found : Option Content) (content : Content) → cond b None found ≡ Some content → found ≡ Some content
    left true found content e = let bad : ◌≡◌ {A = Option Content} None (Some content) = e in cc
    left false found content e = e

-- ---- back

-- a block at home isn't among parts that are away
pub away_or_home : (parts : List (ℕ × Content)) (bundles : List (Option Content)) (block : ℕ) (content : Content) → ((other : ℕ) → is_some (content_in parts other) ≡ true → IsVacant bundles other)
    → get_or bundles block None ≡ Some content → content_in parts block ≡ None
away_or_home parts bundles block content vacant is = which (content_in parts block) refl
  where
    which : (found : Option Content) → content_in parts block ≡ found → content_in parts block ≡ None
    which None e = e
    which (Some other) e = let bad : ◌≡◌ {A = Option Content} None (Some content) = sym (vacant block (ap is_some e)).1 ∙ is in cc

pub homes_noted : (parts : List (ℕ × Content)) (bundles : List (Option Content)) (keys new : List (Option Key)) → ((other : ℕ) → is_some (content_in parts other) ≡ true → IsVacant bundles other) → NotesKeys parts keys new
    → AreHomes (record { bundles = bundles; keys = keys }) → AreHomes (record { bundles = bundles; keys = new })
homes_noted parts bundles keys new vacant notes are = record {
  same_count = notes.count ∙ are.same_count;
  few = are.few;
  noted = λ block content is. subst (IsBest content.weight (row_of content)) (sym (notes.others block (away_or_home parts bundles block content vacant is))) (are.noted block content is);
}

pub homes_back : (parts : List (ℕ × Content)) (bundles : List (Option Content)) (keys new : List (Option Key)) → ((other : ℕ) → is_some (content_in parts other) ≡ true → other < length bundles) → NotesKeys parts keys new
    → AreHomes (record { bundles = bundles; keys = keys }) → AreHomes (record { bundles = put_back parts bundles; keys = new })
homes_back parts bundles keys new below notes are = record {
  same_count = notes.count ∙ are.same_count ∙ sym (put_back_length parts bundles);
  few = subst (λ n. n < 2 ^ 32) (sym (put_back_length parts bundles)) are.few;
  noted = λ block content is. which block content (content_in parts block) refl (sym (put_back_at parts bundles block (by_found (λ n. n < length bundles) parts below)) ∙ is);
}
  where
    which : (block : ℕ) (content : Content) (found : Option Content) → content_in parts block ≡ found → option_or (content_in parts block) (get_or bundles block None) ≡ Some content
        → IsBest content.weight (row_of content) (get_or new block None)
    which block content None e is = subst (IsBest content.weight (row_of content)) (sym (notes.others block e))
        (are.noted block content (sym (ap (λ f. option_or f (get_or bundles block None)) e) ∙ is))
    which block content (Some other) e is = notes.noted block content (e ∙ sym (ap (λ f. option_or f (get_or bundles block None)) e) ∙ is)

-- ---- one bundle is changed

pub homes_set : (bundles : List (Option Content)) (keys : List (Option Key)) (block : ℕ) (place : Option Content) (content : Content) (key : Option Key) → block < length bundles → place ≡ Some content
    → IsBest content.weight (row_of content) key → AreHomes (record { bundles = bundles; keys = keys }) → AreHomes (record { bundles = set bundles block place; keys = set keys block key })
homes_set bundles keys block place content key within is best are = record {
  same_count = length-set keys block key ∙ are.same_count ∙ sym (length-set bundles block place);
  few = subst (λ n. n < 2 ^ 32) (sym (length-set bundles block place)) are.few;
  noted = λ other found there. by_cases (other == block)
      (λ e. let same : Some content ≡ Some found = sym is ∙ sym (set_at bundles block other place None within ∙ ap (λ b. cond b place (get_or bundles other None)) e) ∙ there in
      subst (λ (c : Content). IsBest c.weight (row_of c) (get_or (set keys block key) other None)) (let one : content ≡ found = cc in one)
      (subst (IsBest content.weight (row_of content))
      (sym (set_at keys block other key None (subst (λ n. block < n) (sym are.same_count) within) ∙ ap (λ b. cond b key (get_or keys other None)) e)) best))
      (λ e. subst (IsBest found.weight (row_of found))
      (sym (set_at keys block other key None (subst (λ n. block < n) (sym are.same_count) within) ∙ ap (λ b. cond b key (get_or keys other None)) e))
      (are.noted other found (sym (set_at bundles block other place None within ∙ ap (λ b. cond b place (get_or bundles other None)) e) ∙ there)));
}
