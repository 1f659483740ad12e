-- A text is its lines and what stands after them, and lines are found again.
use Rattle.std.proofs.Common.{◌≡◌, ℕ, Bool, true, false, cond, ◌||◌, ◌==◌, List, [], ◌∷◌, ◌++◌, map, refl, sym, ap, ◌∙◌, append_assoc}
use Rattle.pb_model.specs.Texts.{line, lines}
use Rattle.pb_model.proofs.Callers.{equal}
use Rattle.pb_machine.specs.declared.event.Event.{Event}
use Rattle.pb_journal.specs.Texts.{event_line, events_text, Fits}
use Rattle.pb_journal.specs.Reading.{with_first, lines_in, tail_in}
use Rattle.pb_lines.specs.Words.{has_none}
use Rattle.pb_lines.proofs.Callers.{part_again}
use Rattle.pb_journal.proofs.Splits.{has_end, has_line}
use Rattle.pb_journal.proofs.EventLines.{event_none}

abbrev pub is_some_line : List (List ℕ) → Bool
is_some_line [] = false
is_some_line (text ∷ texts) = true

-- there is a line exactly where some byte ends one
pub ends : (text : List ℕ) → has_end text ≡ is_some_line (lines_in text)
unfolding lines_in
ends [] = refl
ends (b ∷ bs) = go (b == 10) (ends bs)
  where
    with : (texts : List (List ℕ)) → is_some_line texts ≡ is_some_line (with_first b texts)
    with [] = refl
    with (text ∷ texts) = refl

    go : (t : Bool) → has_end bs ≡ is_some_line (lines_in bs) → (t || has_end bs)
        ≡ is_some_line (cond t ([] ∷ lines_in bs) (with_first b (lines_in bs)))
    go true rest = refl
    go false rest = rest ∙ with (lines_in bs)

-- a text is its lines and what stands after them
pub text_is : (text : List ℕ) → text ≡ lines (lines_in text) ++ tail_in text
unfolding lines_in tail_in
text_is [] = refl
text_is (b ∷ bs) = go (b == 10) refl (lines_in bs) refl (text_is bs) (has_end bs) refl (ends bs)
  where
    go : (t : Bool) → (b == 10) ≡ t → (texts : List (List ℕ)) → lines_in bs ≡ texts → bs
        ≡ lines (lines_in bs) ++ tail_in bs → (some : Bool) → has_end bs ≡ some → has_end bs
        ≡ is_some_line (lines_in bs)
        → b ∷ bs ≡ lines (cond t ([] ∷ lines_in bs) (with_first b (lines_in bs)))
        ++ cond (t || has_end bs) (tail_in bs) (b ∷ bs)
    go true e texts are rest some is both =
        ap (λ (n : ℕ). n ∷ bs) (equal b 10 e) ∙ ap (λ (t : List ℕ). 10 ∷ t) rest
    go false e [] are rest some is both =
        let none : has_end bs ≡ false = both ∙ ap is_some_line are in
        sym (ap (λ (ls : List (List ℕ)). lines (with_first b ls)
        ++ cond (has_end bs) (tail_in bs) (b ∷ bs)) are
        ∙ ap (λ r. cond r (tail_in bs) (b ∷ bs)) none)
    go false e (text ∷ texts) are rest some is both =
        let there : has_end bs ≡ true = both ∙ ap is_some_line are in
        ap (λ (t : List ℕ). b ∷ t) (rest ∙ ap (λ (ls : List (List ℕ)). lines ls ++ tail_in bs) are)
        ∙ sym (ap
        (λ (ls : List (List ℕ)). lines (with_first b ls)
        ++ cond (has_end bs) (tail_in bs) (b ∷ bs)) are
        ∙ ap (λ r. lines (with_first b (text ∷ texts)) ++ cond r (tail_in bs) (b ∷ bs)) there)

-- a line without an end in it is found again
pub line_found : (first rest : List ℕ) → has_none 10 first ≡ true
    → (lines_in (line first ++ rest) ≡ first ∷ lines_in rest)
    × (tail_in (line first ++ rest) ≡ tail_in rest)
line_found first rest none =
    let joined : line first ++ rest ≡ first ++ 10 ∷ rest = append_assoc first (10 ∷ []) rest in
    let found = has_line (first ++ 10 ∷ rest) first rest (part_again 10 first rest none) in
    (ap lines_in joined ∙ found.0, ap tail_in joined ∙ found.1)

-- events whose numbers can be stated
abbrev pub AllFit : List Event → Type 0
AllFit [] = Unit {0}
AllFit (event ∷ events) = Fits event × AllFit events

-- the lines of events are found again, with nothing after them
pub events_found : (journal : List Event) → AllFit journal
    → (lines_in (events_text journal) ≡ map event_line journal)
    × (tail_in (events_text journal) ≡ [])
unfolding lines_in tail_in
events_found [] fit = (refl, refl)
events_found (event ∷ journal) fit =
    let first = line_found (event_line event) (events_text journal) (event_none event fit.0) in
    let rest = events_found journal fit.1 in
    (first.0 ∙ ap (λ (ls : List (List ℕ)). event_line event ∷ ls) rest.0, first.1 ∙ rest.1)
