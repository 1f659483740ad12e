-- Calls on a shelf, one after another, and what a file then holds of a text.
use Rattle.std.proofs.Common.{◌≡◌, ℕ, suc, ◌+◌, ◌<◌, ◌≤◌, Some, List, [], ◌∷◌, ◌++◌, length, take, drop, slice_get, refl, sym, subst, ap, arith, ◌∙◌}
use Rattle.std.proofs.lemmas.List.{length-append, take-append-drop, take_all}
use Rattle.std.proofs.Math.Seq.{take-suc}
use Rattle.std.proofs.lemmas.Option.{get_or_from_slice_get, slice_get_within}
use Rattle.pb_model.specs.Texts.{line, lines}
use Rattle.pb_print.proofs.Lines.{lines-append, lines-last}
use Rattle.pb_outside.specs.Outside.{Files}
use Rattle.pb_outside.specs.Calls.{HasBytes}
use Rattle.pb_outside.specs.Saves.{HoldsPart, IsWritten}
use Rattle.pb_outside.proofs.Callers.{added_written, part_of_more}
use Rattle.pb_print.specs.Saved.{longest_line, PutsLine, AreLines, AddsLine}

pub begun : (old new : Files) (name : List ℕ) (texts : List (List ℕ)) → new name ≡ Some [] → IsWritten new name [] (lines (take 0 texts))
begun old new name texts e = ([], e, refl)

pub line_written : (files : Files) (name piece new text : List ℕ) (texts : List (List ℕ)) (at : ℕ) → IsWritten files name piece text → (added : List ℕ) × (slice_get texts at ≡ Some added) × (new ≡ piece ++ line added) → AddsLine files name new text texts at
line_written files name piece new text texts at written put =
    (put.0, put.1, added_written files name piece new text (line put.0) put.2 written)

pub line_of_lines : (piece new : List ℕ) (added : List ℕ) → new ≡ piece ++ line added → AreLines piece → AreLines new
line_of_lines piece new added e (texts, is) = (texts ++ added ∷ [], e ∙ ap (λ t. t ++ line added) is ∙ sym (lines-last texts added))

pub one_more : (texts : List (List ℕ)) (at : ℕ) (added : List ℕ) → slice_get texts at ≡ Some added → lines (take (at + 1) texts) ≡ lines (take at texts) ++ line added
one_more texts at added found =
    let within : at < length texts = slice_get_within texts at added found in
    let e : at + 1 ≡ suc at = omega arith in
    ap (λ n. lines (take n texts)) e ∙ ap lines (take-suc texts at added within ∙ ap (λ t. take at texts ++ t ∷ []) (get_or_from_slice_get texts at added added found)) ∙ lines-last (take at texts) added

pub added_next : (files : Files) (name piece : List ℕ) (texts : List (List ℕ)) (at : ℕ) → AddsLine files name piece (lines (take at texts)) texts at → IsWritten files name piece (lines (take (at + 1) texts))
added_next files name piece texts at adds = subst (IsWritten files name piece) (sym (one_more texts at adds.0 adds.1)) adds.2

pub part_of_lines : (files : Files) (name whole : List ℕ) (texts : List (List ℕ)) (at : ℕ) → lines texts ≡ whole → HoldsPart files name (lines (take at texts)) → HoldsPart files name whole
part_of_lines files name whole texts at is part =
    subst (HoldsPart files name) (sym (lines-append (take at texts) (drop at texts)) ∙ ap lines (take-append-drop at texts) ∙ is) (part_of_more files name (lines (take at texts)) (lines (drop at texts)) part)

-- how long the first lines are
pub longer : (texts : List (List ℕ)) (at len more : ℕ) (old new : List ℕ) → old ≡ [] → PutsLine old new texts at → len ≡ length (lines (take at texts)) → more ≡ length new → len + more ≡ length (lines (take (at + 1) texts))
longer texts at len more old new empty puts so_far is =
    let fresh : new ≡ line puts.0 = puts.2 ∙ ap (λ t. t ++ line puts.0) empty in
    let all : length (lines (take (at + 1) texts)) ≡ length (lines (take at texts)) + length (line puts.0) = ap length (one_more texts at puts.0 puts.1) ∙ length-append (lines (take at texts)) (line puts.0) in
    let last : more ≡ length (line puts.0) = is ∙ ap length fresh in
    omega (arith, all, last, so_far)

pub short_line : (old new : List ℕ) (texts : List (List ℕ)) (at more : ℕ) → old ≡ [] → PutsLine old new texts at → more ≡ length new → more ≤ longest_line
short_line old new texts at more empty puts is = let none : length old ≡ 0 = ap length empty in omega (arith, puts.3, is, none)

pub all_lines : (texts : List (List ℕ)) (at : ℕ) → length texts ≤ at → lines (take at texts) ≡ lines texts
all_lines texts at le = ap lines (take_all at texts le)

pub line_full : (old new : List ℕ) (texts : List (List ℕ)) (at : ℕ) → PutsLine old new texts at
    → HasBytes new
line_full old new texts at puts =
    let all = ap length puts.2 ∙ length-append old (line puts.0) in
    let last = length-append puts.0 (10 ∷ []) in
    omega (arith, all, last)
