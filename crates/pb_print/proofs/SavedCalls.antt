-- The calls that save a text, line after line, up to the last one or to one that fails.
use Rattle.std.proofs.Common.{◌≡◌, ℕ, ◌+◌, ◌≤◌, Some, List, ◌++◌, length, take, drop, slice_get, sym, subst, ap, arith, ◌∙◌}
use Rattle.std.proofs.lemmas.List.{length-append, take-append-drop}
use Rattle.pb_model.specs.Texts.{line, lines}
use Rattle.pb_print.proofs.Lines.{lines-append}
use Rattle.pb_outside.specs.Calls.{Call}
use Rattle.pb_outside.specs.Saves.{SavesPart, HaveBegun}
use Rattle.pb_outside.proofs.Callers.{added_begun, failed_more}
use Rattle.pb_print.specs.Saved.{CallForLine}
use Rattle.pb_print.proofs.Files.{one_more}

pub call_for_line : (start now : List Call) (name piece new text : List ℕ) (texts : List (List ℕ)) (at : ℕ) → HaveBegun start now name piece text → (added : List ℕ) × (slice_get texts at ≡ Some added) × (new ≡ piece ++ line added) → CallForLine start now name new text texts at
call_for_line start now name piece new text texts at begun put =
    (put.0, put.1, added_begun start now name piece new text (line put.0) put.2 begun)

pub calls_next : (start now : List Call) (name piece : List ℕ) (texts : List (List ℕ)) (at : ℕ) → CallForLine start now name piece (lines (take at texts)) texts at → HaveBegun start now name piece (lines (take (at + 1) texts))
calls_next start now name piece texts at calls = subst (HaveBegun start now name piece) (sym (one_more texts at calls.0 calls.1)) calls.2

lines_and_rest : (whole : List ℕ) (texts : List (List ℕ)) (at : ℕ) → lines texts ≡ whole → lines (take at texts) ++ lines (drop at texts) ≡ whole
lines_and_rest whole texts at is = sym (lines-append (take at texts) (drop at texts)) ∙ ap lines (take-append-drop at texts) ∙ is

pub failed_of_lines : (start now : List Call) (name whole : List ℕ) (texts : List (List ℕ)) (at : ℕ)
    → lines texts ≡ whole → SavesPart start now name (lines (take at texts))
    → SavesPart start now name whole
failed_of_lines start now name whole texts at is failed =
    subst (SavesPart start now name) (lines_and_rest whole texts at is)
    (failed_more start now name (lines (take at texts)) (lines (drop at texts)) failed)

pub lines_within : (whole : List ℕ) (texts : List (List ℕ)) (at : ℕ) → lines texts ≡ whole → length (lines (take at texts)) ≤ length whole
lines_within whole texts at is =
    let all = sym (length-append (lines (take at texts)) (lines (drop at texts))) ∙ ap length (lines_and_rest whole texts at is) in
    omega (arith, all)
