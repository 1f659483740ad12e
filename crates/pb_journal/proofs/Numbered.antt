-- The lines of a journal's text, by their numbers and one after another.
use Rattle.std.proofs.Common.{◌≡◌, ℕ, zero, suc, ◌+◌, ◌-◌, ◌<◌, ◌≤◌, Option, None, Some, List, [], ◌∷◌, ◌++◌, map, length, slice_get, get_or, refl, sym, subst, ap, arith, ◌∙◌}
use Rattle.std.proofs.lemmas.List.{length-append, length-map}
use Rattle.std.proofs.lemmas.Option.{slice_get-get_or}
use Rattle.pb_model.specs.Texts.{line, lines}
use Rattle.pb_machine.specs.declared.event.Event.{Event}
use Rattle.pb_machine.specs.declared.settings.Settings.{Settings}
use Rattle.pb_print.specs.Saved.{longest_line, PutsLine}
use Rattle.pb_print.proofs.Callers.{lines-append, get_right, puts_left}
use Rattle.pb_journal.specs.Texts.{header_lines, event_line, journal_text, lines_of}

pub lines_are_text : (settings : Settings) (journal : List Event)
    → lines (lines_of settings journal) ≡ journal_text settings journal
lines_are_text settings journal = lines-append (header_lines settings) (map event_line journal)

pub lines_counted : (settings : Settings) (journal : List Event)
    → length (lines_of settings journal) ≡ 6 + length journal
lines_counted settings journal =
    let six : length (header_lines settings) ≡ 6 = refl in
    let all = length-append (header_lines settings) (map event_line journal) in
    let events = length-map journal event_line in
    omega (arith, all, six, events)

-- ---- a line that was put

pub setting_put : (old new : List ℕ) (settings : Settings) (at number : ℕ) (text : List ℕ)
    → at ≡ number → slice_get (header_lines settings) number ≡ Some text
    → new ≡ old ++ line text → length new ≤ length old + longest_line
    → PutsLine old new (header_lines settings) at
setting_put old new settings at number text same there put short =
    (text, subst (λ n. slice_get (header_lines settings) n ≡ Some text) (sym same) there, put, short)

pub setting_line_put : (old new : List ℕ) (settings : Settings) (journal : List Event) (at : ℕ)
    → PutsLine old new (header_lines settings) at → PutsLine old new (lines_of settings journal) at
setting_line_put old new settings journal at puts =
    puts_left old new (header_lines settings) (map event_line journal) at puts

event_of : (journal : List Event) (at : ℕ) (event : Event) → slice_get journal at ≡ Some event
    → slice_get (map event_line journal) at ≡ Some (event_line event)
event_of [] at event is = absurd (none_some event is)
  where
    none_some : (event : Event) → ◌≡◌ {A = Option Event} None (Some event) → ⊥
    none_some event e = cc
event_of (first ∷ journal) zero event is =
    let same : first ≡ event = cc in ap (λ e. Some (event_line e)) same
event_of (first ∷ journal) (suc at) event is = event_of journal at event is

pub event_line_put : (old new : List ℕ) (settings : Settings) (journal : List Event) (at : ℕ)
    (event : Event) → 6 ≤ at → slice_get journal (at - 6) ≡ Some event
    → new ≡ old ++ line (event_line event) → length new ≤ length old + longest_line
    → PutsLine old new (lines_of settings journal) at
event_line_put old new settings journal at event past found put short = (
  event_line event,
  get_right (header_lines settings) (map event_line journal) at (event_line event) past
      (event_of journal (at - 6) event found),
  put,
  short,
)
