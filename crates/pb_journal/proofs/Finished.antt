-- A journal is accepted exactly where it is the text of a finished legal history.
use Rattle.std.proofs.Common.{◌≡◌, ℕ, ◌+◌, ◌≤◌, Bool, true, false, cond, not, ◌&&◌, ◌==◌, is_some, length, List, [], ◌∷◌, ◌++◌, map, Option, None, Some, Ok, refl, sym, ap, ◌∙◌, arith, true≢false, append-nil}
use Rattle.std.proofs.lemmas.List.{length-map, nil_from_length}
use Rattle.std.proofs.lemmas.Bool.{eqb-true}
use Rattle.pb_model.specs.Texts.{lines}
use Rattle.pb_model.specs.Weight.{IsWeight}
use Rattle.pb_model.proofs.Callers.{and_true, not_false, not_true}
use Rattle.pb_machine.specs.declared.event.Event.{Event}
use Rattle.pb_machine.specs.declared.event.Event.TheVariants.{Lease, Renew, Hot, Cold, Release, Off, Ended}
use Rattle.pb_machine.specs.declared.event.EventRefusal.{EventRefusal}
use Rattle.pb_machine.specs.declared.settings.Settings.{Settings}
use Rattle.pb_machine.specs.Settings.{AreInRange, settings_with_weight}
use Rattle.pb_machine.specs.Tables.{any_below}
use Rattle.pb_machine.specs.Blocks.{Blocks}
use Rattle.pb_machine.specs.Counts.{Counts, opening_counts, counts_after, AreLawful}
use Rattle.pb_machine.specs.Legality.{refusal}
use Rattle.pb_machine.specs.History.{replay, IsHistory, AreFinished}
use Rattle.pb_machine.proofs.Callers.{any_none, any_some, event_keeps, opening_lawful, some_counts, replay_first, first_may, histories_have_any_weight}
use Rattle.pb_journal.specs.declared.error.Why.TheVariants.{Spelling, Short}
use Rattle.pb_journal.specs.Faults.{◌>>=◌, fault_at}
use Rattle.pb_journal.specs.Texts.{event_line, header_text, events_text, journal_text, Fits}
use Rattle.pb_journal.specs.Reading.{event_in, lines_in, tail_in, header_of}
use Rattle.pb_journal.specs.Judging.{settings_of, unless_refused, after_line, after_lines, are_finished, end_fault, events_of, judged}
use Rattle.pb_journal.specs.Shown.{one, IsFinishedJournal, AcceptedJournalsAreFinished, WrittenJournalsAreAccepted}
use Rattle.pb_journal.proofs.Allowed.{lease_allowed, renewal_allowed, hot_allowed, cold_allowed, release_allowed, off_allowed}
use Rattle.pb_journal.proofs.Chains.{bind_ok, ok_is}
use Rattle.pb_journal.proofs.EventLines.{event_spelled, event_again}
use Rattle.pb_journal.proofs.HeaderLines.{header_is, header_again}
use Rattle.pb_journal.proofs.WholeTexts.{AllFit, text_is, events_found}

-- ---- what an end of the text says

pub finished_is : (settings : Settings) (counts : Counts) → are_finished settings counts ≡ true
    → AreFinished settings counts
finished_is settings counts h =
    let both =
    and_true (is_some counts.end)
    (not (any_below settings.workers (λ worker. not (counts.signed_off worker)))) h in
    record {
      end = both.0;
      signed_off =
          λ worker less. not_false (counts.signed_off worker)
          (any_none settings.workers worker (λ worker. not (counts.signed_off worker))
          (not_true _ both.1) less);
    }

pub is_finished : (settings : Settings) (counts : Counts) → AreFinished settings counts
    → are_finished settings counts ≡ true
is_finished settings counts is =
    go (is_some counts.end)
    (any_below settings.workers (λ worker. not (counts.signed_off worker))) is.end refl
  where
    go : (some any : Bool) → some ≡ true
        → any_below settings.workers (λ worker. not (counts.signed_off worker)) ≡ any
        → (some && not any) ≡ true
    go true false e at = refl
    go true true e at =
        let some = any_some settings.workers (λ worker. not (counts.signed_off worker)) at in
        absurd (true≢false (sym (ap not (sym (is.signed_off some.0 some.1)) ∙ some.2)))
    go false any e at = absurd (true≢false (sym e))

end_ok : (settings : Settings) (counts : Counts) (line : ℕ) (tail : List ℕ) (x : Bool)
    → end_fault settings counts line tail ≡ Ok x → (tail ≡ []) × AreFinished settings counts
end_ok settings counts line tail x e =
    go (length tail == 0) refl (are_finished settings counts) refl e
  where
    go : (none : Bool) → (length tail == 0) ≡ none → (done : Bool) → are_finished settings counts
        ≡ done
        → cond none (cond done (Ok true) (fault_at line Short)) (fault_at line Spelling) ≡ Ok x
        → (tail ≡ []) × AreFinished settings counts
    go true none true done e =
        (nil_from_length tail (eqb-true _ _ none), finished_is settings counts done)
    go true none false done e = absurd cc
    go false none done is e = absurd cc

end_again : (settings : Settings) (counts : Counts) (line : ℕ) → AreFinished settings counts
    → end_fault settings counts line [] ≡ Ok true
end_again settings counts line is =
    ap (λ r. cond r (Ok true) (fault_at line Short)) (is_finished settings counts is)

-- ---- the lines of events

module _ (blocks : Blocks) (settings : Settings) where
  not_refused : (line : ℕ) (o : Option EventRefusal) (after next : Counts) → unless_refused line o after
      ≡ Ok next → (o ≡ None) × (after ≡ next)
  not_refused line None after next e = (refl, ok_is after next e)
  not_refused line (Some why) after next e = absurd cc

  -- the events that lines spell
  pub lines_replayed : (texts : List (List ℕ)) (counts last : Counts) (line : ℕ)
      → after_lines blocks settings counts line texts ≡ Ok last
      → (journal : List Event) × (texts ≡ map event_line journal)
      × (replay blocks settings counts journal ≡ Some last)
  unfolding after_lines after_line
  lines_replayed [] counts last line e =
      ([], refl, ap (λ (c : Counts). Some c) (ok_is counts last e))
  lines_replayed (text ∷ texts) counts last line e =
      let a = bind_ok (after_line blocks settings counts line text) _ last e in
      let b = bind_ok (event_in line text) _ a.0 a.1 in
      let may =
      not_refused line (refusal blocks settings counts b.0)
      (counts_after blocks settings counts b.0) a.0 b.2 in
      let rest = lines_replayed texts a.0 last (line + 1) a.2 in
      let spelled = event_spelled line text b.0 b.1 in (
        b.0 ∷ rest.0,
        ap (λ (t : List ℕ). t ∷ texts) spelled.text
            ∙ ap (λ (ts : List (List ℕ)). event_line b.0 ∷ ts) rest.1,
        replay_first blocks settings counts b.0 rest.0 may.0
            ∙ ap (λ (c : Counts). replay blocks settings c rest.0) may.1 ∙ rest.2,
      )

  -- lines of events that replay are read
  pub replayed_again : (journal : List Event) (counts last : Counts) (line : ℕ) → AllFit journal
      → replay blocks settings counts journal ≡ Some last
      → after_lines blocks settings counts line (map event_line journal) ≡ Ok last
  unfolding after_lines after_line
  replayed_again [] counts last line fit is = ap (λ (c : Counts). Ok c) (some_counts counts last is)
  replayed_again (event ∷ journal) counts last line fit is =
      let may = first_may blocks settings counts last event journal is in
      ap (λ r. r
      >>= (λ e. unless_refused line (refusal blocks settings counts e)
      (counts_after blocks settings counts e))
      >>= λ after. after_lines blocks settings after (line + 1) (map event_line journal))
      (event_again line event fit.0)
      ∙ ap (λ o. unless_refused line o (counts_after blocks settings counts event)
      >>= λ after. after_lines blocks settings after (line + 1) (map event_line journal)) may
      ∙ replayed_again journal (counts_after blocks settings counts event) last (line + 1) fit.1
      (sym (replay_first blocks settings counts event journal may) ∙ is)

  -- the numbers of a legal event can be stated
  event_fits : (counts : Counts) (event : Event) → blocks.count ≤ 4096 → AreInRange settings
      → AreLawful blocks settings counts → refusal blocks settings counts event ≡ None → Fits event
  event_fits counts (Lease worker block quota) few range lawful may =
      let a = lease_allowed blocks settings counts worker block quota may in (
        omega (arith, a.0, range.workers.1),
        omega (arith, a.1, few),
        omega (arith, a.2, range.lot.1),
      )
  event_fits counts (Renew worker used quota) few range lawful may =
      let a = renewal_allowed blocks settings counts worker used quota may in
      let held = lawful.quota worker a.1.0 a.1.1 in (
        omega (arith, a.0, range.workers.1),
        omega (arith, a.1.2, held.1, range.lot.1),
        omega (arith, a.2, range.lot.1),
      )
  event_fits counts (Hot worker block) few range lawful may = let a =
      hot_allowed blocks settings counts worker block may in
      (omega (arith, a.0, range.workers.1), omega (arith, a.1, few))
  event_fits counts (Cold worker block) few range lawful may = let a =
      cold_allowed blocks settings counts worker block may in
      (omega (arith, a.0, range.workers.1), omega (arith, a.1, few))
  event_fits counts (Release worker used memory) few range lawful may =
      let a = release_allowed blocks settings counts worker used memory may in
      let held = lawful.quota worker a.1.0 a.1.1 in
      (omega (arith, a.0, range.workers.1), omega (arith, a.1.2, held.1, range.lot.1))
  event_fits counts (Off worker memory) few range lawful may = let a =
      off_allowed blocks settings counts worker memory may in omega (arith, a, range.workers.1)
  event_fits counts (Ended end) few range lawful may = tt

  pub history_fits : (journal : List Event) (counts last : Counts) → blocks.count ≤ 4096
      → AreInRange settings → AreLawful blocks settings counts
      → replay blocks settings counts journal ≡ Some last → AllFit journal
  history_fits [] counts last few range lawful is = tt
  history_fits (event ∷ journal) counts last few range lawful is =
      let may = first_may blocks settings counts last event journal is in (
        event_fits counts event few range lawful may,
        history_fits journal (counts_after blocks settings counts event) last few range
            (event_keeps blocks settings counts event lawful may)
            (sym (replay_first blocks settings counts event journal may) ∙ is),
      )

-- ---- all together

pub is_accepted : (blocks : Blocks) (bytes : List ℕ) (events : ℕ) → judged blocks bytes ≡ Ok events
    → IsFinishedJournal blocks bytes events
unfolding judged events_of
is_accepted blocks bytes events e =
    let h = bind_ok (header_of bytes) _ events e in
    let header = header_is bytes h.0 h.1 in
    let settings : Settings = h.0.0 in
    let rest : List ℕ = h.0.1 in
    let a = bind_ok
    (after_lines blocks settings (opening_counts settings 0) 7 (lines_in rest)) _ events h.2 in
    let b = bind_ok
    (end_fault settings a.0 (7 + length (lines_in rest)) (tail_in rest)) _ events a.2 in
    let j = lines_replayed blocks settings (lines_in rest) (opening_counts settings 0) a.0 7 a.1 in
    let done = end_ok settings a.0 (7 + length (lines_in rest)) (tail_in rest) b.0 b.1 in
    let text : rest ≡ events_text j.0 =
    text_is rest ∙ ap (λ (t : List ℕ). lines (lines_in rest) ++ t) done.0
    ∙ append-nil (lines (lines_in rest)) ∙ ap lines j.1 in
    record {
      settings = settings;
      journal = j.0;
      counts = a.0;
      text = header.text ∙ ap (λ (t : List ℕ). header_text settings ++ t) text;
      legal = record { range = header.range; enough = omega arith; replays = j.2 };
      finished = done.1;
      count = sym (ok_is (length (lines_in rest)) events b.2) ∙ ap length j.1
          ∙ length-map j.0 event_line;
    }

one_is_weight : IsWeight one
one_is_weight = record { positive = omega arith; at_least_one = omega arith; small = omega arith }

text_accepted : (blocks : Blocks) (settings : Settings) (journal : List Event) (counts : Counts)
    → blocks.count ≤ 4096 → IsHistory blocks settings 0 journal counts → AreFinished settings counts
    → judged blocks (journal_text settings journal) ≡ Ok (length journal)
unfolding judged events_of
text_accepted blocks settings journal counts few legal finished =
    let plain : Settings = settings_with_weight settings one in
    let history : IsHistory blocks plain 0 journal counts =
    histories_have_any_weight
    blocks settings one 0 0 journal counts one_is_weight (omega arith) legal in
    let fit : AllFit journal =
    history_fits blocks plain journal (opening_counts plain 0) counts few history.range
    (opening_lawful blocks plain 0 (omega arith)) history.replays in
    let found = events_found journal fit in
    let text : List ℕ = events_text journal in
    ap (λ r. r >>= λ header. events_of blocks header.0 (opening_counts header.0 0) header.1)
    (header_again settings text legal.range)
    ∙ ap (λ (ls : List (List ℕ)). after_lines blocks plain (opening_counts plain 0) 7 ls
    >>= λ after. end_fault plain after (7 + length ls) (tail_in text)
    >>= λ ended. Ok (length ls)) found.0
    ∙ ap (λ r. r
    >>= λ after. end_fault plain after (7 + length (map event_line journal)) (tail_in text)
    >>= λ ended. Ok (length (map event_line journal)))
    (replayed_again blocks plain journal (opening_counts plain 0) counts 7 fit history.replays)
    ∙ ap (λ (t : List ℕ). end_fault plain counts (7 + length (map event_line journal)) t
    >>= λ ended. Ok (length (map event_line journal))) found.1
    ∙ ap (λ r. r >>= λ ended. Ok (length (map event_line journal)))
    (end_again plain counts (7 + length (map event_line journal))
    (record { end = finished.end; signed_off = finished.signed_off }))
    ∙ ap (λ n. Ok n) (length-map journal event_line)

pub accepted_again : (blocks : Blocks) (bytes : List ℕ) (events : ℕ) → blocks.count ≤ 4096
    → IsFinishedJournal blocks bytes events → judged blocks bytes ≡ Ok events
accepted_again blocks bytes events few is =
    ap (judged blocks) is.text
    ∙ text_accepted blocks is.settings is.journal is.counts few is.legal is.finished
    ∙ ap (λ n. Ok n) (sym is.count)

pub accepted_journals_are_finished : AcceptedJournalsAreFinished
accepted_journals_are_finished blocks bytes events =
    (is_accepted blocks bytes events, accepted_again blocks bytes events)

pub settings_again : (settings : Settings) (rest : List ℕ) → AreInRange settings
    → settings_of (header_text settings ++ rest) ≡ Ok (settings_with_weight settings one)
settings_again settings rest range =
    ap (λ r. r >>= λ header. Ok header.0) (header_again settings rest range)

pub written_journals_are_accepted : WrittenJournalsAreAccepted
written_journals_are_accepted blocks settings journal counts few legal finished = (
  text_accepted blocks settings journal counts few legal finished,
  settings_again settings (events_text journal) legal.range,
)
