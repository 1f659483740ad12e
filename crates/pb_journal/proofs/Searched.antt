-- The journals of finished searches are accepted, and those of plain ones have no hot mark.
use Rattle.std.proofs.Common.{◌≡◌, ℕ, ◌≤◌, true, false, List, [], ◌∷◌, map, None, Some, Ok, refl, sym, subst, ap, ◌∙◌, arith, true≢false}
use Rattle.std.specs.List.{AllByRecursion}
use Rattle.pb_model.proofs.Callers.{or_false}
use Rattle.pb_machine.specs.declared.event.End.TheVariants.{Quiet, Budget, Memory}
use Rattle.pb_machine.specs.declared.event.Event.{Event}
use Rattle.pb_machine.specs.declared.event.Event.TheVariants.{Lease, Renew, Hot, Cold, Release, Off, Ended}
use Rattle.pb_machine.specs.declared.settings.Settings.{Settings}
use Rattle.pb_machine.specs.Settings.{settings_with_weight}
use Rattle.pb_machine.specs.Blocks.{Blocks}
use Rattle.pb_machine.specs.Counts.{Counts, opening_counts, counts_after}
use Rattle.pb_machine.specs.Legality.{refusal}
use Rattle.pb_machine.specs.History.{replay, IsHistory}
use Rattle.pb_machine.specs.Machine.{journal_of, opening_machine}
use Rattle.pb_machine.proofs.Callers.{passes, replay_first, first_may, journals_are_histories}
use Rattle.pb_task.specs.declared.parts.TaskParts.{TaskParts}
use Rattle.pb_abstract.specs.Graph.{AbstractGraph, blocks_of}
use Rattle.pb_abstract.proofs.Callers.{graph_is, graphs_are_unique}
use Rattle.pb_journal.specs.Texts.{event_line, events_text}
use Rattle.pb_journal.specs.Faults.{◌>>=◌}
use Rattle.pb_journal.specs.Reading.{lines_in, header_of}
use Rattle.pb_journal.specs.Judging.{settings_of, after_lines, events_of, judged}
use Rattle.pb_journal.specs.Shown.{one}
use Rattle.pb_journal.specs.Searched.{is_hot, IsAccepted, IsWishedGraph, RunsAreAccepted, SearchesAreAccepted, PlainJournalsHaveNoHot, IsNoHotLine, PlainTextsHaveNoHot}
use Rattle.pb_journal.proofs.Chains.{bind_ok, ok_is}
use Rattle.pb_journal.proofs.HeaderLines.{header_again}
use Rattle.pb_journal.proofs.Finished.{lines_replayed, settings_again, written_journals_are_accepted}

pub runs_are_accepted : RunsAreAccepted
runs_are_accepted setup moves few is =
    let legal : IsHistory setup.blocks setup.settings 0 (journal_of moves) is.machine.counts =
    journals_are_histories setup moves (opening_machine setup) is.machine 0 is.range (omega arith)
    refl is.run in
    let both = written_journals_are_accepted setup.blocks setup.settings (journal_of moves)
    is.machine.counts few legal is.finished in
    record {
      finished = record {
        settings = setup.settings;
        journal = journal_of moves;
        counts = is.machine.counts;
        text = refl;
        legal = legal;
        finished = is.finished;
        count = refl;
      };
      accepted = both.0;
      header = both.1;
    }

-- two graphs of a task by one wish have the same blocks
same_blocks : (parts : TaskParts) (wish : ℕ) (one other : AbstractGraph)
    → IsWishedGraph parts wish one → IsWishedGraph parts wish other
    → blocks_of one ≡ blocks_of other
same_blocks parts wish one other is other_is =
    let same = graphs_are_unique parts wish one other is.graph_of other_is.graph_of is.finest
    other_is.finest in
    λ i. record { count = same.1 i; scope = λ block c. same.2 block c i }

pub searches_are_accepted : SearchesAreAccepted
searches_are_accepted parts setup graph own moves task blocks wished is header read own_wished =
    let wish : setup.settings.wish ≡ header.wish =
    ap (λ (settings : Settings). settings.wish)
    (ok_is (settings_with_weight setup.settings one) header
    (sym (settings_again setup.settings (events_text (journal_of moves)) is.range) ∙ read)) in
    let few : setup.blocks.count ≤ 4096 = subst (λ (b : Blocks). b.count ≤ 4096) (sym blocks)
    (graph_is parts task setup.settings.wish is.range.wish.0 is.range.wish.1 graph wished.graph_of
    wished.finest).few in
    let here : IsWishedGraph parts setup.settings.wish own =
    subst (λ n. IsWishedGraph parts n own) (sym wish) own_wished in
    subst (λ (b : Blocks). IsAccepted b setup.settings (journal_of moves))
    (blocks ∙ same_blocks parts setup.settings.wish graph own wished here)
    (runs_are_accepted setup moves few is)

-- ---- plain searches

module _ (blocks : Blocks) (settings : Settings) (plain : settings.plain ≡ true) where
  cold_event : (counts : Counts) (event : Event) → refusal blocks settings counts event ≡ None
      → is_hot event ≡ false
  cold_event counts (Lease worker block quota) may = refl
  cold_event counts (Renew worker used quota) may = refl
  cold_event counts (Hot worker block) may =
      let tests = passes blocks settings counts (Hot worker block) may in
      absurd (true≢false (sym plain ∙ (or_false settings.plain _ tests.1.1.1.1.0).0))
  cold_event counts (Cold worker block) may = refl
  cold_event counts (Release worker used memory) may = refl
  cold_event counts (Off worker memory) may = refl
  cold_event counts (Ended end) may = refl

  cold_events : (journal : List Event) (counts end : Counts)
      → replay blocks settings counts journal ≡ Some end
      → AllByRecursion (λ event. is_hot event ≡ false) journal
  cold_events [] counts end is = tt
  cold_events (event ∷ journal) counts end is =
      let may = first_may blocks settings counts end event journal is in (
        cold_event counts event may,
        cold_events journal (counts_after blocks settings counts event) end
            (sym (replay_first blocks settings counts event journal may) ∙ is),
      )

pub plain_journals_have_no_hot : PlainJournalsHaveNoHot
plain_journals_have_no_hot blocks bytes events accepted header read plain journal =
    let own : journal.settings.plain ≡ header.plain =
    ap (λ (settings : Settings). settings.plain)
    (ok_is (settings_with_weight journal.settings one) header
    (sym (settings_again journal.settings (events_text journal.journal) journal.legal.range)
    ∙ ap settings_of (sym journal.text) ∙ read)) in
    cold_events blocks journal.settings (own ∙ plain) journal.journal
    (opening_counts journal.settings 0) journal.counts journal.legal.replays

-- ---- and no line of one

abbrev first_byte : List ℕ → ℕ
first_byte [] = 0
first_byte (b ∷ bs) = b

cold_line : (event : Event) → is_hot event ≡ false → IsNoHotLine (event_line event)
cold_line (Lease worker block quota) cold own other is =
    let e : 108 ≡ 104 = ap first_byte is in absurd (omega (arith, e))
cold_line (Renew worker used quota) cold own other is =
    let e : 114 ≡ 104 = ap first_byte is in absurd (omega (arith, e))
cold_line (Hot worker block) cold own other is = absurd (true≢false cold)
cold_line (Cold worker block) cold own other is =
    let e : 99 ≡ 104 = ap first_byte is in absurd (omega (arith, e))
cold_line (Release worker used memory) cold own other is =
    let e : 114 ≡ 104 = ap first_byte is in absurd (omega (arith, e))
cold_line (Off worker memory) cold own other is =
    let e : 111 ≡ 104 = ap first_byte is in absurd (omega (arith, e))
cold_line (Ended Quiet) cold own other is =
    let e : 101 ≡ 104 = ap first_byte is in absurd (omega (arith, e))
cold_line (Ended Budget) cold own other is =
    let e : 101 ≡ 104 = ap first_byte is in absurd (omega (arith, e))
cold_line (Ended Memory) cold own other is =
    let e : 101 ≡ 104 = ap first_byte is in absurd (omega (arith, e))

cold_lines : (journal : List Event) → AllByRecursion (λ event. is_hot event ≡ false) journal
    → AllByRecursion IsNoHotLine (map event_line journal)
cold_lines [] cold = tt
cold_lines (event ∷ journal) cold = (cold_line event cold.0, cold_lines journal cold.1)

-- the lines after the header that was read
lines_after : (blocks : Blocks) (bytes : List ℕ) (events : ℕ) → judged blocks bytes ≡ Ok events
    → (settings : Settings) (rest : List ℕ) → header_of bytes ≡ Ok (settings, rest)
    → settings.plain ≡ true → AllByRecursion IsNoHotLine (lines_in rest)
unfolding judged events_of
lines_after blocks bytes events accepted settings rest read plain =
    let body : events_of blocks settings (opening_counts settings 0) rest ≡ Ok events =
    sym (ap (λ r. r >>= λ header. events_of blocks header.0 (opening_counts header.0 0) header.1)
    read) ∙ accepted in
    let a = bind_ok
    (after_lines blocks settings (opening_counts settings 0) 7 (lines_in rest)) _ events body in
    let j = lines_replayed blocks settings (lines_in rest) (opening_counts settings 0) a.0 7 a.1 in
    subst (AllByRecursion IsNoHotLine) (sym j.1)
    (cold_lines j.0 (cold_events blocks settings plain j.0 (opening_counts settings 0) a.0 j.2))

pub plain_texts_have_no_hot : PlainTextsHaveNoHot
plain_texts_have_no_hot blocks bytes settings events header plain accepted =
    lines_after blocks bytes events accepted (settings_with_weight settings one) header.rest
    (ap header_of header.text ∙ header_again settings header.rest header.range) plain
