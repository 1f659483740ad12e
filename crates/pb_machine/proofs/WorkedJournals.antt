-- The worked journals compute to their answers.
use Rattle.std.proofs.Common.{rules, ◌≡◌, ℕ, zero, suc, ◌<◌, true, List, [], ◌∷◌, ◌++◌, Option, Some, None, IsSome, refl, sym, subst, arith, true≢false}
use Rattle.pb_machine.specs.declared.event.End.{End}
use Rattle.pb_machine.specs.declared.event.End.TheVariants.{Quiet, Budget, Memory}
use Rattle.pb_machine.specs.declared.event.Event.{Event}
use Rattle.pb_machine.specs.declared.event.Event.TheVariants.{Off, Ended}
use Rattle.pb_machine.specs.declared.settings.Settings.{Settings}
use Rattle.pb_machine.specs.Settings.{AreInRange}
use Rattle.pb_machine.specs.Blocks.{Blocks}
use Rattle.pb_machine.specs.Counts.{Counts, opening_counts}
use Rattle.pb_machine.specs.History.{replay, AreFinished}
use Rattle.pb_machine.specs.Worked.{nine_cells, one_worker, nine_cells_journal, with_hot, visit, later_visits, ending, corridor, short_budget, corridor_journal, two_workers, two_workers_journal, both_report}
use Rattle.pb_machine.specs.JournalLaws.{WorkedJournalsAreLegal, WorkedJournalsAreRefused}

abbrev counts_of : Settings → Option Counts → Counts
counts_of settings None = opening_counts settings 0
counts_of settings (Some counts) = counts

abbrev pub after : Blocks → Settings → List Event → Counts
after blocks settings journal = counts_of settings (replay blocks settings (opening_counts settings 0) journal)

in_range : AreInRange one_worker
in_range = record {
  workers = (omega arith, omega arith);
  weight = record { positive = omega arith; at_least_one = omega arith; small = omega arith };
  budget = (omega arith, omega arith);
  lot = (omega arith, omega arith);
  wish = (omega arith, omega arith);
  pattern = omega arith;
}

two_in_range : AreInRange two_workers
two_in_range = record {
  workers = (omega arith, omega arith);
  weight = in_range.weight;
  budget = in_range.budget;
  lot = in_range.lot;
  wish = in_range.wish;
  pattern = in_range.pattern;
}

short_in_range : AreInRange short_budget
short_in_range = record {
  workers = (omega arith, omega arith);
  weight = record { positive = omega arith; at_least_one = omega arith; small = omega arith };
  budget = (omega arith, omega arith);
  lot = (omega arith, omega arith);
  wish = (omega arith, omega arith);
  pattern = omega arith;
}

-- an end stands, and the one worker has signed off, or both have
finished : (settings : Settings) (counts : Counts) (end : End) → settings.workers ≡ 1 → counts.end ≡ Some end → counts.signed_off 0 ≡ true → AreFinished settings counts
finished settings counts which one end off = record {
  end = subst IsSome (sym end) (search rules);
  signed_off = λ worker less. let first : worker ≡ 0 = omega (arith, one, less) in subst (λ k. counts.signed_off k ≡ true) (sym first) off;
}

both_finished : (counts : Counts) (end : End) → counts.end ≡ Some end → counts.signed_off 0 ≡ true → counts.signed_off 1 ≡ true → AreFinished two_workers counts
both_finished counts which end first second = record { end = subst IsSome (sym end) (search rules); signed_off = off }
  where
    off : (worker : ℕ) → worker < 2 → counts.signed_off worker ≡ true
    off zero less = first
    off (suc zero) less = second
    off (suc (suc worker)) less = absurd (omega arith)

pub worked_journals_are_legal : WorkedJournalsAreLegal
worked_journals_are_legal = (
  (refl, (after nine_cells one_worker nine_cells_journal, record { range = in_range; enough = omega arith; replays = refl }, finished one_worker (after nine_cells one_worker nine_cells_journal) Quiet refl refl refl, refl, refl)),
  (refl, (after nine_cells one_worker (with_hot 1), record { range = in_range; enough = omega arith; replays = refl }, finished one_worker (after nine_cells one_worker (with_hot 1)) Quiet refl refl refl, refl, refl)),
  (
    after nine_cells one_worker (visit 0 1 ++ later_visits ++ Ended Quiet ∷ []),
    record { range = in_range; enough = omega arith; replays = refl },
    λ is. true≢false (sym (is.signed_off 0 (omega arith))),
  ),
  (refl, (after nine_cells one_worker (visit 0 0 ++ ending), record { range = in_range; enough = omega arith; replays = refl }, finished one_worker (after nine_cells one_worker (visit 0 0 ++ ending)) Quiet refl refl refl, refl, refl)),
  (refl, (after nine_cells one_worker (Off 0 true ∷ Ended Memory ∷ []), record { range = in_range; enough = omega arith; replays = refl }, finished one_worker (after nine_cells one_worker (Off 0 true ∷ Ended Memory ∷ [])) Memory refl refl refl, refl, refl)),
  (refl, (after corridor short_budget corridor_journal, record { range = short_in_range; enough = omega arith; replays = refl }, finished short_budget (after corridor short_budget corridor_journal) Budget refl refl refl, refl, refl)),
  (refl, (after nine_cells two_workers two_workers_journal, record { range = two_in_range; enough = omega arith; replays = refl }, both_finished (after nine_cells two_workers two_workers_journal) Quiet refl refl refl, refl, refl)),
  (refl, (after nine_cells two_workers both_report, record { range = two_in_range; enough = omega arith; replays = refl }, both_finished (after nine_cells two_workers both_report) Memory refl refl refl, refl, refl)),
  (
    after nine_cells two_workers (visit 0 0 ++ ending),
    record { range = two_in_range; enough = omega arith; replays = refl },
    λ is. true≢false (sym (is.signed_off 1 (omega arith))),
  ),
)

pub worked_journals_are_refused : WorkedJournalsAreRefused
worked_journals_are_refused = (
  (refl, (refl, (refl, (refl, (refl, (refl, (refl, (refl, (refl, (refl, (refl, (refl, (refl, (refl, (refl, (refl, (refl, (refl, tt)))))))))))))))))),
  (refl, (refl, (refl, (refl, (refl, (refl, (refl, (refl, (refl, (refl, (refl, (refl, (refl, (refl, (refl, (refl, (refl, (refl, (refl, tt))))))))))))))))))),
  (refl, (refl, (refl, (refl, (refl, (refl, (refl, (refl, (refl, (refl, (refl, (refl, (refl, (refl, (refl, (refl, (refl, (refl, (refl, (refl, (refl, (refl, (refl, (refl, (refl, (refl, (refl, (refl, (refl, (refl, (refl, (refl, (refl, (refl, (refl, (refl, tt)))))))))))))))))))))))))))))))))))),
)
