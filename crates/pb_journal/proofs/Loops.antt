-- Reading events one after another, as a loop does.
use Rattle.std.proofs.Common.{◌≡◌, ℕ, suc, ◌+◌, ◌-◌, List, length, Some, None, Ok, Err, sym, ap, ◌∙◌, arith, subst}
use Rattle.pb_machine.specs.declared.settings.Settings.{Settings}
use Rattle.pb_machine.specs.Settings.{AreInRange}
use Rattle.pb_machine.specs.Blocks.{Blocks}
use Rattle.pb_machine.specs.Counts.{Counts, opening_counts, AreLawful}
use Rattle.pb_machine.proofs.Callers.{opening_lawful}
use Rattle.pb_journal.specs.declared.error.Fault.{Fault}
use Rattle.pb_journal.specs.declared.replay.Replay.{Replay}
use Rattle.pb_journal.specs.Faults.{◌>>=◌}
use Rattle.pb_lines.specs.Words.{part}
use Rattle.pb_journal.specs.Reading.{lines_in, tail_in}
use Rattle.pb_journal.specs.Judging.{after_line, after_lines, end_fault, events_of}
use Rattle.pb_journal.specs.Replaying.{counts_of, HasPlaces, IsLawfulReplay}
use Rattle.pb_journal.proofs.Splits.{has_line, has_no_line}

module _ (blocks : Blocks) (settings : Settings) (start counts : Counts) (text rest : List ℕ)
    (line : ℕ)
    (so_far : after_lines blocks settings start 7 (lines_in text)
    ≡ after_lines blocks settings counts line (lines_in rest)) where
  module _ (first after : List ℕ) (is : part 10 rest ≡ Some (first, after)) where
    next_line : after_lines blocks settings start 7 (lines_in text)
        ≡ (after_line blocks settings counts line first
        >>= λ c. after_lines blocks settings c (line + 1) (lines_in after))
    unfolding after_lines
    next_line =
        so_far ∙ ap (after_lines blocks settings counts line) (has_line rest first after is).0

    pub line_read : (next : Counts) → after_line blocks settings counts line first ≡ Ok next
        → after_lines blocks settings start 7 (lines_in text)
        ≡ after_lines blocks settings next (line + 1) (lines_in after)
    line_read next read =
        next_line
        ∙ ap (λ r. r >>= λ c. after_lines blocks settings c (line + 1) (lines_in after)) read

    pub line_fails : (fault : Fault) → after_line blocks settings counts line first ≡ Err fault
        → events_of blocks settings start text ≡ Err fault
    unfolding events_of
    line_fails fault read =
        ap (λ r. r
        >>= λ after. end_fault settings after (7 + length (lines_in text)) (tail_in text)
        >>= λ ended. Ok (length (lines_in text)))
        (next_line
        ∙ ap (λ r. r >>= λ c. after_lines blocks settings c (line + 1) (lines_in after)) read)

    pub same_tail : tail_in text ≡ tail_in rest → tail_in text ≡ tail_in after
    same_tail tail = tail ∙ (has_line rest first after is).1

    pub one_line : (n : ℕ) → line + length (lines_in rest) ≡ n → line + 1 + length (lines_in after)
        ≡ n
    one_line n many = let more : length (lines_in rest) ≡ suc (length (lines_in after)) =
        ap length (has_line rest first after is).0 in omega (arith, many, more)

  module _ (is : part 10 rest ≡ None) (tail : tail_in text ≡ tail_in rest)
      (many : line + length (lines_in rest) ≡ 7 + length (lines_in text)) where
    at_end : 7 + length (lines_in text) ≡ line
    at_end = let none : length (lines_in rest) ≡ 0 =
        ap length (has_no_line rest is).0 in omega (arith, many, none)

    last_line : events_of blocks settings start text
        ≡ (end_fault settings counts line rest >>= λ ended. Ok (length (lines_in text)))
    unfolding events_of after_lines
    last_line =
        ap (λ r. r
        >>= λ after. end_fault settings after (7 + length (lines_in text)) (tail_in text)
        >>= λ ended. Ok (length (lines_in text)))
        (so_far ∙ ap (after_lines blocks settings counts line) (has_no_line rest is).0)
        ∙ ap (λ n. end_fault settings counts n (tail_in text)
        >>= λ ended. Ok (length (lines_in text))) at_end
        ∙ ap (λ (t : List ℕ). end_fault settings counts line t
        >>= λ ended. Ok (length (lines_in text))) (tail ∙ (has_no_line rest is).1)

    pub end_fails : (fault : Fault) → end_fault settings counts line rest ≡ Err fault
        → events_of blocks settings start text ≡ Err fault
    end_fails fault read = last_line ∙ ap (λ r. r >>= λ ended. Ok (length (lines_in text))) read

    pub all_read : {ended : _} → end_fault settings counts line rest ≡ Ok ended
        → events_of blocks settings start text ≡ Ok (line - 7)
    all_read {ended} read =
        let all : length (lines_in text) ≡ line - 7 = let e = at_end in omega (arith, e) in
        last_line ∙ ap (λ r. r >>= λ ended. Ok (length (lines_in text))) read ∙ ap (λ n. Ok n) all

-- a replay begins lawful
pub begins_lawful : (blocks : Blocks) (settings : Settings) (replay : Replay) → AreInRange settings
    → HasPlaces blocks settings replay → counts_of replay ≡ opening_counts settings 0
    → IsLawfulReplay blocks settings replay
begins_lawful blocks settings replay range places is =
    record {
      places = places;
      range = range;
      lawful =
          subst (AreLawful blocks settings) (sym is)
          (opening_lawful blocks settings 0 (omega arith));
    }
