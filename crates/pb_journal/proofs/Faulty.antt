-- What a refusal of a line after the header means.
use Rattle.std.proofs.Common.{◌≡◌, ◌⊎◌, inl, inr, ℕ, ◌+◌, Bool, true, false, cond, ◌==◌, length, List, [], ◌∷◌, ◌++◌, map, Option, None, Some, Result, Ok, Err, refl, sym, ap, ◌∙◌, arith, true≢false, append-nil}
use Rattle.std.specs.Prelude.{codes}
use Rattle.std.proofs.lemmas.List.{length-map, nil_from_length}
use Rattle.std.proofs.lemmas.Bool.{eqb-true}
use Rattle.pb_machine.specs.declared.event.End.TheVariants.{Quiet, Budget, Memory}
use Rattle.pb_machine.specs.declared.event.Event.{Event}
use Rattle.pb_machine.specs.declared.event.Event.TheVariants.{Lease, Renew, Hot, Cold, Release, Off, Ended}
use Rattle.pb_machine.specs.declared.event.EventRefusal.{EventRefusal}
use Rattle.pb_machine.specs.declared.settings.Settings.{Settings}
use Rattle.pb_machine.specs.Blocks.{Blocks}
use Rattle.pb_machine.specs.Counts.{Counts, opening_counts, counts_after}
use Rattle.pb_machine.specs.Legality.{refusal}
use Rattle.pb_machine.specs.History.{replay}
use Rattle.pb_machine.proofs.Callers.{replay_first}
use Rattle.pb_journal.specs.declared.error.Fault.{Fault}
use Rattle.pb_journal.specs.declared.error.Why.TheVariants.{Spelling, Short}
use Rattle.pb_journal.specs.Faults.{◌>>=◌, fault_at, wanted, why_of}
use Rattle.pb_lines.specs.Words.{part, behind, is_text, number_of}
use Rattle.pb_journal.specs.Texts.{event_line}
use Rattle.pb_journal.specs.Reading.{by_word, number_before, report_in, lease_in, renewal_in, hot_in, cold_in, release_in, off_in, end_in, event_in, lines_in, tail_in, header_of}
use Rattle.pb_journal.specs.Judging.{settings_of, unless_refused, after_line, after_lines, are_finished, end_fault, events_of, judged}
use Rattle.pb_journal.specs.Shown.{IsCause, IsFirstFault, RefusedLinesAreFirst}
use Rattle.pb_journal.proofs.Chains.{ok_is}
use Rattle.pb_journal.proofs.EventLines.{event_spelled, event_again}
use Rattle.pb_journal.proofs.HeaderLines.{header_is}
use Rattle.pb_journal.proofs.Finished.{is_finished, lines_replayed}

err_is : {A : Type 0} (f g : Fault) → ◌≡◌ {A = Result A Fault} (Err f) (Err g) → f ≡ g
err_is f g e = cc

-- ---- a line that is no event's is misspelled

abbrev misspelled : (line : ℕ) → Fault
misspelled line = record { line = line; why = Spelling }

-- where this fails, the line is misspelled
abbrev Misspells : {A : Type 0} → (line : ℕ) → Result A Fault → Type 0
Misspells {A} line r = (f : Fault) → r ≡ Err f → f ≡ misspelled line

module _ (line : ℕ) where
  no_fault : {A : Type 0} (x : A) → Misspells line (Ok x)
  no_fault x f e = absurd cc

  own_fault : {A : Type 0} → Misspells {A = A} line (fault_at line Spelling)
  own_fault {A} f e = sym (err_is {A = A} (misspelled line) f e)

  of_wanted : {A : Type 0} (o : Option A) → Misspells line (wanted line o)
  of_wanted {A} None = own_fault {A = A}
  of_wanted (Some x) = no_fault x

  of_choice : {A : Type 0} (b : Bool) (r s : Result A Fault) → Misspells line r → Misspells line s
      → Misspells line (cond b r s)
  of_choice true r s one two = one
  of_choice false r s one two = two

  of_chain : {A B : Type 0} (r : Result A Fault) (next : A → Result B Fault) → Misspells line r
      → ((x : A) → Misspells line (next x)) → Misspells line (r >>= next)
  of_chain (Ok x) next one rest = rest x
  of_chain {A} {B} (Err g) next one rest = λ f e. sym (err_is {A = B} g f e) ∙ one g refl

  of_before : (words : List ℕ) → Misspells line (number_before line words)
  unfolding number_before
  of_before words =
      of_chain (wanted line (part 32 words)) _ (of_wanted (part 32 words))
      (λ parts. of_chain (wanted line (number_of parts.0)) _ (of_wanted (number_of parts.0))
      (λ n. no_fault (n, parts.1)))

  of_report : (word : List ℕ) → Misspells line (report_in line word)
  unfolding report_in
  of_report word =
      of_choice (is_text (codes "ok") word) (Ok false) _ (no_fault false)
      (of_choice (is_text (codes "memory") word) (Ok true) (fault_at line Spelling) (no_fault true)
      (own_fault {A = Bool}))

  of_word : (o : Option (List ℕ)) (f : List ℕ → Result Event Fault) (other : Result Event Fault)
      → ((words : List ℕ) → Misspells line (f words)) → Misspells line other
      → Misspells line (by_word o f other)
  of_word None f other one two = two
  of_word (Some words) f other one two = one words

  of_lease : (words : List ℕ) → Misspells line (lease_in line words)
  unfolding lease_in
  of_lease words =
      of_chain (number_before line words) _ (of_before words)
      (λ a. of_chain (number_before line a.1) _ (of_before a.1)
      (λ b. of_chain (wanted line (number_of b.1)) _ (of_wanted (number_of b.1))
      (λ c. no_fault (Lease a.0 b.0 c))))

  of_renewal : (words : List ℕ) → Misspells line (renewal_in line words)
  unfolding renewal_in
  of_renewal words =
      of_chain (number_before line words) _ (of_before words)
      (λ a. of_chain (number_before line a.1) _ (of_before a.1)
      (λ b. of_chain (wanted line (number_of b.1)) _ (of_wanted (number_of b.1))
      (λ c. no_fault (Renew a.0 b.0 c))))

  of_hot : (words : List ℕ) → Misspells line (hot_in line words)
  unfolding hot_in
  of_hot words =
      of_chain (number_before line words) _ (of_before words)
      (λ a. of_chain (wanted line (number_of a.1)) _ (of_wanted (number_of a.1))
      (λ b. no_fault (Hot a.0 b)))

  of_cold : (words : List ℕ) → Misspells line (cold_in line words)
  unfolding cold_in
  of_cold words =
      of_chain (number_before line words) _ (of_before words)
      (λ a. of_chain (wanted line (number_of a.1)) _ (of_wanted (number_of a.1))
      (λ b. no_fault (Cold a.0 b)))

  of_release : (words : List ℕ) → Misspells line (release_in line words)
  unfolding release_in
  of_release words =
      of_chain (number_before line words) _ (of_before words)
      (λ a. of_chain (number_before line a.1) _ (of_before a.1)
      (λ b. of_chain (report_in line b.1) _ (of_report b.1) (λ m. no_fault (Release a.0 b.0 m))))

  of_off : (words : List ℕ) → Misspells line (off_in line words)
  unfolding off_in
  of_off words =
      of_chain (number_before line words) _ (of_before words)
      (λ a. of_chain (report_in line a.1) _ (of_report a.1) (λ m. no_fault (Off a.0 m)))

  of_end : (text : List ℕ) → Misspells line (end_in line text)
  unfolding end_in
  of_end text =
      of_choice (is_text (codes "end quiet") text) (Ok (Ended Quiet)) _ (no_fault (Ended Quiet))
      (of_choice (is_text (codes "end budget") text) (Ok (Ended Budget)) _ (no_fault (Ended Budget))
      (of_choice (is_text (codes "end memory") text) (Ok (Ended Memory)) (fault_at line Spelling)
      (no_fault (Ended Memory)) (own_fault {A = Event})))

  event_misspelled : (text : List ℕ) → Misspells line (event_in line text)
  unfolding event_in
  event_misspelled text =
      of_word (behind (codes "lease ") text) (lease_in line) _ of_lease
      (of_word (behind (codes "renew ") text) (renewal_in line) _ of_renewal
      (of_word (behind (codes "hot ") text) (hot_in line) _ of_hot
      (of_word (behind (codes "cold ") text) (cold_in line) _ of_cold
      (of_word (behind (codes "release ") text) (release_in line) _ of_release
      (of_word (behind (codes "off ") text) (off_in line) _ of_off (of_end text))))))

-- ---- the first line that can't follow

module _ (blocks : Blocks) (settings : Settings) where
  line_cause : (counts : Counts) (line : ℕ) (text : List ℕ) (later : List (List ℕ)) (tail : List ℕ)
      (fault : Fault) → after_line blocks settings counts line text ≡ Err fault
      → (fault.line ≡ line) × IsCause blocks settings counts (text ∷ later) tail fault.why
  unfolding after_line
  line_cause counts line text later tail fault is = go (event_in line text) refl is
    where
      clash : {A : Type 0} (f : Fault) (x : A) → ◌≡◌ {A = Result A Fault} (Err f) (Ok x) → ⊥
      clash f x e = cc

      refused : (event : Event) → event_in line text ≡ Ok event → (o : Option EventRefusal)
          → refusal blocks settings counts event ≡ o
          → unless_refused line o (counts_after blocks settings counts event) ≡ Err fault
          → (fault.line ≡ line) × IsCause blocks settings counts (text ∷ later) tail fault.why
      refused event read None may e = absurd cc
      refused event read (Some reason) may e =
          let same = err_is {A = Counts} (record { line = line; why = why_of reason }) fault e in (
            sym (ap (λ (f : Fault). f.line) same),
            inr (
              event,
              reason,
              event_spelled line text event read,
              may,
              sym (ap (λ (f : Fault). f.why) same),
            ),
          )

      go : (r : Result Event Fault) → event_in line text ≡ r
          → (r >>= λ event. unless_refused line (refusal blocks settings counts event)
          (counts_after blocks settings counts event)) ≡ Err fault
          → (fault.line ≡ line) × IsCause blocks settings counts (text ∷ later) tail fault.why
      go (Ok event) read e = refused event read (refusal blocks settings counts event) refl e
      go (Err other) read e =
          let same = err_is {A = Counts} other fault e in
          let spelling = sym same ∙ event_misspelled line text other read in (
            ap (λ (f : Fault). f.line) spelling,
            inl (
              λ event spelled. clash other event
                  (sym read ∙ ap (event_in line) spelled.text ∙ event_again line event spelled.fits),
              ap (λ (f : Fault). f.why) spelling,
            ),
          )

  record IsLineFault (counts : Counts) (line : ℕ) (texts : List (List ℕ)) (tail : List ℕ)
      (fault : Fault) : Type 0 where
    journal : List Event
    others : List (List ℕ)
    lines_are : texts ≡ map event_line journal ++ others
    between : Counts
    replays : replay blocks settings counts journal ≡ Some between
    line_is : fault.line ≡ line + length journal
    cause : IsCause blocks settings between others tail fault.why

  lines_fail : (texts : List (List ℕ)) (counts : Counts) (line : ℕ) (tail : List ℕ) (fault : Fault)
      → after_lines blocks settings counts line texts ≡ Err fault
      → IsLineFault counts line texts tail fault
  unfolding after_lines after_line
  lines_fail [] counts line tail fault e = absurd cc
  lines_fail (text ∷ texts) counts line tail fault e =
      go (after_line blocks settings counts line text) refl
      (λ after rest. lines_fail texts after (line + 1) tail fault rest) e
    where
      go : (r : Result Counts Fault) → after_line blocks settings counts line text ≡ r
          → ((after : Counts) → after_lines blocks settings after (line + 1) texts ≡ Err fault
          → IsLineFault after (line + 1) texts tail fault)
          → (r >>= λ after. after_lines blocks settings after (line + 1) texts) ≡ Err fault
          → IsLineFault counts line (text ∷ texts) tail fault
      go (Err other) read rest e =
          let same = err_is {A = Counts} other fault e in
          let cause =
          line_cause counts line text texts tail fault
          (read ∙ ap (λ (f : Fault). Err f) same) in
          record {
            journal = [];
            others = text ∷ texts;
            lines_are = refl;
            between =
                counts;
            replays = refl;
            line_is = omega (arith, cause.0);
            cause = cause.1;
          }
      go (Ok after) read rest e = grown (event_in line text) refl read
        where
          later : IsLineFault after (line + 1) texts tail fault
          later = rest after e

          grown : (r : Result Event Fault) → event_in line text ≡ r
              → (r >>= λ event. unless_refused line (refusal blocks settings counts event)
              (counts_after blocks settings counts event)) ≡ Ok after
              → IsLineFault counts line (text ∷ texts) tail fault
          grown (Err other) at e = absurd cc
          grown (Ok event) at e =
              let may =
              not_refused (refusal blocks settings counts event)
              (counts_after blocks settings counts event) e in
              record {
                journal = event ∷ later.journal;
                others = later.others;
                lines_are =
                    ap (λ (t : List ℕ). t ∷ texts) (event_spelled line text event at).text
                    ∙ ap (λ (ts : List (List ℕ)). event_line event ∷ ts) later.lines_are;
                between = later.between;
                replays =
                    replay_first blocks settings counts event later.journal may.0
                    ∙ ap (λ (c : Counts). replay blocks settings c later.journal) may.1
                    ∙ later.replays;
                line_is = omega (arith, later.line_is);
                cause = later.cause;
              }
            where
              not_refused : (o : Option EventRefusal) (next : Counts) → unless_refused line o next
                  ≡ Ok after → (o ≡ None) × (next ≡ after)
              not_refused None next e = (refl, ok_is next after e)
              not_refused (Some why) next e = absurd cc

  end_cause : (counts : Counts) (line : ℕ) (tail : List ℕ) (fault : Fault)
      → end_fault settings counts line tail ≡ Err fault → (fault.line ≡ line)
      × IsCause blocks settings counts [] tail fault.why
  end_cause counts line tail fault e =
      go (length tail == 0) refl (are_finished settings counts) refl e
    where
      go : (none : Bool) → (length tail == 0) ≡ none → (done : Bool) → are_finished settings counts
          ≡ done → cond none (cond done (Ok true) (fault_at line Short)) (fault_at line Spelling)
          ≡ Err fault
          → (fault.line ≡ line) × IsCause blocks settings counts [] tail fault.why
      go true none true done e = absurd cc
      go true none false done e =
          let same = err_is {A = Bool} (record { line = line; why = Short }) fault e in (
            sym (ap (λ (f : Fault). f.line) same),
            inl (
              nil_from_length tail (eqb-true _ _ none),
              λ is. true≢false (sym (is_finished settings counts is) ∙ done),
              sym (ap (λ (f : Fault). f.why) same),
            ),
          )
      go false none done is e =
          let same = err_is {A = Bool} (misspelled line) fault e in (
            sym (ap (λ (f : Fault). f.line) same),
            inr (
              λ empty. true≢false (sym (ap (λ (t : List ℕ). length t == 0) empty) ∙ none),
              sym (ap (λ (f : Fault). f.why) same),
            ),
          )

pub refused_lines_are_first : RefusedLinesAreFirst
unfolding judged events_of
refused_lines_are_first blocks bytes fault e = go (header_of bytes) refl e
  where
    in_events : (header : Settings × List ℕ) → header_of bytes ≡ Ok header
        → (r : Result Counts Fault)
        → after_lines blocks header.0 (opening_counts header.0 0) 7 (lines_in header.1) ≡ r
        → (r >>= λ after. end_fault header.0 after (7 + length (lines_in header.1))
        (tail_in header.1) >>= λ ended. Ok (length (lines_in header.1))) ≡ Err fault
        → IsFirstFault blocks bytes fault.line fault.why
    in_events header read (Err other) at e =
        let is = header_is bytes header read in
        let fails =
        lines_fail blocks header.0 (lines_in header.1) (opening_counts header.0 0) 7
        (tail_in header.1) fault
        (at ∙ ap (λ (f : Fault). Err f) (err_is {A = ℕ} other fault e)) in
        record {
          settings = header.0;
          header = record { rest = header.1; text = is.text; range = is.range };
          journal = fails.journal;
          others = fails.others;
          lines_are = fails.lines_are;
          counts = fails.between;
          replays = fails.replays;
          line_is = fails.line_is;
          cause = fails.cause;
        }
    in_events header read (Ok after) at e =
        let is = header_is bytes header read in
        let j = lines_replayed blocks header.0 (lines_in header.1)
        (opening_counts header.0 0) after 7 at in
        let fails =
        end_cause blocks header.0 after (7 + length (lines_in header.1))
        (tail_in header.1) fault
        (ended (end_fault header.0 after (7 + length (lines_in header.1)) (tail_in header.1))
        refl e) in
        let many : length (lines_in header.1) ≡ length j.0 =
        ap length j.1 ∙ length-map j.0 event_line in
        record {
          settings = header.0;
          header = record { rest = header.1; text = is.text; range = is.range };
          journal = j.0;
          others = [];
          lines_are = j.1 ∙ sym (append-nil (map event_line j.0));
          counts = after;
          replays = j.2;
          line_is = omega (arith, fails.0, many);
          cause = fails.1;
        }
      where
        ended : (r : Result Bool Fault)
            → end_fault header.0 after (7 + length (lines_in header.1)) (tail_in header.1) ≡ r
            → (r >>= λ ended. Ok (length (lines_in header.1))) ≡ Err fault
            → end_fault header.0 after (7 + length (lines_in header.1)) (tail_in header.1)
            ≡ Err fault
        ended (Ok x) at e = absurd cc
        ended (Err other) at e = at ∙ ap (λ (f : Fault). Err f) (err_is {A = ℕ} other fault e)

    go : (r : Result (Settings × List ℕ) Fault) → header_of bytes ≡ r
        → (r >>= λ header. events_of blocks header.0 (opening_counts header.0 0) header.1)
        ≡ Err fault
        → (settings_of bytes ≡ Err fault) ⊎ IsFirstFault blocks bytes fault.line fault.why
    go (Err other) read e =
        inl (ap (λ r. r >>= λ header. Ok header.0) read
        ∙ ap (λ (f : Fault). Err f) (err_is {A = ℕ} other fault e))
    go (Ok header) read e =
        inr (in_events header read
        (after_lines blocks header.0 (opening_counts header.0 0) 7 (lines_in header.1)) refl e)
