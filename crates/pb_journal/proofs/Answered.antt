-- What a function answered, and what that means.
use Rattle.std.proofs.Common.{◌≡◌, ℕ, ◌≤◌, List, Result, Ok, Err, sym, ap, ◌∙◌, subst}
use Rattle.std.specs.Prelude.{IfOk}
use Rattle.pb_machine.specs.declared.settings.Settings.{Settings}
use Rattle.pb_machine.specs.Settings.{weight_of, settings_with_weight}
use Rattle.pb_machine.specs.Blocks.{Blocks}
use Rattle.pb_machine.specs.Counts.{opening_counts}
use Rattle.pb_journal.specs.declared.error.Fault.{Fault}
use Rattle.pb_journal.specs.declared.error.JournalError.{JournalError}
use Rattle.pb_journal.specs.declared.error.JournalError.TheVariants as errors
use Rattle.pb_journal.specs.Faults.{◌>>=◌, Gives, Answers}
use Rattle.pb_journal.specs.Reading.{header_of}
use Rattle.pb_journal.specs.Judging.{settings_of, events_of, judged}
use Rattle.pb_journal.specs.Opened.{Opened, IsOpened}
use Rattle.pb_journal.specs.Shown.{one, HasHeader, IsFinishedJournal}
use Rattle.pb_journal.proofs.Chains.{bind_ok, ok_is}
use Rattle.pb_journal.proofs.HeaderLines.{header_is}
use Rattle.pb_journal.proofs.Finished.{is_accepted, accepted_again, settings_again}

pub if_accepted : (blocks : Blocks) (bytes : List ℕ) (r : Result ℕ JournalError)
    → Gives (λ n. n) r (judged blocks bytes) → IfOk r (λ n. IsFinishedJournal blocks bytes n)
if_accepted blocks bytes (Ok n) given = is_accepted blocks bytes n given
if_accepted blocks bytes (Err e) given = tt

pub gives_accepted : (blocks : Blocks) (bytes : List ℕ) → blocks.count ≤ 4096
    → (r : Result ℕ JournalError) → Gives (λ n. n) r (judged blocks bytes) → (n : ℕ)
    → IsFinishedJournal blocks bytes n → Gives (λ m. m) r (Ok n)
gives_accepted blocks bytes few (Ok m) given n is =
    sym (accepted_again blocks bytes n few is) ∙ given
gives_accepted blocks bytes few (Err errors.Memory) given n is = tt
gives_accepted blocks bytes few (Err (errors.At line why)) given n is =
    sym (accepted_again blocks bytes n few is) ∙ given

-- the answer on the events of a journal whose header was read is the answer on its bytes
pub events_judged : (blocks : Blocks) (opened : Opened) (events : List ℕ) → IsOpened opened events
    → (r : Result ℕ JournalError)
    → Gives (λ n. n) r (events_of blocks opened.settings (opening_counts opened.settings 0) events)
    → Gives (λ n. n) r (judged blocks opened.bytes)
unfolding judged
events_judged blocks opened events is r given =
    let same : judged blocks opened.bytes
    ≡ events_of blocks opened.settings (opening_counts opened.settings 0) events =
    ap (λ (h : Result (Settings × List ℕ) Fault).
    h >>= λ header. events_of blocks header.0 (opening_counts header.0 0) header.1) is.header in
    subst (λ (found : Result ℕ Fault). Gives (λ n. n) r found) (sym same) given

module _ (bytes : List ℕ) where
  header_read : (settings : Settings) → settings_of bytes ≡ Ok settings → HasHeader bytes settings
      × ((weight_of settings ≡ one) × (settings.pattern ≡ 0))
  header_read settings e =
      let h = bind_ok (header_of bytes) _ settings e in
      let is = header_is bytes h.0 h.1 in
      let same = ok_is h.0.0 settings h.2 in
      subst (λ s. HasHeader bytes s × ((weight_of s ≡ one) × (s.pattern ≡ 0))) same
      (record { rest = h.0.1; text = is.text; range = is.range }, (is.weight, is.pattern))

  pub if_header : (r : Result Settings JournalError) → Answers (λ s. s) r (settings_of bytes)
      → IfOk r (HasHeader bytes)
  if_header (Ok settings) given = (header_read settings given).0
  if_header (Err e) given = tt

  pub if_weight : (r : Result Settings JournalError) → Answers (λ s. s) r (settings_of bytes)
      → IfOk r (λ settings. weight_of settings ≡ one)
  if_weight (Ok settings) given = (header_read settings given).1.0
  if_weight (Err e) given = tt

  pub if_pattern : (r : Result Settings JournalError) → Answers (λ s. s) r (settings_of bytes)
      → IfOk r (λ settings. settings.pattern ≡ 0)
  if_pattern (Ok settings) given = (header_read settings given).1.1
  if_pattern (Err e) given = tt

  pub only_header : (r : Result Settings JournalError) → Answers (λ s. s) r (settings_of bytes)
      → (settings : Settings) → HasHeader bytes settings → r
      ≡ Ok (settings_with_weight settings one)
  only_header (Ok made) given settings is =
      let read : settings_of bytes ≡ Ok (settings_with_weight settings one) =
      ap settings_of is.text ∙ settings_again settings is.rest is.range in
      ap (λ (s : Settings). Ok s)
      (ok_is made (settings_with_weight settings one) (sym given ∙ read))
  only_header (Err errors.Memory) given settings is = absurd given
  only_header (Err (errors.At line why)) given settings is =
      let read : settings_of bytes ≡ Ok (settings_with_weight settings one) =
      ap settings_of is.text ∙ settings_again settings is.rest is.range in
      absurd (other (sym given ∙ read))
    where
      other : {fault : Fault} {made : Settings}
          → ◌≡◌ {A = Result Settings Fault} (Err fault) (Ok made) → ⊥
      other e = cc
