-- Legal histories, event by event.
use Rattle.std.proofs.Common.{◌≡◌, ℕ, suc, ◌+◌, length, Bool, true, false, cond, ◌&&◌, ◌||◌, ◌==◌, is_none, List, [], ◌∷◌, ◌++◌, Option, Some, None, refl, sym, ap, ◌∙◌, subst, arith, true≢false, ◌⊎◌, inl, inr, rules, IsSome, is_some, ◌<◌}
use Rattle.std.specs.List.{list_any}
use Rattle.std.proofs.Math.Bool.{or-true, or-false}
pub use Rattle.std.proofs.lemmas.Option.{same_Some as some_counts}
use Rattle.pb_model.proofs.Callers.{by_cases, equal_swap, and_true, not_false}
use Rattle.pb_machine.specs.declared.event.End.{End}
use Rattle.pb_machine.specs.declared.event.End.TheVariants.{Quiet, Budget, Memory}
use Rattle.pb_machine.specs.declared.event.Event.{Event}
use Rattle.pb_machine.specs.declared.event.Event.TheVariants.{Lease, Renew, Hot, Cold, Release, Off, Ended}
use Rattle.pb_machine.specs.declared.event.EventRefusal.{EventRefusal}
use Rattle.pb_machine.specs.declared.settings.Settings.{Settings}
use Rattle.pb_machine.specs.Blocks.{Blocks}
use Rattle.pb_machine.specs.Counts.{Counts, opening_counts, quota_of, quotas_out, counts_after, AreLawful}
use Rattle.pb_machine.specs.Legality.{is_memory_end, refusal}
use Rattle.pb_machine.specs.History.{replay, IsFirstRefused, or_refused, first_refused, is_event_of, events_of, is_off, is_report, used_of, used_in}
use Rattle.pb_machine.specs.JournalLaws.{HistoriesAreLawful, HistoriesGrow, BeginningsAreHistories, SigningOffIsTold, FinishedWorkersSignOff, SignedOffIsFinished, RefusalsAreFirst, RefusedJournalsFail, MemoryEndsAreReported, ReportsEndSearches, SpentIsUsed, UsedFitsBudget}
use Rattle.pb_machine.proofs.TableLaws.{any_none, sum_zero}
use Rattle.pb_machine.proofs.CountsLaws.{none_leased, passes, no_trouble, event_keeps, opening_lawful}

module _ (blocks : Blocks) (settings : Settings) where
  -- a history that begins with an event that may come
  pub replay_first : (c : Counts) (e : Event) (es : List Event) → refusal blocks settings c e ≡ None → replay blocks settings c (e ∷ es) ≡ replay blocks settings (counts_after blocks settings c e) es
  replay_first c e es may = ap (λ r. cond (is_none r) (replay blocks settings (counts_after blocks settings c e) es) None) may

  -- a legal history begins with an event that may come, or is empty
  pub first_may : (c d : Counts) (e : Event) (es : List Event) → replay blocks settings c (e ∷ es) ≡ Some d → refusal blocks settings c e ≡ None
  first_may c d e es is = go (refusal blocks settings c e) refl
    where
      go : (r : Option EventRefusal) → refusal blocks settings c e ≡ r → refusal blocks settings c e ≡ None
      go None p = p
      go (Some why) p = let bad : ◌≡◌ {A = Option Counts} None (Some d) = sym (ap (λ r. cond (is_none r) (replay blocks settings (counts_after blocks settings c e) es) None) p) ∙ is in cc

  history_keeps : (es : List Event) (c d : Counts) → AreLawful blocks settings c → replay blocks settings c es ≡ Some d → AreLawful blocks settings d
  history_keeps [] c d l is = subst (AreLawful blocks settings) (some_counts c d is) l
  history_keeps (e ∷ es) c d l is =
      let may = first_may c d e es is in
      history_keeps es (counts_after blocks settings c e) d (event_keeps blocks settings c e l may) (sym (replay_first c e es may) ∙ is)

  history_grows : (es : List Event) (c d : Counts) (last : Event) → replay blocks settings c es ≡ Some d → refusal blocks settings d last ≡ None
      → replay blocks settings c (es ++ last ∷ []) ≡ Some (counts_after blocks settings d last)
  history_grows [] c d last is may =
      let same : d ≡ c = sym (some_counts c d is) in
      replay_first c last [] (subst (λ q. refusal blocks settings q last ≡ None) same may) ∙ ap (λ q. Some (counts_after blocks settings q last)) (sym same)
  history_grows (e ∷ es) c d last is may =
      let first = first_may c d e es is in
      replay_first c e (es ++ last ∷ []) first ∙ history_grows es (counts_after blocks settings c e) d last (sym (replay_first c e es first) ∙ is) may

  history_begins : (es rest : List Event) (c d : Counts) → replay blocks settings c (es ++ rest) ≡ Some d → (before : Counts) × (replay blocks settings c es ≡ Some before)
  history_begins [] rest c d is = (c, refl)
  history_begins (e ∷ es) rest c d is =
      let may = first_may c d e (es ++ rest) is in
      let before = history_begins es rest (counts_after blocks settings c e) d (sym (replay_first c e (es ++ rest) may) ∙ is) in
      (before.0, replay_first c e es may ∙ before.1)

  -- whether one of the worker's own events is its signing off
  abbrev TellsOff : ℕ → List Event → Bool
  TellsOff worker es = list_any is_off (events_of worker es)

  -- an event that is no signing off adds none
  other_off : (c : Counts) (e : Event) (es : List Event) (worker : ℕ) → is_off e ≡ false → TellsOff worker (e ∷ es) ≡ TellsOff worker es
  other_off c e es worker no_off = by_cases (is_event_of worker e)
      (λ own. ap (λ r. list_any is_off (cond r (e ∷ events_of worker es) (events_of worker es))) own ∙ ap (λ r. r || TellsOff worker es) no_off)
      (λ own. ap (λ r. list_any is_off (cond r (e ∷ events_of worker es) (events_of worker es))) own)

  one_off : (c : Counts) (e : Event) (es : List Event) (worker : ℕ) → (TellsOff worker es || (counts_after blocks settings c e).signed_off worker) ≡ (TellsOff worker (e ∷ es) || c.signed_off worker)
  one_off c (Lease by block quota) es worker = ap (λ r. r || c.signed_off worker) (sym (other_off c (Lease by block quota) es worker refl))
  one_off c (Renew by used quota) es worker = ap (λ r. r || c.signed_off worker) (sym (other_off c (Renew by used quota) es worker refl))
  one_off c (Hot by block) es worker = ap (λ r. r || c.signed_off worker) (sym (other_off c (Hot by block) es worker refl))
  one_off c (Cold by block) es worker = ap (λ r. r || c.signed_off worker) (sym (other_off c (Cold by block) es worker refl))
  one_off c (Release by used memory) es worker = ap (λ r. r || c.signed_off worker) (sym (other_off c (Release by used memory) es worker refl))
  one_off c (Ended end) es worker = ap (λ r. r || c.signed_off worker) (sym (other_off c (Ended end) es worker refl))
  one_off c (Off by memory) es worker = by_cases (by == worker)
      (λ own. ap (λ r. TellsOff worker es || cond r true (c.signed_off worker)) (equal_swap worker by ∙ own) ∙ or-true (TellsOff worker es)
      ∙ sym (ap (λ r. list_any is_off (cond r (Off by memory ∷ events_of worker es) (events_of worker es)) || c.signed_off worker) own))
      (λ own. ap (λ r. TellsOff worker es || cond r true (c.signed_off worker)) (equal_swap worker by ∙ own)
      ∙ sym (ap (λ r. list_any is_off (cond r (Off by memory ∷ events_of worker es) (events_of worker es)) || c.signed_off worker) own))

  off_told : (es : List Event) (c d : Counts) (worker : ℕ) → replay blocks settings c es ≡ Some d → d.signed_off worker ≡ (TellsOff worker es || c.signed_off worker)
  off_told [] c d worker is = ap (λ (q : Counts). q.signed_off worker) (sym (some_counts c d is))
  off_told (e ∷ es) c d worker is =
      let may = first_may c d e es is in
      off_told es (counts_after blocks settings c e) d worker (sym (replay_first c e es may) ∙ is) ∙ one_off c e es worker

pub histories_are_lawful : HistoriesAreLawful
histories_are_lawful blocks settings before journal counts is = history_keeps blocks settings journal (opening_counts settings before) counts (opening_lawful blocks settings before is.enough) is.replays

pub histories_grow : HistoriesGrow
histories_grow blocks settings before journal event counts is may =
    record { range = is.range; enough = is.enough; replays = history_grows blocks settings journal (opening_counts settings before) counts event is.replays may }

pub beginnings_are_histories : BeginningsAreHistories
beginnings_are_histories blocks settings before journal start counts is begins =
    let between = history_begins blocks settings start begins.0 (opening_counts settings before) counts (ap (replay blocks settings (opening_counts settings before)) (sym begins.1) ∙ is.replays) in
    (between.0, record { range = is.range; enough = is.enough; replays = between.1 })

pub signing_off_is_told : SigningOffIsTold
signing_off_is_told blocks settings before journal counts worker is =
    off_told blocks settings journal (opening_counts settings before) counts worker is.replays ∙ or-false (list_any is_off (events_of worker journal))

pub finished_workers_sign_off : FinishedWorkersSignOff
finished_workers_sign_off blocks settings before journal counts is finished worker there = sym (signing_off_is_told blocks settings before journal counts worker is) ∙ finished.signed_off worker there

pub signed_off_is_finished : SignedOffIsFinished
signed_off_is_finished blocks settings before journal counts is report all = record {
  end = subst IsSome (sym ended.1) (search rules);
  signed_off = off;
}
  where
    off : (worker : ℕ) → worker < settings.workers → counts.signed_off worker ≡ true
    off worker there = signing_off_is_told blocks settings before journal counts worker is ∙ all worker there

    known : (o : Option End) → (is_some o || counts.trouble) ≡ true → (end : End) × (o ≡ Some end)
    known None h = absurd (true≢false (sym h ∙ report))
    known (Some end) h = (end, refl)

    ended : (end : End) × (counts.end ≡ Some end)
    ended = known counts.end ((histories_are_lawful blocks settings before journal counts is).off 0 (off 0 (omega (arith, is.range.workers.0)))).2

-- ---- the first event that is refused

module _ (blocks : Blocks) (settings : Settings) where
  -- one event more before those that come before the refused one
  refused_later : (c : Counts) (e : Event) (es : List Event) (place : ℕ) (why : EventRefusal) → refusal blocks settings c e ≡ None
      → IsFirstRefused blocks settings (counts_after blocks settings c e) es place why → IsFirstRefused blocks settings c (e ∷ es) (place + 1) why
  refused_later c e es place why may is = record {
    start = e ∷ is.start;
    event = is.event;
    rest = is.rest;
    between = is.between;
    parts = ap (λ xs. e ∷ xs) is.parts;
    place_is = omega (arith, is.place_is);
    replays = replay_first blocks settings c e is.start may ∙ is.replays;
    refused = is.refused;
  }

  -- counted from another place on
  found_at : (es : List Event) (c : Counts) (from place : ℕ) (why : EventRefusal) → first_refused blocks settings c from es ≡ Some (place, why)
      → (later : ℕ) × (place ≡ from + later) × IsFirstRefused blocks settings c es later why
  found_at [] c from place why is = cc
  found_at (e ∷ es) c from place why is = go (refusal blocks settings c e) refl (found_at es (counts_after blocks settings c e) (from + 1) place why)
    where
      go : (r : Option EventRefusal) → refusal blocks settings c e ≡ r
          → (first_refused blocks settings (counts_after blocks settings c e) (from + 1) es ≡ Some (place, why)
          → (later : ℕ) × (place ≡ from + 1 + later) × IsFirstRefused blocks settings (counts_after blocks settings c e) es later why)
          → (later : ℕ) × (place ≡ from + later) × IsFirstRefused blocks settings c (e ∷ es) later why
      go None may rest =
          let l = rest (sym (ap (λ r. or_refused from r (first_refused blocks settings (counts_after blocks settings c e) (from + 1) es)) may) ∙ is) in
          (l.0 + 1, omega (arith, l.1), refused_later c e es l.0 why may l.2)
      go (Some reason) refused rest =
          let same : ◌≡◌ {A = Option (ℕ × EventRefusal)} (Some (from, reason)) (Some (place, why)) =
          sym (ap (λ r. or_refused from r (first_refused blocks settings (counts_after blocks settings c e) (from + 1) es)) refused) ∙ is in
          let pair : ◌≡◌ {A = ℕ × EventRefusal} (from, reason) (place, why) = cc in
          let here : from ≡ place = ap (λ (p : ℕ × EventRefusal). p.0) pair in
          let reason_is : reason ≡ why = ap (λ (p : ℕ × EventRefusal). p.1) pair in
          (0, omega (arith, here), record { start = []; event = e; rest = es; between = c; parts = refl; place_is = refl; replays = refl; refused = refused ∙ ap (λ r. Some r) reason_is })

  none_found : (es : List Event) (c : Counts) (from : ℕ) → first_refused blocks settings c from es ≡ None → (after : Counts) × (replay blocks settings c es ≡ Some after)
  none_found [] c from is = (c, refl)
  none_found (e ∷ es) c from is = go (refusal blocks settings c e) refl (none_found es (counts_after blocks settings c e) (from + 1))
    where
      go : (r : Option EventRefusal) → refusal blocks settings c e ≡ r
          → (first_refused blocks settings (counts_after blocks settings c e) (from + 1) es ≡ None → (after : Counts) × (replay blocks settings (counts_after blocks settings c e) es ≡ Some after))
          → (after : Counts) × (replay blocks settings c (e ∷ es) ≡ Some after)
      go None may rest =
          let l = rest (sym (ap (λ r. or_refused from r (first_refused blocks settings (counts_after blocks settings c e) (from + 1) es)) may) ∙ is) in
          (l.0, replay_first blocks settings c e es may ∙ l.1)
      go (Some reason) refused rest =
          let bad : ◌≡◌ {A = Option (ℕ × EventRefusal)} (Some (from, reason)) None =
          sym (ap (λ r. or_refused from r (first_refused blocks settings (counts_after blocks settings c e) (from + 1) es)) refused) ∙ is in cc

  fails_at : (start : List Event) (c between : Counts) (e : Event) (rest : List Event) (why : EventRefusal) → replay blocks settings c start ≡ Some between → refusal blocks settings between e ≡ Some why
      → replay blocks settings c (start ++ e ∷ rest) ≡ None
  fails_at [] c between e rest why is refused =
      let same : refusal blocks settings c e ≡ Some why = ap (λ q. refusal blocks settings q e) (some_counts c between is) ∙ refused in
      ap (λ r. cond (is_none r) (replay blocks settings (counts_after blocks settings c e) rest) None) same
  fails_at (first ∷ start) c between e rest why is refused =
      let may = first_may blocks settings c between first start is in
      replay_first blocks settings c first (start ++ e ∷ rest) may
      ∙ fails_at start (counts_after blocks settings c first) between e rest why (sym (replay_first blocks settings c first start may) ∙ is) refused

  -- an event that may not come after those before it is found
  finds : (start : List Event) (c between : Counts) (e : Event) (rest : List Event) (from : ℕ) (why : EventRefusal) → replay blocks settings c start ≡ Some between
      → refusal blocks settings between e ≡ Some why → first_refused blocks settings c from (start ++ e ∷ rest) ≡ Some (from + length start, why)
  finds [] c between e rest from why is refused =
      let same : refusal blocks settings c e ≡ Some why = ap (λ q. refusal blocks settings q e) (some_counts c between is) ∙ refused in
      let here : from ≡ from + 0 = omega arith in
      ap (λ r. or_refused from r (first_refused blocks settings (counts_after blocks settings c e) (from + 1) rest)) same ∙ ap (λ k. Some (k, why)) here
  finds (first ∷ start) c between e rest from why is refused =
      let may = first_may blocks settings c between first start is in
      let place : from + 1 + length start ≡ from + suc (length start) = omega arith in
      ap (λ r. or_refused from r (first_refused blocks settings (counts_after blocks settings c first) (from + 1) (start ++ e ∷ rest))) may
      ∙ finds start (counts_after blocks settings c first) between e rest (from + 1) why (sym (replay_first blocks settings c first start may) ∙ is) refused
      ∙ ap (λ k. Some (k, why)) place

  all_pass : (es : List Event) (c d : Counts) (from : ℕ) → replay blocks settings c es ≡ Some d → first_refused blocks settings c from es ≡ None
  all_pass [] c d from is = refl
  all_pass (e ∷ es) c d from is =
      let may = first_may blocks settings c d e es is in
      ap (λ r. or_refused from r (first_refused blocks settings (counts_after blocks settings c e) (from + 1) es)) may
      ∙ all_pass es (counts_after blocks settings c e) d (from + 1) (sym (replay_first blocks settings c e es may) ∙ is)

pub refusals_are_first : RefusalsAreFirst
refusals_are_first blocks settings counts from journal = (
  λ line why. (
    λ is. found_at blocks settings journal counts from line why is,
    λ (place, same, is). let here : from + length is.start ≡ line = omega (arith, is.place_is, same) in
        ap (first_refused blocks settings counts from) is.parts ∙ finds blocks settings is.start counts is.between is.event is.rest from why is.replays is.refused ∙ ap (λ k. Some (k, why)) here,
  ),
  (λ none. none_found blocks settings journal counts from none, λ is. all_pass blocks settings journal counts is.0 from is.1),
)

pub refused_journals_fail : RefusedJournalsFail
refused_journals_fail blocks settings counts journal place why is =
    ap (replay blocks settings counts) is.parts ∙ fails_at blocks settings is.start counts is.between is.event is.rest why is.replays is.refused

-- ---- an end for want of memory was reported

-- a report stands directly before an end for want of memory
abbrev HasReport : List Event → Type 0
HasReport es = (start rest : List Event) × (report : Event) × (is_report report ≡ true) × (es ≡ start ++ report ∷ Ended Memory ∷ rest)

-- a report is the last event
abbrev EndsInReport : List Event → Type 0
EndsInReport es = (start : List Event) × (report : Event) × (is_report report ≡ true) × (es ≡ start ++ report ∷ [])

-- the end for want of memory comes at once, where a report waits
abbrev EndsAtOnce : Counts → List Event → Type 0
EndsAtOnce c es = (rest : List Event) × (es ≡ Ended Memory ∷ rest) × (c.trouble ≡ true)

module _ (blocks : Blocks) (settings : Settings) where
  -- after an event a report waits only where the event reports
  waits : (c : Counts) (e : Event) → refusal blocks settings c e ≡ None → (counts_after blocks settings c e).trouble ≡ true → is_report e ≡ true
  waits c (Lease by block quota) may t = absurd (true≢false (sym t ∙ no_trouble blocks settings c (Lease by block quota) refl may))
  waits c (Renew by used quota) may t = absurd (true≢false (sym t ∙ no_trouble blocks settings c (Renew by used quota) refl may))
  waits c (Hot by block) may t = absurd (true≢false (sym t ∙ no_trouble blocks settings c (Hot by block) refl may))
  waits c (Cold by block) may t = absurd (true≢false (sym t ∙ no_trouble blocks settings c (Cold by block) refl may))
  waits c (Release by used memory) may t = (and_true memory (is_none c.end) t).0
  waits c (Off by memory) may t = (and_true memory (is_none c.end) t).0
  waits c (Ended end) may t = absurd (true≢false (sym t))

  last_waits : (es : List Event) (c d : Counts) → replay blocks settings c es ≡ Some d → d.trouble ≡ true → EndsInReport es ⊎ ((es ≡ []) × (c.trouble ≡ true))
  last_waits [] c d is t = inr (refl, ap (λ (k : Counts). k.trouble) (some_counts c d is) ∙ t)
  last_waits (e ∷ es) c d is t =
      let may = first_may blocks settings c d e es is in
      inl (go may (last_waits es (counts_after blocks settings c e) d (sym (replay_first blocks settings c e es may) ∙ is) t))
    where
      go : refusal blocks settings c e ≡ None → EndsInReport es ⊎ ((es ≡ []) × ((counts_after blocks settings c e).trouble ≡ true)) → EndsInReport (e ∷ es)
      go may (inl h) = (e ∷ h.0, h.1, h.2, ap (λ (l : List Event). e ∷ l) h.3)
      go may (inr h) = ([], e, waits c e may h.1, ap (λ (l : List Event). e ∷ l) h.0)

  -- an end for want of memory is this event, or stood before
  one_end : (c : Counts) (e : Event) (es : List Event) → refusal blocks settings c e ≡ None → (counts_after blocks settings c e).end ≡ Some Memory → EndsAtOnce c (e ∷ es) ⊎ (c.end ≡ Some Memory)
  one_end c (Lease by block quota) es may t = inr t
  one_end c (Renew by used quota) es may t = inr t
  one_end c (Hot by block) es may t = inr t
  one_end c (Cold by block) es may t = inr t
  one_end c (Release by used memory) es may t = inr t
  one_end c (Off by memory) es may t = inr t
  one_end c (Ended Quiet) es may t = let bad : ◌≡◌ {A = Option End} (Some Quiet) (Some Memory) = t in cc
  one_end c (Ended Budget) es may t = let bad : ◌≡◌ {A = Option End} (Some Budget) (Some Memory) = t in cc
  one_end c (Ended Memory) es may t = inl (es, refl, not_false c.trouble (passes blocks settings c (Ended Memory) may).1.0)

  reported : (es : List Event) (c d : Counts) → replay blocks settings c es ≡ Some d → d.end ≡ Some Memory → HasReport es ⊎ (EndsAtOnce c es ⊎ (c.end ≡ Some Memory))
  reported [] c d is t = inr (inr (ap (λ (k : Counts). k.end) (some_counts c d is) ∙ t))
  reported (e ∷ es) c d is t =
      let may = first_may blocks settings c d e es is in
      go may (reported es (counts_after blocks settings c e) d (sym (replay_first blocks settings c e es may) ∙ is) t)
    where
      go : refusal blocks settings c e ≡ None → HasReport es ⊎ (EndsAtOnce (counts_after blocks settings c e) es ⊎ ((counts_after blocks settings c e).end ≡ Some Memory)) → HasReport (e ∷ es) ⊎ (EndsAtOnce c (e ∷ es) ⊎ (c.end ≡ Some Memory))
      go may (inl h) = inl (e ∷ h.0, h.1, h.2, h.3, ap (λ (l : List Event). e ∷ l) h.4)
      go may (inr (inl h)) = inl ([], h.0, e, waits c e may h.2, ap (λ (l : List Event). e ∷ l) h.1)
      go may (inr (inr h)) = inr (one_end c e es may h)

pub memory_ends_are_reported : MemoryEndsAreReported
memory_ends_are_reported blocks settings before journal counts is = (
  λ ends. ended (reported blocks settings journal (opening_counts settings before) counts is.replays ends),
  λ waiting. last (last_waits blocks settings journal (opening_counts settings before) counts is.replays waiting),
)
  where
    ended : HasReport journal ⊎ (EndsAtOnce (opening_counts settings before) journal ⊎ ((opening_counts settings before).end ≡ Some Memory)) → HasReport journal
    ended (inl h) = h
    ended (inr (inl h)) = absurd (true≢false (sym h.2))
    ended (inr (inr h)) = let bad : ◌≡◌ {A = Option End} None (Some Memory) = h in cc

    last : EndsInReport journal ⊎ ((journal ≡ []) × ((opening_counts settings before).trouble ≡ true)) → EndsInReport journal
    last (inl h) = h
    last (inr h) = absurd (true≢false (sym h.1))

-- ---- a report is followed by its end

-- nothing comes, or the end for want of memory is next
abbrev EndsNext : List Event → Type 0
EndsNext es = (es ≡ []) ⊎ ((later : List Event) × (es ≡ Ended Memory ∷ later))

memory_end : (e : Event) → is_memory_end e ≡ true → e ≡ Ended Memory
memory_end (Lease by block quota) h = absurd (true≢false (sym h))
memory_end (Renew by used quota) h = absurd (true≢false (sym h))
memory_end (Hot by block) h = absurd (true≢false (sym h))
memory_end (Cold by block) h = absurd (true≢false (sym h))
memory_end (Release by used memory) h = absurd (true≢false (sym h))
memory_end (Off by memory) h = absurd (true≢false (sym h))
memory_end (Ended Quiet) h = absurd (true≢false (sym h))
memory_end (Ended Budget) h = absurd (true≢false (sym h))
memory_end (Ended Memory) h = refl

module _ (blocks : Blocks) (settings : Settings) where
  now_waits : (c : Counts) (e : Event) → c.end ≡ None → is_report e ≡ true → (counts_after blocks settings c e).trouble ≡ true
  now_waits c (Lease by block quota) none h = absurd (true≢false (sym h))
  now_waits c (Renew by used quota) none h = absurd (true≢false (sym h))
  now_waits c (Hot by block) none h = absurd (true≢false (sym h))
  now_waits c (Cold by block) none h = absurd (true≢false (sym h))
  now_waits c (Release by used memory) none h = ap (λ r. r && is_none c.end) h ∙ ap is_none none
  now_waits c (Off by memory) none h = ap (λ r. r && is_none c.end) h ∙ ap is_none none
  now_waits c (Ended end) none h = absurd (true≢false (sym h))

  ends_next : (es : List Event) (c d : Counts) → c.trouble ≡ true → replay blocks settings c es ≡ Some d → EndsNext es
  ends_next [] c d t is = inl refl
  ends_next (e ∷ es) c d t is =
      let may = first_may blocks settings c d e es is in
      by_cases (is_memory_end e) (λ h. inr (es, ap (λ x. x ∷ es) (memory_end e h))) (λ h. absurd (true≢false (sym t ∙ no_trouble blocks settings c e h may)))

  after_report : (start rest : List Event) (c between d : Counts) (report : Event) → replay blocks settings c start ≡ Some between → between.end ≡ None → is_report report ≡ true
      → replay blocks settings c (start ++ report ∷ rest) ≡ Some d → EndsNext rest
  after_report [] rest c between d report at none h is =
      let may = first_may blocks settings c d report rest is in
      let here : c.end ≡ None = ap (λ (k : Counts). k.end) (some_counts c between at) ∙ none in
      ends_next rest (counts_after blocks settings c report) d (now_waits c report here h) (sym (replay_first blocks settings c report rest may) ∙ is)
  after_report (e ∷ es) rest c between d report at none h is =
      let may = first_may blocks settings c between e es at in
      after_report es rest (counts_after blocks settings c e) between d report (sym (replay_first blocks settings c e es may) ∙ at) none h (sym (replay_first blocks settings c e (es ++ report ∷ rest) may) ∙ is)

pub reports_end_searches : ReportsEndSearches
reports_end_searches blocks settings before start rest report between counts first none h is =
    after_report blocks settings start rest (opening_counts settings before) between counts report first.replays none h is.replays

-- ---- what is spent

module _ (blocks : Blocks) (settings : Settings) where
  one_spent : (c : Counts) (e : Event) → (counts_after blocks settings c e).spent ≡ c.spent + used_of e
  one_spent c (Lease by block quota) = omega arith
  one_spent c (Renew by used quota) = refl
  one_spent c (Hot by block) = omega arith
  one_spent c (Cold by block) = omega arith
  one_spent c (Release by used memory) = refl
  one_spent c (Off by memory) = omega arith
  one_spent c (Ended end) = omega arith

  all_spent : (es : List Event) (c d : Counts) → replay blocks settings c es ≡ Some d → d.spent ≡ c.spent + used_in es
  all_spent [] c d is = let same : c.spent ≡ d.spent = ap (λ (k : Counts). k.spent) (some_counts c d is) in omega (arith, same)
  all_spent (e ∷ es) c d is =
      let may = first_may blocks settings c d e es is in
      let one = one_spent c e in
      let rest = all_spent es (counts_after blocks settings c e) d (sym (replay_first blocks settings c e es may) ∙ is) in
      omega (arith, one, rest)

pub spent_is_used : SpentIsUsed
spent_is_used blocks settings before journal counts is = all_spent blocks settings journal (opening_counts settings before) counts is.replays

pub used_fits_budget : UsedFitsBudget
used_fits_budget blocks settings before journal counts is = (omega (arith, spent, l.sum), λ ends. omega (arith, spent, l.sum, none ends, (l.budget ends).1))
  where
    l : AreLawful blocks settings counts
    l = histories_are_lawful blocks settings before journal counts is

    spent : counts.spent ≡ before + used_in journal
    spent = spent_is_used blocks settings before journal counts is

    none : counts.end ≡ Some Budget → quotas_out settings.workers counts.leases ≡ 0
    none ends =
        sum_zero settings.workers (λ worker. quota_of (counts.leases worker))
        (λ worker there. ap quota_of (none_leased (counts.leases worker) (any_none settings.workers worker (λ k. is_some (counts.leases k)) (l.budget ends).0 there)))
