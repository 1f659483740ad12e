-- How long the text of a journal can be: each line by the digits of its numbers.
use Rattle.std.proofs.Common.{◌≡◌, ℕ, ◌+◌, ◌*◌, ◌≤◌, ◌^◌, length, Bool, true, false, List, [], ◌∷◌, codes, None, Some, refl, sym, ◌∙◌, arith}
use Rattle.std.specs.Fmt.{decimal}
use Rattle.std.proofs.lemmas.Fmt.{length-decimal-le}
use Rattle.std.proofs.lemmas.List.{length-append}
use Rattle.pb_model.specs.Texts.{line, lines, spaced}
use Rattle.pb_machine.specs.declared.event.End.TheVariants.{Quiet, Budget, Memory}
use Rattle.pb_machine.specs.declared.event.Event.{Event}
use Rattle.pb_machine.specs.declared.event.Event.TheVariants.{Lease, Renew, Hot, Cold, Release, Off, Ended}
use Rattle.pb_machine.specs.declared.settings.Settings.{Settings}
use Rattle.pb_machine.specs.Settings.{AreInRange}
use Rattle.pb_machine.specs.Blocks.{Blocks}
use Rattle.pb_machine.specs.Counts.{Counts, opening_counts, counts_after, AreLawful}
use Rattle.pb_machine.specs.Legality.{refusal}
use Rattle.pb_machine.specs.History.{replay}
use Rattle.pb_machine.proofs.Callers.{event_keeps, opening_lawful, first_may, replay_first}
use Rattle.pb_journal.specs.Texts.{numbered, plain_line, header_text, report_word, event_line, events_text}
use Rattle.pb_journal.specs.Lengths.{JournalTextsAreShort}
use Rattle.pb_journal.proofs.Allowed.{lease_allowed, renewal_allowed, hot_allowed, cold_allowed, release_allowed, off_allowed}

line_long : (text : List ℕ) → length (line text) ≡ length text + 1
line_long text = length-append text (10 ∷ [])

spaced_long : (first second : List ℕ) → length (spaced first second) ≡ length first + (1 + length second)
spaced_long first second = let sum = length-append first (32 ∷ second) in omega (arith, sum)

-- numbers of so many digits
two_digits : (n : ℕ) → n ≤ 64 → length (decimal n) ≤ 2
two_digits n le = length-decimal-le 2 n (omega arith) (omega (arith, le)) (omega (arith, le))

four_digits : (n : ℕ) → n ≤ 4096 → length (decimal n) ≤ 4
four_digits n le = length-decimal-le 4 n (omega arith) (omega (arith, le)) (omega (arith, le))

seven_digits : (n : ℕ) → n ≤ 2 ^ 20 → length (decimal n) ≤ 7
seven_digits n le = length-decimal-le 7 n (omega arith) (omega (arith, le)) (omega (arith, le))

thirteen_digits : (n : ℕ) → n ≤ 2 ^ 40 → length (decimal n) ≤ 13
thirteen_digits n le = length-decimal-le 13 n (omega arith) (omega (arith, le)) (omega (arith, le))

report_long : (memory : Bool) → length (report_word memory) ≤ 6
report_long true = omega arith
report_long false = omega arith

plain_long : (plain : Bool) → length (plain_line plain) ≡ 7
plain_long true = refl
plain_long false = refl

-- a word, and words after it, with the line feed
three_words : (word first second third : List ℕ) (a b c d : ℕ) → length word ≤ a → length first ≤ b → length second ≤ c → length third ≤ d
    → length (line (spaced word (spaced first (spaced second third)))) ≤ a + b + c + d + 4
three_words word first second third a b c d ha hb hc hd =
    let whole = line_long (spaced word (spaced first (spaced second third))) in
    let one = spaced_long word (spaced first (spaced second third)) in
    let two = spaced_long first (spaced second third) in
    let three = spaced_long second third in
    omega (arith, whole, one, two, three, ha, hb, hc, hd)

two_words : (word first second : List ℕ) (a b c : ℕ) → length word ≤ a → length first ≤ b → length second ≤ c
    → length (line (spaced word (spaced first second))) ≤ a + b + c + 3
two_words word first second a b c ha hb hc =
    let whole = line_long (spaced word (spaced first second)) in
    let one = spaced_long word (spaced first second) in
    let two = spaced_long first second in
    omega (arith, whole, one, two, ha, hb, hc)

one_word : (word first : List ℕ) (a b : ℕ) → length word ≤ a → length first ≤ b → length (line (spaced word first)) ≤ a + b + 2
one_word word first a b ha hb =
    let whole = line_long (spaced word first) in
    let one = spaced_long word first in
    omega (arith, whole, one, ha, hb)

module _ (blocks : Blocks) (settings : Settings) (few : blocks.count ≤ 4096) (range : AreInRange settings) where
  event_long : (counts : Counts) (event : Event) → AreLawful blocks settings counts → refusal blocks settings counts event ≡ None → length (line (event_line event)) ≤ 26
  event_long counts (Lease worker block quota) lawful may =
      let a = lease_allowed blocks settings counts worker block quota may in
      let words = three_words (codes "lease") (decimal worker) (decimal block) (decimal quota) 5 2 4 7 (omega arith)
      (two_digits worker (omega (arith, a.0, range.workers.1))) (four_digits block (omega (arith, a.1, few))) (seven_digits quota (omega (arith, a.2, range.lot.1))) in
      omega (arith, words)
  event_long counts (Renew worker used quota) lawful may =
      let a = renewal_allowed blocks settings counts worker used quota may in
      let held = lawful.quota worker a.1.0 a.1.1 in
      let words = three_words (codes "renew") (decimal worker) (decimal used) (decimal quota) 5 2 7 7 (omega arith)
      (two_digits worker (omega (arith, a.0, range.workers.1))) (seven_digits used (omega (arith, a.1.2, held.1, range.lot.1))) (seven_digits quota (omega (arith, a.2, range.lot.1))) in
      omega (arith, words)
  event_long counts (Hot worker block) lawful may =
      let a = hot_allowed blocks settings counts worker block may in
      let words = two_words (codes "hot") (decimal worker) (decimal block) 3 2 4 (omega arith)
      (two_digits worker (omega (arith, a.0, range.workers.1))) (four_digits block (omega (arith, a.1, few))) in
      omega (arith, words)
  event_long counts (Cold worker block) lawful may =
      let a = cold_allowed blocks settings counts worker block may in
      let words = two_words (codes "cold") (decimal worker) (decimal block) 4 2 4 (omega arith)
      (two_digits worker (omega (arith, a.0, range.workers.1))) (four_digits block (omega (arith, a.1, few))) in
      omega (arith, words)
  event_long counts (Release worker used memory) lawful may =
      let a = release_allowed blocks settings counts worker used memory may in
      let held = lawful.quota worker a.1.0 a.1.1 in
      let words = three_words (codes "release") (decimal worker) (decimal used) (report_word memory) 7 2 7 6 (omega arith)
      (two_digits worker (omega (arith, a.0, range.workers.1))) (seven_digits used (omega (arith, a.1.2, held.1, range.lot.1))) (report_long memory) in
      omega (arith, words)
  event_long counts (Off worker memory) lawful may =
      let a = off_allowed blocks settings counts worker memory may in
      let words = two_words (codes "off") (decimal worker) (report_word memory) 3 2 6 (omega arith) (two_digits worker (omega (arith, a, range.workers.1))) (report_long memory) in
      omega (arith, words)
  event_long counts (Ended Quiet) lawful may = omega arith
  event_long counts (Ended Budget) lawful may = omega arith
  event_long counts (Ended Memory) lawful may = omega arith

  events_long : (journal : List Event) (counts last : Counts) → AreLawful blocks settings counts → replay blocks settings counts journal ≡ Some last → length (events_text journal) ≤ 26 * length journal
  events_long [] counts last lawful is = omega arith
  events_long (event ∷ journal) counts last lawful is =
      let may = first_may blocks settings counts last event journal is in
      let first = event_long counts event lawful may in
      let rest = events_long journal (counts_after blocks settings counts event) last (event_keeps blocks settings counts event lawful may) (sym (replay_first blocks settings counts event journal may) ∙ is) in
      let both = length-append (line (event_line event)) (events_text journal) in
      omega (arith, first, rest, both)

  header_long : length (header_text settings) ≤ 79
  header_long =
      let name : length (line (codes "pbnf-journal 1")) ≡ 15 = refl in
      let wish = one_word (codes "blocks") (decimal settings.wish) 6 4 (omega arith) (four_digits settings.wish range.wish.1) in
      let workers = one_word (codes "workers") (decimal settings.workers) 7 2 (omega arith) (two_digits settings.workers range.workers.1) in
      let budget = one_word (codes "budget") (decimal settings.budget) 6 13 (omega arith) (thirteen_digits settings.budget range.budget.1) in
      let lot = one_word (codes "lot") (decimal settings.lot) 3 7 (omega arith) (seven_digits settings.lot range.lot.1) in
      let plain = line_long (plain_line settings.plain) in
      let seven = plain_long settings.plain in
      let last = length-append (line (plain_line settings.plain)) [] in
      let fifth = length-append (line (numbered (codes "lot") settings.lot)) (lines (plain_line settings.plain ∷ [])) in
      let fourth = length-append (line (numbered (codes "budget") settings.budget)) (lines (numbered (codes "lot") settings.lot ∷ plain_line settings.plain ∷ [])) in
      let third = length-append (line (numbered (codes "workers") settings.workers)) (lines (numbered (codes "budget") settings.budget ∷ numbered (codes "lot") settings.lot ∷ plain_line settings.plain ∷ [])) in
      let second = length-append (line (numbered (codes "blocks") settings.wish)) (lines (numbered (codes "workers") settings.workers ∷ numbered (codes "budget") settings.budget ∷ numbered (codes "lot") settings.lot ∷ plain_line settings.plain ∷ [])) in
      let all = length-append (line (codes "pbnf-journal 1")) (lines (numbered (codes "blocks") settings.wish ∷ numbered (codes "workers") settings.workers ∷ numbered (codes "budget") settings.budget ∷ numbered (codes "lot") settings.lot ∷ plain_line settings.plain ∷ [])) in
      omega (arith, name, wish, workers, budget, lot, plain, seven, last, fifth, fourth, third, second, all)

pub journal_texts_are_short : JournalTextsAreShort
journal_texts_are_short blocks settings journal counts few is =
    let events = events_long blocks settings few is.range journal (opening_counts settings 0) counts (opening_lawful blocks settings 0 is.enough) is.replays in
    let header = header_long blocks settings few is.range in
    let both = length-append (header_text settings) (events_text journal) in
    omega (arith, events, header, both)
