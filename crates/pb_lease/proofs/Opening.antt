-- What the tables keep when a search begins.
use Rattle.std.proofs.Common.{◌≡◌, ℕ, ◌+◌, ◌≤◌, Bool, false, is_some, List, [], length, get_or, replicate, Some, None, refl, sym, ap, ◌∙◌, subst, arith}
use Rattle.std.specs.List.{sum_by}
use Rattle.std.proofs.lemmas.List.Folds.{sum_by-replicate}
use Rattle.std.proofs.Math.ListN.{length-replicate}
use Rattle.pb_machine.specs.declared.event.Event.{Event}
use Rattle.pb_machine.specs.declared.settings.Settings.{Settings}
use Rattle.pb_machine.specs.Settings.{AreInRange}
use Rattle.pb_machine.specs.Counts.{Counts, opening_counts}
use Rattle.pb_machine.specs.History.{replay}
use Rattle.pb_machine.specs.Room.{KeepsWithinRoom}
use Rattle.pb_machine.proofs.Callers.{any_false, defaults, counts_same, counters_begin_at_none}
use Rattle.pb_abstract.specs.Graph.{AbstractGraph, IsGraph, blocks_of}
use Rattle.pb_lease.specs.declared.seat.Seat.{Seat}
use Rattle.pb_lease.specs.Tables.{Table, no_past, vacant, seat_of, counts_of}
use Rattle.pb_lease.specs.Kept.{IsKept, due_of}

module _ (abstraction : AbstractGraph) (settings : Settings) (seats : List Seat) (hot : List Bool) (busy near : List ℕ) (journal : List Event)
    (range : AreInRange settings) (lawful : IsGraph abstraction) (seats_is : seats ≡ replicate settings.workers vacant) (hot_is : hot ≡ replicate (blocks_of abstraction).count false)
    (busy_is : busy ≡ replicate (blocks_of abstraction).count 0) (near_is : near ≡ replicate (blocks_of abstraction).count 0) (journal_is : journal ≡ []) where
  abbrev opening_table : Table
  opening_table = record { abstraction = abstraction; settings = settings; past = no_past; seats = seats; hot = hot; spent = 0; left = settings.budget; end = None; journal = journal }

  seat_at : (k : ℕ) → seat_of seats k ≡ vacant
  seat_at k = ap (λ (s : List Seat). seat_of s k) seats_is ∙ defaults settings.workers k vacant

  hot_at : (c : ℕ) → get_or hot c false ≡ false
  hot_at c = ap (λ (h : List Bool). get_or h c false) hot_is ∙ defaults (blocks_of abstraction).count c false

  pub opening_is : counts_of opening_table ≡ opening_counts settings 0
  opening_is = counts_same (counts_of opening_table) (opening_counts settings 0) (λ w. ap (λ (s : Seat). s.grant) (seat_at w)) hot_at (λ w. ap (λ (s : Seat). s.signed_off) (seat_at w)) refl (omega arith) refl refl

  pub opening_kept : (spare : ℕ) → settings.workers + 1 ≤ spare → IsKept opening_table busy near (settings.workers + 1) spare
  opening_kept spare enough = record {
    seats = ap (λ (s : List Seat). length s) seats_is ∙ length-replicate settings.workers vacant;
    rooms = λ w. let none = ap (λ (s : Seat). s.room) (seat_at w) in omega (arith, none);
    own = lawful.own;
    busy_is = record {
      places = ap (λ (s : List ℕ). length s) busy_is ∙ length-replicate (blocks_of abstraction).count 0;
      counted = λ c lt. ap (λ (s : List ℕ). get_or s c 0) busy_is ∙ defaults (blocks_of abstraction).count c 0
          ∙ sym ((counters_begin_at_none (blocks_of abstraction) settings.workers (counts_of opening_table).leases (counts_of opening_table).hot c).0 (any_false settings.workers (λ w. is_some ((counts_of opening_table).leases w)) (λ w. ap (λ (s : Seat). is_some s.grant) (seat_at w))));
    };
    marks = record {
      few = lawful.few;
      hot_places = ap (λ (s : List Bool). length s) hot_is ∙ length-replicate (blocks_of abstraction).count false;
      near_places = ap (λ (s : List ℕ). length s) near_is ∙ length-replicate (blocks_of abstraction).count 0;
      counted = λ c lt. ap (λ (s : List ℕ). get_or s c 0) near_is ∙ defaults (blocks_of abstraction).count c 0
          ∙ sym ((counters_begin_at_none (blocks_of abstraction) settings.workers (counts_of opening_table).leases (counts_of opening_table).hot c).1 hot_at);
    };
    history = record {
      range = range;
      enough = omega arith;
      replays = ap (λ (j : List Event). replay (blocks_of abstraction) settings (opening_counts settings 0) j) journal_is ∙ ap (λ (n : Counts). Some n) (sym opening_is);
    };
    within = subst KeepsWithinRoom (sym journal_is) tt;
    left = λ w. let none = ap (λ (s : Seat). s.room) (seat_at w) in omega (arith, none);
    promised_is = let sums = ap (λ (s : List Seat). sum_by due_of s) seats_is ∙ sum_by-replicate due_of settings.workers vacant in omega (arith, sums);
    room = enough;
  }
