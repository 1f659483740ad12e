-- The worked switches have the worked journal, and take their room. A release and a lease may both come where no switch is in order.
use Rattle.std.proofs.Common.{◌≡◌, true, false, ◌++◌, Some, refl, sym, ap, ◌∙◌, true≢false}
use Rattle.pb_machine.specs.Counts.{Counts, opening_counts, is_near_hot}
use Rattle.pb_machine.specs.History.{replay}
use Rattle.pb_machine.specs.Room.{no_room, room_after, rooms_after}
use Rattle.pb_machine.specs.Machine.{Setup, Machine, switch_move, journal_of}
use Rattle.pb_machine.specs.Turns.{IsInOrder}
use Rattle.pb_machine.specs.Worked.{nine_cells, one_worker, nine_cells_journal, switches, nine_cells_moves, marked, back_and_next}
use Rattle.pb_machine.proofs.WorkedJournals.{after}

switches_have_the_journal : journal_of nine_cells_moves ≡ nine_cells_journal
switches_have_the_journal = refl

-- six switches took twelve of the room of 63, while the last lease by the journal alone has all of it
switches_take_room : (rooms_after no_room switches 0 ≡ 51) × (room_after (journal_of switches) 0 ≡ 63)
switches_take_room = (refl, refl)

both_may_come : replay nine_cells one_worker (opening_counts one_worker 0) (marked ++ back_and_next) ≡ Some (after nine_cells one_worker (marked ++ back_and_next))
both_may_come = refl

never_in_order : (setup : Setup) (old new : Machine) → setup.blocks ≡ nine_cells → old.counts ≡ after nine_cells one_worker marked → IsInOrder setup old (switch_move 0 1 4 256) new → ⊥
never_in_order setup old new blocks counts order =
    let near : is_near_hot setup.blocks old.counts.hot 4 ≡ true = ap (λ b. is_near_hot b old.counts.hot 4) blocks ∙ ap (λ (c : Counts). is_near_hot nine_cells c.hot 4) counts in
    true≢false (sym near ∙ order.1.may.not_near_hot)
