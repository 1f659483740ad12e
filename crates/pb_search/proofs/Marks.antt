-- No block is marked hot in a plain search.
use Rattle.std.proofs.Common.{◌≡◌, true, false, ◌||◌, None, List, [], ◌∷◌, refl, sym, ap, ◌∙◌, true≢false}
use Rattle.std.specs.List.{list_any}
use Rattle.pb_model.proofs.Callers.{or_false}
use Rattle.pb_machine.specs.declared.event.Event.{Event}
use Rattle.pb_machine.specs.declared.event.Event.TheVariants.{Lease, Renew, Hot, Cold, Release, Off, Ended}
use Rattle.pb_machine.specs.Counts.{Counts}
use Rattle.pb_machine.specs.Legality.{tests, refusal}
use Rattle.pb_machine.specs.Machine.{Setup, Machine, Move, event_move, tell_move, switch_move, Runs, journal_of}
use Rattle.pb_machine.proofs.Callers.{none_true, rest_passes}
use Rattle.pb_search.specs.Ends.{is_mark, MarksNothing}

module _ (setup : Setup) (plain : setup.settings.plain ≡ true) where
  -- an event that may come is no mark
  no_mark : (counts : Counts) (event : Event) → refusal setup.blocks setup.settings counts event ≡ None → is_mark event ≡ false
  no_mark counts (Lease worker block quota) may = refl
  no_mark counts (Renew worker used quota) may = refl
  no_mark counts (Hot worker block) may =
      let own = tests setup.blocks setup.settings counts (Hot worker block) in
      let none = none_true own (rest_passes _ own may) in
      absurd (true≢false (sym plain ∙ (or_false setup.settings.plain _ none.1.1.1.1.0).0))
  no_mark counts (Cold worker block) may = refl
  no_mark counts (Release worker used memory) may = refl
  no_mark counts (Off worker memory) may = refl
  no_mark counts (Ended end) may = refl

  pub marks_nothing : (moves : List Move) (old new : Machine) → Runs setup old moves new → MarksNothing (journal_of moves)
  marks_nothing [] old new runs = refl
  marks_nothing (event_move event ∷ moves) old new runs =
      ap (λ mark. mark || list_any is_mark (journal_of moves)) (no_mark old.counts event runs.1.may) ∙ marks_nothing moves runs.0 new runs.2
  marks_nothing (tell_move worker cost ∷ moves) old new runs = marks_nothing moves runs.0 new runs.2
  marks_nothing (switch_move worker used block quota ∷ moves) old new runs = marks_nothing moves runs.0 new runs.2
