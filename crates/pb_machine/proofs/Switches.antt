-- A switch is a release and a lease, one right after the other. It may be made if its release may come and its block, with the lease home, may
-- be leased.
use Rattle.std.proofs.Common.{◌≡◌, ℕ, ◌<◌, min, false, [], ◌∷◌, None, refl}
use Rattle.pb_model.proofs.Callers.{equal_self}
use Rattle.pb_model.specs.Store.{Store}
use Rattle.pb_machine.specs.declared.event.Event.TheVariants.{Lease, Release}
use Rattle.pb_machine.specs.declared.settings.Settings.{Settings}
use Rattle.pb_machine.specs.Blocks.{Blocks}
use Rattle.pb_machine.specs.Counts.{Counts, counts_after}
use Rattle.pb_machine.specs.Legality.{is_stranger, refusal}
use Rattle.pb_machine.specs.Choice.{MayBeLeased, counts_with_lease_home}
use Rattle.pb_machine.specs.Machine.{Setup, Machine, event_move, switch_move, Moves, Runs}
use Rattle.pb_machine.proofs.TableLaws.{entry_here}
use Rattle.pb_machine.proofs.LegalEvents.{chosen_leases_are_legal, choices_outlive_releases}

-- a switch is two event moves
pub switch_runs : (setup : Setup) (old new : Machine) (worker used block quota : ℕ) → Moves setup old (switch_move worker used block quota) new
    → Runs setup old (event_move (Release worker used false) ∷ event_move (Lease worker block quota) ∷ []) new
switch_runs setup old new worker used block quota moved = (moved.0, moved.1, (new, moved.2, refl))

-- a lease changes no row, so the rows after a switch are those that its release left
pub switched_rows : (setup : Setup) (old new : Machine) (worker used block quota : ℕ) → (moved : Moves setup old (switch_move worker used block quota) new) → new.store ≡ moved.0.store
switched_rows setup old new worker used block quota moved = moved.2.rows.1

-- the lease of a switch may come after its release, whatever is hot, if its block might be leased with the lease home
pub switched_leases_are_legal : (blocks : Blocks) (settings : Settings) (counts : Counts) (store : Store) (worker used block : ℕ)
    → MayBeLeased blocks settings (counts_with_lease_home counts worker used) store block → is_stranger settings counts worker ≡ false → 0 < settings.lot
    → refusal blocks settings (counts_after blocks settings counts (Release worker used false)) (Lease worker block (min settings.lot (counts_with_lease_home counts worker used).left)) ≡ None
switched_leases_are_legal blocks settings counts store worker used block may known lot =
    chosen_leases_are_legal blocks settings (counts_after blocks settings counts (Release worker used false)) store worker block (choices_outlive_releases blocks settings counts store worker used block false may) known
    (entry_here counts.leases worker worker None (equal_self worker)) refl lot
