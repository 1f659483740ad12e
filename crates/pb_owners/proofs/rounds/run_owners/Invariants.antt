use Rattle.pb_owner.specs.Plans.{space_in}
use Rattle.pb_owners.proofs.rounds.run_owners.Given as goal

abbrev pub ghosts-search : goal.ghosts-search
ghosts-search g a = record { fits = (space_in a.plan.now).is_state }
