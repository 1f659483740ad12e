-- What is known of a lease at work.
use Rattle.std.proofs.Common.{◌≡◌, ℕ, ◌+◌, ◌-◌, ◌<◌, ◌≤◌, ◌^◌, ◌++◌, Bool, Option, Some, IsSome, IsTrue, sym, ap, ◌∙◌, subst, arith, true≢false}
use Rattle.pb_model.specs.declared.row.Row.{Row}
use Rattle.pb_model.specs.Sound.{IsSound}
use Rattle.pb_model.specs.Store.{Store}
use Rattle.pb_model.proofs.Callers.{comes_append, work_keeps_sound}
use Rattle.pb_machine.specs.declared.settings.Settings.{Settings}
use Rattle.pb_machine.specs.Machine.{Setup, IsSetup, Machine, IsWorked, lent_store}
use Rattle.pb_machine.specs.Turns.{AreLeaseTurns}
use Rattle.pb_machine.proofs.Callers.{merged, works_there, row_there, lease_work_goes_on, lease_work_stays, lease_turns_go_on, lease_costs_fit}
use Rattle.pb_task.specs.declared.parts.TaskParts.{TaskParts}
use Rattle.pb_task.specs.Parts.{space_of, greatest_cost}
use Rattle.pb_estimate.specs.Choices.{Choice}
use Rattle.pb_abstract.specs.Graph.{AbstractGraph, blocks_of}
use Rattle.pb_bundles.specs.Parts.{content_in}
use Rattle.pb_lease.specs.LeaseValue.{LeaseValue, leased_store, HasWeights, IsSameLease}
use Rattle.pb_lease.specs.Leased.{guide_of, setup_of, grant_of, HasScope, IsOut, IsInTurns}
use Rattle.pb_expand.specs.Turned.{own_rows, IsAtWork, reads_none, HasTurned, HasTurnedOnce}
use Rattle.pb_lease.specs.Rows.{LeadsInto}
use Rattle.pb_lease.proofs.Callers.{same_places}

-- costs of a task are in the range of the planner
greater_costs : (setup : Setup) → IsSetup setup greatest_cost → IsSetup setup (2 ^ 20)
greater_costs setup is = record {
  space = record {
    start = is.space.start;
    action = is.space.action;
    from_state = is.space.from_state;
    to_state = is.space.to_state;
    positive = is.space.positive;
    bounded = λ from action to cost step. let low : cost ≤ greatest_cost = is.space.bounded from action to cost step in omega (arith, low);
  };
  blocks = is.blocks;
  weight = is.weight;
}

module _ (task : TaskParts) (abstraction : AbstractGraph) (choice : Choice) (lease : LeaseValue) (at : IsAtWork task abstraction choice lease) where
  abbrev setup : Setup
  setup = setup_of task abstraction choice at.settings at.reopenings

  -- the block is one that there is
  block_is_known : lease.block < (blocks_of abstraction).count
  block_is_known = (at.lawful.counts.known lease.worker (grant_of lease) at.leased).1

  -- the lease has the bundle of its block
  pub own_there : IsSome (content_in lease.parts lease.block)
  own_there = at.scope.blocks lease.block ∙ at.is_setup.blocks.own lease.block block_is_known

  -- successors of a row of the block have their bundles
  pub leads_into : (state : ℕ) → (guide_of task abstraction choice).home state ≡ lease.block → LeadsInto (space_of task) (guide_of task abstraction choice) state lease.parts
  leads_into state home action to cost step =
      at.scope.blocks ((guide_of task abstraction choice).home to)
      ∙ ap (λ k. (blocks_of abstraction).scope k ((guide_of task abstraction choice).home to)) (sym home) ∙ at.is_setup.blocks.steps state action to cost step

  whole_sound : IsSound (space_of task) (guide_of task abstraction choice) (merged setup greatest_cost at.is_setup at.machine (grant_of lease) (leased_store lease))
  whole_sound =
      let there = works_there setup greatest_cost at.is_setup at.machine lease.worker (grant_of lease) lease.used 0 (leased_store lease) at.lawful at.leased at.work in
      (work_keeps_sound (space_of task) greatest_cost (guide_of task abstraction choice) at.lawful.reached.first_weight (at.lawful.reached.works ++ at.work.works)
      (merged setup greatest_cost at.is_setup at.machine (grant_of lease) (leased_store lease)) at.is_setup.space at.lawful.reached.is_weight
      (comes_append (space_of task) (guide_of task abstraction choice) at.lawful.reached.works at.work.works _ at.machine.store _ at.lawful.reached.comes there)).0

  module _ (state : ℕ) (row : Row) (found : own_rows lease state ≡ Some row) where
    place : (lease.block ≡ (guide_of task abstraction choice).home state) × IsTrue ((space_of task).is_state state) × (row.estimate ≡ (guide_of task abstraction choice).estimate state)
    place = whole_sound.place lease.block state row
        (row_there setup greatest_cost at.is_setup at.machine lease.worker (grant_of lease) lease.used 0 (leased_store lease) at.lawful at.leased at.work lease.block state row found)

    -- a row of the block is that of a state at home there
    pub row_is_home : (guide_of task abstraction choice).home state ≡ lease.block
    row_is_home = sym place.0

    pub row_is_state : IsTrue ((space_of task).is_state state)
    row_is_state = place.1

    pub row_is_cheap : lease.used ≤ lease.quota → row.g < 2 ^ 61
    row_is_cheap within =
        let low : row.g ≤ 2 ^ 61 - 1 = lease_costs_fit setup at.machine lease.worker lease.used 0 at.known (grant_of lease) (leased_store lease) (greater_costs setup at.is_setup) at.in_range at.lawful at.leased at.work within
        lease.block state row found in
        omega (arith, low)

-- a lease that is out still is after turns, and is in turns where it was
module _ (task : TaskParts) (abstraction : AbstractGraph) (choice : Choice) (settings : Settings) (reopenings : ℕ) (machine : Machine) (old new : LeaseValue) (more broken : ℕ) where
  abbrev out_setup : Setup
  out_setup = setup_of task abstraction choice settings reopenings

  module _ (before : IsOut out_setup machine 0 old) where
    -- what the worker did in all, had it this number and this block
    abbrev Done : (worker block used : ℕ) → Type 0
    Done worker block used =
        (work : IsWorked (space_of task) (guide_of task abstraction choice) block used broken (machine.known worker) (lent_store out_setup block machine.store (machine.given worker)) (leased_store new))
        × (IsInTurns out_setup machine 0 old before → AreLeaseTurns (space_of task) (guide_of task abstraction choice) work.works (lent_store out_setup block machine.store (machine.given worker)))

    done : HasTurned (space_of task) (guide_of task abstraction choice) reads_none old.block more broken (leased_store old) (leased_store new) → Done old.worker old.block (old.used + more)
    done turned =
        let lent : Store = lent_store out_setup old.block machine.store (machine.given old.worker) in
        let second = lease_work_stays (space_of task) (guide_of task abstraction choice) old.block more broken broken reads_none (machine.known old.worker) (leased_store old) (leased_store new) turned.work (omega arith)
        (λ incumbent known. absurd (true≢false (sym known))) in
        let both = lease_work_goes_on (space_of task) (guide_of task abstraction choice) old.block old.used more broken (machine.known old.worker) (machine.known old.worker) lent (leased_store old) (leased_store new)
        before.work second.0 (λ incumbent known. known) in
        let works : both.0.works ≡ before.work.works ++ turned.work.works = both.1 ∙ ap (λ works. before.work.works ++ works) second.1 in (
          both.0,
          λ turns. subst (λ works. AreLeaseTurns (space_of task) (guide_of task abstraction choice) works lent) (sym works)
              (lease_turns_go_on (space_of task) (guide_of task abstraction choice) before.work.works turned.work.works lent (leased_store old) before.work.comes turns turned.turns),
        )

    pub out_on : HasTurned (space_of task) (guide_of task abstraction choice) reads_none old.block more broken (leased_store old) (leased_store new) → IsSameLease old new → new.used ≡ old.used + more
        → (after : IsOut out_setup machine broken new) × (IsInTurns out_setup machine 0 old before → IsInTurns out_setup machine broken new after)
    out_on turned same used =
        let here : Done old.worker old.block new.used = subst (λ n. Done old.worker old.block n) (sym used) (done turned) in
        let there : Done old.worker new.block new.used = subst (λ b. Done old.worker b new.used) (sym same.block) here in
        let now : Done new.worker new.block new.used = subst (λ w. Done w new.block new.used) (sym same.worker) there in (
          record {
            leased = ap machine.counts.leases same.worker ∙ before.leased ∙ λ i. Some (record { block = sym same.block i; quota = sym same.quota i });
            work = now.0;
          },
          now.1,
        )

-- turns by the one choice are turns by the other, which is the same
module _ (task : TaskParts) (abstraction : AbstractGraph) (choice own : Choice) (is : own ≡ choice) {known : Option ℕ → Bool} {block used broken : ℕ} {old new : Store} where
  pub turned_once_by : HasTurnedOnce (space_of task) (guide_of task abstraction own) known block used broken old new → HasTurnedOnce (space_of task) (guide_of task abstraction choice) known block used broken old new
  turned_once_by turned = subst (λ h. HasTurnedOnce (space_of task) (guide_of task abstraction h) known block used broken old new) is turned

-- a lease at work is that by its own choice
pub at_work_by_own : (task : TaskParts) (abstraction : AbstractGraph) (choice : Choice) (lease : LeaseValue) → IsAtWork task abstraction choice lease → IsAtWork task abstraction lease.choice lease
at_work_by_own task abstraction choice lease at = subst (λ h. IsAtWork task abstraction h lease) (sym at.choice_is) at

-- the bundles of a lease stay
module _ (task : TaskParts) (abstraction : AbstractGraph) (choice : Choice) (old new : LeaseValue) (more : ℕ) (at : IsAtWork task abstraction choice old) where
  pub scope_on : IsSameLease old new → HasWeights new → HasScope abstraction new
  scope_on same weights = record {
    blocks = λ block. same_places old.parts new.parts block same.places ∙ at.scope.blocks block ∙ ap (λ own. (blocks_of abstraction).scope own block) (sym same.block);
    weights = weights;
  }
