-- What is out, what was spent and what is left of the budget.
use Rattle.std.proofs.Common.{◌≡◌, ℕ, ◌+◌, ◌≤◌, ◌^◌, Some, None, ap, arith}
use Rattle.pb_machine.specs.declared.event.Grant.{Grant}
use Rattle.pb_machine.specs.declared.settings.Settings.{Settings}
use Rattle.pb_machine.specs.Settings.{AreInRange}
use Rattle.pb_machine.specs.Blocks.{Blocks}
use Rattle.pb_machine.specs.Counts.{Counts, AreLawful, quota_of}
use Rattle.pb_machine.proofs.Callers.{sum_with_entry}

-- a quota that is out, what was settled and what is left are within the budget
pub quota_within : (blocks : Blocks) (settings : Settings) (counts : Counts) (worker : ℕ)
    (grant : Grant) → AreInRange settings → AreLawful blocks settings counts → counts.leases worker
    ≡ Some grant
    → counts.spent + grant.quota + counts.left ≤ 2 ^ 40
quota_within blocks settings counts worker grant range lawful leased =
    let sums =
    sum_with_entry quota_of settings.workers worker counts.leases None
    (lawful.known worker grant leased).0 in
    let own = ap quota_of leased in
    omega (arith, lawful.sum, sums, own, range.budget.1)

pub all_within : (blocks : Blocks) (settings : Settings) (counts : Counts) → AreInRange settings
    → AreLawful blocks settings counts → counts.spent + counts.left ≤ 2 ^ 40
all_within blocks settings counts range lawful = omega (arith, lawful.sum, range.budget.1)
