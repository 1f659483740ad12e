-- The laws of this crate. Each is proved, as the contract of the public function that has its name.
use Rattle.std.specs.Prelude.{◌≡◌, ℕ, ◌+◌, ◌*◌, ◌≤◌, Bool, List, ◌++◌, map, reverse, All, Contains, Option, Some, ◌⊎◌}
use Rattle.std.specs.List.{AllByRecursion}
use Rattle.std.specs.List.Sorted.{IsStrictlySortedBy}
use Rattle.std.specs.Ordering.{nat_cmp}
use Rattle.pb_model.specs.declared.row.Estimate.{Estimate}
use Rattle.pb_model.specs.declared.row.Row.{Row}
use Rattle.pb_model.specs.Space.{Space, Steps, steps, IsProper}
use Rattle.pb_model.specs.Weight.{Weight, IsWeight}
use Rattle.pb_model.specs.Plan.{Plan, IsPlan, Walk, NoneCheaper, IsBound, IncumbentHolds}
use Rattle.pb_model.specs.Guide.{Guide, IsAdmissible}
use Rattle.pb_model.specs.Store.{Part, Rows, Store, row_at, IsShown, HasRowWithin, HasGoalWithin, IsQuiet, CostsAtMost, AtMost}
use Rattle.pb_model.specs.declared.key.Key.{Key}
use Rattle.pb_model.specs.Key.{key_of, IsBest, IsFirstRow}
use Rattle.pb_model.specs.Work.{Work, row_after, incumbent_after, weight_after, g_before, store_after, Comes, expansions, broken_expansions, lowerings, reopenings, LowersTo, opening_store}
use Rattle.pb_model.specs.Sound.{IsSound}
use Rattle.pb_model.specs.Trace.{TracesBack}
use Rattle.pb_model.specs.Local.{IsWithin, AgreesOn, merged_store, one_part_store}
use Rattle.pb_model.specs.Certificate.{Line, Certificate, IsValid, ClaimHolds, IsPlanIfAny, AreLinesOf, IsBackedBy}

-- The list of successors has the steps from the state and no others, in ascending order of the
-- actions.
abbrev pub StepsAreSuccessors : Type 0
StepsAreSuccessors =
    (space : Space) (greatest_cost state : ℕ) → IsProper space greatest_cost
    → All (λ succ. Steps space state succ.action succ.state succ.cost) (steps space state)
    × ((action to cost : ℕ) → Steps space state action to cost
    → Contains (steps space state) (record { action = action; state = to; cost = cost }))
    × IsStrictlySortedBy nat_cmp (map (λ succ. succ.action) (steps space state))

-- Whatever work leads from the opening store leaves a sound one. No g in it exceeds the greatest
-- cost of an action times the number of expansions, broken ones included.
abbrev pub WorkKeepsSound : Type 0
WorkKeepsSound =
    (space : Space) (greatest_cost : ℕ) (guide : Guide) (weight : Weight) (works : List Work)
    (store : Store)
    → IsProper space greatest_cost → IsWeight weight
    → Comes space guide works (opening_store space guide weight) store
    → IsSound space guide store × CostsAtMost store
    (greatest_cost * (expansions works + broken_expansions works))

-- A state that has a row keeps one, and its g never rises.
abbrev pub CostsNeverRise : Type 0
CostsNeverRise =
    (space : Space) (guide : Guide) (works : List Work) (old new : Store)
    → Comes space guide works old new
    → (state most : ℕ) → HasRowWithin guide old state most → HasRowWithin guide new state most

-- Work without a reopening leaves the weight as it is.
abbrev pub WeightsStay : Type 0
WeightsStay =
    (space : Space) (guide : Guide) (works : List Work) (old new : Store)
    → Comes space guide works old new → reopenings works ≡ 0 → new.weight ≡ old.weight

-- The incumbent after some work is at least the g of a goal's row, or it was known before.
-- Otherwise that work lowered the incumbent to its value.
abbrev pub IncumbentsAreBacked : Type 0
IncumbentsAreBacked =
    (space : Space) (guide : Guide) (works : List Work) (old new : Store)
    → Comes space guide works old new
    → (cost : ℕ) → new.incumbent ≡ Some cost
    → HasGoalWithin space guide new cost ⊎ (LowersTo works cost
    ⊎ ((before : ℕ) × (old.incumbent ≡ Some before) × (before ≤ cost)))

-- The incumbent of a search that was never given a cost is shown by a goal's row.
abbrev pub IncumbentsAreShown : Type 0
IncumbentsAreShown =
    (space : Space) (guide : Guide) (weight : Weight) (works : List Work) (store : Store)
    → Comes space guide works (opening_store space guide weight) store → lowerings works ≡ 0
    → IsShown space guide store

-- Incumbents never rise.
abbrev pub IncumbentsNeverRise : Type 0
IncumbentsNeverRise =
    (space : Space) (guide : Guide) (works : List Work) (old new : Store)
    → Comes space guide works old new → AtMost new.incumbent old.incumbent

-- Work can go on after other work, and both together are work whose counts add up.
abbrev pub WorkGoesOn : Type 0
WorkGoesOn =
    (space : Space) (guide : Guide) (works more : List Work) (old between new : Store)
    → Comes space guide works old between → Comes space guide more between new
    → Comes space guide (works ++ more) old new
    × (expansions (works ++ more) ≡ expansions works + expansions more)
    × (broken_expansions (works ++ more) ≡ broken_expansions works + broken_expansions more)
    × (lowerings (works ++ more) ≡ lowerings works + lowerings more)
    × (reopenings (works ++ more) ≡ reopenings works + reopenings more)

-- From any store, no g grows by more than the greatest cost of an action with each expansion.
abbrev pub CostsGrowByWork : Type 0
CostsGrowByWork =
    (space : Space) (greatest_cost : ℕ) (guide : Guide) (works : List Work) (old new : Store)
    (most : ℕ) → IsProper space greatest_cost → Comes space guide works old new
    → CostsAtMost old most → CostsAtMost new
    (most + greatest_cost * (expansions works + broken_expansions works))

-- Work within a scope is the same work in every store with the same rows there, the same weight,
-- and no greater incumbent. Outside the scope all stays as before.
abbrev pub WorkIsLocal : Type 0
WorkIsLocal =
    (space : Space) (guide : Guide) (scope : ℕ → Bool) (works : List Work)
    (lent worked store : Store)
    → AllByRecursion (IsWithin space guide scope) works → Comes space guide works lent worked
    → AgreesOn scope lent.rows store.rows → AtMost store.incumbent lent.incumbent
    → lent.weight ≡ store.weight
    → Comes space guide works store (merged_store scope worked store)

-- In a store of one part, work is known by what it does to the rows of that part.
abbrev pub WorkInOnePart : Type 0
WorkInOnePart =
    (space : Space) (guide : Guide) (work : Work) (find new : ℕ → Option Row) (incumbent : Option ℕ)
    (weight : Weight) (g : ℕ)
    → ((state : ℕ) → guide.home state ≡ 0) → g_before guide (one_part_store find incumbent weight)
    work ≡ g
    → ((state : ℕ) → new state ≡ row_after space guide work g incumbent 0 state (find state))
    → store_after space guide work (one_part_store find incumbent weight)
    ≡ one_part_store new (incumbent_after work g incumbent) (weight_after work weight)

-- Work is known by what it does to each row.
abbrev pub WorkByRows : Type 0
WorkByRows =
    (space : Space) (guide : Guide) (work : Work) (store : Store) (new : Rows) (g : ℕ)
    → g_before guide store work ≡ g
    → ((home state : ℕ) → new home state ≡ row_after space guide work g store.incumbent home state
    (store.rows home state))
    → store_after space guide work store ≡ record {
      rows = new;
      incumbent = incumbent_after work g store.incumbent;
      weight = weight_after work store.weight;
    }

-- A part of the store has one best key at most.
abbrev pub BestKeysAreUnique : Type 0
BestKeysAreUnique =
    (weight : Weight) (part : Part) (key other : Option Key) → IsBest weight part key
    → IsBest weight part other → key ≡ other

-- A part of the store has one first row at most.
abbrev pub FirstRowsAreUnique : Type 0
FirstRowsAreUnique =
    (weight : Weight) (part : Part) (state other : ℕ) (row other_row : Row)
    → IsFirstRow weight part state row → IsFirstRow weight part other other_row
    → (state ≡ other) × (row ≡ other_row)

-- The first row of a part of the store has its best key.
abbrev pub FirstRowsAreBest : Type 0
FirstRowsAreBest =
    (weight : Weight) (part : Part) (state : ℕ) (row : Row) → IsFirstRow weight part state row
    → IsBest weight part (Some (key_of weight row.g row.estimate))

-- In a sound store each row's state is traced back to the start.
abbrev pub RowsAreTraced : Type 0
RowsAreTraced =
    (space : Space) (greatest_cost : ℕ) (guide : Guide) (store : Store)
    → IsProper space greatest_cost → IsSound space guide store
    → (state : ℕ) (row : Row) → row_at guide store state ≡ Some row
    → (actions : List ℕ) × TracesBack space guide store state actions

-- The reverse of a trace back from a row in a sound store is a walk from the start. Its cost is at
-- most the row's g.
abbrev pub TracesAreWalks : Type 0
TracesAreWalks =
    (space : Space) (guide : Guide) (store : Store) → IsSound space guide store
    → (actions : List ℕ) (state : ℕ) (row : Row) → row_at guide store state ≡ Some row
    → TracesBack space guide store state actions
    → (cost : ℕ) × Walk space space.start (reverse actions) cost state × (cost ≤ row.g)

-- The actions of a walk and where it begins determine where it leads, and its cost.
abbrev pub WalksAreDetermined : Type 0
WalksAreDetermined =
    (space : Space) (actions : List ℕ) (from cost to other_cost other : ℕ)
    → Walk space from actions cost to → Walk space from actions other_cost other
    → (cost ≡ other_cost) × (to ≡ other)

-- A goal's row in a sound store shows a plan that costs at most its g.
abbrev pub GoalsArePlans : Type 0
GoalsArePlans =
    (space : Space) (greatest_cost : ℕ) (guide : Guide) (store : Store)
    → IsProper space greatest_cost → IsSound space guide store
    → (most : ℕ) → HasGoalWithin space guide store most → (plan : Plan) × IsPlan space plan
    × (plan.cost ≤ most)

-- If no plan costs less than a cost divided by the weight, each plan costs at least the bound of
-- that cost.
abbrev pub BoundsHold : Type 0
BoundsHold =
    (space : Space) (weight : Weight) (cost bound : ℕ) → NoneCheaper space weight cost
    → IsBound weight cost bound → (plan : Plan) → IsPlan space plan → bound ≤ plan.cost

-- In a sound store in which no row is Opened, with admissible estimates: an incumbent is known if
-- there is a plan, and no plan costs less than the incumbent divided by the weight.
abbrev pub QuietIsBest : Type 0
QuietIsBest =
    (space : Space) (guide : Guide) (store : Store) → IsSound space guide store → IsQuiet store
    → IsAdmissible space guide.estimate
    → (plan : Plan) → IsPlan space plan → (best : ℕ) × (store.incumbent ≡ Some best)
    × (store.weight.den * best ≤ store.weight.num * plan.cost)

-- In a quiet, sound store whose incumbent is shown, with admissible estimates: some plan costs no
-- more than the incumbent, and no plan costs less than the incumbent divided by the weight. Without
-- an incumbent there is no plan.
abbrev pub QuietIncumbentsHold : Type 0
QuietIncumbentsHold =
    (space : Space) (greatest_cost : ℕ) (guide : Guide) (store : Store)
    → IsProper space greatest_cost → IsSound space guide store
    → IsShown space guide store → IsQuiet store → IsAdmissible space guide.estimate
    → IncumbentHolds space store.weight store.incumbent

-- A certificate that is valid for admissible estimates shows what it claims.
abbrev pub ValidCertificatesHold : Type 0
ValidCertificatesHold =
    (space : Space) (estimate : ℕ → Estimate) (certificate : Certificate)
    → IsAdmissible space estimate → IsValid space estimate certificate
    → ClaimHolds space certificate.weight certificate.plan

-- A sound store in which no row is Opened, with a plan that costs at most its incumbent, makes a
-- valid certificate.
abbrev pub QuietStoresCertify : Type 0
QuietStoresCertify =
    (space : Space) (guide : Guide) (store : Store) (plan : Option Plan) (lines : List Line)
    → IsSound space guide store → IsQuiet store → AreLinesOf guide store.rows lines
    → IsPlanIfAny space plan → IsBackedBy store.incumbent plan
    → IsValid space guide.estimate (record { weight = store.weight; plan = plan; lines = lines })
