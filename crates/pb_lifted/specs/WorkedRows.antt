-- Worked rows of the definitions, over small trees. A name's place is the byte where it begins in
-- the text that is quoted.
use Rattle.std.specs.Prelude.{◌≡◌, ◌+◌, ℕ, Bool, true, false, List, [], ◌∷◌, codes, Option, Some, None}
use Rattle.pb_pddl.specs.declared.tree.Name.{Name}
use Rattle.pb_pddl.specs.declared.tree.Typed.{Typed}
use Rattle.pb_pddl.specs.declared.tree.Term.TheVariants as terms
use Rattle.pb_pddl.specs.declared.tree.Atom.{Atom}
use Rattle.pb_pddl.specs.declared.tree.Cost.{Cost}
use Rattle.pb_pddl.specs.declared.tree.Literal.{Literal}
use Rattle.pb_pddl.specs.declared.tree.Action.{Action}
use Rattle.pb_pddl.specs.declared.tree.Domain.{Domain}
use Rattle.pb_pddl.specs.declared.tree.Problem.{Problem}
use Rattle.pb_lifted.specs.declared.refusal.Cause.TheVariants as causes
use Rattle.pb_lifted.specs.declared.refusal.File.TheVariants as files
use Rattle.pb_lifted.specs.declared.refusal.Place.{Place}
use Rattle.pb_lifted.specs.declared.refusal.TypingRefusal.TheVariants as refusals
use Rattle.pb_lifted.specs.declared.lifted.Argument.TheVariants as arguments
use Rattle.pb_lifted.specs.declared.lifted.LiftedAtom.{LiftedAtom}
use Rattle.pb_lifted.specs.declared.lifted.Lifted.{Lifted}
use Rattle.pb_lifted.specs.Names.{repeated, earliest}
use Rattle.pb_lifted.specs.Types.{object, is_below, cyclic_types}
use Rattle.pb_lifted.specs.Costs.{cost_of, costs_again}
use Rattle.pb_lifted.specs.Refusals.{place_in, first_refusal}
use Rattle.pb_lifted.specs.Lifted.{lifted_of}
use Rattle.pb_lifted.specs.Space.{Fact, State, after, added, deleted}

abbrev pub name : List ℕ → ℕ → Name
name text at = record { text = text; at = at }

-- NAME - KIND, and NAME alone
abbrev pub under : Name → Name → Typed
under low high = record { name = low; kind = Some high }

abbrev pub alone : Name → Typed
alone low = record { name = low; kind = None }

-- ---- types

-- car - vehicle vehicle
abbrev pub vehicles : List Typed
vehicles =
    under (name (codes "car") 0) (name (codes "vehicle") 6) ∷ alone (name (codes "vehicle") 14) ∷ []

abbrev pub SubtypeIsBelow : Type 0
SubtypeIsBelow =
    (is_below vehicles (codes "car") (codes "vehicle") ≡ true)
    × (is_below vehicles (codes "car") object ≡ true)
    × (is_below vehicles (codes "vehicle") (codes "car") ≡ false)
    × (cyclic_types vehicles ≡ [])

-- a - b b - a c - a d
abbrev pub circle : List Typed
circle =
    under (name (codes "a") 0) (name (codes "b") 4) ∷ under (name (codes "b") 6)
    (name (codes "a") 10) ∷ under (name (codes "c") 12) (name (codes "a") 16)
    ∷ alone (name (codes "d") 18) ∷ []

-- The two types that are above each other and the one below them come to no root, and the fourth
-- does.
abbrev pub CycleIsFound : Type 0
CycleIsFound = cyclic_types circle ≡ 0 ∷ 6 ∷ 12 ∷ []

-- ---- names

-- a b a c b
abbrev pub letters : List Name
letters =
    name (codes "a") 0 ∷ name (codes "b") 2 ∷ name (codes "a") 4 ∷ name (codes "c") 6
    ∷ name (codes "b") 8 ∷ []

-- The later names are reported, and those that a list of earlier names has; the earliest place is
-- the least byte.
abbrev pub RepeatedNamesAreFound : Type 0
RepeatedNamesAreFound =
    (repeated [] letters ≡ 4 ∷ 8 ∷ []) × (repeated (codes "c" ∷ []) letters ≡ 4 ∷ 6 ∷ 8 ∷ [])
    × (earliest None (8 ∷ 4 ∷ 6 ∷ []) ≡ Some 4)

-- A place in the domain comes before one in the problem, whatever their bytes.
abbrev pub DomainComesFirst : Type 0
DomainComesFirst =
    let late : Place =
    record { file = files.Domain; at = 50 }
    in let early : Place = record { file = files.Problem; at = 4 } in
    (place_in (Some 50) (Some 4) ≡ Some late) × (place_in None (Some 4) ≡ Some early)

-- ---- a whole task

-- (parked ?c)
abbrev pub parked : Atom
parked =
    record {
      predicate = name (codes "parked") 60;
      terms = terms.Variable (name (codes "?c") 67)
          ∷ [];
    }

-- (and (not (parked ?c)) (parked ?c))
abbrev pub parks_again : List Literal
parks_again =
    record { atom = parked; negated = true } ∷ record { atom = parked; negated = false } ∷ []

abbrev pub one_car : List Typed
one_car = under (name (codes "?c") 50) (name (codes "car") 55) ∷ []

-- one action, that takes a car out of its place and back
abbrev pub turning : Domain
turning =
    record {
      name = name (codes "turning") 8;
      types = vehicles;
      constants = [];
      predicates =
          record {
            name = name (codes "parked") 30;
            params = under (name (codes "?v") 37) (name (codes "vehicle") 42) ∷ [];
          } ∷ [];
      actions =
          record {
            name = name (codes "turn") 48;
            params = one_car;
            pre = parked ∷ [];
            effect = parks_again;
            costs = [];
          } ∷ [];
      has_cost = false;
    }

-- (parked c1), c1 being of this type
abbrev pub turning_problem : List ℕ → Problem
turning_problem kind =
    record {
      name = name (codes "p") 9;
      domain = name (codes "turning") 20;
      objects = under (name (codes "c1") 40) (name kind 45) ∷ [];
      init =
          record {
            predicate = name (codes "parked") 60;
            terms = terms.Object (name (codes "c1") 67) ∷ [];
          } ∷ [];
      goal = [];
      costs = [];
      metric = None;
    }

abbrev pub parked_by_number : LiftedAtom
parked_by_number = record { predicate = 0; arguments = arguments.Parameter 0 ∷ [] }

-- Types are object, car, vehicle, and once more the vehicle after the -, whose number is that of
-- the first vehicle.
abbrev pub TurningIsLifted : Type 0
TurningIsLifted =
    let lifted : Lifted =
    record {
      types = 0 ∷ 2 ∷ 0 ∷ [];
      objects = 1 ∷ [];
      predicates = (2 ∷ []) ∷ [];
      actions =
          record {
            params = 1 ∷ [];
            pre = parked_by_number ∷ [];
            adds = parked_by_number ∷ [];
            deletes = parked_by_number ∷ [];
            cost = 1;
          } ∷ [];
      init = record { predicate = 0; arguments = arguments.Object 0 ∷ [] } ∷ [];
      goal = [];
    }
    in (first_refusal turning (turning_problem (codes "car")) ≡ None)
    × (lifted_of turning (turning_problem (codes "car")) ≡ lifted)

-- An object that is of no vehicle's type is no argument of parked, and an unknown type comes
-- before.
abbrev pub WrongTypeIsRefused : Type 0
WrongTypeIsRefused =
    let argument : Place =
    record { file = files.Problem; at = 67 }
    in let kind : Place = record { file = files.Problem; at = 45 } in
    (first_refusal turning (turning_problem object)
    ≡ Some (refusals.Named causes.WrongType argument))
    × (first_refusal turning (turning_problem (codes "boat"))
    ≡ Some (refusals.Named causes.UnknownType kind))

-- A fact that is deleted and added holds, and one that is only deleted doesn't.
abbrev pub DeletedAndAddedHolds : Type 0
DeletedAndAddedHolds =
    let c1 : List (List ℕ) =
    codes "c1" ∷ [] in let fact : Fact = record { predicate = codes "parked"; objects = c1 } in
    (state : State)
    → (after state (deleted one_car c1 parks_again) (added one_car c1 parks_again) fact ≡ true)
    × (state fact ≡ true → after state (deleted one_car c1 parks_again) [] fact ≡ false)

-- ---- costs

-- (WORD (total-cost) NUMBER), the word at this place: `increase` has eight letters and `=` one
abbrev pub cost : (at letters number : ℕ) → Cost
cost at letters number =
    record { at = at; function = at + letters + 2; number = number; number_at = at + letters + 14 }

-- an action buy at 100 with an increase at 130, and one without, wait at 200
abbrev pub buy : (number : ℕ) → Action
buy number =
    record {
      name = name (codes "buy") 100;
      params = [];
      pre = [];
      effect = [];
      costs = cost 130 8 number ∷ [];
    }

abbrev pub wait : Action
wait = record { name = name (codes "wait") 200; params = []; pre = []; effect = []; costs = [] }

abbrev pub shop : (has_cost : Bool) → (number : ℕ) → Domain
shop has_cost number =
    record {
      name = name (codes "shop") 8;
      types = [];
      constants = [];
      predicates = [];
      actions = buy number ∷ wait ∷ [];
      has_cost = has_cost;
    }

-- (= (total-cost) NUMBER) at 60, and a metric or none
abbrev pub shopping : (number : ℕ) → (metric : Option ℕ) → Problem
shopping number metric =
    record {
      name = name (codes "p") 9;
      domain = name (codes "shop") 20;
      objects = [];
      init = [];
      goal = [];
      costs = cost 60 1 number ∷ [];
      metric = metric;
    }

-- Without a metric each action costs 1, with one the number of its increase.
abbrev pub MetricDecides : Type 0
MetricDecides =
    (cost_of (shopping 0 None) (buy 5) ≡ 1) × (cost_of (shopping 0 None) wait ≡ 1)
    × (cost_of (shopping 0 (Some 90)) (buy 5) ≡ 5)
    × (first_refusal (shop true 5) (shopping 0 None) ≡ None)

-- Each cause of costs has its place, and an earlier cause comes before a later one. A second cost
-- is reported, and a third.
abbrev pub CostsAreRefused : Type 0
CostsAreRefused =
    let metric : Option ℕ =
    Some 90 in let in_domain : ℕ → Place = λ at. record { file = files.Domain; at = at } in
    let in_problem : ℕ → Place = λ at. record { file = files.Problem; at = at } in
    (first_refusal (shop false 0) (shopping 1 metric)
    ≡ Some (refusals.Named causes.NoFunction (in_domain 140)))
    × (first_refusal (shop true 1048577) (shopping 1 metric)
    ≡ Some (refusals.Named causes.CostRange (in_domain 152)))
    × (first_refusal (shop true 1048576) (shopping 1 metric)
    ≡ Some (refusals.Named causes.CostRange (in_problem 75)))
    × (first_refusal (shop true 0) (shopping 0 metric)
    ≡ Some (refusals.Named causes.ZeroCost (in_domain 152)))
    × (first_refusal (shop true 1) (shopping 0 metric)
    ≡ Some (refusals.Named causes.ZeroCost (in_domain 200)))
    × (costs_again (cost 10 8 1 ∷ cost 50 8 2 ∷ cost 90 8 3 ∷ []) ≡ 50 ∷ 90 ∷ [])
