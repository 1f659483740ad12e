-- A domain and a problem as a state space, by names (McDermott and others, PDDL: the planning
-- domain definition language, 1998). A state is a set of facts, and an action is a schema with
-- objects.
use Rattle.std.specs.Prelude.{◌≡◌, ℕ, Bool, true, not, cond, ◌&&◌, ◌||◌, if◌then◌else◌, List, [], ◌∷◌, map, flat_map, Option, Some, None}
use Rattle.std.specs.List.{list_any, slice_get}
use Rattle.std.specs.Str.{bytes_eq}
use Rattle.std.specs.Cmp.Lexicographic.{pointwise}
use Rattle.pb_pddl.specs.declared.tree.Typed.{Typed}
use Rattle.pb_pddl.specs.declared.tree.Term.{Term}
use Rattle.pb_pddl.specs.declared.tree.Term.TheVariants.{Object, Variable}
use Rattle.pb_pddl.specs.declared.tree.Atom.{Atom}
use Rattle.pb_pddl.specs.declared.tree.Literal.{Literal}
use Rattle.pb_pddl.specs.declared.tree.Action.{Action}
use Rattle.pb_pddl.specs.declared.tree.Domain.{Domain}
use Rattle.pb_pddl.specs.declared.tree.Problem.{Problem}
use Rattle.pb_lifted.specs.Types.{name_text, kind_text, is_below}
use Rattle.pb_lifted.specs.Objects.{objects_of, entry_of}

-- a predicate of objects
pub record Fact : Type 0 where
  pub predicate : List ℕ
  pub objects : List (List ℕ)

abbrev pub same_fact : Fact → Fact → Bool
same_fact f g = bytes_eq f.predicate g.predicate && pointwise bytes_eq f.objects g.objects

abbrev pub is_fact_in : Fact → List Fact → Bool
is_fact_in f facts = list_any (same_fact f) facts

-- which facts hold
abbrev pub State : Type 0
State = Fact → Bool

-- the object that is given to the parameter of a name
abbrev pub given_to : List Typed → List (List ℕ) → List ℕ → List ℕ
given_to [] objects name = []
given_to (p ∷ params) [] name = []
given_to (p ∷ params) (o ∷ objects) name =
    if bytes_eq name (name_text p) then o else given_to params objects name

-- what an argument means, if these objects are given to the parameters
abbrev pub object_of : List Typed → List (List ℕ) → Term → List ℕ
object_of params objects (Object name) = name.text
object_of params objects (Variable name) = given_to params objects name.text

abbrev pub fact_of : List Typed → List (List ℕ) → Atom → Fact
fact_of params objects atom =
    record {
      predicate = atom.predicate.text;
      objects = map (λ t. object_of params objects t)
          atom.terms;
    }

abbrev pub facts_of : List Typed → List (List ℕ) → List Atom → List Fact
facts_of params objects atoms = map (λ a. fact_of params objects a) atoms

abbrev pub added : List Typed → List (List ℕ) → List Literal → List Fact
added params objects effect =
    flat_map (λ l. cond l.negated [] (fact_of params objects l.atom ∷ [])) effect

abbrev pub deleted : List Typed → List (List ℕ) → List Literal → List Fact
deleted params objects effect =
    flat_map (λ l. cond l.negated (fact_of params objects l.atom ∷ []) []) effect

abbrev pub AllHold : State → List Fact → Type 0
AllHold state [] = Unit {0}
AllHold state (f ∷ facts) = (state f ≡ true) × AllHold state facts

-- an object of a parameter's type, or of a type below it
abbrev pub FitsParameter : List Typed → Option Typed → Typed → Type 0
FitsParameter types None param = ⊥
FitsParameter types (Some entry) param = is_below types (kind_text entry) (kind_text param) ≡ true

-- to each parameter such an object
abbrev pub AreGiven : Domain → Problem → List Typed → List (List ℕ) → Type 0
AreGiven domain problem [] [] = Unit {0}
AreGiven domain problem [] (o ∷ objects) = ⊥
AreGiven domain problem (p ∷ params) [] = ⊥
AreGiven domain problem (p ∷ params) (o ∷ objects) =
    FitsParameter domain.types (entry_of (objects_of domain problem) o) p
    × AreGiven domain problem params objects

-- the state less the deleted facts, with the added facts: a fact that is deleted and added holds
abbrev pub after : State → List Fact → List Fact → State
after state gone come f = is_fact_in f come || state f && not (is_fact_in f gone)

-- action i, with these objects, leads from a state to the next
pub record IsStep (domain : Domain) (problem : Problem) (state : State) (i : ℕ)
    (objects : List (List ℕ)) (next : State) : Type 0 where
  pub action : Action
  pub declared : slice_get domain.actions i ≡ Some action
  pub fits : AreGiven domain problem action.params objects
  pub applicable : AllHold state (facts_of action.params objects action.pre)
  pub result : (f : Fact) → next f ≡ after state (deleted action.params objects action.effect)
      (added action.params objects action.effect) f

-- at first the facts of :init hold and no others
abbrev pub start_of : Problem → State
start_of problem f = is_fact_in f (facts_of [] [] problem.init)

abbrev pub IsGoal : Problem → State → Type 0
IsGoal problem state = AllHold state (facts_of [] [] problem.goal)
