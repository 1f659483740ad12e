-- A domain and a problem in numbers.
use Rattle.std.specs.Prelude.{ℕ, Bool, true, false, cond, List, [], ◌∷◌, map, flat_map, unwrap_or}
use Rattle.pb_pddl.specs.declared.tree.Typed.{Typed}
use Rattle.pb_pddl.specs.declared.tree.Term.{Term}
use Rattle.pb_pddl.specs.declared.tree.Term.TheVariants as terms
use Rattle.pb_pddl.specs.declared.tree.Atom.{Atom}
use Rattle.pb_pddl.specs.declared.tree.Literal.{Literal}
use Rattle.pb_pddl.specs.declared.tree.Predicate.{Predicate}
use Rattle.pb_pddl.specs.declared.tree.Action.{Action}
use Rattle.pb_pddl.specs.declared.tree.Domain.{Domain}
use Rattle.pb_pddl.specs.declared.tree.Problem.{Problem}
use Rattle.pb_lifted.specs.declared.lifted.Argument.{Argument}
use Rattle.pb_lifted.specs.declared.lifted.Argument.TheVariants as arguments
use Rattle.pb_lifted.specs.declared.lifted.LiftedAtom.{LiftedAtom}
use Rattle.pb_lifted.specs.declared.lifted.Schema.{Schema}
use Rattle.pb_lifted.specs.declared.lifted.Lifted.{Lifted}
use Rattle.pb_lifted.specs.Names.{number_of}
use Rattle.pb_lifted.specs.Types.{name_text, kind_text, type_names}
use Rattle.pb_lifted.specs.Objects.{objects_of}
use Rattle.pb_lifted.specs.Costs.{cost_of}
use Rattle.pb_lifted.specs.Tree.{parent_numbers}
use Rattle.pb_lifted.specs.Tables.{predicate_text}

-- the number of a name that is there
abbrev pub number : List ℕ → List (List ℕ) → ℕ
number text names = unwrap_or (number_of text names) 0

-- for each object or parameter the number of its type
abbrev pub kind_numbers : List (List ℕ) → List Typed → List ℕ
kind_numbers types list = map (λ t. number (kind_text t) types) list

-- an argument, for objects and parameters of these names
abbrev pub argument_of : List (List ℕ) → List (List ℕ) → Term → Argument
argument_of objects params (terms.Object name) = arguments.Object (number name.text objects)
argument_of objects params (terms.Variable name) = arguments.Parameter (number name.text params)

abbrev pub arguments_of : List (List ℕ) → List (List ℕ) → List Term → List Argument
arguments_of objects params list = map (λ t. argument_of objects params t) list

abbrev pub atom_of : List (List ℕ) → List (List ℕ) → List (List ℕ) → Atom → LiftedAtom
atom_of predicates objects params atom =
    record {
      predicate = number atom.predicate.text predicates;
      arguments = arguments_of objects params atom.terms;
    }

abbrev pub atoms_of : List (List ℕ) → List (List ℕ) → List (List ℕ) → List Atom → List LiftedAtom
atoms_of predicates objects params atoms = map (λ a. atom_of predicates objects params a) atoms

-- the atoms of an effect that are negated, or those that are not
abbrev pub atom_if : Bool → List (List ℕ) → List (List ℕ) → List (List ℕ) → Literal
    → List LiftedAtom
atom_if true predicates objects params literal =
    cond literal.negated (atom_of predicates objects params literal.atom ∷ []) []
atom_if false predicates objects params literal =
    cond literal.negated [] (atom_of predicates objects params literal.atom ∷ [])

abbrev pub effect_of : Bool → List (List ℕ) → List (List ℕ) → List (List ℕ) → List Literal
    → List LiftedAtom
effect_of negated predicates objects params effect =
    flat_map (λ l. atom_if negated predicates objects params l) effect

abbrev pub schema_of : Problem → List (List ℕ) → List (List ℕ) → List (List ℕ) → Action → Schema
schema_of problem types predicates objects action =
    let params = map name_text action.params in
    record {
      params = kind_numbers types action.params;
      pre = atoms_of predicates objects params action.pre;
      adds = effect_of false predicates objects params action.effect;
      deletes = effect_of true predicates objects params action.effect;
      cost = cost_of problem action;
    }

abbrev pub schemas_of : Problem → List (List ℕ) → List (List ℕ) → List (List ℕ) → List Action
    → List Schema
schemas_of problem types predicates objects actions =
    map (λ a. schema_of problem types predicates objects a) actions

abbrev pub predicate_kinds : List (List ℕ) → List Predicate → List (List ℕ)
predicate_kinds types predicates = map (λ p. kind_numbers types p.params) predicates

abbrev pub lifted_of : Domain → Problem → Lifted
lifted_of domain problem =
    let types = type_names domain.types in
    let predicates = map predicate_text domain.predicates in
    let objects = map name_text (objects_of domain problem) in
    record {
      types = parent_numbers types domain.types;
      objects = kind_numbers types (objects_of domain problem);
      predicates = predicate_kinds types domain.predicates;
      actions = schemas_of problem types predicates objects domain.actions;
      init = atoms_of predicates objects [] problem.init;
      goal = atoms_of predicates objects [] problem.goal;
    }
