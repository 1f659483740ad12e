-- What a name or a variable means: objects, parameters, predicates.
use Rattle.std.specs.Prelude.{ℕ, List, ◌++◌, Option, find}
use Rattle.std.specs.Str.{bytes_eq}
use Rattle.pb_pddl.specs.declared.tree.Name.{Name}
use Rattle.pb_pddl.specs.declared.tree.Typed.{Typed}
use Rattle.pb_pddl.specs.declared.tree.Term.{Term}
use Rattle.pb_pddl.specs.declared.tree.Term.TheVariants.{Object, Variable}
use Rattle.pb_pddl.specs.declared.tree.Predicate.{Predicate}
use Rattle.pb_pddl.specs.declared.tree.Domain.{Domain}
use Rattle.pb_pddl.specs.declared.tree.Problem.{Problem}
use Rattle.pb_lifted.specs.Types.{name_text}

-- the objects: the constants, and then those of the problem
abbrev pub objects_of : Domain → Problem → List Typed
objects_of domain problem = domain.constants ++ problem.objects

-- the first of this name
abbrev pub entry_of : List Typed → List ℕ → Option Typed
entry_of list text = find (λ t. bytes_eq text (name_text t)) list

abbrev pub predicate_of : List Predicate → List ℕ → Option Predicate
predicate_of list text = find (λ p. bytes_eq text p.name.text) list

-- what an argument names, if that is known: an object, or a parameter of the action
abbrev pub entry_of_term : List Typed → List Typed → Term → Option Typed
entry_of_term objects params (Object name) = entry_of objects name.text
entry_of_term objects params (Variable name) = entry_of params name.text

abbrev pub term_name : Term → Name
term_name (Object name) = name
term_name (Variable name) = name
