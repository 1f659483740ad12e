-- The tables of names that belong to a domain and a problem.
use Rattle.std.specs.Prelude.{◌≡◌, ℕ, List, map, None}
use Rattle.pb_pddl.specs.declared.tree.Action.{Action}
use Rattle.pb_pddl.specs.declared.tree.Predicate.{Predicate}
use Rattle.pb_pddl.specs.declared.tree.Domain.{Domain}
use Rattle.pb_pddl.specs.declared.tree.Problem.{Problem}
use Rattle.pb_lifted.specs.declared.refusal.Cause.TheVariants as causes
use Rattle.pb_lifted.specs.declared.tables.NameTables.{NameTables}
use Rattle.pb_lifted.specs.Names.{earliest}
use Rattle.pb_lifted.specs.Types.{name_text, cyclic_types}
use Rattle.pb_lifted.specs.Objects.{objects_of}
use Rattle.pb_lifted.specs.Tree.{IsTree}
use Rattle.pb_lifted.specs.Refusals.{in_domain, in_problem}

abbrev pub names_of_params : List Action → List (List (List ℕ))
names_of_params actions = map (λ a. map name_text a.params) actions

abbrev pub predicate_text : Predicate → List ℕ
predicate_text p = p.name.text

pub record AreTables (tables : NameTables) (domain : Domain) (problem : Problem) : Type 0 where
  pub types : IsTree tables.types domain.types
  pub objects : tables.objects ≡ map name_text (objects_of domain problem)
  pub predicates : tables.predicates ≡ map predicate_text domain.predicates
  pub params : tables.params.items ≡ names_of_params domain.actions
  pub twice_in_domain : tables.twice_in_domain ≡ earliest None
      (in_domain causes.Twice domain problem)
  pub twice_in_problem : tables.twice_in_problem ≡ earliest None
      (in_problem causes.Twice domain problem)
  pub cycle : tables.cycle ≡ earliest None (cyclic_types domain.types)
