use Rattle.std.proofs.Common.{List, None, ap, ◌∙◌, subst}
use Rattle.pb_pddl.specs.declared.tree.Typed.{Typed}
use Rattle.pb_lifted.specs.Names.{earliest}
use Rattle.pb_lifted.specs.Types.{cyclic_types}
use Rattle.pb_lifted.specs.Tree.{IsTree}
use Rattle.pb_lifted.proofs.tables.tables_of.Goals as goal

pub returns : goal.returns
returns c = record {
  types = subst (λ (ts : List Typed). IsTree c.in_ok-types.types ts) c.as_slice.ensures c.in_ok-types.ensures;
  objects = c.in_ok-twice_in_domain.ensures.objects;
  predicates = c.in_ok-twice_in_domain.ensures.predicates;
  params = c.in_ok-twice_in_domain.ensures.params;
  twice_in_domain = c.in_ok-twice_in_domain.ensures.domain;
  twice_in_problem = c.in_ok-twice_in_domain.ensures.problem;
  cycle = c.in_ok-cycle.ensures ∙ ap (λ ts. earliest None (cyclic_types ts)) c.as_slice-2.ensures;
}
