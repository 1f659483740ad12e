-- Steps of reading that are parts of an action, a domain or a problem.
use Rattle.std.specs.Prelude.{ℕ, List, codes, Result, Ok, Option, Some, None}
use Rattle.pb_pddl.specs.declared.token.TokenKind.TheVariants as kinds
use Rattle.pb_pddl.specs.declared.token.Token.{Token}
use Rattle.pb_pddl.specs.declared.error.SyntaxError.{SyntaxError}
use Rattle.pb_pddl.specs.declared.error.Want.TheVariants as wants
use Rattle.pb_pddl.specs.declared.tree.Name.{Name}
use Rattle.pb_pddl.specs.declared.tree.Action.{Action}
use Rattle.pb_pddl.specs.declared.tree.Domain.{Domain}
use Rattle.pb_pddl.specs.declared.tree.Problem.{Problem}
use Rattle.pb_pddl.specs.declared.parts.ActionParts.{ActionParts}
use Rattle.pb_pddl.specs.declared.parts.DomainParts.{DomainParts}
use Rattle.pb_pddl.specs.declared.parts.ProblemParts.{ProblemParts}
use Rattle.pb_pddl.specs.Reading.{◌>>=◌, Read, all_of, begins_key, begins_open, need, need_word, part_at, parts_want, domain_section, problem_section, sections_want, there, end_at, limited, or_empty}

-- ( define ( WORD
unfoldable pub head_at : List ℕ → List Token → Result (List Token) SyntaxError
head_at word ts = do
  a ← need kinds.Open wants.Paren ts
  b ← need_word (codes "define") a
  c ← need kinds.Open wants.Paren b
  need_word word c

-- the parts of an action, and the ) after them
unfoldable pub all_parts : ActionParts → List Token → Read ActionParts
all_parts a ts = do
  all ← all_of begins_key (part_at limited) a ts
  rest ← need kinds.Close (parts_want all.0) all.1
  Ok (all.0, rest)

abbrev pub action_of : Name → ActionParts → Action
action_of name a = record {
  name = name;
  params = or_empty a.params;
  pre = or_empty a.pre;
  effect = or_empty a.effect;
  costs = a.costs;
}

-- the sections of a domain, the ) after them, and the end of the text
unfoldable pub whole_domain : DomainParts → List Token → Result DomainParts SyntaxError
whole_domain d ts = do
  all ← all_of begins_open (domain_section limited) d ts
  rest ← need kinds.Close wants.Paren all.1
  end ← end_at rest
  Ok all.0

abbrev pub domain_of : Name → DomainParts → Domain
domain_of name d = record {
  name = name;
  types = or_empty d.types;
  constants = or_empty d.constants;
  predicates = or_empty d.predicates;
  actions = d.actions;
  has_cost = d.has_cost;
}

-- the sections of a problem with those that must be there, the ) after them, and the end of the text
unfoldable pub whole_problem : ProblemParts → List Token → Result ProblemParts SyntaxError
whole_problem p ts = do
  all ← all_of begins_open (problem_section limited) p ts
  rest ← need kinds.Close (sections_want all.0) all.1
  domain ← there all.0.domain all.1
  goal ← there all.0.goal all.1
  end ← end_at rest
  Ok all.0

-- the problem with these sections, of which the domain's name and the goal must be there
unfoldable pub problem_of : Name → ProblemParts → List Token → Result Problem SyntaxError
problem_of name p ts = do
  domain ← there p.domain ts
  goal ← there p.goal ts
  Ok (record {
    name = name;
    domain = domain;
    objects = or_empty p.objects;
    init = or_empty p.init;
    goal = goal;
    costs = p.costs;
    metric = p.metric;
  })
