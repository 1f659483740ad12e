use Rattle.std.proofs.Common.{◌≡◌, ◌++◌, [], List, None, map, sym, ap, ◌∙◌}
use Rattle.std.proofs.lemmas.List.{map-append}
use Rattle.pb_lifted.specs.Names.{repeated, earliest}
use Rattle.pb_lifted.specs.Types.{name_text, declared_types}
use Rattle.pb_lifted.specs.Refusals.{typed_name, predicate_name, action_name, repeated_params}
use Rattle.pb_lifted.proofs.Earliest.{joined}
use Rattle.pb_lifted.proofs.tables.enter_names.Goals as goal

pub returns-clause-objects : goal.returns-clause-objects
returns-clause-objects c =
    let constants =
    c.in_ok-found-2.ensures.added ∙ (ap (λ names. names ++ map name_text c.as_slice-2.result.now) c.requires.objects ∙ ap (map name_text) c.as_slice-2.ensures) in
    c.in_ok-twice_in_problem.ensures.added ∙ (ap (λ names. names ++ map name_text c.as_slice-3.result.now) constants
    ∙ (ap (λ ts. map name_text c.args.domain.now.constants ++ map name_text ts) c.as_slice-3.ensures ∙ sym (map-append name_text c.args.domain.now.constants c.args.problem.now.objects)))

pub returns-clause-domain : goal.returns-clause-domain
returns-clause-domain c =
    let domain = c.args.domain.now in
    let types = repeated [] (map typed_name (declared_types domain.types)) in
    let constants = repeated [] (map typed_name domain.constants) in
    let predicates = repeated [] (map predicate_name domain.predicates) in
    let actions = repeated [] (map action_name domain.actions) in
    let params = repeated_params domain.actions in
    let one = c.in_ok-found.ensures ∙ ap (λ ts. earliest None (repeated [] (map typed_name (declared_types ts)))) c.as_slice.ensures in
    let two = joined types constants c.in_ok-found.found c.in_ok-found-2.found one
    (c.in_ok-found-2.ensures.twice ∙ (ap (λ names. earliest c.in_ok-found.found (repeated names (map typed_name c.as_slice-2.result.now))) c.requires.objects
    ∙ ap (λ ts. earliest c.in_ok-found.found (repeated [] (map typed_name ts))) c.as_slice-2.ensures)) in
    let three = joined (types ++ constants) predicates c.in_ok-found-2.found c.in_ok-found-3.found two
    (c.in_ok-found-3.ensures.twice ∙ (ap (λ names. earliest c.in_ok-found-2.found (repeated names (map predicate_name c.as_slice-4.result.now))) c.requires.predicates
    ∙ ap (λ ps. earliest c.in_ok-found-2.found (repeated [] (map predicate_name ps))) c.as_slice-4.ensures)) in
    let four = joined (types ++ constants ++ predicates) actions c.in_ok-found-3.found c.in_ok-found-4.found three
    (c.in_ok-found-4.ensures ∙ ap (λ xs. earliest c.in_ok-found-3.found (repeated [] (map action_name xs))) c.as_slice-5.ensures) in
    joined (types ++ constants ++ predicates ++ actions) params c.in_ok-found-4.found c.in_ok-twice_in_domain.twice_in_domain four
    (c.in_ok-twice_in_domain.ensures.twice ∙ ap (λ xs. earliest c.in_ok-found-4.found (repeated_params xs)) c.as_slice-6.ensures)

pub returns-clause-problem : goal.returns-clause-problem
returns-clause-problem c =
    let constants =
    c.in_ok-found-2.ensures.added ∙ (ap (λ names. names ++ map name_text c.as_slice-2.result.now) c.requires.objects ∙ ap (map name_text) c.as_slice-2.ensures) in
    c.in_ok-twice_in_problem.ensures.twice ∙ (ap (λ names. earliest None (repeated names (map typed_name c.as_slice-3.result.now))) constants
    ∙ ap (λ ts. earliest None (repeated (map name_text c.args.domain.now.constants) (map typed_name ts))) c.as_slice-3.ensures)
