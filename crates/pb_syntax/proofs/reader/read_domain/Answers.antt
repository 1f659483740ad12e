use Rattle.std.proofs.lemmas.Result.{IfOk-weaker}
use Rattle.pb_pddl.specs.Reading.{unlimited, domain_at}
use Rattle.pb_pddl.specs.Readings.{tokens_of, domain_reading}
use Rattle.pb_pddl.specs.Trees.{SpellsDomain}
use Rattle.pb_pddl.specs.Words.{DomainHasWords}
use Rattle.pb_pddl.specs.Grammar.{IsDomain}
use Rattle.pb_pddl_laws.specs.Table.{domain_form}
use Rattle.pb_pddl_laws.proofs.Callers.{domain_is, domain_again, domain_fault, domain_told, told_domain, texts_have_tokens, domain_has_words, found, only, none, first, told, fault}
use Rattle.pb_syntax.proofs.reader.read_domain.Goals as goal

pub returns-clause-found : goal.returns-clause-found
returns-clause-found c = found (domain_at unlimited) IsDomain c.args.text.now c.domain_of.result domain_is c.domain_of.ensures.is

pub returns-clause-only : goal.returns-clause-only
returns-clause-only c = only (domain_at unlimited) IsDomain c.args.text.now c.domain_of.result domain_again c.domain_of.ensures.only

pub returns-clause-none : goal.returns-clause-none
returns-clause-none c = none (domain_at unlimited) IsDomain c.args.text.now c.domain_of.result domain_again c.domain_of.ensures.only

pub returns-clause-first : goal.returns-clause-first
returns-clause-first c = first (domain_at unlimited) IsDomain c.args.text.now c.domain_of.result domain_fault c.domain_of.ensures.is

pub returns-clause-told : goal.returns-clause-told
returns-clause-told c = told (domain_at unlimited) IsDomain c.args.text.now domain_form c.domain_of.result domain_told c.domain_of.ensures.is

pub returns-clause-fault : goal.returns-clause-fault
returns-clause-fault c = fault (domain_at unlimited) IsDomain c.args.text.now domain_form c.domain_of.result told_domain c.domain_of.ensures.only

pub returns-clause-reading : goal.returns-clause-reading
unfolding domain_reading
returns-clause-reading c = c.domain_of.ensures.only (tokens_of c.args.text.now) (texts_have_tokens c.args.text.now)

pub returns-clause-words : goal.returns-clause-words
returns-clause-words c =
    IfOk-weaker c.domain_of.result (SpellsDomain c.args.text.now) DomainHasWords (domain_has_words c.args.text.now)
    (found (domain_at unlimited) IsDomain c.args.text.now c.domain_of.result domain_is c.domain_of.ensures.is)
