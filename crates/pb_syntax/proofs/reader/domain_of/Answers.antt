use Rattle.std.proofs.Common.{sym, ap, ◌∙◌}
use Rattle.std.proofs.lemmas.Result.{err_from_is_err_and}
use Rattle.pb_pddl.specs.Reading.{limited, domain_at}
use Rattle.pb_pddl_laws.proofs.Callers.{domain_limit, same_tokens}
use Rattle.pb_syntax.proofs.reader.domain_of.Goals as goal

pub returns-in_err-found-clause-is : goal.returns-in_err-found-clause-is
returns-in_err-found-clause-is c =
    let p = err_from_is_err_and c.from_residual-in_err-found.result c.from_residual-in_err-found.ensures.1 in
    rw (p.1, p.2) (λ some. (c.in_ok-list.list, c.in_ok-list.ensures.tokens, domain_limit c.args.text.now c.in_ok-list.list c.in_ok-list.ensures.tokens ∙ ap (domain_at limited) (sym c.as_slice.ensures) ∙ c.in_err-found.ensures some))

pub returns-in_err-found-clause-only : goal.returns-in_err-found-clause-only
returns-in_err-found-clause-only c = λ ts are.
    let p = err_from_is_err_and c.from_residual-in_err-found.result c.from_residual-in_err-found.ensures.1 in
    rw (p.1, p.2) (λ some. domain_limit c.args.text.now ts are ∙ ap (domain_at limited) (same_tokens c.args.text.now ts c.in_ok-list.list are c.in_ok-list.ensures.tokens ∙ sym c.as_slice.ensures) ∙ c.in_err-found.ensures some)

pub returns-clause-is : goal.returns-clause-is
returns-clause-is c = (c.in_ok-list.list, c.in_ok-list.ensures.tokens, domain_limit c.args.text.now c.in_ok-list.list c.in_ok-list.ensures.tokens ∙ ap (domain_at limited) (sym c.as_slice.ensures) ∙ c.in_ok-found.ensures)

pub returns-clause-only : goal.returns-clause-only
returns-clause-only c = λ ts are. domain_limit c.args.text.now ts are ∙ ap (domain_at limited) (same_tokens c.args.text.now ts c.in_ok-list.list are c.in_ok-list.ensures.tokens ∙ sym c.as_slice.ensures) ∙ c.in_ok-found.ensures
