use Rattle.std.proofs.Common.{◌∙◌, sym, ap, Err}
use Rattle.pb_pddl.specs.declared.error.SyntaxError.{SyntaxError}
use Rattle.pb_syntax.proofs.Keys.{at_action, at_none}
use Rattle.pb_syntax.proofs.domain.domain_key.Goals as goal

pub returns-then-spells-6 : goal.returns-then-spells-6
returns-then-spells-6 c =
    rw (
    at_action c.args.out.now c.args.tokens.now (sym c.spells.ensures ∙ c.if-spells.false) (sym c.spells-else-spells.ensures ∙ c.if-spells-2.false) (sym c.spells-else-spells-2.ensures ∙ c.if-spells-3.false)
    (sym c.spells-else-spells-3.ensures ∙ c.if-spells-4.false) (sym c.spells-else-spells-4.ensures ∙ c.if-spells-5.false) (sym c.spells-else-spells-5.ensures ∙ c.if-spells-6.true)
    ) c.action_section.ensures

pub returns-else-spells-6 : goal.returns-else-spells-6
returns-else-spells-6 c some =
    at_none c.args.out.now c.args.tokens.now (sym c.spells.ensures ∙ c.if-spells.false) (sym c.spells-else-spells.ensures ∙ c.if-spells-2.false) (sym c.spells-else-spells-2.ensures ∙ c.if-spells-3.false)
    (sym c.spells-else-spells-3.ensures ∙ c.if-spells-4.false) (sym c.spells-else-spells-4.ensures ∙ c.if-spells-5.false) (sym c.spells-else-spells-5.ensures ∙ c.if-spells-6.false)
    ∙ ap (λ (e : SyntaxError). Err e) (sym c.no_section.ensures)
