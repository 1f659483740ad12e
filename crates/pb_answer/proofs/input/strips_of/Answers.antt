use Rattle.std.proofs.Common.{sym, subst}
use Rattle.pb_strips.proofs.Callers.{names_tell_actions_with}
use Rattle.pb_answer.specs.Named.{NamesTell}
use Rattle.pb_answer.proofs.input.strips_of.Goals as goal

pub returns-in-Ok-ground_with-clause-names : goal.returns-in-Ok-ground_with-clause-names
returns-in-Ok-ground_with-clause-names c =
    subst NamesTell (sym c.in-Ok-ground_with.ensures.task)
    (names_tell_actions_with c.args.grounding c.args.domain.now c.in-Ok.problem c.in-Ok-ground_with.ensures.accepted c.requires c.in-Ok.ensures.words)
