use Rattle.std.proofs.lemmas.Bool.{ne_eqb}
use Rattle.std.proofs.Common.{bit_and}
use Rattle.pb_pattern.proofs.Rules.{step_there, step_missing}
use Rattle.pb_pattern.proofs.sets.Sets.step.Goals as goal

pub returns-then-rule-image : goal.returns-then-rule-image
returns-then-rule-image c =
    step_there c.args.self.now c.requires.sets c.args.image c.args.action c.index-rule.result.now c.index-rule.result.now c.index-rule.ensures c.requires.image c.requires.action c.if-rule-image.true

pub returns-else-rule-image : goal.returns-else-rule-image
returns-else-rule-image c =
    step_missing c.args.self.now c.requires.sets c.args.image c.args.action c.index-rule.result.now c.index-rule.result.now c.index-rule.ensures c.requires.image c.requires.action
    (ne_eqb (bit_and c.index-rule.result.now.needs c.args.image) c.index-rule.result.now.needs c.if-rule-image.false)
