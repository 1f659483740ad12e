use Rattle.std.proofs.Common.{◌^◌, ◌||◌, refl, arith}
use Rattle.pb_pattern.specs.Graphs.{sets_space}
use Rattle.pb_pattern.proofs.Looking.{first_image, next_image, all_images}
use Rattle.pb_pattern.proofs.Rules.{rules_are_proper, rules_below}
use Rattle.pb_pattern.proofs.sets.Sets.look_by.Goals as goal

pub loop-image-init : goal.loop-image-init
loop-image-init c = first_image (sets_space c.args.self.now) (2 ^ c.args.self.now.atoms) c.args.action c.args.costs.now c.requires.table

pub look_at-lower-requires-clause-table : goal.look_at-lower-requires-clause-table
look_at-lower-requires-clause-table c = c.loop-image.invariant.table

pub loop-image-preserved : goal.loop-image-preserved
loop-image-preserved c =
    next_image (sets_space c.args.self.now) (2 ^ c.args.self.now.atoms) c.args.action c.loop-image.image c.args.costs.now c.loop-image.costs c.look_at-lower.new.costs c.loop-image.changed c.look_at-lower.result
    (c.loop-image.changed || c.look_at-lower.result) c.loop-image.invariant c.look_at-lower.ensures refl

pub returns : goal.returns
returns c =
    all_images (sets_space c.args.self.now) (2 ^ c.args.self.now.atoms) c.args.action c.loop-image.image c.args.costs.now c.loop-image.costs c.loop-image.changed (rules_are_proper c.args.self.now c.requires.sets)
    (rules_below c.args.self.now c.requires.sets) (omega (arith, c.loop-image-test.false, c.images-image-end.ensures)) c.loop-image.invariant
