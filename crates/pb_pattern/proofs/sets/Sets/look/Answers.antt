use Rattle.std.proofs.Common.{rules, ◌≡◌, ◌^◌, ◌||◌, length, map, refl, arith}
use Rattle.pb_pattern.specs.Graphs.{action_of, sets_space}
use Rattle.std.proofs.lemmas.List.{length-map}
use Rattle.pb_pattern.proofs.Looking.{first_action, next_action, all_actions}
use Rattle.pb_pattern.proofs.Rules.{rules_are_proper}
use Rattle.pb_pattern.proofs.sets.Sets.look.Goals as goal

pub loop-action-init : goal.loop-action-init
loop-action-init c = first_action (sets_space c.args.self.now) (2 ^ c.args.self.now.atoms) c.args.costs.now c.requires.table

pub look_by-lower-requires-clause-table : goal.look_by-lower-requires-clause-table
look_by-lower-requires-clause-table c = c.loop-action.invariant.table

pub loop-action-preserved : goal.loop-action-preserved
loop-action-preserved c =
    next_action (sets_space c.args.self.now) (2 ^ c.args.self.now.atoms) c.loop-action.action c.args.costs.now c.loop-action.costs c.look_by-lower.new.costs c.loop-action.changed c.look_by-lower.result
    (c.loop-action.changed || c.look_by-lower.result) c.loop-action.invariant c.look_by-lower.ensures refl

pub returns : goal.returns
returns c =
    all_actions (sets_space c.args.self.now) (2 ^ c.args.self.now.atoms) c.loop-action.action c.args.costs.now c.loop-action.costs c.loop-action.changed (rules_are_proper c.args.self.now c.requires.sets)
    (let long : length (map action_of c.args.self.now.rules.items) ≡ length c.args.self.now.rules.items = length-map c.args.self.now.rules.items action_of in
    let end : c.len-action-end.result ≡ length c.args.self.now.rules.items = search rules in
    omega (arith, c.loop-action-test.false, long, end)) c.loop-action.invariant
