use Rattle.std.proofs.Common.{◌≡◌, ◌<◌, ◌%◌, ◌∙◌, ap, refl, sym, subst, arith, true, length}
use Rattle.std.specs.Arc.{arc_value}
use Rattle.pb_machine.specs.Settings.{weight_of}
use Rattle.pb_task.specs.declared.parts.TaskParts.{TaskParts}
use Rattle.pb_task.specs.Parts.{space_of, IsTask}
use Rattle.pb_task.proofs.Callers.{tasks_are_proper}
use Rattle.pb_abstract.specs.Graph.{AbstractGraph, home_of}
use Rattle.pb_owner.specs.Shares.{guide_for}
use Rattle.pb_owners.proofs.Ending.{opening_between, opening_weights}
use Rattle.pb_owners.proofs.owners.Owners.new.Goals as goal

pub block-requires-clause-state : goal.block-requires-clause-state
block-requires-clause-state c =
    let task : TaskParts = arc_value c.args.task in
    let is_task : IsTask task = subst IsTask c.deref.ensures c.initial-start.ensures.lawful in
    let start : c.initial-start.result ≡ (space_of task).start = c.initial-start.ensures.start ∙ ap (λ (p : TaskParts). (space_of p).start) c.deref.ensures in
    subst (λ (p : TaskParts). (space_of p).is_state c.initial-start.result ≡ true) (sym c.deref-3.ensures)
    (subst (λ n. (space_of task).is_state n ≡ true) (sym start) (tasks_are_proper task is_task).0.start)

pub returns-clause-opening : goal.returns-clause-opening
returns-clause-opening c =
    let task : TaskParts = arc_value c.args.task in
    let abstraction : AbstractGraph = arc_value c.args.abstraction in
    let workers = c.args.settings.workers in
    let start : c.initial-start.result ≡ (space_of task).start = c.initial-start.ensures.start ∙ ap (λ (p : TaskParts). (space_of p).start) c.deref.ensures in
    let block : c.block.result ≡ home_of task abstraction c.initial-start.result = c.block.ensures.block ∙ ap (λ (p : TaskParts). home_of p c.deref-2.result.now c.initial-start.result) c.deref-3.ensures ∙ ap (λ (g : AbstractGraph). home_of task g c.initial-start.result) c.deref-2.ensures in
    let home : c.block.result % workers ≡ home_of task abstraction (space_of task).start % workers = ap (λ n. n % workers) (block ∙ ap (home_of task abstraction) start) in
    let shares = c.in_ok-shares.shares in
    let e = c.in_ok-shares.ensures in
    let many : length shares.items ≡ workers = (let m = e.many in let k = shares.ok.0 in omega arith) in
    let some = c.requires.settings.workers.0 in
    let below : c.block.result % workers < workers = omega arith in
    record {
      abstraction = c.requires.of_task;
      suits = c.requires.suits;
      settings = c.requires.settings;
      many = many;
      spent = refl;
      of_weight = opening_weights (space_of task) (guide_for task abstraction workers c.args.choice) (weight_of c.args.settings) workers shares.items (c.block.result % workers) c.initial-start.result c.args.estimate many below home start c.requires.estimate e.each;
      shares = opening_between (space_of task) (guide_for task abstraction workers c.args.choice) (weight_of c.args.settings) workers shares.items (c.block.result % workers) c.initial-start.result c.args.estimate many below home start c.requires.estimate e.each;
    }
