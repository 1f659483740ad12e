use Rattle.std.proofs.Common.{◌≡◌, ◌<◌, List, Option, None, length, true, sym, ap, ◌∙◌, subst}
use Rattle.std.proofs.lemmas.List.{length-replicate}
use Rattle.pb_model.specs.declared.key.Key.{Key}
use Rattle.std.specs.Arc.{arc_value}
use Rattle.pb_task.specs.declared.parts.TaskParts.{TaskParts}
use Rattle.pb_task.specs.Parts.{space_of, IsTask}
use Rattle.pb_task.proofs.Callers.{tasks_are_proper}
use Rattle.pb_abstract.specs.Graph.{AbstractGraph, blocks_of, home_of}
use Rattle.pb_lease.specs.Leased.{FitsScopes}
use Rattle.pb_lease.proofs.GraphOpening.{IsOpening, opening_of, opening_rows, opening_kept, opening_moment, opening_begins}
use Rattle.pb_bundles.specs.Homes.{AreNoted}
use Rattle.pb_lease.proofs.Free.{shows_all_keys}
use Rattle.pb_lease.proofs.graph.LeaseGraph.new.Goals as goal

pub block-block-requires-clause-state : goal.block-block-requires-clause-state
block-block-requires-clause-state c =
    let task : TaskParts = arc_value c.args.task in
    let is_task : IsTask task = subst IsTask c.deref.ensures c.initial-start.ensures.lawful in
    let start : c.initial-start.result ≡ (space_of task).start = c.initial-start.ensures.start ∙ ap (λ (p : TaskParts). (space_of p).start) c.deref.ensures in
    subst (λ (p : TaskParts). (space_of p).is_state c.initial-start.result ≡ true) (sym c.deref-3.ensures)
    (subst (λ n. (space_of task).is_state n ≡ true) (sym start) (tasks_are_proper task is_task).0.start)

pub invariant_of-result : goal.invariant_of-result
invariant_of-result c =
    let task : TaskParts = arc_value c.args.task in
    let abstraction : AbstractGraph = arc_value c.args.abstraction in
    let is_task : IsTask task = subst IsTask c.deref.ensures c.initial-start.ensures.lawful in
    let start : c.initial-start.result ≡ (space_of task).start = c.initial-start.ensures.start ∙ ap (λ (p : TaskParts). (space_of p).start) c.deref.ensures in
    let o : IsOpening task c.args.choice c.in_ok-tables.tables c.offer_start.new.self = opening_of task is_task c.args.choice c.requires.suits abstraction c.requires.of_task c.args.settings c.requires.settings c.in_ok-tables.tables c.in_ok-tables.ensures.abstraction c.in_ok-tables.ensures.settings c.in_ok-tables.ensures.past c.in_ok-tables.ensures.counts c.in_ok-tables.ensures.journal
    c.initial-start.result start c.block-block.result (c.block-block.ensures.block ∙ ap (λ (p : TaskParts). home_of p c.deref-2.result.now c.initial-start.result) c.deref-3.ensures ∙ ap (λ (g : AbstractGraph). home_of task g c.initial-start.result) c.deref-2.ensures)
    (subst (λ (g : AbstractGraph). c.block-block.result < (blocks_of g).count) c.deref-2.ensures c.block-block.ensures.below) c.count.result (c.count.ensures.count ∙ ap (λ (g : AbstractGraph). (blocks_of g).count) c.deref-4.ensures)
    c.args.estimate c.requires.estimate c.in_ok-homes.homes c.offer_start.new.self c.in_ok-homes.ensures c.in_ok-offer_start.ensures.put c.in_ok-offer_start.ensures.noted (subst AreNoted c.homes.view_is c.homes.invariant.noted) in
    let kept = opening_kept task c.args.choice c.in_ok-tables.tables c.offer_start.new.self o in
    let free = c.in_ok-free.free in
    let none : Option Key = None in
    record {
      lawful = kept;
      shows = shows_all_keys c.in_ok-tables.tables c.offer_start.new.self.keys free c.show_every.new.free
          (ap (λ (ks : List (Option Key)). length ks) c.in_ok-free.ensures ∙ length-replicate c.count-2.result none ∙ c.count-2.ensures.keys ∙ kept.key_places) c.show_every.ensures;
      greatest_is = subst (λ (g : AbstractGraph). FitsScopes g c.greatest_scope-greatest.result) (c.deref-5.ensures ∙ sym c.in_ok-tables.ensures.abstraction) c.greatest_scope-greatest.ensures;
    }

pub returns-clause-rows : goal.returns-clause-rows
returns-clause-rows c =
    let task : TaskParts = arc_value c.args.task in
    let abstraction : AbstractGraph = arc_value c.args.abstraction in
    let is_task : IsTask task = subst IsTask c.deref.ensures c.initial-start.ensures.lawful in
    let start : c.initial-start.result ≡ (space_of task).start = c.initial-start.ensures.start ∙ ap (λ (p : TaskParts). (space_of p).start) c.deref.ensures in
    let o : IsOpening task c.args.choice c.in_ok-tables.tables c.offer_start.new.self = opening_of task is_task c.args.choice c.requires.suits abstraction c.requires.of_task c.args.settings c.requires.settings c.in_ok-tables.tables c.in_ok-tables.ensures.abstraction c.in_ok-tables.ensures.settings c.in_ok-tables.ensures.past c.in_ok-tables.ensures.counts c.in_ok-tables.ensures.journal
    c.initial-start.result start c.block-block.result (c.block-block.ensures.block ∙ ap (λ (p : TaskParts). home_of p c.deref-2.result.now c.initial-start.result) c.deref-3.ensures ∙ ap (λ (g : AbstractGraph). home_of task g c.initial-start.result) c.deref-2.ensures)
    (subst (λ (g : AbstractGraph). c.block-block.result < (blocks_of g).count) c.deref-2.ensures c.block-block.ensures.below) c.count.result (c.count.ensures.count ∙ ap (λ (g : AbstractGraph). (blocks_of g).count) c.deref-4.ensures)
    c.args.estimate c.requires.estimate c.in_ok-homes.homes c.offer_start.new.self c.in_ok-homes.ensures c.in_ok-offer_start.ensures.put c.in_ok-offer_start.ensures.noted (subst AreNoted c.homes.view_is c.homes.invariant.noted) in
    opening_rows task c.args.choice c.in_ok-tables.tables c.offer_start.new.self o

pub returns-clause-moment : goal.returns-clause-moment
returns-clause-moment c =
    let task : TaskParts = arc_value c.args.task in
    let abstraction : AbstractGraph = arc_value c.args.abstraction in
    let is_task : IsTask task = subst IsTask c.deref.ensures c.initial-start.ensures.lawful in
    let start : c.initial-start.result ≡ (space_of task).start = c.initial-start.ensures.start ∙ ap (λ (p : TaskParts). (space_of p).start) c.deref.ensures in
    let o : IsOpening task c.args.choice c.in_ok-tables.tables c.offer_start.new.self = opening_of task is_task c.args.choice c.requires.suits abstraction c.requires.of_task c.args.settings c.requires.settings c.in_ok-tables.tables c.in_ok-tables.ensures.abstraction c.in_ok-tables.ensures.settings c.in_ok-tables.ensures.past c.in_ok-tables.ensures.counts c.in_ok-tables.ensures.journal
    c.initial-start.result start c.block-block.result (c.block-block.ensures.block ∙ ap (λ (p : TaskParts). home_of p c.deref-2.result.now c.initial-start.result) c.deref-3.ensures ∙ ap (λ (g : AbstractGraph). home_of task g c.initial-start.result) c.deref-2.ensures)
    (subst (λ (g : AbstractGraph). c.block-block.result < (blocks_of g).count) c.deref-2.ensures c.block-block.ensures.below) c.count.result (c.count.ensures.count ∙ ap (λ (g : AbstractGraph). (blocks_of g).count) c.deref-4.ensures)
    c.args.estimate c.requires.estimate c.in_ok-homes.homes c.offer_start.new.self c.in_ok-homes.ensures c.in_ok-offer_start.ensures.put c.in_ok-offer_start.ensures.noted (subst AreNoted c.homes.view_is c.homes.invariant.noted) in
    opening_moment task c.args.choice c.in_ok-tables.tables c.offer_start.new.self o

pub returns-clause-begin : goal.returns-clause-begin
returns-clause-begin c =
    let task : TaskParts = arc_value c.args.task in
    let abstraction : AbstractGraph = arc_value c.args.abstraction in
    let is_task : IsTask task = subst IsTask c.deref.ensures c.initial-start.ensures.lawful in
    let start : c.initial-start.result ≡ (space_of task).start = c.initial-start.ensures.start ∙ ap (λ (p : TaskParts). (space_of p).start) c.deref.ensures in
    let o : IsOpening task c.args.choice c.in_ok-tables.tables c.offer_start.new.self = opening_of task is_task c.args.choice c.requires.suits abstraction c.requires.of_task c.args.settings c.requires.settings c.in_ok-tables.tables c.in_ok-tables.ensures.abstraction c.in_ok-tables.ensures.settings c.in_ok-tables.ensures.past c.in_ok-tables.ensures.counts c.in_ok-tables.ensures.journal
    c.initial-start.result start c.block-block.result (c.block-block.ensures.block ∙ ap (λ (p : TaskParts). home_of p c.deref-2.result.now c.initial-start.result) c.deref-3.ensures ∙ ap (λ (g : AbstractGraph). home_of task g c.initial-start.result) c.deref-2.ensures)
    (subst (λ (g : AbstractGraph). c.block-block.result < (blocks_of g).count) c.deref-2.ensures c.block-block.ensures.below) c.count.result (c.count.ensures.count ∙ ap (λ (g : AbstractGraph). (blocks_of g).count) c.deref-4.ensures)
    c.args.estimate c.requires.estimate c.in_ok-homes.homes c.offer_start.new.self c.in_ok-homes.ensures c.in_ok-offer_start.ensures.put c.in_ok-offer_start.ensures.noted (subst AreNoted c.homes.view_is c.homes.invariant.noted) in
    (opening_begins task c.args.choice c.in_ok-tables.tables c.offer_start.new.self o).1

pub returns-clause-opening : goal.returns-clause-opening
returns-clause-opening c =
    let task : TaskParts = arc_value c.args.task in
    let abstraction : AbstractGraph = arc_value c.args.abstraction in
    let is_task : IsTask task = subst IsTask c.deref.ensures c.initial-start.ensures.lawful in
    let start : c.initial-start.result ≡ (space_of task).start = c.initial-start.ensures.start ∙ ap (λ (p : TaskParts). (space_of p).start) c.deref.ensures in
    let o : IsOpening task c.args.choice c.in_ok-tables.tables c.offer_start.new.self = opening_of task is_task c.args.choice c.requires.suits abstraction c.requires.of_task c.args.settings c.requires.settings c.in_ok-tables.tables c.in_ok-tables.ensures.abstraction c.in_ok-tables.ensures.settings c.in_ok-tables.ensures.past c.in_ok-tables.ensures.counts c.in_ok-tables.ensures.journal
    c.initial-start.result start c.block-block.result (c.block-block.ensures.block ∙ ap (λ (p : TaskParts). home_of p c.deref-2.result.now c.initial-start.result) c.deref-3.ensures ∙ ap (λ (g : AbstractGraph). home_of task g c.initial-start.result) c.deref-2.ensures)
    (subst (λ (g : AbstractGraph). c.block-block.result < (blocks_of g).count) c.deref-2.ensures c.block-block.ensures.below) c.count.result (c.count.ensures.count ∙ ap (λ (g : AbstractGraph). (blocks_of g).count) c.deref-4.ensures)
    c.args.estimate c.requires.estimate c.in_ok-homes.homes c.offer_start.new.self c.in_ok-homes.ensures c.in_ok-offer_start.ensures.put c.in_ok-offer_start.ensures.noted (subst AreNoted c.homes.view_is c.homes.invariant.noted) in
    sym (opening_begins task c.args.choice c.in_ok-tables.tables c.offer_start.new.self o).0
