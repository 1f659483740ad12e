use Rattle.std.proofs.Common.{List, ℕ, subst}
use Rattle.pb_machine.specs.declared.settings.Settings.{Settings}
use Rattle.pb_abstract.specs.Projection.{IsFinest}
use Rattle.pb_abstract.specs.Graph.{blocks_of}
use Rattle.pb_answer.proofs.Judged.{judging_gives, AnswersRightly}
use Rattle.pb_answer.proofs.journal.count_events.Goals as goal

pub returns : goal.returns
returns c =
    let abstraction = c.in_ok-abstraction.abstraction in
    let finest : IsFinest c.args.task.now c.in_ok-journal.journal.settings.wish abstraction.projection =
    subst (λ (s : Settings). IsFinest c.args.task.now s.wish abstraction.projection)
    c.settings-settings.ensures.settings c.in_ok-abstraction.ensures.finest in
    let answers : AnswersRightly (blocks_of abstraction) c.args.text.now c.check.result =
    subst (λ (text : List ℕ). AnswersRightly (blocks_of abstraction) text c.check.result)
    c.in_ok-journal.ensures.bytes
    (record {
      exact = c.check.ensures.exact;
      finished = c.check.ensures.finished;
      only = c.check.ensures.only;
    }) in
    judging_gives c.args.task.now c.args.text.now c.in_ok-journal.journal.settings abstraction
    c.in_ok-journal.ensures.exact c.in_ok-abstraction.ensures.graph finest c.check.result
    answers.exact answers.finished answers.only
