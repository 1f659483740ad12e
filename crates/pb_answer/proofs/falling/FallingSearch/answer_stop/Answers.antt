use Rattle.std.proofs.Common.{ap, ◌∙◌}
use Rattle.pb_model.specs.Texts.{stopped_report}
use Rattle.pb_answer.specs.Answer.{Said, said_of}
use Rattle.pb_answer.specs.FallingRuns.{FallingValue}
use Rattle.pb_answer.proofs.FallingSaid.{stop_said}
use Rattle.pb_answer.proofs.falling.FallingSearch.answer_stop.Goals as goal

pub returns : goal.returns
returns c before machine falling =
    stop_said before machine c.args.self.now falling c.claims_hold.ensures c.requires.none
    c.requires.budget (said_of c.without_files.result)
    (ap (λ (s : Said). s.status) c.without_files.ensures)
    (ap (λ (s : Said). s.report) c.without_files.ensures ∙ c.in_ok-report.ensures
    ∙ ap (λ (v : FallingValue). stopped_report v.solve.settings.budget) c.self.view_is)
    (ap (λ (s : Said). s.outputs) c.without_files.ensures)
