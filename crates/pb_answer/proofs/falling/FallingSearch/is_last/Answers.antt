use Rattle.std.proofs.Common.{◌==◌, ap, sym, ◌∙◌}
use Rattle.pb_answer.specs.FallingRuns.{FallingValue}
use Rattle.pb_answer.proofs.FallingLast.{ends, last_by_bound}
use Rattle.pb_answer.proofs.falling.FallingSearch.is_last.Goals as goal

pub returns-in-Some-clause-ends : goal.returns-in-Some-clause-ends
returns-in-Some-clause-ends c = λ at.
    (last_by_bound c.requires.0 c.requires.1 c.args.self.now c.requires.2 c.in-Some.plan
    (ap (λ (v : FallingValue). v.plan) (sym c.self.view_is) ∙ c.in-Some.is) c.bound.result
    c.bound.ensures _ (ap (λ n. c.bound.result == n) c.cost.ensures)).1
    (ends c.requires.0 c.requires.1 c.args.self.now c.requires.2 at)
