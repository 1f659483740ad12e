use Rattle.std.proofs.Common.{inl, inr}
use Rattle.std.proofs.lemmas.Result.{IfOk-weaker}
use Rattle.pb_answer.specs.declared.answer.Answer.{Answer}
use Rattle.pb_answer.specs.Answer.{said_of}
use Rattle.pb_answer.specs.FallingRuns.{SaysNow, SaysClaimNow, SaysNoneNow, SaysStopNow}
use Rattle.pb_answer.proofs.falling.FallingSearch.answer.Goals as goal

pub returns-in-Some : goal.returns-in-Some
returns-in-Some c before machine falling =
    IfOk-weaker c.answer_claim.result
    (λ (a : Answer). SaysClaimNow before machine c.args.self.now (said_of a))
    (λ (a : Answer). SaysNow before machine c.args.self.now (said_of a))
    (λ a says. inl says) (c.answer_claim.ensures before machine falling)

pub returns-in-Some-Quiet : goal.returns-in-Some-Quiet
returns-in-Some-Quiet c before machine falling =
    IfOk-weaker c.answer_none.result
    (λ (a : Answer). SaysNoneNow before c.args.self.now (said_of a))
    (λ (a : Answer). SaysNow before machine c.args.self.now (said_of a))
    (λ a says. inr (inl says)) (c.answer_none.ensures before machine falling)

pub returns-in-Some-Budget : goal.returns-in-Some-Budget
returns-in-Some-Budget c before machine falling =
    IfOk-weaker c.answer_stop.result
    (λ (a : Answer). SaysStopNow before c.args.self.now (said_of a))
    (λ (a : Answer). SaysNow before machine c.args.self.now (said_of a))
    (λ a says. inr (inr says)) (c.answer_stop.ensures before machine falling)
