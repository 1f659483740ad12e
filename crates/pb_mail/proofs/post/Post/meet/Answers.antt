use Rattle.std.proofs.Common.{◌<◌, sym, ◌∙◌, arith, subst, vec_len}
use Rattle.std.specs.Prelude.{IsTrue}
use Rattle.pb_mail.specs.declared.view.View.{View}
use Rattle.pb_mail.proofs.Passing.{queue_passes_of}
use Rattle.pb_mail.proofs.Meeting.{HasMetFrom, met_none, last_view, last_queue_pass, met_more, met_pass}
use Rattle.pb_mail.proofs.post.Post.meet.Goals as goal

pub loop-queue_pass-init : goal.loop-queue_pass-init
loop-queue_pass-init g c = record { met = met_none c.args.self.now c.args.pass.now c.args.other (queue_passes_of c.args.self.now c.args.pass.now c.requires.own.0) (queue_passes_of c.args.self.now c.args.other c.requires.own.1) }

pub loop-queue_pass-preserved : goal.loop-queue_pass-preserved
loop-queue_pass-preserved g c =
    let more = met_more c.args.self.now c.args.pass.now c.args.other c.loop-queue_pass.pass _ c.len.result c.loop-queue_pass.queue_passes.items c.pop.new.self.items c.in-Some.queue_pass (queue_passes_of c.args.self.now c.args.other c.requires.own.1)
    c.loop-queue_pass.invariant.met c.in-Some.ensures.items (sym c.pop.new.self.ok.0 ∙ sym c.len.ensures) c.meet_at.new.pass c.meet_at.ensures.met in
    record { met = subst (λ n. HasMetFrom c.args.self.now c.args.pass.now c.args.other c.meet_at.new.pass n c.pop.new.self.items) c.len.ensures more }

pub meet_at-requires-clause-of_queue : goal.meet_at-requires-clause-of_queue
meet_at-requires-clause-of_queue g c =
    last_queue_pass c.args.self.now c.args.pass.now c.args.other c.loop-queue_pass.pass _ c.len.result c.loop-queue_pass.queue_passes.items c.pop.new.self.items c.in-Some.queue_pass (queue_passes_of c.args.self.now c.args.other c.requires.own.1)
    c.loop-queue_pass.invariant.met c.in-Some.ensures.items (sym c.pop.new.self.ok.0 ∙ sym c.len.ensures)

pub meet_at-requires-clause-live : goal.meet_at-requires-clause-live
meet_at-requires-clause-live g c =
    let h = c.loop-queue_pass.invariant.met in
    let less : c.len.result < vec_len c.loop-queue_pass.queue_passes = (let e = c.in-Some.ensures.len in let k = c.len.ensures in omega arith) in
    let low : c.len.result < vec_len c.args.self.now.queues = (let k = h.within in omega arith) in
    let view = last_view c.args.self.now c.args.pass.now c.args.other c.loop-queue_pass.pass _ c.len.result c.loop-queue_pass.queue_passes.items c.pop.new.self.items c.in-Some.queue_pass (queue_passes_of c.args.self.now c.args.other c.requires.own.1)
    c.loop-queue_pass.invariant.met c.in-Some.ensures.items (sym c.pop.new.self.ok.0 ∙ sym c.len.ensures) in (
      subst (λ (v : View). IsTrue v.is_live) (sym (h.kept c.len.result less)) (c.requires.own.0.views c.len.result low).live,
      subst (λ (v : View). IsTrue v.is_live) (sym view) (c.requires.own.1.views c.len.result low).live,
    )

pub returns-clause-own : goal.returns-clause-own
returns-clause-own g c =
    met_pass c.args.self.now c.args.pass.now c.args.other c.loop-queue_pass.pass c.loop-queue_pass.queue_passes.items c.requires.own.0
    (subst (λ n. HasMetFrom c.args.self.now c.args.pass.now c.args.other c.loop-queue_pass.pass n c.loop-queue_pass.queue_passes.items) c.in_default.ensures.cases.0 c.loop-queue_pass.invariant.met)
