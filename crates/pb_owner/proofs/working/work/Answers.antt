use Rattle.std.proofs.Common.{◌≡◌, ◌+◌, ◌∙◌, ◌^◌, refl, subst, arith}
use Rattle.pb_task.specs.Parts.{greatest_cost}
use Rattle.pb_owner.specs.Plans.{space_in, guide_in, weight_in}
use Rattle.pb_owner.specs.Expanding.{HasExpanded}
use Rattle.pb_owner.proofs.Going.{expanded_none, expanded_then, expanded_settled, expanded_within}
use Rattle.pb_owner.proofs.working.work.Goals as goal

pub loop-next-init : goal.loop-next-init
loop-next-init g c = record {
  worked = expanded_none c.args.round.now.post.now (space_in c.args.round.now.plan.now) (guide_in c.args.round.now.plan.now) (weight_in c.args.round.now.plan.now) c.args.round.now.number c.args.share.now c.args.pass.now c.requires.own;
  quota = omega arith;
  of_weight = c.requires.of_weight;
  tables = c.requires.tables;
  room = omega arith;
}

pub returns-then-used-quota-clause-worked : goal.returns-then-used-quota-clause-worked
returns-then-used-quota-clause-worked g c =
    expanded_settled c.args.round.now.post.now (space_in c.args.round.now.plan.now) (guide_in c.args.round.now.plan.now) (weight_in c.args.round.now.plan.now) c.args.round.now.number c.loop-next.used c.args.share.now c.loop-next.share c.settle.new.share c.args.pass.now c.loop-next.pass
    c.loop-next.invariant.worked c.requires.within.1.own c.settle.ensures.worked

pub expand-requires-clause-within : goal.expand-requires-clause-within
expand-requires-clause-within g c =
    expanded_within c.args.round.now.post.now (space_in c.args.round.now.plan.now) (guide_in c.args.round.now.plan.now) (weight_in c.args.round.now.plan.now) c.args.round.now.number greatest_cost c.requires.proper c.loop-next.used c.args.quota c.requires.within.0 (2 ^ 61)
    c.args.share.now c.settle.new.share c.args.pass.now c.loop-next.pass
    (expanded_settled c.args.round.now.post.now (space_in c.args.round.now.plan.now) (guide_in c.args.round.now.plan.now) (weight_in c.args.round.now.plan.now) c.args.round.now.number c.loop-next.used c.args.share.now c.loop-next.share c.settle.new.share c.args.pass.now c.loop-next.pass
    c.loop-next.invariant.worked c.requires.within.1.own c.settle.ensures.worked)
    c.requires.within.1 c.loop-next.invariant.quota c.requires.within.2

pub loop-next-preserved : goal.loop-next-preserved
loop-next-preserved g c = record {
  worked = expanded_then c.args.round.now.post.now (space_in c.args.round.now.plan.now) (guide_in c.args.round.now.plan.now) (weight_in c.args.round.now.plan.now) c.args.round.now.number c.loop-next.used 0 1 0 refl c.args.share.now c.settle.new.share c.expand.new.share
      c.args.pass.now c.loop-next.pass c.expand.new.pass
      (expanded_settled c.args.round.now.post.now (space_in c.args.round.now.plan.now) (guide_in c.args.round.now.plan.now) (weight_in c.args.round.now.plan.now) c.args.round.now.number c.loop-next.used c.args.share.now c.loop-next.share c.settle.new.share c.args.pass.now c.loop-next.pass
      c.loop-next.invariant.worked c.requires.within.1.own c.settle.ensures.worked)
      c.in-Ok.ensures.expanded;
  quota = let off = c.if-used-quota.false in let low = c.loop-next.invariant.quota in omega arith;
  of_weight = c.in-Ok.ensures.weight ∙ c.settle.ensures.of_weight;
  tables = c.in-Ok.ensures.tables;
  room = let a = c.in-Ok.ensures.room in let b = c.loop-next.invariant.room in omega arith;
}

pub returns-in-Err-clause-worked : goal.returns-in-Err-clause-worked
returns-in-Err-clause-worked g c =
    subst (λ n. HasExpanded (space_in c.args.round.now.plan.now) (guide_in c.args.round.now.plan.now) (weight_in c.args.round.now.plan.now) c.args.round.now.number n 1 c.args.round.now.post.now c.args.share.now c.expand.new.share c.args.pass.now c.expand.new.pass) (let is : c.loop-next.used + 0 ≡ c.loop-next.used = omega arith in is)
    (expanded_then c.args.round.now.post.now (space_in c.args.round.now.plan.now) (guide_in c.args.round.now.plan.now) (weight_in c.args.round.now.plan.now) c.args.round.now.number c.loop-next.used 0 0 1 refl c.args.share.now c.settle.new.share c.expand.new.share
    c.args.pass.now c.loop-next.pass c.expand.new.pass
    (expanded_settled c.args.round.now.post.now (space_in c.args.round.now.plan.now) (guide_in c.args.round.now.plan.now) (weight_in c.args.round.now.plan.now) c.args.round.now.number c.loop-next.used c.args.share.now c.loop-next.share c.settle.new.share c.args.pass.now c.loop-next.pass
    c.loop-next.invariant.worked c.requires.within.1.own c.settle.ensures.worked)
    c.in-Err.ensures.broken)

pub returns-clause-worked : goal.returns-clause-worked
returns-clause-worked g c =
    expanded_settled c.args.round.now.post.now (space_in c.args.round.now.plan.now) (guide_in c.args.round.now.plan.now) (weight_in c.args.round.now.plan.now) c.args.round.now.number c.loop-next.used c.args.share.now c.loop-next.share c.settle.new.share c.args.pass.now c.loop-next.pass
    c.loop-next.invariant.worked c.requires.within.1.own c.settle.ensures.worked

pub returns-then-used-quota-clause-spent : goal.returns-then-used-quota-clause-spent
returns-then-used-quota-clause-spent g c =
    ((λ _. ((_, _, c.in-Some.ensures.next.first.found, c.in-Some.ensures.next.first.opened), c.if-used-quota.true)), (λ _. refl))
