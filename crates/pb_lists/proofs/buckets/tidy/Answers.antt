use Rattle.pb_lists.specs.Fields.{weight_of}
use Rattle.pb_lists.proofs.Filing.{pop_filed, pop_placed}
use Rattle.pb_lists.proofs.buckets.tidy.Goals as goal

pub returns-then-clear_first-clause-filed : goal.returns-then-clear_first-clause-filed
returns-then-clear_first-clause-filed c = λ filed. c.clear_first.ensures.filed (c.loop-sum.invariant.filed filed)

pub loop-sum-preserved-else-clear_first : goal.loop-sum-preserved-else-clear_first
loop-sum-preserved-else-clear_first c = record {
  filed = λ filed.
      pop_filed c.clear_first.new.buckets c.pop_first.new.self c.in-Some.sum (weight_of c.args.num c.args.den) c.args.rows.now.entries c.pop_first.result
      c.clear_first.ensures.first (c.clear_first.ensures.empty c.if-clear_first.false) c.pop_first.ensures.removal c.pop_first.ensures.updates c.pop_first.ensures.unchanged
      (c.clear_first.ensures.filed (c.loop-sum.invariant.filed filed));
  placed =
      pop_placed c.clear_first.new.buckets c.pop_first.new.self c.in-Some.sum c.args.rows.now.entries c.pop_first.result
      c.pop_first.ensures.updates c.pop_first.ensures.unchanged c.clear_first.ensures.placed;
}

pub loop-sum-preserved-else-clear_first-2 : goal.loop-sum-preserved-else-clear_first-2
loop-sum-preserved-else-clear_first-2 c = record {
  filed = λ filed.
      pop_filed c.clear_first.new.buckets c.pop_first.new.self c.in-Some.sum (weight_of c.args.num c.args.den) c.args.rows.now.entries c.pop_first.result
      c.clear_first.ensures.first (c.clear_first.ensures.empty c.if-clear_first.false) c.pop_first.ensures.removal c.pop_first.ensures.updates c.pop_first.ensures.unchanged
      (c.clear_first.ensures.filed (c.loop-sum.invariant.filed filed));
  placed =
      pop_placed c.clear_first.new.buckets c.pop_first.new.self c.in-Some.sum c.args.rows.now.entries c.pop_first.result
      c.pop_first.ensures.updates c.pop_first.ensures.unchanged c.clear_first.ensures.placed;
}
