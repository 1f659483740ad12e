use Rattle.std.proofs.Common.{refl, subst, arith}
use Rattle.pb_owner.specs.Expanding.{HasExpanded}
use Rattle.pb_owner.specs.Plans.{space_in, guide_in, weight_in}
use Rattle.pb_owners.proofs.Loops.{ends_of}
use Rattle.pb_owners.proofs.part.begin.Goals as goal

pub returns : goal.returns
returns g c =
    let e = c.work-count.ensures in
    record {
      begun = record {
        before = c.in-Some.pass;
        before_is = c.in-Some.is;
        after = c.work-count.new.pass;
        after_is = refl;
        quota_is = refl;
        expanded = subst (λ n. HasExpanded (space_in c.args.plan.now) (guide_in c.args.plan.now) (weight_in c.args.plan.now) c.args.number c.work-count.result.0 n c.args.post.now c.args.seat.now.share c.work-count.new.share c.in-Some.pass c.work-count.new.pass) c.is_memory.ensures e.worked;
        within = e.quota;
        ends = ends_of c.work-count.result.1 c.is_memory.result c.work-count.result.0 c.args.seat.now.quota c.is_memory.ensures e.spent e.empty e.next;
        tools = record { tables = e.tables; room = (let r = e.room in let t = c.requires.ready.tools.room in omega arith); of_weight = e.of_weight };
      };
    }
