use Rattle.std.proofs.Common.{◌≡◌, Some, vec_len, sym, subst, arith, rules}
use Rattle.std.proofs.lemmas.List.Elements.{All-pop}
use Rattle.pb_task.specs.declared.parts.TaskParts.{TaskParts}
use Rattle.pb_yard.specs.declared.view.View.{View}
use Rattle.pb_yard.specs.Views.{split_view, next_pass_view}
use Rattle.pb_yard.specs.Passes.{view_of}
use Rattle.pb_workers.specs.Shared.{IsIdle}
use Rattle.pb_workers.specs.Teams.{IsToSplit}
use Rattle.pb_workers.specs.Tools.{AreFor, AllAreFor}
use Rattle.pb_workers.proofs.Teaming.{met_off, met_marks, next_idle}
use Rattle.pb_workers.proofs.workers.+fn-run_all-join+arg2+run_all.Goals as goal

pub meet-requires-clause-own : goal.meet-requires-clause-own
meet-requires-clause-own g t c = (c.join-all.ensures.first.0, c.join-all.ensures.second.0)

pub meet-requires-clause-free : goal.meet-requires-clause-free
meet-requires-clause-free g t c = c.join-all.ensures.second.3

pub returns-clause-met : goal.returns-clause-met
returns-clause-met g t c =
    let kept = c.split-other.ensures.left in
    let given = c.split-other.ensures.given.1 in
    let all = c.join-all.ensures.first.2 in
    let other = c.join-all.ensures.second.1 in
    let met = c.meet.ensures.parts in
    omega (arith, kept, given, all, other, met)

pub returns-clause-signed_off : goal.returns-clause-signed_off
returns-clause-signed_off g t c =
    let first = c.join-all.ensures.first in
    let second = c.join-all.ensures.second in
    met_off (view_of c.args.pass) (view_of c.split-other.new.pass) (view_of c.join-all.result.0) (view_of c.split-other.result) (view_of c.join-all.result.1) (view_of c.meet.new.pass)
    c.split-other.ensures.kept first.4 first.3 c.split-other.ensures.view second.2 second.4 c.meet.ensures.met

pub returns-clause-marks : goal.returns-clause-marks
returns-clause-marks g t c before =
    let first = c.join-all.ensures.first in
    let second = c.join-all.ensures.second in
    met_marks (view_of c.args.pass) (view_of c.split-other.new.pass) (view_of c.join-all.result.0) (view_of c.split-other.result) (view_of c.join-all.result.1) (view_of c.meet.new.pass)
    c.split-other.ensures.kept first.4 first.3 c.split-other.ensures.view second.2 second.4 c.meet.ensures.met first.5 second.5 before

pub join-all-requires-after_bounds : goal.join-all-requires-after_bounds
join-all-requires-after_bounds g t c κs within =
    let v : View = view_of c.args.pass in
    let task : TaskParts = c.args.team.now.task.now in
    let split : view_of c.split-other.new.pass ≡ split_view v = c.split-other.ensures.kept in
    let next : view_of c.split-other.result ≡ next_pass_view v = c.split-other.ensures.view in
    let of_first : AreFor task (view_of c.split-other.new.pass).choice c.args.first = subst (λ (w : View). AreFor task w.choice c.args.first) (sym split) c.requires.tools.0 in
    let split_off : AllAreFor task v.choice c.pop.new.self.items × AreFor task v.choice c.in-Some.tools =
    All-pop (AreFor task v.choice) c.args.others.items c.pop.new.self.items (Some c.in-Some.tools) c.in-Some.ensures.items c.requires.tools.1 in
    let of_rest : AllAreFor task (view_of c.split-other.new.pass).choice c.pop.new.self.items = subst (λ (w : View). AllAreFor task w.choice c.pop.new.self.items) (sym split) split_off.0 in
    let of_other : AreFor task (view_of c.split-other.result).choice c.in-Some.tools = subst (λ (w : View). AreFor task w.choice c.in-Some.tools) (sym next) split_off.1 in
    let more : IsToSplit task c.args.team.now.abstraction.now (vec_len c.pop.new.self) (view_of c.split-other.new.pass) = search rules in
    let idle : IsIdle task c.args.team.now.abstraction.now (view_of c.split-other.result) = next_idle task c.args.team.now.abstraction.now v (vec_len c.args.others) (view_of c.split-other.result) c.requires.to_split next in (
      (search rules, (λ a m. m, (λ a m. m, ((search rules, search rules, search rules, of_first, of_rest, more), (search rules, search rules))))),
      ((search rules, of_other, idle), (search rules, search rules)),
    )
