use Rattle.std.proofs.Common.{true, false, sym, ap, ◌∙◌, subst, arith}
use Rattle.pb_estimate.specs.Tables.{IsOfTask}
use Rattle.pb_yard.specs.declared.view.View.{View}
use Rattle.pb_yard.specs.Passes.{view_of}
use Rattle.pb_yard.specs.Calls.{IsReady}
use Rattle.pb_yard.proofs.Callers.{released_ready}
use Rattle.pb_workers.specs.declared.yard_watch.YardWatch.{YardWatch}
use Rattle.pb_workers.proofs.Callers.{at_work, of_search, watched, brought, work_active}
use Rattle.pb_test_search.proofs.watched.work_beside.Goals as goal
use Rattle.pb_test_search.proofs.watched.work_beside.Goals.{in-Spent, in-Empty, in-Memory}

pub work_watched-worked-requires-clause-at_work : goal.work_watched-worked-requires-clause-at_work
work_watched-worked-requires-clause-at_work g c =
    let w = c.args.watch.now in let t = c.args.task.now in let a = c.args.abstraction.now in let l = c.requires.leased in
    at_work t a (view_of w.pass) w.pass.is_live c.args.lease l

pub work_watched-worked-requires-clause-watched : goal.work_watched-worked-requires-clause-watched
work_watched-worked-requires-clause-watched g c =
    let w = c.args.watch.now in let t = c.args.task.now in let a = c.args.abstraction.now in let l = c.requires.leased in
    watched t a (view_of w.pass) w.pass.is_live c.args.lease l

pub work_watched-worked-requires-clause-search : goal.work_watched-worked-requires-clause-search
work_watched-worked-requires-clause-search g c =
    let w = c.args.watch.now in let t = c.args.task.now in let a = c.args.abstraction.now in let l = c.requires.leased in
    of_search t a (view_of w.pass) w.pass.is_live c.args.lease l

pub work_watched-worked-requires-clause-tables : goal.work_watched-worked-requires-clause-tables
work_watched-worked-requires-clause-tables g c =
    let v = view_of c.args.watch.now.pass in let l = c.requires.leased in let y = l.at.yard in
    let of_view = y.each l.at.seat v l.at.mine c.args.watch.now.pass.is_live in
    let same = of_view.search.choice ∙ sym (y.lent_is v.journal.own.worker c.args.lease (of_view.lent ∙ l.lent)).of_graph.choice in
    subst (IsOfTask c.args.tools.now.estimator c.args.task.now) same c.requires.tools

pub returns-clause-tools : goal.returns-clause-tools
returns-clause-tools g c =
    let v = view_of c.args.watch.now.pass in let l = c.requires.leased in let y = l.at.yard in
    let of_view = y.each l.at.seat v l.at.mine c.args.watch.now.pass.is_live in
    let same = of_view.search.choice ∙ sym (y.lent_is v.journal.own.worker c.args.lease (of_view.lent ∙ l.lent)).of_graph.choice in
    subst (IsOfTask c.work_watched-worked.new.estimator c.args.task.now) (sym same) c.work_watched-worked.ensures.tables

pub release-requires-clause-brought : goal.release-requires-clause-brought
release-requires-clause-brought g c =
    let w = c.args.watch.now in let t = c.args.task.now in let a = c.args.abstraction.now in let l = c.requires.leased in
    let e = c.work_watched-worked.ensures in
    let b = brought t a (view_of w.pass) w.pass.is_live c.args.lease l (view_of c.work_watched-worked.new.watch.pass) e.stays.lease c.work_watched-worked.new.lease e.same 0 c.in-Spent.ensures.watched e.scope in
    let few = b.work.few_broken in
    record {
      lent = b.lent;
      lent_is = b.lent_is;
      same = b.same;
      weights = b.weights;
      work = record {
        works = b.work.works;
        on = b.work.on;
        comes = b.work.comes;
        used_is = b.work.used_is;
        few_broken = omega (arith, few);
        stops = b.work.stops;
      };
      turns = b.turns;
      copy = b.copy;
      told = b.told;
    }

pub release-requires-in-Empty-clause-brought : goal.release-requires-in-Empty-clause-brought
release-requires-in-Empty-clause-brought g c =
    let w = c.args.watch.now in let t = c.args.task.now in let a = c.args.abstraction.now in let l = c.requires.leased in
    let e = c.work_watched-worked.ensures in
    brought t a (view_of w.pass) w.pass.is_live c.args.lease l (view_of c.work_watched-worked.new.watch.pass) e.stays.lease c.work_watched-worked.new.lease e.same 0 c.in-Empty.ensures.watched e.scope

pub release-requires-in-Memory-clause-brought : goal.release-requires-in-Memory-clause-brought
release-requires-in-Memory-clause-brought g c =
    let w = c.args.watch.now in let t = c.args.task.now in let a = c.args.abstraction.now in let l = c.requires.leased in
    let e = c.work_watched-worked.ensures in
    brought t a (view_of w.pass) w.pass.is_live c.args.lease l (view_of c.work_watched-worked.new.watch.pass) e.stays.lease c.work_watched-worked.new.lease e.same 1 c.in-Memory.ensures.watched e.scope

pub returns-clause-ready : goal.returns-clause-ready
returns-clause-ready g c =
    let w = c.args.watch.now in let t = c.args.task.now in let a = c.args.abstraction.now in let l = c.requires.leased in
    let e = c.work_watched-worked.ensures in
    let k = view_of c.work_watched-worked.new.watch.pass in
    let active = work_active t a (view_of w.pass) w.pass.is_live c.args.lease l k e.stays.lease c.work_watched-worked.new.lease e.same in
    let ready : IsReady (view_of c.match-worked.watch.pass) = elim c.match-worked.branch [
      | in-Spent b ↦ subst (λ (v : View). IsReady v) (sym (ap (λ (z : YardWatch). view_of z.pass) b.watch-is)) (released_ready _ true k (view_of b.release.new.pass) b.release.ensures.released active)
      | in-Empty b ↦ subst (λ (v : View). IsReady v) (sym (ap (λ (z : YardWatch). view_of z.pass) b.watch-is)) (released_ready _ false k (view_of b.release-in-Empty.new.pass) b.release-in-Empty.ensures.released active)
      | in-Memory b ↦ subst (λ (v : View). IsReady v) (sym (ap (λ (z : YardWatch). view_of z.pass) b.watch-is)) (released_ready _ true k (view_of b.release-in-Memory.new.pass) b.release-in-Memory.ensures.released active)
    ] in
    (ready, c.is_told_to_wait-waits.ensures.ready)
