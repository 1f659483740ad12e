use Rattle.std.proofs.Common.{◌∙◌, sym, ap, arith, slice_index_or, refl}
use Rattle.std.proofs.lemmas.Option.{slice_get-get_or}
use Rattle.pb_mail.specs.declared.view.View.{View}
use Rattle.pb_owners.specs.declared.seat.Seat.{Seat}
use Rattle.pb_owners.specs.Rounds.{IsCleared}
use Rattle.pb_owners.proofs.Pairs.{pairs_all}
use Rattle.pb_owners.proofs.Loops.{keeps_more, cleared_more}
use Rattle.pb_owners.proofs.clearing.clear.Goals as goal

pub loop-at-preserved : goal.loop-at-preserved
loop-at-preserved g c =
    let seats = c.loop-at.seats in
    let at = c.loop-at.at in
    let x : Seat = slice_index_or seats at c.index-seats-at.result in
    let is = slice_get-get_or seats at c.index-seats-at.result (let t = c.loop-at-test.true in let a = c.loop-at.auto.seats in omega arith) in
    let e = c.in-Ok.ensures in
    let tools = c.requires.tools.at at x (sym (c.loop-at.invariant.pairs.left at (omega arith)) ∙ is) in
    record {
      own = e.own;
      keeps = keeps_more at c.args.pass.now c.loop-at.pass c.take_left.new.pass c.loop-at.invariant.keeps e.kept;
      untouched = λ q past. ap (λ (v : View). v.taken) (e.kept.others q (λ e. omega arith)) ∙ c.loop-at.invariant.untouched q (omega arith);
      pairs = cleared_more at c.args.pass.now c.loop-at.pass c.take_left.new.pass c.loop-at.invariant.keeps e.kept c.args.plan.now c.args.seats.now seats x _ c.loop-at.invariant.pairs is
          (c.loop-at.invariant.untouched at (omega arith)) e.taken.0 e.taken.1 e.taken.2 e.whole refl
          (record { tables = e.tables; room = tools.room; of_weight = e.taken.2.weight_is ∙ tools.of_weight });
    }

pub returns-clause-cleared : goal.returns-clause-cleared
returns-clause-cleared g c = pairs_all (IsCleared c.args.plan.now c.args.pass.now c.loop-at.pass) c.args.seats.now c.loop-at.seats c.loop-at.at (let t = c.loop-at-test.false in let a = c.loop-at.auto.seats in omega arith) c.loop-at.invariant.pairs
