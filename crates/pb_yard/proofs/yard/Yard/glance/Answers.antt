use Rattle.std.proofs.Common.{sym, ◌∙◌, subst}
use Rattle.pb_turn.specs.Passes.{view, number}
use Rattle.pb_model.specs.Store.{AtMost}
use Rattle.pb_yard.specs.Views.{cost_of}
use Rattle.pb_yard.proofs.Meaning.{shared_is_plan}
use Rattle.pb_yard.proofs.Reading.{read_falls}
use Rattle.pb_yard.proofs.Wording.{load_keeps}
use Rattle.pb_yard.proofs.yard.Yard.glance.Goals as goal

pub word-requires-clause-rule : goal.word-requires-clause-rule
word-requires-clause-rule c = let p = c.args.pass.now in load_keeps _ _ _ p.is_live

pub returns-clause-falls : goal.returns-clause-falls
returns-clause-falls c =
    let p = c.args.pass.now in
    let r = c.word.ensures.rule in
    subst (λ o. AtMost o (view p.turn).last) (sym c.cost-incumbent.ensures)
    (read_falls r.0 c.word.result r.1.0 (number p.turn) (view p.turn) r.1.1 r.1.2 p.is_live).1

pub returns-clause-shared : goal.returns-clause-shared
returns-clause-shared c =
    let p = c.args.pass.now in
    let r = c.word.ensures.rule in (
      r.0,
      record { shared = cost_of c.word.result; seat = number p.turn; views = r.1.0; yard = r.1.1; mine = r.1.2 },
      sym c.cost-incumbent.ensures,
    )

pub returns-clause-plan : goal.returns-clause-plan
returns-clause-plan c =
    let p = c.args.pass.now in
    let r = c.word.ensures.rule in
    λ cost is. shared_is_plan r.0 (cost_of c.word.result) r.1.0 r.1.1 (number p.turn) (view p.turn) r.1.2 p.is_live cost (sym c.cost-incumbent.ensures ∙ is)
