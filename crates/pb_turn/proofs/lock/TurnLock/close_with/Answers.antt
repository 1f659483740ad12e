use Rattle.std.proofs.Common.{◌≡◌, sym, ◌∙◌, subst}
use Rattle.pb_turn.specs.Obligations.{StandsAlone}
use Rattle.pb_turn.specs.Passes.{view, number}
use Rattle.pb_turn.proofs.PassLists.{Some_same}
use Rattle.pb_turn.proofs.Keeping.{closes}
use Rattle.pb_turn.proofs.lock.TurnLock.close_with.Goals as goal

pub unreachable-requires : goal.unreachable-requires
unreachable-requires g c =
    let k = closes _ _ _ _ _ _ c.requires.rests.0 c.requires.whole c.close_with-closed.ensures.values.2 _ _ c.take-state.ensures.value c.word-number.ensures in
    c.in_default.not-Some k.0 k.1

pub returns : goal.returns
returns g c =
    let k = closes _ _ _ _ _ _ c.requires.rests.0 c.requires.whole c.close_with-closed.ensures.values.2 _ _ c.take-state.ensures.value c.word-number.ensures in
    let same : k.0 ≡ c.in-Some.state = Some_same _ _ (sym k.1 ∙ c.in-Some.is) in
    record { rule = subst (λ x. StandsAlone g.R.TurnRule.fact (number c.args.pass) (view c.args.pass) g.R.TurnRule.spent x c.word-number.result) same k.2 }
