use Rattle.std.proofs.Common.{Some, sym, ap, ◌∙◌, ◌∷◌}
use Rattle.atomic_table.specs.Table.{rest}
use Rattle.pb_turn.proofs.lock.TurnLock.take_state.Goals as goal

pub exchange-was-requires : goal.exchange-was-requires
exchange-was-requires g c = (c.requires.own, (Some c.requires.laid.0, c.requires.laid.1.1 ∙ ap (λ l. (0, Some c.requires.laid.0) ∷ l) (sym (ap rest c.requires.laid.1.1))))
