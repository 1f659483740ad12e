use Rattle.std.proofs.Common.{◌≡◌, true, [], length, sym, subst}
use Rattle.std.proofs.lemmas.List.{get_or_read}
use Rattle.pb_tables.specs.Tables.{TrapValue, trap_at}
use Rattle.pb_tables.specs.Estimate.{catches}
use Rattle.pb_tables.proofs.Searches.{found_any}
use Rattle.pb_tables.proofs.estimate.is_trapped.Goals as goal

pub returns-then-is_some : goal.returns-then-is_some
returns-then-is_some c =
    let number = c.loop-number.number in
    let trap : TrapValue = c.index-traps-number.result in
    let here : trap ≡ trap_at c.args.traps.now number = get_or_read c.args.traps.now number trap c.loop-number-test.true c.index-traps-number.is (record { tracked = 0; listed = [] }) in
    let caught : catches c.args.count c.args.state.now trap ≡ true = cc in
    sym (found_any (length c.args.traps.now) (λ n. catches c.args.count c.args.state.now (trap_at c.args.traps.now n)) number c.loop-number-test.true
    (subst (λ t. catches c.args.count c.args.state.now t ≡ true) here caught))
