use Rattle.std.proofs.Common.{◌≡◌, ◌+◌, ◌∙◌, ℕ, List, [], Some, Option, length, sym, ap}
use Rattle.std.proofs.lemmas.List.{get_or_read}
use Rattle.pb_tables.specs.declared.fault.TablesFault.TheVariants.{Line}
use Rattle.pb_tables.specs.Tables.{TrapValue, trap_at}
use Rattle.pb_tables.specs.Suits.{line_of, order_fault}
use Rattle.pb_tables.proofs.Searches.{found_first}
use Rattle.pb_tables.proofs.order.traps_order_fault.Goals as goal

pub returns-in-Some : goal.returns-in-Some
returns-in-Some c =
    let count = c.args.count in
    let traps = c.args.traps.now in
    let number = c.loop-number.number in
    let trap : TrapValue = c.index-traps-number.result in
    let here : trap ≡ trap_at traps number = get_or_read traps number trap c.loop-number-test.true c.index-traps-number.is (record { tracked = 0; listed = [] }) in
    let line : order_fault count (trap_at traps number).tracked (trap_at traps number).listed ≡ Some c.in-Some.line =
    ap (λ (t : TrapValue). order_fault count t.tracked t.listed) (sym here)
    ∙ ap (λ (tracked : ℕ). order_fault count tracked trap.listed) (sym c.tracked.ensures)
    ∙ ap (λ (listed : List ℕ). order_fault count c.tracked.result.now listed) (sym c.listed.ensures)
    ∙ sym c.order_fault.ensures ∙ c.in-Some.is in
    sym (found_first (length traps) (λ n. line_of (c.args.before + n) (order_fault count (trap_at traps n).tracked (trap_at traps n).listed)) number (Line (c.args.before + number) c.in-Some.line)
    c.loop-number-test.true c.loop-number.invariant (ap (λ (o : Option ℕ). line_of (c.args.before + number) o) line))
