use Rattle.std.proofs.Common.{◌≡◌, ◌+◌, ◌∙◌, ℕ, [], Some, Option, length, sym, ap}
use Rattle.std.proofs.lemmas.List.{get_or_read}
use Rattle.pb_tables.specs.declared.fault.TablesFault.TheVariants.{Line}
use Rattle.pb_tables.specs.Tables.{TrapValue, trap_at}
use Rattle.pb_tables.specs.Suits.{line_of, trap_fault}
use Rattle.pb_tables.proofs.Searches.{found_first}
use Rattle.pb_tables.proofs.closed.traps_step_fault.Goals as goal

pub returns-in-Some : goal.returns-in-Some
returns-in-Some c =
    let strips = c.args.strips.now in
    let traps = c.args.traps.now in
    let number = c.loop-number.number in
    let trap : TrapValue = c.index-traps-number.result in
    let here : trap ≡ trap_at traps number = get_or_read traps number trap c.loop-number-test.true c.index-traps-number.is (record { tracked = 0; listed = [] }) in
    let line : trap_fault strips (trap_at traps number) ≡ Some c.in-Some.line =
    ap (λ (t : TrapValue). trap_fault strips t) (sym here) ∙ sym c.trap_fault.ensures ∙ c.in-Some.is in
    sym (found_first (length traps) (λ n. line_of (c.args.before + n) (trap_fault strips (trap_at traps n))) number (Line (c.args.before + number) c.in-Some.line)
    c.loop-number-test.true c.loop-number.invariant (ap (λ (o : Option ℕ). line_of (c.args.before + number) o) line))
