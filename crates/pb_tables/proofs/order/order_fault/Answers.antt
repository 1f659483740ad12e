use Rattle.std.proofs.Common.{◌≡◌, ◌+◌, ◌<◌, ◌∙◌, ℕ, suc, not, true, Bool, Some, length, if◌then◌else◌, sym, ap, arith}
use Rattle.std.proofs.lemmas.Bool.{not_from_false}
use Rattle.pb_task.specs.Strips.{is_atom_set}
use Rattle.pb_tables.specs.Below.{first_below, some_if}
use Rattle.pb_tables.specs.Suits.{is_ordered}
use Rattle.pb_tables.proofs.Searches.{found_first, is_if}
use Rattle.pb_tables.proofs.order.order_fault.Goals as goal

pub returns-then-not-is_ordered : goal.returns-then-not-is_ordered
returns-then-not-is_ordered c =
    let count = c.args.count in
    let tracked = c.args.tracked.now in
    let listed = c.args.listed.now in
    let place = c.loop-place.place in
    let find = λ (p : ℕ). some_if (not (is_ordered count tracked listed p)) (suc p) in
    let wrong : not (is_ordered count tracked listed place) ≡ true = not_from_false (is_ordered count tracked listed place) (sym c.is_ordered.ensures ∙ c.if-not-is_ordered.true) in
    let set : is_atom_set count tracked ≡ true = sym c.is_atom_set.ensures ∙ c.if-not-is_atom_set.false in
    let next : place + 1 ≡ suc place = omega arith in
    let inside : place < length listed = omega (arith, c.loop-place-test.true, c.len-place-end.ensures) in
    ap (λ (n : ℕ). Some n) next
    ∙ sym (ap (λ (b : Bool). if b then first_below (length listed) find else Some 0) set
    ∙ found_first (length listed) find place (suc place) inside c.loop-place.invariant (is_if (not (is_ordered count tracked listed place)) (suc place) wrong))
