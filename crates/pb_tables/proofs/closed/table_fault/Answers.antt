use Rattle.std.proofs.Common.{◌≡◌, ◌+◌, ◌<◌, ◌≤◌, ◌||◌, ◌∙◌, ℕ, List, suc, Some, length, slice_index, sym, ap, subst, arith}
use Rattle.pb_tables.specs.Images.{is_open}
use Rattle.pb_tables.specs.Tables.{TableValue}
use Rattle.pb_tables.specs.Looking.{IsFirst}
use Rattle.pb_tables.specs.Suits.{is_dear_goal}
use Rattle.pb_tables.proofs.Firsts.{either_first, line_found, no_line}
use Rattle.pb_tables.proofs.closed.table_fault.Goals as goal
use Rattle.pb_tables.proofs.closed.table_fault.Goals.{After-listed-2}

-- the place in hand is the first with a fault
first : (c : After-listed-2) → IsFirst (length c.args.table.now.listed) (λ place. is_dear_goal c.args.strips.now c.args.sums c.args.table.now place
    || is_open c.args.strips.now c.args.table.now.tracked c.args.table.now.listed (slice_index c.args.table.now.listed place)) c.first_open-place.result
first c =
    let strips = c.args.strips.now in
    let list : TableValue = c.args.table.now in
    let same = λ (tracked : ℕ) (listed : List ℕ). IsFirst c.first_dear_goal-goal.result (λ place. is_open strips tracked listed (slice_index listed place)) c.first_open-place.result in
    let open_at : same list.tracked list.listed =
    subst (λ (listed : List ℕ). same list.tracked listed) c.listed.ensures (subst (λ (tracked : ℕ). same tracked c.listed.result.now) c.tracked.ensures c.first_open-place.ensures) in
    either_first (length list.listed) (is_dear_goal strips c.args.sums list) (λ place. is_open strips list.tracked list.listed (slice_index list.listed place)) c.first_dear_goal-goal.result c.first_open-place.result
    c.first_dear_goal-goal.ensures open_at

pub returns-then-place-len : goal.returns-then-place-len
returns-then-place-len c =
    let here : After-listed-2 = (goal.at.returns-then-place-len c).After-listed-2 in
    let size : c.len.result ≡ length c.args.table.now.listed = c.len.ensures ∙ ap length c.listed-2.ensures in
    let inside : c.first_open-place.result < length c.args.table.now.listed = omega (arith, size, c.if-place-len.true) in
    let next : c.first_open-place.result + 1 ≡ suc c.first_open-place.result = omega arith in
    ap (λ (n : ℕ). Some n) next ∙ sym (line_found (length c.args.table.now.listed) _ c.first_open-place.result (first here) inside)

pub returns-else-place-len : goal.returns-else-place-len
returns-else-place-len c =
    let here : After-listed-2 = (goal.at.returns-else-place-len c).After-listed-2 in
    let size : c.len.result ≡ length c.args.table.now.listed = c.len.ensures ∙ ap length c.listed-2.ensures in
    let past : length c.args.table.now.listed ≤ c.first_open-place.result = omega (arith, size, c.if-place-len.false) in
    sym (no_line (length c.args.table.now.listed) _ c.first_open-place.result (first here) past)
