use Rattle.std.proofs.Common.{sym}
use Rattle.pb_lists.proofs.Filing.{top_placed}
use Rattle.pb_lists.proofs.bundle.Bundle.row.Goals as goal

pub returns-in-Some : goal.returns-in-Some
returns-in-Some c =
    let at = top_placed c.self.inside.rows.entries c.self.inside.opened.entries c.args.state.now c.in-Some.place c.self.invariant.placed (sym c.in-Some.ensures) in
    rw (← c.self.view_is) (c.row_at.ensures c.args.state.now at.0 at.1)
