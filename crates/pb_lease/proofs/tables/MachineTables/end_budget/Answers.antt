use Rattle.std.proofs.Common.{◌≡◌, false, None, ◌∙◌, arith, ap, subst, sym, refl}
use Rattle.pb_machine.specs.declared.event.End.TheVariants.{Budget}
use Rattle.pb_machine.specs.Counts.{is_any_out}
use Rattle.pb_machine.proofs.Callers.{ends_are_legal}
use Rattle.pb_lease.specs.Tables.{Table, blocks, counts_of}
use Rattle.pb_lease.proofs.EndKept.{ended_kept}
use Rattle.pb_lease.specs.contracts.tables.MachineTables.{the_view}
use Rattle.pb_lease.proofs.tables.MachineTables.end_budget.Goals as goal

pub invariant_of-self : goal.invariant_of-self
invariant_of-self c =
    let t : Table = the_view c.self.inside in
    let none : t.end ≡ None = ap (λ (v : Table). v.end) c.self.view_is ∙ c.requires.none in
    let home = subst (λ (v : Table). is_any_out v.settings.workers (counts_of v).leases ≡ false) (sym c.self.view_is) c.requires.home in
    let spent = ap (λ (v : Table). v.left) c.self.view_is ∙ c.requires.spent in
    ended_kept t c.self.inside.busy.items c.self.inside.marks.near.items c.self.inside.promised _ c.self.invariant Budget c.push_reserved.new.self.items _
    ((ends_are_legal (blocks t) t.settings (counts_of t) none).1 refl home spent) none c.push_reserved.ensures.items (omega arith)
