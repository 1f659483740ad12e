use Rattle.std.proofs.Common.{◌≡◌, ◌+◌, ◌∙◌, ap, subst, sym, arith, rules, false, length, replicate, vec_len}
use Rattle.pb_machine.specs.Settings.{settings_with}
use Rattle.pb_machine.specs.Counts.{opening_counts, is_any_out}
use Rattle.pb_lease.specs.Tables.{Table, vacant, counts_of}
use Rattle.pb_lease.proofs.TableReopened.{again_counts, again_kept}
use Rattle.pb_lease.specs.contracts.tables.MachineTables.{the_view}
use Rattle.pb_lease.proofs.tables.MachineTables.reopen.Goals as goal

pub invariant_of-self-2 : goal.invariant_of-self-2
invariant_of-self-2 c =
    let t : Table = the_view c.self.inside in
    let home = subst (λ (v : Table). is_any_out v.settings.workers (counts_of v).leases ≡ false) (sym c.self.view_is) c.requires.home in
    let many : vec_len c.self.inside.seats ≡ length c.self.inside.seats.items = search rules in
    let seats = c.fill.ensures.items (λ y e. e) ∙ ap (λ n. replicate n vacant) many in
    again_kept t c.self.inside.busy.items c.self.inside.marks.near.items c.self.inside.promised _ c.self.invariant home (record { num = c.args.num; den = c.args.den }) c.requires.weight c.fill.new.self.items seats c.clear.new.self.items c.clear.ensures.items
    (c.len-promised.result + 1) _ (omega (arith, c.len-promised.ensures, many)) (omega (arith, c.clear.ensures.capacity, c.clear.ensures.len, c.in_ok-make_room.ensures.room))

pub returns-clause-counts : goal.returns-clause-counts
returns-clause-counts c =
    let t : Table = the_view c.self.inside in
    let home = subst (λ (v : Table). is_any_out v.settings.workers (counts_of v).leases ≡ false) (sym c.self.view_is) c.requires.home in
    let many : vec_len c.self.inside.seats ≡ length c.self.inside.seats.items = search rules in
    let seats = c.fill.ensures.items (λ y e. e) ∙ ap (λ n. replicate n vacant) many in
    again_counts t c.self.inside.busy.items c.self.inside.marks.near.items c.self.inside.promised _ c.self.invariant home (record { num = c.args.num; den = c.args.den }) c.requires.weight c.fill.new.self.items seats c.clear.new.self.items c.clear.ensures.items
    ∙ ap (λ n. opening_counts (settings_with t.settings (record { num = c.args.num; den = c.args.den }) t.settings.pattern) n) (ap (λ (v : Table). v.spent) c.self.view_is)
