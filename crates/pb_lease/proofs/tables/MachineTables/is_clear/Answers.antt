use Rattle.std.proofs.Common.{◌≡◌, ◌<◌, ℕ, false, true, cond, not, ◌&&◌, ◌==◌, ◌∙◌, arith, ap, sym, subst, get_or}
use Rattle.pb_machine.proofs.Callers.{item_is}
use Rattle.pb_lease.specs.Tables.{Table, blocks, counts_of}
use Rattle.pb_lease.specs.Leasing.{is_clear}
use Rattle.pb_lease.proofs.FreeBlocks.{is_out, clear_is, walked_out}
use Rattle.pb_lease.specs.contracts.tables.MachineTables.{the_view}
use Rattle.pb_lease.proofs.tables.MachineTables.is_clear.Goals as goal

pub returns-else-is_idle : goal.returns-else-is_idle
returns-else-is_idle c =
    let t : Table = the_view c.self.inside in
    let block : ℕ = c.args.block in
    let busy = c.self.inside.busy.items in
    let near = c.self.inside.marks.near.items in
    let known : block < (blocks t).count = subst (λ (v : Table). block < (blocks v).count) (sym c.self.view_is) c.requires in
    let near_is : c.index.result.now ≡ get_or near block 0 = item_is near block c.index.result.now 0 (omega (arith, known, c.self.invariant.marks.near_places)) c.index.ensures in
    let busy_is : c.index-2.result.now ≡ get_or busy block 0 = item_is busy block c.index-2.result.now 0 (omega (arith, known, c.self.invariant.busy_is.places)) c.index-2.ensures in
    let same : ((get_or near block 0 == 0) && (get_or busy block 0 == 0)) ≡ ((c.index.result.now == 0) && (c.index-2.result.now == 0)) =
    sym (ap (λ n. (n == 0) && (c.index-2.result.now == 0)) near_is ∙ ap (λ n. (get_or near block 0 == 0) && (n == 0)) busy_is) in
    c.if-is_idle.false ∙ sym (ap (λ (v : Table). is_clear (blocks v) v.settings.workers (counts_of v) block) (sym c.self.view_is)
    ∙ clear_is t busy near c.self.inside.promised _ c.self.invariant block known (get_or busy block 0) (sym (c.self.invariant.busy_is.counted block known))
    ∙ ap (λ r. cond r (not (is_out t.settings.workers (counts_of t).leases block)) false) (same ∙ c.if-is_idle.false))

pub returns-then-is_idle : goal.returns-then-is_idle
returns-then-is_idle c =
    let t : Table = the_view c.self.inside in
    let block : ℕ = c.args.block in
    let busy = c.self.inside.busy.items in
    let near = c.self.inside.marks.near.items in
    let known : block < (blocks t).count = subst (λ (v : Table). block < (blocks v).count) (sym c.self.view_is) c.requires in
    let near_is : c.index.result.now ≡ get_or near block 0 = item_is near block c.index.result.now 0 (omega (arith, known, c.self.invariant.marks.near_places)) c.index.ensures in
    let busy_is : c.index-2.result.now ≡ get_or busy block 0 = item_is busy block c.index-2.result.now 0 (omega (arith, known, c.self.invariant.busy_is.places)) c.index-2.ensures in
    let same : ((get_or near block 0 == 0) && (get_or busy block 0 == 0)) ≡ ((c.index.result.now == 0) && (c.index-2.result.now == 0)) =
    sym (ap (λ n. (n == 0) && (c.index-2.result.now == 0)) near_is ∙ ap (λ n. (get_or near block 0 == 0) && (n == 0)) busy_is) in
    let out_is : c.is_leased.result ≡ is_out t.settings.workers (counts_of t).leases block = c.is_leased.ensures ∙ walked_out t c.deref.result.now block c.deref.ensures.value c.self.invariant.seats in
    ap not out_is ∙ sym (ap (λ (v : Table). is_clear (blocks v) v.settings.workers (counts_of v) block) (sym c.self.view_is)
    ∙ clear_is t busy near c.self.inside.promised _ c.self.invariant block known (get_or busy block 0) (sym (c.self.invariant.busy_is.counted block known))
    ∙ ap (λ r. cond r (not (is_out t.settings.workers (counts_of t).leases block)) false) (same ∙ c.if-is_idle.true))
