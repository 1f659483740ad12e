use Rattle.std.proofs.Common.{◌≡◌, ◌<◌, ℕ, false, true, cond, not, ◌&&◌, ◌==◌, nat_lt, is_none, ◌∙◌, arith, ap, sym, refl, subst, get_or}
use Rattle.pb_model.proofs.Callers.{none_tested}
use Rattle.pb_machine.proofs.Callers.{item_is}
use Rattle.pb_lease.specs.Tables.{Table, blocks, counts_of}
use Rattle.pb_lease.specs.Leasing.{can_be_leased}
use Rattle.pb_lease.proofs.FreeBlocks.{is_out, in_two, parts_are, walked_out}
use Rattle.pb_lease.specs.contracts.tables.MachineTables.{the_view}
use Rattle.pb_lease.proofs.tables.MachineTables.can_be_leased.Goals as goal

pub returns-then-not-is_open-is_clear : goal.returns-then-not-is_open-is_clear
returns-then-not-is_open-is_clear c =
    let t : Table = the_view c.self.inside in
    let block : ℕ = c.args.block in
    let busy = c.self.inside.busy.items in
    let near = c.self.inside.marks.near.items in
    let known : block < (blocks t).count = subst (λ (v : Table). block < (blocks v).count) (sym c.self.view_is) c.requires in
    let near_is : c.index.result.now ≡ get_or near block 0 = item_is near block c.index.result.now 0 (omega (arith, known, c.self.invariant.marks.near_places)) c.index.ensures in
    let busy_is : c.index-2.result.now ≡ get_or busy block 0 = item_is busy block c.index-2.result.now 0 (omega (arith, known, c.self.invariant.busy_is.places)) c.index-2.ensures in
    let end_is : c.is_none.result ≡ is_none t.end = none_tested c.is_none.result t.end c.is_none.ensures in
    let test : ((is_none t.end && nat_lt 0 t.left) && ((get_or near block 0 == 0) && (get_or busy block 0 == 0))) ≡ false =
    sym (ap (λ r. (r && nat_lt 0 t.left) && ((c.index.result.now == 0) && (c.index-2.result.now == 0))) end_is ∙ ap (λ n. (is_none t.end && nat_lt 0 t.left) && ((n == 0) && (c.index-2.result.now == 0))) near_is
    ∙ ap (λ n. (is_none t.end && nat_lt 0 t.left) && ((get_or near block 0 == 0) && (n == 0))) busy_is) ∙ c.if-not-is_open-is_clear.true in
    let out = is_out t.settings.workers (counts_of t).leases block in
    sym (ap (λ (v : Table). can_be_leased (blocks v) v.settings (counts_of v) block) (sym c.self.view_is)
    ∙ parts_are t busy near c.self.inside.promised _ c.self.invariant block known (counts_of t) (get_or busy block 0) refl (sym (c.self.invariant.busy_is.counted block known))
    ∙ in_two (is_none t.end) (nat_lt 0 t.left) (get_or near block 0 == 0) (get_or busy block 0 == 0) out ∙ ap (λ r. cond r (not out) false) test)

pub returns : goal.returns
returns c =
    let t : Table = the_view c.self.inside in
    let block : ℕ = c.args.block in
    let busy = c.self.inside.busy.items in
    let near = c.self.inside.marks.near.items in
    let known : block < (blocks t).count = subst (λ (v : Table). block < (blocks v).count) (sym c.self.view_is) c.requires in
    let near_is : c.index.result.now ≡ get_or near block 0 = item_is near block c.index.result.now 0 (omega (arith, known, c.self.invariant.marks.near_places)) c.index.ensures in
    let busy_is : c.index-2.result.now ≡ get_or busy block 0 = item_is busy block c.index-2.result.now 0 (omega (arith, known, c.self.invariant.busy_is.places)) c.index-2.ensures in
    let end_is : c.is_none.result ≡ is_none t.end = none_tested c.is_none.result t.end c.is_none.ensures in
    let test : ((is_none t.end && nat_lt 0 t.left) && ((get_or near block 0 == 0) && (get_or busy block 0 == 0))) ≡ true =
    sym (ap (λ r. (r && nat_lt 0 t.left) && ((c.index.result.now == 0) && (c.index-2.result.now == 0))) end_is ∙ ap (λ n. (is_none t.end && nat_lt 0 t.left) && ((n == 0) && (c.index-2.result.now == 0))) near_is
    ∙ ap (λ n. (is_none t.end && nat_lt 0 t.left) && ((get_or near block 0 == 0) && (n == 0))) busy_is) ∙ c.if-not-is_open-is_clear.false in
    let out = is_out t.settings.workers (counts_of t).leases block in
    let out_is : c.is_leased.result ≡ out = c.is_leased.ensures ∙ walked_out t c.deref.result.now block c.deref.ensures.value c.self.invariant.seats
    in
    sym (ap (λ (v : Table). can_be_leased (blocks v) v.settings (counts_of v) block) (sym c.self.view_is)
    ∙ parts_are t busy near c.self.inside.promised _ c.self.invariant block known (counts_of t) (get_or busy block 0) refl (sym (c.self.invariant.busy_is.counted block known))
    ∙ in_two (is_none t.end) (nat_lt 0 t.left) (get_or near block 0 == 0) (get_or busy block 0 == 0) out ∙ ap (λ r. cond r (not out) false) test ∙ ap not (sym out_is))
