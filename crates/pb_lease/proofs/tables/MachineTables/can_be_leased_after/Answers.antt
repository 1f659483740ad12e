use Rattle.std.proofs.Common.{◌≡◌, ◌<◌, ◌≤◌, ◌+◌, ◌-◌, ℕ, false, true, cond, not, ◌&&◌, ◌==◌, nat_lt, is_none, Option, Some, ◌∙◌, arith, ap, sym, refl, subst, get_or}
use Rattle.pb_model.proofs.Callers.{by_cases, equal, none_tested}
use Rattle.pb_machine.specs.declared.event.Grant.{Grant}
use Rattle.pb_machine.specs.Tables.{one_if}
use Rattle.pb_machine.specs.Blocks.{interferes}
use Rattle.pb_machine.specs.Counts.{quota_of}
use Rattle.pb_machine.specs.Counters.{busy_count}
use Rattle.pb_machine.specs.Choice.{counts_with_lease_home}
use Rattle.pb_machine.proofs.Callers.{item_is}
use Rattle.pb_lease.specs.Tables.{Table, blocks, counts_of, seat_of}
use Rattle.pb_lease.specs.Leasing.{can_be_leased}
use Rattle.pb_lease.proofs.LeaseKept.{quota_within}
use Rattle.pb_lease.proofs.ReleaseKept.{own_known, fewer_near}
use Rattle.pb_lease.proofs.FreeBlocks.{is_out, closed_after, own_after, other_after, walked_out}
use Rattle.pb_lease.specs.contracts.tables.MachineTables.{the_view}
use Rattle.pb_lease.proofs.tables.MachineTables.can_be_leased_after.Goals as goal

pub overflow_add-has_left : goal.overflow_add-has_left
overflow_add-has_left c =
    let t : Table = the_view c.self.inside in
    let worker : ℕ = c.args.worker in
    let block : ℕ = c.args.block in
    let own = c.grant_of-own.result in
    let has_it : (counts_of t).leases worker ≡ Some own = ap (λ (v : Table). (counts_of v).leases worker) c.self.view_is ∙ c.grant_of-own.ensures in
    let few : c.args.used ≤ own.quota = subst (λ (o : Option Grant). c.args.used ≤ quota_of o) c.grant_of-own.ensures c.requires.used in
    omega (arith, few, quota_within t c.self.inside.busy.items c.self.inside.marks.near.items c.self.inside.promised _ c.self.invariant worker own has_it)

pub returns-then-not-is_open : goal.returns-then-not-is_open
returns-then-not-is_open c =
    let t : Table = the_view c.self.inside in
    let worker : ℕ = c.args.worker in
    let block : ℕ = c.args.block in
    let own = c.grant_of-own.result in
    let has_it : (counts_of t).leases worker ≡ Some own = ap (λ (v : Table). (counts_of v).leases worker) c.self.view_is ∙ c.grant_of-own.ensures in
    let few : c.args.used ≤ own.quota = subst (λ (o : Option Grant). c.args.used ≤ quota_of o) c.grant_of-own.ensures c.requires.used in
    let near = c.self.inside.marks.near.items in
    let known : block < (blocks t).count = subst (λ (v : Table). block < (blocks v).count) (sym c.self.view_is) c.requires.block in
    let near_is : c.index.result.now ≡ get_or near block 0 = item_is near block c.index.result.now 0 (omega (arith, known, c.self.invariant.marks.near_places)) c.index.ensures in
    let end_is : c.is_none.result ≡ is_none t.end = none_tested c.is_none.result t.end c.is_none.ensures in
    let same : (c.is_none.result && nat_lt 0 (t.left + (own.quota - c.args.used)) && (c.index.result.now == 0)) ≡ (is_none t.end && nat_lt 0 (t.left + (own.quota - c.args.used)) && (get_or near block 0 == 0)) =
    ap (λ r. r && nat_lt 0 (t.left + (own.quota - c.args.used)) && (c.index.result.now == 0)) end_is ∙ ap (λ n. is_none t.end && nat_lt 0 (t.left + (own.quota - c.args.used)) && (n == 0)) near_is in
    let test = sym same ∙ c.if-not-is_open.true in
    sym (closed_after t c.self.inside.busy.items c.self.inside.marks.near.items c.self.inside.promised _ c.self.invariant worker c.args.used own has_it block known test) ∙ ap (λ (v : Table). can_be_leased (blocks v) v.settings (counts_with_lease_home (counts_of v) worker c.args.used) block) c.self.view_is

pub returns-then-block-own : goal.returns-then-block-own
returns-then-block-own c =
    let t : Table = the_view c.self.inside in
    let worker : ℕ = c.args.worker in
    let block : ℕ = c.args.block in
    let own = c.grant_of-own.result in
    let has_it : (counts_of t).leases worker ≡ Some own = ap (λ (v : Table). (counts_of v).leases worker) c.self.view_is ∙ c.grant_of-own.ensures in
    let few : c.args.used ≤ own.quota = subst (λ (o : Option Grant). c.args.used ≤ quota_of o) c.grant_of-own.ensures c.requires.used in
    let near = c.self.inside.marks.near.items in
    let known : block < (blocks t).count = subst (λ (v : Table). block < (blocks v).count) (sym c.self.view_is) c.requires.block in
    let near_is : c.index.result.now ≡ get_or near block 0 = item_is near block c.index.result.now 0 (omega (arith, known, c.self.invariant.marks.near_places)) c.index.ensures in
    let end_is : c.is_none.result ≡ is_none t.end = none_tested c.is_none.result t.end c.is_none.ensures in
    let same : (c.is_none.result && nat_lt 0 (t.left + (own.quota - c.args.used)) && (c.index.result.now == 0)) ≡ (is_none t.end && nat_lt 0 (t.left + (own.quota - c.args.used)) && (get_or near block 0 == 0)) =
    ap (λ r. r && nat_lt 0 (t.left + (own.quota - c.args.used)) && (c.index.result.now == 0)) end_is ∙ ap (λ n. is_none t.end && nat_lt 0 (t.left + (own.quota - c.args.used)) && (n == 0)) near_is in
    let test = sym same ∙ c.if-not-is_open.false in
    let known_own : own.block < (blocks t).count = subst (λ n. n < (blocks t).count) c.if-block-own.true known in
    let test_own = subst (λ n. (is_none t.end && nat_lt 0 (t.left + (own.quota - c.args.used)) && (get_or near n 0 == 0)) ≡ true) c.if-block-own.true test in
    sym (own_after t c.self.inside.busy.items c.self.inside.marks.near.items c.self.inside.promised _ c.self.invariant worker c.args.used own has_it known_own test_own)
    ∙ ap (λ n. can_be_leased (blocks t) t.settings (counts_with_lease_home (counts_of t) worker c.args.used) n) (sym c.if-block-own.true) ∙ ap (λ (v : Table). can_be_leased (blocks v) v.settings (counts_with_lease_home (counts_of v) worker c.args.used) block) c.self.view_is

pub is_clear_without-requires-clause-own : goal.is_clear_without-requires-clause-own
is_clear_without-requires-clause-own c =
    let t : Table = the_view c.self.inside in
    let worker : ℕ = c.args.worker in
    let own = c.grant_of-own.result in
    let has_it : (counts_of t).leases worker ≡ Some own = ap (λ (v : Table). (counts_of v).leases worker) c.self.view_is ∙ c.grant_of-own.ensures in
    let few : c.args.used ≤ own.quota = subst (λ (o : Option Grant). c.args.used ≤ quota_of o) c.grant_of-own.ensures c.requires.used in
    subst (λ (v : Table). own.block < (blocks v).count) c.self.view_is
    (own_known t c.self.inside.busy.items c.self.inside.marks.near.items c.self.inside.promised _ c.self.invariant worker c.args.used false own (seat_of t.seats worker) refl has_it few)

pub returns-then-is_clear_without : goal.returns-then-is_clear_without
returns-then-is_clear_without c =
    let t : Table = the_view c.self.inside in
    let worker : ℕ = c.args.worker in
    let block : ℕ = c.args.block in
    let own = c.grant_of-own.result in
    let has_it : (counts_of t).leases worker ≡ Some own = ap (λ (v : Table). (counts_of v).leases worker) c.self.view_is ∙ c.grant_of-own.ensures in
    let few : c.args.used ≤ own.quota = subst (λ (o : Option Grant). c.args.used ≤ quota_of o) c.grant_of-own.ensures c.requires.used in
    let near = c.self.inside.marks.near.items in
    let known : block < (blocks t).count = subst (λ (v : Table). block < (blocks v).count) (sym c.self.view_is) c.requires.block in
    let near_is : c.index.result.now ≡ get_or near block 0 = item_is near block c.index.result.now 0 (omega (arith, known, c.self.invariant.marks.near_places)) c.index.ensures in
    let end_is : c.is_none.result ≡ is_none t.end = none_tested c.is_none.result t.end c.is_none.ensures in
    let same : (c.is_none.result && nat_lt 0 (t.left + (own.quota - c.args.used)) && (c.index.result.now == 0)) ≡ (is_none t.end && nat_lt 0 (t.left + (own.quota - c.args.used)) && (get_or near block 0 == 0)) =
    ap (λ r. r && nat_lt 0 (t.left + (own.quota - c.args.used)) && (c.index.result.now == 0)) end_is ∙ ap (λ n. is_none t.end && nat_lt 0 (t.left + (own.quota - c.args.used)) && (n == 0)) near_is in
    let test = sym same ∙ c.if-not-is_open.false in
    let other : (block == own.block) ≡ false = by_cases (block == own.block) (λ e. absurd (c.if-block-own.false (equal block own.block e))) (λ e. e) in
    let less = fewer_near t c.self.inside.busy.items c.self.inside.marks.near.items c.self.inside.promised _ c.self.invariant worker c.args.used false own (seat_of t.seats worker) refl has_it few block in
    let n : ℕ = busy_count (blocks t) t.settings.workers (counts_of t).leases block - one_if (interferes (blocks t) own.block block) in
    let count : busy_count (blocks t) t.settings.workers (counts_with_lease_home (counts_of t) worker c.args.used).leases block ≡ n = omega (arith, less) in
    let after = other_after t c.self.inside.busy.items c.self.inside.marks.near.items c.self.inside.promised _ c.self.invariant worker c.args.used own has_it block n known other count in
    let clear : c.is_clear_without.result ≡ (n == 0) = c.is_clear_without.ensures
    ∙ ap (λ (v : Table). (busy_count (blocks v) v.settings.workers (counts_of v).leases block - one_if (interferes (blocks v) own.block block)) == 0) (sym c.self.view_is) in
    let out_is = c.is_leased.ensures ∙ walked_out t c.deref.result.now block c.deref.ensures.value c.self.invariant.seats in
    ap not out_is ∙ sym (after ∙ ap (λ r. cond r ((n == 0) && not (is_out t.settings.workers (counts_of t).leases block)) false) test
    ∙ ap (λ r. r && not (is_out t.settings.workers (counts_of t).leases block)) (sym clear ∙ c.if-is_clear_without.true))
    ∙ ap (λ (v : Table). can_be_leased (blocks v) v.settings (counts_with_lease_home (counts_of v) worker c.args.used) block) c.self.view_is

pub returns-else-is_clear_without : goal.returns-else-is_clear_without
returns-else-is_clear_without c =
    let t : Table = the_view c.self.inside in
    let worker : ℕ = c.args.worker in
    let block : ℕ = c.args.block in
    let own = c.grant_of-own.result in
    let has_it : (counts_of t).leases worker ≡ Some own = ap (λ (v : Table). (counts_of v).leases worker) c.self.view_is ∙ c.grant_of-own.ensures in
    let few : c.args.used ≤ own.quota = subst (λ (o : Option Grant). c.args.used ≤ quota_of o) c.grant_of-own.ensures c.requires.used in
    let near = c.self.inside.marks.near.items in
    let known : block < (blocks t).count = subst (λ (v : Table). block < (blocks v).count) (sym c.self.view_is) c.requires.block in
    let near_is : c.index.result.now ≡ get_or near block 0 = item_is near block c.index.result.now 0 (omega (arith, known, c.self.invariant.marks.near_places)) c.index.ensures in
    let end_is : c.is_none.result ≡ is_none t.end = none_tested c.is_none.result t.end c.is_none.ensures in
    let same : (c.is_none.result && nat_lt 0 (t.left + (own.quota - c.args.used)) && (c.index.result.now == 0)) ≡ (is_none t.end && nat_lt 0 (t.left + (own.quota - c.args.used)) && (get_or near block 0 == 0)) =
    ap (λ r. r && nat_lt 0 (t.left + (own.quota - c.args.used)) && (c.index.result.now == 0)) end_is ∙ ap (λ n. is_none t.end && nat_lt 0 (t.left + (own.quota - c.args.used)) && (n == 0)) near_is in
    let test = sym same ∙ c.if-not-is_open.false in
    let other : (block == own.block) ≡ false = by_cases (block == own.block) (λ e. absurd (c.if-block-own.false (equal block own.block e))) (λ e. e) in
    let less = fewer_near t c.self.inside.busy.items c.self.inside.marks.near.items c.self.inside.promised _ c.self.invariant worker c.args.used false own (seat_of t.seats worker) refl has_it few block in
    let n : ℕ = busy_count (blocks t) t.settings.workers (counts_of t).leases block - one_if (interferes (blocks t) own.block block) in
    let count : busy_count (blocks t) t.settings.workers (counts_with_lease_home (counts_of t) worker c.args.used).leases block ≡ n = omega (arith, less) in
    let after = other_after t c.self.inside.busy.items c.self.inside.marks.near.items c.self.inside.promised _ c.self.invariant worker c.args.used own has_it block n known other count in
    let clear : c.is_clear_without.result ≡ (n == 0) = c.is_clear_without.ensures
    ∙ ap (λ (v : Table). (busy_count (blocks v) v.settings.workers (counts_of v).leases block - one_if (interferes (blocks v) own.block block)) == 0) (sym c.self.view_is) in
    c.if-is_clear_without.false ∙ sym (after ∙ ap (λ r. cond r ((n == 0) && not (is_out t.settings.workers (counts_of t).leases block)) false) test
    ∙ ap (λ r. r && not (is_out t.settings.workers (counts_of t).leases block)) (sym clear ∙ c.if-is_clear_without.false))
    ∙ ap (λ (v : Table). can_be_leased (blocks v) v.settings (counts_with_lease_home (counts_of v) worker c.args.used) block) c.self.view_is
