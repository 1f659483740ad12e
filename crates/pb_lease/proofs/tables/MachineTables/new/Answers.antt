use Rattle.std.proofs.Common.{◌≡◌, ◌∙◌, ap, subst, arith, ℕ, Bool, false, replicate}
use Rattle.pb_abstract.specs.Graph.{AbstractGraph, blocks_of, IsGraph}
use Rattle.pb_lease.proofs.Opening.{opening_is, opening_kept}
use Rattle.pb_lease.proofs.tables.MachineTables.new.Goals as goal

pub invariant_of-result : goal.invariant_of-result
invariant_of-result c =
    let abstraction : AbstractGraph = c.args.abstraction.value in
    let lawful : IsGraph abstraction = subst IsGraph c.deref.ensures c.count-blocks.ensures.lawful in
    let count : c.count-blocks.result ≡ (blocks_of abstraction).count = c.count-blocks.ensures.count ∙ ap (λ (g : AbstractGraph). (blocks_of g).count) c.deref.ensures in
    let seats = c.in_ok-vec.ensures.items_if_clones_equal (λ y e. e) in
    let hot = c.in_ok-vec-2.ensures.items_if_clones_equal (λ y e. e) ∙ ap (λ n. replicate {A = Bool} n false) count in
    let near = c.in_ok-vec-3.ensures.items_if_clones_equal (λ y e. e) ∙ ap (λ n. replicate {A = ℕ} n 0) count in
    let busy = c.in_ok-vec-4.ensures.items_if_clones_equal (λ y e. e) ∙ ap (λ n. replicate {A = ℕ} n 0) count in
    opening_kept abstraction c.args.settings c.in_ok-vec.field-0.items c.in_ok-vec-2.field-0.items c.in_ok-vec-4.field-0.items c.in_ok-vec-3.field-0.items c.in_ok-with_capacity.field-0.items
    c.requires lawful seats hot busy near c.in_ok-with_capacity.ensures.items _ (omega (arith, c.in_ok-with_capacity.ensures.capacity, c.in_ok-with_capacity.ensures.len))

pub returns-clause-counts : goal.returns-clause-counts
returns-clause-counts c =
    let abstraction : AbstractGraph = c.args.abstraction.value in
    let lawful : IsGraph abstraction = subst IsGraph c.deref.ensures c.count-blocks.ensures.lawful in
    let count : c.count-blocks.result ≡ (blocks_of abstraction).count = c.count-blocks.ensures.count ∙ ap (λ (g : AbstractGraph). (blocks_of g).count) c.deref.ensures in
    let seats = c.in_ok-vec.ensures.items_if_clones_equal (λ y e. e) in
    let hot = c.in_ok-vec-2.ensures.items_if_clones_equal (λ y e. e) ∙ ap (λ n. replicate {A = Bool} n false) count in
    let near = c.in_ok-vec-3.ensures.items_if_clones_equal (λ y e. e) ∙ ap (λ n. replicate {A = ℕ} n 0) count in
    let busy = c.in_ok-vec-4.ensures.items_if_clones_equal (λ y e. e) ∙ ap (λ n. replicate {A = ℕ} n 0) count in
    opening_is abstraction c.args.settings c.in_ok-vec.field-0.items c.in_ok-vec-2.field-0.items c.in_ok-vec-4.field-0.items c.in_ok-vec-3.field-0.items c.in_ok-with_capacity.field-0.items
    c.requires lawful seats hot busy near c.in_ok-with_capacity.ensures.items
